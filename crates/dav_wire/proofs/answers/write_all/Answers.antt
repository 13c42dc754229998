use Rattle.std.proofs.Common.{◌∙◌, sym}
use Rattle.dav_wire.proofs.Lines.{lines_closing}
use Rattle.dav_wire.proofs.answers.write_all.Goals as goal

pub returns : goal.returns
returns c =
    lines_closing c.args.closing c.args.framing c.args.fields.now _ _ _ _ _ _ _ c.if-not-closing.false (sym c.says_close.ensures ∙ c.if-says_close.false) c.place.ensures.value c.split_at.ensures.front c.split_at.ensures.back
    c.in_ok-write_fields.ensures c.in_ok-extend_from_slice.ensures.items c.in_ok-write_framed.ensures
