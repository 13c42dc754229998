use Rattle.dav_wire.proofs.Lines.{lines_framed}
use Rattle.dav_wire.proofs.answers.write_framed.Goals as goal

pub returns : goal.returns
returns c =
    lines_framed c.args.framing c.args.fields.now _ _ _ _ _ _ _ c.in-Chunked.is c.place.ensures.value c.split_at.ensures.front c.split_at.ensures.back
    c.in_ok-write_fields.ensures c.in_ok-extend_from_slice.ensures.items c.in_ok-write_fields-2.ensures
