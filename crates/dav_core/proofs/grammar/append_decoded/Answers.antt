use Rattle.std.proofs.Common.{◌++◌, sym, ap, ◌∙◌}
use Rattle.dav_core.proofs.Undecoded.{undecoded}
use Rattle.dav_core.proofs.grammar.append_decoded.Goals as goal

pub returns-in_ok-extend_from_slice : goal.returns-in_ok-extend_from_slice
returns-in_ok-extend_from_slice c =
    c.in_ok-extend_from_slice.ensures.items ∙ ap (λ said. c.args.bytes.now.items ++ said) (sym (undecoded c.args.segment.now (sym c.if-contains.ensures.value)))
