use Rattle.htmlescape.proofs.Escaping.{written_utf8}
use Rattle.htmlescape.proofs.encode.encode.Goals as goal

pub into_text-requires : goal.into_text-requires
into_text-requires c = let e = c.in-Ok.ensures.told in written_utf8 c.args.alphabet c.args.s.now _ _ c.utf8.s c.new-text.ensures.empty e
