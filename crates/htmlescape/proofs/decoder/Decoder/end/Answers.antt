use Rattle.std.proofs.Common.{refl}
use Rattle.htmlescape.proofs.Moves.{ends_early}
use Rattle.htmlescape.proofs.decoder.Decoder.end.Goals as goal

pub returns-in_default : goal.returns-in_default
returns-in_default c = λ text value r. (refl, ends_early c.args.self.now text value r c.in_default.not-Text)
