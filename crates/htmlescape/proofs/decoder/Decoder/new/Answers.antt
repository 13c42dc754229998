use Rattle.htmlescape.proofs.Moves.{begun}
use Rattle.htmlescape.proofs.decoder.Decoder.new.Goals as goal

pub returns-clause-running : goal.returns-clause-running
returns-clause-running c = begun
