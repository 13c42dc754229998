use Rattle.std.proofs.Common.{refl, arith}
use Rattle.std.proofs.lemmas.Grind.{common_steps}
use Rattle.dav_selection.specs.Pieces.{count_of}
use Rattle.dav_selection.proofs.reading.read_piece.Goals as goal

pub returns-in-Err-clause-asks : goal.returns-in-Err-clause-asks
returns-in-Err-clause-asks g c = (
  count_of c.file_read.result,
  record { buffer = c.file_read.new.into; got = c.file_read.result; reads = c.file_read.ensures; most_is = grind (arith, common_steps); gave = refl },
  tt,
)
