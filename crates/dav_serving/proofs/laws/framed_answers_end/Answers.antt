use Rattle.dav_serving.proofs.BodiesAreDelimited.{tells_end}
use Rattle.dav_serving.proofs.PiecesAreSome.{is_alone}
use Rattle.dav_serving.proofs.laws.framed_answers_end.Goals as goal

pub returns : goal.returns
returns c = record { tells = tells_end; alone = λ a b x r. is_alone a b x r }
