use Rattle.dav_serving.specs.Exchange.{Exchange}
use Rattle.dav_serving.proofs.ExchangesAreGiven.{announced_length, announced_none}
use Rattle.dav_serving.proofs.BodiesAreDelimited.{announced_wire, counted_bytes}
use Rattle.dav_serving.proofs.laws.answers_have_the_announced_length.Goals as goal

pub returns : goal.returns
returns c = record {
  length = λ a b x value r. announced_length a b x r value;
  none = λ a b x r. announced_none a b x r;
  written = announced_wire;
  counted = λ (x : Exchange). counted_bytes x.pieces;
}
