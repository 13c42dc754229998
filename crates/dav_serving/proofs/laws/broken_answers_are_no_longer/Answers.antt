use Rattle.dav_serving.proofs.BrokenGiveLess.{broken_below, bodiless_never}
use Rattle.dav_serving.proofs.laws.broken_answers_are_no_longer.Goals as goal

pub returns : goal.returns
returns c = record {
  shorter = λ a b x value r. broken_below a b x r value;
  never = λ a b x r. bodiless_never a b x r;
}
