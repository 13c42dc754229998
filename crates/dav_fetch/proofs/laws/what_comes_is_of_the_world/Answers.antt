use Rattle.dav_io.specs.Counts.{Rose}
use Rattle.dav_fetch.proofs.Stepping.{step}
use Rattle.dav_fetch.proofs.laws.what_comes_is_of_the_world.Goals as goal

pub returns : goal.returns
returns c = λ w names old good before after. step w names old good (Rose before after)
