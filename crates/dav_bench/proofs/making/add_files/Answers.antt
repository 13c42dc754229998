use Rattle.std.proofs.Common.{◌≡◌, arith, subst}
use Rattle.dav_disk.specs.Sure.{sure_world}
use Rattle.dav_bench.specs.Making.{IsSoFar}
use Rattle.dav_bench.proofs.Made.{dir_is_done}
use Rattle.dav_bench.proofs.making.add_files.Goals as goal

pub returns-clause-made : goal.returns-clause-made
returns-clause-made c =
    let all : c.loop-j.j ≡ c.args.m = omega arith in
    dir_is_done c.args.m c.args.i (sure_world c.loop-j.disk) (subst (λ j. IsSoFar 8 c.args.m c.args.i j (sure_world c.loop-j.disk)) all c.loop-j.invariant.made)
