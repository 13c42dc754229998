use Rattle.std.proofs.Common.{◌≡◌, arith, subst}
use Rattle.dav_disk.specs.Sure.{sure_world}
use Rattle.dav_bench.specs.Making.{IsSoFar}
use Rattle.dav_bench.proofs.Made.{all_is_made, new_made}
use Rattle.dav_bench.proofs.making.make_disk.Goals as goal

pub add_dirs-requires : goal.add_dirs-requires
add_dirs-requires c = new_made c.args.m c.in_ok-disk.disk c.in_ok-disk.ensures.made

pub returns-clause-made : goal.returns-clause-made
returns-clause-made c =
    let all : c.loop-i.i ≡ 8 = omega arith in
    all_is_made c.args.m (sure_world c.loop-i.disk) c.requires (subst (λ i. IsSoFar 8 c.args.m i 0 (sure_world c.loop-i.disk)) all c.loop-i.invariant.made)
