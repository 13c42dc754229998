use Rattle.std.proofs.Common.{◌≡◌}
use Rattle.dav_disk.specs.Sure.{listings_of, sure_world}
use Rattle.dav_bench.specs.Making.{IsSoFar}
use Rattle.dav_bench.proofs.making.make_disk.Given as goal

abbrev pub invariant-loop-i : goal.invariant-loop-i
invariant-loop-i l = record {
  made : IsSoFar 8 l.m l.i 0 (sure_world l.disk);
  listings : listings_of l.disk ≡ 0;
}
