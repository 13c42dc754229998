use Rattle.std.proofs.Common.{◌≡◌}
use Rattle.dav_disk.specs.Sure.{listings_of, sure_world}
use Rattle.dav_bench.specs.Making.{IsSoFar}
use Rattle.dav_bench.proofs.making.add_dirs.Given as goal

abbrev pub invariant-loop-i : goal.invariant-loop-i
invariant-loop-i l = record {
  made : IsSoFar l.i l.m 0 0 (sure_world l.disk);
  listings : listings_of l.disk ≡ listings_of l.initial.disk;
}
