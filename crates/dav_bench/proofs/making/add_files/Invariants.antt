use Rattle.std.proofs.Common.{◌≡◌}
use Rattle.dav_disk.specs.Sure.{listings_of, sure_world}
use Rattle.dav_bench.specs.Making.{IsSoFar}
use Rattle.dav_bench.proofs.making.add_files.Given as goal

abbrev pub invariant-loop-j : goal.invariant-loop-j
invariant-loop-j l = record {
  made : IsSoFar 8 l.m l.i l.j (sure_world l.disk);
  listings : listings_of l.disk ≡ listings_of l.initial.disk;
}
