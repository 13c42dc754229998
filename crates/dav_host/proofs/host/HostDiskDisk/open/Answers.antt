use Rattle.std.proofs.Common.{rules, refl}
use Rattle.dav_host.proofs.host.HostDiskDisk.open.Goals as goal

pub returns-in-Ok-keep-clause-done : goal.returns-in-Ok-keep-clause-done
returns-in-Ok-keep-clause-done g c = record {
  asks = record { counted = search rules; listers = refl };
  only = tt;
  live = (
    _,
    c.in-Some.ensures.free,
    c.in-Ok-keep.ensures.ok,
  );
  told = tt;
}
