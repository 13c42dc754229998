use Rattle.std.proofs.Common.{◌≡◌, length}
use Rattle.dav_memory.specs.Entries.{purged, is_old_path}
use Rattle.dav_cache.proofs.cache.Cache.purge.Given as goal

abbrev pub invariant-loop-now : goal.invariant-loop-now
invariant-loop-now l = record {
  purges : purged (is_old_path l.now) l.initial.self.entries ≡ purged (is_old_path l.now) l.self.entries;
  size : l.self.size ≡ l.initial.self.size;
}

abbrev pub decreases-loop-now : goal.decreases-loop-now
decreases-loop-now l = length l.self.entries
