use Rattle.std.proofs.Common.{◌≡◌, length}
use Rattle.dav_memory.specs.Entries.{purged, is_old_dot}
use Rattle.dav_cache.proofs.du_cache.DuCache.purge.Given as goal

abbrev pub invariant-loop-now : goal.invariant-loop-now
invariant-loop-now l = record {
  purges : purged (is_old_dot l.now) l.initial.self.entries ≡ purged (is_old_dot l.now) l.self.entries;
  size : l.self.size ≡ l.initial.self.size;
  next : l.self.next ≡ l.initial.self.next;
}

abbrev pub decreases-loop-now : goal.decreases-loop-now
decreases-loop-now l = length l.self.entries
