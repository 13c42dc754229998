use Rattle.std.proofs.Common.{◌≡◌, ◌++◌, length}
use Rattle.dav_cache.proofs.du_cache.put_back.Given as goal

abbrev pub invariant-loop-key : goal.invariant-loop-key
invariant-loop-key l = record {
  all : l.pairs.items ++ l.entries.entries ≡ l.initial.pairs.items ++ l.initial.entries.entries;
  cap : l.entries.cap ≡ l.initial.entries.cap;
}

abbrev pub decreases-loop-key : goal.decreases-loop-key
decreases-loop-key l = length l.pairs.items
