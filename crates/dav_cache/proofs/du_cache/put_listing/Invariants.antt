use Rattle.std.proofs.Common.{◌≡◌, ◌+◌, ◌≤◌}
use Rattle.lru.specs.LruCache.{lru_cache}
use Rattle.dav_memory.specs.Entries.{some_put, listed_by}
use Rattle.dav_cache.proofs.du_cache.put_listing.Given as goal

abbrev pub invariant-loop-name : goal.invariant-loop-name
invariant-loop-name l = record {
  puts : l.entries ≡ lru_cache (some_put l.fn.entries.cap (listed_by l.dir l.entry) l.names l.made l.fn.entries.entries) l.fn.entries.cap;
  count : l.made ≡ l.name-index + 1;
  room : l.made ≤ l.room;
}
