use Rattle.std.proofs.Common.{◌≡◌, length, reverse}
use Rattle.dav_fetch.specs.Fetching.{kept_at}
use Rattle.dav_fetch.specs.Keeping.{AreInOrder, KeepsBehind}
use Rattle.dav_fetch.proofs.keeping.next_kept.Given as goal

abbrev pub invariant-loop-next : goal.invariant-loop-next
invariant-loop-next l = (kept_at l.path (reverse l.rest.items) ≡ kept_at l.path (reverse l.fn.rest.items))
    × KeepsBehind l.path (reverse l.fn.rest.items) (reverse l.rest.items) × AreInOrder (reverse l.rest.items)

abbrev pub decreases-loop-next : goal.decreases-loop-next
decreases-loop-next l = length l.rest.items
