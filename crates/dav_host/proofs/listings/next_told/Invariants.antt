use Rattle.std.proofs.Common.{◌≡◌}
use Rattle.dav_host.specs.Entries.{Passes, has_missed}
use Rattle.dav_host.proofs.listings.next_told.Given as goal

-- the names so far were none that can be told
abbrev pub invariant-names : goal.invariant-names
invariant-names g l = g.I.Iterator.can_next l.names × Passes g.I.Iterator.next_gives l.counter l.initial.names l.names
    × (l.missed ≡ has_missed l.initial.missed l.counter)
