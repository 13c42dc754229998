-- How the world of a peer goes on: with each request that is answered the outside makes its next batch of changes.
use Rattle.std.specs.Prelude.{◌≡◌, ℕ, zero, suc, List, [], ◌∷◌, Some}
use Rattle.dav_core.specs.Changes.{turned}
use Rattle.dav_core.specs.World.{World, SameBesidesOpens}
use Rattle.dav_fetch.specs.Walk.{Visit}

-- The outside made so many batches of its changes, one after the other. Nothing else changed but which files are open.
abbrev pub TurnedTimes : ℕ → World → World → Type 0
TurnedTimes zero v w = SameBesidesOpens v w
TurnedTimes (suc n) v w = (u : World) × TurnedTimes n v u × SameBesidesOpens (turned u) w

-- a world that came of this one by so many batches has been met, but for which files are open
abbrev pub MetAfter : ℕ → World → World → Type 0
MetAfter n v w = (now : World) × SameBesidesOpens w now × TurnedTimes n v now

-- The worlds of visits, one batch of changes after the other.
abbrev pub AreTurned : World → ℕ → List Visit → Type 0
AreTurned v n [] = Unit {0}
AreTurned v n (visit ∷ visits) = ((w : World) → visit.world ≡ Some w → MetAfter (suc n) v w) × AreTurned v (suc n) visits
