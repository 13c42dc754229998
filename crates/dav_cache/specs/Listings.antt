-- A number of the cache of absent names belongs to one listing.
use Rattle.std.specs.Prelude.{◌≡◌, ℕ, [], ◌∷◌}
use Rattle.std.specs.List.{AllByRecursion}
use Rattle.dav_memory.specs.declared.key.DuEntry.{DuEntry}
use Rattle.dav_memory.specs.declared.key.DuKey.{DuKey}
use Rattle.dav_memory.specs.Entries.{Dots, AreCounted}

-- Where both entries have one number, they are of one directory, which had one time, and were put at one moment.
abbrev pub AreOfOne : (DuKey × DuEntry) → (DuKey × DuEntry) → Type 0
AreOfOne a b = a.1.number ≡ b.1.number → (a.0.dir ≡ b.0.dir) × (a.1.time ≡ b.1.time) × (a.1.moment ≡ b.1.moment)

-- each two entries are so
abbrev pub OneListingEach : Dots → Type 0
OneListingEach [] = Unit {0}
OneListingEach (e ∷ es) = AllByRecursion (AreOfOne e) es × OneListingEach es

-- What every cache of absent names keeps of its entries, by the number of the next listing.
pub record AreKept (next : ℕ) (dots : Dots) : Type 0 where
  pub counted : AreCounted next dots
  pub listings : OneListingEach dots
