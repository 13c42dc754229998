-- What the parts of a disk's calls do that meet no fault.
use Rattle.std.specs.Prelude.{◌≡◌, ◌+◌, ℕ, List, [], ◌∷◌, length, IsOk, take, min, Bool, true, false, Option, None, Some, Result, Ok, Err}
use Rattle.std.specs.Option.{option_map}
use Rattle.dav_core.specs.declared.tree.Row.{Row}
use Rattle.dav_core.specs.declared.handle.Meta.{Meta}
use Rattle.dav_core.specs.declared.handle.Lister.{Lister}
use Rattle.dav_core.specs.declared.handle.DiskError.{DiskError}
use Rattle.dav_core.specs.declared.handle.DiskError.TheVariants.{IsDir, NoMemory}
use Rattle.dav_core.specs.Path.{Names}
use Rattle.dav_core.specs.Tree.{look}
use Rattle.dav_core.specs.World.{World, OpenFile, put}
use Rattle.dav_core.specs.Disk.{Live, DiskState, MetaIn, with_opens, placed, rest_of, can_read}
use Rattle.dav_core.specs.Listing.{names_in, listable, with_listings}
use Rattle.dav_disk.specs.Listings.{IsInOrder}

-- a told world, and what is known of the live handles
pub record Known : Type 0 where
  pub world : World
  pub live : ℕ → Option Live

-- how many names each listing has to come
abbrev pub lengths : (ℕ → Option Names) → ℕ → Option ℕ
lengths listings l = option_map length (listings l)

-- the state of a disk that knows this, after so many faults and calls
abbrev pub state_of : Known → ℕ → ℕ → Bool → DiskState
state_of k faults asked whole = record {
  told = Some k.world;
  faults = faults;
  asked = asked;
  whole = whole;
  live = k.live;
  listers = lengths k.world.listings;
}

abbrev pub FindsMeta : World → Names → Result Meta DiskError → Type 0
FindsMeta w path (Ok meta) = MetaIn path (Ok meta) w
FindsMeta w path (Err e) = look w.tree path ≡ Err e

-- a refusal that the tree calls for, or want of memory
abbrev pub RefusesBy : DiskError → Result Row DiskError → Type 0
RefusesBy NoMemory found = Unit {0}
RefusesBy e found = found ≡ Err e

abbrev pub with_place : Known → ℕ → OpenFile → ℕ → Known
with_place k h o place = record k { world = placed k.world h o place }

abbrev pub Places : Known → ℕ → ℕ → Known → Type 0
Places k h place n = (o : OpenFile) × (k.world.opens h ≡ Some o) × (n ≡ with_place k h o place)

-- At most so many bytes are read: all that stand there, that fit and that may be given.
abbrev pub ReadsAt : Known → ℕ → ℕ → List ℕ → Result ℕ DiskError → Known → Type 0
ReadsAt k h most buffer (Ok n) t = (o : OpenFile) × (k.world.opens h ≡ Some o) × (can_read (k.live h) ≡ true)
    × (n ≡ min most (min (length buffer) (length (rest_of k.world o)))) × (take n buffer ≡ take n (rest_of k.world o))
    × (t ≡ with_place k h o (o.place + n))
ReadsAt k h most buffer (Err e) t = (e ≡ IsDir) × (can_read (k.live h) ≡ false) × (t ≡ k)

abbrev pub with_closed : Known → ℕ → Known
with_closed k h = record { world = with_opens k.world (put h None k.world.opens); live = put h None k.live }

-- the names to come of a lister are these; None ends it
abbrev pub with_names : Known → ℕ → Option Names → Known
with_names k l names = record k { world = with_listings k.world (put l names k.world.listings) }

-- The directory at a path is listed, in order of the names' bytes, under a lister that was free.
abbrev pub ListsAt : Known → Names → Result Lister DiskError → Known → Type 0
ListsAt k path (Ok l) n =
    (names : Names) × IsOk (listable (look k.world.tree path)) × IsInOrder (names_in k.world.tree path) names
    × (k.world.listings l.0 ≡ None) × (n ≡ with_names k l.0 (Some names))
ListsAt k path (Err e) n = (n ≡ k) × RefusesBy e (listable (look k.world.tree path))

-- The next name is given, or none where none is left.
abbrev pub NextAt : Known → ℕ → Option (List ℕ) → Known → Type 0
NextAt k l None n = (k.world.listings l ≡ Some []) × (n ≡ k)
NextAt k l (Some name) n = (rest : Names) × (k.world.listings l ≡ Some (name ∷ rest)) × (n ≡ with_names k l (Some rest))
