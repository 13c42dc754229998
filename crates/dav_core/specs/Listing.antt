-- What each call of a listing of a disk does, as a relation between the disk before and after it.
use Rattle.std.specs.Prelude.{◌≡◌, ◌<◌, ◌+◌, ◌^◌, ◌==◌, ◌&&◌, ℕ, suc, List, [], ◌∷◌, length, map, Bool, true, false, IsTrue, Option, None, Some, Result, Ok, Err, IfOk, IfErr, IfSome, IsOk}
use Rattle.std.specs.List.{filter}
use Rattle.std.specs.List.Sorted.{IsPermutation}
use Rattle.dav_io.specs.Told.{Both}
use Rattle.dav_core.specs.declared.tree.Row.{Row}
use Rattle.dav_core.specs.declared.handle.Lister.{Lister}
use Rattle.dav_core.specs.declared.handle.DiskError.{DiskError}
use Rattle.dav_core.specs.declared.handle.DiskError.TheVariants.{NotFound, NotDir, Failed, NoMemory}
use Rattle.dav_core.specs.DavPath.{last_name}
use Rattle.dav_core.specs.Disk.{DiskState, IsCounted, Refused}
use Rattle.dav_core.specs.Path.{Names, is_front, is_plain}
use Rattle.dav_core.specs.Tree.{look, is_linked, below_kind}
use Rattle.dav_core.specs.World.{World, put}

-- The row stands in the directory at this path.
abbrev pub stands_in : Names → Row → Bool
stands_in dir row = (length row.path == length dir + 1) && is_front dir row.path

abbrev pub or_empty : Option (List ℕ) → List ℕ
or_empty None = []
or_empty (Some name) = name

-- a row's own name; the root has none
abbrev pub name_of : Row → List ℕ
name_of row = or_empty (last_name row.path)

-- the names in the directory at a path
abbrev pub names_in : List Row → Names → Names
names_in tree dir = map name_of (filter (stands_in dir) tree)

-- a directory is listed, and nothing else
abbrev pub listable : Result Row DiskError → Result Row DiskError
listable (Ok row) = below_kind row.kind (Ok row)
listable (Err e) = Err e

abbrev pub with_listings : World → (ℕ → Option Names) → World
with_listings w listings = record w { listings = listings }

-- A listing is of the names that stand there now, each once. Their order is the disk's.
abbrev pub ListedIn : Names → Result Lister DiskError → World → World → Type 0
ListedIn path (Ok l) v w = (names : Names) × (w ≡ with_listings v (put l.0 (Some names) v.listings))
    × (is_linked v.tree path ≡ false → IsOk (listable (look v.tree path)) × IsPermutation (names_in v.tree path) names)
ListedIn path (Err e) v w = (w ≡ v) × (is_linked v.tree path ≡ false → Refused e (listable (look v.tree path)))

-- A lister that wasn't live is live, and has fewer than 2^60 names to come.
abbrev pub ListersAfterList : Result Lister DiskError → (ℕ → Option ℕ) → (ℕ → Option ℕ) → Type 0
ListersAfterList (Ok l) old new = (old l.0 ≡ None) × ((k : ℕ) × (k < 2 ^ 60) × (new ≡ put l.0 (Some k) old))
ListersAfterList (Err e) old new = new ≡ old

-- the refusals of a listing
abbrev pub MayRefuseList : DiskError → Type 0
MayRefuseList NotFound = Unit {0}
MayRefuseList NotDir = Unit {0}
MayRefuseList Failed = Unit {0}
MayRefuseList NoMemory = Unit {0}
MayRefuseList e = ⊥

-- A listing of the directory at a path is begun.
pub record Lists (old : DiskState) (path : Names) (result : Result Lister DiskError) (new : DiskState) : Type 0 where
  pub counted : IsCounted result old new
  pub only : IfErr result MayRefuseList
  pub live : new.live ≡ old.live
  pub listers : ListersAfterList result old.listers new.listers
  pub told : Both old.told new.told (ListedIn path result)

-- The first of the names to come is given; None comes where none is left. A refused call gives none, and loses none.
abbrev pub NextIn : ℕ → Result (Option (List ℕ)) DiskError → World → World → Type 0
NextIn l (Ok (Some name)) v w = (rest : Names) × (v.listings l ≡ Some (name ∷ rest))
    × (w ≡ with_listings v (put l (Some rest) v.listings))
NextIn l (Ok None) v w = (v.listings l ≡ Some []) × (w ≡ v)
NextIn l (Err e) v w = w ≡ v

-- After each name at least one fewer is to come.
abbrev pub ListersAfterNext : ℕ → Result (Option (List ℕ)) DiskError → (ℕ → Option ℕ) → (ℕ → Option ℕ) → Type 0
ListersAfterNext l (Ok (Some name)) old new = (k : ℕ) × (old l ≡ Some (suc k)) × (new ≡ put l (Some k) old)
ListersAfterNext l (Ok None) old new = new ≡ old
ListersAfterNext l (Err e) old new = new ≡ old

abbrev pub MayRefuseNext : DiskError → Type 0
MayRefuseNext Failed = Unit {0}
MayRefuseNext NoMemory = Unit {0}
MayRefuseNext e = ⊥

-- whether an answer with a name has a plain one
abbrev pub IsNamed : Result (Option (List ℕ)) DiskError → Type 0
IsNamed result = IfOk result (λ found. IfSome found (λ name. is_plain name ≡ true))

pub record ListsOn (old : DiskState) (l : ℕ) (result : Result (Option (List ℕ)) DiskError) (new : DiskState)
    : Type 0 where
  pub counted : IsCounted result old new
  pub only : IfErr result MayRefuseNext
  pub plain : IsNamed result
  pub live : new.live ≡ old.live
  pub listers : ListersAfterNext l result old.listers new.listers
  pub told : Both old.told new.told (NextIn l result)

abbrev pub EndedIn : ℕ → World → World → Type 0
EndedIn l v w = w ≡ with_listings v (put l None v.listings)

-- A listing is ended. It is no counted call, and can't be refused.
pub record EndsListing (old : DiskState) (l : ℕ) (new : DiskState) : Type 0 where
  pub counts : new.faults ≡ old.faults
  pub asked : new.asked ≡ old.asked
  pub whole : IsTrue old.whole → IsTrue new.whole
  pub live : new.live ≡ old.live
  pub listers : new.listers ≡ put l None old.listers
  pub told : Both old.told new.told (EndedIn l)
