-- The steps of a walk that finds names by folding, over any disk.
use Rattle.std.specs.Prelude.{◌≡◌, ◌≢◌, Bool, ℕ, List, [], ◌∷◌, ◌++◌, true, false, Option, None, Some, IfSome, IsSome, Result, Ok, Err, IfOk, OnErr, ◌⊎◌, OnOk}
use Rattle.std.specs.List.{list_any}
use Rattle.std.specs.Option.{is_some}
use Rattle.std.specs.Str.{bytes_eq}
use Rattle.dav_io.specs.Counts.{RefusedNothing}
use Rattle.dav_core.specs.declared.error.FsError.{FsError}
use Rattle.dav_core.specs.declared.error.FsError.TheVariants.{NoMemory}
use Rattle.dav_core.specs.declared.handle.DiskError.{DiskError}
use Rattle.dav_core.specs.declared.handle.Lister.{Lister}
use Rattle.dav_core.specs.declared.tree.Row.{Row}
use Rattle.dav_core.specs.Disk.{DiskState}
use Rattle.dav_core.specs.Path.{Names, is_plain}
use Rattle.dav_core.specs.Tree.{is_linked, is_tree, look}
use Rattle.dav_core.specs.Unchanged.{Keeps}
use Rattle.dav_core.specs.World.{World, IsWorld}
use Rattle.dav_store.specs.Files.{AsksOnce, Spoiled}
use Rattle.dav_store.specs.Listings.{IsListed, KeepsButLister}
use Rattle.dav_memory.specs.Memory.{LearnsNothing, MemoryState}
use Rattle.dav_model.specs.Finding.{IsLoose, IsOf, is_alike}
use Rattle.dav_model.specs.Folds.{Name, fold_name, fold_path}
pub use Rattle.dav_local.specs.Ground.{IsClearAt, SoughtIn}
use Rattle.dav_local.specs.Made.{MadeAt}
use Rattle.dav_local.specs.Places.{Place}
use Rattle.dav_local.specs.Remembering.{AllRemembered, HasFirst, HasNewFirst, HasNext, IsFoundIn, IsRemembered, IsUnheld, StandsElsewhere}

-- A listing was begun, or nothing changed.
abbrev pub BeginsOne : DiskState → Result Lister DiskError → DiskState → Type 0
BeginsOne s (Ok l) t = IsListed s (Some l.0) t
BeginsOne s (Err e) t = Keeps s t

-- The name is one of these.
abbrev pub IsAmong : Name → Names → Type 0
IsAmong name [] = ⊥
IsAmong name (x ∷ names) = (name ≡ x) ⊎ IsAmong name names

-- One of these names has this folding, or none has.
abbrev pub Sought : Names → Name → Option Name → Type 0
Sought names folded (Some name) = IsAmong name names
Sought names folded None = list_any (λ x. bytes_eq (fold_name x) folded) names ≡ false

-- The names that a listing has to come are read up to one with this folding.
pub record Searches (s : DiskState) (l : ℕ) (folded : Name) (result : Result (Option Name) FsError) (t : DiskState)
    : Type 0 where
  pub keeps : KeepsButLister (Some l) s t
  pub live : IsSome (t.listers l)
  pub refused : OnErr result (Spoiled s result t)
  pub plain : IfOk result (λ found. IfSome found (λ name. is_plain name ≡ true))
  pub alike : IfOk result (λ found. IfSome found (λ name. fold_name name ≡ folded))
  pub told : IfOk result (λ found. (w : World) (names : Names) → s.told ≡ Some w → w.listings l ≡ Some names
      → Sought names folded found)

pub record SearchesIn (s : DiskState) (at : Names) (folded : Name) (result : Result (Option Name) FsError)
    (t : DiskState) : Type 0 where
  pub keeps : Keeps s t
  pub refused : OnErr result (Spoiled s result t)
  pub plain : IfOk result (λ found. IfSome found (λ name. is_plain name ≡ true))
  pub alike : IfOk result (λ found. IfSome found (λ name. fold_name name ≡ folded))
  pub told : IfOk result (λ found. (w : World) → s.told ≡ Some w → IsWorld w → IsClearAt w.tree at
      → SoughtIn w.tree at folded found)

-- The row of a name in a directory, or of one that folds alike; none where neither stands.
abbrev pub StepsTo : List Row → Names → Name → Option Names → Type 0
StepsTo tree at name (Some next) = (row : Row) × IsOf row tree × (row.path ≡ next) × (is_alike true at name row ≡ true)
StepsTo tree at name None = list_any (is_alike true at name) tree ≡ false

-- the path of a name in a directory that folds like this one
abbrev pub IsAlikeIn : Names → Name → Names → Type 0
IsAlikeIn at name next = (x : Name) × (next ≡ at ++ x ∷ []) × (fold_name x ≡ fold_name name)

pub record Steps (s : DiskState) (at : Names) (name : Name) (result : Result (Option Names) FsError) (t : DiskState)
    : Type 0 where
  pub keeps : Keeps s t
  pub refused : OnErr result (Spoiled s result t)
  pub alike : IfOk result (λ found. IfSome found (λ next. IsAlikeIn at name next))
  pub told : IfOk result (λ found. (w : World) → s.told ≡ Some w → IsWorld w → IsClearAt w.tree at
      → StepsTo w.tree at name found)

-- ---- steps that ask the memory, too

-- Nothing changed but the cache of paths in the memory.
pub record KeepsPlace (p q : Place) : Type 0 where
  pub ways : q.ways ≡ p.ways
  pub keeps : Keeps p.disk q.disk
  pub learns : LearnsNothing p.memory q.memory
  pub dots : q.memory.dots ≡ p.memory.dots
  pub tells : is_some q.memory.paths ≡ is_some p.memory.paths
  pub moment : q.moment ≡ p.moment
  pub made : MadeAt p.moment p.memory q.memory

-- A row stands there, where that is told and no link stands on the way.
abbrev pub StandsAt : DiskState → Names → Type 0
StandsAt s at = (w : World) → s.told ≡ Some w → is_tree w.tree ≡ true → is_linked w.tree at ≡ false
    → (row : Row) × (look w.tree at ≡ Ok row)

-- what `RemembersRows` says, of trees
abbrev pub RemembersIn : Place → Place → Type 0
RemembersIn p q = (w : World) (test : Names → Bool) → p.disk.told ≡ Some w → is_tree w.tree ≡ true
    → ((path : Names) (row : Row) → look w.tree path ≡ Ok row → test path ≡ true)
    → ((path : Names) → is_linked w.tree path ≡ true → test path ≡ true)
    → AllRemembered test p.memory → AllRemembered test q.memory

-- The memory is asked where a path was found. What it has is the first entry of its cache then.
pub record Recalls (p : Place) (names : Names) (result : Result (Option Names) FsError) (q : Place) : Type 0 where
  pub keeps : KeepsPlace p q
  pub starved : OnErr result ((result ≡ Err NoMemory) × (q.disk ≡ p.disk))
  pub alike : IfOk result (λ found. IfSome found (λ at. fold_path at ≡ fold_path names))
  pub stood : IfOk result (λ found. IfSome found (λ at. StandsAt p.disk at))
  pub first : IfOk result (λ found. IfSome found (λ at. HasFirst names at q.memory))
  -- what it had elsewhere isn't found so
  pub had : IfOk result (λ found. IfSome found (λ at. IsUnheld p.memory names at → (dir : Names)
      → HasNext dir names q.memory))
  pub rows : RemembersIn p q
  pub saved : IfOk result (λ found. RefusedNothing p.disk.faults q.disk.faults → (at : Names) → IsRemembered p names at
      → (found ≡ Some at) × AsksOnce p.disk q.disk)

-- A path is remembered at itself.
pub record Remembers (p : Place) (at : Names) (result : Result Unit FsError) (q : Place) : Type 0 where
  pub keeps : KeepsPlace p q
  pub starved : OnErr result (result ≡ Err NoMemory)
  pub first : OnOk result (HasFirst at at q.memory)
  pub new : OnOk result (HasNewFirst p.moment at q.memory)
  -- what came first is next, where it is another path
  pub next : OnOk result ((dir : Names) → HasFirst dir dir p.memory → fold_path at ≢ fold_path dir
      → HasNext dir at q.memory)
  pub rows : StandsAt p.disk at → RemembersIn p q

-- A step of a walk, as above.
pub record StepsOn (p : Place) (at : Names) (name : Name) (result : Result (Option Names) FsError) (q : Place)
    : Type 0 where
  pub keeps : KeepsPlace p q
  pub refused : OnErr result (Spoiled p.disk result q.disk)
  pub alike : IfOk result (λ found. IfSome found (λ next. IsAlikeIn at name next))
  pub told : IfOk result (λ found. (w : World) → p.disk.told ≡ Some w → is_tree w.tree ≡ true → IsClearAt w.tree at
      → StepsTo w.tree at name found)
  pub rows : StandsAt p.disk at → RemembersIn p q

-- A directory is found for a path: what stands there folds alike, and is remembered first, unless it is the root.
pub record FindsParent (p : Place) (dir : Names) (result : Result (Option Names) FsError) (q : Place) : Type 0 where
  pub keeps : KeepsPlace p q
  pub refused : OnErr result (Spoiled p.disk result q.disk)
  pub alike : IfOk result (λ found. IfSome found (λ at. fold_path at ≡ fold_path dir))
  pub stood : IfOk result (λ found. IfSome found (λ at. StandsAt p.disk at))
  pub first : IfOk result (λ found. IfSome found (λ at. (dir ≡ []) ⊎ HasFirst dir at q.memory))
  pub rows : RemembersIn p q

-- A row in the directory is remembered, or none folds like the name, which is appended as it is asked.
abbrev pub TakesIn : List Row → Names → Name → Names → MemoryState → Type 0
TakesIn tree dir name at memory = ((row : Row) × (look tree at ≡ Ok row) × HasFirst at at memory)
    ⊎ ((at ≡ dir ++ name ∷ []) × (list_any (is_alike true dir name) tree ≡ false))

-- The member of a directory that folds like the name is found.
pub record TakesMember (p : Place) (dir : Names) (name : Name) (result : Result Names FsError) (q : Place)
    : Type 0 where
  pub keeps : KeepsPlace p q
  pub refused : OnErr result (Spoiled p.disk result q.disk)
  pub alike : IfOk result (λ at. IsAlikeIn dir name at)
  pub told : IfOk result (λ at. (w : World) → p.disk.told ≡ Some w → is_tree w.tree ≡ true → IsClearAt w.tree dir
      → TakesIn w.tree dir name at q.memory)
  pub rows : StandsAt p.disk dir → RemembersIn p q

-- A walk came to a place with these names to go: however it goes on from there, it does so from the root. Or it came
-- behind a link, where nothing is said.
abbrev pub Comes : List Row → Names → Names → Names → Type 0
Comes tree names at rest = (IsClearAt tree at
    × ((end : Names) → IsLoose true tree at rest end → IsLoose true tree [] names end))
    ⊎ ((end : Names) × IsLoose true tree [] names end × (is_linked tree end ≡ true))

-- a loose walk ends at this place, or behind a link
abbrev pub EndsAt : List Row → Names → Names → Type 0
EndsAt tree names at = (end : Names) × IsLoose true tree [] names end × (is_linked tree end ≡ false → at ≡ end)

-- The directory above the place is remembered before it.
abbrev pub BringsAbove : Place → Names → Result Names FsError → Place → Type 0
BringsAbove p names result q = IfOk result (λ at. (dir : Names) (e : IsFoundIn p names at dir)
    → is_tree e.world.tree ≡ true → HasNext dir names q.memory)

-- It is so of a path that the memory hadn't.
abbrev pub BringsUnheld : Place → Names → Result Names FsError → Place → Type 0
BringsUnheld p names result q = IfOk result (λ at. (dir : Names) (e : IsFoundIn p names at dir)
    → is_tree e.world.tree ≡ true → IsUnheld p.memory names at → HasNext dir names q.memory)

-- A path is found by folding. What stands elsewhere than it is asked is remembered.
pub record Walks (p : Place) (names : Names) (result : Result Names FsError) (q : Place) : Type 0 where
  pub keeps : KeepsPlace p q
  pub refused : OnErr result (Spoiled p.disk result q.disk)
  pub alike : IfOk result (λ at. fold_path at ≡ fold_path names)
  pub told : IfOk result (λ at. (w : World) → p.disk.told ≡ Some w → is_tree w.tree ≡ true → EndsAt w.tree names at)
  pub first : IfOk result (λ at. (e : StandsElsewhere p names at) → is_tree e.world.tree ≡ true
      → HasFirst names at q.memory)
  pub rows : RemembersIn p q

-- Nothing changed but the cache of paths, in which no more than what stands is remembered anew: the path is still to be
-- found.
pub record Misses (p q : Place) : Type 0 where
  pub keeps : KeepsPlace p q
  pub rows : RemembersIn p q

-- The memory is asked where a path was found, by a call of the disk at the place that it has. What the disk answers is
-- the answer of that call, made where the path was found before it, without the disk.
abbrev pub RecallsBy : {A : Type 0} → (DiskState → Names → Result A DiskError → DiskState → Type 0) → Place → Names
    → Result (Option (Names × A)) FsError → Place → Type 0
RecallsBy call p names (Ok (Some f)) q = Walks p names (Ok f.0) (record q { disk = p.disk })
    × call p.disk f.0 (Ok f.1) q.disk
RecallsBy call p names (Ok None) q = Misses p q
RecallsBy call p names (Err e) q = Walks p names (Err e) q
