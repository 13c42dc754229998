-- Where a local store finds a path, in every run.
use Rattle.std.specs.Prelude.{◌≡◌, ◌⊎◌, List, true, false, Option, None, Some, Result, Ok, Err, IfOk, OnErr}
use Rattle.std.specs.Option.{unwrap_or}
use Rattle.dav_core.specs.declared.error.FsError.{FsError}
use Rattle.dav_core.specs.declared.error.FsError.TheVariants.{NoMemory}
use Rattle.dav_core.specs.declared.tree.Row.{Row}
use Rattle.dav_core.specs.Path.{Names}
use Rattle.dav_core.specs.Tree.{is_linked}
use Rattle.dav_core.specs.Unchanged.{Keeps}
use Rattle.dav_core.specs.World.{World}
use Rattle.dav_store.specs.Files.{Spoiled}
use Rattle.dav_model.specs.Finding.{EndsLoosely, or_walk}
use Rattle.dav_model.specs.Folds.{fold_path}
use Rattle.dav_memory.specs.Memory.{LearnsNothing}
use Rattle.dav_local.specs.Made.{MadeAt}
use Rattle.dav_local.specs.Places.{Place}
use Rattle.dav_local.specs.Ways.{Ways, is_known}

-- A loose walk of the path ends at this place, or at one that stands behind a link.
pub record Leads (ways : Ways) (tree : List Row) (names at : Names) : Type 0 where
  pub end : Names
  pub loosely : EndsLoosely ways.alone ways.folds tree names end
  pub here : is_linked tree end ≡ false → at ≡ end

-- Where a path is found, by what a search of it answered: none says that it is found as it is asked.
abbrev pub found_at : Names → Result (Option Names) FsError → Result Names FsError
found_at path (Ok found) = Ok (unwrap_or found path)
found_at path (Err e) = Err e

-- What such a search stands for where the place is wanted as a value of its own: where it is found as it is asked, a
-- copy of the path, for which memory may be wanting.
abbrev pub StandsFor : Names → Result (Option Names) FsError → Result Names FsError → Type 0
StandsFor path (Ok None) result = (result ≡ Ok path) ⊎ (result ≡ Err NoMemory)
StandsFor path found result = result ≡ found_at path found

-- The path is found: by the disk and the memory where names may fold, and else without either. It is refused only where
-- a fault was met, and for want of memory. The memory knows nothing more of what is absent.
pub record Resolves (p : Place) (names : Names) (result : Result Names FsError) (q : Place) : Type 0 where
  pub ways : q.ways ≡ p.ways
  pub keeps : Keeps p.disk q.disk
  pub learns : LearnsNothing p.memory q.memory
  pub dots : q.memory.dots ≡ p.memory.dots
  pub moment : q.moment ≡ p.moment
  -- what is remembered anew has the store's moment
  pub made : MadeAt p.moment p.memory q.memory
  pub refused : OnErr result (Spoiled p.disk result q.disk)
  pub known : is_known p.ways ≡ true → (q ≡ p) × IfOk result (λ at. at ≡ or_walk p.ways.alone names)
  pub starved : is_known p.ways ≡ true → OnErr result (result ≡ Err NoMemory)
  -- where no file is served alone, what is found folds like the path
  pub alike : IfOk result (λ at. p.ways.alone ≡ None → fold_path at ≡ fold_path names)
  pub told : IfOk result (λ at. (w : World) → p.disk.told ≡ Some w → Leads p.ways w.tree names at)
