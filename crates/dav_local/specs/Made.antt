-- When the entries of a memory were made.
use Rattle.std.specs.Prelude.{◌≡◌, Bool, true, List, [], ◌∷◌}
use Rattle.dav_io.specs.Told.{Both}
use Rattle.dav_io.specs.declared.clock.Moment.{Moment}
use Rattle.dav_memory.specs.declared.entry.PathEntry.{PathEntry}
use Rattle.dav_memory.specs.declared.key.DuEntry.{DuEntry}
use Rattle.dav_memory.specs.Entries.{whole_seconds}
use Rattle.dav_memory.specs.Memory.{MemoryState}

-- The test holds of each entry, whatever its key is.
abbrev pub AllOf : {K X : Type 0} → (X → Bool) → List (K × X) → Type 0
AllOf test [] = Unit {0}
AllOf test (e ∷ es) = (test e.1 ≡ true) × AllOf test es

-- Each entry is one of these, or stood before: what holds of each of them, and of each entry that stood, holds of each
-- that stands.
abbrev pub NewAre : {K X : Type 0} → (X → Type 0) → List (K × X) → List (K × X) → Type 0
NewAre {X = X} Fresh old new = (test : X → Bool) → ((x : X) → Fresh x → test x ≡ true) → AllOf test old → AllOf test new

-- a path that was remembered at this moment, in whole seconds
abbrev pub IsPathOf : Moment → PathEntry → Type 0
IsPathOf now e = e.secs ≡ whole_seconds now.0

-- a directory or a name that was remembered at this moment
abbrev pub IsDotOf : Moment → DuEntry → Type 0
IsDotOf now e = e.moment ≡ now

-- What is new in the two caches, where the memory tells them, has this moment.
pub record MadeAt (now : Moment) (old new : MemoryState) : Type 0 where
  pub paths : Both old.paths new.paths (λ a b. NewAre (IsPathOf now) a.entries b.entries)
  pub dots : Both old.dots new.dots (λ a b. NewAre (IsDotOf now) a.entries b.entries)
