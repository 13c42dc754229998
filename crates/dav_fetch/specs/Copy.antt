-- What a copy of a tree is, and what is kept of a file.
use Rattle.std.specs.Prelude.{◌≡◌, ◌≢◌, ◌≤◌, ◌⊎◌, ℕ, List, [], ◌∷◌, length, take, true, Option, None, Some, Ok}
use Rattle.std.specs.List.{AllByRecursion}
use Rattle.std.specs.List.Sorted.{IsStrictlySortedBy}
use Rattle.std.specs.Cmp.Lexicographic.{slice_cmp}
use Rattle.std.specs.Ordering.{nat_cmp}
use Rattle.std.specs.declared.cmp.Ordering.{Ordering}
use Rattle.std.specs.Prelude.{map}
use Rattle.dav_core.specs.declared.tree.Row.{Row}
use Rattle.dav_core.specs.Info.{known_time, tag_of}
use Rattle.dav_core.specs.Path.{Names}
use Rattle.dav_core.specs.Tags.{IsTagText}
use Rattle.dav_core.specs.Tree.{is_file, look}
use Rattle.dav_core.specs.World.{World, bytes_of}
use Rattle.dav_model.specs.Head.{quoted}
use Rattle.dav_fetch.specs.declared.copied.Kept.{Kept}
use Rattle.dav_fetch.specs.declared.copied.Copied.{Copied}

-- paths name by name, each by its bytes
abbrev pub path_cmp : Names → Names → Ordering
path_cmp = slice_cmp (slice_cmp nat_cmp)

-- the value of the field of a tag, and nothing where there is none
abbrev pub tag_value : Option (List ℕ) → List ℕ
tag_value None = []
tag_value (Some tag) = quoted tag

-- one strong tag, or nothing
abbrev pub IsTagValue : List ℕ → Type 0
IsTagValue value = (value ≡ []) ⊎ ((tag : List ℕ) × IsTagText tag × (value ≡ quoted tag))

-- What holds of a copy at entry and at exit.
pub record IsKept (f : Kept) : Type 0 where
  pub tag : IsTagValue f.tag
  pub within : length f.bytes ≤ f.len

pub record IsCopy (copy : Copied) : Type 0 where
  pub dirs : IsStrictlySortedBy path_cmp copy.dirs
  pub files : IsStrictlySortedBy path_cmp (map (λ (f : Kept). f.path) copy.files)
  pub each : AllByRecursion IsKept copy.files

-- the value of the tag of what stands in a row
abbrev pub tag_in : World → Row → List ℕ
tag_in w row = tag_value (tag_of row.kind row.number (length (bytes_of w row.number)) (known_time row.time))

-- A file of a world stands at the path, in this row.
pub record IsFileAt (w : World) (path : Names) (row : Row) : Type 0 where
  pub there : look w.tree path ≡ Ok row
  pub file : is_file row.kind ≡ true

-- It has these bytes' length, and its bytes are a front of them.
pub record IsFrontOf (f : Kept) (bytes : List ℕ) : Type 0 where
  pub len : f.len ≡ length bytes
  pub front : f.bytes ≡ take (length f.bytes) bytes

-- If the world has a file of this path and this tag, it is such a front of it. Nothing is asked of a file without a
-- tag, as nothing is resumed there.
abbrev pub IsFaithful : World → Kept → Type 0
IsFaithful w f = f.tag ≢ [] → (row : Row) → IsFileAt w f.path row → tag_in w row ≡ f.tag → IsFrontOf f (bytes_of w row.number)

-- It is a front of what its path has in this world, with the tag there.
pub record IsOfWorld (w : World) (f : Kept) : Type 0 where
  pub row : Row
  pub at : IsFileAt w f.path row
  pub tag : f.tag ≡ tag_in w row
  pub front : IsFrontOf f (bytes_of w row.number)

-- it is one of these
abbrev pub IsOf : {A : Type 0} → A → List A → Type 0
IsOf a [] = ⊥
IsOf a (b ∷ bs) = (a ≡ b) ⊎ IsOf a bs
