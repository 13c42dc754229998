-- Worked calls of a disk: what the tree allows, or what they are refused with.
use Rattle.std.specs.Prelude.{◌≡◌, ℕ, List, [], ◌∷◌, codes, pos, None, Some, Ok, Err, true, false, refl}
use Rattle.dav_core.specs.declared.tree.Row.{Row}
use Rattle.dav_core.specs.declared.tree.Kind.{Kind}
use Rattle.dav_core.specs.declared.tree.Kind.TheVariants.{Dir, File}
use Rattle.dav_core.specs.declared.handle.OpenOptions.{OpenOptions}
use Rattle.dav_core.specs.declared.handle.DiskError.TheVariants.{NotFound, Exists, NotDir, IsDir, NotEmpty}
use Rattle.dav_core.specs.Path.{Names}
use Rattle.dav_core.specs.World.{World, put}
use Rattle.dav_core.specs.Edits.{makes, fills, takes, moves}
use Rattle.dav_core.specs.Allowed.{copying, making_dir, moving, opening, place, taking_dir, taking_file}
use Rattle.dav_core.specs.Writing.{written, reading}

abbrev at : Names → Kind → ℕ → Row
at path kind number = record { path = path; kind = kind; number = number; time = record { secs = pos 0; nanos = 0 } }

abbrev d : Names
d = codes "d" ∷ []

abbrev df : Names
df = codes "d" ∷ codes "f" ∷ []

abbrev dfx : Names
dfx = codes "d" ∷ codes "f" ∷ codes "x" ∷ []

abbrev e : Names
e = codes "e" ∷ []

abbrev g : Names
g = codes "g" ∷ []

abbrev nx : Names
nx = codes "n" ∷ codes "x" ∷ []

-- the root, `/d` with the file `/d/f`, `/e` without members, and the file `/g`
abbrev tree : List Row
tree = at [] Dir 1 ∷ at d Dir 2 ∷ at df File 3 ∷ at e Dir 4 ∷ at g File 5 ∷ []

abbrev w : World
w = record {
  tree = tree;
  files = put 3 (Some (record { bytes = codes "ff"; time = record { secs = pos 0; nanos = 0 } })) (put 5 (Some (record { bytes = codes "g"; time = record { secs = pos 0; nanos = 0 } })) (λ n. None));
  opens = λ h. None;
  listings = λ n. None;
  greatest = 5;
  latest = record { secs = pos 1; nanos = 0 };
  script = [];
}

-- any call on a path
missing : place tree nx ≡ Err NotFound
missing = refl

through_file : place tree dfx ≡ Err NotDir
through_file = refl

free : place tree (codes "n" ∷ []) ≡ Ok None
free = refl

-- to be written from its first byte on, made where nothing stands, and emptied where a file does
abbrev put_options : OpenOptions
put_options = record { read = false; write = true; append = false; truncate = true; create = true; create_new = false }

-- `open`
abbrev new_only : OpenOptions
new_only = record put_options { create_new = true }

open_new : opening tree g new_only ≡ Err Exists
open_new = refl

open_new_root : opening tree [] new_only ≡ Err Exists
open_new_root = refl

open_new_free : opening tree (codes "n" ∷ []) new_only ≡ Ok (Some (makes (codes "n" ∷ []) File []))
open_new_free = refl

open_missing : opening tree (codes "n" ∷ []) reading ≡ Err NotFound
open_missing = refl

open_dir : opening tree d reading ≡ Ok None
open_dir = refl

open_dir_write : opening tree d put_options ≡ Err IsDir
open_dir_write = refl

open_truncate : opening tree g put_options ≡ Ok (Some (fills 5 []))
open_truncate = refl

-- `truncate` without `write` empties nothing
open_appends : opening tree g (record reading { append = true; truncate = true }) ≡ Ok None
open_appends = refl

make_there : making_dir tree g ≡ Err Exists
make_there = refl

make_root : making_dir tree [] ≡ Err Exists
make_root = refl

make_below_file : making_dir tree dfx ≡ Err NotDir
make_below_file = refl

take_root : taking_dir tree [] ≡ Err NotEmpty
take_root = refl

take_full : taking_dir tree d ≡ Err NotEmpty
take_full = refl

take_file_dir : taking_dir tree g ≡ Err NotDir
take_file_dir = refl

take_empty : taking_dir tree e ≡ Ok (Some (takes e))
take_empty = refl

take_dir_file : taking_file tree d ≡ Err IsDir
take_dir_file = refl

move_root : moving tree [] [] ≡ Err NotEmpty
move_root = refl

move_into : moving tree d (codes "d" ∷ codes "n" ∷ []) ≡ Err NotEmpty
move_into = refl

-- `from` is judged before `to`
move_from_first : moving tree nx dfx ≡ Err NotFound
move_from_first = refl

-- and the places before `to` before all else of `to`
move_places_first : moving tree d dfx ≡ Err NotDir
move_places_first = refl

move_same : moving tree g g ≡ Ok None
move_same = refl

move_dir_file : moving tree d g ≡ Err NotDir
move_dir_file = refl

move_file_dir : moving tree g e ≡ Err IsDir
move_file_dir = refl

move_dir_full : moving tree e d ≡ Err NotEmpty
move_dir_full = refl

move_dir_empty : moving tree d e ≡ Ok (Some (moves d e))
move_dir_empty = refl

copy_dir : copying w d (codes "n" ∷ []) ≡ Err IsDir
copy_dir = refl

copy_over_dir : copying w g e ≡ Err IsDir
copy_over_dir = refl

copy_same : copying w g g ≡ Ok None
copy_same = refl

copy_over : copying w g df ≡ Ok (Some (fills 3 (codes "g")))
copy_over = refl

-- a gap is filled with zeros; bytes in the middle are replaced
gap : written 3 (codes "x") (codes "a") ≡ 97 ∷ 0 ∷ 0 ∷ 120 ∷ []
gap = refl

middle : written 1 (codes "xy") (codes "abcd") ≡ codes "axyd"
middle = refl
