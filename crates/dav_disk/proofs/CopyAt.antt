-- A copy, by the files that it has to do with.
use Rattle.std.proofs.Common.{◌≡◌, ◌≤◌, ℕ, Bool, true, false, cond, Option, None, Some, Result, Ok, Err, refl, sym, ap, ◌∙◌}
use Rattle.dav_core.specs.declared.tree.Row.{Row}
use Rattle.dav_core.specs.declared.handle.DiskError.{DiskError}
use Rattle.dav_core.specs.declared.handle.DiskError.TheVariants.{IsDir}
use Rattle.dav_core.specs.Path.{Names, same_names}
use Rattle.dav_core.specs.Tree.{is_dir, is_tree, look}
use Rattle.dav_core.specs.World.{World, AreGiven}
use Rattle.dav_core.specs.Changes.{is_free_in}
use Rattle.dav_core.specs.Allowed.{Allowed, place, copying, copying_to, copying_over, found_then}
use Rattle.dav_disk.specs.declared.judge.Copying.{Copying}
use Rattle.dav_disk.specs.declared.judge.Copying.TheVariants.{Stays, Makes, Fills}
use Rattle.dav_disk.specs.Making.{copied_edit, copies, copies_from, copies_to, copies_over}
use Rattle.dav_disk.specs.Files.{NamesNoDir}
use Rattle.dav_disk.proofs.DirsStay.{row_no_dir}
use Rattle.dav_disk.proofs.OpenAt.{placed_given}
use Rattle.dav_disk.proofs.Standing.{free_place}
use Rattle.dav_core.proofs.Rows.{row_at_in}
use Rattle.dav_core.proofs.PlaceLemmas.{placed_row}

-- what is allowed of a copy
abbrev pub copied : World → Names → Result Copying DiskError → Allowed
copied w to (Ok c) = Ok (copied_edit w to c)
copied w to (Err e) = Err e

cond_copied : (w : World) (to : Names) (b : Bool) (x y : Result Copying DiskError) → copied w to (cond b x y) ≡ cond b (copied w to x) (copied w to y)
cond_copied w to true x y = refl
cond_copied w to false x y = refl

over_is : (w : World) (row : Row) (to : Names) (there : Option Row) → copied w to (copies_over row to there) ≡ copying_over w row to there
over_is w row to None = refl
over_is w row to (Some there) =
    cond_copied w to (is_dir there.kind) (Err IsDir) (cond (same_names row.path to) (Ok Stays) (Ok (Fills row.number there.number)))
    ∙ ap (λ x. cond (is_dir there.kind) (Err IsDir) x) (cond_copied w to (same_names row.path to) (Ok Stays) (Ok (Fills row.number there.number)))

to_is : (w : World) (row : Row) (to : Names) (found : Result (Option Row) DiskError) → copied w to (copies_to row to found) ≡ copying_to w row to found
to_is w row to (Err e) = refl
to_is w row to (Ok there) = cond_copied w to (is_dir row.kind) (Err IsDir) (copies_over row to there) ∙ ap (λ x. cond (is_dir row.kind) (Err IsDir) x) (over_is w row to there)

from_is : (w : World) (to : Names) (found : Result Row DiskError) (there : Result (Option Row) DiskError) → copied w to (copies_from found to there) ≡ found_then (λ row. copying_to w row to there) found
from_is w to (Err e) there = refl
from_is w to (Ok row) there = to_is w row to there

pub copy_is : (w : World) (from to : Names) (r : Result Copying DiskError) → copies w.tree from to ≡ r → copying w from to ≡ copied w to r
copy_is w from to r e = sym (from_is w to (look w.tree from) (place w.tree to)) ∙ ap (copied w to) e

-- ---- what a copy finds

over_makes : (row : Row) (to : Names) (there : Option Row) (n : ℕ) → copies_over row to there ≡ Ok (Makes n) → there ≡ None
over_makes row to None n e = refl
over_makes row to (Some there) n e = absurd (never (is_dir there.kind) (same_names row.path to) e)
  where
    never : (a b : Bool) → cond a (Err IsDir) (cond b (Ok Stays) (Ok (Fills row.number there.number))) ≡ Ok (Makes n) → ⊥
    never true b e = cc
    never false true e = cc
    never false false e = cc

kind_then : (b : Bool) (x : Result Copying DiskError) (c : Copying) → cond b (Err IsDir) x ≡ Ok c → x ≡ Ok c
kind_then true x c e = cc
kind_then false x c e = e

makes_by : (found : Result Row DiskError) (to : Names) (there : Result (Option Row) DiskError) (n : ℕ) → copies_from found to there ≡ Ok (Makes n) → there ≡ Ok None
makes_by (Err x) to there n e = cc
makes_by (Ok row) to (Err x) n e = cc
makes_by (Ok row) to (Ok there) n e = ap Ok (over_makes row to there n (kind_then (is_dir row.kind) (copies_over row to there) (Makes n) e))

-- a file is made where nothing stands
pub copy_free : (w : World) (from to : Names) (n : ℕ) → is_tree w.tree ≡ true → copies w.tree from to ≡ Ok (Makes n) → is_free_in w.tree to ≡ true
copy_free w from to n whole e = free_place w.tree to whole (makes_by (look w.tree from) to (place w.tree to) n e)

over_fills : (row : Row) (to : Names) (there : Option Row) (n m : ℕ) → copies_over row to there ≡ Ok (Fills n m) → (other : Row) × (there ≡ Some other) × (other.number ≡ m) × (is_dir other.kind ≡ false)
over_fills row to None n m e = cc
over_fills row to (Some there) n m e = (there, refl, numbers (is_dir there.kind) (same_names row.path to) e, no_dir (is_dir there.kind) (same_names row.path to) e)
  where
    numbers : (a b : Bool) → cond a (Err IsDir) (cond b (Ok Stays) (Ok (Fills row.number there.number))) ≡ Ok (Fills n m) → there.number ≡ m
    numbers true b e = cc
    numbers false true e = cc
    numbers false false e = cc

    no_dir : (a b : Bool) → cond a (Err IsDir) (cond b (Ok Stays) (Ok (Fills row.number there.number))) ≡ Ok (Fills n m) → a ≡ false
    no_dir true b e = cc
    no_dir false b e = refl

fills_by : (found : Result Row DiskError) (to : Names) (there : Result (Option Row) DiskError) (n m : ℕ) → copies_from found to there ≡ Ok (Fills n m) → (other : Row) × (there ≡ Ok (Some other)) × (other.number ≡ m) × (is_dir other.kind ≡ false)
fills_by (Err x) to there n m e = cc
fills_by (Ok row) to (Err x) n m e = cc
fills_by (Ok row) to (Ok there) n m e =
    let (other, same, number, file) = over_fills row to there n m (kind_then (is_dir row.kind) (copies_over row to there) (Fills n m) e) in
    (other, ap Ok same, number, file)

-- bytes are put into a file that stands there
pub copy_given : (w : World) (from to : Names) (n m : ℕ) → AreGiven w.tree w.files w.opens w.greatest w.latest → copies w.tree from to ≡ Ok (Fills n m) → m ≤ w.greatest
copy_given w from to n m given e =
    let (other, at, number, file) = fills_by (look w.tree from) to (place w.tree to) n m e in
    rw (← number) (placed_given w to other given at)

-- and it is no directory
pub copy_no_dir : (w : World) (from to : Names) (n m : ℕ) → is_tree w.tree ≡ true → copies w.tree from to ≡ Ok (Fills n m) → NamesNoDir w.tree m
copy_no_dir w from to n m whole e =
    let (other, at, number, file) = fills_by (look w.tree from) to (place w.tree to) n m e in
    rw (← number) (row_no_dir w.tree other whole (row_at_in w.tree to other (placed_row w.tree to (Some other) at)).0 file)
