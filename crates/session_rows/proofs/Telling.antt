-- The rows of a disk of which a book is true may be set.
use Rattle.std.proofs.Common.{◌≡◌, [], ◌∷◌, ◌++◌, Some, true, false, codes, refl, sym, ap}
use Rattle.std.specs.Prelude.{pos}
use Rattle.std.specs.Ordering.{int_eq}
use Rattle.std.proofs.lemmas.Bool.{false≢true}
use Rattle.dav_core.specs.declared.time.FileTime.{FileTime}
use Rattle.dav_core.specs.Path.{Names}
use Rattle.dav_core.specs.World.{World}
use Rattle.dav_disk.specs.Rows.{at_second, can_add, can_be_set, first_world, with_dir}
use Rattle.dav_model.specs.Folds.{Name}

pub can_add_dir : (w : World) (path : Names) (time : FileTime) → Some w ≡ Some first_world → path ≡ codes "d" ∷ [] → can_be_set time ≡ true
    → can_add w path 2 time ≡ true
can_add_dir w path time first is set = let world : w ≡ first_world = cc in rw (world, is, set) refl

pub can_add_file : (v w : World) (dir path : Names) (time : FileTime) (name : Name) → Some v ≡ Some first_world → dir ≡ codes "d" ∷ []
    → Some w ≡ Some (with_dir v dir 2 time) → path ≡ dir ++ name ∷ [] → can_be_set time ≡ true → can_add w path 3 time ≡ true
can_add_file v w dir path time name first is added below set =
    let world : v ≡ first_world = cc in
    let now : w ≡ with_dir v dir 2 time = cc in rw (now, world, below, is, set) refl

-- of which the book tells nothing
pub other_time : (name : Name) → at_second 2 ≡ at_second 1 → name ≡ codes "._a"
other_time name same =
    let bad : true ≡ false = ap (λ (t : FileTime). int_eq t.secs (pos 2)) same in absurd (false≢true (sym bad))
