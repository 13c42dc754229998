-- Rows with another time or another path are otherwise the same.
use Rattle.std.specs.Prelude.{◌≡◌, Bool, true, false, cond, refl}
use Rattle.dav_core.specs.declared.time.FileTime.{FileTime}
use Rattle.dav_core.specs.declared.tree.Row.{Row}
use Rattle.dav_core.specs.Changes.{moved_row, timed_row}
use Rattle.dav_core.specs.Path.{Names, is_front, same_names}

-- ---- a row that may get another time

pub set_path : (b : Bool) (t : FileTime) (r : Row) → (cond b (record r { time = t }) r).path ≡ r.path
set_path true t r = refl
set_path false t r = refl

pub set_kind : (b : Bool) (t : FileTime) (r : Row) → (cond b (record r { time = t }) r).kind ≡ r.kind
set_kind true t r = refl
set_kind false t r = refl

pub set_number : (b : Bool) (t : FileTime) (r : Row) → (cond b (record r { time = t }) r).number ≡ r.number
set_number true t r = refl
set_number false t r = refl

-- ---- the row of a path

pub timed_path : (path : Names) (t : FileTime) (r : Row) → (timed_row path t r).path ≡ r.path
timed_path path t r = set_path (same_names path r.path) t r

pub timed_kind : (path : Names) (t : FileTime) (r : Row) → (timed_row path t r).kind ≡ r.kind
timed_kind path t r = set_kind (same_names path r.path) t r

pub timed_number : (path : Names) (t : FileTime) (r : Row) → (timed_row path t r).number ≡ r.number
timed_number path t r = set_number (same_names path r.path) t r

-- ---- a row that is moved

pub moved_number : (from to : Names) (r : Row) → (moved_row from to r).number ≡ r.number
moved_number from to r = by (is_front from r.path) refl
  where
    by : (b : Bool) → is_front from r.path ≡ b → (moved_row from to r).number ≡ r.number
    by true e = rw e refl
    by false e = rw e refl
