-- Rows at a path get a time.
use Rattle.std.proofs.Common.{◌≡◌, Bool, true, false, cond, refl, sym, ap, ◌∙◌}
use Rattle.dav_core.specs.declared.tree.Row.{Row}
use Rattle.dav_core.specs.declared.time.FileTime.{FileTime}
use Rattle.dav_core.specs.Path.{Names, same_names}
use Rattle.dav_core.specs.Changes.{timed_row}

pub time_set : (b : Bool) (t : FileTime) (r : Row) → b ≡ true → record r { time = t } ≡ cond b (record r { time = t }) r
time_set true t r e = refl
time_set false t r e = cc

pub time_left : (b : Bool) (t : FileTime) (r : Row) → b ≡ false → cond b (record r { time = t }) r ≡ r
time_left true t r e = cc
time_left false t r e = refl

pub timed_yes : (path other : Names) (t : FileTime) (b : Bool) (r : Row) → b ≡ same_names path other → other ≡ r.path → b ≡ true → record r { time = t } ≡ timed_row path t r
timed_yes path other t b r e same yes' = time_set (same_names path r.path) t r (sym (ap (same_names path) same) ∙ sym e ∙ yes')

pub timed_no : (path other : Names) (t : FileTime) (b : Bool) (r : Row) → b ≡ same_names path other → other ≡ r.path → b ≡ false → timed_row path t r ≡ r
timed_no path other t b r e same left = time_left (same_names path r.path) t r (sym (ap (same_names path) same) ∙ sym e ∙ left)
