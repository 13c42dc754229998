-- A rename, step by step.
use Rattle.std.proofs.Common.{◌≡◌, List, Bool, true, false, cond, map, Some, Result, Ok, Err, OnOk, sym, ap, ◌∙◌}
use Rattle.dav_core.specs.declared.tree.Row.{Row}
use Rattle.dav_core.specs.declared.time.FileTime.{FileTime}
use Rattle.dav_core.specs.Path.{Names, same_names, parent_of}
use Rattle.dav_core.specs.Tree.{look}
use Rattle.dav_core.specs.World.{World}
use Rattle.dav_core.specs.Changes.{tick, timed_row, touched_at, touched, then_touched, made_or, renames_to, parents_touched, renamed_found}
use Rattle.dav_disk.specs.Moves.{may_move, placed_at, touched_above}
use Rattle.dav_disk.proofs.Moved.{moved_world}

-- the directory that is reached gets a time of its own
abbrev pub reached_at : World → Names → Names → FileTime → FileTime → World
reached_at w from to first second = record (placed_at w from to first) { tree = map (timed_row (parent_of to) second) (placed_at w from to first).tree; latest = second }

may : (w : World) (row : Row) (to : Names) → renames_to w row to ≡ true → renamed_found (Ok row) to w ≡ made_or w (parents_touched row.path to (moved_world w row.path to))
may w row to e = ap (λ b. cond b (made_or w (parents_touched row.path to (moved_world w row.path to))) w) e

one : (w : World) (row : Row) (to : Names) (first : FileTime) → renames_to w row to ≡ true → tick w.latest ≡ Some first → same_names (parent_of row.path) (parent_of to) ≡ true
    → renamed_found (Ok row) to w ≡ placed_at w row.path to first
one w row to first e t same =
    let m : World = moved_world w row.path to in
    may w row to e
    ∙ ap (λ b. made_or w (cond b (touched (parent_of row.path) m) (then_touched (parent_of to) (touched (parent_of row.path) m)))) same
    ∙ ap (λ o. made_or w (touched_at (parent_of row.path) o m)) t

two : (w : World) (row : Row) (to : Names) (first second : FileTime) → renames_to w row to ≡ true → tick w.latest ≡ Some first → tick first ≡ Some second
    → same_names (parent_of row.path) (parent_of to) ≡ false → renamed_found (Ok row) to w ≡ reached_at w row.path to first second
two w row to first second e t u same =
    let m : World = moved_world w row.path to in
    may w row to e
    ∙ ap (λ b. made_or w (cond b (touched (parent_of row.path) m) (then_touched (parent_of to) (touched (parent_of row.path) m)))) same
    ∙ ap (λ o. made_or w (then_touched (parent_of to) (touched_at (parent_of row.path) o m))) t
    ∙ ap (λ o. made_or w (touched_at (parent_of to) o (placed_at w row.path to first))) u

-- what the code has found out before it moves a path
pub record Ready (w : World) (row : Row) (from to names target : Names) (rows : List Row) (first : FileTime) (ok : Bool) : Type 0 where
  pub found : look rows names ≡ Ok row
  pub rows_are : rows ≡ w.tree
  pub from_is : names ≡ from
  pub to_is : target ≡ to
  pub path : row.path ≡ names
  pub may_go : ok ≡ may_move row.kind w.tree names target
  pub goes : ok ≡ true
  pub ticked : Some first ≡ tick w.latest

found_at : (w : World) (row : Row) (from to names target : Names) (rows : List Row) (first : FileTime) (ok : Bool) → Ready w row from to names target rows first ok → look w.tree from ≡ Ok row
found_at w row from to names target rows first ok r = ap (look w.tree) (sym r.from_is) ∙ ap (λ rows. look rows names) (sym r.rows_are) ∙ r.found

may_at : (w : World) (row : Row) (from to names target : Names) (rows : List Row) (first : FileTime) (ok : Bool) → Ready w row from to names target rows first ok → renames_to w row to ≡ true
may_at w row from to names target rows first ok r =
    ap (λ p. may_move row.kind w.tree p to) r.path ∙ ap (may_move row.kind w.tree names) (sym r.to_is) ∙ sym r.may_go ∙ r.goes

parents_at : (row : Row) (names target to p q : Names) (b c : Bool) → row.path ≡ names → target ≡ to → p ≡ parent_of names → q ≡ parent_of target → b ≡ same_names p q → b ≡ c
    → same_names (parent_of row.path) (parent_of to) ≡ c
parents_at row names target to p q b c path same e f g h =
    ap (λ n. same_names (parent_of n) (parent_of to)) path ∙ ap (λ t. same_names (parent_of names) (parent_of t)) (sym same) ∙ sym (ap (λ p. same_names p (parent_of target)) e) ∙ sym (ap (same_names p) f) ∙ sym g ∙ h

pub renamed_once : (w : World) (row : Row) (from to names target p q : Names) (rows : List Row) (first : FileTime) (ok b : Bool) → Ready w row from to names target rows first ok
    → p ≡ parent_of names → q ≡ parent_of target → b ≡ same_names p q → b ≡ true → placed_at w names to first ≡ renamed_found (look w.tree from) to w
renamed_once w row from to names target p q rows first ok b r e f g h =
    sym (ap (λ f. renamed_found f to w) (found_at w row from to names target rows first ok r)
    ∙ one w row to first (may_at w row from to names target rows first ok r) (sym r.ticked) (parents_at row names target to p q b true r.path r.to_is e f g h)
    ∙ ap (λ n. placed_at w n to first) r.path)

pub renamed_twice : (w : World) (row : Row) (from to names target p q : Names) (rows : List Row) (first second : FileTime) (ok b : Bool) → Ready w row from to names target rows first ok
    → p ≡ parent_of names → q ≡ parent_of target → b ≡ same_names p q → b ≡ false → Some second ≡ tick first → reached_at w names to first second ≡ renamed_found (look w.tree from) to w
renamed_twice w row from to names target p q rows first second ok b r e f g h t =
    sym (ap (λ f. renamed_found f to w) (found_at w row from to names target rows first ok r)
    ∙ two w row to first second (may_at w row from to names target rows first ok r) (sym r.ticked) (sym t) (parents_at row names target to p q b false r.path r.to_is e f g h)
    ∙ ap (λ n. reached_at w n to first second) r.path)

-- where the answer is Ok, a weaker fact
pub on_ok : {E : Type 0} (P Q : Type 0) (result : Result Unit E) → (P → Q) → OnOk result P → OnOk result Q
on_ok P Q (Ok x) h p = h p
on_ok P Q (Err e) h p = p

-- the second directory gets its time
pub reached : (v u old : World) (target to names : Names) (first second : FileTime) → v ≡ touched_above u target second → u ≡ placed_at old names to first → target ≡ to → v ≡ reached_at old names to first second
reached v u old target to names first second touched placed is =
    touched ∙ ap (λ t. touched_above u t second) is ∙ ap (λ u. touched_above u to second) placed
