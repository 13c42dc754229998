-- A write to an open file leaves all but bytes and times.
use Rattle.std.proofs.Common.{◌≡◌, ◌==◌, ◌⊎◌, inl, inr, ℕ, Bool, true, false, cond, List, [], ◌∷◌, map, Option, Result, Ok, Err, refl, sym, ap, subst, ◌∙◌, arith}
use Rattle.std.specs.List.{AllZip}
use Rattle.dav_io.specs.Told.{Both}
use Rattle.dav_io.proofs.ToldLemmas.{both_map}
use Rattle.dav_core.specs.declared.handle.DiskError.{DiskError}
use Rattle.dav_core.specs.declared.handle.DiskError.TheVariants.{NotFound, Exists, NotDir, IsDir, NotEmpty, Failed, NoMemory}
use Rattle.dav_core.specs.declared.time.FileTime.{FileTime}
use Rattle.dav_core.specs.declared.tree.Row.{Row}
use Rattle.dav_core.specs.Disk.{DiskState, Live}
use Rattle.dav_core.specs.Edits.{Edited, IsNew, SameOpens, fills, timed_number}
use Rattle.dav_core.specs.Unchanged.{Retimed, SameBesidesFiles, SameBesidesOpens}
use Rattle.dav_core.specs.World.{NotAfter, World}
use Rattle.dav_core.specs.Writing.{WroteIn, Writes, WrittenIn, appends, can_write}
use Rattle.dav_core.proofs.TimesLemmas.{later_than, not_after_itself, not_after_then}

-- ---- the same, and one after the other

rows_same : (v w : World) (rows : List Row) → AllZip (Retimed v w) rows rows
rows_same v w [] = tt
rows_same v w (row ∷ rows) = (inl refl, rows_same v w rows)

same_latest : (a b : FileTime) → b ≡ a → NotAfter a b
same_latest a b e = rw e (not_after_itself a)

-- what is the same besides what is open is the same besides bytes and times
pub besides_files : (v w : World) → SameBesidesOpens v w → SameBesidesFiles v w
besides_files v w same = record {
  rows = subst (λ (rows : List Row). AllZip (Retimed v w) v.tree rows) (sym same.tree) (rows_same v w v.tree);
  script = same.script;
  greatest = (let e = same.greatest in omega arith);
  latest = same_latest v.latest w.latest same.latest;
}

pub files_same : (w : World) → SameBesidesFiles w w
files_same w = record { rows = rows_same w w w.tree; script = refl; greatest = omega arith; latest = not_after_itself w.latest }

pub new_from : (a b c : World) (t : FileTime) → NotAfter a.latest b.latest → IsNew b t c → IsNew a t c
new_from a b c t before new = record { later = later_than t a.latest b.latest before new.later; used = new.used; nanos = new.nanos }

new_on : (a b c : World) (t : FileTime) → NotAfter b.latest c.latest → IsNew a t b → IsNew a t c
new_on a b c t after new = record { later = new.later; used = not_after_then t b.latest c.latest new.used after; nanos = new.nanos }

row_then : (a b c : World) (x y z : Row) → NotAfter a.latest b.latest → NotAfter b.latest c.latest → Retimed a b x y → Retimed b c y z → Retimed a c x z
row_then a b c x y z before after (inl p) (inl q) = inl (q ∙ p)
row_then a b c x y z before after (inr (t, new, p)) (inl q) = inr (t, new_on a b c t after new, q ∙ p)
row_then a b c x y z before after (inl p) (inr (t, new, q)) = inr (t, new_from a b c t before new, q ∙ ap (λ (r : Row). record r { time = t }) p)
row_then a b c x y z before after (inr (s, old, p)) (inr (t, new, q)) =
    inr (t, new_from a b c t before new, q ∙ ap (λ (r : Row). record r { time = t }) p)

rows_then : (a b c : World) (xs ys zs : List Row) → NotAfter a.latest b.latest → NotAfter b.latest c.latest → AllZip (Retimed a b) xs ys → AllZip (Retimed b c) ys zs
    → AllZip (Retimed a c) xs zs
rows_then a b c [] [] [] before after p q = tt
rows_then a b c [] [] (z ∷ zs) before after p q = absurd q
rows_then a b c [] (y ∷ ys) zs before after p q = absurd p
rows_then a b c (x ∷ xs) [] zs before after p q = absurd p
rows_then a b c (x ∷ xs) (y ∷ ys) [] before after p q = absurd q
rows_then a b c (x ∷ xs) (y ∷ ys) (z ∷ zs) before after p q =
    (row_then a b c x y z before after p.0 q.0, rows_then a b c xs ys zs before after p.1 q.1)

pub files_then : (a b c : World) → SameBesidesFiles a b → SameBesidesFiles b c → SameBesidesFiles a c
files_then a b c p q = record {
  rows = rows_then a b c a.tree b.tree c.tree p.latest q.latest p.rows q.rows;
  script = q.script ∙ p.script;
  greatest = omega (arith, p.greatest, q.greatest);
  latest = not_after_then a.latest b.latest c.latest p.latest q.latest;
}

-- ---- a write

row_timed : (v w : World) (t : FileTime) (b : Bool) (row : Row) → IsNew v t w → Retimed v w row (cond b (record row { time = t }) row)
row_timed v w t true row new = inr (t, new, refl)
row_timed v w t false row new = inl refl

rows_timed : (v w : World) (number : ℕ) (t : FileTime) (rows : List Row) → IsNew v t w → AllZip (Retimed v w) rows (map (timed_number number t) rows)
rows_timed v w number t [] new = tt
rows_timed v w number t (row ∷ rows) new = (row_timed v w t (row.number == number) row new, rows_timed v w number t rows new)

-- a file that has other bytes
pub files_filled : (v w : World) (number : ℕ) (bytes : List ℕ) → Edited (fills number bytes) v w → SameBesidesFiles v w
files_filled v w number bytes (inl (equal, same)) = besides_files v w same
files_filled v w number bytes (inr (other, t, new, becomes)) = record {
  rows = subst (λ (rows : List Row). AllZip (Retimed v w) v.tree rows) (sym becomes.tree) (rows_timed v w number t v.tree new);
  script = becomes.script;
  greatest = becomes.greatest;
  latest = becomes.latest;
}

files_wrote : (append : Bool) (h : ℕ) (from : List ℕ) (n : ℕ) (v w : World) → WroteIn append h from n v w → SameBesidesFiles v w
files_wrote append h from n v w (o, at, some, within, edited, opens, listings) = files_filled v w _ _ edited

files_either : (l : Option Live) (h : ℕ) (from : List ℕ) (v w : World)
    → (SameBesidesOpens v w × SameOpens v w) ⊎ ((can_write l ≡ true) × (n : ℕ) × WroteIn (appends l) h from n v w) → SameBesidesFiles v w
files_either l h from v w (inl (same, opens)) = besides_files v w same
files_either l h from v w (inr (can, n, wrote)) = files_wrote (appends l) h from n v w wrote

files_written : (l : Option Live) (h : ℕ) (from : List ℕ) (answer : Result ℕ DiskError) (v w : World) → WrittenIn l h from answer v w → SameBesidesFiles v w
files_written l h from (Ok n) v w (can, wrote) = files_wrote (appends l) h from n v w wrote
files_written l h from (Err IsDir) v w (can, same, opens) = besides_files v w same
files_written l h from (Err NotFound) v w left = files_either l h from v w left
files_written l h from (Err Exists) v w left = files_either l h from v w left
files_written l h from (Err NotDir) v w left = files_either l h from v w left
files_written l h from (Err NotEmpty) v w left = files_either l h from v w left
files_written l h from (Err Failed) v w left = files_either l h from v w left
files_written l h from (Err NoMemory) v w left = files_either l h from v w left

-- a write of a disk
pub write_leaves : (h : ℕ) (from : List ℕ) (answer : Result ℕ DiskError) (s t : DiskState) → Writes s h from answer t → Both s.told t.told SameBesidesFiles
write_leaves h from answer s t writes = both_map s.told t.told (WrittenIn (s.live h) h from answer) SameBesidesFiles (λ v w done. files_written (s.live h) h from answer v w done) writes.told
