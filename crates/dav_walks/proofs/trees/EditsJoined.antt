-- Edits before and after what changes nothing, and edits one after the other that are one edit.
use Rattle.std.proofs.Common.{◌≡◌, ◌≤◌, ◌<◌, ◌≤ℤ◌, ◌==◌, ◌&&◌, ◌||◌, ◌++◌, ◌⊎◌, inl, inr, cond, not, ℕ, List, [], ◌∷◌, map, Bool, true, false, Option, None, Some, refl, sym, ap, ap₂, subst, ◌∙◌, arith, ℤ, int_lt, nat_lt}
use Rattle.std.specs.Ordering.{int_eq}
use Rattle.std.specs.List.{AllByRecursion}
use Rattle.std.proofs.lemmas.Bool.Decides.{nat_tests}
use Rattle.std.proofs.lemmas.Int.{ints}
use Rattle.std.proofs.lemmas.Bool.{eq-eqb, or_parts, or_right}
use Rattle.dav_core.specs.declared.time.FileTime.{FileTime}
use Rattle.dav_core.specs.declared.tree.Kind.{Kind}
use Rattle.dav_core.specs.declared.tree.Kind.TheVariants.{File}
use Rattle.dav_core.specs.declared.tree.Row.{Row}
use Rattle.dav_core.specs.Changes.{moved_row, timed_row, without}
use Rattle.dav_core.specs.Edits.{Becomes, Edited, IsNew, IsNext, fills, filled, made, makes, moved, moves, stored_as, taken, takes, timed_number, touched_to}
use Rattle.dav_core.specs.Path.{Names, is_front, parent_of, same_names}
use Rattle.dav_core.specs.Tree.{row_at}
use Rattle.dav_core.specs.World.{Holds, SameBesidesOpens, Stored, World, bytes_of, bytes_or_none, is_numbered, put}
use Rattle.dav_core.proofs.UnchangedLemmas.{equal_keys, other_keys, put_other, put_same, same_besides_then}
use Rattle.dav_core.proofs.EditsLemmas.{edit_then}
use Rattle.dav_core.proofs.ChangedRows.{moved_number, timed_kind, timed_number as timed_keeps, timed_path}
use Rattle.dav_core.proofs.TimesLemmas.{not_after_then}
use Rattle.dav_core.proofs.Rows.{first_none, next_some}

-- ---- what changes nothing, after an edit

-- ---- who has a number

pub numbered_map : (f : Row → Row) (n : ℕ) (rows : List Row) → ((row : Row) → (f row).number ≡ row.number) → is_numbered (map f rows) n ≡ is_numbered rows n
numbered_map f n [] keep = refl
numbered_map f n (row ∷ rows) keep = ap₂ ◌||◌ (ap (λ k. n == k) (keep row)) (numbered_map f n rows keep)

numbered_append : (n : ℕ) (rows : List Row) (row : Row) → is_numbered (rows ++ row ∷ []) n ≡ (is_numbered rows n || n == row.number)
numbered_append n [] row = or_none (n == row.number)
  where
    or_none : (b : Bool) → (b || false) ≡ (false || b)
    or_none true = refl
    or_none false = refl
numbered_append n (r ∷ rows) row = ap (λ b. n == r.number || b) (numbered_append n rows row) ∙ either (n == r.number) (is_numbered rows n) (n == row.number)
  where
    either : (a b c : Bool) → (a || (b || c)) ≡ ((a || b) || c)
    either true b c = refl
    either false b c = refl

renewed_keeps : (number : ℕ) (t : FileTime) (row : Row) → (timed_number number t row).number ≡ row.number
renewed_keeps number t row = by (row.number == number) refl
  where
    by : (b : Bool) → (row.number == number) ≡ b → (timed_number number t row).number ≡ row.number
    by true e = rw e refl
    by false e = rw e refl

-- a world with a row more, and its directory's time
abbrev pub with_new : Row → List ℕ → FileTime → World → World
with_new row bytes p u = touched_to (parent_of row.path) p (made row bytes u)

new_numbered : (row : Row) (bytes : List ℕ) (p : FileTime) (n : ℕ) (u : World) → is_numbered (with_new row bytes p u).tree n ≡ (is_numbered u.tree n || n == row.number)
new_numbered row bytes p n u =
    numbered_map (timed_row (parent_of row.path) p) n (u.tree ++ row ∷ []) (timed_keeps (parent_of row.path) p) ∙ numbered_append n u.tree row

or_false : (b c : Bool) → c ≡ false → (b || c) ≡ true → b ≡ true
or_false true c e f = refl
or_false false c e f = let g : true ≡ false = sym f ∙ e in cc

-- what is held after it was held before, or is the new row's
held_made : (row : Row) (bytes : List ℕ) (p : FileTime) (n : ℕ) (u : World) → (n == row.number) ≡ false → Holds u n ⊎ Holds (with_new row bytes p u) n → Holds u n
held_made row bytes p n u other (inl h) = h
held_made row bytes p n u other (inr (inl s)) = inl (or_false (is_numbered u.tree n) (n == row.number) other (sym (new_numbered row bytes p n u) ∙ s))
held_made row bytes p n u other (inr (inr o)) = inr o

made_held : (row : Row) (bytes : List ℕ) (p : FileTime) (n : ℕ) (u : World) → (n == row.number) ≡ true → Holds (with_new row bytes p u) n
made_held row bytes p n u same = inl (new_numbered row bytes p n u ∙ or_right (is_numbered u.tree n) (n == row.number) same)

pub held_filled : (number n : ℕ) (bytes : List ℕ) (t : FileTime) (u : World) → Holds u n ⊎ Holds (filled number bytes t u) n → Holds u n
held_filled number n bytes t u (inl h) = h
held_filled number n bytes t u (inr (inl s)) = inl (sym (numbered_map (timed_number number t) n u.tree (renewed_keeps number t)) ∙ s)
held_filled number n bytes t u (inr (inr o)) = inr o

kept_numbered : (b here : Bool) (n : ℕ) (row : Row) (kept rows : List Row) → (n == row.number) ≡ here → (is_numbered kept n ≡ true → is_numbered rows n ≡ true)
    → is_numbered (cond b (row ∷ kept) kept) n ≡ true → is_numbered (row ∷ rows) n ≡ true
kept_numbered b true n row kept rows e more h = ap (λ x. x || is_numbered rows n) e
kept_numbered true false n row kept rows e more h = ap (λ x. x || is_numbered rows n) e ∙ more (sym (ap (λ x. x || is_numbered kept n) e) ∙ h)
kept_numbered false false n row kept rows e more h = ap (λ x. x || is_numbered rows n) e ∙ more h

numbered_without : (path : Names) (n : ℕ) (rows : List Row) → is_numbered (without path rows) n ≡ true → is_numbered rows n ≡ true
numbered_without path n [] e = e
numbered_without path n (row ∷ rows) e =
    kept_numbered (not (is_front path row.path)) (n == row.number) n row (without path rows) rows refl (numbered_without path n rows) e

-- what a removal leaves was there
taken_held : (path dir : Names) (n : ℕ) (t : FileTime) (u : World) → Holds u n ⊎ Holds (touched_to dir t (taken path u)) n → Holds u n
taken_held path dir n t u (inl h) = h
taken_held path dir n t u (inr (inl s)) = inl (numbered_without path n u.tree (sym (numbered_map (timed_row dir t) n (without path u.tree) (timed_keeps dir t)) ∙ s))
taken_held path dir n t u (inr (inr o)) = inr o

-- what is held after a move was held before
moved_held : (from to old new : Names) (n : ℕ) (t p : FileTime) (u : World) → Holds u n ⊎ Holds (touched_to new p (touched_to old t (moved from to u))) n → Holds u n
moved_held from to old new n t p u (inl h) = h
moved_held from to old new n t p u (inr (inl s)) =
    let left = map (moved_row from to) (without to u.tree) in
    let same : is_numbered (map (timed_row new p) (map (timed_row old t) left)) n ≡ is_numbered (without to u.tree) n =
    numbered_map (timed_row new p) n (map (timed_row old t) left) (timed_keeps new p)
    ∙ (numbered_map (timed_row old t) n left (timed_keeps old t) ∙ numbered_map (moved_row from to) n (without to u.tree) (moved_number from to)) in
    inl (numbered_without to n u.tree (sym same ∙ s))
moved_held from to old new n t p u (inr (inr o)) = inr o

-- ---- what changes nothing, before an edit

new_after : (v u w : World) (t : FileTime) → SameBesidesOpens v u → IsNew u t w → IsNew v t w
new_after v u w t same new = record { later = rw (← same.latest) new.later; used = new.used; nanos = new.nanos }

-- A removal after looks is a removal of the world before them.
pub taken_after : (path : Names) (v u w : World) → SameBesidesOpens v u → Edited (takes path) u w → Edited (takes path) v w
taken_after path v u w same (t, new, e) = (
  t,
  new_after v u w t same new,
  record {
    tree = e.tree ∙ ap (λ tree. map (timed_row (parent_of path) t) (without path tree)) same.tree;
    files = λ n h.
        (let back = e.files n h in
        let first = same.files n (taken_held path (parent_of path) n t u back.0) in
        (inl first.0, back.1 ∙ first.1));
    script = e.script ∙ same.script;
    greatest = rw (← same.greatest) e.greatest;
    latest = rw (← same.latest) e.latest;
  },
)

-- So is a move.
pub moved_after : (from to : Names) (v u w : World) → SameBesidesOpens v u → Edited (moves from to) u w → Edited (moves from to) v w
moved_after from to v u w same (t, p, new, more, e) = (
  t,
  p,
  new_after v u w t same new,
  new_after v u w p same more,
  record {
    tree = e.tree ∙ ap (λ tree. map (timed_row (parent_of to) p) (map (timed_row (parent_of from) t) (map (moved_row from to) (without to tree)))) same.tree;
    files = λ n h.
        (let back = e.files n h in
        let first = same.files n (moved_held from to (parent_of from) (parent_of to) n t p u back.0) in
        (inl first.0, back.1 ∙ first.1));
    script = e.script ∙ same.script;
    greatest = rw (← same.greatest) e.greatest;
    latest = rw (← same.latest) e.latest;
  },
)

pub put_like : {A : Type 0} (b : Bool) (k n : ℕ) (x : A) (f g : ℕ → A) → (n == k) ≡ b → (b ≡ false → f n ≡ g n) → put k x f n ≡ put k x g n
put_like true k n x f g e h = rw e refl
put_like false k n x f g e h = rw e (h refl)

made_files : (b : Bool) (row : Row) (bytes : List ℕ) (p : FileTime) (n : ℕ) (v u : World) → SameBesidesOpens v u → (n == row.number) ≡ b → Holds u n ⊎ Holds (with_new row bytes p u) n
    → (Holds v n ⊎ Holds (with_new row bytes p v) n) × ((with_new row bytes p u).files n ≡ (with_new row bytes p v).files n)
made_files true row bytes p n v u same own held =
    (inr (made_held row bytes p n v own), put_like true row.number n (stored_as row.kind bytes row.time) u.files v.files own (λ e. cc))
made_files false row bytes p n v u same own held =
    let first = same.files n (held_made row bytes p n u own held) in
    (inl first.0, put_like false row.number n (stored_as row.kind bytes row.time) u.files v.files own (λ e. first.1))

-- What is made after looks is made of the world before them.
pub made_after : (path : Names) (kind : Kind) (bytes : List ℕ) (v u w : World) → SameBesidesOpens v u → Edited (makes path kind bytes) u w → Edited (makes path kind bytes) v w
made_after path kind bytes v u w same (number, t, p, next, new, dir, e) =
    let row : Row = record { path = path; kind = kind; number = number; time = t } in (
      number,
      t,
      p,
      record { above = rw (← same.greatest) next.above; used = next.used },
      new_after v u w t same new,
      new_after v u w p same dir,
      record {
        tree = e.tree ∙ ap (λ tree. map (timed_row (parent_of path) p) (tree ++ row ∷ [])) same.tree;
        files = λ n h.
            (let back = e.files n h in
            let first = made_files (n == number) row bytes p n v u same refl back.0 in
            (first.0, back.1 ∙ first.1));
        script = e.script ∙ same.script;
        greatest = rw (← same.greatest) e.greatest;
        latest = rw (← same.latest) e.latest;
      },
    )

filled_files : (b : Bool) (number : ℕ) (bytes : List ℕ) (t : FileTime) (n : ℕ) (v u : World) → SameBesidesOpens v u → (n == number) ≡ b → Holds u n
    → Holds v n × ((filled number bytes t u).files n ≡ (filled number bytes t v).files n)
filled_files b number bytes t n v u same own held =
    let first = same.files n held in
    (first.0, put_like b number n (Some (record { bytes = bytes; time = t })) u.files v.files own (λ e. first.1))

-- A file that somebody holds is filled after looks as before them.
pub filled_after : (number : ℕ) (bytes : List ℕ) (v u w : World) → Holds u number → SameBesidesOpens v u → Edited (fills number bytes) u w → Edited (fills number bytes) v w
filled_after number bytes v u w held same (inl (is, rest)) =
    inl (is ∙ ap bytes_or_none (same.files number held).1, same_besides_then v u w same rest)
filled_after number bytes v u w held same (inr (other, t, new, e)) =
    inr (
      (λ is. other (is ∙ sym (ap bytes_or_none (same.files number held).1))),
      t,
      new_after v u w t same new,
      record {
        tree = e.tree ∙ ap (λ tree. map (timed_number number t) tree) same.tree;
        files = λ n h.
            (let back = e.files n h in
            let first = filled_files (n == number) number bytes t n v u same refl (held_filled number n bytes t u back.0) in
            (inl first.0, back.1 ∙ first.1));
        script = e.script ∙ same.script;
        greatest = rw (← same.greatest) e.greatest;
        latest = rw (← same.latest) e.latest;
      },
    )

-- A file that is held has the bytes that it was filled with.
pub filled_bytes : (number : ℕ) (bytes : List ℕ) (v w : World) → Edited (fills number bytes) v w → Holds w number → bytes_of w number ≡ bytes
filled_bytes number bytes v w (inl (same, besides)) held = ap bytes_or_none (besides.files number held).1 ∙ sym same
filled_bytes number bytes v w (inr (differs, t, later, becomes)) held =
    let stored : Option Stored = Some (record { bytes = bytes; time = t }) in
    ap bytes_or_none ((becomes.files number held).1 ∙ put_same number stored v.files)

-- ---- a file that is made and then filled

-- a time that is later than one is later than each that isn't after it
pub later_than : (a b c : ℤ) (k m n : ℕ) → (int_lt b a || (int_eq a b && nat_lt m k)) ≡ true → c ≤ℤ b → (c ≡ b → n ≤ m) → (int_lt c a || (int_eq a c && nat_lt n k)) ≡ true
later_than a b c k m n e le f = grind (arith, ints, nat_tests)

abbrev file_row : Names → ℕ → FileTime → Row
file_row path number t = record { path = path; kind = File; number = number; time = t }

other_number : (a b : ℕ) → (a == b) ≡ false → (b == a) ≡ false
other_number a b e = grind (arith, nat_tests)

other_row : (b : Bool) (number : ℕ) (t p : FileTime) (dir : Names) (row : Row) → same_names dir row.path ≡ b → (row.number == number) ≡ false
    → timed_number number t (timed_row dir p row) ≡ timed_row dir p row
other_row true number t p dir row e f = rw (e, f) refl
other_row false number t p dir row e f = rw (e, f) refl

own_row : (number : ℕ) (s t p : FileTime) (dir path : Names) → same_names dir path ≡ false
    → timed_number number t (timed_row dir p (file_row path number s)) ≡ timed_row dir p (file_row path number t)
own_row number s t p dir path e = rw (e, eq-eqb number number refl) refl

rows_filled : (number : ℕ) (s t p : FileTime) (dir path : Names) (rows : List Row) → same_names dir path ≡ false → is_numbered rows number ≡ false
    → map (timed_number number t) (map (timed_row dir p) (rows ++ file_row path number s ∷ [])) ≡ map (timed_row dir p) (rows ++ file_row path number t ∷ [])
rows_filled number s t p dir path [] e free = ap (λ r. r ∷ []) (own_row number s t p dir path e)
rows_filled number s t p dir path (row ∷ rows) e free =
    let parts = or_parts (number == row.number) (is_numbered rows number) free in
    ap₂ ◌∷◌ (other_row (same_names dir row.path) number t p dir row refl (other_number number row.number parts.0)) (rows_filled number s t p dir path rows e parts.1)

made_filled_files : (b : Bool) (path : Names) (number : ℕ) (bytes : List ℕ) (s t p : FileTime) (n : ℕ) (u v w : World) → (n == number) ≡ b
    → Becomes u (with_new (file_row path number s) [] p u) v → Holds v n → w.files n ≡ put number (Some (record { bytes = bytes; time = t })) v.files n
    → (Holds u n ⊎ Holds (with_new (file_row path number t) bytes p u) n) × (w.files n ≡ (with_new (file_row path number t) bytes p u).files n)
made_filled_files true path number bytes s t p n u v w own made held is =
    (inr (made_held (file_row path number t) bytes p n u own), is ∙ put_like true number n (Some (record { bytes = bytes; time = t })) v.files u.files own (λ e. cc))
made_filled_files false path number bytes s t p n u v w own made held is =
    let back = made.files n held in
    let other = other_keys n number own in (
      inl (held_made (file_row path number s) [] p n u own back.0),
      is
          ∙ put_like false number n (Some (record { bytes = bytes; time = t })) v.files u.files own
          (λ e. back.1 ∙ put_other number n (Some (record { bytes = []; time = s })) u.files other),
    )

made_and_filled : (path : Names) (number : ℕ) (bytes : List ℕ) (s t p : FileTime) (u v w : World) → same_names (parent_of path) path ≡ false → is_numbered u.tree number ≡ false
    → IsNext u number v → IsNew u p v → Becomes u (with_new (file_row path number s) [] p u) v → IsNew v t w → Becomes v (filled number bytes t v) w → Edited (makes path File bytes) u w
made_and_filled path number bytes s t p u v w apart free next dir made new q = (
  number,
  t,
  p,
  record { above = next.above; used = (let a = next.used in let b = q.greatest in omega arith) },
  record { later = later_than t.secs v.latest.secs u.latest.secs t.nanos v.latest.nanos u.latest.nanos new.later made.latest.0 made.latest.1; used = new.used; nanos = new.nanos },
  record { later = dir.later; used = not_after_then p v.latest w.latest dir.used q.latest; nanos = dir.nanos },
  record {
    tree = q.tree ∙ (ap (map (timed_number number t)) made.tree ∙ rows_filled number s t p (parent_of path) path u.tree apart free);
    files = λ n h.
        (let back = q.files n h in
        made_filled_files (n == number) path number bytes s t p n u v w refl made (held_filled number n bytes t v back.0) back.1);
    script = q.script ∙ made.script;
    greatest = (let l = made.greatest in let m = q.greatest in omega arith);
    latest = not_after_then u.latest v.latest w.latest made.latest q.latest;
  },
)

found_is : (b : Bool) (row found : Row) → cond b (Some row) None ≡ Some found → found ≡ row
found_is true row found e = cc
found_is false row found e = cc

pub made_found : (path dir : Names) (number : ℕ) (s p : FileTime) (found : Row) (rows : List Row) → row_at rows path ≡ None
    → row_at (map (timed_row dir p) (rows ++ file_row path number s ∷ [])) path ≡ Some found → found ≡ timed_row dir p (file_row path number s)
made_found path dir number s p found [] none e = found_is _ (timed_row dir p (file_row path number s)) found e
made_found path dir number s p found (row ∷ rows) none e =
    let first = first_none (same_names path row.path) row (row_at rows path) none in
    made_found path dir number s p found rows first.1
    (next_some _ (timed_row dir p row) found _ (ap (same_names path) (timed_path dir p row) ∙ first.0) e)

-- a row is a regular file of this number
pub record IsFile (row : Row) (number : ℕ) : Type 0 where
  pub numbered : row.number ≡ number
  pub kind : row.kind ≡ File

pub made_file : (path dir : Names) (number : ℕ) (s p : FileTime) (found : Row) (rows : List Row) → row_at rows path ≡ None
    → row_at (map (timed_row dir p) (rows ++ file_row path number s ∷ [])) path ≡ Some found → IsFile found number
made_file path dir number s p found rows none e =
    let is = made_found path dir number s p found rows none e in record {
      numbered = ap (λ (r : Row). r.number) is ∙ timed_keeps dir p (file_row path number s);
      kind = ap (λ (r : Row). r.kind) is ∙ timed_kind dir p (file_row path number s);
    }

renewed_parts : (number : ℕ) (t : FileTime) (row : Row) → ((timed_number number t row).path ≡ row.path) × ((timed_number number t row).kind ≡ row.kind)
renewed_parts number t row = by (row.number == number) refl
  where
    by : (b : Bool) → (row.number == number) ≡ b → ((timed_number number t row).path ≡ row.path) × ((timed_number number t row).kind ≡ row.kind)
    by true e = rw e (refl, refl)
    by false e = rw e (refl, refl)

renewed_at : (b : Bool) (number : ℕ) (t : FileTime) (path : Names) (row there found : Row) (rest more : Option Row) → same_names path row.path ≡ b
    → (rest ≡ Some there → more ≡ Some found → (found.number ≡ there.number) × (found.kind ≡ there.kind)) → cond b (Some row) rest ≡ Some there
    → cond b (Some (timed_number number t row)) more ≡ Some found → (found.number ≡ there.number) × (found.kind ≡ there.kind)
renewed_at true number t path row there found rest more e on at now =
    let first : row ≡ there = cc in
    let second : timed_number number t row ≡ found = cc in (
      ap (λ (r : Row). r.number) (sym second) ∙ (renewed_keeps number t row ∙ ap (λ (r : Row). r.number) first),
      ap (λ (r : Row). r.kind) (sym second) ∙ ((renewed_parts number t row).1 ∙ ap (λ (r : Row). r.kind) first),
    )
renewed_at false number t path row there found rest more e on at now = on at now

-- What stands at a path has its number and its kind where a file got another time.
pub renewed_found : (number : ℕ) (t : FileTime) (path : Names) (there found : Row) (rows : List Row) → row_at rows path ≡ Some there
    → row_at (map (timed_number number t) rows) path ≡ Some found → (found.number ≡ there.number) × (found.kind ≡ there.kind)
renewed_found number t path there found [] at now = cc
renewed_found number t path there found (row ∷ rows) at now =
    renewed_at (same_names path row.path) number t path row there found (row_at rows path) (row_at (map (timed_number number t) rows) path) refl
    (renewed_found number t path there found rows) at
    (sym (ap (λ b. cond b (Some (timed_number number t row)) (row_at (map (timed_number number t) rows) path)) (ap (same_names path) (renewed_parts number t row).0)) ∙ now)

filled_row : (number : ℕ) (bytes : List ℕ) (path : Names) (there found : Row) (v w : World) → Edited (fills number bytes) v w → row_at v.tree path ≡ Some there → row_at w.tree path ≡ Some found
    → (found.number ≡ there.number) × (found.kind ≡ there.kind)
filled_row number bytes path there found v w (inl (is, same)) at now =
    let one : Some there ≡ Some found = sym at ∙ (ap (λ rows. row_at rows path) (sym same.tree) ∙ now) in
    let row : there ≡ found = cc in
    (ap (λ (r : Row). r.number) (sym row), ap (λ (r : Row). r.kind) (sym row))
filled_row number bytes path there found v w (inr (other, t, new, q)) at now =
    renewed_found number t path there found v.tree at (ap (λ rows. row_at rows path) (sym q.tree) ∙ now)

-- the file at a path that was filled
pub filled_file : (number : ℕ) (bytes : List ℕ) (path : Names) (there found : Row) (v w : World) → Edited (fills number bytes) v w → row_at v.tree path ≡ Some there → there.kind ≡ File
    → row_at w.tree path ≡ Some found → IsFile found there.number
filled_file number bytes path there found v w edited at kind now =
    let parts = filled_row number bytes path there found v w edited at now in
    record { numbered = parts.0; kind = parts.1 ∙ kind }

-- no row has a number above all
not_its : (b : Bool) (n greatest : ℕ) (row : Row) (rest : Bool) → (n == row.number) ≡ b → row.number ≤ greatest → greatest < n → rest ≡ false → (n == row.number || rest) ≡ false
not_its true n greatest row rest e le lt more = absurd (let same = equal_keys n row.number e in omega arith)
not_its false n greatest row rest e le lt more = ap (λ x. x || rest) e ∙ more

pub above_all : (n greatest : ℕ) (rows : List Row) → AllByRecursion (λ (row : Row). row.number ≤ greatest) rows → greatest < n → is_numbered rows n ≡ false
above_all n greatest [] all lt = refl
above_all n greatest (row ∷ rows) all lt = not_its (n == row.number) n greatest row (is_numbered rows n) refl all.0 lt (above_all n greatest rows all.1 lt)

-- An empty file that was made has no bytes.
pub made_bytes : (path : Names) (number : ℕ) (u v : World) (edited : Edited (makes path File []) u v) → edited.0 ≡ number → Holds v number → bytes_of v number ≡ []
made_bytes path number u v (own, s, p, next, new, dir, becomes) same held =
    ap bytes_or_none ((becomes.files number held).1 ∙ (ap (λ k. put k (Some (record { bytes = []; time = s })) u.files number) same ∙ put_same number (Some (record { bytes = []; time = s })) u.files))

filled_whole : (path : Names) (bytes : List ℕ) (u v w : World) (edited : Edited (makes path File []) u v) → same_names (parent_of path) path ≡ false
    → AllByRecursion (λ (row : Row). row.number ≤ u.greatest) u.tree → Holds v edited.0 → Edited (fills edited.0 bytes) v w → Edited (makes path File bytes) u w
filled_whole path bytes u v w edited apart given held (inl (is, same)) =
    let none : bytes ≡ [] = is ∙ made_bytes path edited.0 u v edited refl held in
    subst (λ b. Edited (makes path File b) u w) (sym none) (edit_then (makes path File []) u v w edited same)
filled_whole path bytes u v w (number, s, p, next, new, dir, becomes) apart given held (inr (other, t, later, q)) =
    made_and_filled path number bytes s t p u v w apart (above_all number u.greatest u.tree given next.above) next dir becomes later q

-- A file that is made empty and then filled is made with its bytes.
pub made_filled : (path : Names) (number : ℕ) (bytes : List ℕ) (u v w : World) (edited : Edited (makes path File []) u v) → same_names (parent_of path) path ≡ false
    → AllByRecursion (λ (row : Row). row.number ≤ u.greatest) u.tree → edited.0 ≡ number → Holds v number → Edited (fills number bytes) v w → Edited (makes path File bytes) u w
made_filled path number bytes u v w edited apart given same held fill =
    filled_whole path bytes u v w edited apart given (subst (Holds v) (sym same) held) (subst (λ n. Edited (fills n bytes) v w) (sym same) fill)
