-- Which rows and which bytes the edits of uploads leave.
use Rattle.std.proofs.Common.{◌≡◌, ◌≢◌, ◌⊎◌, ◌≤◌, ◌==◌, ◌||◌, ◌&&◌, ◌++◌, inl, inr, ℕ, List, [], ◌∷◌, map, Bool, true, false, not, Some, refl, sym, ap, ◌∙◌, arith}
use Rattle.std.proofs.lemmas.Bool.{and_parts, or_right}
use Rattle.std.proofs.lemmas.Bool.Decides.{nat_tests}
use Rattle.std.specs.List.{list_all}
use Rattle.dav_core.specs.declared.tree.Row.{Row}
use Rattle.dav_core.specs.declared.tree.Kind.TheVariants.{File}
use Rattle.dav_core.specs.declared.time.FileTime.{FileTime}
use Rattle.dav_core.specs.Changes.{is_leaf, moved_row, timed_row, without}
use Rattle.dav_core.specs.Edits.{Edited, fills, makes, moves, takes, timed_number as renewed_row}
use Rattle.dav_core.specs.Path.{Names, is_front, parent_of, same_names}
use Rattle.dav_core.specs.Tree.{has_dir, is_apart, is_free, is_placed, row_at}
use Rattle.dav_core.specs.World.{Holds, IsWorld, SameBesidesOpens, World, bytes_of, bytes_or_none, is_numbered, number_of}
use Rattle.dav_core.proofs.Rows.{row_at_in}
use Rattle.dav_core.proofs.Elements.{In}
use Rattle.dav_upload.specs.Kept.{KeepsRow}
use Rattle.dav_upload.proofs.Hiding.{fills_keep, moves_keep, takes_keep}
use Rattle.dav_upload.proofs.Kept.{kept_filled, kept_made, kept_moved, kept_same, kept_taken, makes_keep, renewed_number}
use Rattle.dav_core.proofs.ChangedRows.{moved_number, timed_number}
use Rattle.dav_core.proofs.Rows.{first_some, next_some}
use Rattle.dav_core.proofs.Paths.{names_same}

-- These rows stay, and what of these numbers somebody holds then was held, with its bytes.
pub record Leaves (P : ℕ → Type 0) (other : Names → Type 0) (v w : World) : Type 0 where
  pub rows : (path : Names) → other path → KeepsRow v w path
  pub bytes : (n : ℕ) → P n → Holds w n → Holds v n × (bytes_of w n ≡ bytes_of v n)

pub rows_then : (u v w : World) (p : Names) → KeepsRow u v p → KeepsRow v w p → KeepsRow u w p
rows_then u v w p a b r at =
    let (x, there, kind, number) = a r at in
    let (y, here, k, n) = b x there in
    (y, here, k ∙ kind, n ∙ number)

pub leaves_then : (P : ℕ → Type 0) (other : Names → Type 0) (u v w : World) → Leaves P other u v → Leaves P other v w → Leaves P other u w
leaves_then P other u v w a b = record {
  rows = λ p is. rows_then u v w p (a.rows p is) (b.rows p is);
  bytes = λ n of holds. (let (h, e) = b.bytes n of holds in let (g, f) = a.bytes n of h in (g, e ∙ f));
}

pub leaves_same : (P : ℕ → Type 0) (other : Names → Type 0) (v w : World) → SameBesidesOpens v w → Leaves P other v w
leaves_same P other v w same = record {
  rows = λ p is. kept_same v w p same;
  bytes = λ n of holds. ((same.files n holds).0, ap bytes_or_none (same.files n holds).1);
}

-- ---- the numbers of a tree

same_numbered : (f : Row → Row) → ((r : Row) → (f r).number ≡ r.number) → (rows : List Row) (n : ℕ) → is_numbered (map f rows) n ≡ is_numbered rows n
same_numbered f like [] n = refl
same_numbered f like (r ∷ rows) n = ap (λ k. (n == k) || is_numbered (map f rows) n) (like r) ∙ ap (λ b. (n == r.number) || b) (same_numbered f like rows n)

less_numbered : (path : Names) (rows : List Row) (n : ℕ) → is_numbered (without path rows) n ≡ true → is_numbered rows n ≡ true
less_numbered path [] n e = e
less_numbered path (r ∷ rows) n e = by (not (is_front path r.path)) refl e (less_numbered path rows n)
  where
    by_number : (c : Bool) → (n == r.number) ≡ c → ((n == r.number) || is_numbered (without path rows) n) ≡ true → (is_numbered (without path rows) n ≡ true → is_numbered rows n ≡ true)
        → ((n == r.number) || is_numbered rows n) ≡ true
    by_number true f g more = ap (λ b. b || is_numbered rows n) f
    by_number false f g more = or_right (n == r.number) (is_numbered rows n) (more (sym (ap (λ b. b || is_numbered (without path rows) n) f) ∙ g))

    by : (b : Bool) → not (is_front path r.path) ≡ b → is_numbered (without path (r ∷ rows)) n ≡ true → (is_numbered (without path rows) n ≡ true → is_numbered rows n ≡ true) → is_numbered (r ∷ rows) n ≡ true
    by false f g more = or_right (n == r.number) (is_numbered rows n) (more (rw f at g))
    by true f g more = by_number (n == r.number) refl (rw f at g) more

-- one row more, of another number
more_numbered : (row : Row) (rows : List Row) (n : ℕ) → n ≢ row.number → is_numbered (rows ++ row ∷ []) n ≡ true → is_numbered rows n ≡ true
more_numbered row [] n ne e = by (n == row.number) refl e
  where
    by : (b : Bool) → (n == row.number) ≡ b → ((n == row.number) || false) ≡ true → false ≡ true
    by true f g = absurd (ne (grind (arith, nat_tests, f)))
    by false f g = sym (ap (λ b. b || false) f) ∙ g
more_numbered row (r ∷ rows) n ne e = by (n == r.number) refl e (more_numbered row rows n ne)
  where
    by : (b : Bool) → (n == r.number) ≡ b → ((n == r.number) || is_numbered (rows ++ row ∷ []) n) ≡ true → (is_numbered (rows ++ row ∷ []) n ≡ true → is_numbered rows n ≡ true)
        → ((n == r.number) || is_numbered rows n) ≡ true
    by true f g more = ap (λ b. b || is_numbered rows n) f
    by false f g more = or_right (n == r.number) (is_numbered rows n) (more (sym (ap (λ b. b || is_numbered (rows ++ row ∷ []) n) f) ∙ g))

-- what is held by a tree with these rows, or by what is open as before
abbrev HeldBy : World → List Row → ℕ → Type 0
HeldBy v rows n = (is_numbered rows n ≡ true) ⊎ ((h : ℕ) × (number_of v h ≡ Some n))

held_by : (v : World) (rows : List Row) (n : ℕ) → (is_numbered rows n ≡ true → is_numbered v.tree n ≡ true) → HeldBy v rows n → Holds v n
held_by v rows n back (inl e) = inl (back e)
held_by v rows n back (inr h) = inr h

either : (v : World) (rows : List Row) (n : ℕ) → (is_numbered rows n ≡ true → is_numbered v.tree n ≡ true) → Holds v n ⊎ HeldBy v rows n → Holds v n
either v rows n back (inl h) = h
either v rows n back (inr h) = held_by v rows n back h

-- ---- the edits

pub leaves_made : (other : Names → Type 0) (v w : World) (path : Names) → ((p : Names) → other p → p ≡ path → ⊥) → Edited (makes path File []) v w → Leaves (λ n. n ≤ v.greatest) other v w
leaves_made other v w path off (number, t, u, next, new, later, becomes) =
    let row : Row = record { path = path; kind = File; number = number; time = t } in record {
      rows = λ p is. kept_made v w path p File [] (off p is) (number, t, u, next, new, later, becomes);
      bytes = λ n le holds. (
        either v (map (timed_row (parent_of path) u) (v.tree ++ row ∷ [])) n
            (λ e. more_numbered row v.tree n (λ f. (let above = next.above in omega (arith, f, le, above))) (sym (same_numbered (timed_row (parent_of path) u) (timed_number (parent_of path) u) (v.tree ++ row ∷ []) n) ∙ e))
            (becomes.files n holds).0,
        makes_keep v w path File [] n le (number, t, u, next, new, later, becomes) holds,
      );
    }

pub leaves_filled : (other : Names → Type 0) (v w : World) (number : ℕ) (bytes : List ℕ) → Edited (fills number bytes) v w → Leaves (λ n. n ≢ number) other v w
leaves_filled other v w number bytes (inl (is, same)) = leaves_same (λ n. n ≢ number) other v w same
leaves_filled other v w number bytes (inr (differs, t, new, becomes)) = record {
  rows = λ p is. kept_filled v w number bytes p (inr (differs, t, new, becomes));
  bytes = λ n ne holds. (
    either v (map (renewed_row number t) v.tree) n (λ e. sym (same_numbered (renewed_row number t) (renewed_number number t) v.tree n) ∙ e) (becomes.files n holds).0,
    fills_keep v w number bytes n ne (inr (differs, t, new, becomes)) holds,
  );
}

pub leaves_taken : (P : ℕ → Type 0) (other : Names → Type 0) (v w : World) (path : Names) → is_leaf path v.tree ≡ true → ((p : Names) → other p → p ≡ path → ⊥) → Edited (takes path) v w → Leaves P other v w
leaves_taken P other v w path leaf off (t, new, becomes) = record {
  rows = λ p is. kept_taken v w path p leaf (off p is) (t, new, becomes);
  bytes = λ n of holds. (
    either v (map (timed_row (parent_of path) t) (without path v.tree)) n
        (λ e. less_numbered path v.tree n (sym (same_numbered (timed_row (parent_of path) t) (timed_number (parent_of path) t) (without path v.tree) n) ∙ e)) (becomes.files n holds).0,
    takes_keep v w path n (t, new, becomes) holds,
  );
}

moved_numbered : (v : World) (from to : Names) (t u : FileTime) (n : ℕ) → is_numbered (map (timed_row (parent_of to) u) (map (timed_row (parent_of from) t) (map (moved_row from to) (without to v.tree)))) n ≡ true
    → is_numbered v.tree n ≡ true
moved_numbered v from to t u n e =
    less_numbered to v.tree n
    (sym (same_numbered (moved_row from to) (moved_number from to) (without to v.tree) n)
    ∙ (sym (same_numbered (timed_row (parent_of from) t) (timed_number (parent_of from) t) (map (moved_row from to) (without to v.tree)) n)
    ∙ (sym (same_numbered (timed_row (parent_of to) u) (timed_number (parent_of to) u) (map (timed_row (parent_of from) t) (map (moved_row from to) (without to v.tree))) n) ∙ e)))

pub leaves_moved : (P : ℕ → Type 0) (other : Names → Type 0) (v w : World) (from to : Names) → is_leaf from v.tree ≡ true → is_leaf to v.tree ≡ true → ((p : Names) → other p → (p ≡ from → ⊥) × (p ≡ to → ⊥))
    → Edited (moves from to) v w → Leaves P other v w
leaves_moved P other v w from to leaf over off (t, u, new, later, becomes) = record {
  rows = λ p is. kept_moved v w from to p leaf over (off p is).0 (off p is).1 (t, u, new, later, becomes);
  bytes = λ n of holds. (
    either v (map (timed_row (parent_of to) u) (map (timed_row (parent_of from) t) (map (moved_row from to) (without to v.tree)))) n (moved_numbered v from to t u n) (becomes.files n holds).0,
    moves_keep v w from to n (t, u, new, later, becomes) holds,
  );
}

-- ---- no number stands twice

free_of : (rows : List Row) (x s : Row) → is_free rows x ≡ true → In s rows → s.number ≡ x.number → ⊥
free_of [] x s free i e = i
free_of (r ∷ rows) x s free i e =
    let parts = and_parts (not (same_names r.path x.path) && not (r.number == x.number)) (list_all (λ other. not (same_names other.path x.path) && not (other.number == x.number)) rows) free in
    elim i [
      | inl same ↦
          let number : r.number ≡ x.number = ap (λ (y : Row). y.number) (sym same) ∙ e in
          let test : (r.number == x.number) ≡ true = grind (arith, nat_tests, number) in
          let off : not (r.number == x.number) ≡ true = (and_parts (not (same_names r.path x.path)) (not (r.number == x.number)) parts.0).1 in
          let no : false ≡ true = sym (ap not test) ∙ off in cc
      | inr j ↦ free_of rows x s parts.1 j e
    ]

once_numbered : (rows : List Row) → is_apart rows ≡ true → (p q : Names) (r s : Row) → row_at rows p ≡ Some r → row_at rows q ≡ Some s → r.number ≡ s.number → p ≡ q
once_numbered [] apart p q r s at there e = cc
once_numbered (x ∷ rows) apart p q r s at there e =
    by (same_names p x.path) (same_names q x.path) refl refl (once_numbered rows parts.1 p q r s)
  where
    parts : (is_free rows x ≡ true) × (is_apart rows ≡ true)
    parts = and_parts (is_free rows x) (is_apart rows) apart

    by : (a b : Bool) → same_names p x.path ≡ a → same_names q x.path ≡ b → (row_at rows p ≡ Some r → row_at rows q ≡ Some s → r.number ≡ s.number → p ≡ q) → p ≡ q
    by true true f g more = names_same p x.path f ∙ sym (names_same q x.path g)
    by true false f g more =
        let here : x ≡ r = first_some (same_names p x.path) x r (row_at rows p) f at in
        let i = (row_at_in rows q s (next_some (same_names q x.path) x s (row_at rows q) g there)).0 in
        absurd (free_of rows x s parts.0 i (sym e ∙ ap (λ (y : Row). y.number) (sym here)))
    by false true f g more =
        let here : x ≡ s = first_some (same_names q x.path) x s (row_at rows q) g there in
        let i = (row_at_in rows p r (next_some (same_names p x.path) x r (row_at rows p) f at)).0 in
        absurd (free_of rows x r parts.0 i (e ∙ ap (λ (y : Row). y.number) (sym here)))
    by false false f g more = more (next_some (same_names p x.path) x r (row_at rows p) f at) (next_some (same_names q x.path) x s (row_at rows q) g there) e

pub one_path : (w : World) → IsWorld w → (p q : Names) (r s : Row) → row_at w.tree p ≡ Some r → row_at w.tree q ≡ Some s → r.number ≡ s.number → p ≡ q
one_path w is p q r s =
    let t = and_parts (has_dir w.tree []) (list_all (is_placed w.tree) w.tree && is_apart w.tree) is.tree in
    once_numbered w.tree (and_parts (list_all (is_placed w.tree) w.tree) (is_apart w.tree) t.1).1 p q r s
