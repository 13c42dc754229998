-- What the edits of uploads leave of other rows, and of the bytes of other files.
use Rattle.std.proofs.Common.{◌≡◌, ◌≢◌, ◌≤◌, ◌<◌, ◌++◌, ◌==◌, inl, inr, ℕ, List, [], ◌∷◌, Bool, true, false, cond, Option, None, Some, refl, sym, ap, subst, ◌∙◌, arith}
use Rattle.std.specs.Option.{option_map}
use Rattle.dav_core.specs.declared.tree.Row.{Row}
use Rattle.dav_core.specs.declared.tree.Kind.{Kind}
use Rattle.dav_core.specs.declared.tree.Kind.TheVariants.{Dir, File, Link}
use Rattle.dav_core.specs.declared.time.FileTime.{FileTime}
use Rattle.dav_core.specs.Changes.{is_leaf, timed_row, without}
use Rattle.dav_core.specs.Edits.{Edited, fills, makes, moves, stored_as, takes, timed_number as renewed_row}
use Rattle.dav_core.specs.Path.{Names, parent_of, same_names}
use Rattle.dav_core.specs.Tree.{row_at}
use Rattle.dav_core.specs.World.{Holds, SameBesidesOpens, World, bytes_of, bytes_or_none, put}
use Rattle.dav_core.proofs.UnchangedLemmas.{put_other, put_same}
use Rattle.dav_upload.specs.Kept.{KeepsRow}
use Rattle.dav_upload.specs.Names.{is_hidden_path}
use Rattle.dav_upload.specs.Shown.{AreBelow, IsUnseen, SameShown, ShownRow, shown_as, shown_at, shown_row}
use Rattle.dav_upload.proofs.Making.{more_at, renewed_at}
use Rattle.dav_upload.proofs.Moving.{after_at, beside_at, leaf_without, moved_at, timed_at, twice}
use Rattle.dav_core.proofs.Paths.{names_equal}
use Rattle.dav_core.proofs.ChangedRows.{timed_kind, timed_number}

-- ---- rows

like_row : (v w : World) (p : Names) (f : Row → Row) → ((r : Row) → ((f r).kind ≡ r.kind) × ((f r).number ≡ r.number)) → row_at w.tree p ≡ option_map f (row_at v.tree p) → KeepsRow v w p
like_row v w p f keeps at r was = (f r, at ∙ ap (option_map f) was, (keeps r).0, (keeps r).1)

pub kept_same : (v w : World) (p : Names) → SameBesidesOpens v w → KeepsRow v w p
kept_same v w p same r was = (r, ap (λ rows. row_at rows p) same.tree ∙ was, refl, refl)

pub kept_taken : (v w : World) (path p : Names) → is_leaf path v.tree ≡ true → (p ≡ path → ⊥) → Edited (takes path) v w → KeepsRow v w p
kept_taken v w path p leaf ne (t, new, becomes) =
    like_row v w p (timed_row (parent_of path) t) (λ r. (timed_kind (parent_of path) t r, timed_number (parent_of path) t r))
    (ap (λ rows. row_at rows p) becomes.tree ∙ (timed_at (parent_of path) t (without path v.tree) p ∙ ap (option_map (timed_row (parent_of path) t)) (beside_at path v.tree p leaf ne)))

twice_map : (a b : Names) (t u : FileTime) (o : Option Row) → option_map (timed_row b u) (option_map (timed_row a t) o) ≡ option_map (twice a b t u) o
twice_map a b t u None = refl
twice_map a b t u (Some r) = refl

pub kept_moved : (v w : World) (from to p : Names) → is_leaf from v.tree ≡ true → is_leaf to v.tree ≡ true → (p ≡ from → ⊥) → (p ≡ to → ⊥) → Edited (moves from to) v w → KeepsRow v w p
kept_moved v w from to p leaf over ne other (t, u, new, later, becomes) =
    like_row v w p (twice (parent_of from) (parent_of to) t u)
    (λ r. (
      timed_kind (parent_of to) u (timed_row (parent_of from) t r) ∙ timed_kind (parent_of from) t r,
      timed_number (parent_of to) u (timed_row (parent_of from) t r) ∙ timed_number (parent_of from) t r,
    ))
    (ap (λ rows. row_at rows p) becomes.tree
    ∙ (after_at from to t u v.tree p (row_at v.tree p) (moved_at from to (without to v.tree) p (leaf_without from to v.tree leaf) other ne ∙ beside_at to v.tree p over other)
    ∙ twice_map (parent_of from) (parent_of to) t u (row_at v.tree p)))

pub kept_made : (v w : World) (path p : Names) (kind : Kind) (bytes : List ℕ) → (p ≡ path → ⊥) → Edited (makes path kind bytes) v w → KeepsRow v w p
kept_made v w path p kind bytes ne (number, t, u, next, new, later, becomes) =
    let row : Row = record { path = path; kind = kind; number = number; time = t } in
    like_row v w p (timed_row (parent_of path) u) (λ r. (timed_kind (parent_of path) u r, timed_number (parent_of path) u r))
    (ap (λ rows. row_at rows p) becomes.tree ∙ (timed_at (parent_of path) u (v.tree ++ row ∷ []) p ∙ ap (option_map (timed_row (parent_of path) u)) (more_at row v.tree p ne)))

pub renewed_kind : (number : ℕ) (t : FileTime) (r : Row) → (renewed_row number t r).kind ≡ r.kind
renewed_kind number t r = by (r.number == number) refl
  where
    by : (b : Bool) → (r.number == number) ≡ b → (renewed_row number t r).kind ≡ r.kind
    by true e = rw e refl
    by false e = rw e refl

pub renewed_number : (number : ℕ) (t : FileTime) (r : Row) → (renewed_row number t r).number ≡ r.number
renewed_number number t r = by (r.number == number) refl
  where
    by : (b : Bool) → (r.number == number) ≡ b → (renewed_row number t r).number ≡ r.number
    by true e = rw e refl
    by false e = rw e refl

pub kept_filled : (v w : World) (number : ℕ) (bytes : List ℕ) (p : Names) → Edited (fills number bytes) v w → KeepsRow v w p
kept_filled v w number bytes p (inl (is, same)) = kept_same v w p same
kept_filled v w number bytes p (inr (other, t, new, becomes)) =
    like_row v w p (renewed_row number t) (λ r. (renewed_kind number t r, renewed_number number t r)) (ap (λ rows. row_at rows p) becomes.tree ∙ renewed_at number t v.tree p)

-- ---- the row that is made

made_there : (r : Row) (rows : List Row) → row_at rows r.path ≡ None → row_at (rows ++ r ∷ []) r.path ≡ Some r
made_there r [] none = ap (λ b. cond b (Some r) None) (names_equal r.path r.path refl)
made_there r (x ∷ rows) none = by (same_names r.path x.path) refl none (made_there r rows)
  where
    by : (b : Bool) → same_names r.path x.path ≡ b → cond b (Some x) (row_at rows r.path) ≡ None → (row_at rows r.path ≡ None → row_at (rows ++ r ∷ []) r.path ≡ Some r)
        → row_at (x ∷ (rows ++ r ∷ [])) r.path ≡ Some r
    by true e gone more = cc
    by false e gone more = ap (λ b. cond b (Some x) (row_at (rows ++ r ∷ []) r.path)) e ∙ more gone

-- A file that was made, with its number: it stands at its path.
pub record IsMadeIn (v w : World) (path : Names) : Type 0 where
  pub row : Row
  pub at : row_at w.tree path ≡ Some row
  pub kind : row.kind ≡ File
  pub above : v.greatest < row.number
  pub empty : Holds w row.number → bytes_of w row.number ≡ []

pub made_in : (v w : World) (path : Names) → row_at v.tree path ≡ None → Edited (makes path File []) v w → IsMadeIn v w path
made_in v w path none (number, t, u, next, new, later, becomes) =
    let row : Row = record { path = path; kind = File; number = number; time = t } in
    let same : (timed_row (parent_of path) u row).number ≡ number = timed_number (parent_of path) u row in
    record {
      row = timed_row (parent_of path) u row;
      at = ap (λ rows. row_at rows path) becomes.tree ∙ (timed_at (parent_of path) u (v.tree ++ row ∷ []) path ∙ ap (option_map (timed_row (parent_of path) u)) (made_there row v.tree none));
      kind = timed_kind (parent_of path) u row;
      above = subst (λ n. v.greatest < n) (sym same) next.above;
      empty = λ holds. ap bytes_or_none ((becomes.files (timed_row (parent_of path) u row).number holds).1
          ∙ (ap (put number (Some (record { bytes = []; time = t })) v.files) same ∙ put_same number (Some (record { bytes = []; time = t })) v.files));
    }

-- ---- bytes

pub makes_keep : (v w : World) (path : Names) (kind : Kind) (bytes : List ℕ) (n : ℕ) → n ≤ v.greatest → Edited (makes path kind bytes) v w → Holds w n → bytes_of w n ≡ bytes_of v n
makes_keep v w path kind bytes n le (number, t, u, next, new, later, becomes) holds =
    ap bytes_or_none ((becomes.files n holds).1 ∙ put_other number n (stored_as kind bytes t) v.files (λ e. (let above = next.above in omega (arith, e, le, above))))

pub same_keep : (v w : World) (n : ℕ) → SameBesidesOpens v w → Holds w n → bytes_of w n ≡ bytes_of v n
same_keep v w n same holds = ap bytes_or_none (same.files n holds).1

-- ---- what is unseen

shown_number : (w : World) (r : Row) → (shown_row w r).number ≡ r.number
shown_number w r = by r.kind
  where
    by : (k : Kind) → (shown_as k r.number r.time (bytes_of w r.number)).number ≡ r.number
    by Dir = refl
    by File = refl
    by Link = refl

pub unseen_at : (v w : World) (n : ℕ) (path : Names) → shown_at w path ≡ shown_at v path → IsUnseen v n → (r : Row) → row_at w.tree path ≡ Some r → is_hidden_path path ≡ false → r.number ≢ n
unseen_at v w n path same unseen r at shows e = by (row_at v.tree path) refl
  where
    now : option_map (shown_row v) (row_at v.tree path) ≡ Some (shown_row w r)
    now = sym (ap (λ b. cond b None (option_map (shown_row v) (row_at v.tree path))) shows)
        ∙ (sym same ∙ (ap (λ b. cond b None (option_map (shown_row w) (row_at w.tree path))) shows ∙ ap (option_map (shown_row w)) at))

    by : (o : Option Row) → row_at v.tree path ≡ o → ⊥
    by None f = let g : None ≡ Some (shown_row w r) = sym (ap (option_map (shown_row v)) f) ∙ now in cc
    by (Some q) f =
        let g : Some (shown_row v q) ≡ Some (shown_row w r) = sym (ap (option_map (shown_row v)) f) ∙ now in
        let like : shown_row v q ≡ shown_row w r = cc in
        unseen path q f shows (sym (shown_number v q) ∙ (ap (λ (s : ShownRow). s.number) like ∙ (shown_number w r ∙ e)))

pub unseen_same : (v w : World) (n : ℕ) → SameShown v w → IsUnseen v n → IsUnseen w n
unseen_same v w n same unseen path r at shows = unseen_at v w n path (same path) unseen r at shows

pub unseen_new : (v : World) (n : ℕ) → AreBelow v → v.greatest < n → IsUnseen v n
unseen_new v n below above path r at shows e = let le = below path r at in omega (arith, le, above, e)
