-- What the making of a hidden file and writes to it make of the shown world.
use Rattle.std.proofs.Common.{◌≡◌, ◌≢◌, ◌≤◌, ◌<◌, ◌==◌, ◌-◌, ◌+◌, ◌++◌, inl, inr, ℕ, List, [], ◌∷◌, length, take, drop, replicate, map, Bool, true, false, cond, Option, None, Some, refl, sym, ap, subst, ◌∙◌, arith, append-nil}
use Rattle.std.specs.Option.{option_map}
use Rattle.std.proofs.Math.Seq.{take-append_seam}
use Rattle.std.proofs.Math.ListN.{drop_of_length-le}
use Rattle.dav_core.specs.declared.tree.Row.{Row}
use Rattle.dav_core.specs.declared.tree.Kind.TheVariants.{File}
use Rattle.dav_core.specs.declared.time.FileTime.{FileTime}
use Rattle.dav_core.specs.Changes.{timed_row}
use Rattle.dav_core.specs.Edits.{Edited, fills, makes, timed_number as renewed_row}
use Rattle.dav_core.specs.Path.{Names, parent_of, same_names}
use Rattle.dav_core.specs.Tree.{row_at}
use Rattle.dav_core.specs.World.{Holds, SameBesidesOpens, Stored, World, bytes_or_none, put}
use Rattle.dav_core.specs.Writing.{written}
use Rattle.dav_core.proofs.UnchangedLemmas.{equal_keys, put_other}
use Rattle.dav_upload.specs.Names.{is_hidden_path}
use Rattle.dav_upload.specs.Shown.{AreBelow, IsHiddenIn, IsUnseen, SameShown, shown_at, shown_row}
use Rattle.dav_upload.proofs.Moving.{never, numbered, path_of, shown_row_alike, timed_at, timed_time}
use Rattle.std.proofs.lemmas.Bool.{false_from_ne_true}
use Rattle.dav_core.proofs.Paths.{names_differ}
use Rattle.dav_core.proofs.ChangedRows.{timed_kind, timed_number}

-- ---- a row more

pub more_at : (r : Row) (rows : List Row) (p : Names) → (p ≡ r.path → ⊥) → row_at (rows ++ r ∷ []) p ≡ row_at rows p
more_at r [] p ne = ap (λ b. cond b (Some r) None) (names_differ p r.path ne)
more_at r (x ∷ rows) p ne = ap (λ o. cond (same_names p x.path) (Some x) o) (more_at r rows p ne)

module _ (v w : World) (hidden : Names) (stands : IsHiddenIn v hidden) (below : AreBelow v) (row : Row) (at : row.path ≡ hidden) (u : FileTime) (above : v.greatest < row.number) (stored : Option Stored)
    (tree : w.tree ≡ map (timed_row (parent_of hidden) u) (v.tree ++ row ∷ [])) (files : (number : ℕ) → Holds w number → w.files number ≡ put row.number stored v.files number) where
  here_at : (p : Names) (o : Option Row) → (p ≡ hidden → ⊥) → row_at v.tree p ≡ o → row_at w.tree p ≡ option_map (timed_row (parent_of hidden) u) o
  here_at p o ne was = ap (λ rows. row_at rows p) tree ∙ (timed_at (parent_of hidden) u (v.tree ++ row ∷ []) p ∙ ap (option_map (timed_row (parent_of hidden) u)) (more_at row v.tree p (λ e. ne (e ∙ at)) ∙ was))

  here_shown : (p : Names) (o : Option Row) → (p ≡ hidden → ⊥) → row_at v.tree p ≡ o → option_map (shown_row w) (row_at w.tree p) ≡ option_map (shown_row v) o
  here_shown p None ne was = ap (option_map (shown_row w)) (here_at p None ne was)
  here_shown p (Some r) ne was =
      let now = here_at p (Some r) ne was in
      let number = timed_number (parent_of hidden) u r in
      let le : r.number ≤ v.greatest = below p r was in
      ap (option_map (shown_row w)) now ∙ ap (λ x. Some x) (shown_row_alike v w (timed_row (parent_of hidden) u r) r (timed_kind (parent_of hidden) u r) number
      (timed_time (parent_of hidden) u r (λ e. stands.above r (ap (row_at v.tree) (e ∙ sym (path_of v.tree p r was)) ∙ was)))
      (ap bytes_or_none (subst (λ n. w.files n ≡ put row.number stored v.files n) number (files (timed_row (parent_of hidden) u r).number (inl (numbered w.tree p (timed_row (parent_of hidden) u r) now)))
      ∙ put_other row.number r.number stored v.files (λ e. omega (arith, e, le, above)))))

  made_shown : (p : Names) → shown_at w p ≡ shown_at v p
  made_shown p = by (is_hidden_path p) refl
    where
      by : (b : Bool) → is_hidden_path p ≡ b → shown_at w p ≡ shown_at v p
      by true e = rw e refl
      by false e = rw e (here_shown p (row_at v.tree p) (λ f. never (is_hidden_path p) (ap is_hidden_path f ∙ stands.hides) e) refl)

pub made_unseen : (v w : World) (hidden : Names) (bytes : List ℕ) → IsHiddenIn v hidden → AreBelow v → Edited (makes hidden File bytes) v w → SameShown v w
made_unseen v w hidden bytes stands below (number, t, u, next, new, later, becomes) =
    made_shown v w hidden stands below (record { path = hidden; kind = File; number = number; time = t }) refl u next.above (Some (record { bytes = bytes; time = t }))
    becomes.tree (λ n holds. (becomes.files n holds).1)

-- ---- a write

pub renewed_path : (number : ℕ) (t : FileTime) (r : Row) → (renewed_row number t r).path ≡ r.path
renewed_path number t r = by (r.number == number) refl
  where
    by : (b : Bool) → (r.number == number) ≡ b → (renewed_row number t r).path ≡ r.path
    by true e = rw e refl
    by false e = rw e refl

pub renewed_at : (number : ℕ) (t : FileTime) (rows : List Row) (p : Names) → row_at (map (renewed_row number t) rows) p ≡ option_map (renewed_row number t) (row_at rows p)
renewed_at number t [] p = refl
renewed_at number t (r ∷ rows) p = rw (renewed_path number t r, renewed_at number t rows p) (by (same_names p r.path))
  where
    by : (b : Bool) → cond b (Some (renewed_row number t r)) (option_map (renewed_row number t) (row_at rows p)) ≡ option_map (renewed_row number t) (cond b (Some r) (row_at rows p))
    by true = refl
    by false = refl

renewed_off : (number : ℕ) (t : FileTime) (r : Row) → r.number ≢ number → renewed_row number t r ≡ r
renewed_off number t r ne = ap (λ b. cond b (record r { time = t }) r) (false_from_ne_true (r.number == number) (λ e. ne (equal_keys r.number number e)))

module _ (v w : World) (number : ℕ) (unseen : IsUnseen v number) (t : FileTime) (stored : Option Stored)
    (tree : w.tree ≡ map (renewed_row number t) v.tree) (files : (n : ℕ) → Holds w n → w.files n ≡ put number stored v.files n) where
  there_shown : (p : Names) (o : Option Row) → is_hidden_path p ≡ false → row_at v.tree p ≡ o → option_map (shown_row w) (row_at w.tree p) ≡ option_map (shown_row v) o
  there_shown p None shows was = ap (option_map (shown_row w)) (ap (λ rows. row_at rows p) tree ∙ (renewed_at number t v.tree p ∙ ap (option_map (renewed_row number t)) was))
  there_shown p (Some r) shows was =
      let ne : r.number ≢ number = unseen p r was shows in
      let now : row_at w.tree p ≡ Some r = ap (λ rows. row_at rows p) tree ∙ (renewed_at number t v.tree p ∙ (ap (option_map (renewed_row number t)) was ∙ ap (λ x. Some x) (renewed_off number t r ne))) in
      ap (option_map (shown_row w)) now ∙ ap (λ x. Some x) (shown_row_alike v w r r refl refl (inr refl)
      (ap bytes_or_none (files r.number (inl (numbered w.tree p r now)) ∙ put_other number r.number stored v.files ne)))

  filled_shown : (p : Names) → shown_at w p ≡ shown_at v p
  filled_shown p = by (is_hidden_path p) refl
    where
      by : (b : Bool) → is_hidden_path p ≡ b → shown_at w p ≡ shown_at v p
      by true e = rw e refl
      by false e = rw e (there_shown p (row_at v.tree p) e refl)

module _ (v w : World) (same : SameBesidesOpens v w) where
  still_shown : (p : Names) (o : Option Row) → row_at v.tree p ≡ o → option_map (shown_row w) (row_at w.tree p) ≡ option_map (shown_row v) o
  still_shown p None was = ap (option_map (shown_row w)) (ap (λ rows. row_at rows p) same.tree ∙ was)
  still_shown p (Some r) was =
      let now : row_at w.tree p ≡ Some r = ap (λ rows. row_at rows p) same.tree ∙ was in
      ap (option_map (shown_row w)) now ∙ ap (λ x. Some x) (shown_row_alike v w r r refl refl (inr refl) (ap bytes_or_none (same.files r.number (inl (numbered w.tree p r now))).1))

  pub kept_shown : (p : Names) → shown_at w p ≡ shown_at v p
  kept_shown p = ap (λ o. cond (is_hidden_path p) None o) (still_shown p (row_at v.tree p) refl)

pub filled_unseen : (v w : World) (number : ℕ) (bytes : List ℕ) → IsUnseen v number → Edited (fills number bytes) v w → SameShown v w
filled_unseen v w number bytes unseen (inl (is, same)) = kept_shown v w same
filled_unseen v w number bytes unseen (inr (other, t, new, becomes)) = filled_shown v w number unseen t (Some (record { bytes = bytes; time = t })) becomes.tree (λ n holds. (becomes.files n holds).1)

pub kept_unseen : (v w : World) → SameBesidesOpens v w → SameShown v w
kept_unseen v w same = kept_shown v w same

-- bytes that are written behind the last
pub written_behind : (from bytes : List ℕ) → written (length bytes) from bytes ≡ bytes ++ from
written_behind from bytes =
    let front : take (length bytes) bytes ≡ bytes = ap (take (length bytes)) (sym (append-nil bytes)) ∙ take-append_seam bytes [] in
    let back : drop (length bytes + length from) bytes ≡ [] = drop_of_length-le bytes (omega arith) in
    let gap : length bytes - length bytes ≡ 0 = omega arith in
    ap (λ x. x ++ (replicate (length bytes - length bytes) 0 ++ (from ++ drop (length bytes + length from) bytes))) front
    ∙ (ap (λ k. bytes ++ (replicate k 0 ++ (from ++ drop (length bytes + length from) bytes))) gap
    ∙ (ap (λ x. bytes ++ (from ++ x)) back ∙ ap (λ x. bytes ++ x) (append-nil from)))
