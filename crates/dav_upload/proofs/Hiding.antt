-- What the removal of a hidden file makes of the shown world, and which bytes the edits of an upload keep.
use Rattle.std.proofs.Common.{◌≡◌, ◌≢◌, inl, inr, ℕ, List, map, Bool, true, false, Option, None, Some, refl, sym, ap, subst, ◌∙◌}
use Rattle.std.specs.Option.{option_map}
use Rattle.dav_core.specs.declared.tree.Row.{Row}
use Rattle.dav_core.specs.declared.time.FileTime.{FileTime}
use Rattle.dav_core.specs.Changes.{timed_row, without}
use Rattle.dav_core.specs.Edits.{Edited, fills, moves, takes}
use Rattle.dav_core.specs.Path.{Names, parent_of}
use Rattle.dav_core.specs.Tree.{row_at}
use Rattle.dav_core.specs.World.{Holds, World, bytes_of, bytes_or_none}
use Rattle.dav_core.proofs.UnchangedLemmas.{put_other}
use Rattle.dav_upload.specs.Names.{is_hidden_path}
use Rattle.dav_upload.specs.Shown.{IsHiddenIn, SameShown, shown_at, shown_row}
use Rattle.dav_upload.proofs.Moving.{beside_at, never, numbered, path_of, shown_row_alike, timed_at, timed_time}
use Rattle.dav_core.proofs.ChangedRows.{timed_kind, timed_number}

module _ (v w : World) (hidden : Names) (stands : IsHiddenIn v hidden) (t : FileTime)
    (tree : w.tree ≡ map (timed_row (parent_of hidden) t) (without hidden v.tree)) (files : (number : ℕ) → Holds w number → w.files number ≡ v.files number) where
  rest_at : (p : Names) (o : Option Row) → (p ≡ hidden → ⊥) → row_at v.tree p ≡ o → row_at w.tree p ≡ option_map (timed_row (parent_of hidden) t) o
  rest_at p o ne at = ap (λ rows. row_at rows p) tree ∙ (timed_at (parent_of hidden) t (without hidden v.tree) p ∙ ap (option_map (timed_row (parent_of hidden) t)) (beside_at hidden v.tree p stands.alone ne ∙ at))

  rest_shown : (p : Names) (o : Option Row) → (p ≡ hidden → ⊥) → row_at v.tree p ≡ o → option_map (shown_row w) (row_at w.tree p) ≡ option_map (shown_row v) o
  rest_shown p None ne at = ap (option_map (shown_row w)) (rest_at p None ne at)
  rest_shown p (Some r) ne at =
      let now = rest_at p (Some r) ne at in
      let number = timed_number (parent_of hidden) t r in
      ap (option_map (shown_row w)) now ∙ ap (λ x. Some x) (shown_row_alike v w (timed_row (parent_of hidden) t r) r (timed_kind (parent_of hidden) t r) number
      (timed_time (parent_of hidden) t r (λ e. stands.above r (ap (row_at v.tree) (e ∙ sym (path_of v.tree p r at)) ∙ at)))
      (subst (λ n. bytes_of w n ≡ bytes_of v n) number (ap bytes_or_none (files (timed_row (parent_of hidden) t r).number (inl (numbered w.tree p (timed_row (parent_of hidden) t r) now))))))

  all_shown : (p : Names) → shown_at w p ≡ shown_at v p
  all_shown p = by (is_hidden_path p) refl
    where
      by : (b : Bool) → is_hidden_path p ≡ b → shown_at w p ≡ shown_at v p
      by true e = rw e refl
      by false e = rw e (rest_shown p (row_at v.tree p) (λ f. never (is_hidden_path p) (ap is_hidden_path f ∙ stands.hides) e) refl)

pub taken_unseen : (v w : World) (hidden : Names) → IsHiddenIn v hidden → Edited (takes hidden) v w → SameShown v w
taken_unseen v w hidden stands (t, new, becomes) = all_shown v w hidden stands t becomes.tree (λ number holds. (becomes.files number holds).1)

-- ---- bytes

pub moves_keep : (v w : World) (from to : Names) (n : ℕ) → Edited (moves from to) v w → Holds w n → bytes_of w n ≡ bytes_of v n
moves_keep v w from to n (t, u, new, later, becomes) holds = ap bytes_or_none (becomes.files n holds).1

pub takes_keep : (v w : World) (path : Names) (n : ℕ) → Edited (takes path) v w → Holds w n → bytes_of w n ≡ bytes_of v n
takes_keep v w path n (t, new, becomes) holds = ap bytes_or_none (becomes.files n holds).1

pub fills_keep : (v w : World) (number : ℕ) (bytes : List ℕ) (n : ℕ) → n ≢ number → Edited (fills number bytes) v w → Holds w n → bytes_of w n ≡ bytes_of v n
fills_keep v w number bytes n ne (inl (same, kept)) holds = ap bytes_or_none (kept.files n holds).1
fills_keep v w number bytes n ne (inr (other, t, new, becomes)) holds = ap bytes_or_none ((becomes.files n holds).1 ∙ put_other number n (Some (record { bytes = bytes; time = t })) v.files ne)
