-- How the edits of an upload end: its hidden file is taken or moved, or stays.
use Rattle.std.proofs.Common.{◌≡◌, ◌⊎◌, ◌<◌, ◌&&◌, ◌||◌, ◌++◌, inl, inr, List, [], ◌∷◌, length, drop, map, Bool, true, false, not, cond, Option, None, Some, Result, Ok, Err, refl, sym, ap, subst, ◌∙◌, append-nil}
use Rattle.std.proofs.Math.Seq.{drop-length}
use Rattle.std.proofs.lemmas.Bool.{and_parts, or_parts}
use Rattle.dav_core.specs.declared.error.FsError.{FsError}
use Rattle.dav_core.specs.declared.handle.DiskError.{DiskError}
use Rattle.dav_core.specs.declared.handle.DiskError.TheVariants.{NotDir, NotEmpty, IsDir}
use Rattle.dav_core.specs.declared.time.FileTime.{FileTime}
use Rattle.dav_core.specs.declared.tree.Row.{Row}
use Rattle.dav_core.specs.declared.tree.Kind.{Kind}
use Rattle.dav_core.specs.declared.tree.Kind.TheVariants.{Dir, File, Link}
use Rattle.dav_core.specs.Allowed.{Allowed, found_then, is_root, moving, moving_over, moving_to, place, taking_file, taking_file_row}
use Rattle.dav_core.specs.Changes.{is_leaf, moved_row, timed_row, without}
use Rattle.dav_core.specs.Edits.{Edit, Edited, EditedBy, moves, takes}
use Rattle.dav_core.specs.Path.{Names, is_front, parent_of, same_names}
use Rattle.dav_core.specs.Tree.{is_dir, is_link, is_linked, row_at}
use Rattle.dav_core.specs.World.{IsWorld, SameBesidesOpens, World}
use Rattle.dav_core.specs.Writing.{LeftBy}
use Rattle.dav_core.proofs.PlaceLemmas.{placed_row}
use Rattle.dav_upload.specs.Ends.{EndsAs, is_spoiled}
use Rattle.dav_upload.specs.Shown.{StandsBeside}
use Rattle.dav_upload.proofs.Beside.{looked_at}
use Rattle.std.specs.Option.{option_map}
use Rattle.dav_upload.proofs.Moving.{gone_at, path_of, timed_at}
use Rattle.dav_core.proofs.LeftLemmas.{left_refused}
use Rattle.dav_core.proofs.LookLemmas.{not_looked}
use Rattle.dav_core.proofs.Paths.{not_root, names_same}
use Rattle.dav_core.proofs.ChangedRows.{timed_kind, timed_path}

-- ---- a removal

takes_allowed : (w : World) (hidden : Names) (row : Row) → IsWorld w → row_at w.tree hidden ≡ Some row → row.kind ≡ File → taking_file w.tree hidden ≡ Ok (Some (takes hidden))
takes_allowed w hidden row is at kind =
    ap (found_then taking_file_row) (looked_at w hidden row is at)
    ∙ (ap (λ k. cond (is_dir k) (Err IsDir) (Ok (Some (takes row.path)))) kind ∙ ap (λ p. Ok (Some (takes p))) (sym (path_of w.tree hidden row at)))

pub edit_of : (a b : Option Edit) → ◌≡◌ {A = Allowed} (Ok a) (Ok b) → a ≡ b
edit_of a b e = cc

-- the hidden file is taken, or all stays
pub taken_or_left : (v w : World) (hidden : Names) (row : Row) (r : Result Unit FsError) → IsWorld v → row_at v.tree hidden ≡ Some row → row.kind ≡ File → EndsAs (taking_file v.tree hidden) r v w
    → Edited (takes hidden) v w ⊎ SameBesidesOpens v w
taken_or_left v w hidden row (Ok x) is at kind (edit, allowed, edited) =
    let same : Some (takes hidden) ≡ edit = edit_of (Some (takes hidden)) edit (sym (takes_allowed v hidden row is at kind) ∙ allowed) in
    inl (subst (λ e. EditedBy e v w) (sym same) edited)
taken_or_left v w hidden row (Err e) is at kind left =
    by (is_spoiled e) (subst (λ a. LeftBy (is_spoiled e) a v w) (takes_allowed v hidden row is at kind) left)
  where
    by : (b : Bool) → LeftBy b (Ok (Some (takes hidden))) v w → Edited (takes hidden) v w ⊎ SameBesidesOpens v w
    by false same = inr same
    by true (inl same) = inr same
    by true (inr (part, none, edited)) = absurd none

-- a removal that was done took the hidden file
pub surely_taken : (v w : World) (hidden : Names) (row : Row) → IsWorld v → row_at v.tree hidden ≡ Some row → row.kind ≡ File → EndsAs (taking_file v.tree hidden) (Ok tt) v w → Edited (takes hidden) v w
surely_taken v w hidden row is at kind (edit, allowed, edited) =
    let same : Some (takes hidden) ≡ edit = edit_of (Some (takes hidden)) edit (sym (takes_allowed v hidden row is at kind) ∙ allowed) in
    subst (λ e. EditedBy e v w) (sym same) edited

-- nothing stands at the hidden name behind it
pub taken_gone : (v w : World) (hidden : Names) → Edited (takes hidden) v w → row_at w.tree hidden ≡ None
taken_gone v w hidden (t, new, becomes) =
    ap (λ rows. row_at rows hidden) becomes.tree ∙ (timed_at (parent_of hidden) t (without hidden v.tree) hidden ∙ ap (option_map (timed_row (parent_of hidden) t)) (gone_at hidden v.tree))

-- where nothing stands nothing is taken
pub none_taken : (v w : World) (hidden : Names) (r : Result Unit FsError) → row_at v.tree hidden ≡ None → EndsAs (taking_file v.tree hidden) r v w → SameBesidesOpens v w
none_taken v w hidden r none ends = by r ends
  where
    refused : (d : DiskError) × (taking_file v.tree hidden ≡ Err d)
    refused = let (d, is) = not_looked v.tree hidden none in (d, ap (found_then taking_file_row) is)

    by : (r : Result Unit FsError) → EndsAs (taking_file v.tree hidden) r v w → SameBesidesOpens v w
    by (Ok x) (edit, allowed, edited) = let f : Err refused.0 ≡ Ok edit = sym refused.1 ∙ allowed in cc
    by (Err e) left = left_refused (is_spoiled e) refused.0 v w (subst (λ a. LeftBy (is_spoiled e) a v w) refused.1 left)

-- ---- a move

-- the move is allowed where no directory stands at the target, or refused
pub data MayMove (tree : List Row) (hidden target : Names) : Type 0 where
  may : moving tree hidden target ≡ Ok (Some (moves hidden target)) → ((r : Row) → row_at tree target ≡ Some r → r.kind ≡ Dir → ⊥) → MayMove tree hidden target
  not_now : (d : DiskError) → moving tree hidden target ≡ Err d → MayMove tree hidden target

over_file : (tree : List Row) (row : Row) (target : Names) (o : Option Row) → row.kind ≡ File
    → ((moving_over tree row target o ≡ Ok (Some (moves row.path target))) × ((r : Row) → o ≡ Some r → r.kind ≡ Dir → ⊥)) ⊎ ((d : DiskError) × (moving_over tree row target o ≡ Err d))
over_file tree row target None kind = inl (refl, λ r e f. cc)
over_file tree row target (Some there) kind = by there.kind refl
  where
    is_no_dir : is_dir row.kind ≡ false
    is_no_dir = ap is_dir kind

    shape : moving_over tree row target (Some there) ≡ cond (is_dir there.kind) (Err IsDir) (Ok (Some (moves row.path target)))
    shape = ap (λ b. cond b (cond (is_dir there.kind) (cond (is_leaf there.path tree) (Ok (Some (moves row.path target))) (Err NotEmpty)) (Err NotDir)) (cond (is_dir there.kind) (Err IsDir) (Ok (Some (moves row.path target))))) is_no_dir

    by : (k : Kind) → there.kind ≡ k
        → ((moving_over tree row target (Some there) ≡ Ok (Some (moves row.path target))) × ((r : Row) → Some there ≡ Some r → r.kind ≡ Dir → ⊥)) ⊎ ((d : DiskError) × (moving_over tree row target (Some there) ≡ Err d))
    by Dir e = inr (IsDir, shape ∙ ap (λ k. cond (is_dir k) (Err IsDir) (Ok (Some (moves row.path target)))) e)
    by File e = inl (
      shape ∙ ap (λ k. cond (is_dir k) (Err IsDir) (Ok (Some (moves row.path target)))) e,
      λ r f dir. (let same : there ≡ r = cc in let g : File ≡ Dir = sym e ∙ (ap (λ (x : Row). x.kind) same ∙ dir) in cc),
    )
    by Link e = inl (
      shape ∙ ap (λ k. cond (is_dir k) (Err IsDir) (Ok (Some (moves row.path target)))) e,
      λ r f dir. (let same : there ≡ r = cc in let g : Link ≡ Dir = sym e ∙ (ap (λ (x : Row). x.kind) same ∙ dir) in cc),
    )

pub may_move : (w : World) (hidden target : Names) (row : Row) → IsWorld w → row_at w.tree hidden ≡ Some row → row.kind ≡ File → 0 < length hidden → 0 < length target → (hidden ≡ target → ⊥)
    → MayMove w.tree hidden target
may_move w hidden target row is at kind some named differ = by_place (place w.tree target) refl
  where
    here : hidden ≡ row.path
    here = path_of w.tree hidden row at

    found : moving w.tree hidden target ≡ moving_to w.tree row target (place w.tree target)
    found = ap (found_then (λ row. moving_to w.tree row target (place w.tree target))) (looked_at w hidden row is at)

    roots : (is_root row.path || is_root target) ≡ false
    roots = ap (λ b. b || is_root target) (ap is_root (sym here) ∙ not_root hidden some) ∙ not_root target named

    apart : same_names row.path target ≡ false
    apart = off (same_names row.path target) refl
      where
        off : (b : Bool) → same_names row.path target ≡ b → same_names row.path target ≡ false
        off false e = e
        off true e = absurd (differ (here ∙ names_same row.path target e))

    judged : (o : Option Row) → moving_to w.tree row target (Ok o) ≡ cond (is_front row.path target) (Err NotEmpty) (moving_over w.tree row target o)
    judged o = ap (λ b. cond b (Err NotEmpty) (cond (same_names row.path target) (Ok None) (cond (is_front row.path target) (Err NotEmpty) (moving_over w.tree row target o)))) roots
        ∙ ap (λ b. cond b (Ok None) (cond (is_front row.path target) (Err NotEmpty) (moving_over w.tree row target o))) apart

    over : (o : Option Row) → place w.tree target ≡ Ok o → (b : Bool) → is_front row.path target ≡ b → MayMove w.tree hidden target
    over o e true f = not_now NotEmpty (found ∙ (ap (moving_to w.tree row target) e ∙ (judged o ∙ ap (λ b. cond b (Err NotEmpty) (moving_over w.tree row target o)) f)))
    over o e false f =
        let all : moving w.tree hidden target ≡ moving_over w.tree row target o = found ∙ (ap (moving_to w.tree row target) e ∙ (judged o ∙ ap (λ b. cond b (Err NotEmpty) (moving_over w.tree row target o)) f)) in
        elim (over_file w.tree row target o kind) [
          | inl (moved, no_dir) ↦ may (all ∙ (moved ∙ ap (λ p. Ok (Some (moves p target))) (sym here))) (λ r there. no_dir r (sym (placed_row w.tree target o e) ∙ there))
          | inr (d, refused) ↦ not_now d (all ∙ refused)
        ]

    by_place : (o : Result (Option Row) DiskError) → place w.tree target ≡ o → MayMove w.tree hidden target
    by_place (Err d) e = not_now d (found ∙ ap (moving_to w.tree row target) e)
    by_place (Ok o) e = over o e (is_front row.path target) refl

-- what was done was answered so, or with a fault or want of memory
abbrev pub MayBeDone : Result Unit FsError → Type 0
MayBeDone (Ok x) = Unit {0}
MayBeDone (Err e) = is_spoiled e ≡ true

-- the file is moved, or all stays
pub moved_or_left : (v w : World) (hidden target : Names) (r : Result Unit FsError) → MayMove v.tree hidden target → EndsAs (moving v.tree hidden target) r v w
    → (Edited (moves hidden target) v w × ((r : Row) → row_at v.tree target ≡ Some r → r.kind ≡ Dir → ⊥) × MayBeDone r) ⊎ (SameBesidesOpens v w × (r ≡ Ok tt → ⊥))
moved_or_left v w hidden target (Ok x) (may allowed no_dir) (edit, is, edited) =
    let same : Some (moves hidden target) ≡ edit = edit_of (Some (moves hidden target)) edit (sym allowed ∙ is) in
    inl (subst (λ e. EditedBy e v w) (sym same) edited, no_dir, tt)
moved_or_left v w hidden target (Ok x) (not_now d refused) (edit, is, edited) = let f : Err d ≡ Ok edit = sym refused ∙ is in cc
moved_or_left v w hidden target (Err e) (not_now d refused) left = inr (left_refused (is_spoiled e) d v w (subst (λ a. LeftBy (is_spoiled e) a v w) refused left), λ f. cc)
moved_or_left v w hidden target (Err e) (may allowed no_dir) left = by (is_spoiled e) refl (subst (λ a. LeftBy (is_spoiled e) a v w) allowed left)
  where
    by : (b : Bool) → is_spoiled e ≡ b → LeftBy b (Ok (Some (moves hidden target))) v w
        → (Edited (moves hidden target) v w × ((r : Row) → row_at v.tree target ≡ Some r → r.kind ≡ Dir → ⊥) × (is_spoiled e ≡ true)) ⊎ (SameBesidesOpens v w × (◌≡◌ {A = Result Unit FsError} (Err e) (Ok tt) → ⊥))
    by false f same = inr (same, λ f. cc)
    by true f (inl same) = inr (same, λ f. cc)
    by true f (inr (part, is, edited)) = inl (subst (λ p. Edited p v w) is edited, no_dir, f)

-- ---- what is linked behind a move

pub timed_linked : (q : Names) (t : FileTime) (rows : List Row) (p : Names) → is_linked (map (timed_row q t) rows) p ≡ is_linked rows p
timed_linked q t [] p = refl
timed_linked q t (r ∷ rows) p = rw (timed_kind q t r, timed_path q t r, timed_linked q t rows p) refl

moved_unlinked : (hidden target : Names) (rows : List Row) → is_leaf hidden rows ≡ true → is_front target hidden ≡ false → is_linked rows hidden ≡ false
    → is_linked (map (moved_row hidden target) (without target rows)) hidden ≡ false
moved_unlinked hidden target [] leaf apart clear = refl
moved_unlinked hidden target (r ∷ rows) leaf apart clear =
    let parts = and_parts (not (is_front hidden r.path) || same_names hidden r.path) (is_leaf hidden rows) leaf in
    let clears = or_parts (is_link r.kind && is_front r.path hidden) (is_linked rows hidden) clear in
    by (not (is_front target r.path)) refl parts.0 clears.0 (moved_unlinked hidden target rows parts.1 apart clears.1)
  where
    one : (b : Bool) → is_front hidden r.path ≡ b → (not (is_front hidden r.path) || same_names hidden r.path) ≡ true → (is_link r.kind && is_front r.path hidden) ≡ false
        → (is_link (moved_row hidden target r).kind && is_front (moved_row hidden target r).path hidden) ≡ false
    one false e leaf clear = rw e clear
    one true e leaf clear =
        let same : hidden ≡ r.path = names_same hidden r.path (sym (ap (λ b. not b || same_names hidden r.path) e) ∙ leaf) in
        let there : target ++ drop (length hidden) r.path ≡ target = ap (λ x. target ++ drop (length hidden) x) (sym same) ∙ (ap (λ x. target ++ x) (drop-length hidden) ∙ append-nil target) in
        rw e (ap (λ x. is_link r.kind && is_front x hidden) there ∙ (ap (λ b. is_link r.kind && b) apart ∙ and_false (is_link r.kind)))
      where
        and_false : (b : Bool) → (b && false) ≡ false
        and_false true = refl
        and_false false = refl

    by : (b : Bool) → not (is_front target r.path) ≡ b → (not (is_front hidden r.path) || same_names hidden r.path) ≡ true → (is_link r.kind && is_front r.path hidden) ≡ false
        → is_linked (map (moved_row hidden target) (without target rows)) hidden ≡ false → is_linked (map (moved_row hidden target) (without target (r ∷ rows))) hidden ≡ false
    by false e leaf clear rest = rw e rest
    by true e leaf clear rest = rw e (rw (one (is_front hidden r.path) refl leaf clear) rest)

-- no link stands on the way to the hidden name behind its move
pub unlinked_after : (v w : World) (hidden target : Names) (row : Row) → StandsBeside v hidden target row → is_linked v.tree hidden ≡ false → Edited (moves hidden target) v w → is_linked w.tree hidden ≡ false
unlinked_after v w hidden target row stands clear (t, u, new, later, becomes) =
    ap (λ rows. is_linked rows hidden) becomes.tree
    ∙ (timed_linked (parent_of target) u (map (timed_row (parent_of hidden) t) (map (moved_row hidden target) (without target v.tree))) hidden
    ∙ (timed_linked (parent_of hidden) t (map (moved_row hidden target) (without target v.tree)) hidden ∙ moved_unlinked hidden target v.tree stands.alone stands.apart clear))
