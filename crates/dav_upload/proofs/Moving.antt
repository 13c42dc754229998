-- What a move of a hidden file makes of the shown world.
use Rattle.std.proofs.Common.{◌≡◌, ◌&&◌, ◌||◌, ◌==◌, ◌++◌, ℕ, List, [], ◌∷◌, length, drop, map, ◌⊎◌, inl, inr, Bool, true, false, not, cond, Option, None, Some, refl, sym, ap, subst, ◌∙◌, arith, append-nil}
use Rattle.std.specs.Option.{option_map}
use Rattle.std.proofs.lemmas.Bool.{and_parts, false_from_ne_true, or_right}
use Rattle.std.proofs.Math.Seq.{drop-length}
use Rattle.std.proofs.lemmas.Bool.Decides.{nat_tests}
use Rattle.dav_core.specs.declared.tree.Row.{Row}
use Rattle.dav_core.specs.declared.tree.Kind.{Kind}
use Rattle.dav_core.specs.declared.tree.Kind.TheVariants.{Dir, File, Link}
use Rattle.dav_core.specs.declared.time.FileTime.{FileTime}
use Rattle.dav_core.specs.Changes.{is_leaf, moved_row, timed_row, without}
use Rattle.dav_core.specs.Edits.{Edited, moves}
use Rattle.dav_core.specs.Path.{Names, is_front, parent_of, same_names}
use Rattle.dav_core.specs.Tree.{row_at}
use Rattle.dav_core.specs.World.{Holds, World, bytes_of, bytes_or_none, is_numbered}
use Rattle.dav_upload.specs.Names.{is_hidden_path}
use Rattle.dav_upload.specs.Shown.{IsCommitted, StandsBeside, shown_as, shown_at, shown_row}
use Rattle.dav_core.proofs.Paths.{names_same, names_equal, names_differ, front_itself}
use Rattle.dav_core.proofs.ChangedRows.{timed_path, timed_kind, timed_number}
use Rattle.dav_core.proofs.Rows.{first_none, first_some, next_some}
pub use Rattle.dav_walks.proofs.trees.TreeRows.{not_both as never}

-- ---- times

pub timed_at : (q : Names) (t : FileTime) (rows : List Row) (p : Names) → row_at (map (timed_row q t) rows) p ≡ option_map (timed_row q t) (row_at rows p)
timed_at q t [] p = refl
timed_at q t (r ∷ rows) p = rw (timed_path q t r, timed_at q t rows p) (by (same_names p r.path))
  where
    by : (b : Bool) → cond b (Some (timed_row q t r)) (option_map (timed_row q t) (row_at rows p)) ≡ option_map (timed_row q t) (cond b (Some r) (row_at rows p))
    by true = refl
    by false = refl

-- ---- what was in the target's place

pub without_at : (to : Names) (rows : List Row) (p : Names) → is_front to p ≡ false → row_at (without to rows) p ≡ row_at rows p
without_at to [] p other = refl
without_at to (r ∷ rows) p other = by (is_front to r.path) refl (without_at to rows p other)
  where
    by : (b : Bool) → is_front to r.path ≡ b → row_at (without to rows) p ≡ row_at rows p → row_at (without to (r ∷ rows)) p ≡ row_at (r ∷ rows) p
    by true e rest =
        let apart : same_names p r.path ≡ false = false_from_ne_true (same_names p r.path) (λ f. never (is_front to r.path) e (subst (λ z. is_front to z ≡ false) (names_same p r.path f) other)) in
        rw (e, apart) rest
    by false e rest = rw e (ap (λ o. cond (same_names p r.path) (Some r) o) rest)

gone_below : (to : Names) (rows : List Row) (p : Names) → is_front to p ≡ true → row_at (without to rows) p ≡ None
gone_below to [] p below = refl
gone_below to (r ∷ rows) p below = by (is_front to r.path) refl (gone_below to rows p below)
  where
    by : (b : Bool) → is_front to r.path ≡ b → row_at (without to rows) p ≡ None → row_at (without to (r ∷ rows)) p ≡ None
    by true e rest = rw e rest
    by false e rest =
        let apart : same_names p r.path ≡ false = false_from_ne_true (same_names p r.path) (λ f. never (is_front to r.path) (subst (λ z. is_front to z ≡ true) (names_same p r.path f) below) e) in
        rw (e, apart) rest

pub gone_at : (to : Names) (rows : List Row) → row_at (without to rows) to ≡ None
gone_at to rows = gone_below to rows to (front_itself to)

none_below : (to : Names) (rows : List Row) (p : Names) → is_leaf to rows ≡ true → is_front to p ≡ true → (p ≡ to → ⊥) → row_at rows p ≡ None
none_below to [] p leaf below ne = refl
none_below to (r ∷ rows) p leaf below ne =
    let parts = and_parts (not (is_front to r.path) || same_names to r.path) (is_leaf to rows) leaf in
    let apart : same_names p r.path ≡ false = false_from_ne_true (same_names p r.path) (λ f. ne (names_same p r.path f ∙ sym (at_front (is_front to r.path) (subst (λ z. is_front to z ≡ true) (names_same p r.path f) below) refl parts.0))) in
    rw apart (none_below to rows p parts.1 below ne)
  where
    at_front : (b : Bool) → is_front to r.path ≡ true → is_front to r.path ≡ b → (not b || same_names to r.path) ≡ true → to ≡ r.path
    at_front true e f both = names_same to r.path both
    at_front false e f both = never (is_front to r.path) e f

-- the rows but for what was at the target
pub beside_at : (to : Names) (rows : List Row) (p : Names) → is_leaf to rows ≡ true → (p ≡ to → ⊥) → row_at (without to rows) p ≡ row_at rows p
beside_at to rows p leaf ne = by (is_front to p) refl
  where
    by : (b : Bool) → is_front to p ≡ b → row_at (without to rows) p ≡ row_at rows p
    by false e = without_at to rows p e
    by true e = gone_below to rows p e ∙ sym (none_below to rows p leaf e ne)

pub leaf_without : (from to : Names) (rows : List Row) → is_leaf from rows ≡ true → is_leaf from (without to rows) ≡ true
leaf_without from to [] leaf = refl
leaf_without from to (r ∷ rows) leaf =
    let parts = and_parts (not (is_front from r.path) || same_names from r.path) (is_leaf from rows) leaf in
    by (not (is_front to r.path)) refl parts.0 (leaf_without from to rows parts.1)
  where
    by : (b : Bool) → not (is_front to r.path) ≡ b → (not (is_front from r.path) || same_names from r.path) ≡ true → is_leaf from (without to rows) ≡ true → is_leaf from (without to (r ∷ rows)) ≡ true
    by true e one rest = rw (e, one) rest
    by false e one rest = rw e rest

-- ---- the move

drop_whole : (a : Names) → drop (length a) a ≡ []
drop_whole a = drop-length a

moved_path : (from to : Names) (r : Row) → is_front from r.path ≡ true → from ≡ r.path → (moved_row from to r).path ≡ to
moved_path from to r front same = rw front (ap (λ x. to ++ drop (length from) x) (sym same) ∙ (ap (λ x. to ++ x) (drop_whole from) ∙ append-nil to))

moved_off : (from to : Names) (r : Row) → is_front from r.path ≡ false → moved_row from to r ≡ r
moved_off from to r e = ap (λ b. cond b (record r { path = to ++ drop (length from) r.path }) r) e

leaf_same : (from : Names) (r : Row) (rest : Bool) → ((not (is_front from r.path) || same_names from r.path) && rest) ≡ true → is_front from r.path ≡ true → (from ≡ r.path) × (rest ≡ true)
leaf_same from r rest leaf front =
    let parts = and_parts (not (is_front from r.path) || same_names from r.path) rest leaf in
    (names_same from r.path (sym (ap (λ b. not b || same_names from r.path) front) ∙ parts.0), parts.1)

pub moved_at : (from to : Names) (rows : List Row) (p : Names) → is_leaf from rows ≡ true → (p ≡ to → ⊥) → (p ≡ from → ⊥) → row_at (map (moved_row from to) rows) p ≡ row_at rows p
moved_at from to [] p leaf ne other = refl
moved_at from to (r ∷ rows) p leaf ne other = by (is_front from r.path) refl (and_parts (not (is_front from r.path) || same_names from r.path) (is_leaf from rows) leaf)
    (λ rest. moved_at from to rows p rest ne other)
  where
    by : (b : Bool) → is_front from r.path ≡ b → ((not (is_front from r.path) || same_names from r.path) ≡ true) × (is_leaf from rows ≡ true)
        → (is_leaf from rows ≡ true → row_at (map (moved_row from to) rows) p ≡ row_at rows p) → row_at (map (moved_row from to) (r ∷ rows)) p ≡ row_at (r ∷ rows) p
    by true e parts more =
        let (same, rest) = leaf_same from r (is_leaf from rows) leaf e in
        let apart : same_names p (moved_row from to r).path ≡ false = names_differ p (moved_row from to r).path (λ f. ne (f ∙ moved_path from to r e same)) in
        let away : same_names p r.path ≡ false = names_differ p r.path (λ f. other (f ∙ sym same)) in
        rw (apart, away) (more rest)
    by false e parts more = rw e (ap (λ o. cond (same_names p r.path) (Some r) o) (more parts.1))

-- nothing is left where the move came from
moved_from : (from to : Names) (rows : List Row) → is_leaf from rows ≡ true → (from ≡ to → ⊥) → row_at (map (moved_row from to) rows) from ≡ None
moved_from from to [] leaf ne = refl
moved_from from to (r ∷ rows) leaf ne = by (is_front from r.path) refl (and_parts (not (is_front from r.path) || same_names from r.path) (is_leaf from rows) leaf) (λ rest. moved_from from to rows rest ne)
  where
    by : (b : Bool) → is_front from r.path ≡ b → ((not (is_front from r.path) || same_names from r.path) ≡ true) × (is_leaf from rows ≡ true)
        → (is_leaf from rows ≡ true → row_at (map (moved_row from to) rows) from ≡ None) → row_at (map (moved_row from to) (r ∷ rows)) from ≡ None
    by true e parts more =
        let (same, rest) = leaf_same from r (is_leaf from rows) leaf e in
        let apart : same_names from (moved_row from to r).path ≡ false = names_differ from (moved_row from to r).path (λ f. ne (f ∙ moved_path from to r e same)) in
        rw apart (more rest)
    by false e parts more =
        let away : same_names from r.path ≡ false = false_from_ne_true (same_names from r.path) (λ f. never (is_front from r.path) (subst (λ z. is_front from z ≡ true) (names_same from r.path f) (front_itself from)) e) in
        ap (λ (x : Row). cond (same_names from x.path) (Some x) (row_at (map (moved_row from to) rows) from)) (moved_off from to r e)
        ∙ (ap (λ b. cond b (Some r) (row_at (map (moved_row from to) rows) from)) away ∙ more parts.1)

-- a row of this kind and number
pub record IsLike (o : Option Row) (row : Row) : Type 0 where
  pub found : Row
  pub at : o ≡ Some found
  pub kind : found.kind ≡ row.kind
  pub number : found.number ≡ row.number

moved_to : (from to : Names) (rows : List Row) (row : Row) → is_leaf from rows ≡ true → row_at rows to ≡ None → row_at rows from ≡ Some row → IsLike (row_at (map (moved_row from to) rows) to) row
moved_to from to [] row leaf none at = cc
moved_to from to (r ∷ rows) row leaf none at = by (is_front from r.path) refl (and_parts (not (is_front from r.path) || same_names from r.path) (is_leaf from rows) leaf)
    (λ rest gone there. moved_to from to rows row rest gone there)
  where
    by : (b : Bool) → is_front from r.path ≡ b → ((not (is_front from r.path) || same_names from r.path) ≡ true) × (is_leaf from rows ≡ true)
        → (is_leaf from rows ≡ true → row_at rows to ≡ None → row_at rows from ≡ Some row → IsLike (row_at (map (moved_row from to) rows) to) row)
        → IsLike (row_at (map (moved_row from to) (r ∷ rows)) to) row
    by true e parts more =
        let (same, rest) = leaf_same from r (is_leaf from rows) leaf e in
        let here : same_names to (moved_row from to r).path ≡ true = names_equal to (moved_row from to r).path (sym (moved_path from to r e same)) in
        let is : r ≡ row = first_some (same_names from r.path) r row (row_at rows from) (names_equal from r.path same) at in
        record { found = moved_row from to r; at = rw here refl; kind = rw e (ap (λ (x : Row). x.kind) is); number = rw e (ap (λ (x : Row). x.number) is) }
    by false e parts more =
        let first = first_none (same_names to r.path) r (row_at rows to) none in
        let apart : same_names from r.path ≡ false = false_from_ne_true (same_names from r.path) (λ f. never (is_front from r.path) (subst (λ z. is_front from z ≡ true) (names_same from r.path f) (front_itself from)) e) in
        let like = more parts.1 first.1 (next_some (same_names from r.path) r row (row_at rows from) apart at) in
        record {
          found = like.found;
          at = ap (λ (x : Row). cond (same_names to x.path) (Some x) (row_at (map (moved_row from to) rows) to)) (moved_off from to r e)
              ∙ (ap (λ b. cond b (Some r) (row_at (map (moved_row from to) rows) to)) first.0 ∙ like.at);
          kind = like.kind;
          number = like.number;
        }

-- ---- numbers

itself : (n : ℕ) → (n == n) ≡ true
itself n = grind (arith, nat_tests)

pub numbered : (rows : List Row) (p : Names) (x : Row) → row_at rows p ≡ Some x → is_numbered rows x.number ≡ true
numbered [] p x at = cc
numbered (r ∷ rows) p x at = by (same_names p r.path) refl (λ there. numbered rows p x there)
  where
    by : (b : Bool) → same_names p r.path ≡ b → (row_at rows p ≡ Some x → is_numbered rows x.number ≡ true) → is_numbered (r ∷ rows) x.number ≡ true
    by true e more = ap (λ c. c || is_numbered rows x.number) (ap (λ (y : Row). x.number == y.number) (first_some (same_names p r.path) r x (row_at rows p) e at) ∙ itself x.number)
    by false e more = or_right (x.number == r.number) (is_numbered rows x.number) (more (next_some (same_names p r.path) r x (row_at rows p) e at))

pub path_of : (rows : List Row) (p : Names) (x : Row) → row_at rows p ≡ Some x → p ≡ x.path
path_of [] p x at = cc
path_of (r ∷ rows) p x at = by (same_names p r.path) refl (λ there. path_of rows p x there)
  where
    by : (b : Bool) → same_names p r.path ≡ b → (row_at rows p ≡ Some x → p ≡ x.path) → p ≡ x.path
    by true e more = names_same p r.path e ∙ ap (λ (y : Row). y.path) (first_some (same_names p r.path) r x (row_at rows p) e at)
    by false e more = more (next_some (same_names p r.path) r x (row_at rows p) e at)

-- ---- how a row is shown

-- only a directory gets another time
pub timed_time : (q : Names) (t : FileTime) (r : Row) → (q ≡ r.path → r.kind ≡ Dir) → (r.kind ≡ Dir) ⊎ ((timed_row q t r).time ≡ r.time)
timed_time q t r dir = by (same_names q r.path) refl
  where
    by : (b : Bool) → same_names q r.path ≡ b → (r.kind ≡ Dir) ⊎ ((timed_row q t r).time ≡ r.time)
    by true e = inl (dir (names_same q r.path e))
    by false e = inr (rw e refl)

shown_alike : (k : Kind) (n : ℕ) (s t : FileTime) (x y : List ℕ) → (k ≡ Dir) ⊎ (s ≡ t) → x ≡ y → shown_as k n s x ≡ shown_as k n t y
shown_alike Dir n s t x y same e = refl
shown_alike File n s t x y (inl no_dir) e = cc
shown_alike File n s t x y (inr same) e = rw (same, e) refl
shown_alike Link n s t x y (inl no_dir) e = cc
shown_alike Link n s t x y (inr same) e = rw same refl

both_times : (k : Kind) (a b c : FileTime) → (k ≡ Dir) ⊎ (a ≡ b) → (k ≡ Dir) ⊎ (b ≡ c) → (k ≡ Dir) ⊎ (a ≡ c)
both_times k a b c (inl e) f = inl e
both_times k a b c (inr e) (inl f) = inl f
both_times k a b c (inr e) (inr f) = inr (e ∙ f)

pub shown_row_alike : (v w : World) (x r : Row) → x.kind ≡ r.kind → x.number ≡ r.number → (r.kind ≡ Dir) ⊎ (x.time ≡ r.time) → bytes_of w r.number ≡ bytes_of v r.number → shown_row w x ≡ shown_row v r
shown_row_alike v w x r kind number time bytes =
    ap (λ k. shown_as k x.number x.time (bytes_of w x.number)) kind
    ∙ (ap (λ n. shown_as r.kind n x.time (bytes_of w n)) number ∙ shown_alike r.kind r.number x.time r.time (bytes_of w r.number) (bytes_of v r.number) time bytes)

-- ---- the world after the move

abbrev pub after : Names → Names → FileTime → FileTime → List Row → List Row
after from to t u rows = map (timed_row (parent_of to) u) (map (timed_row (parent_of from) t) (map (moved_row from to) (without to rows)))

abbrev pub twice : Names → Names → FileTime → FileTime → Row → Row
twice a b t u r = timed_row b u (timed_row a t r)

pub after_at : (from to : Names) (t u : FileTime) (rows : List Row) (p : Names) (o : Option Row) → row_at (map (moved_row from to) (without to rows)) p ≡ o
    → row_at (after from to t u rows) p ≡ option_map (timed_row (parent_of to) u) (option_map (timed_row (parent_of from) t) o)
after_at from to t u rows p o e =
    timed_at (parent_of to) u (map (timed_row (parent_of from) t) (map (moved_row from to) (without to rows))) p
    ∙ (ap (option_map (timed_row (parent_of to) u)) (timed_at (parent_of from) t (map (moved_row from to) (without to rows)) p)
    ∙ ap (λ x. option_map (timed_row (parent_of to) u) (option_map (timed_row (parent_of from) t) x)) e)

module _ (v w : World) (hidden target : Names) (row : Row) (stands : StandsBeside v hidden target row) (t u : FileTime)
    (tree : w.tree ≡ after hidden target t u v.tree) (files : (number : ℕ) → Holds w number → w.files number ≡ v.files number) where
  leaf : is_leaf hidden (without target v.tree) ≡ true
  leaf = leaf_without hidden target v.tree stands.alone

  kept : (p : Names) (x : Row) → row_at w.tree p ≡ Some x → bytes_of w x.number ≡ bytes_of v x.number
  kept p x at = ap bytes_or_none (files x.number (inl (numbered w.tree p x at)))

  other_at : (p : Names) (o : Option Row) → (p ≡ target → ⊥) → (p ≡ hidden → ⊥) → row_at v.tree p ≡ o → option_map (shown_row w) (row_at w.tree p) ≡ option_map (shown_row v) o
  other_at p None ne other at = ap (option_map (shown_row w)) (ap (λ rows. row_at rows p) tree
      ∙ after_at hidden target t u v.tree p None (moved_at hidden target (without target v.tree) p leaf ne other ∙ (beside_at target v.tree p stands.over ne ∙ at)))
  other_at p (Some r) ne other at =
      let now : row_at w.tree p ≡ Some (twice (parent_of hidden) (parent_of target) t u r) = ap (λ rows. row_at rows p) tree
      ∙ after_at hidden target t u v.tree p (Some r) (moved_at hidden target (without target v.tree) p leaf ne other ∙ (beside_at target v.tree p stands.over ne ∙ at)) in
      let one = timed_row (parent_of hidden) t r in
      let here : p ≡ r.path = path_of v.tree p r at in
      let number : (twice (parent_of hidden) (parent_of target) t u r).number ≡ r.number = timed_number (parent_of target) u one ∙ timed_number (parent_of hidden) t r in
      let kind : (twice (parent_of hidden) (parent_of target) t u r).kind ≡ r.kind = timed_kind (parent_of target) u one ∙ timed_kind (parent_of hidden) t r in
      ap (option_map (shown_row w)) now ∙ ap (λ x. Some x) (shown_row_alike v w (twice (parent_of hidden) (parent_of target) t u r) r kind number
      (both_times r.kind (twice (parent_of hidden) (parent_of target) t u r).time one.time r.time
      (subst (λ k. (k ≡ Dir) ⊎ ((twice (parent_of hidden) (parent_of target) t u r).time ≡ one.time)) (timed_kind (parent_of hidden) t r)
      (timed_time (parent_of target) u one (λ e. timed_kind (parent_of hidden) t r ∙ stands.above_target r (ap (row_at v.tree) (e ∙ (timed_path (parent_of hidden) t r ∙ sym here)) ∙ at))))
      (timed_time (parent_of hidden) t r (λ e. stands.above_hidden r (ap (row_at v.tree) (e ∙ sym here) ∙ at))))
      (subst (λ n. bytes_of w n ≡ bytes_of v n) number (kept p (twice (parent_of hidden) (parent_of target) t u r) now)))

  others_shown : (p : Names) → (p ≡ target → ⊥) → shown_at w p ≡ shown_at v p
  others_shown p ne = by (is_hidden_path p) refl
    where
      by : (b : Bool) → is_hidden_path p ≡ b → shown_at w p ≡ shown_at v p
      by true e = rw e refl
      by false e = rw e (other_at p (row_at v.tree p) ne (λ f. never (is_hidden_path p) (ap is_hidden_path f ∙ stands.hides) e) refl)

  like : IsLike (row_at (map (moved_row hidden target) (without target v.tree)) target) row
  like = moved_to hidden target (without target v.tree) row leaf (gone_at target v.tree) (without_at target v.tree hidden stands.apart ∙ stands.at)

  abbrev end : Row
  end = twice (parent_of hidden) (parent_of target) t u like.found

  end_at : row_at w.tree target ≡ Some end
  end_at = ap (λ rows. row_at rows target) tree ∙ after_at hidden target t u v.tree target (Some like.found) like.at

  end_number : end.number ≡ row.number
  end_number = timed_number (parent_of target) u (timed_row (parent_of hidden) t like.found) ∙ (timed_number (parent_of hidden) t like.found ∙ like.number)

  end_kind : end.kind ≡ File
  end_kind = timed_kind (parent_of target) u (timed_row (parent_of hidden) t like.found) ∙ (timed_kind (parent_of hidden) t like.found ∙ (like.kind ∙ stands.file))

  end_shown : shown_row w end ≡ shown_as File end.number end.time (bytes_of w end.number)
  end_shown = ap (λ k. shown_as k end.number end.time (bytes_of w end.number)) end_kind

  pub number_there : (r : Row) → row_at w.tree target ≡ Some r → r.number ≡ row.number
  number_there r at = let same : Some end ≡ Some r = sym end_at ∙ at in let is : end ≡ r = cc in ap (λ (x : Row). x.number) (sym is) ∙ end_number

  pub gone_there : (hidden ≡ target → ⊥) → row_at w.tree hidden ≡ None
  gone_there ne = ap (λ rows. row_at rows hidden) tree ∙ after_at hidden target t u v.tree hidden None (moved_from hidden target (without target v.tree) leaf ne)

  pub commits : IsCommitted v target (bytes_of v row.number) w
  commits = record {
    others = others_shown;
    row = shown_as File end.number end.time (bytes_of w end.number);
    shown = rw stands.shows (ap (option_map (shown_row w)) end_at ∙ ap (λ x. Some x) end_shown);
    kind = refl;
    bytes = kept target end end_at ∙ ap (bytes_of v) end_number;
  }

pub moved_commits : (v w : World) (hidden target : Names) (row : Row) → StandsBeside v hidden target row → Edited (moves hidden target) v w → IsCommitted v target (bytes_of v row.number) w
moved_commits v w hidden target row stands (t, u, new, later, becomes) = commits v w hidden target row stands t u becomes.tree (λ number holds. (becomes.files number holds).1)

-- the row that was moved keeps its number
pub moved_number : (v w : World) (hidden target : Names) (row : Row) → StandsBeside v hidden target row → Edited (moves hidden target) v w → (r : Row) → row_at w.tree target ≡ Some r → r.number ≡ row.number
moved_number v w hidden target row stands (t, u, new, later, becomes) = number_there v w hidden target row stands t u becomes.tree (λ number holds. (becomes.files number holds).1)

-- nothing stands at the hidden name behind its move
pub moved_gone : (v w : World) (hidden target : Names) (row : Row) → StandsBeside v hidden target row → (hidden ≡ target → ⊥) → Edited (moves hidden target) v w → row_at w.tree hidden ≡ None
moved_gone v w hidden target row stands ne (t, u, new, later, becomes) = gone_there v w hidden target row stands t u becomes.tree (λ number holds. (becomes.files number holds).1) ne
