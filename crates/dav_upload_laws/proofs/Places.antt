-- Where the table of PUT passes, the directory above a target stands, and no directory at it: so a hidden file may be made beside it, and moved to it.
use Rattle.std.proofs.Common.{◌≡◌, ◌<◌, ◌&&◌, ◌||◌, ◌++◌, List, [], ◌∷◌, ℕ, length, Bool, true, false, cond, Option, None, Some, Ok, Err, refl, sym, ap, subst, ◌∙◌, arith, append-nil, append_assoc, ◌-◌, drop, take-append-drop}
use Rattle.std.proofs.lemmas.Bool.Decides.{nat_tests}
use Rattle.dav_core.specs.declared.handle.DiskError.TheVariants.{NotDir, NotEmpty, IsDir}
use Rattle.dav_core.specs.declared.tree.Kind.{Kind}
use Rattle.dav_core.specs.declared.tree.Kind.TheVariants.{Dir, File, Link}
use Rattle.dav_core.specs.declared.tree.Row.{Row}
use Rattle.dav_core.specs.Allowed.{found_then, is_root, moving, moving_over, moving_to, opening, opening_at, place, place_from, taking_file, taking_file_row, through, through_kind}
use Rattle.dav_core.specs.Changes.{is_leaf}
use Rattle.dav_core.specs.Edits.{makes, moves, takes}
use Rattle.dav_core.specs.Path.{Names, is_front, parent_of, same_names}
use Rattle.dav_core.specs.Tree.{below, below_kind, is_dir, is_link, is_linked, look, look_from, row_at, standing}
use Rattle.dav_core.specs.World.{IsWorld, World}
use Rattle.dav_core.proofs.Paths.{parent_length}
use Rattle.dav_walks.proofs.trees.TreeRows.{front_equal, front_of, front_then}
use Rattle.dav_upload.specs.Pieces.{upload_options}
use Rattle.dav_upload.proofs.Beside.{looked_at}
use Rattle.dav_upload.proofs.Moving.{path_of}
use Rattle.dav_core.proofs.Paths.{names_same, parent_and_last}
use Rattle.std.proofs.lemmas.Bool.{false_from_ne_true}

-- ---- a name in a directory

-- below a directory a call finds what stands at the name, or nothing
placed_in : (tree : List Row) (at names : Names) (name : List ℕ) (row : Row) → look_from tree at names ≡ Ok row → row.kind ≡ Dir → place_from tree at (names ++ name ∷ []) ≡ Ok (row_at tree ((at ++ names) ++ name ∷ []))
placed_in tree at [] name row looks dir = by (row_at tree at) refl looks
  where
    by : (o : Option Row) → row_at tree at ≡ o → standing o ≡ Ok row → through (row_at tree at) (Ok (row_at tree (at ++ name ∷ []))) ≡ Ok (row_at tree ((at ++ []) ++ name ∷ []))
    by None e f = cc
    by (Some r) e f =
        let same : r ≡ row = cc in
        let kind : r.kind ≡ Dir = ap (λ (x : Row). x.kind) same ∙ dir in
        ap (λ o. through o (Ok (row_at tree (at ++ name ∷ [])))) e
        ∙ (ap (λ k. through_kind k (Ok (row_at tree (at ++ name ∷ [])))) kind ∙ ap (λ x. Ok (row_at tree (x ++ name ∷ []))) (sym (append-nil at)))
placed_in tree at (next ∷ names) name row looks dir = by (row_at tree at) refl looks (placed_in tree (at ++ next ∷ []) names name row)
  where
    more : ((at ++ next ∷ []) ++ names) ++ name ∷ [] ≡ (at ++ next ∷ names) ++ name ∷ []
    more = ap (λ x. x ++ name ∷ []) (append_assoc at (next ∷ []) names)

    by_kind : (k : Kind) → (r : Row) → r.kind ≡ k → row_at tree at ≡ Some r → below_kind r.kind (look_from tree (at ++ next ∷ []) names) ≡ Ok row
        → (look_from tree (at ++ next ∷ []) names ≡ Ok row → row.kind ≡ Dir → place_from tree (at ++ next ∷ []) (names ++ name ∷ []) ≡ Ok (row_at tree (((at ++ next ∷ []) ++ names) ++ name ∷ [])))
        → through (row_at tree at) (place_from tree (at ++ next ∷ []) (names ++ name ∷ [])) ≡ Ok (row_at tree ((at ++ next ∷ names) ++ name ∷ []))
    by_kind Dir r kind e f on =
        ap (λ o. through o (place_from tree (at ++ next ∷ []) (names ++ name ∷ []))) e
        ∙ (ap (λ k. through_kind k (place_from tree (at ++ next ∷ []) (names ++ name ∷ []))) kind
        ∙ (on (sym (ap (λ k. below_kind k (look_from tree (at ++ next ∷ []) names)) kind) ∙ f) dir ∙ ap (λ x. Ok (row_at tree x)) more))
    by_kind File r kind e f on = let g : Err NotDir ≡ Ok row = sym (ap (λ k. below_kind k (look_from tree (at ++ next ∷ []) names)) kind) ∙ f in cc
    by_kind Link r kind e f on = let g : Err NotDir ≡ Ok row = sym (ap (λ k. below_kind k (look_from tree (at ++ next ∷ []) names)) kind) ∙ f in cc

    by : (o : Option Row) → row_at tree at ≡ o → below o (look_from tree (at ++ next ∷ []) names) ≡ Ok row
        → (look_from tree (at ++ next ∷ []) names ≡ Ok row → row.kind ≡ Dir → place_from tree (at ++ next ∷ []) (names ++ name ∷ []) ≡ Ok (row_at tree (((at ++ next ∷ []) ++ names) ++ name ∷ [])))
        → through (row_at tree at) (place_from tree (at ++ next ∷ []) (names ++ name ∷ [])) ≡ Ok (row_at tree ((at ++ next ∷ names) ++ name ∷ []))
    by None e f on = cc
    by (Some r) e f on = by_kind r.kind r refl e f on

pub placed : (tree : List Row) (dir : Names) (name : List ℕ) (row : Row) → look tree dir ≡ Ok row → row.kind ≡ Dir → place tree (dir ++ name ∷ []) ≡ Ok (row_at tree (dir ++ name ∷ []))
placed tree dir name row looks kind = placed_in tree [] dir name row looks kind

pub placed_below : (tree : List Row) (p : Names) (row : Row) → 0 < length p → look tree (parent_of p) ≡ Ok row → row.kind ≡ Dir → place tree p ≡ Ok (row_at tree p)
placed_below tree p row some looks kind =
    let (name, is) = parent_and_last p some in
    subst (λ x. place tree x ≡ Ok (row_at tree x)) (sym is) (placed tree (parent_of p) name row looks kind)

-- ---- what may be done

pub may_make : (tree : List Row) (p : Names) → place tree p ≡ Ok (row_at tree p) → row_at tree p ≡ None → opening tree p upload_options ≡ Ok (Some (makes p File []))
may_make tree p there none = ap (opening_at upload_options p) (there ∙ ap (λ o. Ok o) none)

pub may_take : (w : World) (p : Names) (row : Row) → IsWorld w → row_at w.tree p ≡ Some row → row.kind ≡ File → taking_file w.tree p ≡ Ok (Some (takes row.path))
may_take w p row is at kind = ap (found_then taking_file_row) (looked_at w p row is at) ∙ ap (λ k. cond (is_dir k) (Err IsDir) (Ok (Some (takes row.path)))) kind

over_ok : (tree : List Row) (row : Row) (target : Names) (o : Option Row) → row.kind ≡ File → ((r : Row) → o ≡ Some r → is_dir r.kind ≡ false) → moving_over tree row target o ≡ Ok (Some (moves row.path target))
over_ok tree row target None kind no_dir = refl
over_ok tree row target (Some there) kind no_dir =
    ap (λ k. cond (is_dir k) (cond (is_dir there.kind) (cond (is_leaf there.path tree) (Ok (Some (moves row.path target))) (Err NotEmpty)) (Err NotDir)) (cond (is_dir there.kind) (Err IsDir) (Ok (Some (moves row.path target))))) kind
    ∙ ap (λ b. cond b (Err IsDir) (Ok (Some (moves row.path target)))) (no_dir there refl)

pub may_go : (w : World) (hidden target : Names) (row : Row) → IsWorld w → row_at w.tree hidden ≡ Some row → row.kind ≡ File → 0 < length hidden → 0 < length target → parent_of hidden ≡ parent_of target → (hidden ≡ target → ⊥)
    → place w.tree target ≡ Ok (row_at w.tree target) → ((r : Row) → row_at w.tree target ≡ Some r → is_dir r.kind ≡ false) → moving w.tree hidden target ≡ Ok (Some (moves row.path target))
may_go w hidden target row is at kind some named beside differ there no_dir =
    ap (found_then (λ row. moving_to w.tree row target (place w.tree target))) (looked_at w hidden row is at)
    ∙ (ap (moving_to w.tree row target) there
    ∙ (ap (λ b. cond b (Err NotEmpty) (cond (same_names row.path target) (Ok None) (cond (is_front row.path target) (Err NotEmpty) (moving_over w.tree row target (row_at w.tree target))))) roots
    ∙ (ap (λ b. cond b (Ok None) (cond (is_front row.path target) (Err NotEmpty) (moving_over w.tree row target (row_at w.tree target)))) apart
    ∙ (ap (λ b. cond b (Err NotEmpty) (moving_over w.tree row target (row_at w.tree target))) no_front ∙ over_ok w.tree row target (row_at w.tree target) kind no_dir))))
  where
    here : hidden ≡ row.path
    here = path_of w.tree hidden row at

    no_root : (p : Names) → 0 < length p → is_root p ≡ false
    no_root [] long = absurd (omega (arith, long))
    no_root (x ∷ p) long = grind (arith, nat_tests)

    roots : (is_root row.path || is_root target) ≡ false
    roots = ap (λ b. b || is_root target) (ap is_root (sym here) ∙ no_root hidden some) ∙ no_root target named

    apart : same_names row.path target ≡ false
    apart = false_from_ne_true (same_names row.path target) (λ e. differ (here ∙ names_same row.path target e))

    long : length target ≡ length hidden
    long = let a = parent_length hidden in let b = parent_length target in let c = ap length beside in omega (arith, a, b, c, some, named)

    no_front : is_front row.path target ≡ false
    no_front = false_from_ne_true (is_front row.path target)
        (λ e. differ (front_equal hidden target (ap (λ x. is_front x target) here ∙ e) (omega (arith, long))))

-- ---- links

-- where no link stands on the way to a path none stands on the way to its directory
pub clear_above : (rows : List Row) (p : Names) → is_linked rows p ≡ false → is_linked rows (parent_of p) ≡ false
clear_above [] p clear = refl
clear_above (r ∷ rows) p clear = by (is_link r.kind) (is_front r.path (parent_of p)) refl refl (clear_above rows p (or_parts (is_link r.kind && is_front r.path p) (is_linked rows p) clear).1)
  where
    or_parts : (a b : Bool) → (a || b) ≡ false → (a ≡ false) × (b ≡ false)
    or_parts true b e = cc
    or_parts false b e = (refl, e)

    one : (is_link r.kind && is_front r.path p) ≡ false
    one = (or_parts (is_link r.kind && is_front r.path p) (is_linked rows p) clear).0

    up : is_front (parent_of p) p ≡ true
    up = front_of (parent_of p) p (drop (length p - 1) p) (sym (take-append-drop (length p - 1) p))

    by : (a b : Bool) → is_link r.kind ≡ a → is_front r.path (parent_of p) ≡ b → is_linked rows (parent_of p) ≡ false → is_linked (r ∷ rows) (parent_of p) ≡ false
    by false b e f rest = ap (λ a. (a && is_front r.path (parent_of p)) || is_linked rows (parent_of p)) e ∙ rest
    by true false e f rest = ap (λ a. (a && is_front r.path (parent_of p)) || is_linked rows (parent_of p)) e ∙ (ap (λ b. b || is_linked rows (parent_of p)) f ∙ rest)
    by true true e f rest =
        let through : is_front r.path p ≡ true = front_then r.path (parent_of p) p f up in
        let no : true ≡ false = sym (ap (λ a. a && is_front r.path p) e ∙ through) ∙ one in cc
