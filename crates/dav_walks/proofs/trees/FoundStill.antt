-- Where a path is found below a directory, and after rows are gone.
-- Headlines: `found_still` and `found_timed`.
use Rattle.std.proofs.Common.{◌≡◌, ◌⊎◌, inl, inr, ◌||◌, ◌&&◌, ◌-◌, Bool, true, false, cond, List, [], ◌∷◌, ◌++◌, length, map, take, drop, option_map, Option, None, Some, refl, sym, ap, ◌∙◌, append_assoc, append-nil}
use Rattle.std.proofs.lemmas.List.{length-map}
use Rattle.std.specs.List.{filter, find, list_any}
use Rattle.std.proofs.Math.Seq.{take-append_seam}
use Rattle.std.proofs.lemmas.Bool.{and_parts, or_cases}
use Rattle.std.proofs.lemmas.List.{take-append-drop}
use Rattle.dav_core.proofs.Plain.{names_same}
use Rattle.dav_core.specs.declared.tree.Row.{Row}
use Rattle.dav_core.specs.Path.{Names, is_front, parent_of, same_names}
use Rattle.dav_core.specs.Tree.{row_at}
use Rattle.dav_model.specs.Finding.{IsLoose, IsOf, is_alike, member, member_or, on_from, resolved_from}
use Rattle.dav_model.specs.Folds.{Name, fold_name, fold_path, folds_like}
use Rattle.dav_model.specs.Valid.{no_twins}
use Rattle.dav_model.proofs.LooseWalks.{find_row, loose_is_walk, names_equal, walk_is_loose}
use Rattle.dav_walks.proofs.trees.StillApart.{apart_fewer}

child_last : (folds : Bool) (tree : List Row) (at : Names) (last : Name) (row : Row) → row_at tree (at ++ last ∷ []) ≡ Some row → resolved_from folds tree at (last ∷ []) ≡ at ++ last ∷ []
child_last folds tree at last row e =
    ap (λ (o : Option Row). on_from (member_or o (find (is_alike folds at last) tree)) (at ++ last ∷ []) (λ next. next)) e
    ∙ sym (names_same (at ++ last ∷ []) row.path (find_row (λ r. same_names (at ++ last ∷ []) r.path) tree row e).0)

child_on : (folds : Bool) (tree : List Row) (at : Names) (name : Name) (init : Names) (last : Name) (row : Row) (found : Option Names)
    → ((next : Names) → row_at tree (resolved_from folds tree next init ++ last ∷ []) ≡ Some row → resolved_from folds tree next (init ++ last ∷ []) ≡ resolved_from folds tree next init ++ last ∷ [])
    → row_at tree (on_from found (at ++ name ∷ init) (λ next. resolved_from folds tree next init) ++ last ∷ []) ≡ Some row
    → on_from found (at ++ name ∷ (init ++ last ∷ [])) (λ next. resolved_from folds tree next (init ++ last ∷ [])) ≡ on_from found (at ++ name ∷ init) (λ next. resolved_from folds tree next init) ++ last ∷ []
child_on folds tree at name init last row None up e = sym (append_assoc at (name ∷ init) (last ∷ []))
child_on folds tree at name init last row (Some next) up e = up next e

-- A member that stands in a directory is found below the path at which the directory is found.
pub child_found : (folds : Bool) (tree : List Row) (at init : Names) (last : Name) (row : Row) → row_at tree (resolved_from folds tree at init ++ last ∷ []) ≡ Some row
    → resolved_from folds tree at (init ++ last ∷ []) ≡ resolved_from folds tree at init ++ last ∷ []
child_found folds tree at [] last row e = child_last folds tree at last row e
child_found folds tree at (name ∷ init) last row e = child_on folds tree at name init last row (member folds tree at name) (λ next. child_found folds tree next init last row) e

-- ---- fewer rows

below_at : (folds : Bool) (at : Names) (name : Name) (row : Row) → is_alike folds at name row ≡ true → (x : Names) × (row.path ≡ at ++ x)
below_at folds at name row e =
    elim (or_cases (same_names (at ++ name ∷ []) row.path) (folds && (same_names (parent_of row.path) at && folds_like row.path (at ++ name ∷ []))) e) [
      | inl same ↦ (name ∷ [], sym (names_same (at ++ name ∷ []) row.path same))
      | inr all ↦ (let q = and_parts (same_names (parent_of row.path) at) (folds_like row.path (at ++ name ∷ [])) (and_parts folds (same_names (parent_of row.path) at && folds_like row.path (at ++ name ∷ [])) all).1 in
          (drop (length row.path - 1) row.path, sym (take-append-drop (length row.path - 1) row.path) ∙ ap (λ z. z ++ drop (length row.path - 1) row.path) (names_same (parent_of row.path) at q.0)))
    ]

pub loose_below : (folds : Bool) (tree : List Row) (at names end : Names) → IsLoose folds tree at names end → (x : Names) × (end ≡ at ++ x)
loose_below folds tree at [] end walk = ([], walk ∙ sym (append-nil at))
loose_below folds tree at (name ∷ names) end (inl (next, of, alike, walk)) =
    let p = loose_below folds tree next.path names end walk in
    let q = below_at folds at name next alike in
    (q.0 ++ p.0, p.1 ∙ (ap (λ z. z ++ p.0) q.1 ∙ append_assoc at q.0 p.0))
loose_below folds tree at (name ∷ names) end (inr (none, e)) = (name ∷ names, e)

kept_by : (keep : Row → Bool) (b : Bool) (r x : Row) (rows : List Row) → keep r ≡ b → keep x ≡ true → (IsOf x rows → IsOf x (filter keep rows)) → (x ≡ r) ⊎ IsOf x rows → IsOf x (cond b (r ∷ filter keep rows) (filter keep rows))
kept_by keep true r x rows e k on (inl same) = inl same
kept_by keep true r x rows e k on (inr of) = inr (on of)
kept_by keep false r x rows e k on (inl same) = let never : keep x ≡ false = ap keep same ∙ e in cc
kept_by keep false r x rows e k on (inr of) = on of

kept_of : (keep : Row → Bool) (rows : List Row) (x : Row) → keep x ≡ true → IsOf x rows → IsOf x (filter keep rows)
kept_of keep [] x k of = of
kept_of keep (r ∷ rows) x k of = kept_by keep (keep r) r x rows refl k (kept_of keep rows x k) of

none_by : (b c : Bool) (f : Row → Bool) (r : Row) (rows kept : List Row) → f r ≡ c → (c || list_any f rows) ≡ false → (list_any f rows ≡ false → list_any f kept ≡ false) → list_any f (cond b (r ∷ kept) kept) ≡ false
none_by b true f r rows kept e h on = cc
none_by true false f r rows kept e h on = ap (λ z. z || list_any f kept) e ∙ on h
none_by false false f r rows kept e h on = on h

none_kept : (f keep : Row → Bool) (rows : List Row) → list_any f rows ≡ false → list_any f (filter keep rows) ≡ false
none_kept f keep [] e = refl
none_kept f keep (r ∷ rows) e = none_by (keep r) (f r) f r rows (filter keep rows) refl e (none_kept f keep rows)

loose_kept : (keep : Row → Bool) (folds : Bool) (tree : List Row) (at names end : Names) → ((r : Row) → IsOf r tree → is_front r.path end ≡ true → keep r ≡ true)
    → IsLoose folds tree at names end → IsLoose folds (filter keep tree) at names end
loose_kept keep folds tree at [] end stays walk = walk
loose_kept keep folds tree at (name ∷ names) end stays (inl (next, of, alike, walk)) =
    let p = loose_below folds tree next.path names end walk in
    let front : is_front next.path end ≡ true = names_equal next.path (take (length next.path) end) (sym (ap (take (length next.path)) p.1 ∙ take-append_seam next.path p.0)) in
    inl (next, kept_of keep tree next (stays next of front) of, alike, loose_kept keep folds tree next.path names end stays walk)
loose_kept keep folds tree at (name ∷ names) end stays (inr (none, e)) = inr (none_kept (is_alike folds at name) keep tree none, e)

-- Where rows go, none of which stands on the way, a path is found where it was.
pub found_still : (keep : Row → Bool) (folds : Bool) (tree : List Row) (names : Names) → (folds ≡ true → no_twins tree ≡ true)
    → ((r : Row) → IsOf r tree → is_front r.path (resolved_from folds tree [] names) ≡ true → keep r ≡ true)
    → resolved_from folds tree [] names ≡ resolved_from folds (filter keep tree) [] names
found_still keep folds tree names apart stays =
    loose_is_walk folds (filter keep tree) [] names (resolved_from folds tree [] names) (λ e. apart_fewer keep tree (apart e))
    (loose_kept keep folds tree [] names (resolved_from folds tree [] names) stays (walk_is_loose folds tree [] names))

-- ---- other times

abbrev path_of : Option Row → Option Names
path_of o = option_map (λ (r : Row). r.path) o

paths_same : (f : Row → Bool) (h : Row → Row) → ((r : Row) → (h r).path ≡ r.path) → ((r : Row) → f (h r) ≡ f r) → (rows : List Row) → path_of (find f (map h rows)) ≡ path_of (find f rows)
paths_same f h same agrees [] = refl
paths_same f h same agrees (r ∷ rows) =
    ap (λ b. path_of (cond b (Some (h r)) (find f (map h rows)))) (agrees r) ∙ by (f r) (paths_same f h same agrees rows)
  where
    by : (b : Bool) → path_of (find f (map h rows)) ≡ path_of (find f rows) → path_of (cond b (Some (h r)) (find f (map h rows))) ≡ path_of (cond b (Some r) (find f rows))
    by true rest = ap Some (same r)
    by false rest = rest

member_paths : (a b c d : Option Row) → path_of a ≡ path_of c → path_of b ≡ path_of d → member_or a b ≡ member_or c d
member_paths (Some x) b (Some y) d e f = e
member_paths (Some x) b None d e f = cc
member_paths None b (Some y) d e f = cc
member_paths None b None d e f = f

timed_on : (h : Row → Row) (folds : Bool) (tree : List Row) (whole names : Names) (a b : Option Names) → a ≡ b → ((next : Names) → resolved_from folds (map h tree) next names ≡ resolved_from folds tree next names)
    → on_from a whole (λ next. resolved_from folds (map h tree) next names) ≡ on_from b whole (λ next. resolved_from folds tree next names)
timed_on h folds tree whole names None None e up = refl
timed_on h folds tree whole names None (Some m) e up = cc
timed_on h folds tree whole names (Some n) None e up = cc
timed_on h folds tree whole names (Some n) (Some m) e up = let same : n ≡ m = cc in up n ∙ ap (λ z. resolved_from folds tree z names) same

-- A path is found where it was, where rows get other times.
pub found_timed : (h : Row → Row) → ((r : Row) → (h r).path ≡ r.path) → (folds : Bool) (tree : List Row) (at names : Names) → resolved_from folds (map h tree) at names ≡ resolved_from folds tree at names
found_timed h same folds tree at [] = refl
found_timed h same folds tree at (name ∷ names) =
    timed_on h folds tree (at ++ name ∷ names) names (member folds (map h tree) at name) (member folds tree at name)
    (member_paths (row_at (map h tree) (at ++ name ∷ [])) (find (is_alike folds at name) (map h tree)) (row_at tree (at ++ name ∷ [])) (find (is_alike folds at name) tree)
    (paths_same (λ r. same_names (at ++ name ∷ []) r.path) h same (λ r. ap (same_names (at ++ name ∷ [])) (same r)) tree)
    (paths_same (is_alike folds at name) h same (λ r. ap (λ (p : Names). same_names (at ++ name ∷ []) p || (folds && (same_names (parent_of p) at && folds_like p (at ++ name ∷ [])))) (same r)) tree))
    (λ next. found_timed h same folds tree next names)

-- ---- what is found folds like what is asked

pub fold_append : (a b : Names) → fold_path (a ++ b) ≡ fold_path a ++ fold_path b
fold_append [] b = refl
fold_append (name ∷ a) b = ap (λ z. fold_name name ∷ z) (fold_append a b)

pub alike_folds : (folds : Bool) (at : Names) (name : Name) (row : Row) → is_alike folds at name row ≡ true → fold_path row.path ≡ fold_path (at ++ name ∷ [])
alike_folds folds at name row e =
    elim (or_cases (same_names (at ++ name ∷ []) row.path) (folds && (same_names (parent_of row.path) at && folds_like row.path (at ++ name ∷ []))) e) [
      | inl same ↦ ap fold_path (sym (names_same (at ++ name ∷ []) row.path same))
      | inr all ↦ (let q = and_parts (same_names (parent_of row.path) at) (folds_like row.path (at ++ name ∷ [])) (and_parts folds (same_names (parent_of row.path) at && folds_like row.path (at ++ name ∷ [])) all).1 in
          names_same (fold_path row.path) (fold_path (at ++ name ∷ [])) q.1)
    ]

member_folds : (folds : Bool) (tree : List Row) (at : Names) (name : Name) (next : Names) (exact alike : Option Row) → row_at tree (at ++ name ∷ []) ≡ exact → find (is_alike folds at name) tree ≡ alike
    → member_or exact alike ≡ Some next → fold_path next ≡ fold_path (at ++ name ∷ [])
member_folds folds tree at name next (Some row) alike e f is =
    let here : row.path ≡ next = cc in
    ap fold_path (sym here ∙ sym (names_same (at ++ name ∷ []) row.path (find_row (λ r. same_names (at ++ name ∷ []) r.path) tree row e).0))
member_folds folds tree at name next None (Some row) e f is =
    let here : row.path ≡ next = cc in
    ap fold_path (sym here) ∙ alike_folds folds at name row (find_row (is_alike folds at name) tree row f).0
member_folds folds tree at name next None None e f is = cc

on_folds : (folds : Bool) (tree : List Row) (at : Names) (name : Name) (names : Names) (found : Option Names) → member folds tree at name ≡ found
    → ((next : Names) → fold_path (resolved_from folds tree next names) ≡ fold_path (next ++ names)) → fold_path (on_from found (at ++ name ∷ names) (λ next. resolved_from folds tree next names)) ≡ fold_path (at ++ name ∷ names)
on_folds folds tree at name names None e up = refl
on_folds folds tree at name names (Some next) e up =
    up next ∙ (fold_append next names ∙ (ap (λ z. z ++ fold_path names) (member_folds folds tree at name next (row_at tree (at ++ name ∷ [])) (find (is_alike folds at name) tree) refl refl e)
    ∙ (sym (fold_append (at ++ name ∷ []) names) ∙ ap fold_path (append_assoc at (name ∷ []) names))))

-- Where a path is found folds like the path.
pub found_folds : (folds : Bool) (tree : List Row) (at names : Names) → fold_path (resolved_from folds tree at names) ≡ fold_path (at ++ names)
found_folds folds tree at [] = ap fold_path (sym (append-nil at))
found_folds folds tree at (name ∷ names) = on_folds folds tree at name names (member folds tree at name) refl (λ next. found_folds folds tree next names)

-- It has as many names.
pub found_length : (folds : Bool) (tree : List Row) (names : Names) → length (resolved_from folds tree [] names) ≡ length names
found_length folds tree names = sym (length-map (resolved_from folds tree [] names) fold_name) ∙ (ap length (found_folds folds tree [] names) ∙ length-map names fold_name)
