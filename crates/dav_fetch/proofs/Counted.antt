-- No more requests are made than a tree has rows to show, and one for the root.
use Rattle.std.proofs.Common.{◌≡◌, inl, inr, ◌<◌, ◌≤◌, ◌+◌, ◌==◌, ◌&&◌, ℕ, suc, List, [], ◌∷◌, ◌++◌, length, map, Bool, true, false, not, take, refl, sym, ap, subst, ◌∙◌, arith, true≢false}
use Rattle.std.specs.List.{list_any}
use Rattle.std.proofs.lemmas.Bool.{and_from, or_parts}
use Rattle.std.proofs.lemmas.Bool.Decides.{nat_tests}
use Rattle.std.proofs.lemmas.List.{length-append, length-map, take_all}
use Rattle.dav_core.specs.declared.tree.Kind.{Kind}
use Rattle.dav_core.specs.declared.tree.Kind.TheVariants.{Dir, File, Link}
use Rattle.dav_core.specs.declared.tree.Row.{Row}
use Rattle.dav_core.specs.Path.{Names, is_front}
use Rattle.dav_core.specs.Tree.{is_dir, is_link, look}
use Rattle.dav_core.specs.World.{World}
use Rattle.dav_core.proofs.Elements.{in_either}
use Rattle.dav_core.proofs.Paths.{names_equal}
use Rattle.dav_fetch.specs.declared.copied.Kept.{Kept}
use Rattle.dav_fetch.specs.Copy.{IsOf}
use Rattle.dav_fetch.specs.Fetching.{Files}
use Rattle.dav_fetch.specs.Keeping.{AreAscending}
use Rattle.dav_fetch.specs.Mirroring.{IsShownAt, is_shown, is_visible_row, visible_rows}
use Rattle.dav_fetch.specs.Walk.{Visit, Way}
use Rattle.dav_fetch.proofs.Among.{apart_both, apart_fewer, ascending_apart, to_filter, to_map}
use Rattle.dav_fetch.proofs.Orders.{none_ascend}
use Rattle.dav_fetch.proofs.TreeRows.{looked_is, same_row}
use Rattle.dav_fetch.proofs.Walks.{Walked, read_long}

-- what is shown has a visible row
visible : (w : World) (path : Names) (row : Row) → IsShownAt w path row → 0 < length path → IsOf path (map (λ (r : Row). r.path) (visible_rows w))
visible w path row at some =
    let (of, named) = looked_is w.tree path row at.there in
    let long : 0 < length row.path = subst (λ (p : Names). 0 < length p) (sym named) some in
    subst (λ p. IsOf p (map (λ (r : Row). r.path) (visible_rows w))) named
    (to_map (λ (r : Row). r.path) row (visible_rows w) (to_filter is_visible_row row w.tree of (and_from _ _ (below_root (length row.path) long) (ap is_shown named ∙ at.shown))))
  where
    below_root : (n : ℕ) → 0 < n → not (n == 0) ≡ true
    below_root n h = grind (arith, nat_tests)

-- Directories and files that were found are no more than the visible rows.
pub found_fewer : (w : World) (read : List Names) (way : Way) (paths : List Names) → Walked w read way → AreAscending paths → ((path : Names) → IsOf path paths → IsOf path way.files)
    → length way.dirs + length paths ≤ length (visible_rows w)
found_fewer w read way paths walk up from =
    let fewer = apart_fewer (way.dirs ++ paths) (map (λ (r : Row). r.path) (visible_rows w)) (apart_both way.dirs paths walk.apart.1 (ascending_apart paths up) differ) among in
    omega (arith, fewer, length-append way.dirs paths, length-map (visible_rows w) (λ (r : Row). r.path))
  where
    differ : (path : Names) → IsOf path way.dirs → IsOf path paths → ⊥
    differ path dir file =
        let d = walk.dirs path (inr dir) in
        let f = walk.files path (from path file) in
        clash f.row.kind (ap (λ (r : Row). r.kind) (same_row f.row d.row (look w.tree path) f.at.there d.at.there) ∙ d.kind) f.kind
      where
        clash : (k : Kind) → k ≡ Dir → is_dir k ≡ false → ⊥
        clash Dir e f = cc
        clash File e f = cc
        clash Link e f = cc

    among : (path : Names) → IsOf path (way.dirs ++ paths) → IsOf path (map (λ (r : Row). r.path) (visible_rows w))
    among path is = elim (in_either path way.dirs paths is) [
      | inl dir ↦ let d = walk.dirs path (inr dir) in visible w path d.row d.at (walk.named path dir)
      | inr file ↦ let f = walk.files path (from path file) in visible w path f.row f.at f.named
    ]

-- A page is due: fewer pages were asked.
pub page_allowed : (w : World) (read : List Names) (way : Way) (dir : Names) (due : List Names) (made most : ℕ) → Walked w read way → way.due ≡ dir ∷ due → length read ≡ made → length (visible_rows w) < most → made < most
page_allowed w read way dir due made most walk is many few =
    let long = read_long w read way walk in
    let fewer = found_fewer w read way [] walk (none_up) (λ path none. absurd none) in
    let rest : length way.due ≡ length due + 1 = ap length is ∙ one_more (length due) in
    omega (arith, long, fewer, rest, many, few)
  where
    one_more : (n : ℕ) → suc n ≡ n + 1
    one_more n = omega arith

    none_up : AreAscending []
    none_up = none_ascend

-- each visit takes a path
files_long : (old : List Kept) (paths : List Names) (visits : List Visit) (got : List Kept) (left : List Names) → Files old paths visits got left → length visits + length left ≡ length paths
files_long old paths [] got left (none, stays) = let same : length left ≡ length paths = ap length stays in omega (arith, same)
files_long old [] (v ∷ vs) got left took = absurd took
files_long old (path ∷ paths) (v ∷ vs) got left (worth, rest, file, whole, parts, took) = let more = files_long old paths vs rest left took in omega (arith, more)

pub files_left : (old : List Kept) (paths : List Names) (visits : List Visit) (got : List Kept) (left : List Names) (q : Names) → Files old paths visits got left → IsOf q left → IsOf q paths
files_left old paths [] got left q (none, stays) is = subst (IsOf q) stays is
files_left old [] (v ∷ vs) got left q took is = absurd took
files_left old (path ∷ paths) (v ∷ vs) got left q (worth, rest, file, whole, parts, took) is = inr (files_left old paths vs rest left q took is)

-- A file is due: fewer pages and files were asked.
pub file_allowed : (w : World) (read : List Names) (way : Way) (paths : List Names) (old : List Kept) (visits : List Visit) (got : List Kept) (left : List Names) (path : Names) (more : List Names) (made most : ℕ)
    → Walked w read way → way.due ≡ [] → length read ≡ made → AreAscending paths → ((p : Names) → IsOf p paths → IsOf p way.files) → Files old paths visits got left → left ≡ path ∷ more
    → length (visible_rows w) < most → made + length visits < most
file_allowed w read way paths old visits got left path more made most walk none many up from took is few =
    let long = read_long w read way walk in
    let fewer = found_fewer w read way paths walk up from in
    let all = files_long old paths visits got left took in
    let rest : length left ≡ length more + 1 = ap length is ∙ one_more (length more) in
    let no_due : length way.due ≡ 0 = ap length none in
    omega (arith, long, fewer, all, rest, no_due, many, few)
  where
    one_more : (n : ℕ) → suc n ≡ n + 1
    one_more n = omega arith

-- ---- no links

pub no_link : (rows : List Row) (path : Names) (row : Row) → list_any (λ r. is_link r.kind && is_front r.path path) rows ≡ false → IsOf row rows → row.path ≡ path → is_link row.kind ≡ false
no_link [] path row e is named = absurd is
no_link (r ∷ rows) path row e (inl same) named =
    ap (λ (x : Row). is_link x.kind) same
    ∙ alone (is_link r.kind) (is_front r.path path) (front_of (ap (λ (x : Row). x.path) (sym same) ∙ named)) (or_parts (is_link r.kind && is_front r.path path) (list_any (λ x. is_link x.kind && is_front x.path path) rows) e).0
  where
    front_of : r.path ≡ path → is_front r.path path ≡ true
    front_of e = ap (λ p. is_front p path) e ∙ names_equal path (take (length path) path) (sym (take_all (length path) path (omega arith)))

    alone : (a b : Bool) → b ≡ true → (a && b) ≡ false → a ≡ false
    alone true b on f = absurd (true≢false (sym on ∙ f))
    alone false b on f = refl
no_link (r ∷ rows) path row e (inr more) named =
    no_link rows path row (or_parts (is_link r.kind && is_front r.path path) (list_any (λ x. is_link x.kind && is_front x.path path) rows) e).1 more named
