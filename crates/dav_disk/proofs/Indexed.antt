-- The places of rows, as rows are found, appended and changed.
use Rattle.std.proofs.Common.{suc, ◌≡◌, ◌==◌, take, drop, ◌<◌, ◌&&◌, ℕ, List, [], ◌∷◌, ◌++◌, length, map, get_or, Bool, true, false, cond, Option, None, Some, refl, sym, ap, ◌∙◌, arith}
use Rattle.std.proofs.lemmas.List.{length-map}
use Rattle.std.specs.Option.{option_map, option_or}
use Rattle.std.specs.Str.{bytes_eq}
use Rattle.std.proofs.lemmas.Bool.{and_parts, and_from}
use Rattle.std.proofs.lemmas.Slice.Eq.{bytes_eq-Decides}
use Rattle.dav_core.specs.declared.tree.Row.{Row}
use Rattle.dav_core.specs.Path.{Names, same_names}
use Rattle.dav_core.specs.Tree.{row_at}
use Rattle.dav_core.specs.Changes.{timed_row}
use Rattle.dav_core.specs.Edits.{timed_number}
use Rattle.dav_core.specs.declared.time.FileTime.{FileTime}
use Rattle.dav_disk.specs.declared.places.Places.{Places}
use Rattle.dav_disk.specs.Places.{place_of, Indexes, IsAdded}
use Rattle.dav_core.proofs.Paths.{names_same, names_equal, names_differ, no_path_ends}
use Rattle.dav_core.proofs.ChangedRows.{set_path}
use Rattle.dav_io.proofs.Cases.{same_tests}

next_below : (b : Bool) (o : Option ℕ) (n i : ℕ) → ((j : ℕ) → o ≡ Some j → j < n) → cond b (Some 0) (option_map suc o) ≡ Some i → i < suc n
next_below true o n i h e = let zero : 0 ≡ i = cc in omega arith
next_below false None n i h e = cc
next_below false (Some j) n i h e = let same : suc j ≡ i = cc in let lt = h j refl in omega arith

-- a place is one of the rows'
pub place_below : (rows : List Row) (path : Names) (i : ℕ) → place_of path rows ≡ Some i → i < length rows
place_below [] path i e = cc
place_below (row ∷ rows) path i e = next_below (same_names path row.path) (place_of path rows) (length rows) i (place_below rows path) e

next_found : (b : Bool) (o : Option ℕ) (found : Option Row) (row : Row) (rows : List Row) (i : ℕ) (d : Row) → ((j : ℕ) → o ≡ Some j → found ≡ Some (get_or rows j d))
    → cond b (Some 0) (option_map suc o) ≡ Some i → cond b (Some row) found ≡ Some (get_or (row ∷ rows) i d)
next_found true o found row rows i d h e = let zero : 0 ≡ i = cc in ap (λ n. Some (get_or (row ∷ rows) n d)) zero
next_found false None found row rows i d h e = cc
next_found false (Some j) found row rows i d h e = let same : suc j ≡ i = cc in h j refl ∙ ap (λ n. Some (get_or (row ∷ rows) n d)) same

-- at a place stands the row of its path
pub place_found : (rows : List Row) (path : Names) (i : ℕ) (d : Row) → place_of path rows ≡ Some i → row_at rows path ≡ Some (get_or rows i d)
place_found [] path i d e = cc
place_found (row ∷ rows) path i d e = next_found (same_names path row.path) (place_of path rows) (row_at rows path) row rows i d (λ j. place_found rows path j d) e

next_none : (b : Bool) (o : Option ℕ) (found : Option Row) (row : Row) → (o ≡ None → found ≡ None) → cond b (Some 0) (option_map suc o) ≡ None → cond b (Some row) found ≡ None
next_none true o found row h e = cc
next_none false None found row h e = h refl
next_none false (Some j) found row h e = cc

-- where none stands there is no place
pub place_none : (rows : List Row) (path : Names) → place_of path rows ≡ None → row_at rows path ≡ None
place_none [] path e = refl
place_none (row ∷ rows) path e = next_none (same_names path row.path) (place_of path rows) (row_at rows path) row (place_none rows path) e

suc_or : (b : Bool) (n : ℕ) (o : Option ℕ) → option_map suc (option_or o (cond b (Some n) None)) ≡ option_or (option_map suc o) (cond b (Some (suc n)) None)
suc_or true n None = refl
suc_or true n (Some i) = refl
suc_or false n None = refl
suc_or false n (Some i) = refl

next_or : (b : Bool) (o p : Option ℕ) → cond b (Some 0) (option_or o p) ≡ option_or (cond b (Some 0) o) p
next_or true o p = refl
next_or false o p = refl

-- the places, where a row is appended
pub place_more : (rows : List Row) (row : Row) (path : Names) → place_of path (rows ++ row ∷ []) ≡ option_or (place_of path rows) (cond (same_names path row.path) (Some (length rows)) None)
place_more [] row path = refl
place_more (r ∷ rows) row path =
    ap (λ o. cond (same_names path r.path) (Some 0) (option_map suc o)) (place_more rows row path)
    ∙ ap (cond (same_names path r.path) (Some 0)) (suc_or (same_names path row.path) (length rows) (place_of path rows))
    ∙ next_or (same_names path r.path) (option_map suc (place_of path rows)) (cond (same_names path row.path) (Some (suc (length rows))) None)

-- and where rows change, but for their paths
pub place_mapped : (f : Row → Row) → ((r : Row) → (f r).path ≡ r.path) → (rows : List Row) (path : Names) → place_of path (map f rows) ≡ place_of path rows
place_mapped f same [] path = refl
place_mapped f same (r ∷ rows) path =
    ap (λ p. cond (same_names path p) (Some 0) (option_map suc (place_of path (map f rows)))) (same r)
    ∙ ap (λ o. cond (same_names path r.path) (Some 0) (option_map suc o)) (place_mapped f same rows path)

-- ---- paths by their last names

ends_alike : (a b : Names) (x y : List ℕ) → a ++ x ∷ [] ≡ b ++ y ∷ [] → (a ≡ b) × (x ≡ y)
ends_alike [] [] x y e = let same : x ≡ y = cc in (refl, same)
ends_alike [] (n ∷ b) x y e = let rest : [] ≡ b ++ y ∷ [] = cc in absurd (no_path_ends b y (sym rest))
ends_alike (n ∷ a) [] x y e = let rest : a ++ x ∷ [] ≡ [] = cc in absurd (no_path_ends a x rest)
ends_alike (n ∷ a) (m ∷ b) x y e =
    let first : n ≡ m = cc in
    let rest : a ++ x ∷ [] ≡ b ++ y ∷ [] = cc in
    let t = ends_alike a b x y rest in
    let front : n ∷ a ≡ m ∷ b = ap (λ k. k ∷ a) first ∙ ap (λ names. m ∷ names) t.0 in
    (front, t.1)

-- a name in a directory is that of a path
pub path_test : (dir at : Names) (name added : List ℕ) → same_names (dir ++ name ∷ []) (at ++ added ∷ []) ≡ (same_names at dir && bytes_eq added name)
path_test dir at name added =
    same_tests (same_names (dir ++ name ∷ []) (at ++ added ∷ [])) (same_names at dir && bytes_eq added name)
    (λ e.
    let t = ends_alike dir at name added (names_same (dir ++ name ∷ []) (at ++ added ∷ []) e) in
    and_from (same_names at dir) (bytes_eq added name) (names_equal at dir (sym t.0)) ((bytes_eq-Decides added name).1 (sym t.1)))
    (λ e.
    let t = and_parts (same_names at dir) (bytes_eq added name) e in
    names_equal (dir ++ name ∷ []) (at ++ added ∷ [])
    (ap (λ (p : Names). p ++ name ∷ []) (sym (names_same at dir t.0)) ∙ ap (λ (n : List ℕ). at ++ n ∷ []) (sym ((bytes_eq-Decides added name).0 t.1))))

-- ---- an index of rows

-- a row that is appended, where its path is a name in a directory
pub row_indexed : (p q : Places) (old new : List Row) (row : Row) (at : Names) (added : List ℕ) (n : ℕ) → Indexes p old → IsAdded at added n p q → row.path ≡ at ++ added ∷ [] → n ≡ length old
    → new ≡ old ++ row ∷ [] → Indexes q new
row_indexed p q old new row at added n h is path here e = record {
  places = λ dir name.
      is dir name
      ∙ ap (λ o. option_or o (cond (same_names at dir && bytes_eq added name) (Some n) None)) (h.places dir name)
      ∙ ap (λ b. option_or (place_of (dir ++ name ∷ []) old) (cond b (Some n) None)) (sym (path_test dir at name added))
      ∙ ap (λ i. option_or (place_of (dir ++ name ∷ []) old) (cond (same_names (dir ++ name ∷ []) (at ++ added ∷ [])) (Some i) None)) here
      ∙ ap (λ (to : Names). option_or (place_of (dir ++ name ∷ []) old) (cond (same_names (dir ++ name ∷ []) to) (Some (length old)) None)) (sym path)
      ∙ sym (place_more old row (dir ++ name ∷ []))
      ∙ sym (ap (place_of (dir ++ name ∷ [])) e);
}

no_path : (dir path : Names) (name : List ℕ) → length path ≡ 0 → dir ++ name ∷ [] ≡ path → ⊥
no_path dir [] name none e = no_path_ends dir name e
no_path dir (n ∷ path) name none e = omega arith

or_nothing : (o : Option ℕ) (b : Bool) (n : ℕ) → b ≡ false → option_or o (cond b (Some n) None) ≡ o
or_nothing None true n e = cc
or_nothing (Some i) true n e = cc
or_nothing None false n e = refl
or_nothing (Some i) false n e = refl

-- or empty
pub root_indexed : (p : Places) (old new : List Row) (row : Row) → Indexes p old → length row.path ≡ 0 → new ≡ old ++ row ∷ [] → Indexes p new
root_indexed p old new row h none e = record {
  places = λ dir name.
      h.places dir name
      ∙ sym (or_nothing (place_of (dir ++ name ∷ []) old) (same_names (dir ++ name ∷ []) row.path) (length old) (names_differ (dir ++ name ∷ []) row.path (no_path dir row.path name none)))
      ∙ sym (place_more old row (dir ++ name ∷ []))
      ∙ sym (ap (place_of (dir ++ name ∷ [])) e);
}

-- rows that change, but for their paths
pub mapped_indexed : (p : Places) (old new : List Row) (f : Row → Row) → ((r : Row) → (f r).path ≡ r.path) → Indexes p old → new ≡ map f old → Indexes p new
mapped_indexed p old new f same h e = record {
  places = λ dir name. h.places dir name ∙ sym (place_mapped f same old (dir ++ name ∷ [])) ∙ sym (ap (place_of (dir ++ name ∷ [])) e);
}

-- ---- rows of a vector that change, but for their paths

front_all : (xs ys : List Row) → take (length xs) (xs ++ ys) ≡ xs
front_all [] ys = refl
front_all (x ∷ xs) ys = ap (λ zs. x ∷ zs) (front_all xs ys)

written_back : (n : ℕ) (new mid old : List Row) (f : Row → Row) → n ≡ length old → mid ≡ old → new ≡ map f mid → take n (new ++ drop (length new) old) ≡ map f old
written_back n new mid old f len same e =
    let all : new ≡ map f old = e ∙ ap (map f) same in
    let size : n ≡ length (map f old) = len ∙ sym (length-map old f) in
    ap (λ rows. take n (rows ++ drop (length new) old)) all
    ∙ ap (λ k. take k (map f old ++ drop (length new) old)) size
    ∙ front_all (map f old) (drop (length new) old)

pub timed_indexed : (p : Places) (n : ℕ) (new mid old : List Row) (path : Names) (t : FileTime) → Indexes p old → n ≡ length old → mid ≡ old → new ≡ map (timed_row path t) mid
    → Indexes p (take n (new ++ drop (length new) old))
timed_indexed p n new mid old path t h len same e =
    mapped_indexed p old (take n (new ++ drop (length new) old)) (timed_row path t) (λ r. set_path (same_names path r.path) t r) h (written_back n new mid old (timed_row path t) len same e)

pub timed_number_indexed : (p : Places) (n : ℕ) (new mid old : List Row) (number : ℕ) (t : FileTime) → Indexes p old → n ≡ length old → mid ≡ old → new ≡ map (timed_number number t) mid
    → Indexes p (take n (new ++ drop (length new) old))
timed_number_indexed p n new mid old number t h len same e =
    mapped_indexed p old (take n (new ++ drop (length new) old)) (timed_number number t) (λ r. set_path (r.number == number) t r) h (written_back n new mid old (timed_number number t) len same e)
