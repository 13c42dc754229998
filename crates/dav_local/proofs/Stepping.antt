-- The steps of a walk that finds names by folding.
use Rattle.std.proofs.Common.{◌≡◌, ◌≤◌, ◌⊎◌, inl, inr, Bool, true, false, List, [], ◌∷◌, ◌++◌, map, Option, None, Some, Result, Ok, Err, refl, sym, ap, subst, ◌∙◌, cond}
use Rattle.std.specs.List.{AllByRecursion, filter, list_any}
use Rattle.std.specs.List.Sorted.{IsPermutation}
use Rattle.std.specs.Str.{bytes_eq}
use Rattle.std.proofs.lemmas.List.Elements.{All-from_recursion, recursion_from_All}
use Rattle.std.proofs.lemmas.List.Sorted.{All-permutation, IsPermutation-sym}
use Rattle.std.proofs.lemmas.Slice.Eq.{slice_eq-Decides}
use Rattle.std.proofs.lemmas.Bool.{or_parts}
use Rattle.std.specs.Cmp.{unsigned_Decides}
use Rattle.dav_io.proofs.ToldLemmas.{told_after}
use Rattle.dav_core.specs.declared.error.FsError.{FsError}
use Rattle.dav_core.specs.declared.handle.DiskError.{DiskError}
use Rattle.dav_core.specs.declared.handle.DiskError.TheVariants.{NotFound, NotDir, IsDir, Exists, NotEmpty, Failed, NoMemory}
use Rattle.dav_core.specs.declared.handle.Lister.{Lister}
use Rattle.dav_core.specs.declared.handle.Meta.{Meta}
use Rattle.dav_core.specs.declared.tree.Kind.{Kind}
use Rattle.dav_core.specs.declared.tree.Kind.TheVariants.{Dir, File, Link}
use Rattle.dav_core.specs.declared.tree.Row.{Row}
use Rattle.dav_core.specs.Disk.{DiskState, Metas, Refused}
use Rattle.dav_core.specs.Listing.{ListedIn, Lists, listable, name_of, names_in, stands_in}
use Rattle.dav_core.specs.Path.{Names}
use Rattle.dav_core.specs.Tree.{below_kind, is_linked, look}
use Rattle.dav_core.specs.Unchanged.{Keeps}
use Rattle.dav_core.specs.World.{World}
use Rattle.dav_core.proofs.UnchangedLemmas.{put_same}
use Rattle.dav_core.proofs.Rows.{path_in, tree_parts}
use Rattle.dav_store.specs.Files.{Spoiled}
use Rattle.dav_store.specs.Listings.{EndsList, IsListed}
use Rattle.dav_store.proofs.Reading.{rose_from, rose_on}
use Rattle.dav_store.proofs.Walking.{walk_leaves}
use Rattle.dav_model.specs.Finding.{IsOf, is_alike}
use Rattle.dav_model.specs.Folds.{Name, fold_name}
use Rattle.dav_local.specs.Walking.{IsAmong, IsClearAt, Searches, SearchesIn, Sought, SoughtIn, Steps, StepsTo}
use Rattle.dav_local.proofs.Rows.{alike_is, alike_splits, is_directory, link_at, looked_row, name_in, none_of, row_is}

-- ---- names of a listing and of its directory

each_at : (P : Name → Type 0) (names : Names) (x : Name) → AllByRecursion P names → IsAmong x names → P x
each_at P [] x all among = absurd among
each_at P (y ∷ names) x all (inl same) = subst P (sym same) all.0
each_at P (y ∷ names) x all (inr among) = each_at P names x all.1 among

each_is : (P : Name → Type 0) (names : Names) → ((x : Name) → IsAmong x names → P x) → AllByRecursion P names
each_is P [] h = tt
each_is P (y ∷ names) h = (h y (inl refl), each_is P names (λ x among. h x (inr among)))

permuted : (P : Name → Type 0) (names others : Names) → IsPermutation names others → AllByRecursion P names → AllByRecursion P others
permuted P names others order all = recursion_from_All P others (All-permutation P names others order (All-from_recursion P names all))

among_other : (names others : Names) (x : Name) → IsPermutation names others → IsAmong x others → IsAmong x names
among_other names others x order among = each_at (λ y. IsAmong y names) others x (permuted (λ y. IsAmong y names) names others order (each_is (λ y. IsAmong y names) names (λ y a. a))) among

kept_among : (at : Names) (r : Row) (rows kept : List Row) (x : Name) (b : Bool) → stands_in at r ≡ b → (IsAmong x (map name_of kept) → (row : Row) × IsOf row rows × (row.path ≡ at ++ x ∷ []))
    → IsAmong x (map name_of (cond b (r ∷ kept) kept)) → (row : Row) × IsOf row (r ∷ rows) × (row.path ≡ at ++ x ∷ [])
kept_among at r rows kept x true e go (inl same) = (r, inl refl, path_in at r e ∙ ap (λ z. at ++ z ∷ []) (sym same))
kept_among at r rows kept x true e go (inr among) = let (row, o, path) = go among in (row, inr o, path)
kept_among at r rows kept x false e go among = let (row, o, path) = go among in (row, inr o, path)

row_among : (at : Names) (rows : List Row) (x : Name) → IsAmong x (map name_of (filter (stands_in at) rows)) → (row : Row) × IsOf row rows × (row.path ≡ at ++ x ∷ [])
row_among at [] x among = absurd among
row_among at (r ∷ rows) x among = kept_among at r rows (filter (stands_in at) rows) x (stands_in at r) refl (row_among at rows x) among

among_kept : (at : Names) (r : Row) (kept : List Row) (x : Name) (b : Bool) → IsAmong x (map name_of kept) → IsAmong x (map name_of (cond b (r ∷ kept) kept))
among_kept at r kept x true among = inr among
among_kept at r kept x false among = among

among_row : (at : Names) (rows : List Row) (row : Row) (x : Name) → IsOf row rows → row.path ≡ at ++ x ∷ [] → IsAmong x (map name_of (filter (stands_in at) rows))
among_row at [] row x o path = absurd o
among_row at (r ∷ rows) row x (inl same) path =
    let (stands, name) = name_in at x r (ap (λ (y : Row). y.path) (sym same) ∙ path) in
    subst (λ b. IsAmong x (map name_of (cond b (r ∷ filter (stands_in at) rows) (filter (stands_in at) rows)))) (sym stands) (inl (sym name))
among_row at (r ∷ rows) row x (inr o) path = among_kept at r (filter (stands_in at) rows) x (stands_in at r) (among_row at rows row x o path)

other_foldings : (folded : Name) (names : Names) → list_any (λ x. bytes_eq (fold_name x) folded) names ≡ false → AllByRecursion (λ x. bytes_eq (fold_name x) folded ≡ false) names
other_foldings folded [] e = tt
other_foldings folded (x ∷ names) e =
    let (first, later) = or_parts (bytes_eq (fold_name x) folded) (list_any (λ y. bytes_eq (fold_name y) folded) names) e in
    (first, other_foldings folded names later)

same_bytes : (a b : Name) → a ≡ b → bytes_eq a b ≡ true
same_bytes a b e = (slice_eq-Decides unsigned_Decides a b (bytes_eq a b) refl).1 e

sought_in : (tree : List Row) (at names : Names) (folded : Name) (found : Option Name) → IsPermutation (names_in tree at) names → Sought names folded found → SoughtIn tree at folded found
sought_in tree at names folded (Some x) order among = row_among at tree x (among_other (names_in tree at) names x order among)
sought_in tree at names folded None order none = λ row x o path folds.
    let others = permuted (λ y. bytes_eq (fold_name y) folded ≡ false) names (names_in tree at) (IsPermutation-sym (names_in tree at) names order) (other_foldings folded names none) in
    let other : bytes_eq (fold_name x) folded ≡ false = each_at (λ y. bytes_eq (fold_name y) folded ≡ false) (names_in tree at) x others (among_row at tree row x o path) in
    let same : bytes_eq (fold_name x) folded ≡ true = same_bytes (fold_name x) folded folds in
    cc

-- ---- a directory is searched

spoiled_from : {T : Type 0} (s m n t : DiskState) (r : Result T FsError) → s.faults ≤ m.faults → n.faults ≤ t.faults → Spoiled m r n → Spoiled s r t
spoiled_from s m n t r le more (inl (is, rose)) = inl (is, rose_on s.faults n.faults t.faults (rose_from s.faults m.faults n.faults le rose) more)
spoiled_from s m n t r le more (inr none) = inr none

pub search_listed : (s m n t : DiskState) (at : Names) (folded : Name) (l : Lister) (r : Result (Option Name) FsError) → Lists s at (Ok l) m → IsListed s (Some l.0) m
    → Searches m l.0 folded r n → EndsList n (Some l.0) t → SearchesIn s at folded r t
search_listed s m n t at folded l (Err e) lists begun searches ended = record {
  keeps = walk_leaves (Some l.0) s m n t begun searches.keeps ended;
  refused = spoiled_from s m n t (Err e) begun.keeps.counts ended.keeps.counts searches.refused;
  plain = tt;
  alike = tt;
  told = tt;
}
search_listed s m n t at folded l (Ok found) lists begun searches ended = record {
  keeps = walk_leaves (Some l.0) s m n t begun searches.keeps ended;
  refused = tt;
  plain = searches.plain;
  alike = searches.alike;
  told = λ w told is here.
      (let (v, now, listed) = told_after s.told m.told (ListedIn at (Ok l)) w lists.told told in
      let listing = ap (λ (u : World). u.listings l.0) listed.1 ∙ put_same l.0 (Some listed.0) w.listings in
      sought_in w.tree at listed.0 folded found (listed.2 here.clear).1 (searches.told v listed.0 now listing));
}

not_dir : (kind : Kind) (row : Row) (e : DiskError) → below_kind kind (Ok row) ≡ Err e → kind ≡ Dir → ⊥
not_dir Dir row e f g = cc
not_dir File row e f g = cc
not_dir Link row e f g = cc

-- where no directory stands, no row is in it
search_no_dir : (s t : DiskState) (at : Names) (folded : Name) (e : DiskError) → Lists s at (Err e) t → Keeps s t → (e ≡ NotFound) ⊎ (e ≡ NotDir) → SearchesIn s at folded (Ok None) t
search_no_dir s t at folded e lists keeps which = record {
  keeps = keeps;
  refused = tt;
  plain = tt;
  alike = tt;
  told = λ w told is here.
      (let (v, now, listed) = told_after s.told t.told (ListedIn at (Err e)) w lists.told told in
      λ row x o path folds. not_dir here.row.kind here.row e
      (sym (ap listable here.stands) ∙ as_refused e (listable (look w.tree at)) which (listed.1 here.clear))
      (is_directory w.tree at x here.row row (tree_parts w.tree is.tree) here.stands o path));
}
  where
    as_refused : (e : DiskError) (found : Result Row DiskError) → (e ≡ NotFound) ⊎ (e ≡ NotDir) → Refused e found → found ≡ Err e
    as_refused NotFound found which r = r
    as_refused NotDir found which r = r
    as_refused IsDir found which r = r
    as_refused Exists found which r = r
    as_refused NotEmpty found which r = r
    as_refused Failed found (inl is) r = cc
    as_refused Failed found (inr is) r = cc
    as_refused NoMemory found (inl is) r = cc
    as_refused NoMemory found (inr is) r = cc

pub no_dir_found : (s t : DiskState) (at : Names) (folded : Name) (e : DiskError) → Lists s at (Err e) t → Keeps s t → e ≡ NotFound → SearchesIn s at folded (Ok None) t
no_dir_found s t at folded e lists keeps is = search_no_dir s t at folded e lists keeps (inl is)

pub no_dir : (s t : DiskState) (at : Names) (folded : Name) (e : DiskError) → Lists s at (Err e) t → Keeps s t → e ≡ NotDir → SearchesIn s at folded (Ok None) t
no_dir s t at folded e lists keeps is = search_no_dir s t at folded e lists keeps (inr is)

found_step : (s t : DiskState) (at : Names) (name x : Name) → SearchesIn s at (fold_name name) (Ok (Some x)) t → Steps s at name (Ok (Some (at ++ x ∷ []))) t
found_step s t at name x searches = record {
  keeps = searches.keeps;
  refused = tt;
  alike = (x, refl, searches.alike);
  told = λ w told is here. (let (row, o, path) = searches.told w told is here in (row, o, path, alike_is at x name row path searches.alike));
}

pub steps_found : (s t : DiskState) (at path : Names) (name folding x spelled : Name) (found : Option Name) → SearchesIn s at folding (Ok found) t → found ≡ Some x → folding ≡ fold_name name
    → spelled ≡ x → path ≡ at ++ spelled ∷ [] → Steps s at name (Ok (Some path)) t
steps_found s t at path name folding x spelled found searches is folds spells place =
    rw (place, spells) (found_step s t at name x (subst (λ f. SearchesIn s at f (Ok (Some x)) t) folds (subst (λ f. SearchesIn s at folding (Ok f) t) is searches)))

none_step : (s t : DiskState) (at : Names) (name : Name) → SearchesIn s at (fold_name name) (Ok None) t → Steps s at name (Ok None) t
none_step s t at name searches = record {
  keeps = searches.keeps;
  refused = tt;
  alike = tt;
  told = λ w told is here. none_of (is_alike true at name) w.tree (λ r o alike.
      let (x, path, folds) = alike_splits at name r alike in searches.told w told is here r x o path folds);
}

pub steps_none : (s t : DiskState) (at : Names) (name folding : Name) (found : Option Name) → SearchesIn s at folding (Ok found) t → found ≡ None → folding ≡ fold_name name → Steps s at name (Ok None) t
steps_none s t at name folding found searches is folds =
    none_step s t at name (subst (λ f. SearchesIn s at f (Ok None) t) folds (subst (λ f. SearchesIn s at folding (Ok f) t) is searches))

meta_step : (s t : DiskState) (at : Names) (name : Name) (m : Meta) → Metas s (at ++ name ∷ []) (Ok m) t → Keeps s t → Steps s at name (Ok (Some (at ++ name ∷ []))) t
meta_step s t at name m metas keeps = record {
  keeps = keeps;
  refused = tt;
  alike = (name, refl, refl);
  told = λ w told is here. by_link w here told (is_linked w.tree (at ++ name ∷ [])) refl;
}
  where
    by_link : (w : World) → IsClearAt w.tree at → s.told ≡ Some w → (b : Bool) → is_linked w.tree (at ++ name ∷ []) ≡ b → StepsTo w.tree at name (Some (at ++ name ∷ []))
    by_link w here told true e = let (l, o, link, path) = link_at w.tree at name here.clear e in (l, o, path, alike_is at name name l path refl)
    by_link w here told false e =
        let (row, stands, is) = metas.told w told e in
        let (o, path) = row_is w.tree (at ++ name ∷ []) row (looked_row w.tree (at ++ name ∷ []) row stands) in
        (row, o, path, alike_is at name name row path refl)

-- The name stands there as it is asked.
pub steps_meta : (s t : DiskState) (at path : Names) (name spelled : Name) (m : Meta) → Metas s path (Ok m) t → Keeps s t → spelled ≡ name → path ≡ at ++ spelled ∷ []
    → Steps s at name (Ok (Some path)) t
steps_meta s t at path name spelled m metas keeps spells place =
    let here : path ≡ at ++ name ∷ [] = place ∙ ap (λ z. at ++ z ∷ []) spells in
    subst (λ p. Steps s at name (Ok (Some p)) t) (sym here) (meta_step s t at name m (subst (λ p. Metas s p (Ok m) t) here metas) keeps)
