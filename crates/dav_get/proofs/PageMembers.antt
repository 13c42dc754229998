-- The order in which members are read doesn't matter for the rows of a page, and what a store shows it shows after looks.
use Rattle.std.proofs.Common.{◌≡◌, ◌<◌, ℕ, zero, suc, Bool, true, false, cond, List, [], ◌∷◌, length, ◌⊎◌, inl, inr, Result, Ok, Err, IfOk, IfErr, MatchResult, refl, sym, ap, subst, ◌∙◌, arith}
use Rattle.std.specs.List.{AllByRecursion, filter, list_all, slice_index_or, slice_set, swap}
use Rattle.std.specs.List.Sorted.{IsPermutation}
use Rattle.std.proofs.lemmas.List.Sorted.{IsPermutation-refl, IsPermutation-cons, IsPermutation-keeps, IsPermutation-middle, IsPermutation-trans}
use Rattle.std.proofs.lemmas.Bool.{and_from}
use Rattle.dav_core.specs.declared.dav_error.DavError.TheVariants.{NoMemory as OutOfMemory}
use Rattle.dav_core.specs.declared.error.FsError.{FsError}
use Rattle.dav_core.specs.declared.error.FsError.TheVariants.{NoMemory}
use Rattle.dav_core.specs.declared.member.Member.{Member}
use Rattle.dav_core.specs.DavPath.{WebPath}
use Rattle.dav_core.specs.Statuses.{of_fs}
use Rattle.dav_core.specs.Unchanged.{Keeps}
use Rattle.dav_page.specs.declared.row.PageRow.{PageRow}
use Rattle.dav_page.specs.Listed.{AreRows, is_visible}
use Rattle.dav_page.specs.Listed.{HasPlainName, has_plain_name}
use Rattle.dav_store.specs.declared.entry.ReadDirMeta.TheVariants.{Data}
use Rattle.dav_store.specs.Members.{ReadsThere, RefusesThere, ShowsMembers, WasListed}
use Rattle.dav_store.specs.Shows.{Looked, here, looks, looks_at_link}
use Rattle.dav_store.specs.View.{View, Listings}
use Rattle.dav_model.specs.Due.{Query}
use Rattle.dav_model.specs.Head.{is_get}
use Rattle.dav_get.specs.Lives.{HasMost, OpenOnlyHeld}
use Rattle.dav_get.specs.Table.{Given, GivesPage, IsListing, Lists}
use Rattle.dav_get.proofs.Pages.{page_life, page_most}

module _ {X : Type 0} (f : X → Bool) where
  kept_first : (x : X) (xs ys : List X) → IsPermutation (filter f xs) (filter f ys) → IsPermutation (filter f (x ∷ xs)) (filter f (x ∷ ys))
  kept_first x xs ys p = by (f x)
    where
      by : (b : Bool) → IsPermutation (cond b (x ∷ filter f xs) (filter f xs)) (cond b (x ∷ filter f ys) (filter f ys))
      by true = IsPermutation-cons x (filter f xs) (filter f ys) p
      by false = p

  kept_two : (x y : X) (xs : List X) → IsPermutation (filter f (x ∷ y ∷ xs)) (filter f (y ∷ x ∷ xs))
  kept_two x y xs = by (f x) (f y)
    where
      by : (b c : Bool) → IsPermutation (cond b (x ∷ cond c (y ∷ filter f xs) (filter f xs)) (cond c (y ∷ filter f xs) (filter f xs)))
          (cond c (y ∷ cond b (x ∷ filter f xs) (filter f xs)) (cond b (x ∷ filter f xs) (filter f xs)))
      by true true = IsPermutation-middle (x ∷ []) y (filter f xs)
      by true false = IsPermutation-refl (x ∷ filter f xs)
      by false true = IsPermutation-refl (y ∷ filter f xs)
      by false false = IsPermutation-refl (filter f xs)

  -- the first in the place of another
  kept_first_moved : (x d : X) (xs : List X) (j : ℕ) → j < length xs → IsPermutation (filter f (x ∷ xs)) (filter f (slice_index_or xs j d ∷ slice_set xs j x))
  kept_first_moved x d [] j lt = absurd (omega (arith, lt))
  kept_first_moved x d (y ∷ xs) zero lt = kept_two x y xs
  kept_first_moved x d (y ∷ xs) (suc j) lt =
      let other : X = slice_index_or xs j d in
      IsPermutation-trans (filter f (x ∷ y ∷ xs)) (filter f (y ∷ x ∷ xs)) (filter f (other ∷ y ∷ slice_set xs j x)) (kept_two x y xs)
      (IsPermutation-trans (filter f (y ∷ x ∷ xs)) (filter f (y ∷ other ∷ slice_set xs j x)) (filter f (other ∷ y ∷ slice_set xs j x))
      (kept_first y (x ∷ xs) (other ∷ slice_set xs j x) (kept_first_moved x d xs j (omega (arith, lt)))) (kept_two y other (slice_set xs j x)))

  abbrev exchanged : X → List X → ℕ → ℕ → List X
  exchanged d xs i j = slice_set (slice_set xs i (slice_index_or xs j d)) j (slice_index_or xs i d)

  kept_exchanged : (d : X) (xs : List X) (i j : ℕ) → i < length xs → j < length xs → IsPermutation (filter f xs) (filter f (exchanged d xs i j))
  kept_exchanged d [] i j lt gt = absurd (omega (arith, lt))
  kept_exchanged d (x ∷ xs) zero zero lt gt = IsPermutation-refl (filter f (x ∷ xs))
  kept_exchanged d (x ∷ xs) zero (suc j) lt gt = kept_first_moved x d xs j (omega (arith, gt))
  kept_exchanged d (x ∷ xs) (suc i) zero lt gt = kept_first_moved x d xs i (omega (arith, lt))
  kept_exchanged d (x ∷ xs) (suc i) (suc j) lt gt = kept_first x xs (exchanged d xs i j) (kept_exchanged d xs i j (omega (arith, lt)) (omega (arith, gt)))

  kept_swapped : (xs : List X) (i j : ℕ) → i < length xs → j < length xs → IsPermutation (filter f xs) (filter f (swap xs i j))
  kept_swapped [] i j lt gt = absurd (omega (arith, lt))
  kept_swapped (x ∷ xs) i j lt gt = kept_exchanged x (x ∷ xs) i j lt gt

  -- What passes a test of the same in another order is the same in another order.
  pub filtered_alike : (xs ys : List X) → IsPermutation xs ys → IsPermutation (filter f xs) (filter f ys)
  filtered_alike xs ys p = IsPermutation-keeps xs (λ zs. IsPermutation (filter f xs) (filter f zs)) (IsPermutation-refl (filter f xs))
      (λ l i j lt gt q. IsPermutation-trans (filter f xs) (filter f l) (filter f (swap l i j)) q (kept_swapped l i j lt gt)) ys p

-- The rows are those of the same members in another order.
pub rows_alike : (dir : WebPath) (all members : List Member) (rows : List PageRow) → IsPermutation all members → AreRows dir members rows → AreRows dir all rows
rows_alike dir all members rows p are = record {
  listed = are.listed;
  each_once = IsPermutation-trans (filter is_visible all) (filter is_visible members) are.listed (filtered_alike is_visible all members p) are.each_once;
  in_order = are.in_order;
  shown = are.shown;
}

module _ {S C F L E : Type 0} (view : View S C F) (lists : Listings S C L E) where
  looked_then : (s m : S) (c : C) → Looked view s c m → (k : S) → Looked view m c k → Looked view s c k
  looked_then s m c first k here = first
  looked_then s m c first k (looks a b path r more call) = looks a b path r (looked_then s m c first a more) call
  looked_then s m c first k (looks_at_link a b path r more call) = looks_at_link a b path r (looked_then s m c first a more) call

  -- What a walk gave is what was listed.
  pub listed_by : {M : Type 0} (items : M → List Member) (gives : Bool) (s : S) (c : C) (path : WebPath) (r : Result M FsError) (t : S) → true ≡ gives
      → IfOk r (λ m. WasListed view lists s c path (items m) t) → IfOk r (λ m. AllByRecursion HasPlainName (items m))
      → IfErr r (λ e. lists.lists s c path Data (Err e) t ⊎ (e ≡ NoMemory))
      → ((found : Result (List Member) FsError) → ShowsMembers view lists s c path found
      → MatchResult r (λ m. ReadsThere found (view.state s).faults (items m) (view.state t).faults) (λ e. RefusesThere found (view.state s) e (view.state t)))
      → MatchResult r (λ m. IsListing view lists gives c path s (Ok (items m)) t) (λ e. IsListing view lists gives c path s (Err e) t ⊎ (e ≡ NoMemory))
  listed_by items gives s c path (Ok m) t get listed plain refused shown = subst (λ b. IsListing view lists b c path s (Ok (items m)) t) get ((listed, shown), plain)
  listed_by items gives s c path (Err e) t get listed plain refused shown = refused

  -- A HEAD reads none.
  pub listed_none : (gives : Bool) (members : List Member) (s m : S) (c : C) (path : WebPath) (l : L) (t : S) → false ≡ gives → members ≡ [] → lists.lists s c path Data (Ok l) m
      → lists.ends_list m l t → IsListing view lists gives c path s (Ok members) t
  listed_none gives members s m c path l t get none begins ends =
      subst (λ b. IsListing view lists b c path s (Ok members) t) get ((none, (l, m, begins, ends)), subst (AllByRecursion HasPlainName) (sym none) tt)

  -- What a store shows it shows after looks.
  pub shows_later : (s m : S) (c : C) (path : WebPath) (found : Result (List Member) FsError) → Looked view s c m → ShowsMembers view lists s c path found
      → ShowsMembers view lists m c path found
  shows_later s m c path found first shows = record {
    begins = λ a n r looked lists'. shows.begins a n r (looked_then s m c first a looked) lists';
    walks = λ all is a n o l k answers looked lists' walked. shows.walks all is a n o l k answers (looked_then s m c first a looked) lists' walked;
    ends = λ all is a n o p l k j answers r looked lists' walked last. shows.ends all is a n o p l k j answers r (looked_then s m c first a looked) lists' walked last;
  }

  -- The lines of the table for a directory that was listed, or wasn't.
  pub listing_given : (q : Query) (c : C) (members : List Member) (s : S) (result : Given F) (t : S) → IsListing view lists (is_get q.method) c q.path s (Ok members) t
      → Keeps (view.state s) (view.state t) → GivesPage q members result ⊎ (result ≡ Err OutOfMemory) → Lists view lists q c s result t ⊎ (result ≡ Err OutOfMemory)
  listing_given q c members s result t listed keeps (inl page) = inl (Ok members, listed, keeps, page)
  listing_given q c members s result t listed keeps (inr none) = inr none

  pub listing_refused : (q : Query) (c : C) (e : FsError) (s : S) (result : Given F) (t : S) → IsListing view lists (is_get q.method) c q.path s (Err e) t ⊎ (e ≡ NoMemory)
      → Keeps (view.state s) (view.state t) → result ≡ Err (of_fs e) → Lists view lists q c s result t ⊎ (result ≡ Err OutOfMemory)
  listing_refused q c e s result t (inl listed) keeps is = inl (Err e, listed, keeps, is)
  listing_refused q c e s result t (inr none) keeps is = inr (is ∙ ap (λ x. Err (of_fs x)) none)

  pub listing_life : (q : Query) (members : List Member) (s : S) (result : Given F) (t : S) → Keeps (view.state s) (view.state t)
      → GivesPage q members result ⊎ (result ≡ Err OutOfMemory) → OpenOnlyHeld view s result t
  listing_life q members s result t keeps (inl page) = page_life view q members s result t page keeps
  listing_life q members s result t keeps (inr none) = subst (λ x. OpenOnlyHeld view s x t) (sym none) keeps

pub listing_most : {F : Type 0} (q : Query) (members : List Member) (most : ℕ) (result : Given F) → GivesPage q members result ⊎ (result ≡ Err OutOfMemory) → HasMost most result
listing_most q members most result (inl page) = page_most q members most result page
listing_most q members most result (inr none) = subst (HasMost most) (sym none) tt

pub all_plain_names : (members : List Member) → AllByRecursion HasPlainName members → list_all has_plain_name members ≡ true
all_plain_names [] all = refl
all_plain_names (m ∷ members) all = and_from (has_plain_name m) (list_all has_plain_name members) all.0 (all_plain_names members all.1)
