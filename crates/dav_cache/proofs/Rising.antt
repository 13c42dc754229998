-- The names of the listings in a world rise.
use Rattle.std.proofs.Common.{◌≡◌, ℕ, Bool, zero, suc, true, false, ◌||◌, List, [], ◌∷◌, ◌++◌, Option, Some, None, if◌then◌else◌, replicate, ◌<◌, length, get_or, arith, slice_set, refl, sym, ap, subst, ◌∙◌, inl, inr}
use Rattle.std.specs.List.{list_any, filter}
use Rattle.std.proofs.lemmas.Bool.{cases_Bool, true≢false, and_parts, and_from, or_cases}
use Rattle.dav_memory.specs.Trees.{Name, Tree, FileTime, same_name, is_after, is_less, is_dot, next_name, names_in}
use Rattle.dav_memory.specs.Entries.{is_rising}
use Rattle.dav_cache.specs.Core.{Place, Listing, Rises, AllRise, given, lists_next}
use Rattle.dav_cache.specs.declared.place.Place.TheVariants.{Idle, Lists}
use Rattle.dav_memory.proofs.Keys.{name_decides}
use Rattle.dav_cache.proofs.Order.{after_trans, least_is, any-filter}
use Rattle.dav_memory.proofs.Order.{less_itself, less_other, any-push}

pub rise-at : (places : List Place) (c : ℕ) (place : Place) → c < length places → place ≡ get_or places c place → AllRise places → Rises place
rise-at [] c place lt at all = absurd (omega arith)
rise-at (p ∷ ps) zero place lt at all = subst Rises (sym at) all.0
rise-at (p ∷ ps) (suc c) place lt at all = rise-at ps c place (omega arith) at all.1

pub rise-set : (places : List Place) (c : ℕ) (place : Place) → AllRise places → Rises place → AllRise (slice_set places c place)
rise-set [] c place all own = all
rise-set (p ∷ ps) zero place all own = (own, all.1)
rise-set (p ∷ ps) (suc c) place all own = (all.0, rise-set ps c place all.1 own)

pub rise-idle : (n : ℕ) → AllRise (replicate n Idle)
rise-idle zero = tt
rise-idle (suc n) = (tt, rise-idle n)

-- a name that comes after the last one and after each of the names
rising-push : (last : Option Name) (names : List Name) (n : Name) → is_rising last names ≡ true → is_after last n ≡ true
    → ((x : Name) → list_any (same_name x) names ≡ true → is_less x n ≡ true)
    → is_rising last (names ++ n ∷ []) ≡ true
rising-push last [] n rise after_ all = and_from (is_after last n) true after_ refl
rising-push last (m ∷ names) n rise after_ all =
    let parts = and_parts (is_after last m) (is_rising (Some m) names) rise in
    let first : list_any (same_name m) (m ∷ names) ≡ true = ap (λ b. b || list_any (same_name m) names) ((name_decides m m).1 refl) in
    and_from (is_after last m) (is_rising (Some m) (names ++ n ∷ [])) parts.0
    (rising-push (Some m) names n parts.1 (all m first) (λ x is. all x (later (same_name x m) (list_any (same_name x) names) is)))
  where
    later : (a b : Bool) → b ≡ true → (a || b) ≡ true
    later true b h = refl
    later false b h = h

-- what doesn't come after the last one comes before what does
before_next : (last : Option Name) (x n : Name) → is_after last x ≡ false → is_after last n ≡ true → is_less x n ≡ true
before_next None x n no_ after_ = absurd (true≢false no_)
before_next (Some l) x n no_ after_ = elim (less_other l x no_) [
  | inl same ↦ subst (λ w. is_less w n ≡ true) same after_
  | inr less ↦ after_trans (Some x) l n less after_
]

pub rise-given : (l : Listing) (tree : Tree) (o : Option Name) → next_name tree l.dir l.last ≡ o → Rises (Lists l) → Rises (Lists (given l o))
rise-given l tree None h rise = rise
rise-given l tree (Some n) h rise =
    let found = least_is (filter (is_after l.last) (names_in tree l.dir)) n h in
    let after_ : is_after l.last n ≡ true = (and_parts (is_after l.last n) (list_any (same_name n) (names_in tree l.dir)) (sym (any-filter (is_after l.last) n (names_in tree l.dir)) ∙ found.0)).0 in
    let below = λ (x : Name) (is : list_any (same_name x) l.names ≡ true). before_next l.last x n (rise.1 x is) after_ in
    let old = λ (x : Name) (is : list_any (same_name x) l.names ≡ true). not_less x n (below x is) in
    (elim (is_dot n) as (λ b. Rises (Lists (record { dir = l.dir; before = l.before; last = Some n; names = if b then l.names ++ n ∷ [] else l.names; ended = false; whole = l.whole }))) [
      | true ↦ (
        rising-push None l.names n rise.0 refl below,
        λ x is. elim (or_cases (same_name x n) (list_any (same_name x) l.names) (sym (any-push x n l.names) ∙ is)) [
          | inl same ↦ subst (λ w. is_less n w ≡ false) (sym ((name_decides x n).0 same)) (less_itself n)
          | inr more ↦ old x more
        ],
      )
      | false ↦ (rise.0, old)
    ])
  where
    not_less : (x n : Name) → is_less x n ≡ true → is_less n x ≡ false
    not_less x n less = elim (cases_Bool (is_less n x)) [
      | inl back ↦ absurd (true≢false (sym (after_trans (Some x) n x less back) ∙ less_itself x))
      | inr fine ↦ fine
    ]

pub rise-next : (tree : Tree) (l : Listing) (o : Option FileTime) → Rises (Lists l) → Rises (Lists (lists_next tree l o))
rise-next tree l None rise = rise
rise-next tree l (Some t) rise = rise-given l tree (next_name tree l.dir l.last) refl rise
