-- The names of a directory, given in order.
use Rattle.std.proofs.Common.{◌≡◌, Bool, true, false, not, ◌&&◌, ◌||◌, List, [], ◌∷◌, ◌++◌, Option, Some, None, if◌then◌else◌, refl, sym, ap, subst, ◌∙◌, inl, inr, ◌⊎◌}
use Rattle.std.specs.List.{list_any, filter}
use Rattle.std.proofs.lemmas.Bool.{cases_Bool, false≢true, true≢false, and_parts, and_from}
use Rattle.std.proofs.Math.Bool.{and-true}
use Rattle.dav_memory.specs.Trees.{Name, Names, Tree, same_name, is_less, is_dot, is_after, lesser, least, next_name, names_in, has_name}
use Rattle.dav_cache.specs.Core.{Listing, given}
pub use Rattle.dav_cache.specs.Transparency.{HasUpTo}
use Rattle.dav_memory.proofs.Keys.{name_tells}
use Rattle.dav_memory.proofs.Order.{less_itself, less_trans, less_other, any_front, any_cases, any-push}

pub and_false : (b : Bool) → false ≡ (b && false)
and_false true = refl
and_false false = refl

pub after_trans : (last : Option Name) (a b : Name) → is_after last a ≡ true → is_less a b ≡ true → is_after last b ≡ true
after_trans None a b p q = refl
after_trans (Some l) a b p q = less_trans l a b p q

-- ---- the least of some names

-- the name is one of these, and each other one comes after it
abbrev pub IsLeast : Name → List Name → Type 0
IsLeast m names = (list_any (same_name m) names ≡ true) × ((x : Name) → list_any (same_name x) names ≡ true → (x ≡ m) ⊎ (is_less m x ≡ true))

any_more : (x n : Name) (ns : List Name) → list_any (same_name x) ns ≡ true → list_any (same_name x) (n ∷ ns) ≡ true
any_more x n ns h =
    elim (cases_Bool (same_name x n)) [ inl t ↦ ap (λ b. b || list_any (same_name x) ns) t | inr t ↦ ap (λ b. b || list_any (same_name x) ns) t ∙ h ]

no_least : (ns : List Name) → least ns ≡ None → ns ≡ []
no_least [] h = refl
no_least (n ∷ ns) h = cc

least_pair : (n k : Name) (ns : List Name) → IsLeast k ns → IsLeast (lesser n (Some k)) (n ∷ ns)
least_pair n k ns is = (elim (is_less n k) as (λ b. is_less n k ≡ b → IsLeast (if b then n else k) (n ∷ ns)) [
  | true ↦ λ t. (
    any_front n ns,
    λ x h. elim (any_cases x n ns h) [
      | inl same ↦ inl same
      | inr more ↦ elim (is.1 x more) [ inl same ↦ inr (subst (λ w. is_less n w ≡ true) (sym same) t) | inr less ↦ inr (less_trans n k x t less) ]
    ],
  )
  | false ↦ λ t. (
    any_more k n ns is.0,
    λ x h. elim (any_cases x n ns h) [
      | inl same ↦ elim (less_other n k t) [ inl e ↦ inl (same ∙ e) | inr less ↦ inr (subst (λ w. is_less k w ≡ true) (sym same) less) ]
      | inr more ↦ is.1 x more
    ],
  )
]) refl

least_cons : (n : Name) (ns : List Name) → ((k : Name) → least ns ≡ Some k → IsLeast k ns) → (o : Option Name) → least ns ≡ o
    → IsLeast (lesser n o) (n ∷ ns)
least_cons n ns ih None e = subst (λ w. IsLeast n (n ∷ w)) (sym (no_least ns e)) (any_front n [], λ x h. elim (any_cases x n [] h) [ inl same ↦ inl same | inr never ↦ absurd (false≢true never) ])
least_cons n ns ih (Some k) e = least_pair n k ns (ih k e)

pub least_is : (names : List Name) (m : Name) → least names ≡ Some m → IsLeast m names
least_is [] m h = cc
least_is (n ∷ ns) m h =
    let s : lesser n (least ns) ≡ m = cc in
    subst (λ w. IsLeast w (n ∷ ns)) s (least_cons n ns (λ k e. least_is ns k e) (least ns) refl)

-- ---- the names after the last one

pub any-filter : (p : Name → Bool) (x : Name) (ns : List Name) → list_any (same_name x) (filter p ns) ≡ (p x && list_any (same_name x) ns)
any-filter p x [] = and_false (p x)
any-filter p x (n ∷ ns) =
    let ih = any-filter p x ns in
    (elim (p n) as (λ y. p n ≡ y → list_any (same_name x) (filter p (n ∷ ns)) ≡ (p x && list_any (same_name x) (n ∷ ns))) [
      | true ↦ λ t. rw t (elim (name_tells x n) [
        | inl is ↦ ap (λ b. b || list_any (same_name x) (filter p ns)) is.0 ∙ sym (ap (λ b. b && (same_name x n || list_any (same_name x) ns)) (ap p is.1 ∙ t) ∙ ap (λ b. b || list_any (same_name x) ns) is.0)
        | inr is ↦ ap (λ b. b || list_any (same_name x) (filter p ns)) is.0 ∙ ih ∙ sym (ap (λ b. p x && (b || list_any (same_name x) ns)) is.0)
      ])
      | false ↦ λ t. rw t (elim (name_tells x n) [
        | inl is ↦ ih ∙ ap (λ b. b && list_any (same_name x) ns) (ap p is.1 ∙ t) ∙ sym (ap (λ b. b && (same_name x n || list_any (same_name x) ns)) (ap p is.1 ∙ t))
        | inr is ↦ ih ∙ sym (ap (λ b. p x && (b || list_any (same_name x) ns)) is.0)
      ])
    ]) refl

-- where no name comes after the last one, all were given
pub at_end : (tree : Tree) (dir : Names) (last : Option Name) → next_name tree dir last ≡ None → (x : Name)
    → (has_name tree dir x && not (is_after last x)) ≡ has_name tree dir x
at_end tree dir last h x =
    let none : list_any (same_name x) (filter (is_after last) (names_in tree dir)) ≡ false = ap (list_any (same_name x)) (no_least (filter (is_after last) (names_in tree dir)) h) in
    by_tests (has_name tree dir x) (is_after last x) (sym (any-filter (is_after last) x (names_in tree dir)) ∙ none)
  where
    by_tests : (has gone : Bool) → (gone && has) ≡ false → (has && not gone) ≡ has
    by_tests true true h = sym h
    by_tests true false h = refl
    by_tests false gone h = refl

-- the next name, and those up to the last one, are those up to it
pub at_next : (tree : Tree) (dir : Names) (last : Option Name) (n : Name) → next_name tree dir last ≡ Some n → (x : Name)
    → (has_name tree dir x && not (is_less n x)) ≡ (same_name x n || (has_name tree dir x && not (is_after last x)))
at_next tree dir last n h x =
    let found = least_is (filter (is_after last) (names_in tree dir)) n h in
    let here = and_parts (is_after last n) (has_name tree dir n) (sym (any-filter (is_after last) n (names_in tree dir)) ∙ found.0) in
    elim (name_tells x n) [
      | inl is ↦
          let has : has_name tree dir x ≡ true = subst (λ w. has_name tree dir w ≡ true) (sym is.1) here.1 in
          let up : is_less n x ≡ false = subst (λ w. is_less n w ≡ false) (sym is.1) (less_itself n) in
          ap (λ b. b && not (is_less n x)) has ∙ ap not up ∙ sym (ap (λ b. b || (has_name tree dir x && not (is_after last x))) is.0)
      | inr is ↦
          by_tests (has_name tree dir x) (is_after last x) (is_less n x)
          (λ has gone. elim (found.1 x (any-filter (is_after last) x (names_in tree dir) ∙ and_from (is_after last x) (has_name tree dir x) gone has)) [ inl same ↦ absurd (is.1 same) | inr less ↦ less ])
          (λ less. after_trans last n x here.0 less)
          ∙ sym (ap (λ b. b || (has_name tree dir x && not (is_after last x))) is.0)
    ]
  where
    by_tests : (has gone less : Bool) → (has ≡ true → gone ≡ true → less ≡ true) → (less ≡ true → gone ≡ true) → (has && not less) ≡ (has && not gone)
    by_tests false gone less f g = refl
    by_tests true true true f g = refl
    by_tests true true false f g = absurd (false≢true (f refl refl))
    by_tests true false true f g = absurd (false≢true (g refl))
    by_tests true false false f g = refl

-- ---- the names that a listing has

pub up_to_given : (l : Listing) (tree : Tree) (o : Option Name) → next_name tree l.dir l.last ≡ o → l.ended ≡ false → HasUpTo l tree
    → HasUpTo (given l o) tree
up_to_given l tree None h open_ has x dot =
    let was = rw open_ at (has x dot) in
    was ∙ at_end tree l.dir l.last h x ∙ sym (and-true (has_name tree l.dir x))
up_to_given l tree (Some n) h open_ has x dot =
    let was : list_any (same_name x) l.names ≡ (has_name tree l.dir x && not (is_after l.last x)) = rw open_ at (has x dot) in
    let goal = at_next tree l.dir l.last n h x in
    (elim (is_dot n) as (λ b. is_dot n ≡ b → list_any (same_name x) (if b then l.names ++ n ∷ [] else l.names) ≡ (has_name tree l.dir x && not (is_less n x))) [
      | true ↦ λ t. any-push x n l.names ∙ ap (λ b. same_name x n || b) was ∙ sym goal
      | false ↦ λ t.
          let other : same_name x n ≡ false = elim (name_tells x n) [ inl is ↦ absurd (true≢false (sym dot ∙ (ap is_dot is.1 ∙ t))) | inr is ↦ is.0 ] in
          was ∙ sym (goal ∙ ap (λ b. b || (has_name tree l.dir x && not (is_after l.last x))) other)
    ]) refl
