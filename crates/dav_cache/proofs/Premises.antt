-- The premises of the theorem: the second from a plainer one, and that both can be met.
use Rattle.std.proofs.Common.{◌≡◌, ℕ, zero, suc, ◌<◌, ◌≤◌, ◌-◌, Bool, true, false, List, [], ◌∷◌, take, length, Contains, slice_index_or, if◌then◌else◌, refl, sym, ap, subst, ◌∙◌, arith, inl, inr, ◌⊎◌, Some, None, Option}
use Rattle.std.specs.Prelude.{ℤ, pos}
use Rattle.std.specs.Option.{option_map_or}
use Rattle.dav_core.specs.declared.tree.Kind.TheVariants.{File, Dir}
use Rattle.dav_core.specs.declared.tree.Row.{Row}
use Rattle.dav_memory.specs.Trees.{Name, Names, FileTime, Tree, same_name, same_time, has_name, member_name, time_of}
use Rattle.dav_cache.specs.declared.event.Event.TheVariants.{Ask, Peek, Check, Conclude, Begin, Before, ListNext, After, Seal, Change}
use Rattle.dav_cache.specs.declared.event.Told.TheVariants.{Absent}
use Rattle.dav_cache.specs.Core.{Event, Moment, State, told, run, start, new_dots, settled}
use Rattle.dav_cache.specs.Transparency.{IsFair, NoReturn, NeverBack, CanBeMet, LeavesDuring, IsListing, moment}
use Rattle.std.proofs.lemmas.Bool.{cases_lt, true≢false, false≢true}
use Rattle.dav_cache.proofs.Invariant.{time_is}
use Rattle.dav_memory.proofs.Keys.{name_tells}

pub no_return : (events : List Event) (s : State) → NeverBack events s → NoReturn events s
no_return events s never c d t i j k ij jk kl all at_i at_k = elim (time_is (time_of (moment events s j).tree d) t) [
  | inl is ↦ is
  | inr left ↦ absurd (never c d t i j k ij jk kl at_i left (all k (omega arith) (omega arith)) at_k)
]

-- ---- a listing in which a name comes, one that is sealed, and a name that is denied

abbrev d : Names
d = (100 ∷ []) ∷ []

abbrev first : Name
first = 46 ∷ 95 ∷ 97 ∷ []

abbrev second : Name
second = 46 ∷ 95 ∷ 98 ∷ []

abbrev at : ℤ → FileTime
at secs = record { secs = secs; nanos = 0 }

abbrev root : Row
root = record { path = []; kind = Dir; number = 1; time = at (pos 0) }

abbrev file : Name → ℕ → Row
file name number = record { path = (100 ∷ []) ∷ name ∷ []; kind = File; number = number; time = at (pos 0) }

-- the directory has one name
abbrev one : Tree
one = root ∷ record { path = d; kind = Dir; number = 2; time = at (pos 1) } ∷ file first 3 ∷ []

-- and then two, and another time
abbrev two : Tree
two = root ∷ record { path = d; kind = Dir; number = 2; time = at (pos 2) } ∷ file first 3 ∷ file second 4 ∷ []

abbrev is_first : Option FileTime → Bool
is_first o = option_map_or (λ (t : FileTime). same_time t (at (pos 1))) o false

-- where a directory has one time in both, it is not that one, and has the same names
names_of : (dir : Names) (time : FileTime) → time_of one dir ≡ Some time → time_of two dir ≡ Some time → (name : Name)
    → has_name one dir name ≡ has_name two dir name
names_of [] time h k name = refl
names_of (x ∷ []) time h k name = elim (name_tells x (100 ∷ [])) [
  | inl is ↦
      let here : time_of one d ≡ Some time = subst (λ (w : Name). time_of one (w ∷ []) ≡ Some time) is.1 h in
      let there : time_of two d ≡ Some time = subst (λ (w : Name). time_of two (w ∷ []) ≡ Some time) is.1 k in
      absurd (true≢false (ap is_first (here ∙ sym there)))
  | inr is ↦ rw (is.0) refl
]
names_of (x ∷ y ∷ rest) time h k name = elim (name_tells x (100 ∷ [])) [
  | inl is ↦ rw (is.0, deeper y rest first, deeper y rest second) refl
  | inr is ↦ rw (is.0) refl
]
  where
    none : (rest : Names) → member_name rest [] ≡ None
    none [] = refl
    none (z ∷ rest) = refl

    deeper : (y : Name) (rest : Names) (name : Name) → member_name (y ∷ rest) (name ∷ []) ≡ None
    deeper y rest name = (elim (same_name y name) as (λ b. (if b then member_name rest [] else None) ≡ None) [ true ↦ none rest | false ↦ refl ])

same_names : (a b : Tree) → Contains (one ∷ two ∷ []) a → Contains (one ∷ two ∷ []) b → (dir : Names) (time : FileTime) → time_of a dir ≡ Some time
    → time_of b dir ≡ Some time
    → (name : Name) → has_name a dir name ≡ has_name b dir name
same_names a b ka kb dir time ta tb name = elim (which a ka) [
  | inl x ↦ elim (which b kb) [
    | inl y ↦ ap (λ t. has_name t dir name) (x ∙ sym y)
    | inr y ↦ ap (λ t. has_name t dir name) x ∙ names_of dir time (sym (ap (λ t. time_of t dir) x) ∙ ta) (sym (ap (λ t. time_of t dir) y) ∙ tb) name ∙ sym (ap (λ t. has_name t dir name) y)
  ]
  | inr x ↦ elim (which b kb) [
    | inl y ↦ ap (λ t. has_name t dir name) x ∙ sym (names_of dir time (sym (ap (λ t. time_of t dir) y) ∙ tb) (sym (ap (λ t. time_of t dir) x) ∙ ta) name) ∙ sym (ap (λ t. has_name t dir name) y)
    | inr y ↦ ap (λ t. has_name t dir name) (x ∙ sym y)
  ]
]
  where
    which : (a : Tree) → Contains (one ∷ two ∷ []) a → (a ≡ one) ⊎ (a ≡ two)
    which a known = by_place known.0 known.1 known.2
      where
        by_place : (k : ℕ) → k < length (one ∷ two ∷ []) → slice_index_or (one ∷ two ∷ []) k a ≡ a → (a ≡ one) ⊎ (a ≡ two)
        by_place zero lt is = inl (sym is)
        by_place (suc zero) lt is = inr (sym is)
        by_place (suc (suc k)) lt is = let l : suc (suc k) < 2 = lt in absurd (omega arith)

module _ (now : Moment) where
  abbrev events : List Event
  events =
      Begin 0 d ∷ Before 0 false ∷ ListNext 0 false ∷ Change two ∷ ListNext 0 false ∷ ListNext 0 false ∷ After 0 false ∷ Seal 0 now 3
      ∷ Begin 0 d ∷ Before 0 false ∷ ListNext 0 false ∷ ListNext 0 false ∷ ListNext 0 false ∷ After 0 false ∷ Seal 0 now 3
      ∷ Ask 0 d (46 ∷ 95 ∷ 99 ∷ []) ∷ Peek 0 ∷ Check 0 false ∷ []

  abbrev s0 : State
  s0 = start one 1 2 3

  denied : told (run s0 events) (Conclude 0) ≡ Absent true
  unfolding new_dots settled
  denied = refl

  take_none : (n : ℕ) → take n (let none : List Event = [] in none) ≡ []
  take_none zero = refl
  take_none (suc n) = refl

  tree_before : (n : ℕ) → n < 4 → (moment events s0 n).tree ≡ one
  tree_before zero less = refl
  tree_before (suc zero) less = refl
  tree_before (suc (suc zero)) less = refl
  tree_before (suc (suc (suc zero))) less = refl
  tree_before (suc (suc (suc (suc n)))) less = let l : suc (suc (suc (suc n))) < 4 = less in absurd (omega arith)

  tree_later : (n : ℕ) → (moment events s0 (suc (suc (suc (suc n))))).tree ≡ two
  unfolding new_dots settled
  tree_later zero = refl
  tree_later (suc zero) = refl
  tree_later (suc (suc zero)) = refl
  tree_later (suc (suc (suc zero))) = refl
  tree_later (suc (suc (suc (suc zero)))) = refl
  tree_later (suc (suc (suc (suc (suc zero))))) = refl
  tree_later (suc (suc (suc (suc (suc (suc zero)))))) = refl
  tree_later (suc (suc (suc (suc (suc (suc (suc zero))))))) = refl
  tree_later (suc (suc (suc (suc (suc (suc (suc (suc zero)))))))) = refl
  tree_later (suc (suc (suc (suc (suc (suc (suc (suc (suc zero))))))))) = refl
  tree_later (suc (suc (suc (suc (suc (suc (suc (suc (suc (suc zero)))))))))) = refl
  tree_later (suc (suc (suc (suc (suc (suc (suc (suc (suc (suc (suc zero))))))))))) = refl
  tree_later (suc (suc (suc (suc (suc (suc (suc (suc (suc (suc (suc (suc zero)))))))))))) = refl
  tree_later (suc (suc (suc (suc (suc (suc (suc (suc (suc (suc (suc (suc (suc zero))))))))))))) = refl
  tree_later (suc (suc (suc (suc (suc (suc (suc (suc (suc (suc (suc (suc (suc (suc n)))))))))))))) =
      ap (λ (l : List Event). (run (run s0 events) l).tree) (take_none n)

  -- the tree at a moment, by whether it has changed
  side : (n : ℕ) → ((n < 4) × ((moment events s0 n).tree ≡ one)) ⊎ ((4 ≤ n) × ((moment events s0 n).tree ≡ two))
  side n = elim (cases_lt n 4) [
    | inl less ↦ inl (less, tree_before n less)
    | inr more ↦
        let is : suc (suc (suc (suc (n - 4)))) ≡ n = omega arith in
        inr (more, subst (λ m. (moment events s0 m).tree ≡ two) is (tree_later (n - 4)))
  ]

  is_fair : IsFair events s0
  is_fair = record {
    same_names = same_names;
    no_return = λ c dir time i j k ij jk le all ti tk. elim (side j) [
      | inl early ↦ elim (side i) [
        | inl was ↦ ap (λ t. time_of t dir) (early.1 ∙ sym was.1) ∙ ti
        | inr never ↦ let l = early.0 in let m = never.0 in absurd (omega arith)
      ]
      | inr late ↦ elim (side k) [
        | inl never ↦ let l = late.0 in let m = never.0 in absurd (omega arith)
        | inr then_ ↦ ap (λ t. time_of t dir) (late.1 ∙ sym then_.1) ∙ tk
      ]
    ];
  }

  listing_at : (m : ℕ) → 2 ≤ m → m ≤ 4 → IsListing (moment events s0 m) 0 d
  listing_at zero from to = let l : 2 ≤ 0 = from in absurd (omega arith)
  listing_at (suc zero) from to = let l : 2 ≤ 1 = from in absurd (omega arith)
  listing_at (suc (suc zero)) from to = (_, refl, refl)
  listing_at (suc (suc (suc zero))) from to = (_, refl, refl)
  listing_at (suc (suc (suc (suc zero)))) from to = (_, refl, refl)
  listing_at (suc (suc (suc (suc (suc m))))) from to = let l : suc (suc (suc (suc (suc m)))) ≤ 4 = to in absurd (omega arith)

  leaves : LeavesDuring events s0
  leaves = record {
    caller = 0;
    dir = d;
    time = at (pos 1);
    i = 2;
    k = 4;
    later = omega arith;
    within = (let l : 4 ≤ 18 = omega arith in l);
    lists = listing_at;
    has = refl;
    left = λ h. false≢true (ap is_first h);
  }

pub can_be_met : CanBeMet
can_be_met now = (one, events now, is_fair now, leaves now, denied now)
