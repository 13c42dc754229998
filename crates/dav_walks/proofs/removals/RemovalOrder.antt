-- The order of a removal: which path comes before which, and that one list of given paths stands in it.
-- Headlines: `members_order` and `one_list`.
use Rattle.std.proofs.Common.{◌≡◌, ◌⊎◌, ◌&&◌, ◌||◌, ◌==◌, ◌++◌, ℕ, nat_lt, List, [], ◌∷◌, length, map, Bool, true, false, refl, sym, ap, subst, ◌∙◌, arith, inl, inr}
use Rattle.std.specs.Str.{bytes_eq}
use Rattle.std.proofs.lemmas.Bool.Decides.{nat_tests}
use Rattle.std.proofs.lemmas.Bool.{eq-eqb, eqb-true}
use Rattle.dav_core.specs.declared.tree.Row.{Row}
use Rattle.dav_core.specs.Path.{Names}
use Rattle.dav_core.proofs.Elements.{In, in_either}
use Rattle.dav_model.specs.Walks.{dir_first, in_order, members_first, name_before, put_by}

-- ---- members of a list

pub in_left : {A : Type 0} (x : A) (ys zs : List A) → In x ys → In x (ys ++ zs)
in_left x [] zs i = absurd i
in_left x (y ∷ ys) zs (inl e) = inl e
in_left x (y ∷ ys) zs (inr i) = inr (in_left x ys zs i)

pub in_right : {A : Type 0} (x : A) (ys zs : List A) → In x zs → In x (ys ++ zs)
in_right x [] zs i = i
in_right x (y ∷ ys) zs i = inr (in_right x ys zs i)

pub in_more : {A : Type 0} (x y : A) (ys zs : List A) → (In x ys → In x zs) → In x (y ∷ ys) → In x (y ∷ zs)
in_more x y ys zs more (inl e) = inl e
in_more x y ys zs more (inr i) = inr (more i)

-- the paths of rows
abbrev pub paths : List Row → List Names
paths rows = map (λ (row : Row). row.path) rows

pub in_paths : (p : Names) (rows : List Row) → In p (paths rows) → (r : Row) × In r rows × (r.path ≡ p)
in_paths p [] i = absurd i
in_paths p (row ∷ rows) (inl e) = (row, inl refl, sym e)
in_paths p (row ∷ rows) (inr i) = let (r, j, e) = in_paths p rows i in (r, inr j, e)

pub paths_in : (r : Row) (rows : List Row) → In r rows → In r.path (paths rows)
paths_in r [] i = absurd i
paths_in r (row ∷ rows) (inl e) = inl (ap (λ (x : Row). x.path) e)
paths_in r (row ∷ rows) (inr i) = inr (paths_in r rows i)

pub path_in : (p : Names) (r : Row) (rows : List Row) → In r rows → r.path ≡ p → In p (paths rows)
path_in p r rows i e = subst (λ x. In x (paths rows)) e (paths_in r rows i)

-- ---- names

not_below : (a : ℕ) → nat_lt a a ≡ false
not_below a = grind (arith, nat_tests)

-- no name stands before itself
pub not_before : (name : List ℕ) → name_before name name ≡ false
not_before [] = refl
not_before (a ∷ x) = rw (not_below a, eq-eqb a a refl, not_before x) refl

pub same_bytes : (name : List ℕ) → bytes_eq name name ≡ true
same_bytes [] = refl
same_bytes (a ∷ x) = rw (eq-eqb a a refl, same_bytes x) refl

nat_total : (a b : ℕ) → nat_lt a b ≡ false → (a == b) ≡ false → nat_lt b a ≡ true
nat_total a b e f = grind (arith, nat_tests)

less_then : (a b c : ℕ) → nat_lt a b ≡ true → nat_lt b c ≡ true → nat_lt a c ≡ true
less_then a b c e f = grind (arith, nat_tests)

-- one stands before the other, is the other, or stands behind it
pub data Compared {A : Type 0} (before : A → A → Bool) (a b : A) : Type 0 where
  earlier : before a b ≡ true → Compared before a b
  equal : a ≡ b → Compared before a b
  later : before b a ≡ true → Compared before a b

names_heads : (a b : ℕ) (x y : List ℕ) (less same : Bool) → nat_lt a b ≡ less → (a == b) ≡ same → Compared name_before x y → Compared name_before (a ∷ x) (b ∷ y)
names_heads a b x y true same e f c = earlier (rw e refl)
names_heads a b x y false false e f c = later (rw (nat_total a b e f) refl)
names_heads a b x y false true e f (earlier c) = earlier (rw (e, f, c) refl)
names_heads a b x y false true e f (equal c) = equal (let n = eqb-true a b f in cc)
names_heads a b x y false true e f (later c) = later (rw (eqb-true a b f, not_below b, eq-eqb b b refl, c) refl)

pub names_compared : (a b : List ℕ) → Compared name_before a b
names_compared [] [] = equal refl
names_compared [] (b ∷ y) = earlier refl
names_compared (a ∷ x) [] = later refl
names_compared (a ∷ x) (b ∷ y) = names_heads a b x y (nat_lt a b) (a == b) refl refl (names_compared x y)

nat_heads : (a b : ℕ) (less same below : Bool) → nat_lt a b ≡ less → (a == b) ≡ same → (less || (same && below)) ≡ true → (nat_lt a b ≡ true) ⊎ ((a ≡ b) × (below ≡ true))
nat_heads a b true same below e f h = inl e
nat_heads a b false true below e f h = inr (eqb-true a b f, h)
nat_heads a b false false below e f h = cc

heads : (a b : ℕ) (x y : List ℕ) → name_before (a ∷ x) (b ∷ y) ≡ true → (nat_lt a b ≡ true) ⊎ ((a ≡ b) × (name_before x y ≡ true))
heads a b x y h = nat_heads a b (nat_lt a b) (a == b) (name_before x y) refl refl h

less_heads : (a b : ℕ) (x y : List ℕ) → nat_lt a b ≡ true → name_before (a ∷ x) (b ∷ y) ≡ true
less_heads a b x y e = rw e refl

same_heads : (a : ℕ) (x y : List ℕ) → name_before x y ≡ true → name_before (a ∷ x) (a ∷ y) ≡ true
same_heads a x y e = rw (not_below a, eq-eqb a a refl, e) refl

name_cases : (a b c : ℕ) (x y z : List ℕ) → (name_before x y ≡ true → name_before y z ≡ true → name_before x z ≡ true)
    → (nat_lt a b ≡ true) ⊎ ((a ≡ b) × (name_before x y ≡ true)) → (nat_lt b c ≡ true) ⊎ ((b ≡ c) × (name_before y z ≡ true)) → name_before (a ∷ x) (c ∷ z) ≡ true
name_cases a b c x y z more (inl e) (inl f) = less_heads a c x z (less_then a b c e f)
name_cases a b c x y z more (inl e) (inr f) = less_heads a c x z (rw (← f.0) e)
name_cases a b c x y z more (inr e) (inl f) = less_heads a c x z (rw e.0 f)
name_cases a b c x y z more (inr e) (inr f) = rw (e.0, f.0) (same_heads c x z (more e.1 f.1))

pub name_then : (a b c : List ℕ) → name_before a b ≡ true → name_before b c ≡ true → name_before a c ≡ true
name_then [] [] c e f = cc
name_then [] (b ∷ y) [] e f = cc
name_then [] (b ∷ y) (c ∷ z) e f = refl
name_then (a ∷ x) [] c e f = cc
name_then (a ∷ x) (b ∷ y) [] e f = cc
name_then (a ∷ x) (b ∷ y) (c ∷ z) e f = name_cases a b c x y z (name_then x y z) (heads a b x y e) (heads b c y z f)

-- ---- orders of paths, name by name

path_by : (a b : List ℕ) (less same below : Bool) → name_before a b ≡ less → bytes_eq a b ≡ same → (same ≡ true → a ≡ b) → (less || (same && below)) ≡ true
    → (name_before a b ≡ true) ⊎ ((a ≡ b) × (below ≡ true))
path_by a b true same below e f g h = inl e
path_by a b false true below e f g h = inr (g refl, h)
path_by a b false false below e f g h = cc

byte_same : (a b : ℕ) (x y : List ℕ) (same : Bool) → (a == b) ≡ same → (bytes_eq x y ≡ true → x ≡ y) → (same && bytes_eq x y) ≡ true → a ∷ x ≡ b ∷ y
byte_same a b x y true e more h = let n = eqb-true a b e in let m = more h in cc
byte_same a b x y false e more h = cc

bytes_same : (a b : List ℕ) → bytes_eq a b ≡ true → a ≡ b
bytes_same [] [] e = refl
bytes_same [] (b ∷ y) e = cc
bytes_same (a ∷ x) [] e = cc
bytes_same (a ∷ x) (b ∷ y) e = byte_same a b x y (a == b) refl (bytes_same x y) e

-- The first names decide; where they are the same, what stands behind them does.
abbrev pub IsByNames : (Names → Names → Bool) → Type 0
IsByNames order = (a b : List ℕ) (x y : Names) → order (a ∷ x) (b ∷ y) ≡ (name_before a b || (bytes_eq a b && order x y))

module _ (order : Names → Names → Bool) (by_names : IsByNames order) where
  pub heads_compared : (a b : List ℕ) (x y : Names) → Compared name_before a b → Compared order x y → Compared order (a ∷ x) (b ∷ y)
  heads_compared a b x y (earlier e) c = earlier (by_names a b x y ∙ rw e refl)
  heads_compared a b x y (later e) c = later (by_names b a y x ∙ rw e refl)
  heads_compared a b x y (equal e) (earlier c) = earlier (by_names a b x y ∙ rw (e, not_before b, same_bytes b, c) refl)
  heads_compared a b x y (equal e) (equal c) = equal cc
  heads_compared a b x y (equal e) (later c) = later (by_names b a y x ∙ rw (e, not_before b, same_bytes b, c) refl)

  path_heads : (a b : List ℕ) (x y : Names) → order (a ∷ x) (b ∷ y) ≡ true → (name_before a b ≡ true) ⊎ ((a ≡ b) × (order x y ≡ true))
  path_heads a b x y h = path_by a b (name_before a b) (bytes_eq a b) (order x y) refl refl (bytes_same a b) (sym (by_names a b x y) ∙ h)

  before_heads : (a b : List ℕ) (x y : Names) → name_before a b ≡ true → order (a ∷ x) (b ∷ y) ≡ true
  before_heads a b x y e = by_names a b x y ∙ rw e refl

  pub below_heads : (a : List ℕ) (x y : Names) → order x y ≡ true → order (a ∷ x) (a ∷ y) ≡ true
  below_heads a x y e = by_names a a x y ∙ rw (not_before a, same_bytes a, e) refl

  heads_cases : (a b c : List ℕ) (x y z : Names) → (order x y ≡ true → order y z ≡ true → order x z ≡ true) → (name_before a b ≡ true) ⊎ ((a ≡ b) × (order x y ≡ true))
      → (name_before b c ≡ true) ⊎ ((b ≡ c) × (order y z ≡ true)) → order (a ∷ x) (c ∷ z) ≡ true
  heads_cases a b c x y z more (inl e) (inl f) = before_heads a c x z (name_then a b c e f)
  heads_cases a b c x y z more (inl e) (inr f) = before_heads a c x z (rw (← f.0) e)
  heads_cases a b c x y z more (inr e) (inl f) = before_heads a c x z (rw e.0 f)
  heads_cases a b c x y z more (inr e) (inr f) = rw (e.0, f.0) (below_heads c x z (more e.1 f.1))

  pub heads_then : (a b c : List ℕ) (x y z : Names) → (order x y ≡ true → order y z ≡ true → order x z ≡ true) → order (a ∷ x) (b ∷ y) ≡ true → order (b ∷ y) (c ∷ z) ≡ true
      → order (a ∷ x) (c ∷ z) ≡ true
  heads_then a b c x y z more e f = heads_cases a b c x y z more (path_heads a b x y e) (path_heads b c y z f)

  pub not_heads : (a : List ℕ) (x : Names) → (order x x ≡ true → ⊥) → order (a ∷ x) (a ∷ x) ≡ true → ⊥
  not_heads a x more e = by (path_heads a a x x e)
    where
      by : (name_before a a ≡ true) ⊎ ((a ≡ a) × (order x x ≡ true)) → ⊥
      by (inl f) = let g = not_before a in cc
      by (inr f) = more f.1

  -- Of two paths of one length all at and below the first comes before all at and below the second.
  pub below_apart : order [] [] ≡ false → (a b x y : Names) → length a ≡ length b → order a b ≡ true → order (a ++ x) (b ++ y) ≡ true
  below_apart none [] [] x y long e = cc
  below_apart none [] (n ∷ b) x y long e = absurd (omega (arith, long))
  below_apart none (m ∷ a) [] x y long e = absurd (omega (arith, long))
  below_apart none (m ∷ a) (n ∷ b) x y long e = by_heads (below_apart none a b x y (omega (arith, long))) (path_heads m n a b e)
    where
      by_heads : (order a b ≡ true → order (a ++ x) (b ++ y) ≡ true) → (name_before m n ≡ true) ⊎ ((m ≡ n) × (order a b ≡ true)) → order (m ∷ (a ++ x)) (n ∷ (b ++ y)) ≡ true
      by_heads more (inl f) = before_heads m n (a ++ x) (b ++ y) f
      by_heads more (inr f) = rw f.0 (below_heads n (a ++ x) (b ++ y) (more f.1))

-- ---- members before their directory

by_names : IsByNames members_first
by_names a b x y = refl

paths_compared : (p q : Names) → Compared members_first p q
paths_compared [] [] = equal refl
paths_compared [] (b ∷ y) = later refl
paths_compared (a ∷ x) [] = earlier refl
paths_compared (a ∷ x) (b ∷ y) = heads_compared members_first by_names a b x y (names_compared a b) (paths_compared x y)

pub path_then : (p q r : Names) → members_first p q ≡ true → members_first q r ≡ true → members_first p r ≡ true
path_then [] [] r e f = cc
path_then [] (b ∷ y) r e f = cc
path_then (a ∷ x) [] [] e f = refl
path_then (a ∷ x) [] (c ∷ z) e f = cc
path_then (a ∷ x) (b ∷ y) [] e f = refl
path_then (a ∷ x) (b ∷ y) (c ∷ z) e f = heads_then members_first by_names a b c x y z (path_then x y z) e f

pub not_itself : (p : Names) → members_first p p ≡ true → ⊥
not_itself [] e = cc
not_itself (a ∷ x) e = not_heads members_first by_names a x (not_itself x) e

-- All below a directory comes before it.
pub below_first : (at : Names) (name : List ℕ) (names : Names) → members_first (at ++ name ∷ names) at ≡ true
below_first [] name names = refl
below_first (a ∷ at) name names = below_heads members_first by_names a (at ++ name ∷ names) at (below_first at name names)

-- Of two paths of one length all at and below the first comes before all at and below the second.
pub apart_first : (a b x y : Names) → length a ≡ length b → members_first a b ≡ true → members_first (a ++ x) (b ++ y) ≡ true
apart_first a b x y long e = below_apart members_first by_names refl a b x y long e

-- Of two paths of one length both orders say the same.
pub both_orders : (p q : Names) → length p ≡ length q → dir_first p q ≡ members_first p q
both_orders [] [] long = refl
both_orders [] (b ∷ q) long = absurd (omega (arith, long))
both_orders (a ∷ p) [] long = absurd (omega (arith, long))
both_orders (a ∷ p) (b ∷ q) long = ap (λ c. name_before a b || (bytes_eq a b && c)) (both_orders p q (omega (arith, long)))

-- ---- orders of paths

-- Of two paths that differ one comes before the other; nothing comes before itself.
pub record IsOrder (before : Names → Names → Bool) : Type 0 where
  pub compared : (p q : Names) → Compared before p q
  pub further : (p q r : Names) → before p q ≡ true → before q r ≡ true → before p r ≡ true
  pub itself : (p : Names) → before p p ≡ true → ⊥

pub members_order : IsOrder members_first
members_order = record { compared = paths_compared; further = path_then; itself = not_itself }

-- no path stands twice
abbrev pub Once : List Names → Type 0
Once [] = Unit {0}
Once (p ∷ ps) = (In p ps → ⊥) × Once ps

-- ---- lists that ascend

module _ (before : Names → Names → Bool) where
  -- each comes before all that stand behind it
  abbrev pub Ascends : List Names → Type 0
  Ascends [] = Unit {0}
  Ascends (p ∷ ps) = ((q : Names) → In q ps → before p q ≡ true) × Ascends ps

  pub ascends_join : (ps qs : List Names) → Ascends ps → Ascends qs → ((p q : Names) → In p ps → In q qs → before p q ≡ true) → Ascends (ps ++ qs)
  ascends_join [] qs a b c = b
  ascends_join (p ∷ ps) qs a b c = (λ q i. by q (in_either q ps qs i), ascends_join ps qs a.1 b (λ x y i j. c x y (inr i) j))
    where
      by : (q : Names) → In q ps ⊎ In q qs → before p q ≡ true
      by q (inl i) = a.0 q i
      by q (inr i) = c p q (inl refl) i

  pub ascends_left : (ps qs : List Names) → Ascends (ps ++ qs) → Ascends ps
  ascends_left [] qs a = tt
  ascends_left (p ∷ ps) qs a = (λ q i. a.0 q (in_left q ps qs i), ascends_left ps qs a.1)

  pub ascends_right : (ps qs : List Names) → Ascends (ps ++ qs) → Ascends qs
  ascends_right [] qs a = a
  ascends_right (p ∷ ps) qs a = ascends_right ps qs a.1

  pub ascends_across : (ps qs : List Names) (p q : Names) → Ascends (ps ++ qs) → In p ps → In q qs → before p q ≡ true
  ascends_across [] qs p q a i j = absurd i
  ascends_across (x ∷ ps) qs p q a (inl e) j = subst (λ y. before y q ≡ true) (sym e) (a.0 q (in_right q ps qs j))
  ascends_across (x ∷ ps) qs p q a (inr i) j = ascends_across ps qs p q a.1 i j

  -- ---- rows brought into the order

  abbrev put : Row → List Row → List Row
  put row rows = put_by before row rows

  put_before : (r s : Row) (rows : List Row) → before r.path s.path ≡ true → put r (s ∷ rows) ≡ r ∷ s ∷ rows
  put_before r s rows e = rw e refl

  put_behind : (r s : Row) (rows : List Row) → before r.path s.path ≡ false → put r (s ∷ rows) ≡ s ∷ put r rows
  put_behind r s rows e = rw e refl

  from_put_by : (b : Bool) (t r s : Row) (rows : List Row) → before r.path s.path ≡ b → (In t (put r rows) → In t (r ∷ rows)) → In t (put r (s ∷ rows)) → In t (r ∷ s ∷ rows)
  from_put_by true t r s rows e more i = subst (In t) (put_before r s rows e) i
  from_put_by false t r s rows e more i = behind (subst (In t) (put_behind r s rows e) i)
    where
      one_more : In t (r ∷ rows) → In t (r ∷ s ∷ rows)
      one_more (inl f) = inl f
      one_more (inr j) = inr (inr j)

      behind : In t (s ∷ put r rows) → In t (r ∷ s ∷ rows)
      behind (inl f) = inr (inl f)
      behind (inr j) = one_more (more j)

  from_put : (t r : Row) (rows : List Row) → In t (put r rows) → In t (r ∷ rows)
  from_put t r [] i = i
  from_put t r (s ∷ rows) i = from_put_by (before r.path s.path) t r s rows refl (from_put t r rows) i

  into_put_by : (b : Bool) (t r s : Row) (rows : List Row) → before r.path s.path ≡ b → (In t (r ∷ rows) → In t (put r rows)) → In t (r ∷ s ∷ rows) → In t (put r (s ∷ rows))
  into_put_by true t r s rows e more i = subst (In t) (sym (put_before r s rows e)) i
  into_put_by false t r s rows e more i = subst (In t) (sym (put_behind r s rows e)) (behind i)
    where
      behind : In t (r ∷ s ∷ rows) → In t (s ∷ put r rows)
      behind (inl f) = inr (more (inl f))
      behind (inr (inl f)) = inl f
      behind (inr (inr j)) = inr (more (inr j))

  into_put : (t r : Row) (rows : List Row) → In t (r ∷ rows) → In t (put r rows)
  into_put t r [] i = i
  into_put t r (s ∷ rows) i = into_put_by (before r.path s.path) t r s rows refl (into_put t r rows) i

  pub from_order : (t : Row) (rows : List Row) → In t (in_order before rows) → In t rows
  from_order t [] i = i
  from_order t (r ∷ rows) i = in_more t r (in_order before rows) rows (from_order t rows) (from_put t r (in_order before rows) i)

  pub into_order : (t : Row) (rows : List Row) → In t rows → In t (in_order before rows)
  into_order t [] i = i
  into_order t (r ∷ rows) i = into_put t r (in_order before rows) (in_more t r rows (in_order before rows) (into_order t rows) i)

module _ (before : Names → Names → Bool) (order : IsOrder before) where
  first_same : (p q : Names) (ps qs : List Names) → Ascends before (p ∷ ps) → Ascends before (q ∷ qs) → In p (q ∷ qs) → In q (p ∷ ps) → p ≡ q
  first_same p q ps qs a b (inl e) j = e
  first_same p q ps qs a b (inr i) (inl f) = sym f
  first_same p q ps qs a b (inr i) (inr j) = absurd (order.itself p (order.further p q p (a.0 q j) (b.0 p i)))

  rest_in : (p q x : Names) (ps qs : List Names) → Ascends before (p ∷ ps) → p ≡ q → In x ps → In x (q ∷ qs) → In x qs
  rest_in p q x ps qs a e i (inr j) = j
  rest_in p q x ps qs a e i (inl f) = absurd (order.itself p (subst (λ y. before p y ≡ true) (f ∙ sym e) (a.0 x i)))

  -- Of given paths one list ascends.
  pub one_list : (ps qs : List Names) → Ascends before ps → Ascends before qs → ((p : Names) → In p ps → In p qs) → ((p : Names) → In p qs → In p ps) → ps ≡ qs
  one_list [] [] a b i j = refl
  one_list [] (q ∷ qs) a b i j = absurd (j q (inl refl))
  one_list (p ∷ ps) [] a b i j = absurd (i p (inl refl))
  one_list (p ∷ ps) (q ∷ qs) a b i j =
      let e = first_same p q ps qs a b (i p (inl refl)) (j q (inl refl)) in
      let rest = one_list ps qs a.1 b.1 (λ x h. rest_in p q x ps qs a e h (i x (inr h))) (λ x h. rest_in q p x qs ps b (sym e) h (j x (inr h))) in
      cc

  -- a row that doesn't come before another, and has another path, comes behind it
  behind : (b : Bool) (p q : Names) → before p q ≡ b → b ≡ false → (p ≡ q → ⊥) → Compared before p q → before q p ≡ true
  behind b p q e f apart (earlier c) = let g : before p q ≡ false = e ∙ f in cc
  behind b p q e f apart (equal c) = absurd (apart c)
  behind b p q e f apart (later c) = c

  put_by_ascends : (b : Bool) (r s : Row) (rows : List Row) → before r.path s.path ≡ b → (r.path ≡ s.path → ⊥) → Ascends before (paths (s ∷ rows)) → Ascends before (paths (put before r rows))
      → Ascends before (paths (put before r (s ∷ rows)))
  put_by_ascends true r s rows e apart a more = subst (λ x. Ascends before (paths x)) (sym (put_before before r s rows e)) (first, a)
    where
      first : (q : Names) → In q (paths (s ∷ rows)) → before r.path q ≡ true
      first q (inl f) = subst (λ x. before r.path x ≡ true) (sym f) e
      first q (inr i) = order.further r.path s.path q e (a.0 q i)
  put_by_ascends false r s rows e apart a more = subst (λ x. Ascends before (paths x)) (sym (put_behind before r s rows e)) (first, more)
    where
      by : (t : Row) → In t (r ∷ rows) → before s.path t.path ≡ true
      by t (inl f) = subst (λ (x : Row). before s.path x.path ≡ true) (sym f) (behind false r.path s.path e refl apart (order.compared r.path s.path))
      by t (inr j) = a.0 t.path (paths_in t rows j)

      first : (q : Names) → In q (paths (put before r rows)) → before s.path q ≡ true
      first q i = let (t, j, f) = in_paths q (put before r rows) i in subst (λ x. before s.path x ≡ true) f (by t (from_put before t r rows j))

  put_ascends : (r : Row) (rows : List Row) → (In r.path (paths rows) → ⊥) → Ascends before (paths rows) → Ascends before (paths (put before r rows))
  put_ascends r [] apart a = (λ q i. absurd i, tt)
  put_ascends r (s ∷ rows) apart a = put_by_ascends (before r.path s.path) r s rows refl (λ e. apart (inl e)) a (put_ascends r rows (λ i. apart (inr i)) a.1)

  pub order_ascends : (rows : List Row) → Once (paths rows) → Ascends before (paths (in_order before rows))
  order_ascends [] a = tt
  order_ascends (r ∷ rows) a = put_ascends r (in_order before rows) none (order_ascends rows a.1)
    where
      none : In r.path (paths (in_order before rows)) → ⊥
      none i = let (t, j, e) = in_paths r.path (in_order before rows) i in a.0 (path_in r.path t rows (from_order before t rows j) e)

-- ---- rows of one directory

-- these rows have paths of this length
abbrev pub AreLong : ℕ → List Row → Type 0
AreLong n rows = (r : Row) → In r rows → length r.path ≡ n

put_either : (n : ℕ) (r : Row) (rows : List Row) → length r.path ≡ n → AreLong n rows → put_by dir_first r rows ≡ put_by members_first r rows
put_either n r [] long all = refl
put_either n r (s ∷ rows) long all =
    rw (both_orders r.path s.path (long ∙ sym (all s (inl refl))), put_either n r rows long (λ t i. all t (inr i))) refl

pub order_either : (n : ℕ) (rows : List Row) → AreLong n rows → in_order dir_first rows ≡ in_order members_first rows
order_either n [] all = refl
order_either n (r ∷ rows) all =
    ap (put_by dir_first r) (order_either n rows (λ t i. all t (inr i)))
    ∙ put_either n r (in_order members_first rows) (all r (inl refl)) (λ t i. all t (inr (from_order members_first t rows i)))
