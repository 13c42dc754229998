-- Nested things that wait in a list: how deep they nest, and how much there is to do, which falls with each step of a loop over them.
use Rattle.std.proofs.Common.{◌≡◌, ℕ, suc, ◌+◌, ◌≤◌, max, Bool, true, false, List, [], ◌∷◌, ◌++◌, refl, ap, arith}
use Rattle.std.specs.Prelude.{if◌then◌else◌}
use Rattle.dav_calendar.specs.Nested.{Nested, bare, and_one, depth, joined, nested_of}

abbrev pub weight : {A : Type 0} → Nested A → ℕ
weight bare = 0
weight (and_one said inner others) = 2 + weight inner + weight others

-- one fewer waits
pub record Popped {X A : Type 0} (says : X → A) (holds : X → Nested A) (all left : List X) (x : X) : Type 0 where
  pub others : depth (nested_of says holds left) ≤ depth (nested_of says holds all)
  pub first : suc (depth (holds x)) ≤ depth (nested_of says holds all)
  pub less : weight (nested_of says holds all) ≡ weight (nested_of says holds left) + (2 + weight (holds x))

-- some more wait, or no memory is left for them
pub record Appended {X A : Type 0} (says : X → A) (holds : X → Nested A) (xs ys new rest : List X) : Type 0 where
  pub waits : depth (nested_of says holds new) ≤ max (depth (nested_of says holds xs)) (depth (nested_of says holds ys))
  pub weighs : weight (nested_of says holds new) ≤ weight (nested_of says holds xs) + weight (nested_of says holds ys)
  pub left : depth (nested_of says holds rest) ≤ depth (nested_of says holds ys)

module _ {X A : Type 0} (says : X → A) (holds : X → Nested A) where
  depth-append : (xs ys : List X) → depth (nested_of says holds (xs ++ ys)) ≡ max (depth (nested_of says holds xs)) (depth (nested_of says holds ys))
  depth-append [] ys = omega arith
  depth-append (x ∷ xs) ys = omega (arith, depth-append xs ys)

  weight-append : (xs ys : List X) → weight (nested_of says holds (xs ++ ys)) ≡ weight (nested_of says holds xs) + weight (nested_of says holds ys)
  weight-append [] ys = omega arith
  weight-append (x ∷ xs) ys = omega (arith, weight-append xs ys)

  pub nested_of-append : (xs ys : List X) → nested_of says holds (xs ++ ys) ≡ joined (nested_of says holds xs) (nested_of says holds ys)
  nested_of-append [] ys = refl
  nested_of-append (x ∷ xs) ys = ap (and_one (says x) (holds x)) (nested_of-append xs ys)

  pub popped : (all left : List X) (x : X) → all ≡ left ++ x ∷ [] → Popped says holds all left x
  popped all left x h = record {
    others = rw h (omega (arith, depth-append left (x ∷ [])));
    first = rw h (omega (arith, depth-append left (x ∷ [])));
    less = rw h (omega (arith, weight-append left (x ∷ [])));
  }

  pub appended : (b : Bool) (xs ys new rest : List X) → new ≡ (if b then xs ++ ys else xs) → rest ≡ (if b then [] else ys)
      → Appended says holds xs ys new rest
  appended true xs ys new rest n r = rw (n, r) (record {
    waits = omega (arith, depth-append xs ys);
    weighs = omega (arith, weight-append xs ys);
    left = omega arith;
  })
  appended false xs ys new rest n r = rw (n, r) (record { waits = omega arith; weighs = omega arith; left = omega arith })
