-- Things in their order, each of which may hold others of its kind: the components of a calendar text, and the filters of them.
use Rattle.std.specs.Prelude.{ℕ, suc, max, List, [], ◌∷◌}

-- what the first says besides those in it, those in it, and the others
pub data Nested (A : Type 0) : Type 0 where
  bare : Nested A
  and_one : A → Nested A → Nested A → Nested A

-- how deep they nest
abbrev pub depth : {A : Type 0} → Nested A → ℕ
depth bare = 0
depth (and_one said inner others) = max (suc (depth inner)) (depth others)

-- some, then others
abbrev pub joined : {A : Type 0} → Nested A → Nested A → Nested A
joined bare more = more
joined (and_one said inner others) more = and_one said inner (joined others more)

-- a list of them as data, by what each says and what it holds
abbrev pub nested_of : {X A : Type 0} → (X → A) → (X → Nested A) → List X → Nested A
nested_of says holds [] = bare
nested_of says holds (x ∷ xs) = and_one (says x) (holds x) (nested_of says holds xs)
