-- What a test, an order or a value that is there tells.
use Rattle.std.specs.Prelude.{◌≡◌, Bool, true, false, cond, Option, None, Some, IfSome, refl}
use Rattle.std.proofs.Common.{Ordering, Less, Equal, Greater, sym, subst, ◌∙◌}
use Rattle.std.specs.Option.{IsSome}
use Rattle.std.specs.Ordering.{is_lt}
use Rattle.std.proofs.lemmas.Option.{none-some, same_Some}

-- two tests that tell the same
pub same_tests : (a b : Bool) → (a ≡ true → b ≡ true) → (b ≡ true → a ≡ true) → a ≡ b
same_tests true b f g = sym (f refl)
same_tests false true f g = g refl
same_tests false false f g = refl

-- the second of two tests, where the first isn't asked
pub second_test : (b x y : Bool) → b ≡ false → cond b x y ≡ true → y ≡ true
second_test true x y e f = cc
second_test false x y e f = f

pub less_is : (o : Ordering) → is_lt o ≡ true → o ≡ Less
less_is Less e = refl
less_is Equal e = cc
less_is Greater e = cc

-- ---- a value that is there

pub some_of : {A : Type 0} (o : Option A) → IsSome o → (a : A) × (o ≡ Some a)
some_of None some = cc
some_of (Some a) some = (a, refl)

pub not_there : {A : Type 0} (o : Option A) (a : A) → o ≡ None → o ≡ Some a → ⊥
not_there o a e f = none-some a (sym e ∙ f)

pub if_some : {A : Type 0} (P : A → Type 0) (o : Option A) (a : A) → o ≡ Some a → IfSome o P → P a
if_some P None a e p = cc
if_some P (Some b) a e p = subst P (same_Some b a e) p
