-- Worked words: which say a size or a number of a large input, and which say none.
use Rattle.std.proofs.Common.{◌≡◌, ◌≤◌, ◌∙◌, ℕ, List, [], ◌∷◌, map, codes, decimal, Option, None, Some, refl, sym, ap, arith}
use Rattle.std.specs.Fmt.{digits}
use Rattle.std.proofs.lemmas.Fmt.{decimal_is_IsNumeral}
use Rattle.dav_serve.specs.Words.{number_said, size_said}
use Rattle.dav_serve.proofs.NumbersAreSaid.{said_of}

-- each number up to the most is said by its digits
pub digits_say : (n : ℕ) → n ≤ 1048576 → size_said (decimal n) ≡ Some n
digits_say n few =
    let same = (decimal_is_IsNumeral n (omega arith)).1 in
    said_of 1048576 (decimal n) (omega (arith, same)) (ap decimal (sym same)) ∙ ap Some same

-- Words of a size, and what they say: nothing is said by more than the most, no digits, a sign, and zeros in front.
abbrev sizes : List (List ℕ × Option ℕ)
sizes = (codes "0", Some 0) ∷ (codes "1048576", Some 1048576) ∷ (codes "1048577", None) ∷ ([], None) ∷ (codes "+1", None) ∷ (codes "01", None) ∷ []

pub sizes_are_told : map (λ (row : List ℕ × Option ℕ). size_said row.0) sizes ≡ map (λ (row : List ℕ × Option ℕ). row.1) sizes
unfolding digits
sizes_are_told = refl

-- words of a large input's number, and what they say
abbrev seeds : List (List ℕ × Option ℕ)
seeds = (codes "399", Some 399) ∷ (codes "400", None) ∷ (codes "007", None) ∷ []

pub seeds_are_told : map (λ (row : List ℕ × Option ℕ). number_said 399 row.0) seeds ≡ map (λ (row : List ℕ × Option ℕ). row.1) seeds
unfolding digits
seeds_are_told = refl
