-- What the names of the large input are made of: ASCII letters, and decimal digits.
use Rattle.std.proofs.Common.{◌≡◌, ℕ, ◌+◌, ◌<◌, ◌≤◌, ◌^◌, ◌%◌, List, [], ◌∷◌, ◌++◌, decimal, arith}
use Rattle.std.proofs.lemmas.Fmt.{decimal_by_steps, decimal_injective}
use Rattle.std.specs.List.{AllByRecursion}

abbrev pub IsDigit : ℕ → Type 0
IsDigit b = (48 ≤ b) × (b ≤ 57)

abbrev pub AreDigits : List ℕ → Type 0
AreDigits bs = AllByRecursion IsDigit bs

digits_append : (xs ys : List ℕ) → AreDigits xs → AreDigits ys → AreDigits (xs ++ ys)
digits_append [] ys a b = b
digits_append (x ∷ xs) ys (here, a) b = (here, digits_append xs ys a b)

one_digit : (n : ℕ) → n < 10 → AreDigits ((48 + n) ∷ [])
one_digit n lt = ((omega arith, omega arith), tt)

last_digit : (n : ℕ) (ds : List ℕ) → 10 ≤ n → AreDigits ds → AreDigits (ds ++ ((48 + n % 10) ∷ []))
last_digit n ds le all = digits_append ds ((48 + n % 10) ∷ []) all ((omega arith, omega arith), tt)

pub decimal_digits : (n : ℕ) → n < 2 ^ 64 → AreDigits (decimal n)
decimal_digits n lt = decimal_by_steps (λ m ds. AreDigits ds) one_digit last_digit n lt

-- what holds of each digit holds of all bytes of a number
pub each_digit : (P : ℕ → Type 0) → ((b : ℕ) → 48 ≤ b → b ≤ 57 → P b) → (ds : List ℕ) → AreDigits ds → AllByRecursion P ds
each_digit P f [] all = tt
each_digit P f (d ∷ ds) ((low, high), all) = (f d low high, each_digit P f ds all)

pub decimal_each : (P : ℕ → Type 0) → ((b : ℕ) → 48 ≤ b → b ≤ 57 → P b) → (n : ℕ) → n < 2 ^ 64 → AllByRecursion P (decimal n)
decimal_each P f n lt = each_digit P f (decimal n) (decimal_digits n lt)

-- what holds of the letters in front holds of the whole name
pub each_append : (P : ℕ → Type 0) (xs ys : List ℕ) → AllByRecursion P xs → AllByRecursion P ys → AllByRecursion P (xs ++ ys)
each_append P [] ys a b = b
each_append P (x ∷ xs) ys (here, a) b = (here, each_append P xs ys a b)

-- a front that two lists share
pub cancel : (xs ys zs : List ℕ) → xs ++ ys ≡ xs ++ zs → ys ≡ zs
cancel [] ys zs e = e
cancel (x ∷ xs) ys zs e = cancel xs ys zs cc

pub same_number : (front : List ℕ) (a b : ℕ) → a < 2 ^ 64 → b < 2 ^ 64 → front ++ decimal a ≡ front ++ decimal b → a ≡ b
same_number front a b s t e = decimal_injective a b s t (cancel front (decimal a) (decimal b) e)
