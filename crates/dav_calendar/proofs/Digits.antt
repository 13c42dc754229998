-- Decimal digits.
use Rattle.std.proofs.Common.{◌≡◌, ◌<◌, ◌≤◌, ◌^◌, ◌+◌, ◌-◌, ℕ, zero, suc, List, [], ◌∷◌, length, drop, take, Err, Bool, true, false, cond, refl, sym, subst, arith}
use Rattle.std.specs.Char.{is_ascii_digit}
use Rattle.std.specs.List.{prefix_len}
use Rattle.std.specs.Str.{all_ascii_digits}
use Rattle.std.specs.Str.Parse.{ParsesUnsigned, digits_value}
use Rattle.std.proofs.lemmas.Bool.{and_from, and_parts}
use Rattle.std.proofs.lemmas.List.{take_all, length-drop}
use Rattle.std.proofs.lemmas.Str.Parse.{digits_value_short, parse_digits}
use Rattle.dav_io.proofs.Digits.{AreDigits, own}

-- the number of so few digits fits
pub fits : {E : Type 0} (k : ℕ) (ds : List ℕ) (e : E) → AreDigits ds → 0 < length ds → length ds ≤ 9 → 10 ^ 9 ≤ 2 ^ k → ParsesUnsigned k 10 ds (Err e) → ⊥
fits k ds e all some short room refused =
    let small = digits_value_short own ds 9 all short in
    parse_digits own k ds (Err e) refused all (some, omega (arith, small, room))

pub below : (ds : List ℕ) (k : ℕ) → AreDigits ds → length ds ≤ k → digits_value 10 ds < 10 ^ k
below ds k all short = digits_value_short own ds k all short

pub digits_taken : (n : ℕ) (ds : List ℕ) → AreDigits ds → AreDigits (take n ds)
digits_taken zero ds all = refl
digits_taken (suc n) [] all = refl
digits_taken (suc n) (d ∷ ds) all = let p = and_parts (is_ascii_digit d) (all_ascii_digits ds) all in and_from (is_ascii_digit d) (all_ascii_digits (take n ds)) p.0 (digits_taken n ds p.1)

pub digits_dropped : (n : ℕ) (ds : List ℕ) → AreDigits ds → AreDigits (drop n ds)
digits_dropped zero ds all = all
digits_dropped (suc n) [] all = refl
digits_dropped (suc n) (d ∷ ds) all = digits_dropped n ds (and_parts (is_ascii_digit d) (all_ascii_digits ds) all).1

length_taken : (n : ℕ) (ds : List ℕ) → length (take n ds) ≤ n
length_taken zero ds = omega arith
length_taken (suc n) [] = omega arith
length_taken (suc n) (d ∷ ds) = omega (arith, length_taken n ds)

length_dropped : (n k : ℕ) (ds : List ℕ) → length ds ≤ n + k → length (drop n ds) ≤ k
length_dropped zero k ds h = omega (arith, h)
length_dropped (suc n) k [] h = omega arith
length_dropped (suc n) k (d ∷ ds) h = length_dropped n k ds (omega (arith, h))

pub taken_below : (n : ℕ) (ds : List ℕ) → AreDigits ds → digits_value 10 (take n ds) < 10 ^ n
taken_below n ds all = below (take n ds) n (digits_taken n ds all) (length_taken n ds)

pub dropped_below : (n k : ℕ) (ds : List ℕ) → AreDigits ds → length ds ≤ n + k → digits_value 10 (drop n ds) < 10 ^ k
dropped_below n k ds all h = below (drop n ds) k (digits_dropped n ds all) (length_dropped n k ds h)

-- what a range up to the end gives
pub rest_is : (n : ℕ) (ds : List ℕ) → take (length ds - n) (drop n ds) ≡ drop n ds
rest_is n ds = take_all (length ds - n) (drop n ds) (omega (arith, length-drop n ds))

one_more : (n : ℕ) → suc n ≡ 1 + n
one_more n = omega arith

-- the digits at the front are digits
pub front_digits : (ds : List ℕ) → AreDigits (take (prefix_len is_ascii_digit ds) ds)
front_digits [] = refl
front_digits (d ∷ ds) = by (is_ascii_digit d) refl (front_digits ds)
  where
    by : (t : Bool) → is_ascii_digit d ≡ t → AreDigits (take (prefix_len is_ascii_digit ds) ds) → AreDigits (take (cond t (1 + prefix_len is_ascii_digit ds) 0) (d ∷ ds))
    by true e rest =
        subst (λ k. AreDigits (take k (d ∷ ds))) (one_more (prefix_len is_ascii_digit ds)) (and_from (is_ascii_digit d) (all_ascii_digits (take (prefix_len is_ascii_digit ds) ds)) e rest)
    by false e rest = refl

pub front_below : (ds : List ℕ) (n : ℕ) → n ≡ prefix_len is_ascii_digit ds → n ≤ 9 → digits_value 10 (take n ds) ≤ 10 ^ 9
front_below ds n e short =
    let all = subst (λ n. AreDigits (take n ds)) (sym e) (front_digits ds) in
    let small = below (take n ds) 9 all (omega (arith, length_taken n ds, short)) in omega (arith, small)
