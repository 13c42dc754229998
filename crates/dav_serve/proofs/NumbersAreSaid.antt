-- Which words say a number up to the most.
use Rattle.std.proofs.Common.{◌≡◌, ◌<◌, ◌≤◌, ◌^◌, ◌&&◌, ◌≢◌, ◌⊎◌, inl, inr, ℕ, suc, zero, List, [], ◌∷◌, length, get_or, decimal, Bool, true, false, cond, Option, None, Some, refl, sym, ap, subst, ◌∙◌, arith, bytes_eq, nat_le, leb-true, le-leb}
use Rattle.std.specs.Str.{all_ascii_digits}
use Rattle.std.specs.Str.Parse.{AllDigits, IsNumeral, digits_value, without_leading_plus}
use Rattle.std.proofs.lemmas.Bool.{and_from, and_parts}
use Rattle.std.proofs.lemmas.Fmt.{decimal_is_IsNumeral, decimal-digits_value, decimal_nonempty, first_decimal, decimal_digit}
use Rattle.std.proofs.lemmas.Slice.Eq.{bytes_eq-Decides}
use Rattle.std.proofs.lemmas.Str.Parse.{IsNumeralModel, numerals_by_value, tells_all_ascii_digits, digit_from_value, without_leading_plus_none}
use Rattle.dav_serve.specs.Words.{number_said}

own : IsNumeralModel (λ ds. all_ascii_digits ds ≡ true) (digits_value 10)
own = numerals_by_value _ tells_all_ascii_digits

abbrev is_number : ℕ → List ℕ → Bool
is_number most word = nat_le (digits_value 10 word) most && bytes_eq word (decimal (digits_value 10 word))

abbrev number_where : List ℕ → Bool → Option ℕ
number_where word t = cond t (Some (digits_value 10 word)) None

-- a word says a number that is written so
pub said_of : (most : ℕ) (word : List ℕ) → digits_value 10 word ≤ most → word ≡ decimal (digits_value 10 word) → number_said most word ≡ Some (digits_value 10 word)
said_of most word few is = ap (number_where word) (and_from _ _ (le-leb _ _ few) ((bytes_eq-Decides _ _).1 is))

-- another says none
said_not : (most : ℕ) (word : List ℕ) → ((n : ℕ) → n ≤ most → word ≡ decimal n → ⊥) → None ≡ number_said most word
said_not most word never = by (is_number most word) refl
  where
    by : (t : Bool) → is_number most word ≡ t → None ≡ number_said most word
    by true e = let parts = and_parts _ _ e in absurd (never (digits_value 10 word) (leb-true _ _ parts.0) ((bytes_eq-Decides _ _).0 parts.1))
    by false e = sym (ap (number_where word) e)

pub empty_says_none : (most : ℕ) (word : List ℕ) → most < 2 ^ 64 → length word ≡ 0 → None ≡ number_said most word
empty_says_none most word small empty = said_not most word (λ n few is.
    let some = decimal_nonempty n (omega arith) in
    let same = ap (length {A = ℕ}) is in
    absurd (omega arith))

first_in : (ds : List ℕ) → AllDigits 10 ds → 0 < length ds → get_or ds 0 0 ≡ 43 → ⊥
first_in [] all some e = absurd (omega arith)
first_in (d ∷ ds) all some e = let range = digit_from_value d all.0 in absurd (omega arith)

pub plus_says_none : (most : ℕ) (word : List ℕ) → most < 2 ^ 64 → get_or word 0 0 ≡ 43 → None ≡ number_said most word
plus_says_none most word small plus = said_not most word (λ n few is.
    let digits = (decimal_is_IsNumeral n (omega arith)).0 in
    first_in (decimal n) digits.1 digits.0 (ap (λ ds. get_or ds 0 0) (sym is) ∙ plus))

one_zero : (n : ℕ) → n < 2 ^ 64 → get_or (decimal n) 0 0 ≡ 48 → length (decimal n) ≡ 1
one_zero zero few e = ap length (decimal_digit 0 (omega arith))
one_zero (suc n) few e = let more = first_decimal (suc n) (omega arith) (omega arith) in absurd (omega arith)

pub zeros_say_none : (most : ℕ) (word : List ℕ) → most < 2 ^ 64 → get_or word 0 0 ≡ 48 → 1 < length word → None ≡ number_said most word
zeros_say_none most word small first long = said_not most word (λ n few is.
    let one = one_zero n (omega arith) (ap (λ ds. get_or ds 0 0) (sym is) ∙ first) in
    let same = ap (length {A = ℕ}) is in
    absurd (omega arith))

abbrev IsRead : List ℕ → Type 0
IsRead word = IsNumeral 10 (without_leading_plus word) × (digits_value 10 (without_leading_plus word) < 2 ^ 64)

bare : (word : List ℕ) → get_or word 0 0 ≢ 43 → IsRead word → IsNumeral 10 word × (digits_value 10 word < 2 ^ 64)
bare word plain reads = subst (λ ds. IsNumeral 10 ds × (digits_value 10 ds < 2 ^ 64)) (without_leading_plus_none word plain) reads

one_at_most : (word : List ℕ) → 0 < length word → ((get_or word 0 0 ≡ 48) × (length word ≤ 1)) ⊎ (get_or word 0 0 ≢ 48) → get_or word 0 0 ≡ 48 → length word ≡ 1
one_at_most word some (inl (first, few)) zeros = omega arith
one_at_most word some (inr other) zeros = absurd (other zeros)

-- the number that std reads, where no sign and no zeros stand in front
pub read_says : (most : ℕ) (word : List ℕ) (n : ℕ) → get_or word 0 0 ≢ 43 → ((get_or word 0 0 ≡ 48) × (length word ≤ 1)) ⊎ (get_or word 0 0 ≢ 48) → IsRead word × (n ≡ digits_value 10 (without_leading_plus word))
    → n ≤ most → Some n ≡ number_said most word
read_says most word n plain short reads few =
    let numeral = bare word plain reads.0 in
    let same : n ≡ digits_value 10 word = reads.1 ∙ ap (digits_value 10) (without_leading_plus_none word plain) in
    let written = decimal-digits_value own word (own.from word numeral.0.1) numeral.0.0 (one_at_most word numeral.0.0 short) numeral.1 in
    ap Some same ∙ sym (said_of most word (omega arith) (sym written))

-- none is said where std reads none that is small enough
pub unread_says_none : (most : ℕ) (word : List ℕ) → most < 2 ^ 64 → get_or word 0 0 ≢ 43 → (IsRead word → ⊥) → None ≡ number_said most word
unread_says_none most word small plain unread = said_not most word (λ n few is.
    let numeral = decimal_is_IsNumeral n (omega arith) in
    let read : IsNumeral 10 word × (digits_value 10 word < 2 ^ 64) =
    subst (λ ds. IsNumeral 10 ds × (digits_value 10 ds < 2 ^ 64)) (sym is) (numeral.0, omega (arith, numeral.1)) in
    unread (subst (λ ds. IsNumeral 10 ds × (digits_value 10 ds < 2 ^ 64)) (sym (without_leading_plus_none word plain)) read))
