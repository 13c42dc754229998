-- The hexadecimal digits of a size.
use Rattle.std.proofs.Common.{◌≡◌, ℕ, zero, suc, ◌+◌, ◌-◌, ◌*◌, ◌/◌, ◌%◌, ◌^◌, ◌<◌, ◌≤◌, false, ◌==◌, List, [], ◌∷◌, ◌++◌, length, take, drop, set, refl, sym, ap, ◌∙◌, subst, arith, inl, inr, get_or, eqb-true, pow-suc, drop-cons}
use Rattle.std.specs.Fmt.{digit_glyph, digits_onto, digits}
use Rattle.std.proofs.lemmas.Bool.{cases_Bool, eqb-false}
use Rattle.std.proofs.lemmas.List.{drop-set, drop-set-add, drop_all, take_all, length-drop}
use Rattle.std.proofs.lemmas.Fmt.{digits_is_IsNumeral}
use Rattle.dav_wire.specs.Chunks.{line_end, size_line, IsSize}

-- the last k digits of n at most, and then what stands behind them
pub onto : ℕ → ℕ → List ℕ → List ℕ
onto k n behind = digits_onto k 16 false n behind

-- the first digit stands in front
pub onto_last : (k n : ℕ) (behind : List ℕ) → 0 < k → n / 16 ≡ 0 → onto k n behind ≡ digit_glyph false (n % 16) ∷ behind
unfolding onto
onto_last zero n behind some e = absurd (omega arith)
onto_last (suc k) n behind some e = rw e refl

-- the last digit stands at the end
pub onto_more : (k n : ℕ) (behind : List ℕ) → (n / 16 ≡ 0 → ⊥) → onto (suc k) n behind ≡ onto k (n / 16) (digit_glyph false (n % 16) ∷ behind)
unfolding onto
onto_more k n behind more =
    elim (cases_Bool (n / 16 == 0)) [
      | inl none ↦ absurd (more (eqb-true _ _ none))
      | inr some ↦ rw some refl
    ]

onto-append : (k n : ℕ) (front behind : List ℕ) → onto k n (front ++ behind) ≡ onto k n front ++ behind
unfolding onto
onto-append zero n front behind = refl
onto-append (suc k) n front behind =
    elim (cases_Bool (n / 16 == 0)) [
      | inl none ↦ rw none refl
      | inr some ↦ rw some (onto-append k (n / 16) (digit_glyph false (n % 16) ∷ front) behind)
    ]

-- the kit's word for the digits, by these steps
spelled : (size : ℕ) → digits 16 false size ≡ onto 64 size []
unfolding onto digits
spelled size = refl

-- the line of a size is its digits in front of the line's end
pub whole_line : (size : ℕ) → onto 64 size line_end ≡ size_line size
whole_line size = onto-append 64 size [] line_end ∙ ap (λ x. x ++ line_end) (sym (spelled size))

pub fewer : (n k : ℕ) → n < 16 ^ suc k → n / 16 < 16 ^ k
fewer n k fits = let e : 16 ^ suc k ≡ 16 ^ k * 16 = pow-suc 16 k in omega arith

-- where digits are left, there is room for one
pub some_left : (k n : ℕ) → n < 16 ^ k → (n ≡ 0 → ⊥) → 0 < k
some_left zero n fits some = absurd (some (omega arith))
some_left (suc k) n fits some = omega arith

-- below 16 ^ m there are at most m digits
onto_few : (k m n : ℕ) (behind : List ℕ) → n < 16 ^ m → 0 < m → length (onto k n behind) ≤ m + length behind
unfolding onto
onto_few zero m n behind fits some = omega arith
onto_few (suc k) zero n behind fits some = absurd (omega arith)
onto_few (suc k) (suc m) n behind fits some =
    elim (cases_Bool (n / 16 == 0)) [
      | inl none ↦ rw none (omega arith)
      | inr more ↦
          let left = fewer n m fits in
          let later = onto_few k m (n / 16) (digit_glyph false (n % 16) ∷ behind) left (some_left m (n / 16) left (eqb-false _ _ more)) in
          rw more (omega arith)
    ]

-- the digits of a size below 16 ^ 16 are one
pub digits_are_size : (size : ℕ) → size < 16 ^ 16 → IsSize (digits 16 false size) size
digits_are_size size fits =
    let numeral = digits_is_IsNumeral 16 false (omega arith) (omega arith) size (omega arith) in
    record {
      some = numeral.0.0;
      few = subst (λ (x : List ℕ). length x ≤ 16) (sym (spelled size)) (omega (arith, onto_few 64 16 size [] fits (omega arith)));
      hexadecimal = numeral.0.1;
      value = numeral.1;
    }

-- the next digit goes in front of those that are written
pub next_digit : (line : List ℕ) (at rest digit : ℕ) (target : List ℕ) → 0 < at → at ≤ length line → (rest / 16 ≡ 0 → ⊥)
    → digit ≡ digit_glyph false (rest % 16)
    → onto (at + 48) rest (drop at line) ≡ target → onto (at - 1 + 48) (rest / 16) (drop (at - 1) (set line (at - 1) digit)) ≡ target
next_digit line at rest digit target some within more is so_far =
    let k : at + 48 ≡ suc (at - 1 + 48) = omega arith in
    let behind : drop (at - 1) (set line (at - 1) digit) ≡ digit ∷ drop at line = drop-set line (at - 1) digit (omega arith) ∙ ap (λ n. digit ∷ drop n line) (omega arith) in
    ap (onto (at - 1 + 48) (rest / 16)) (behind ∙ ap (λ d. d ∷ drop at line) is)
    ∙ sym (onto_more (at - 1 + 48) rest (drop at line) more) ∙ ap (λ n. onto n rest (drop at line)) (sym k) ∙ so_far

-- and with the first digit all are written
pub first_digit : (line : List ℕ) (at rest digit : ℕ) (target : List ℕ) → 0 < at → at ≤ length line → rest / 16 ≡ 0
    → digit ≡ digit_glyph false (rest % 16)
    → onto (at + 48) rest (drop at line) ≡ target → drop (at - 1) (set line (at - 1) digit) ≡ target
first_digit line at rest digit target some within none is so_far =
    drop-set line (at - 1) digit (omega arith) ∙ ap (λ n. digit ∷ drop n line) (omega arith) ∙ ap (λ d. d ∷ drop at line) is
    ∙ sym (onto_last (at + 48) rest (drop at line) (omega arith) none) ∙ so_far

pub fewer_at : (n at : ℕ) → 0 < at → n < 16 ^ at → n / 16 < 16 ^ (at - 1)
fewer_at n zero some fits = absurd (omega arith)
fewer_at n (suc k) some fits = let same : suc k - 1 ≡ k = omega arith in subst (λ (j : ℕ). n / 16 < 16 ^ j) (sym same) (fewer n k fits)

-- before the first digit the line's end stands alone
pub line_before : (size : ℕ) (line : List ℕ) → length line ≡ 18 → onto 64 size (drop 16 (set (set line 16 13) 17 10)) ≡ size_line size
line_before size line long =
    let last : drop 17 line ≡ get_or line 17 0 ∷ drop 18 line = drop-cons line 17 0 (omega arith) in
    let none : drop 18 line ≡ [] = drop_all 18 line (omega arith) in
    ap (onto 64 size)
    (drop-set-add 16 (set line 16 13) 1 10
    ∙ ap (λ x. set x 1 10) (drop-set line 16 13 (omega arith) ∙ ap (λ x. 13 ∷ x) (last ∙ ap (λ x. get_or line 17 0 ∷ x) none)))
    ∙ whole_line size

-- what stands from the place on is the line
pub line_is : (line : List ℕ) (start size : ℕ) → length line ≡ 18 → drop start line ≡ size_line size
    → take (18 - start) (drop start line) ≡ size_line size
line_is line start size long is = take_all (18 - start) (drop start line) (omega (arith, length-drop start line)) ∙ is
