-- The range from a byte on is read as the one slice to the end.
use Rattle.std.proofs.Common.{◌≡◌, ◌<◌, ◌≤◌, ◌+◌, ◌-◌, ◌^◌, ◌==◌, ◌||◌, ◌++◌, ℕ, suc, List, [], ◌∷◌, length, take, drop, reverse, Bool, true, false, cond, not, codes, decimal, None, Some, map, option_map, refl, sym, ap, subst, ◌∙◌, arith, nat_lt, lt-ltb, ne_eqb}
use Rattle.std.specs.List.{AllByRecursion, filter, position, position_or_len, slice_split}
use Rattle.std.specs.Str.Parse.{IsNumeral, digits_value}
use Rattle.std.proofs.lemmas.Bool.{and_from}
use Rattle.std.proofs.lemmas.Fmt.{decimal_is_IsNumeral}
use Rattle.std.proofs.lemmas.List.Splits.{slice_split_none}
use Rattle.std.proofs.lemmas.List.{length-append, reverse-append, reverse-reverse}
use Rattle.std.proofs.lemmas.List.Recursion.{is_position_or_len}
use Rattle.std.proofs.lemmas.List.Elements.{All-from_recursion}
use Rattle.std.proofs.lemmas.Str.Parse.{digit_from_value}
use Rattle.std.proofs.Math.Seq.{take-append_seam}
use Rattle.std.specs.Str.Parse.{AllDigits}
use Rattle.dav_io.proofs.Digits.{own}
use Rattle.dav_core.specs.Blanks.{is_blank, trimmed, without_end, without_front}
use Rattle.dav_model.specs.declared.ranges.Ranges.TheVariants.{Parts}
use Rattle.dav_model.specs.declared.ranges.Judged.TheVariants.{Unmet, Part}
use Rattle.dav_model.specs.Slices.{Back, From, all_judged, answer, asked, asked_at, asked_from, judged, members, number, ranges, with_one}
use Rattle.dav_fetch.specs.Asking.{range_from}

-- ---- digits

digit_free : (b : ℕ) → 48 ≤ b → b ≤ 57 → ((b == 44) ≡ false) × ((b == 45) ≡ false) × ((b == 43) ≡ false) × (is_blank b ≡ false)
digit_free b low high = (
  ne_eqb b 44 (λ e. omega (arith, e, low)),
  ne_eqb b 45 (λ e. omega (arith, e, low)),
  ne_eqb b 43 (λ e. omega (arith, e, low)),
  or_false (b == 32) (b == 9) (ne_eqb b 32 (λ e. omega (arith, e, low))) (ne_eqb b 9 (λ e. omega (arith, e, low))),
)
  where
    or_false : (p q : Bool) → p ≡ false → q ≡ false → (p || q) ≡ false
    or_false true q e f = e
    or_false false q e f = f

-- what holds of each digit holds of each byte of digits
each_digit : (P : ℕ → Type 0) → ((b : ℕ) → 48 ≤ b → b ≤ 57 → P b) → (ds : List ℕ) → AllDigits 10 ds → AllByRecursion P ds
each_digit P h [] d = tt
each_digit P h (b ∷ ds) d = let k = digit_from_value b d.0 in (h b k.0 k.1, each_digit P h ds d.1)

no_comma : (ds : List ℕ) → AllDigits 10 ds → AllByRecursion (λ b. (b == 44) ≡ false) (ds ++ codes "-")
no_comma [] d = (refl, tt)
no_comma (b ∷ ds) d = let k = digit_from_value b d.0 in ((digit_free b k.0 k.1).0, no_comma ds d.1)

one_piece : (n : ℕ) → AllDigits 10 (decimal n) → slice_split (λ b. b == 44) (decimal n ++ codes "-") ≡ (decimal n ++ codes "-") ∷ []
one_piece n d = slice_split_none (λ b. b == 44) (decimal n ++ codes "-") (All-from_recursion _ _ (no_comma (decimal n) d))

-- the digits end at the dash
abbrev place : List ℕ → ℕ
place [] = 0
place (b ∷ bs) = cond (b == 45) 0 (1 + place bs)

own_place : (ds : List ℕ) → AllDigits 10 ds → place (ds ++ codes "-") ≡ length ds
own_place [] d = refl
own_place (b ∷ ds) d =
    let k = digit_from_value b d.0 in
    ap (λ t. cond t 0 (1 + place (ds ++ codes "-"))) (digit_free b k.0 k.1).1
    ∙ ap (λ n. 1 + n) (own_place ds d.1) ∙ one_more (length ds)
  where
    one_more : (n : ℕ) → 1 + n ≡ suc n
    one_more n = omega arith

dash_place : (ds : List ℕ) → AllDigits 10 ds → position_or_len (λ b. b == 45) (ds ++ codes "-") ≡ length ds
dash_place ds d = sym (is_position_or_len place (λ b. b == 45) refl (λ x xs. refl) (ds ++ codes "-")) ∙ own_place ds d

dash_at : (ds : List ℕ) → AllDigits 10 ds → position (λ b. b == 45) (ds ++ codes "-") ≡ Some (length ds)
dash_at ds d =
    ap (λ n. cond (nat_lt n (length (ds ++ codes "-"))) (Some n) None) (dash_place ds d)
    ∙ ap (λ t. cond t (Some (length ds)) None) (lt-ltb (length ds) (length (ds ++ codes "-")) (subst (λ n. length ds < n) (sym (length-append ds (codes "-"))) (omega arith)))

front_stays : (ds : List ℕ) → 0 < length ds → AllDigits 10 ds → without_front (ds ++ codes "-") ≡ ds ++ codes "-"
front_stays [] some d = absurd (omega (arith, some))
front_stays (b ∷ ds) some d = let k = digit_from_value b d.0 in ap (λ t. cond t (without_front (ds ++ codes "-")) (b ∷ (ds ++ codes "-"))) (digit_free b k.0 k.1).3

end_stays : (ds : List ℕ) → without_end (ds ++ codes "-") ≡ ds ++ codes "-"
end_stays ds =
    ap (λ r. reverse (without_front r)) (reverse-append ds (codes "-")) ∙ ap reverse (sym (reverse-append ds (codes "-"))) ∙ reverse-reverse (ds ++ codes "-")

trim_stays : (ds : List ℕ) → 0 < length ds → AllDigits 10 ds → trimmed (ds ++ codes "-") ≡ ds ++ codes "-"
trim_stays ds some d = ap without_end (front_stays ds some d) ∙ end_stays ds

number_of : (ds : List ℕ) → IsNumeral 10 ds → number ds ≡ Some (digits_value 10 ds)
number_of ds i = ap (λ t. cond t (Some (digits_value 10 ds)) None) (and_from _ _ (ap not (ne_eqb (length ds) 0 (λ e. omega (arith, i.0, e)))) (own.from ds i.1))

asked_is : (n : ℕ) → n < 2 ^ 64 → asked (decimal n ++ codes "-") ≡ Some (From n None)
asked_is n small =
    let num = decimal_is_IsNumeral n small in
    let digits = num.0 in
    ap (λ p. asked_at p (decimal n ++ codes "-")) (dash_at (decimal n) digits.1)
    ∙ ap (λ t. cond t (option_map (λ k. Back k) (number (drop 1 (decimal n ++ codes "-")))) (asked_from (number (take (length (decimal n)) (decimal n ++ codes "-"))) (drop (length (decimal n) + 1) (decimal n ++ codes "-"))))
    (ne_eqb (length (decimal n)) 0 (λ e. omega (arith, digits.0, e)))
    ∙ ap (λ f. asked_from (number f) (drop (length (decimal n) + 1) (decimal n ++ codes "-"))) (take-append_seam (decimal n) (codes "-"))
    ∙ ap (λ o. asked_from o (drop (length (decimal n) + 1) (decimal n ++ codes "-"))) (number_of (decimal n) digits ∙ ap (λ v. Some v) num.1)
    ∙ ap (asked_from (Some n)) (behind (decimal n))
  where
    by_arith : (k : ℕ) → suc k + 1 ≡ suc (k + 1)
    by_arith k = omega arith

    behind : (ds : List ℕ) → drop (length ds + 1) (ds ++ codes "-") ≡ []
    behind [] = refl
    behind (d ∷ ds) = ap (λ k. drop k (d ∷ (ds ++ codes "-"))) (by_arith (length ds)) ∙ behind ds

members_are : (n : ℕ) → IsNumeral 10 (decimal n) → members (range_from n) ≡ (decimal n ++ codes "-") ∷ []
members_are n digits =
    ap (λ ps. filter (λ m. not (length m == 0)) (map trimmed ps)) (one_piece n digits.1)
    ∙ ap (λ m. filter (λ m. not (length m == 0)) (m ∷ [])) (trim_stays (decimal n) digits.0 digits.1)
    ∙ ap (λ t. cond (not t) ((decimal n ++ codes "-") ∷ []) []) (ne_eqb (length (decimal n ++ codes "-")) 0 (λ e. omega (arith, length-append (decimal n) (codes "-"), digits.0, e)))

pub resumes : (n len : ℕ) → n < len → n < 2 ^ 64 → ranges (Some (range_from n)) len ≡ Parts (record { start = n; count = len - n } ∷ [])
resumes n len inside small =
    ap (λ ms. answer (all_judged len ms)) (members_are n (decimal_is_IsNumeral n small).0)
    ∙ ap (λ a. answer (with_one (option_map (judged len) a) (Some []))) (asked_is n small)
    ∙ ap (λ t. answer (with_one (Some (cond t (Part (record { start = n; count = len - n })) Unmet)) (Some []))) (lt-ltb n len inside)
