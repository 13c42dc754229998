-- The first line that fits, cuts, and objects.
use Rattle.std.proofs.Common.{◌≡◌, ℕ, ◌+◌, ◌<◌, ◌==◌, Bool, true, ◌&&◌, cond, ltb, List, length, take, drop, get_or, Option, Some, None, MatchOption, sym, ap, ◌∙◌, arith, nat_eq}
use Rattle.std.specs.Borrow.{Bor}
use Rattle.std.specs.Option.{option_or, option_map}
use Rattle.std.specs.List.{position_or_len, before_first, after_first, starts_with, ends_with}
use Rattle.std.specs.Str.{IsTrimAsciiEnd}
use Rattle.std.proofs.lemmas.List.{at_drop_more}
use Rattle.std.proofs.lemmas.Str.Ascii.{trim_ascii_end_is}
use Rattle.std.proofs.lemmas.Bool.Decides.{nat_tests}
use Rattle.dav_report.specs.Lines.{cut, first_some, trimmed_end, is_object, CutsAt}

pub found_here : {A B : Type 0} (f : A → Option B) (xs : List A) (i : ℕ) (d : A) (b : B) → i < length xs → f (get_or xs i d) ≡ Some b
    → first_some f (drop i xs) ≡ Some b
found_here f xs i d b within here = at_drop_more (first_some f) xs i d within ∙ ap (λ o. option_or o (first_some f (drop (i + 1) xs))) here

pub passed_by : {A B : Type 0} (f : A → Option B) (xs : List A) (i : ℕ) (d : A) → i < length xs → f (get_or xs i d) ≡ None
    → first_some f (drop i xs) ≡ first_some f (drop (i + 1) xs)
passed_by f xs i d within here = at_drop_more (first_some f) xs i d within ∙ ap (λ o. option_or o (first_some f (drop (i + 1) xs))) here

no_place : (n m : ℕ) → n ≡ m → cond (ltb n m) (Some n) None ≡ None
no_place n m e = grind (arith, nat_tests)

a_place : (n m : ℕ) → n < m → cond (ltb n m) (Some n) None ≡ Some n
a_place n m h = grind (arith, nat_tests)

pub cuts_at : (b : ℕ) (s : List ℕ) (r : Option (Bor (List ℕ) × Bor (List ℕ)))
    → MatchOption r (position_or_len (λ c. c == b) s ≡ length s) (λ x. (x.0.now ≡ before_first (λ c. c == b) s) × (x.1.now ≡ after_first (λ c. c == b) s) × (position_or_len (λ c. c == b) s < length s)) → CutsAt b s r
cuts_at b s None h = ap (option_map (λ i. (take i s, drop (i + 1) s))) (no_place (position_or_len (λ c. c == b) s) (length s) h)
cuts_at b s (Some x) h =
    ap (option_map (λ i. (take i s, drop (i + 1) s))) (a_place (position_or_len (λ c. c == b) s) (length s) h.2) ∙ ap (λ t. Some (t, after_first (λ c. c == b) s)) (sym h.0) ∙ ap (λ t. Some (x.0.now, t)) (sym h.1)

pub object_is : (begins ends content trimmed : List ℕ) (r : Bool) → true ≡ starts_with nat_eq content begins → IsTrimAsciiEnd content trimmed
    → r ≡ ends_with nat_eq trimmed ends → r ≡ is_object begins ends content
object_is begins ends content trimmed r front cut back =
    back ∙ ap (λ t. ends_with nat_eq t ends) (trim_ascii_end_is content trimmed cut) ∙ ap (λ b. b && ends_with nat_eq (trimmed_end content) ends) front
