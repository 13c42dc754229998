-- What a text says, by its length.
use Rattle.std.proofs.Common.{◌≡◌, ◌<◌, ◌+◌, ℕ, ℤ, pos, ◌+ℤ◌, List, ◌∷◌, length, drop, take, get_or, add-one, drop-cons, Bool, true, false, cond, Option, None, Some, nat_le, refl, sym, ap, ◌∙◌, arith}
use Rattle.std.proofs.lemmas.Bool.{leb-true}
use Rattle.std.specs.Str.{bytes_eq}
use Rattle.dav_calendar.specs.Moments.{at_time, day, midnight, moment, time, value_in}
use Rattle.dav_calendar.specs.Overlaps.{first_value}
use Rattle.dav_calendar.specs.declared.property.Property.{Property}
use Rattle.dav_io.proofs.Digits.{AreDigits}

pub day_is : (text : List ℕ) → length text ≡ 8 → AreDigits text → day text ≡ midnight (value_in (take 4 text)) (value_in (take 2 (drop 4 text))) (value_in (drop 6 text))
day_is text e all = rw (e, all) refl

long : (n : ℕ) → 8 < n → nat_le n 8 ≡ false
long n h = by (nat_le n 8) refl
  where
    by : (t : Bool) → nat_le n 8 ≡ t → nat_le n 8 ≡ false
    by true e = absurd (omega (arith, h, leb-true n 8 e))
    by false e = e

long_is : (text : List ℕ) → 8 < length text → moment text ≡ at_time (day (take 8 text)) (time (drop 8 text))
long_is text h = rw (long (length text) h) refl

pub timed : (text : List ℕ) (start seconds : ℤ) (within : ℕ) → 8 < length text → Some start ≡ day (take 8 text) → Some within ≡ time (drop 8 text) → seconds ≡ start +ℤ pos within
    → Some (record { seconds = seconds; is_day = false }) ≡ moment text
timed text start seconds within h d t e = rw e (rw (long_is text h, ← d, ← t) refl)

pub untimed : (text : List ℕ) (start : ℤ) → 8 < length text → Some start ≡ day (take 8 text) → None ≡ time (drop 8 text) → None ≡ moment text
untimed text start h d t = rw (long_is text h, ← d, ← t) refl

at : (xs : List Property) (i : ℕ) (d : Property) → i < length xs → drop i xs ≡ get_or xs i d ∷ drop (i + 1) xs
at xs i d h = rw (add-one, drop-cons xs i d) refl

pub value_here : (name : List ℕ) (ps : List Property) (i : ℕ) (d : Property) (whole : Option (List ℕ)) → i < length ps → whole ≡ first_value name (drop i ps)
    → bytes_eq (get_or ps i d).name name ≡ true → Some (get_or ps i d).value ≡ whole
value_here name ps i d whole h before e =
    sym (before ∙ ap (first_value name) (at ps i d h) ∙ ap (λ t. cond t (Some (get_or ps i d).value) (first_value name (drop (i + 1) ps))) e)

pub value_later : (name : List ℕ) (ps : List Property) (i : ℕ) (d : Property) (whole : Option (List ℕ)) → i < length ps → whole ≡ first_value name (drop i ps)
    → bytes_eq (get_or ps i d).name name ≡ false → whole ≡ first_value name (drop (i + 1) ps)
value_later name ps i d whole h before e =
    before ∙ ap (first_value name) (at ps i d h) ∙ ap (λ t. cond t (Some (get_or ps i d).value) (first_value name (drop (i + 1) ps))) e
