-- The name that is made of a token is hidden and plain.
use Rattle.std.proofs.Common.{◌≡◌, ◌<◌, ◌/◌, ◌%◌, ◌∷◌, [], ℕ, zero, suc, List, length, Bool, true, false, refl, ap, ◌∙◌, arith, slice_index}
use Rattle.std.specs.Int.{to_be_bytes, bytes_high_first, byte_at, w64}
use Rattle.std.specs.List.{list_all, list_any}
use Rattle.std.proofs.lemmas.Bool.{and_parts, and_from}
use Rattle.std.proofs.lemmas.Bool.Decides.{nat_tests}
use Rattle.hex.specs.Hex.{encode_lower, encode_with, lower_digits}
use Rattle.dav_core.specs.DavPath.{WebPath}
use Rattle.dav_core.specs.Listing.{or_empty}
use Rattle.dav_core.specs.Path.{is_plain, parent_of, parts_names}
use Rattle.dav_upload.specs.Names.{hidden_beside, hidden_name, is_digit, is_hidden, is_hidden_path}
use Rattle.dav_core.proofs.Paths.{last_pushed}

at_index : (q : ℕ → Bool) (xs : List ℕ) (k : ℕ) → list_all q xs ≡ true → k < length xs → q (slice_index xs k) ≡ true
at_index q [] k all lt = absurd (omega (arith, lt))
at_index q (x ∷ xs) zero all lt = (and_parts (q x) (list_all q xs) all).0
at_index q (x ∷ xs) (suc k) all lt = at_index q xs k (and_parts (q x) (list_all q xs) all).1 (omega (arith, lt))

digit_at : (k : ℕ) → k < 16 → is_digit (slice_index lower_digits k) ≡ true
digit_at k lt = at_index is_digit lower_digits k refl lt

byte_below : (k n : ℕ) → byte_at k n < 256
byte_below zero n = omega arith
byte_below (suc k) n = omega arith

all_digits : (k n : ℕ) → list_all is_digit (encode_lower (bytes_high_first k n)) ≡ true
unfolding encode_with
all_digits zero n = refl
all_digits (suc k) n =
    let small = byte_below k n in
    and_from (is_digit (slice_index lower_digits (byte_at k n / 16))) _ (digit_at (byte_at k n / 16) (omega (arith, small)))
    (and_from (is_digit (slice_index lower_digits (byte_at k n % 16))) _ (digit_at (byte_at k n % 16) (omega (arith, small))) (all_digits k n))

pub token_hides : (token : ℕ) → is_hidden (hidden_name token) ≡ true
unfolding encode_with
token_hides token = all_digits 8 token

digit_parts : (c : ℕ) → is_digit c ≡ true → parts_names c ≡ false
digit_parts c e = grind (arith, nat_tests)

no_parts : (xs : List ℕ) → list_all is_digit xs ≡ true → list_any parts_names xs ≡ false
no_parts [] all = refl
no_parts (x ∷ xs) all = let parts = and_parts (is_digit x) (list_all is_digit xs) all in rw (digit_parts x parts.0) (no_parts xs parts.1)

pub token_plain : (token : ℕ) → is_plain (hidden_name token) ≡ true
unfolding encode_with
token_plain token = rw (no_parts (encode_lower (to_be_bytes w64 token)) (all_digits 8 token)) refl

pub beside_hides : (target : WebPath) (token : ℕ) → is_hidden_path (hidden_beside target token).names ≡ true
beside_hides target token = ap (λ o. is_hidden (or_empty o)) (last_pushed (parent_of target.names) (hidden_name token)) ∙ token_hides token
