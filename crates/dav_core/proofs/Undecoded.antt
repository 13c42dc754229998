-- Bytes without a `%` say themselves.
use Rattle.std.proofs.Common.{◌≡◌, ◌==◌, ◌||◌, ℕ, Bool, true, false, List, [], ◌∷◌, refl, ap, ◌∙◌, eq-eqb}
use Rattle.std.specs.List.{list_any}
use Rattle.percent_encoding.specs.Percent.{percent_decode}
use Rattle.percent_encoding.proofs.PercentLemmas.{percent_decode-nil, percent_decode_not_percent}

abbrev has_percent : List ℕ → Bool
has_percent bytes = list_any (λ b. b == 37) bytes

by_byte : (b : ℕ) (bytes : List ℕ) (percent : Bool) → (b == 37) ≡ percent → (percent || has_percent bytes) ≡ false → (has_percent bytes ≡ false → percent_decode bytes ≡ bytes) → percent_decode (b ∷ bytes) ≡ b ∷ bytes
by_byte b bytes true e none more = cc
by_byte b bytes false e none more = percent_decode_not_percent b bytes (λ same. let percent : (b == 37) ≡ true = eq-eqb b 37 same in cc) ∙ ap (λ others. b ∷ others) (more none)

pub undecoded : (bytes : List ℕ) → has_percent bytes ≡ false → percent_decode bytes ≡ bytes
undecoded [] none = percent_decode-nil
undecoded (b ∷ bytes) none = by_byte b bytes (b == 37) refl none (undecoded bytes)
