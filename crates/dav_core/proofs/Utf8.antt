-- Whether bytes are UTF-8, as a test.
use Rattle.std.proofs.Common.{◌≡◌, ℕ, Bool, true, false, List, IsUtf8, refl, sym, true≢false}
use Rattle.std.proofs.lemmas.Str.{IsUtf8-from_is_utf8}
use Rattle.std.specs.Str.{is_utf8}

pub not_utf8 : (bs : List ℕ) → (IsUtf8 bs → false ≡ true) → is_utf8 bs ≡ false
not_utf8 bs never = by (is_utf8 bs) refl
  where
    by : (b : Bool) → is_utf8 bs ≡ b → is_utf8 bs ≡ false
    by false e = e
    by true e = absurd (true≢false (sym (never (IsUtf8-from_is_utf8 bs e))))
