-- Spaces and tabs around the members of a field (RFC 9110, section 5.6.3).
use Rattle.std.specs.Prelude.{◌==◌, ◌||◌, ℕ, Bool, List, [], ◌∷◌, reverse, cond}

-- a space or a tab
abbrev pub is_blank : ℕ → Bool
is_blank b = b == 32 || b == 9

abbrev pub without_front : List ℕ → List ℕ
without_front [] = []
without_front (b ∷ bytes) = cond (is_blank b) (without_front bytes) (b ∷ bytes)

abbrev pub without_end : List ℕ → List ℕ
without_end bytes = reverse (without_front (reverse bytes))

-- the bytes without the spaces and tabs at both ends
abbrev pub trimmed : List ℕ → List ℕ
trimmed bytes = without_end (without_front bytes)
