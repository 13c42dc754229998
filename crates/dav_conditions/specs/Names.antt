-- The names of the fields that carry preconditions.
use Rattle.std.specs.Prelude.{ℕ, List, [], ◌∷◌, Bool, false, Option, None, Some, length, ◌==◌, ◌&&◌, ◌||◌}

-- `if-` stands before each of them
abbrev pub begins_with_if : List ℕ → Bool
begins_with_if (a ∷ b ∷ c ∷ more) = a == 105 && (b == 102 && c == 45)
begins_with_if _ = false

-- of the two that refuse: each has 8 or 19 bytes
abbrev pub has_refusing_name : List ℕ → Bool
has_refusing_name name = (length name == 8 || length name == 19) && begins_with_if name

-- the text of a name that has one alone
abbrev pub only : List (List ℕ) → Option (List ℕ)
only [] = None
only (text ∷ []) = Some text
only (text ∷ next ∷ more) = None
