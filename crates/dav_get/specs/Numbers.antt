-- Numbers in decimal digits.
use Rattle.std.specs.Prelude.{◌==◌, ℕ, List, [], ◌∷◌, cond}

-- digits without the zeros at their front
abbrev pub zeros_dropped : List ℕ → List ℕ
zeros_dropped [] = []
zeros_dropped (d ∷ ds) = cond (d == 48) (zeros_dropped ds) (d ∷ ds)
