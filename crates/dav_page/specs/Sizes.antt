-- Sizes as pages show them.
use Rattle.std.specs.Prelude.{◌==◌, ◌&&◌, ◌+◌, ◌*◌, ◌/◌, ◌%◌, ◌^◌, nat_le, nat_lt, ℕ, List, [], ◌∷◌, ◌++◌, codes, cond, decimal, Option, None, Some}
use Rattle.std.specs.List.{filter, last_or}

-- a unit of so many bytes
pub record Scale : Type 0 where
  pub bytes : ℕ
  pub called : List ℕ

abbrev pub scale : ℕ → List ℕ → Scale
scale bytes called = record { bytes = bytes; called = called }

abbrev pub scales : List Scale
scales =
    scale 1 (codes "B") ∷ scale (1024 ^ 1) (codes "KiB") ∷ scale (1024 ^ 2) (codes "MiB")
    ∷ scale (1024 ^ 3) (codes "GiB")
    ∷ scale (1024 ^ 4) (codes "TiB") ∷ scale (1024 ^ 5) (codes "PiB") ∷ []

abbrev pub or_bytes : Option Scale → Scale
or_bytes None = scale 1 (codes "B")
or_bytes (Some s) = s

-- the greatest unit that isn't above the size; from 2^60 on the byte
abbrev pub scale_of : ℕ → Scale
scale_of size = or_bytes (last_or None (filter (λ s. nat_le s.bytes size && nat_lt size (2 ^ 60)) scales))

-- so many hundredths of the quotient, to the nearest; from a half on it is the next above
abbrev pub hundredths : ℕ → ℕ → ℕ
hundredths n d = (2 * 100 * n + d) / (2 * d)

-- hundredths behind a point, without zeros at the end
abbrev pub fraction : ℕ → List ℕ
fraction h =
    cond (h == 0) [] (codes "." ++ cond (h % 10 == 0) (decimal (h / 10)) (decimal (h / 10) ++ decimal (h % 10)))

abbrev pub amount : ℕ → List ℕ → List ℕ
amount h called = decimal (h / 100) ++ (fraction (h % 100) ++ (codes " " ++ called))

-- what is shown of a size
abbrev pub shown_size : ℕ → List ℕ
shown_size size = amount (hundredths size (scale_of size).bytes) (scale_of size).called
