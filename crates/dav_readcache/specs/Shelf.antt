-- Contents by their tags, the most recently used first.
use Rattle.std.specs.Prelude.{◌≤◌, ◌+◌, ◌-◌, ◌&&◌, ℕ, List, [], ◌∷◌, Bool, cond, length, nat_lt, nat_le, nat_eq, slice_get, Option, None, Some}
use Rattle.std.specs.Cmp.Lexicographic.{pointwise}
use Rattle.std.specs.List.{AllByRecursion}
use Rattle.std.specs.Map.{lookup}
use Rattle.lru.specs.LruCache as lru

abbrev pub Pairs : Type 0
Pairs = List (List ℕ × List ℕ)

pub record ShelfState : Type 0 where
  pub entries : Pairs
  pub size : ℕ
  pub room : ℕ
  pub most : ℕ

-- the sum of the bytes kept
abbrev pub total : Pairs → ℕ
total [] = 0
total (pair ∷ pairs) = length pair.1 + total pairs

abbrev pub AreWithin : ℕ → Pairs → Type 0
AreWithin most pairs = AllByRecursion (λ pair. length pair.1 ≤ most) pairs

abbrev pub len_of : Option (List ℕ × List ℕ) → ℕ
len_of None = 0
len_of (Some pair) = length pair.1

-- the length of the last content
abbrev pub last_len : Pairs → ℕ
last_len pairs = len_of (slice_get pairs (length pairs - 1))

-- whether one content more of this length fits
abbrev pub fits : ℕ → ℕ → ℕ → Pairs → Bool
fits size room len pairs = nat_lt (length pairs) size && nat_le len (room - total pairs)

-- the longest front of at most so many entries that have at most so many bytes
abbrev pub front_within : ℕ → ℕ → Pairs → Pairs
front_within size room [] = []
front_within size room (pair ∷ pairs) = cond (nat_le 1 size && nat_le (length pair.1) room)
    (pair ∷ front_within (size - 1) (room - length pair.1) pairs) []

-- the bytes that an entry has for a tag
abbrev pub bytes_for : List ℕ → ShelfState → Option (List ℕ)
bytes_for tag s = lookup (pointwise nat_eq tag) s.entries

-- The entry of a tag comes first.
abbrev pub promoted : List ℕ → ShelfState → ShelfState
promoted tag s = record s { entries = lru.promoted (pointwise nat_eq tag) s.entries }

-- The last entries go, until one more of this length fits.
abbrev pub made_room : ℕ → ShelfState → ShelfState
made_room len s = record s { entries = front_within (s.size - 1) (s.room - len) s.entries }

-- A content of a tag that no entry has is put first, where the last entries went until it fits.
abbrev pub put_first : List ℕ → List ℕ → ShelfState → ShelfState
put_first tag bytes s = record s { entries = (tag, bytes) ∷ (made_room (length bytes) s).entries }
