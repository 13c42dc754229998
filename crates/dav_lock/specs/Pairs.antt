-- Pairs of texts, in the order of their names.
use Rattle.std.specs.Prelude.{ℕ, List, Option}
use Rattle.std.specs.declared.cmp.Ordering.{Ordering}
use Rattle.std.specs.Ordering.{nat_cmp}
use Rattle.std.specs.Cmp.Lexicographic.{slice_cmp}
use Rattle.std.specs.Map.{lookup}
use Rattle.std.specs.BTreeMap.{is_at}

abbrev pub Table : Type 0
Table = List (List ℕ × List ℕ)

-- texts are ordered by their bytes
abbrev pub text_order : List ℕ → List ℕ → Ordering
text_order = slice_cmp nat_cmp

-- the text at a name
abbrev pub value_at : List ℕ → Table → Option (List ℕ)
value_at name pairs = lookup (is_at (text_order name)) pairs
