-- The table of the code, as lists.
use Rattle.std.specs.Prelude.{ℕ, List, map}
use Rattle.htmlescape.specs.declared.entities.TheConstants.{MINIMAL_ENTITIES, NAMED_ENTITIES}

-- the names in the code's order, each with its character
unfoldable pub table : List (List ℕ × ℕ)
table = map (λ e. (e.0.now, e.1)) NAMED_ENTITIES.now

-- the names alone
unfoldable pub names : List (List ℕ)
names = map (λ e. e.0) table

-- the five characters, each with its entity
unfoldable pub minimal_table : List (ℕ × List ℕ)
minimal_table = map (λ e. (e.0, e.1.now)) MINIMAL_ENTITIES
