-- What an edit leaves of a row.
use Rattle.std.specs.Prelude.{◌≡◌, Some}
use Rattle.dav_core.specs.declared.tree.Row.{Row}
use Rattle.dav_core.specs.Path.{Names}
use Rattle.dav_core.specs.Tree.{row_at}
use Rattle.dav_core.specs.World.{World}

-- What stood at a path stands there, with its kind and its number.
abbrev pub KeepsRow : World → World → Names → Type 0
KeepsRow v w path = (r : Row) → row_at v.tree path ≡ Some r
    → (x : Row) × (row_at w.tree path ≡ Some x) × (x.kind ≡ r.kind) × (x.number ≡ r.number)
