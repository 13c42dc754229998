use Rattle.std.proofs.Common.{◌≡◌, map}
use Rattle.std.specs.List.{list_any}
use Rattle.dav_wire.specs.Fields.{names_close, asks_close}
use Rattle.dav_wire.proofs.fields.asks_close.Given as goal

abbrev pub invariant-loop-value : goal.invariant-loop-value
invariant-loop-value l = list_any names_close (map (λ v. v.bytes) l.values) ≡ asks_close l.fields
