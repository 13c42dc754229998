use Rattle.std.proofs.Common.{◌≡◌, drop}
use Rattle.std.specs.List.{list_any}
use Rattle.dav_matching.specs.Properties.{is_named}
use Rattle.dav_matching.proofs.properties.some_named.Given as goal

abbrev pub invariant-loop-property : goal.invariant-loop-property
invariant-loop-property l = list_any (is_named l.filter) l.fn.properties ≡ list_any (is_named l.filter) (drop l.property-index l.properties)
