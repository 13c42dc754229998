use Rattle.std.proofs.Common.{◌≡◌, drop}
use Rattle.std.specs.List.{list_all}
use Rattle.dav_matching.specs.Properties.{property_passes}
use Rattle.dav_matching.proofs.properties.properties_match.Given as goal

abbrev pub invariant-loop-filter : goal.invariant-loop-filter
invariant-loop-filter l = list_all (property_passes l.properties) l.fn.filters ≡ list_all (property_passes l.properties) (drop l.filter-index l.filters)
