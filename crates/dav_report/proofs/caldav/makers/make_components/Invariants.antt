use Rattle.std.proofs.Common.{◌≡◌, map, take}
use Rattle.dav_report.specs.Making.{component, holding}
use Rattle.dav_report.proofs.caldav.makers.make_components.Given as goal

abbrev pub invariant-loop-kind : goal.invariant-loop-kind
invariant-loop-kind l = l.nodes ≡ holding (map component (take l.kind-index l.components))
