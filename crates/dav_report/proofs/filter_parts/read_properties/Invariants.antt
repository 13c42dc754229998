use Rattle.std.proofs.Common.{◌≡◌, take}
use Rattle.dav_lock.specs.Trees.{forest_of}
use Rattle.dav_report.specs.Requests.{properties}
use Rattle.dav_report.proofs.filter_parts.read_properties.Given as goal

abbrev pub invariant-loop-node : goal.invariant-loop-node
invariant-loop-node l = l.names ≡ properties (forest_of (take l.node-index l.node-items))
