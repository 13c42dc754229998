use Rattle.std.proofs.Common.{◌≡◌, ◌++◌, map, take}
use Rattle.dav_lock.specs.Trees.{forest_of}
use Rattle.dav_report.specs.Children.{elements}
use Rattle.dav_report.proofs.filter_parts.add_names.Given as goal

abbrev pub invariant-loop-node : goal.invariant-loop-node
invariant-loop-node l = l.names ≡ l.fn.names ++ map (λ e. e.name) (elements (forest_of (take l.node-index l.node-items)))
