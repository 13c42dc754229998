use Rattle.std.proofs.Common.{◌≡◌, [], take}
use Rattle.dav_lock.specs.Trees.{forest_of}
use Rattle.dav_report.specs.Children.{texts}
use Rattle.dav_report.proofs.children.first_text.Given as goal

abbrev pub invariant-loop-node : goal.invariant-loop-node
invariant-loop-node l = texts (forest_of (take l.node-index l.node-items)) ≡ []
