use Rattle.std.proofs.Common.{◌≡◌, take, option_copied}
use Rattle.dav_lock.specs.Trees.{forest_of}
use Rattle.dav_report.specs.Children.{named, last_of}
use Rattle.dav_report.proofs.children.last_named.Given as goal

abbrev pub invariant-loop-node : goal.invariant-loop-node
invariant-loop-node l = option_copied l.last ≡ last_of (named l.name (forest_of (take l.node-index l.node-items)))
