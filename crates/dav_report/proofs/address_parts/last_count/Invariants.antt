use Rattle.std.proofs.Common.{◌≡◌, take, option_copied}
use Rattle.dav_lock.specs.Trees.{forest_of}
use Rattle.dav_report.specs.Children.{last_of}
use Rattle.dav_report.specs.AddressBooks.{counts}
use Rattle.dav_report.proofs.address_parts.last_count.Given as goal

abbrev pub invariant-loop-node : goal.invariant-loop-node
invariant-loop-node l = option_copied l.last ≡ last_of (counts (forest_of (take l.node-index l.node-items)))
