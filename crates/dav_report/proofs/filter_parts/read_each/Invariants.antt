use Rattle.std.proofs.Common.{◌≡◌, take, Some}
use Rattle.dav_lock.specs.Trees.{forest_of}
use Rattle.dav_report.specs.Children.{each, named}
use Rattle.dav_report.proofs.filter_parts.read_each.Given as goal

abbrev pub invariant-loop-node : goal.invariant-loop-node
invariant-loop-node g l = each g.F.FromElement.asked (named l.name (forest_of (take l.node-index l.node-items))) ≡ Some l.filters.items
