use Rattle.std.proofs.Common.{◌≡◌, codes, take, Some}
use Rattle.std.specs.Option.{option_map}
use Rattle.std.specs.List.{flat_map}
use Rattle.dav_lock.specs.Trees.{forest_of}
use Rattle.dav_report.specs.Children.{each, last_of, named}
use Rattle.dav_report.proofs.filter_parts.kept_filter.Given as goal

abbrev pub invariant-loop-node : goal.invariant-loop-node
invariant-loop-node g l =
    option_map (λ filters. last_of (flat_map (λ fs. fs) filters)) (each (λ f. g.F.Outer.outer f.children) (named (codes "filter") (forest_of (take l.node-index l.node-items))))
    ≡ Some l.kept
