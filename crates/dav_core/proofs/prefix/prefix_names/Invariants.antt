use Rattle.std.proofs.Common.{◌≡◌, map, not, take, filter}
use Rattle.dav_core.specs.Grammar as grammar
use Rattle.dav_core.proofs.prefix.prefix_names.Given as goal

abbrev pub invariant-loop-segment : goal.invariant-loop-segment
invariant-loop-segment l = l.names.items ≡ filter (λ s. not (grammar.is_empty s)) (map (λ s. s.now) (take l.segment-index l.segment-items))
