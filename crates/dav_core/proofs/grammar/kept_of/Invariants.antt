use Rattle.std.proofs.Common.{◌≡◌, Ok, map, take}
use Rattle.dav_core.specs.Grammar as grammar
use Rattle.dav_core.proofs.grammar.kept_of.Given as goal

abbrev pub invariant-loop-segment : goal.invariant-loop-segment
invariant-loop-segment l = grammar.kept_of (map (λ s. s.now) (take l.segment-index l.segments)) ≡ Ok (map (λ s. s.now) l.kept.items)
