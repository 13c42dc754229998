use Rattle.std.proofs.Common.{◌≡◌, ◌++◌, Ok, map, drop}
use Rattle.dav_core.specs.Grammar as grammar
use Rattle.dav_core.proofs.grammar.all_decoded.Given as goal

-- what is left decides
abbrev pub invariant-loop-segment : goal.invariant-loop-segment
invariant-loop-segment l = grammar.all_decoded (map (λ s. s.now) l.kept) ≡ grammar.and_then (grammar.all_decoded (map (λ s. s.now) (drop l.segment-index l.kept))) (λ names. Ok (l.names.items ++ names))
