use Rattle.std.proofs.Common.{◌≡◌, ◌++◌, ◌+◌, [], Ok, length}
use Rattle.std.specs.Option.{option_map_or}
use Rattle.dav_core.specs.Grammar as grammar
use Rattle.dav_core.specs.Path.{Names}
use Rattle.dav_core.proofs.usual.usual_names.Given as goal

-- what the rest says stands behind the names
abbrev pub invariant-loop-rest : goal.invariant-loop-rest
invariant-loop-rest l = (more : Names) → grammar.names_in (option_map_or (λ text. grammar.segments text.now) l.rest []) ≡ Ok more → grammar.names_in (grammar.segments l.text) ≡ Ok (l.names.items ++ more)

abbrev pub decreases-loop-rest : goal.decreases-loop-rest
decreases-loop-rest l = option_map_or (λ text. length text.now + 1) l.rest 0
