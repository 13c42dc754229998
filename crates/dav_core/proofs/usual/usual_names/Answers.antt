use Rattle.std.proofs.Common.{[], rules}
use Rattle.std.specs.Option.{option_map_or}
use Rattle.dav_core.specs.Grammar as grammar
use Rattle.dav_core.proofs.Kept.{said_all}
use Rattle.dav_core.proofs.usual.usual_names.Goals as goal

pub returns : goal.returns
returns c = said_all (grammar.segments c.args.text.now) (option_map_or (λ text. grammar.segments text.now) c.loop-rest.rest []) c.loop-rest.names.items (search rules) c.loop-rest.invariant
