use Rattle.dav_serve.specs.Words.{rules_said}
use Rattle.davserve.proofs.Anyway.{anyway}
use Rattle.davserve.proofs.serve.Goals as goal

-- The machine's input may be asked at any time.
pub run-requires : goal.run-requires
run-requires c = record { waits = anyway (rules_said c.args.words.now) (λ rules now so_far. tt) }
