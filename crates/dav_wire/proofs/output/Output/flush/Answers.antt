use Rattle.std.proofs.Common.{List, ℕ, subst, ◌∙◌}
use Rattle.dav_io.specs.Appending.{Appends}
use Rattle.dav_wire.proofs.Pushing.{flushes}
use Rattle.dav_wire.proofs.output.Output.flush.Goals as goal

pub returns-clause-pushes : goal.returns-clause-pushes
returns-clause-pushes g c =
    flushes _ _ _ _ _
    (subst (λ (x : List ℕ). Appends (g.K.Sink.stream c.args.sink.now) x c.put_all-result.result (g.K.Sink.stream c.put_all-result.new.sink)) (c.deref.ensures.value ∙ c.self.view_is) c.put_all-result.ensures)
    c.clear.ensures.items
