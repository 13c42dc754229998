use Rattle.std.proofs.Common.{[], ◌∷◌}
use Rattle.dav_lock.proofs.Forests.{forest_of-append}
use Rattle.dav_lock.proofs.element.Nodes.push.Goals as goal

pub returns-clause-ok : goal.returns-clause-ok
returns-clause-ok c = rw (c.in_ok-push.ensures.items, ← c.self.view_is) (forest_of-append c.self.inside.nodes.items (_ ∷ []))
