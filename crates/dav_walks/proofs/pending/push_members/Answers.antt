use Rattle.std.proofs.Common.{◌∙◌}
use Rattle.dav_walks.proofs.steps.PathsPending.{push_one}
use Rattle.dav_walks.proofs.pending.push_members.Goals as goal

pub members-preserved : goal.members-preserved
members-preserved c =
    push_one c.pop.new.self.items c.members.members.items c.in-Some.member c.members.works.items c.push_front.new.self.items c.in-Some.ensures.items c.in_ok-push_front.ensures.items
    ∙ c.members.invariant
