use Rattle.std.proofs.Common.{◌≡◌, ◌++◌, map, length}
use Rattle.dav_walks.specs.declared.pending.Pending.TheVariants.{Below}
use Rattle.dav_walks.proofs.pending.push_members.Given as goal

abbrev pub invariant-members : goal.invariant-members
invariant-members l = map Below l.members.items ++ l.works.items ≡ map Below l.initial.members.items ++ l.initial.works.items

abbrev pub decreases-members : goal.decreases-members
decreases-members l = length l.members.items
