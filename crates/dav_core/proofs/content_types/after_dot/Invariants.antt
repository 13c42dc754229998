use Rattle.std.proofs.Common.{◌≡◌, ◌≤◌, drop, length, None}
use Rattle.dav_core.specs.ContentTypes.{after_dot}
use Rattle.dav_core.proofs.content_types.after_dot.Given as goal

-- no dot stands from here on
abbrev pub invariant-loop-at : goal.invariant-loop-at
invariant-loop-at l = record { inside : l.at ≤ length l.name; none : after_dot (drop l.at l.name) ≡ None }

abbrev pub decreases-loop-at : goal.decreases-loop-at
decreases-loop-at l = l.at
