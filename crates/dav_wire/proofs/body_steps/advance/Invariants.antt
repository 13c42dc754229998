use Rattle.std.proofs.Common.{◌≤◌, ◌-◌, ◌++◌, ℕ, List, length, take}
use Rattle.dav_wire.specs.BodySteps.{Stands}
use Rattle.dav_wire.specs.declared.announcing.Announced.{Announced}
use Rattle.dav_wire.proofs.body_steps.advance.Given as goal

abbrev pub invariant-steps : goal.invariant-steps
invariant-steps l = record {
  within : l.at ≤ length l.held;
  stands : (announced : Announced) (passed : List ℕ) → Stands announced passed l.fn.place l.fn.body.items
      → Stands announced (passed ++ take l.at l.held) l.place l.body.items;
}

abbrev pub decreases-steps : goal.decreases-steps
decreases-steps l = length l.held - l.at
