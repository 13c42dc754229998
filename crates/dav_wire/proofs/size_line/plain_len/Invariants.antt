use Rattle.std.proofs.Common.{◌-◌, ◌≤◌, length, take, All}
use Rattle.dav_wire.specs.Chunks.{IsWithinLine}
use Rattle.dav_wire.proofs.size_line.plain_len.Given as goal

abbrev pub invariant-loop-at : goal.invariant-loop-at
invariant-loop-at l = record { within : l.at ≤ length l.text; all : All IsWithinLine (take l.at l.text) }

abbrev pub decreases-loop-at : goal.decreases-loop-at
decreases-loop-at l = length l.text - l.at
