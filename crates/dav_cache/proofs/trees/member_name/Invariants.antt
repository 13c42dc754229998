use Rattle.std.proofs.Common.{◌≡◌, ◌≤◌, drop, length}
use Rattle.dav_memory.specs.Trees as trees
use Rattle.dav_cache.proofs.trees.member_name.Given as goal

-- what is left of both tells the name
abbrev pub invariant-loop-i : goal.invariant-loop-i
invariant-loop-i l = record { left : trees.member_name (drop l.i l.dir) (drop l.i l.path) ≡ trees.member_name l.dir l.path; within : l.i ≤ length l.path }
