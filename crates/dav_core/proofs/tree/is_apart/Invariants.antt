use Rattle.std.proofs.Common.{◌≡◌, drop}
use Rattle.dav_core.specs.Tree.{is_apart}
use Rattle.dav_core.proofs.tree.is_apart.Given as goal

-- what is left decides
abbrev pub invariant-loop-i : goal.invariant-loop-i
invariant-loop-i l = is_apart l.rows ≡ is_apart (drop l.i l.rows)
