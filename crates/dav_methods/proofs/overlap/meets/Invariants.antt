use Rattle.std.proofs.Common.{◌≡◌, ◌<◌, ℕ, true, [], get_or}
use Rattle.dav_model.specs.Overlap.{same_name}
use Rattle.dav_methods.proofs.overlap.meets.Given as goal

abbrev pub invariant-loop-at : goal.invariant-loop-at
invariant-loop-at l = (k : ℕ) → k < l.at → same_name l.folds (get_or l.names k []) (get_or l.others k []) ≡ true
