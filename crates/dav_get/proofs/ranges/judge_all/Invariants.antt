use Rattle.std.proofs.Common.{◌≡◌, map, drop}
use Rattle.dav_model.specs.Slices as ranges
use Rattle.dav_get.specs.Found.{pieces_judged, continued}
use Rattle.dav_get.proofs.ranges.judge_all.Given as goal

-- what is left decides
abbrev pub invariant-loop-piece : goal.invariant-loop-piece
invariant-loop-piece l =
    ranges.answer (pieces_judged l.len (map (λ p. p.now) l.pieces))
    ≡ continued l.has_member l.everything l.met.items (pieces_judged l.len (map (λ p. p.now) (drop l.piece-index l.pieces)))
