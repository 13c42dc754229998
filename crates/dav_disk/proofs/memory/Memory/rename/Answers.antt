use Rattle.std.proofs.Common.{refl, sym, ap, ◌∙◌, Ok, Err, None, Some, ◌≡◌, cond}
use Rattle.dav_core.specs.Changes.{renamed_found}
use Rattle.dav_core.specs.Edits.{moves}
use Rattle.dav_disk.proofs.Standing.{move_left_is, move_none_is, moved_found, may_move_of, make_at, spent_at, none_at}
use Rattle.dav_core.specs.World.{World}
use Rattle.dav_core.specs.Tree.{look}
use Rattle.dav_core.specs.Allowed.{moving}
use Rattle.dav_disk.specs.Memory.{known_of}
use Rattle.dav_disk.proofs.Judges.{moving_judged, refused_at}
use Rattle.dav_disk.proofs.memory.Memory.rename.Goals as goal

pub returns-in-Err : goal.returns-in-Err
returns-in-Err c =
    let w : World = (known_of c.args.self.now).world in
    let e : moving w.tree c.args.from.now c.args.to.now ≡ Err c.in-Err.e = rw (← c.as_slice.ensures.value, ← c.as_slice-2.ensures.value) c.in-Err.ensures in
    refused_at (moving w.tree c.args.from.now c.args.to.now) (known_of c.args.self.now) c.in-Err.e (moving_judged w.tree c.args.from.now c.args.to.now c.in-Err.e e) e

pub returns-then-not-moves : goal.returns-then-not-moves
returns-then-not-moves c =
    let w : World = (known_of c.args.self.now).world in
    let base : moving w.tree c.args.from.now c.args.to.now ≡ Ok (cond c.in-Ok.moves (Some (moves c.args.from.now c.args.to.now)) None) =
    rw (← c.as_slice.ensures.value, ← c.as_slice-2.ensures.value) c.in-Ok.ensures in
    none_at (moving w.tree c.args.from.now c.args.to.now) (known_of c.args.self.now) (base ∙ ap (λ b. Ok (cond b (Some (moves c.args.from.now c.args.to.now)) None)) c.if-not-moves.true)

pub returns-then-not-has_move_left : goal.returns-then-not-has_move_left
returns-then-not-has_move_left c =
    let w : World = (known_of c.args.self.now).world in
    let base : moving w.tree c.args.from.now c.args.to.now ≡ Ok (cond c.in-Ok.moves (Some (moves c.args.from.now c.args.to.now)) None) =
    rw (← c.as_slice.ensures.value, ← c.as_slice-2.ensures.value) c.in-Ok.ensures in
    let e = base ∙ ap (λ b. Ok (cond b (Some (moves c.args.from.now c.args.to.now)) None)) c.if-not-moves.false in
    let left = sym c.has_move_left.ensures ∙ c.if-not-has_move_left.true in
    spent_at (moving w.tree c.args.from.now c.args.to.now) (moves c.args.from.now c.args.to.now) (known_of c.args.self.now) e
    (move_none_is w c.args.from.now c.args.to.now (rw (← c.as_slice-3.ensures.value, ← c.as_slice-4.ensures.value) left))

pub returns : goal.returns
returns c =
    let w : World = (known_of c.args.self.now).world in
    let base : moving w.tree c.args.from.now c.args.to.now ≡ Ok (cond c.in-Ok.moves (Some (moves c.args.from.now c.args.to.now)) None) =
    rw (← c.as_slice.ensures.value, ← c.as_slice-2.ensures.value) c.in-Ok.ensures in
    let e = base ∙ ap (λ b. Ok (cond b (Some (moves c.args.from.now c.args.to.now)) None)) c.if-not-moves.false in
    let is_left = sym c.has_move_left.ensures ∙ c.if-not-has_move_left.false in
    let left = move_left_is w c.args.from.now c.args.to.now (rw (← c.as_slice-3.ensures.value, ← c.as_slice-4.ensures.value) is_left) in
    let may = may_move_of w c.args.from.now c.args.to.now (moves c.args.from.now c.args.to.now) e in
    make_at (moving w.tree c.args.from.now c.args.to.now) (moves c.args.from.now c.args.to.now) (known_of c.args.self.now) (known_of c.make.new.self) (renamed_found (look w.tree c.args.from.now) c.args.to.now w)
    c.make.result e left
    (moved_found w (renamed_found (look w.tree c.args.from.now) c.args.to.now w) may.row c.args.from.now c.args.to.now may.found may.here may.goes left refl)
    (rw (← c.in-Ok-try_clone.ensures.copy, ← c.in-Ok-try_clone-2.ensures.copy) c.make.ensures.ok) c.make.ensures.err
