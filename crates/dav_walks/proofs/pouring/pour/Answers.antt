use Rattle.std.proofs.Common.{refl, ◌∙◌}
use Rattle.dav_walks.proofs.steps.PiecesWritten.{none_yet, one_more, stays_poured, still_live}
use Rattle.dav_walks.proofs.pouring.pour.Goals as goal

pub pieces-init : goal.pieces-init
pieces-init g c = record { far = none_yet g.S.GuardedFileSystem.view _ _ _ _; reads_from = c.requires.reads_from; body_loan = refl }

pub write_piece-requires-clause-live : goal.write_piece-requires-clause-live
write_piece-requires-clause-live g c = still_live g.S.GuardedFileSystem.view _ _ _ _
    (stays_poured g.S.GuardedFileSystem.view _ _ _ _ _ _ _ _ c.pieces.invariant.far.poured) c.requires.live

pub pieces-preserved : goal.pieces-preserved
pieces-preserved g c = record {
  far = one_more g.S.GuardedFileSystem.view _ _ _ _ _ _ _ _ _ _ _ _ c.in-Ok-Some.piece c.as_slice.result.now c.pieces.invariant.far
      (rw c.in-Ok-Some.field-0-is at c.in-Ok-Some.ensures.done) c.as_slice.ensures c.in-Ok.ensures.takes;
  reads_from = c.in-Ok.ensures.takes.2.reads_from;
  body_loan = c.next_piece.ensures.loan ∙ c.pieces.invariant.body_loan;
}

pub pieces-preserved-in-Ok : goal.pieces-preserved-in-Ok
pieces-preserved-in-Ok g c = record {
  far = one_more g.S.GuardedFileSystem.view _ _ _ _ _ _ _ _ _ _ _ _ c.in-Ok-Some.piece c.as_slice.result.now c.pieces.invariant.far
      (rw c.in-Ok-Some.field-0-is at c.in-Ok-Some.ensures.done) c.as_slice.ensures c.in-Ok.ensures.takes;
  reads_from = c.in-Ok.ensures.takes.2.reads_from;
  body_loan = c.next_piece.ensures.loan ∙ c.pieces.invariant.body_loan;
}
