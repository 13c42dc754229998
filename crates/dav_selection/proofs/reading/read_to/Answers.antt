use Rattle.std.proofs.Common.{◌+◌, List, ℕ, Ok, refl, length, sym, subst, zero-add, arith}
use Rattle.dav_store.proofs.Lending.{lends_on, lends_same}
use Rattle.dav_store.specs.Files.{moved_by}
use Rattle.dav_selection.specs.Pieces.{none_read}
use Rattle.dav_selection.specs.Resources.{ReadsTo}
use Rattle.dav_selection.proofs.Lending.{ends_after, full_after, pieces_more, so_far_more, so_far_none, starved_before, stops_after, touches_same, touches_then}
use Rattle.dav_selection.proofs.reading.read_to.Goals as goal

pub pieces-init : goal.pieces-init
pieces-init g c = record {
  touches = touches_same g.S.GuardedFileSystem.view c.args.fs.now c.args.file.now (lends_same g.S.GuardedFileSystem.view g.S.GuardedFileSystem.listings g.met.S.GuardedFileSystem.fits g.met.S.GuardedFileSystem.puts_back c.args.fs.now);
  reads_from = c.requires.reads_from;
  room = c.in-Ok.ensures.len;
  pieces = rw c.new-bytes.ensures.items none_read;
  count = rw c.new-bytes.ensures.items (zero-add c.args.len);
  told = λ f is. rw c.new-bytes.ensures.items (so_far_none g.S.GuardedFileSystem.view f c.args.fs.now c.args.file.now is);
}

pub returns-in_default : goal.returns-in_default
returns-in_default g c = starved_before g.S.GuardedFileSystem.view c.args.fs.now c.args.file.now c.args.len
    (lends_same g.S.GuardedFileSystem.view g.S.GuardedFileSystem.listings g.met.S.GuardedFileSystem.fits g.met.S.GuardedFileSystem.puts_back c.args.fs.now)

pub returns-in-Err : goal.returns-in-Err
returns-in-Err g c = stops_after g.S.GuardedFileSystem.view
    (lends_on g.S.GuardedFileSystem.view g.S.GuardedFileSystem.listings g.met.S.GuardedFileSystem.fits g.met.S.GuardedFileSystem.puts_over)
    c.args.fs.now c.pieces.fs c.read_piece.new.fs c.args.file.now c.pieces.file c.read_piece.new.file c.args.len c.in-Err.error c.pieces.invariant.touches c.in-Err.ensures.touches c.in-Err.ensures.refused
    (length c.pieces.bytes.items + c.in-Err.ensures.asks.0) (pieces_more g.S.GuardedFileSystem.view c.args.len c.pieces.left _ c.in-Err.ensures.asks.0 _ (length c.pieces.bytes.items)
    c.args.fs.now c.pieces.fs c.read_piece.new.fs c.args.file.now c.pieces.file c.read_piece.new.file c.pieces.invariant.pieces c.in-Err.ensures.asks.1 c.pieces.invariant.count (omega arith) refl)

pub returns-then-count-eq0 : goal.returns-then-count-eq0
returns-then-count-eq0 g c = subst (λ (xs : List ℕ). ReadsTo g.S.GuardedFileSystem.view c.args.fs.now c.args.file.now c.args.len (Ok xs) c.read_piece.new.fs c.read_piece.new.file)
    (sym c.new.ensures) (ends_after g.S.GuardedFileSystem.view
    (lends_on g.S.GuardedFileSystem.view g.S.GuardedFileSystem.listings g.met.S.GuardedFileSystem.fits g.met.S.GuardedFileSystem.puts_over)
    c.args.fs.now c.pieces.fs c.read_piece.new.fs c.args.file.now c.pieces.file c.read_piece.new.file c.args.len c.pieces.left c.in-Ok-read_piece.count c.pieces.bytes.items
    c.read_piece.new.bytes.items c.pieces.invariant.touches c.in-Ok-read_piece.ensures.touches c.pieces.invariant.told c.in-Ok-read_piece.ensures.told c.if-count-eq0.true
    c.pieces.invariant.count c.in-Ok-read_piece.ensures.len
    (pieces_more g.S.GuardedFileSystem.view c.args.len c.pieces.left _ c.in-Ok-read_piece.ensures.asks.0 (length c.read_piece.new.bytes.items) (length c.pieces.bytes.items)
    c.args.fs.now c.pieces.fs c.read_piece.new.fs c.args.file.now c.pieces.file c.read_piece.new.file c.pieces.invariant.pieces c.in-Ok-read_piece.ensures.asks.1 c.pieces.invariant.count
    (omega arith) (omega (arith, c.in-Ok-read_piece.ensures.len, c.in-Ok-read_piece.ensures.asks.2))))

pub pieces-preserved : goal.pieces-preserved
pieces-preserved g c = record {
  touches = touches_then g.S.GuardedFileSystem.view
      (lends_on g.S.GuardedFileSystem.view g.S.GuardedFileSystem.listings g.met.S.GuardedFileSystem.fits g.met.S.GuardedFileSystem.puts_over)
      c.args.fs.now c.pieces.fs c.read_piece.new.fs c.args.file.now c.pieces.file c.read_piece.new.file c.pieces.invariant.touches c.in-Ok-read_piece.ensures.touches;
  reads_from = c.in-Ok-read_piece.ensures.reads_from;
  room = c.pieces.invariant.room;
  pieces = pieces_more g.S.GuardedFileSystem.view c.args.len c.pieces.left _ c.in-Ok-read_piece.ensures.asks.0 (length c.read_piece.new.bytes.items) (length c.pieces.bytes.items)
      c.args.fs.now c.pieces.fs c.read_piece.new.fs c.args.file.now c.pieces.file c.read_piece.new.file c.pieces.invariant.pieces c.in-Ok-read_piece.ensures.asks.1 c.pieces.invariant.count
      (omega arith) (omega (arith, c.in-Ok-read_piece.ensures.len, c.in-Ok-read_piece.ensures.asks.2));
  count = omega (arith, c.in-Ok-read_piece.ensures.len, c.in-Ok-read_piece.ensures.within, c.pieces.invariant.count);
  told = λ f is.
      let far = c.pieces.invariant.told f is in
      so_far_more g.S.GuardedFileSystem.view f c.pieces.bytes.items c.read_piece.new.bytes.items c.in-Ok-read_piece.count
      c.pieces.fs c.read_piece.new.fs c.pieces.file c.read_piece.new.file far (c.in-Ok-read_piece.ensures.told (moved_by (length c.pieces.bytes.items) f) far.at) c.in-Ok-read_piece.ensures.len;
}

pub returns : goal.returns
returns g c = subst (λ (xs : List ℕ). ReadsTo g.S.GuardedFileSystem.view c.args.fs.now c.args.file.now c.args.len (Ok xs) c.pieces.fs c.pieces.file)
    (sym c.new-2.ensures) (full_after g.S.GuardedFileSystem.view c.args.fs.now c.pieces.fs c.args.file.now c.pieces.file c.args.len c.pieces.bytes.items
    c.pieces.invariant.touches c.pieces.invariant.told (omega (arith, c.pieces.invariant.count, c.pieces-test.false)) c.pieces.invariant.pieces)
