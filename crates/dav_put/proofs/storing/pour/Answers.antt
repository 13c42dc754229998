use Rattle.std.proofs.Common.{take, refl, arith}
use Rattle.dav_put.proofs.Poured.{gives_taken, none_yet, one_more, over_taken, stays_same, stays_then}
use Rattle.dav_put.proofs.storing.pour.Goals as goal

pub pieces-init : goal.pieces-init
pieces-init g c = record {
  far = none_yet g.S.GuardedFileSystem.view _ _;
  stays = stays_same g.S.GuardedFileSystem.view g.S.File.DavFile.view.writes c.args.fs.now c.args.upload.now;
  reads_from = c.requires.reads_from;
  room = refl;
}

pub returns-then-count-eq0-clause-pours : goal.returns-then-count-eq0-clause-pours
returns-then-count-eq0-clause-pours g c = record {
  count = c.pieces._pieces;
  bytes = c.pieces.invariant.far.bytes;
  middle = record { store = c.pieces.fs; upload = c.pieces.upload; source = g.R.Source.stream c.pieces.source };
  fed = c.pieces.invariant.far.fed;
  stops = (over_taken _ _ c.take.new.into c.in-Ok.count c.if-count-eq0.true c.in-Ok.ensures, refl, refl);
}

pub returns-in-Err-clause-pours : goal.returns-in-Err-clause-pours
returns-in-Err-clause-pours g c = record {
  count = c.pieces._pieces;
  bytes = c.pieces.invariant.far.bytes;
  middle = record { store = c.pieces.fs; upload = c.pieces.upload; source = g.R.Source.stream c.pieces.source };
  fed = c.pieces.invariant.far.fed;
  stops = ((c.take.new.into, _, c.in-Err.ensures), refl, refl);
}

pub returns-in-Err-piece-clause-pours : goal.returns-in-Err-piece-clause-pours
returns-in-Err-piece-clause-pours g c = record {
  count = c.pieces._pieces;
  bytes = c.pieces.invariant.far.bytes;
  middle = record { store = c.pieces.fs; upload = c.pieces.upload; source = g.R.Source.stream c.pieces.source };
  fed = c.pieces.invariant.far.fed;
  stops = (take c.in-Ok.count c.take.new.into, gives_taken _ _ c.take.new.into c.in-Ok.count c.if-count-eq0.false c.in-Ok.ensures, c.in-Err-piece.ensures.table);
}

pub returns-clause-pours : goal.returns-clause-pours
returns-clause-pours g c = record {
  count = c.pieces._pieces;
  bytes = c.pieces.invariant.far.bytes;
  middle = record { store = c.pieces.fs; upload = c.pieces.upload; source = g.R.Source.stream c.pieces.source };
  fed = c.pieces.invariant.far.fed;
  stops = (omega arith, refl);
}

pub returns-in-Err-piece-clause-stays : goal.returns-in-Err-piece-clause-stays
returns-in-Err-piece-clause-stays g c =
    stays_then g.S.GuardedFileSystem.view g.S.File.DavFile.view.writes c.args.fs.now c.pieces.fs c.piece.new.fs c.args.upload.now c.pieces.upload c.piece.new.upload c.pieces.invariant.stays c.in-Err-piece.ensures.stays

pub pieces-preserved : goal.pieces-preserved
pieces-preserved g c = record {
  far = one_more g.S.GuardedFileSystem.view _ c.pieces._pieces _ _
      (record { store = c.piece.new.fs; upload = c.piece.new.upload; source = g.R.Source.stream c.take.new.self }) (take c.in-Ok.count c.take.new.into) _ c.pieces.invariant.far
      (gives_taken _ _ c.take.new.into c.in-Ok.count c.if-count-eq0.false c.in-Ok.ensures) refl c.in-Ok-piece.ensures.table;
  stays = stays_then g.S.GuardedFileSystem.view g.S.File.DavFile.view.writes c.args.fs.now c.pieces.fs c.piece.new.fs c.args.upload.now c.pieces.upload c.piece.new.upload c.pieces.invariant.stays c.in-Ok-piece.ensures.stays;
  reads_from = c.in-Ok-piece.ensures.reads_from;
  room = omega (arith, c.take.auto.into, c.pieces.invariant.room);
}
