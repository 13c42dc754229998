use Rattle.std.proofs.Common.{[], Err, Some, subst, sym}
use Rattle.dav_core.specs.Edits.{fills}
use Rattle.dav_core.specs.World.{at_key}
use Rattle.dav_disk.specs.Calls.{Known}
use Rattle.dav_disk.specs.Files.{live_of, open_of, stored_at}
use Rattle.dav_disk.specs.Making.{OpensBy}
use Rattle.dav_disk.specs.Memory.{known_of}
use Rattle.dav_disk.proofs.DirsStay.{stored_no_dir}
use Rattle.dav_disk.proofs.OpenAt.{can_so, emptied_ok, emptied_err, nothing_open, opened_no_dir}
use Rattle.dav_disk.proofs.memory.Memory.open_emptied.Goals as goal

pub open_number-requires-clause-kept : goal.open_number-requires-clause-kept
open_number-requires-clause-kept c = λ file. c.requires.kept

pub empty-requires-clause-file : goal.empty-requires-clause-file
empty-requires-clause-file c =
    opened_no_dir (known_of c.args.self.now) (known_of c.open_number.new.self) c.args.number c.args.kind c.args.how c.in-Ok.handle c.in-Ok.ensures
    (stored_no_dir c.args.self.now.rows (stored_at c.args.self.now.files) c.args.number c.args.self.now.bare c.requires.kept)

pub returns-in-Ok-empty : goal.returns-in-Ok-empty
returns-in-Ok-empty c =
    emptied_ok (known_of c.args.self.now) (known_of c.open_number.new.self) (known_of c.empty.new.self) c.args.number c.args.kind c.args.how c.in-Ok.handle c.in-Ok.ensures c.in-Ok-empty.ensures

pub returns-in-Err-empty : goal.returns-in-Err-empty
returns-in-Err-empty c =
    let k : Known = known_of c.args.self.now in
    subst (λ (n : Known). OpensBy (Some (fills c.args.number [])) c.args.number c.args.kind c.args.how k (Err c.in-Err-empty.e) n) (sym c.close.ensures)
    (emptied_err k (known_of c.open_number.new.self) (known_of c.empty.new.self) c.args.number c.args.kind c.args.how c.in-Ok.handle c.in-Err-empty.e
    (nothing_open live_of open_of (at_key c.args.self.now.opens c.in-Ok.handle.0) c.in-Ok.ensures.2) c.in-Ok.ensures c.in-Err-empty.ensures
    (can_so c.can_empty.result _ c.can_empty.ensures c.if-not-can_empty.false))
