use Rattle.std.proofs.Common.{ap, sym, ◌∙◌}
use Rattle.dav_core.specs.World.{at_key}
use Rattle.dav_core.specs.Writing.{can_write, appends, write_place}
use Rattle.dav_disk.specs.Calls.{Known}
use Rattle.dav_disk.specs.Files.{open_of, live_of, stored_at}
use Rattle.dav_disk.specs.Memory.{known_of}
use Rattle.dav_disk.proofs.Opened.{at_map}
use Rattle.dav_disk.proofs.DirsStay.{stored_no_dir}
use Rattle.dav_disk.proofs.DirsStay.{written_file}
use Rattle.dav_disk.proofs.Then.{writes_ok, writes_err, writes_not}
use Rattle.dav_disk.proofs.memory.Memory.write.Goals as goal

pub write_into-requires-clause-given : goal.write_into-requires-clause-given
write_into-requires-clause-given c = c.args.self.now.given.opens c.args.file.0 (open_of c.open_file-opened.result) (at_map open_of _ _ c.open_file-opened.ensures)

pub write_into-requires-clause-file : goal.write_into-requires-clause-file
write_into-requires-clause-file c =
    stored_no_dir c.args.self.now.rows (stored_at c.args.self.now.files) c.open_file-opened.result.number c.args.self.now.bare
    (c.args.self.now.kept c.args.file.0 c.open_file-opened.result c.open_file-opened.ensures
    (written_file c.open_file-opened.result (sym c.can_be_written.ensures ∙ c.if-not-can_be_written.false)))

pub move_open-requires : goal.move_open-requires
move_open-requires c = ap (λ t. at_key t c.args.file.0) c.write_into.ensures.opens ∙ c.open_file-opened.ensures

pub returns-then-not-can_be_written : goal.returns-then-not-can_be_written
returns-then-not-can_be_written c =
    writes_not (known_of c.args.self.now) c.args.file.0 c.args.from.now (open_of c.open_file-opened.result) (at_map open_of _ _ c.open_file-opened.ensures)
    (ap can_write (at_map live_of _ _ c.open_file-opened.ensures) ∙ sym c.can_be_written.ensures ∙ c.if-not-can_be_written.true)

pub returns-in-Err : goal.returns-in-Err
returns-in-Err c =
    let k : Known = known_of c.args.self.now in
    let live = at_map live_of _ _ c.open_file-opened.ensures in
    writes_err k (known_of c.write_into.new.self) c.args.file.0 c.args.from.now (open_of c.open_file-opened.result) c.place_of-place.result c.in-Err.e (record {
      opened = at_map open_of _ _ c.open_file-opened.ensures;
      can = ap can_write live ∙ sym c.can_be_written.ensures ∙ c.if-not-can_be_written.false;
      at = c.place_of-place.ensures ∙ ap (λ l. write_place (appends l) k.world (open_of c.open_file-opened.result)) (sym live);
    }) c.in-Err.ensures.made

pub returns : goal.returns
returns c =
    let k : Known = known_of c.args.self.now in
    let live = at_map live_of _ _ c.open_file-opened.ensures in
    writes_ok k (known_of c.write_into.new.self) _ c.args.file.0 c.args.from.now (open_of c.open_file-opened.result) c.place_of-place.result c.in-Ok.end (record {
      opened = at_map open_of _ _ c.open_file-opened.ensures;
      can = ap can_write live ∙ sym c.can_be_written.ensures ∙ c.if-not-can_be_written.false;
      at = c.place_of-place.ensures ∙ ap (λ l. write_place (appends l) k.world (open_of c.open_file-opened.result)) (sym live);
    }) c.in-Ok.ensures.made c.in-Ok.ensures.end c.move_open.ensures
