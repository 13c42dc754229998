use Rattle.dav_store.proofs.Lending.{lends_on}
use Rattle.dav_selection.proofs.Lending.{closes_before, closes_then, said_touches}
use Rattle.dav_selection.proofs.reading.read_file.Goals as goal

pub returns-in-Ok-clause-closed : goal.returns-in-Ok-clause-closed
returns-in-Ok-clause-closed g c =
    let touches = said_touches g.S.GuardedFileSystem.view c.args.fs.now c.file_metadata.new.fs c.args.file c.file_metadata.new.file _ c.file_metadata.ensures in
    closes_before g.S.GuardedFileSystem.view
    (lends_on g.S.GuardedFileSystem.view g.S.GuardedFileSystem.listings g.met.S.GuardedFileSystem.fits g.met.S.GuardedFileSystem.puts_over)
    c.args.fs.now c.file_metadata.new.fs c.read_content.new.fs c.args.file c.file_metadata.new.file touches c.read_content.ensures.closed

pub returns-in-Err-clause-closed : goal.returns-in-Err-clause-closed
returns-in-Err-clause-closed g c =
    let touches = said_touches g.S.GuardedFileSystem.view c.args.fs.now c.file_metadata.new.fs c.args.file c.file_metadata.new.file _ c.file_metadata.ensures in
    closes_then g.S.GuardedFileSystem.view
    (lends_on g.S.GuardedFileSystem.view g.S.GuardedFileSystem.listings g.met.S.GuardedFileSystem.fits g.met.S.GuardedFileSystem.puts_over)
    c.args.fs.now c.file_metadata.new.fs c.file_close.new.fs c.args.file c.file_metadata.new.file touches c.file_close.ensures
