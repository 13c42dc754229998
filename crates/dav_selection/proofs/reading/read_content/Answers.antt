use Rattle.dav_store.proofs.Lending.{lends_on}
use Rattle.dav_selection.proofs.Lending.{closes_then}
use Rattle.dav_selection.proofs.reading.read_content.Goals as goal

pub returns-clause-closed : goal.returns-clause-closed
returns-clause-closed g c =
    let read = c.read_to-read.ensures in
    closes_then g.S.GuardedFileSystem.view
    (lends_on g.S.GuardedFileSystem.view g.S.GuardedFileSystem.listings g.met.S.GuardedFileSystem.fits g.met.S.GuardedFileSystem.puts_over)
    c.args.fs.now c.read_to-read.new.fs c.file_close-2.new.fs c.args.file c.read_to-read.new.file (record { keeps = read.keeps; live = read.live; handle = read.handle; lent = read.lent }) c.file_close-2.ensures
