use Rattle.readcache_rows.proofs.Opens.{kept_for, kept_inside}
use Rattle.readcache_rows.proofs.steps.step.Goals as goal

pub returns-in-take : goal.returns-in-take
returns-in-take g c =
    kept_for g.S.File.DavFile.view g.met.S.File.DavFile.stays g.met.S.File.DavFile.reads_on c.args.opened _ _
    (kept_inside g.S.GuardedFileSystem.view.state g.S.Disk.Disk.state g.S.GuardedFileSystem.inside g.met.S.GuardedFileSystem.fits.state
    c.args.store.now c.call.new.store c.call.ensures)
    c.requires
