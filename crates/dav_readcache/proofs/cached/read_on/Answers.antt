use Rattle.dav_readcache.specs.Cached.{seen_reading}
use Rattle.std.specs.Prelude.{Ok, Err, Some}
use Rattle.std.proofs.Common.{ap, ◌∙◌}
use Rattle.dav_readcache.specs.declared.cached.Reading.{Reading}
use Rattle.dav_readcache.proofs.Stepping.{reads_plain, reads_then}
use Rattle.dav_readcache.proofs.cached.read_on.Goals as goal

pub returns-in-Err-read_into-clause-done : goal.returns-in-Err-read_into-clause-done
returns-in-Err-read_into-clause-done g c =
    reads_then (g.F.DavFile.view.handle c.args.file.now) (g.D.Disk.state c.args.disk.now) (g.D.Disk.state c.move_there.new.disk) (g.D.Disk.state c.read_into.new.disk)
    (seen_reading (Some c.args.reading.now) (g.F.DavFile.view.seen c.args.file.now (g.D.Disk.state c.args.disk.now)))
    (seen_reading (Some c.move_there.new.reading) (g.F.DavFile.view.seen c.move_there.new.file (g.D.Disk.state c.move_there.new.disk)))
    (seen_reading (Some c.move_there.new.reading) (g.F.DavFile.view.seen c.read_into.new.self (g.D.Disk.state c.read_into.new.disk)))
    c.read_into.new.into (Err c.in-Err-read_into.error) c.move_there.ensures.kept
    (reads_plain (g.F.DavFile.view.handle c.args.file.now) (g.F.DavFile.view.handle c.move_there.new.file) (g.D.Disk.state c.move_there.new.disk) (g.D.Disk.state c.read_into.new.disk)
    (g.F.DavFile.view.seen c.move_there.new.file (g.D.Disk.state c.move_there.new.disk)) (g.F.DavFile.view.seen c.read_into.new.self (g.D.Disk.state c.read_into.new.disk)) c.move_there.new.reading c.move_there.new.reading
    c.read_into.new.into (Err c.in-Err-read_into.error) c.move_there.ensures.handle c.move_there.ensures.none c.in-Ok.ensures.here c.move_there.ensures.none c.in-Ok.ensures.here c.in-Err-read_into.ensures.done)

pub returns-in-Ok-read_into-clause-done : goal.returns-in-Ok-read_into-clause-done
returns-in-Ok-read_into-clause-done g c =
    reads_then (g.F.DavFile.view.handle c.args.file.now) (g.D.Disk.state c.args.disk.now) (g.D.Disk.state c.move_there.new.disk) (g.D.Disk.state c.read_into.new.disk)
    (seen_reading (Some c.args.reading.now) (g.F.DavFile.view.seen c.args.file.now (g.D.Disk.state c.args.disk.now)))
    (seen_reading (Some c.move_there.new.reading) (g.F.DavFile.view.seen c.move_there.new.file (g.D.Disk.state c.move_there.new.disk)))
    (seen_reading (Some c.pass.new.reading) (g.F.DavFile.view.seen c.read_into.new.self (g.D.Disk.state c.read_into.new.disk)))
    c.read_into.new.into (Ok c.in-Ok-read_into.count) c.move_there.ensures.kept
    (reads_plain (g.F.DavFile.view.handle c.args.file.now) (g.F.DavFile.view.handle c.move_there.new.file) (g.D.Disk.state c.move_there.new.disk) (g.D.Disk.state c.read_into.new.disk)
    (g.F.DavFile.view.seen c.move_there.new.file (g.D.Disk.state c.move_there.new.disk)) (g.F.DavFile.view.seen c.read_into.new.self (g.D.Disk.state c.read_into.new.disk)) c.move_there.new.reading c.pass.new.reading
    c.read_into.new.into (Ok c.in-Ok-read_into.count) c.move_there.ensures.handle c.move_there.ensures.none c.in-Ok.ensures.here (ap (λ (x : Reading). x.content) c.pass.ensures ∙ c.move_there.ensures.none) (ap (λ (x : Reading). x.pending) c.pass.ensures ∙ c.in-Ok.ensures.here) c.in-Ok-read_into.ensures.done)
