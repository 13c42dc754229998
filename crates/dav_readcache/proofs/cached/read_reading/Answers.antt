use Rattle.std.specs.Prelude.{Ok, Some}
use Rattle.std.proofs.Common.{ap, ◌∙◌}
use Rattle.dav_readcache.specs.Cached.{seen_reading}
use Rattle.dav_readcache.proofs.Stepping.{reads_by_same, reads_then, says_dropped, says_held, says_refused}
use Rattle.dav_readcache.proofs.cached.read_reading.Goals as goal

pub returns-in-Err-clause-done : goal.returns-in-Err-clause-done
returns-in-Err-clause-done g c =
    let (said, says, fresh) = c.is_fresh.ensures.says in
    says_refused (g.F.DavFile.view.handle c.args.file.now) (g.D.Disk.state c.args.disk.now) (g.D.Disk.state c.is_fresh.new.disk) (g.F.DavFile.view.seen c.args.file.now (g.D.Disk.state c.args.disk.now))
    (g.F.DavFile.view.seen c.is_fresh.new.file (g.D.Disk.state c.is_fresh.new.disk)) said c.in-Err.error c.args.reading.now c.is_fresh.new.reading c.args.into.now c.is_fresh.result c.in-Err.is says fresh

pub returns-in-Ok-true-clause-done : goal.returns-in-Ok-true-clause-done
returns-in-Ok-true-clause-done g c =
    let (said, says, fresh) = c.is_fresh.ensures.says in
    says_held (g.F.DavFile.view.handle c.args.file.now) (g.D.Disk.state c.args.disk.now) (g.D.Disk.state c.is_fresh.new.disk) (g.F.DavFile.view.seen c.args.file.now (g.D.Disk.state c.args.disk.now))
    (g.F.DavFile.view.seen c.is_fresh.new.file (g.D.Disk.state c.is_fresh.new.disk)) said c.args.reading.now c.is_fresh.new.reading c.copy.new.self c.copy.new.into c.copy.result c.is_fresh.result (c.in-Ok-true.is ∙ ap (λ b. Ok b) c.in-Ok-true.field-0-test) says fresh c.requires.known c.copy.ensures

pub returns-in-Ok-false-clause-done : goal.returns-in-Ok-false-clause-done
returns-in-Ok-false-clause-done g c =
    let (said, says, fresh) = c.is_fresh.ensures.says in
    reads_then (g.F.DavFile.view.handle c.args.file.now) (g.D.Disk.state c.args.disk.now) (g.D.Disk.state c.is_fresh.new.disk) (g.D.Disk.state c.read_on-in-Ok-false.new.disk)
    (seen_reading (Some c.args.reading.now) (g.F.DavFile.view.seen c.args.file.now (g.D.Disk.state c.args.disk.now)))
    (seen_reading (Some c.is_fresh.new.reading) (g.F.DavFile.view.seen c.is_fresh.new.file (g.D.Disk.state c.is_fresh.new.disk)))
    (seen_reading (Some c.read_on-in-Ok-false.new.reading) (g.F.DavFile.view.seen c.read_on-in-Ok-false.new.file (g.D.Disk.state c.read_on-in-Ok-false.new.disk)))
    c.read_on-in-Ok-false.new.into c.read_on-in-Ok-false.result
    (says_dropped (g.F.DavFile.view.handle c.args.file.now) (g.D.Disk.state c.args.disk.now) (g.D.Disk.state c.is_fresh.new.disk) (g.F.DavFile.view.seen c.args.file.now (g.D.Disk.state c.args.disk.now))
    (g.F.DavFile.view.seen c.is_fresh.new.file (g.D.Disk.state c.is_fresh.new.disk)) said c.args.reading.now c.is_fresh.new.reading c.is_fresh.result (c.in-Ok-false.is ∙ ap (λ b. Ok b) c.in-Ok-false.field-0-test) says fresh).0
    (reads_by_same (g.F.DavFile.view.handle c.args.file.now) (g.F.DavFile.view.handle c.is_fresh.new.file) (g.D.Disk.state c.is_fresh.new.disk) (g.D.Disk.state c.read_on-in-Ok-false.new.disk)
    (seen_reading (Some c.is_fresh.new.reading) (g.F.DavFile.view.seen c.is_fresh.new.file (g.D.Disk.state c.is_fresh.new.disk)))
    (seen_reading (Some c.read_on-in-Ok-false.new.reading) (g.F.DavFile.view.seen c.read_on-in-Ok-false.new.file (g.D.Disk.state c.read_on-in-Ok-false.new.disk)))
    c.read_on-in-Ok-false.new.into c.read_on-in-Ok-false.result c.is_fresh.ensures.handle c.read_on-in-Ok-false.ensures.done)
