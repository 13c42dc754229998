use Rattle.std.proofs.Common.{Result, Ok, Err}
use Rattle.std.specs.Prelude.{OnErr}
use Rattle.http.specs.Request.{body_of, head_of}
use Rattle.dav_config.specs.Handling.{asking, the_served}
use Rattle.dav_config.proofs.Draining.{given_handled, stays_ended}
use Rattle.dav_config.proofs.given.handle_given.Goals as goal

where_refused : {A X P : Type 0} (result : Result A X) → P → OnErr result P
where_refused (Ok a) p = tt
where_refused (Err e) p = p

pub returns-in-Some-clause-done : goal.returns-in-Some-clause-done
returns-in-Some-clause-done g c =
    (given_handled (the_served g.S.GuardedFileSystem g.S.File.DavFile) g.S.File.DavFile.view g.S.Disk.Disk.state g.S.Disk.Disk.loan g.S.GuardedFileSystem.inside
    g.met.S.GuardedFileSystem.fits.state g.met.S.GuardedFileSystem.fits.file.handle c.gather.result g.B.BodyReader (asking c.args.settings.now (head_of c.args.req) c.args.credentials.now c.args.now) c.args.store c.in-Some.fs c.gather.new.store
    (body_of c.args.req) c.in-Ok.response (rw c.in-Some.is at c.in-Ok.ensures.done) c.gather.ensures.done c.gather.ensures.touches c.gather.ensures.loan).0

pub returns-in-Some-clause-memory : goal.returns-in-Some-clause-memory
returns-in-Some-clause-memory g c =
    where_refused c.gather.result
    (given_handled (the_served g.S.GuardedFileSystem g.S.File.DavFile) g.S.File.DavFile.view g.S.Disk.Disk.state g.S.Disk.Disk.loan g.S.GuardedFileSystem.inside
    g.met.S.GuardedFileSystem.fits.state g.met.S.GuardedFileSystem.fits.file.handle c.gather.result g.B.BodyReader (asking c.args.settings.now (head_of c.args.req) c.args.credentials.now c.args.now) c.args.store c.in-Some.fs c.gather.new.store
    (body_of c.args.req) c.in-Ok.response (rw c.in-Some.is at c.in-Ok.ensures.done) c.gather.ensures.done c.gather.ensures.touches c.gather.ensures.loan).1

pub returns-clause-memory : goal.returns-clause-memory
returns-clause-memory g c =
    stays_ended (the_served g.S.GuardedFileSystem g.S.File.DavFile)
    (asking c.args.settings.now (head_of c.args.req) c.args.credentials.now c.args.now) c.args.store c.handle_by.new.store c.in-Err.ensures.memory
