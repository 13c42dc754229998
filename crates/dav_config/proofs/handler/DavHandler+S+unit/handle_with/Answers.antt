use Rattle.std.proofs.Common.{refl}
use Rattle.http.specs.Request.{body_of, head_of}
use Rattle.dav_get.specs.Bodies.{IsHeld}
use Rattle.dav_config.specs.Handling.{asking, the_served}
use Rattle.dav_config.specs.Merging.{merged}
use Rattle.dav_config.proofs.Merged.{ended_with, given_may, unasked, with_given, with_own}
use Rattle.dav_config.proofs.handler.DavHandler+S+unit.handle_with.Goals as goal

pub returns-in-Err-clause-memory : goal.returns-in-Err-clause-memory
returns-in-Err-clause-memory g c = unasked (the_served g.S.GuardedFileSystem g.S.File.DavFile)
    (asking (merged c.args.self.now.settings c.args.config.settings) (head_of c.args.req) tt c.args.now) c.args.config.store c.args.self.now.store

pub returns-in-Some-clause-done : goal.returns-in-Some-clause-done
returns-in-Some-clause-done g c =
    with_given (the_served g.S.GuardedFileSystem g.S.File.DavFile) g.S.File.DavFile.view g.S.Disk.Disk.state g.S.Disk.Disk.loan g.S.GuardedFileSystem.inside
    c.handle_given.result g.B.BodyReader (asking (merged c.args.self.now.settings c.args.config.settings) (head_of c.args.req) tt c.args.now) c.args.config.store
    c.args.self.now.store c.args.self.now.store c.in-Some.given (body_of c.args.req) (rw c.in-Ok.ensures at c.handle_given.ensures.done) c.in-Some.is refl

pub returns-in-Some-clause-may : goal.returns-in-Some-clause-may
returns-in-Some-clause-may g c =
    given_may (the_served g.S.GuardedFileSystem g.S.File.DavFile) g.S.File.DavFile.view g.S.Disk.Disk.state g.S.Disk.Disk.loan g.S.GuardedFileSystem.inside
    c.handle_given.result g.B.BodyReader _ c.args.self.now.store c.in-Some.given (body_of c.args.req)
    (λ b d. IsHeld g.S.File.DavFile.view (g.S.Disk.Disk.state d) b) c.handle_given.ensures.done

pub returns-in-Some-clause-memory : goal.returns-in-Some-clause-memory
returns-in-Some-clause-memory g c =
    ended_with (the_served g.S.GuardedFileSystem g.S.File.DavFile) c.handle_given.result
    (asking (merged c.args.self.now.settings c.args.config.settings) (head_of c.args.req) tt c.args.now) c.args.config.store c.args.self.now.store
    c.args.self.now.store c.in-Some.given (rw c.in-Ok.ensures at c.handle_given.ensures.memory) c.in-Some.is refl

pub returns-clause-done : goal.returns-clause-done
returns-clause-done g c =
    with_own (the_served g.S.GuardedFileSystem g.S.File.DavFile) g.S.File.DavFile.view g.S.Disk.Disk.state g.S.Disk.Disk.loan g.S.GuardedFileSystem.inside
    c.handle_by.result g.B.BodyReader (asking (merged c.args.self.now.settings c.args.config.settings) (head_of c.args.req) tt c.args.now) c.args.config.store
    c.args.self.now.store c.handle_by.new.store (body_of c.args.req) (rw c.in-Ok.ensures at c.handle_by.ensures.done) c.in-None.is
