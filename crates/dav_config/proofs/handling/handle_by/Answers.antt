use Rattle.http.specs.Request.{body_of, head_of}
use Rattle.dav_config.specs.Handling.{asking, the_served}
use Rattle.dav_config.proofs.Owned.{let_go}
use Rattle.dav_config.proofs.Polling.{handled_may_where}
use Rattle.dav_config.proofs.Starved.{starved_all, stays_where}
use Rattle.dav_config.proofs.handling.handle_by.Goals as goal

pub returns-clause-done : goal.returns-clause-done
returns-clause-done g c =
    let_go (the_served g.S.GuardedFileSystem g.S.File.DavFile) g.B.BodyReader
    (asking c.args.settings.now (head_of c.args.req) c.args.credentials.now c.args.now) (body_of c.args.req) c.handle_over.result c.args.store.now c.handle_over.new.store
    c.handle_over.new.content (rw c.into_parts-parts.ensures at c.handle_over.ensures.content_loan)
    (rw (c.from_parts-head.ensures.head, c.into_parts-parts.ensures) at c.handle_over.ensures.done)

pub returns-clause-may : goal.returns-clause-may
returns-clause-may g c =
    handled_may_where (the_served g.S.GuardedFileSystem g.S.File.DavFile) g.S.File.DavFile.view g.S.Disk.Disk.state g.S.GuardedFileSystem.inside
    g.met.S.GuardedFileSystem.fits.state g.met.S.GuardedFileSystem.fits.file c.handle_over.result g.B.BodyReader
    (asking c.args.settings.now (head_of c.args.req) c.args.credentials.now c.args.now) c.args.store.now c.handle_over.new.store (body_of c.args.req)
    (returns-clause-done g c)

pub returns-clause-memory : goal.returns-clause-memory
returns-clause-memory g c =
    stays_where (the_served g.S.GuardedFileSystem g.S.File.DavFile)
    (asking c.args.settings.now (head_of c.args.req) c.args.credentials.now c.args.now) c.handle_over.result _ _ c.args.store.now c.handle_over.new.store
    (rw (c.from_parts-head.ensures.head, c.into_parts-parts.ensures) at c.handle_over.ensures.memory)

pub returns-clause-starves : goal.returns-clause-starves
returns-clause-starves g c =
    starved_all (the_served g.S.GuardedFileSystem g.S.File.DavFile)
    (asking c.args.settings.now (head_of c.args.req) c.args.credentials.now c.args.now) c.handle_over.result g.B.BodyReader c.args.store.now c.handle_over.new.store
    (body_of c.args.req) c.handle_over.new.content (rw c.into_parts-parts.ensures at c.handle_over.ensures.content_loan)
    (rw (c.from_parts-head.ensures.head, c.into_parts-parts.ensures) at c.handle_over.ensures.memory)
