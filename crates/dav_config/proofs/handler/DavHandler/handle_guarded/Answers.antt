use Rattle.http.specs.Request.{body_of, head_of}
use Rattle.dav_config.specs.Handling.{asking, the_served}
use Rattle.dav_config.proofs.Starved.{unasked_all}
use Rattle.dav_config.proofs.handler.DavHandler.handle_guarded.Goals as goal

pub returns-in-Err-clause-starves : goal.returns-in-Err-clause-starves
returns-in-Err-clause-starves g c =
    unasked_all (the_served g.S.GuardedFileSystem g.S.File.DavFile) (asking _ (head_of c.args.req) c.args.credentials c.args.now) g.B.BodyReader c.args.self.now.store (body_of c.args.req)
    c.in-Err.error

pub returns-in-Ok-clause-starves : goal.returns-in-Ok-clause-starves
returns-in-Ok-clause-starves g c = rw c.in-Ok.ensures at c.handle_by.ensures.starves
