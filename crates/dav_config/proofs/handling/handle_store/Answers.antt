use Rattle.dav_config.specs.Finding.{brought, request_of}
use Rattle.dav_config.specs.Handling.{the_served}
use Rattle.dav_config.proofs.Served.{answered_by, served_held, starved_by}
use Rattle.dav_config.proofs.handling.handle_store.Goals as goal

pub respond-requires : goal.respond-requires
respond-requires g c =
    served_held (the_served g.S.GuardedFileSystem g.S.File.DavFile) (request_of c.args.asked.now) (brought g.B.BodyReader.state c.args.content.now)
    (brought g.B.BodyReader.state c.find.new.content) c.args.fs.now c.find.new.fs c.in-Ok.found c.in-Ok.ensures.done

pub returns-in-Ok-clause-done : goal.returns-in-Ok-clause-done
returns-in-Ok-clause-done g c =
    answered_by (the_served g.S.GuardedFileSystem g.S.File.DavFile) c.respond.result (request_of c.args.asked.now) (brought g.B.BodyReader.state c.args.content.now)
    (brought g.B.BodyReader.state c.find.new.content) c.args.fs.now c.find.new.fs c.respond.new.fs c.in-Ok.found c.in-Ok.ensures.done c.respond.ensures.done c.respond.ensures.same

pub returns-in-Ok-clause-memory : goal.returns-in-Ok-clause-memory
returns-in-Ok-clause-memory g c =
    starved_by (the_served g.S.GuardedFileSystem g.S.File.DavFile) c.respond.result (request_of c.args.asked.now) (brought g.B.BodyReader.state c.args.content.now)
    (brought g.B.BodyReader.state c.find.new.content) c.args.fs.now c.find.new.fs c.respond.new.fs c.in-Ok.found c.in-Ok.ensures.done c.respond.ensures.closed
