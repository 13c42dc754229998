use Rattle.dav_put.proofs.WholeStored.{stored_whole}
use Rattle.dav_put.proofs.storing.store.Goals as goal

pub returns-clause-whole : goal.returns-clause-whole
returns-clause-whole g c = λ test takes plain v w bytes was now told clear.
    stored_whole g.S.GuardedFileSystem.view g.S.File.DavFile.view.writes c.args.credentials.now test takes
    (record { target = c.args.destination.now.path.now; fields = c.args.destination.now.fields.now; token = c.args.destination.now.token }) _ _ _ _ _ v w bytes c.requires.named was now told clear plain
    c.store_by.ensures.table
