use Rattle.std.proofs.Common.{◌∙◌}
use Rattle.dav_walks.proofs.steps.PiecesWritten.{stays_written}
use Rattle.dav_methods.proofs.tables.PutBehindOpening.{put_leaves}
use Rattle.dav_methods.proofs.putting.put_bytes.Goals as goal

pub returns-clause-stays : goal.returns-clause-stays
returns-clause-stays g c =
    let written = stays_written g.S.GuardedFileSystem.view g.S.File.DavFile.view.writes _ _ _ _ _ _ c.file_write-ended.ensures.writes in
    record {
      keeps = put_leaves g.S.GuardedFileSystem.view g.S.File.DavFile.view.writes c.args.credentials.now _ _ _ _ _ _ _ c.in-Ok.ensures.stays.keeps written c.file_close.ensures;
      loan = c.file_close.ensures.lent.loan ∙ (written.loan ∙ c.in-Ok.ensures.stays.loan);
    }
