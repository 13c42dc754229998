use Rattle.std.proofs.Common.{◌∙◌}
use Rattle.dav_walks.proofs.steps.PiecesWritten.{stays_pours, still_live}
use Rattle.dav_methods.proofs.tables.PutBehindOpening.{put_ends, put_leaves}
use Rattle.dav_methods.proofs.putting.put_body.Goals as goal

pub file_close-requires : goal.file_close-requires
file_close-requires g c = still_live g.S.GuardedFileSystem.view _ _ _ _
    (stays_pours g.S.GuardedFileSystem.view _ _ _ _ _ _ _ _ c.pour-ended.ensures.pours) c.in-Ok.ensures.stays.keeps.live

pub returns-clause-table : goal.returns-clause-table
returns-clause-table g c = put_ends g.S.GuardedFileSystem.view _ _ c.args.path.now c.args.outcome _ _ _ _ _ _ _ _ _ _ _ c.put_options.ensures
    c.in-Ok.ensures.done c.in-Ok.ensures.stays.keeps c.pour-ended.ensures.pours c.file_close.ensures c.answer.ensures

pub returns-clause-stays : goal.returns-clause-stays
returns-clause-stays g c =
    let poured = stays_pours g.S.GuardedFileSystem.view _ _ _ _ _ _ _ _ c.pour-ended.ensures.pours in
    record {
      keeps = put_leaves g.S.GuardedFileSystem.view g.S.File.DavFile.view.writes c.args.credentials.now _ _ _ _ _ _ _ c.in-Ok.ensures.stays.keeps poured c.file_close.ensures;
      loan = c.file_close.ensures.lent.loan ∙ (poured.loan ∙ c.in-Ok.ensures.stays.loan);
    }
