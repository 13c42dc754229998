use Rattle.dav_upload.proofs.Kept.{unseen_same}
use Rattle.dav_upload.proofs.Stands.{other_stands, stands_counted}
use Rattle.dav_upload.proofs.laws.uploads_stand_on.Goals as goal

pub returns-clause-edits : goal.returns-clause-edits
returns-clause-edits c = λ shown own live then v w u others s ne kept same bytes fresh.
    other_stands shown own live then v w others u s ne kept (unseen_same v w s.held.number same) bytes fresh

pub returns-clause-counted : goal.returns-clause-counted
returns-clause-counted c = stands_counted
