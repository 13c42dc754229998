use Rattle.upload_rows.specs.Slots.{Under, file_of, upload_of}
use Rattle.upload_rows.proofs.play.Given as goal

abbrev pub invariant-calls : goal.invariant-calls
invariant-calls g l =
    let handle = g.S.GuardedFileSystem.view.file.handle in
    Under (upload_of handle l.one) (upload_of handle l.other) (file_of handle l.reader) (g.S.GuardedFileSystem.view.state l.store)
