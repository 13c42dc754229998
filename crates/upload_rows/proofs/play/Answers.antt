use Rattle.std.proofs.Common.{ap}
use Rattle.upload_rows.specs.Slots.{file_of, upload_of}
use Rattle.upload_rows.proofs.SlotsGo.{first_goes, same_under, second_goes, third_goes, under_kept}
use Rattle.upload_rows.proofs.play.Goals.{in-None+in-None-reading, in-None+in-Some-reading, in-Some+else-said, in-Some+then-said}
use Rattle.upload_rows.proofs.play.Goals as goal

pub calls-preserved : goal.calls-preserved
calls-preserved g c =
    let handle = g.S.GuardedFileSystem.view.file.handle in
    let state = g.S.GuardedFileSystem.view.state in
    elim c.match-call.branch [
      | in-Some+then-said w ↦
          same_under _ _ _ _ _ _ _ _ (ap (upload_of handle) w.one-is) (ap (upload_of handle) w.other-is) (ap (file_of handle) w.reader-is) (ap state w.store-is)
          (second_goes _ _ _ _ _ _ c.calls.invariant w.step-other.ensures)
      | in-Some+else-said w ↦
          same_under _ _ _ _ _ _ _ _ (ap (upload_of handle) w.one-is) (ap (upload_of handle) w.other-is) (ap (file_of handle) w.reader-is) (ap state w.store-is)
          (first_goes _ _ _ _ _ _ c.calls.invariant w.step-one.ensures)
      | in-None+in-Some-reading w ↦
          same_under _ _ _ _ _ _ _ _ (ap (upload_of handle) w.one-is) (ap (upload_of handle) w.other-is) (ap (file_of handle) w.reader-is) (ap state w.store-is)
          (third_goes _ _ _ _ _ _ c.calls.invariant w.read_on-reader.ensures)
      | in-None+in-None-reading w ↦
          same_under _ _ _ _ _ _ _ _ (ap (upload_of handle) w.one-is) (ap (upload_of handle) w.other-is) (ap (file_of handle) w.reader-is) (ap state w.store-is)
          (under_kept _ _ _ _ _ c.calls.invariant w.call-in-None-reading.ensures)
    ]
