-- How the program ends, by what was answered.
use Rattle.std.specs.Prelude.{◌≡◌, ◌⊎◌, ℕ, Bool, true, false, cond, Result, Ok, Err}
use Rattle.dav_core.specs.declared.dav_error.DavError.{DavError}
use Rattle.dav_core.specs.declared.dav_error.DavError.TheVariants.{Fs}
use Rattle.dav_core.specs.declared.error.FsError.TheVariants.{GeneralFailure}
use Rattle.dav_core.specs.Statuses.{lacks_memory, status_of}
use Rattle.dav_model.specs.declared.outcome.Outcome.{Outcome}
use Rattle.dav_put.specs.declared.ending.Ending.{Ending}
use Rattle.dav_put.specs.declared.ending.Ending.TheVariants as ends
use Rattle.dav_put.specs.declared.storing.Stop.{Stop}
use Rattle.dav_put.specs.declared.storing.Stop.TheVariants.{Refused, SourceFailed, TooMuch}
use Rattle.dav_upload.specs.declared.error.UploadError.{UploadError}
use Rattle.dav_upload.specs.declared.error.UploadError.TheVariants.{Busy, Dav, Hidden, NoMemory}

-- the store met a fault
abbrev pub is_failure : DavError → Bool
is_failure (Fs GeneralFailure) = true
is_failure e = false

-- A fault of the store is one of the disk, and any other refusal has its status.
abbrev pub ending_by : DavError → Ending
ending_by e = cond (lacks_memory e) ends.NoMemory (cond (is_failure e) ends.DiskFailed (ends.Refused (status_of e)))

abbrev pub ending_of : UploadError → Ending
ending_of (Dav e) = ending_by e
ending_of (Busy name) = ends.Busy
ending_of Hidden = ends.Refused 403
ending_of NoMemory = ends.NoMemory

-- A source that gave more pieces than are counted is told as one that failed.
abbrev pub ending_for : Result Outcome Stop → Ending
ending_for (Ok outcome) = ends.Done
ending_for (Err SourceFailed) = ends.SourceFailed
ending_for (Err TooMuch) = ends.SourceFailed
ending_for (Err (Refused e)) = ending_of e

abbrev pub ending_swept : Result ℕ UploadError → Ending
ending_swept (Ok count) = ends.Done
ending_swept (Err e) = ending_of e

-- the status of the program
abbrev pub exit_of : Ending → ℕ
exit_of ends.Done = 0
exit_of (ends.Refused status) = 1
exit_of ends.Busy = 1
exit_of ends.Words = 2
exit_of ends.SourceFailed = 3
exit_of ends.DiskFailed = 5
exit_of ends.NoFolder = 8
exit_of ends.NoMemory = 101

-- how the program ends where its words say nothing
abbrev pub IsUnsaid : Ending → Type 0
IsUnsaid ending = (ending ≡ ends.Words) ⊎ (ending ≡ ends.NoMemory)
