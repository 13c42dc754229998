-- What the storing of an input makes of the shown world: all of it, or nothing.
use Rattle.std.specs.Prelude.{◌≡◌, ◌⊎◌, ℕ, List, Result, Ok, Err, false, true}
use Rattle.dav_core.specs.Path.{Names, parent_of}
use Rattle.dav_core.specs.Tree.{is_linked}
use Rattle.dav_core.specs.World.{World}
use Rattle.dav_model.specs.declared.outcome.Outcome.{Outcome}
use Rattle.dav_put.specs.declared.ending.Ending.{Ending}
use Rattle.dav_put.specs.declared.ending.Ending.TheVariants.{DiskFailed, Done, NoMemory}
use Rattle.dav_put.specs.declared.storing.Stop.{Stop}
use Rattle.dav_put.specs.declared.storing.Stop.TheVariants.{Refused, SourceFailed, TooMuch}
use Rattle.dav_upload.specs.declared.error.UploadError.{UploadError}
use Rattle.dav_upload.specs.Shown.{IsCommitted, SameShown}
use Rattle.dav_upload.specs.Steps.{HasClearNames, is_fault}

-- No link stands on the way to the target, or to the hidden names beside it.
pub record IsOpenTo (w : World) (target : Names) : Type 0 where
  pub way : is_linked w.tree target ≡ false
  pub names : HasClearNames w (parent_of target)

-- At Ok the target is a file of the bytes that the source had. Else what is shown is as it was; only where the store met
-- a fault, or memory was wanting, the last call may have been made, which moves the file to its place.
abbrev pub StoredWhole : Names → List ℕ → Result Outcome Stop → World → World → Type 0
StoredWhole target bytes (Ok outcome) v w = IsCommitted v target bytes w
StoredWhole target bytes (Err (Refused e)) v w = SameShown v w ⊎ ((is_fault e ≡ true) × IsCommitted v target bytes w)
StoredWhole target bytes (Err SourceFailed) v w = SameShown v w
StoredWhole target bytes (Err TooMuch) v w = SameShown v w

-- The same by how the program ends.
abbrev pub EndsWhole : Names → List ℕ → Ending → World → World → Type 0
EndsWhole target bytes Done v w = IsCommitted v target bytes w
EndsWhole target bytes DiskFailed v w = SameShown v w ⊎ IsCommitted v target bytes w
EndsWhole target bytes NoMemory v w = SameShown v w ⊎ IsCommitted v target bytes w
EndsWhole target bytes ending v w = SameShown v w

-- How the program may end where an upload was refused: a fault of the store, or want of memory, is told as one.
abbrev pub EndedBy : UploadError → Ending → Type 0
EndedBy e Done = ⊥
EndedBy e DiskFailed = Unit {0}
EndedBy e NoMemory = Unit {0}
EndedBy e ending = is_fault e ≡ false
