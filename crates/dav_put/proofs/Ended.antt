-- How the program ends by how a storing did.
use Rattle.std.proofs.Common.{◌≡◌, ◌⊎◌, inl, inr, ℕ, List, Bool, true, false, cond, Err, refl, sym, subst, ◌∙◌}
use Rattle.dav_core.specs.declared.dav_error.DavError.{DavError}
use Rattle.dav_core.specs.declared.dav_error.DavError.TheVariants as dav
use Rattle.dav_core.specs.declared.error.FsError.TheVariants as fs
use Rattle.dav_core.specs.Path.{Names}
use Rattle.dav_core.specs.Statuses.{lacks_memory, status_of}
use Rattle.dav_core.specs.World.{World}
use Rattle.dav_upload.specs.declared.error.UploadError.{UploadError}
use Rattle.dav_upload.specs.declared.error.UploadError.TheVariants as upload
use Rattle.dav_upload.specs.declared.error.UploadError.TheVariants.{Dav}
use Rattle.dav_upload.specs.Shown.{IsCommitted, SameShown}
use Rattle.dav_upload.specs.Steps.{is_fault}
use Rattle.dav_upload.proofs.Moving.{never}
use Rattle.dav_put.specs.declared.ending.Ending.{Ending}
use Rattle.dav_put.specs.declared.ending.Ending.TheVariants.{DiskFailed, Done, NoMemory, Refused as RefusedWith}
use Rattle.dav_put.specs.declared.storing.Stop.TheVariants.{Refused}
use Rattle.dav_put.specs.Ending.{ending_by, ending_of, is_failure}
use Rattle.dav_put.specs.Whole.{EndedBy, EndsWhole, StoredWhole}

only_same : (e : UploadError) (target : Names) (bytes : List ℕ) (v w : World) → StoredWhole target bytes (Err (Refused e)) v w → is_fault e ≡ false → SameShown v w
only_same e target bytes v w (inl same) none = same
only_same e target bytes v w (inr (fault, is)) none = never (is_fault e) fault none

either : (e : UploadError) (target : Names) (bytes : List ℕ) (v w : World) → StoredWhole target bytes (Err (Refused e)) v w → SameShown v w ⊎ IsCommitted v target bytes w
either e target bytes v w (inl same) = inl same
either e target bytes v w (inr (fault, is)) = inr is

ends_so : (e : UploadError) (ending : Ending) (target : Names) (bytes : List ℕ) (v w : World) → EndedBy e ending → StoredWhole target bytes (Err (Refused e)) v w → EndsWhole target bytes ending v w
ends_so e Done target bytes v w ended stored = absurd ended
ends_so e DiskFailed target bytes v w ended stored = either e target bytes v w stored
ends_so e NoMemory target bytes v w ended stored = either e target bytes v w stored
ends_so e (RefusedWith status) target bytes v w ended stored = only_same e target bytes v w stored ended
ends_so e other target bytes v w ended stored = only_same e target bytes v w stored ended

-- ---- the ending of a refusal

fault_of : (d : DavError) → is_fault (Dav d) ≡ is_failure d
fault_of (dav.Status code) = refl
fault_of (dav.StatusClose code) = refl
fault_of (dav.Path e) = refl
fault_of dav.Body = refl
fault_of dav.UnknownDavMethod = refl
fault_of dav.NoMemory = refl
fault_of (dav.Fs fs.NotFound) = refl
fault_of (dav.Fs other) = refl

ended_by_store : (d : DavError) → EndedBy (Dav d) (ending_by d)
ended_by_store d = by (lacks_memory d) (is_failure d) refl
  where
    by : (a b : Bool) → is_failure d ≡ b → EndedBy (Dav d) (cond a NoMemory (cond b DiskFailed (RefusedWith (status_of d))))
    by true b e = tt
    by false true e = tt
    by false false e = fault_of d ∙ e

ended_as : (e : UploadError) → EndedBy e (ending_of e)
ended_as (Dav d) = ended_by_store d
ended_as (upload.Busy name) = refl
ended_as upload.Hidden = refl
ended_as upload.NoMemory = tt

pub ends_as : (e : UploadError) (ending : Ending) (target : Names) (bytes : List ℕ) (v w : World) → ending ≡ ending_of e → StoredWhole target bytes (Err (Refused e)) v w → EndsWhole target bytes ending v w
ends_as e ending target bytes v w is stored = subst (λ z. EndsWhole target bytes z v w) (sym is) (ends_so e (ending_of e) target bytes v w (ended_as e) stored)
