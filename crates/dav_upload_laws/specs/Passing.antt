-- Where an upload isn't refused: over a disk that refused nothing.
use Rattle.std.specs.Prelude.{◌≡◌, [], ◌∷◌, not, None, Result, Ok, Err}
use Rattle.dav_core.specs.declared.method.DavMethod.TheVariants.{Put}
use Rattle.dav_core.specs.DavPath.{WebPath}
use Rattle.dav_core.specs.World.{World}
use Rattle.dav_model.specs.Conditions.{Fields}
use Rattle.dav_model.specs.Plans.{first, has_parent, is_dir_found, refused_there, stands, unmet, when}
use Rattle.dav_model.specs.Rules.{Rules}
use Rattle.dav_upload.specs.declared.error.UploadError.{UploadError}
use Rattle.dav_upload.specs.declared.error.UploadError.TheVariants.{NoMemory}

-- No line of the table of PUT up to its condition refuses the path.
abbrev pub PassesTable : Rules → World → WebPath → Fields → Type 0
PassesTable rules w path fields = first (
    when path.slash 405
    ∷ when (not (has_parent rules w path)) 409
    ∷ refused_there (stands rules w path)
    ∷ when (is_dir_found (stands rules w path)) 405
    ∷ unmet Put fields (stands rules w path)
    ∷ []) ≡ None

-- It was done, or memory was wanting.
abbrev pub Succeeds : {T : Type 0} → Result T UploadError → Type 0
Succeeds (Ok x) = Unit {0}
Succeeds (Err e) = e ≡ NoMemory
