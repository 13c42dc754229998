-- Worked rows of the lines: what each method that writes is refused with by what a look found.
use Rattle.std.specs.Prelude.{◌≡◌, [], ◌∷◌, codes, true, false, None, Result, Ok, Err, refl}
use Rattle.http_header.specs.FieldValue.{plain_value}
use Rattle.dav_core.specs.declared.dav_error.DavError.TheVariants.{Fs, NoMemory, Status, StatusClose}
use Rattle.dav_core.specs.declared.error.FsError.{FsError}
use Rattle.dav_core.specs.declared.error.FsError.TheVariants as fs
use Rattle.dav_core.specs.declared.tree.Kind.{Kind}
use Rattle.dav_core.specs.declared.tree.Kind.TheVariants.{Dir, File, Link}
use Rattle.dav_core.specs.Info.{Info}
use Rattle.dav_model.specs.Conditions.{Fields}
use Rattle.dav_walks.specs.Lines.{above}
use Rattle.dav_methods.specs.Lines.{done_over, found_or_failed, made, may_delete, may_make, may_put, no_parent, silent, unless}

abbrev there : Kind → Info
there kind = record { kind = kind; len = 0; modified = None; created = None; accessed = None; changed = None; exec = None; tag = None }

abbrev nothing : Result Info FsError
nothing = Err fs.NotFound

-- what must stand there
abbrev if_there : Fields
if_there = (codes "if-match", plain_value (codes "*") ∷ []) ∷ []

-- nothing may stand there
abbrev if_new : Fields
if_new = (codes "if-none-match", plain_value (codes "*") ∷ []) ∷ []

make_over_file : may_make [] (Ok (there File)) ≡ Err (Status 405)
make_over_file = refl

make_over_dir : may_make if_there (Ok (there Dir)) ≡ Err (Status 405)
make_over_dir = refl

make_new : may_make [] nothing ≡ Ok tt
make_new = refl

make_unmet : may_make if_there nothing ≡ Err (Status 412)
make_unmet = refl

make_refused : may_make if_there (Err fs.Forbidden) ≡ Err (Fs fs.Forbidden)
make_refused = refl

make_short : may_make [] (Err fs.NoMemory) ≡ Err NoMemory
make_short = refl

calendar_over : found_or_failed (Ok (there Link)) ≡ Err (StatusClose 405)
calendar_over = refl

calendar_failed : found_or_failed (Err fs.GeneralFailure) ≡ Err (Fs fs.GeneralFailure)
calendar_failed = refl

-- a file with a final slash
calendar_forbidden : found_or_failed (Err fs.Forbidden) ≡ Ok tt
calendar_forbidden = refl

parent_file : no_parent (Ok (there File)) ≡ Err (Status 409)
parent_file = refl

parent_missing : no_parent nothing ≡ Err (Status 409)
parent_missing = refl

parent_failed : no_parent (Err fs.GeneralFailure) ≡ Err (Fs fs.GeneralFailure)
parent_failed = refl

put_over_dir : may_put if_new (Ok (there Dir)) ≡ Err (Status 405)
put_over_dir = refl

put_over_file : unless (may_put [] (Ok (there File))) (done_over (Ok (there File))) ≡ Ok silent
put_over_file = refl

put_over_unmet : may_put if_new (Ok (there File)) ≡ Err (Status 412)
put_over_unmet = refl

put_new : unless (may_put if_new nothing) (done_over nothing) ≡ Ok made
put_new = refl

delete_missing : may_delete if_there nothing ≡ Err (Fs fs.NotFound)
delete_missing = refl

delete_unmet : may_delete if_new (Ok (there File)) ≡ Err (Status 412)
delete_unmet = refl

above_file : above (record { prefix = codes "p" ∷ []; names = codes "d" ∷ codes "f" ∷ []; slash = false }) ≡ record { prefix = codes "p" ∷ []; names = codes "d" ∷ []; slash = true }
above_file = refl
