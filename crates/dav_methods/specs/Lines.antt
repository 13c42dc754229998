-- The answers of the methods that write, and the lines of their tables (RFC 4918, sections 9.3, 9.6, 9.7 and 9.8).
use Rattle.std.specs.Prelude.{ℕ, List, [], ◌∷◌, codes, Bool, true, false, not, Option, None, Some, Result, Ok, Err}
use Rattle.dav_core.specs.declared.dav_error.DavError.{DavError}
use Rattle.dav_core.specs.declared.dav_error.DavError.TheVariants as dav
use Rattle.dav_core.specs.declared.error.FsError.{FsError}
use Rattle.dav_core.specs.declared.error.FsError.TheVariants as fs
use Rattle.dav_core.specs.declared.method.DavMethod.{DavMethod}
use Rattle.dav_core.specs.declared.method.DavMethod.TheVariants.{Delete, MkCol, Put}
use Rattle.dav_core.specs.Info.{Info}
use Rattle.dav_core.specs.Statuses.{of_fs}
use Rattle.dav_core.specs.Tree.{is_dir}
use Rattle.dav_model.specs.declared.outcome.Outcome.{Outcome}
use Rattle.dav_model.specs.Conditions.{Fields, condition_of}
use Rattle.dav_model.specs.Head.{field}
use Rattle.dav_walks.specs.Lines.{Line, fails_when}

-- what is answered, or the error
abbrev pub Given : Type 0
Given = Result Outcome DavError

-- the answer where something was made: it says that it has no body
abbrev pub made : Outcome
made = record { status = 201; fields = field (codes "content-length") (codes "0") ∷ [] }

-- the answer where nothing is left to say: it has no body, and no field
abbrev pub silent : Outcome
silent = record { status = 204; fields = [] }

-- ---- what a look found

abbrev pub is_there : Result Info FsError → Bool
is_there (Ok info) = true
is_there (Err e) = false

abbrev pub is_dir_there : Result Info FsError → Bool
is_dir_there (Ok info) = is_dir info.kind
is_dir_there (Err e) = false

abbrev pub info_there : Result Info FsError → Option Info
info_there (Ok info) = Some info
info_there (Err e) = None

-- the answer of what was put at a path, by what stood there
abbrev pub done_over : Result Info FsError → Outcome
done_over (Ok info) = silent
done_over (Err e) = made

-- ---- lines

-- The first line that fits decides.
abbrev pub first_of : List Line → Line
first_of [] = Ok tt
first_of (Ok x ∷ lines) = first_of lines
first_of (Err e ∷ lines) = Err e

-- the answer where no line fits
abbrev pub unless : Line → Outcome → Given
unless (Ok x) outcome = Ok outcome
unless (Err e) outcome = Err e

-- The look was refused.
abbrev pub refused : Result Info FsError → Line
refused (Ok info) = Ok tt
refused (Err e) = Err (of_fs e)

-- The look was refused, but not since nothing stands there.
abbrev pub refused_but_missing : Result Info FsError → Line
refused_but_missing (Err fs.NotFound) = Ok tt
refused_but_missing found = refused found

-- No directory was found above. Only a fault, or want of memory, is an error of its own.
abbrev pub no_parent : Result Info FsError → Line
no_parent (Ok info) = fails_when (not (is_dir info.kind)) 409
no_parent (Err fs.GeneralFailure) = Err (dav.Fs fs.GeneralFailure)
no_parent (Err fs.NoMemory) = Err dav.NoMemory
no_parent (Err e) = Err (dav.Status 409)

-- the line of a status
abbrev pub with_status : Option ℕ → Line
with_status None = Ok tt
with_status (Some status) = Err (dav.Status status)

-- A precondition of the request isn't met by what was found.
abbrev pub unmet : DavMethod → Fields → Result Info FsError → Line
unmet method fields found = with_status (condition_of method fields (info_there found))

-- Something was found: the connection closes. Any refusal but a fault, or want of memory, is passed over.
abbrev pub found_or_failed : Result Info FsError → Line
found_or_failed (Ok info) = Err (dav.StatusClose 405)
found_or_failed (Err fs.GeneralFailure) = Err (dav.Fs fs.GeneralFailure)
found_or_failed (Err fs.NoMemory) = Err dav.NoMemory
found_or_failed (Err e) = Ok tt

-- What was found lets a MKCOL go on.
abbrev pub may_make : Fields → Result Info FsError → Line
may_make fields found = first_of (fails_when (is_there found) 405 ∷ refused_but_missing found
    ∷ unmet MkCol fields found ∷ [])

-- What was found lets a PUT go on.
abbrev pub may_put : Fields → Result Info FsError → Line
may_put fields found = first_of (refused_but_missing found ∷ fails_when (is_dir_there found) 405
    ∷ unmet Put fields found ∷ [])

-- What was found lets a DELETE go on.
abbrev pub may_delete : Fields → Result Info FsError → Line
may_delete fields found = first_of (refused found ∷ unmet Delete fields found ∷ [])
