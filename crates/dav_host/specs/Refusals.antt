-- What the machine's errors are to the calls of a disk that may change something: a refusal that the call may give, or
-- none where it is a fault. Each call is refused as a look is, or in a way of its own.
use Rattle.std.specs.Prelude.{◌≡◌, ◌⊎◌, Bool, true, false, Option, Some}
use Rattle.std.specs.declared.io.ErrorKind.{ErrorKind}
use Rattle.std.specs.declared.io.ErrorKind.TheVariants as kind
use Rattle.dav_core.specs.declared.handle.DiskError.{DiskError}
use Rattle.dav_core.specs.declared.handle.DiskError.TheVariants.{Exists, IsDir, NotEmpty}
use Rattle.dav_host.specs.Host.{IsWalkRefusal, refusal_of}

-- of an opening, by whether it may change something
abbrev pub open_refusal_of : Bool → ErrorKind → Option DiskError
open_refusal_of true kind.AlreadyExists = Some Exists
open_refusal_of true kind.IsADirectory = Some IsDir
open_refusal_of may error = refusal_of error

abbrev pub IsOpenRefusal : Bool → DiskError → Type 0
IsOpenRefusal true e = IsWalkRefusal e ⊎ (e ≡ Exists) ⊎ (e ≡ IsDir)
IsOpenRefusal false e = IsWalkRefusal e

-- of the making of a directory
abbrev pub make_refusal_of : ErrorKind → Option DiskError
make_refusal_of kind.AlreadyExists = Some Exists
make_refusal_of error = refusal_of error

abbrev pub IsMakeRefusal : DiskError → Type 0
IsMakeRefusal e = IsWalkRefusal e ⊎ (e ≡ Exists)

-- Of the removal of a directory. A machine may say of one with members that something stands there.
abbrev pub take_dir_refusal_of : ErrorKind → Option DiskError
take_dir_refusal_of kind.DirectoryNotEmpty = Some NotEmpty
take_dir_refusal_of kind.AlreadyExists = Some NotEmpty
take_dir_refusal_of error = refusal_of error

abbrev pub IsTakeDirRefusal : DiskError → Type 0
IsTakeDirRefusal e = IsWalkRefusal e ⊎ (e ≡ NotEmpty)

-- of the removal of a file, and of its copy
abbrev pub file_refusal_of : ErrorKind → Option DiskError
file_refusal_of kind.IsADirectory = Some IsDir
file_refusal_of error = refusal_of error

abbrev pub IsFileRefusal : DiskError → Type 0
IsFileRefusal e = IsWalkRefusal e ⊎ (e ≡ IsDir)

-- Of a renaming, by whether it leads into what is renamed. That alone may be an argument that the machine doesn't take.
abbrev pub move_refusal_of : Bool → ErrorKind → Option DiskError
move_refusal_of true kind.InvalidInput = Some NotEmpty
move_refusal_of inside kind.IsADirectory = Some IsDir
move_refusal_of inside error = take_dir_refusal_of error

abbrev pub IsMoveRefusal : DiskError → Type 0
IsMoveRefusal e = IsTakeDirRefusal e ⊎ (e ≡ IsDir)
