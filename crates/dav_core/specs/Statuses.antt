-- The statuses of refusals. Want of memory is an error value and no answer: what asks for a status asks first that
-- `lacks_memory` is false, so the 500 on the lines of want of memory is never answered.
use Rattle.std.specs.Prelude.{ℕ, Bool, true, false}
use Rattle.dav_core.specs.declared.dav_error.DavError.{DavError}
use Rattle.dav_core.specs.declared.dav_error.DavError.TheVariants as dav
use Rattle.dav_core.specs.declared.error.FsError.{FsError}
use Rattle.dav_core.specs.declared.error.FsError.TheVariants as fs
use Rattle.dav_core.specs.declared.parse_error.ParseError.{ParseError}
use Rattle.dav_core.specs.declared.parse_error.ParseError.TheVariants as parse

abbrev pub path_status : ParseError → ℕ
path_status parse.InvalidPath = 400
path_status parse.ForbiddenPath = 403
path_status parse.PrefixMismatch = 404
path_status parse.NotText = 404
path_status parse.NoMemory = 500

abbrev pub fs_status : FsError → ℕ
fs_status fs.NotFound = 404
fs_status fs.Forbidden = 403
fs_status fs.Exists = 405
fs_status fs.GeneralFailure = 500
fs_status fs.NotImplemented = 501
fs_status fs.InsufficientStorage = 507
fs_status fs.LoopDetected = 508
fs_status fs.PathTooLong = 414
fs_status fs.TooLarge = 413
fs_status fs.IsRemote = 502
fs_status fs.NoMemory = 500

abbrev pub status_of : DavError → ℕ
status_of (dav.Status code) = code
status_of (dav.StatusClose code) = code
status_of (dav.Path fault) = path_status fault
status_of (dav.Fs fault) = fs_status fault
status_of dav.Body = 500
status_of dav.UnknownDavMethod = 501
status_of dav.NoMemory = 500

abbrev pub closes : DavError → Bool
closes (dav.Status code) = false
closes (dav.StatusClose code) = true
closes (dav.Path fault) = false
closes (dav.Fs fault) = false
closes dav.Body = false
closes dav.UnknownDavMethod = true
closes dav.NoMemory = false

abbrev pub path_lacks_memory : ParseError → Bool
path_lacks_memory parse.InvalidPath = false
path_lacks_memory parse.ForbiddenPath = false
path_lacks_memory parse.PrefixMismatch = false
path_lacks_memory parse.NotText = false
path_lacks_memory parse.NoMemory = true

abbrev pub fs_lacks_memory : FsError → Bool
fs_lacks_memory fs.NotFound = false
fs_lacks_memory fs.Forbidden = false
fs_lacks_memory fs.Exists = false
fs_lacks_memory fs.GeneralFailure = false
fs_lacks_memory fs.NotImplemented = false
fs_lacks_memory fs.InsufficientStorage = false
fs_lacks_memory fs.LoopDetected = false
fs_lacks_memory fs.PathTooLong = false
fs_lacks_memory fs.TooLarge = false
fs_lacks_memory fs.IsRemote = false
fs_lacks_memory fs.NoMemory = true

-- whether an error is or holds want of memory, which has no status
abbrev pub lacks_memory : DavError → Bool
lacks_memory (dav.Status code) = false
lacks_memory (dav.StatusClose code) = false
lacks_memory (dav.Path fault) = path_lacks_memory fault
lacks_memory (dav.Fs fault) = fs_lacks_memory fault
lacks_memory dav.Body = false
lacks_memory dav.UnknownDavMethod = false
lacks_memory dav.NoMemory = true

-- what a path's fault and a store's refusal become
abbrev pub of_path : ParseError → DavError
of_path parse.NoMemory = dav.NoMemory
of_path parse.InvalidPath = dav.Path parse.InvalidPath
of_path parse.ForbiddenPath = dav.Path parse.ForbiddenPath
of_path parse.PrefixMismatch = dav.Path parse.PrefixMismatch
of_path parse.NotText = dav.Path parse.NotText

abbrev pub of_fs : FsError → DavError
of_fs fs.NoMemory = dav.NoMemory
of_fs fs.NotFound = dav.Fs fs.NotFound
of_fs fs.Forbidden = dav.Fs fs.Forbidden
of_fs fs.Exists = dav.Fs fs.Exists
of_fs fs.GeneralFailure = dav.Fs fs.GeneralFailure
of_fs fs.NotImplemented = dav.Fs fs.NotImplemented
of_fs fs.InsufficientStorage = dav.Fs fs.InsufficientStorage
of_fs fs.LoopDetected = dav.Fs fs.LoopDetected
of_fs fs.PathTooLong = dav.Fs fs.PathTooLong
of_fs fs.TooLarge = dav.Fs fs.TooLarge
of_fs fs.IsRemote = dav.Fs fs.IsRemote
