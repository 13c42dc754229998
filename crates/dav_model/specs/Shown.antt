-- What a store shows, as far as answers speak of it.
use Rattle.std.specs.Prelude.{◌≡◌, List, true, Result, Ok, Err, IfSome}
use Rattle.std.specs.List.{list_all, AllByRecursion}
use Rattle.dav_core.specs.declared.error.FsError.{FsError}
use Rattle.dav_core.specs.declared.member.Member.{Member}
use Rattle.dav_core.specs.DavPath.{WebPath, is_printable}
use Rattle.dav_core.specs.Info.{IsInYears}
use Rattle.dav_core.specs.Errors.{CouldRefuse}
use Rattle.dav_core.specs.Tags.{HasTagBytes}
use Rattle.dav_page.specs.Listed.{HasPlainName}
use Rattle.dav_model.specs.Head.{Stood}

-- What a look at a path gives, what opening it for reading gives, and what a listing of it gives. These are functions
-- apart: a name may be looked at and forbidden to open, and a store that finds names by a memory may find two of its
-- calls at two places.
pub record Shown : Type 0 where
  pub looked : WebPath → Result Stood FsError
  pub opened : WebPath → Result Stood FsError
  pub listed : WebPath → Result (List Member) FsError

-- What could stand anywhere: a tag has the bytes of a tag, a time can be shown, and an address that a client is sent to
-- in its place is printable ASCII.
pub record CouldStand (stood : Stood) : Type 0 where
  pub tag : HasTagBytes stood.tag
  pub modified : IsInYears stood.modified
  pub address : IfSome stood.address (λ text. list_all is_printable text ≡ true)

abbrev pub Could : {A : Type 0} → (A → Type 0) → Result A FsError → Type 0
Could P (Ok a) = P a
Could P (Err e) = CouldRefuse e

-- What the store of a disk could show, whatever its disk holds. Members have plain names.
pub record CouldShow (shown : Shown) : Type 0 where
  pub looked : (path : WebPath) → Could CouldStand (shown.looked path)
  pub opened : (path : WebPath) → Could CouldStand (shown.opened path)
  pub listed : (path : WebPath) → Could (AllByRecursion HasPlainName) (shown.listed path)
