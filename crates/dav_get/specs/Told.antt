-- The answer of a GET or HEAD over a store that shows what stands at the path: it is right for that, or a fault was
-- met.
use Rattle.std.specs.Prelude.{◌≡◌, ℕ, List, Some, Result, Ok, Err}
use Rattle.dav_io.specs.Counts.{Rose}
use Rattle.dav_core.specs.declared.error.FsError.{FsError}
use Rattle.dav_core.specs.declared.member.Member.{Member}
use Rattle.dav_core.specs.DavPath.{WebPath}
use Rattle.dav_store.specs.Members.{ShowsMembers}
use Rattle.dav_store.specs.Shows.{Shows}
use Rattle.dav_store.specs.Standing.{Standing}
use Rattle.dav_store.specs.View.{View, Listings}
use Rattle.dav_model.specs.Due.{Course, Query, IsRight, course, directing, listing, opening, refusing}
use Rattle.dav_model.specs.Head.{Stood}
use Rattle.dav_model.specs.Shown.{Shown}
use Rattle.dav_get.specs.Right.{IsOfNumber, reply_at}
use Rattle.dav_get.specs.Table.{Given}

-- what stands there, as far as an answer speaks of it
abbrev pub stood_of : Standing → Stood
stood_of there = record {
  kind = there.kind;
  number = there.number;
  len = there.len;
  modified = there.modified;
  tag = there.tag;
  address = there.redirect;
}

abbrev pub found_as : Result Standing FsError → Result Stood FsError
found_as (Ok there) = Ok (stood_of there)
found_as (Err e) = Err e

-- what is shown, by what stands where a path is looked at and where it is opened, and by the members of a directory
abbrev pub shown_as : (WebPath → Result Standing FsError) → (WebPath → Result Standing FsError)
    → (WebPath → Result (List Member) FsError) → Shown
shown_as looked opened listed = record {
  looked = λ path. found_as (looked path);
  opened = λ path. found_as (opened path);
  listed = listed;
}

-- The store shows this at the path that is asked for, and at the one that is opened or listed for what stands there.
pub record ShowsFor {S C F L E : Type 0} (view : View S C F) (lists : Listings S C L E) (s : S) (c : C) (q : Query)
    (looked opened : WebPath → Result Standing FsError) (listed : WebPath → Result (List Member) FsError) : Type 0 where
  pub path : Shows view s c q.path (looked q.path) (opened q.path)
  pub at : (there : Standing) (path : WebPath) → looked q.path ≡ Ok there → course q there.kind ≡ opening path
      → Shows view s c path (looked path) (opened path)
  pub members : (there : Standing) → looked q.path ≡ Ok there → course q there.kind ≡ listing
      → ShowsMembers view lists s c q.path (listed q.path)

-- the number of what is opened
abbrev pub number_in : Result Standing FsError → ℕ
number_in (Ok there) = there.number
number_in (Err e) = 0

abbrev pub number_by : (WebPath → Result Standing FsError) → Course → ℕ
number_by opened (refusing status close) = 0
number_by opened directing = 0
number_by opened (opening path) = number_in (opened path)
number_by opened listing = 0

abbrev pub number_looked : (WebPath → Result Standing FsError) → Query → Result Standing FsError → ℕ
number_looked opened q (Err e) = 0
number_looked opened q (Ok there) = number_by opened (course q there.kind)

abbrev pub number_for : (WebPath → Result Standing FsError) → (WebPath → Result Standing FsError) → Query → ℕ
number_for looked opened q = number_looked opened q (looked q.path)

-- The answer is right for what is looked at and opened, or what may stand in its place where a fault was met; and the
-- body's file is told, under the number of what is opened.
pub record IsRightFor {S C F : Type 0} (view : View S C F) (q : Query)
    (looked opened : WebPath → Result Standing FsError) (listed : WebPath → Result (List Member) FsError) (s : S)
    (result : Given F) (t : S) : Type 0 where
  pub right : IsRight q (shown_as looked opened listed) (Rose (view.state s).faults (view.state t).faults)
      (reply_at q.fields (number_for looked opened q) result)
  pub file : IsOfNumber view (Some (number_for looked opened q)) t result
