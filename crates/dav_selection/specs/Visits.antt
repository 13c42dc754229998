-- What is done with a resource that was asked for.
use Rattle.std.specs.Prelude.{◌≡◌, ◌++◌, ℕ, List, Bool, false, Option, Result, Ok, Err}
use Rattle.std.specs.Option.{is_some}
use Rattle.dav_report.specs.declared.answer.Record.{Record}
use Rattle.dav_report.specs.declared.error.ReportError.{ReportError}
use Rattle.dav_report.specs.declared.error.ReportError.TheVariants as error
use Rattle.dav_selection.specs.declared.resource.Resource.{Resource}
use Rattle.dav_selection.specs.declared.resource.Unread.{Unread}
use Rattle.dav_selection.specs.declared.resource.Unread.TheVariants.{Unsaid, Refused, NoMemory}
use Rattle.dav_selection.specs.declared.wanted.Wanted.{Wanted}
use Rattle.dav_core.specs.DavPath.{WebPath}
use Rattle.dav_selection.specs.Answered.{Answer, given}
use Rattle.dav_selection.specs.Reports.{LinksAsked, Sought}
use Rattle.dav_selection.specs.Taken.{taken as text_taken}

-- what a query asks, and what a multiget does
abbrev pub sought : WebPath → Option ℕ → Wanted → Sought
sought dir limit wanted = record { dir = dir; limit = limit; taken = text_taken wanted }

abbrev pub links_asked : List ℕ → List (List ℕ) → Wanted → LinksAsked
links_asked prefix hrefs wanted = record { prefix = prefix; hrefs = hrefs; taken = text_taken wanted }

-- whether a resource gave a record, or why it wasn't read
abbrev pub added : (List ℕ → Option (List ℕ)) → Result Resource Unread → Result Bool Unread
added taken (Ok r) = Ok (is_some (taken r.content))
added taken (Err e) = Err e

-- its record stands behind the others
pub record Adds
    (taken : List ℕ → Option (List ℕ)) (a : Answer)
    (old : List Record) (result : Result Bool Unread) (new : List Record)
    : Type 0 where
  pub answer : result ≡ added taken a.got
  pub records : new ≡ old ++ given taken a.path a.got

-- a query goes on behind a resource that was read or is passed over
abbrev pub passed : Result Bool Unread → Result Unit ReportError
passed (Ok b) = Ok tt
passed (Err Refused) = Ok tt
passed (Err (Unsaid e)) = Err (error.Fs e)
passed (Err NoMemory) = Err error.NoMemory

-- whether a link gave a record: a resource that isn't read gives none, and only want of memory ends a multiget
abbrev pub followed_by : Result Bool Unread → Result Bool ReportError
followed_by (Ok b) = Ok b
followed_by (Err Refused) = Ok false
followed_by (Err (Unsaid e)) = Ok false
followed_by (Err NoMemory) = Err error.NoMemory
