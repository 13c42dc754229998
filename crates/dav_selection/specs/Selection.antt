-- The two reports: what is answered by what the request asks for.
use Rattle.std.specs.Prelude.{◌≡◌, ℕ, List, [], Option, None, Some, Result, Ok, Err}
use Rattle.dav_core.specs.DavPath.{WebPath}
use Rattle.dav_store.specs.View.{View, Listings}
use Rattle.dav_report.specs.declared.answer.Record.{Record}
use Rattle.dav_report.specs.declared.answer.Report.{Report}
use Rattle.dav_report.specs.declared.caldav.query.CalDavReportType.{CalDavReportType}
use Rattle.dav_report.specs.declared.caldav.query.CalDavReportType.TheVariants.{CalendarQuery, CalendarMultiget, FreeBusyQuery}
use Rattle.dav_report.specs.declared.carddav.query.CardDavReportType.{CardDavReportType}
use Rattle.dav_report.specs.declared.carddav.query.CardDavReportType.TheVariants.{AddressBookQuery, AddressBookMultiget}
use Rattle.dav_report.specs.declared.error.ReportError.{ReportError}
use Rattle.dav_report.specs.declared.error.ReportError.TheVariants.{BadRequest, FreeBusy}
use Rattle.dav_selection.specs.Reports.{Follows, LinksAsked, Queries, Sought}
use Rattle.dav_selection.specs.Taken.{calendars, cards}

-- what a request asks of a store: resources of a directory, or those that links lead to; or why it is refused at once
pub data Selection : Type 0 where
  queries : Sought → Selection
  follows : LinksAsked → Selection
  refuses : ReportError → Selection

-- A calendar request. A multiget asks for every calendar object that its links lead to.
abbrev pub calendar_selection : WebPath → List ℕ → Option CalDavReportType → Selection
calendar_selection path prefix None = refuses BadRequest
calendar_selection path prefix (Some (CalendarQuery q)) =
    queries (record { dir = path; limit = None; taken = calendars q.comp_filter })
calendar_selection path prefix (Some (CalendarMultiget hrefs)) =
    follows (record { prefix = prefix; hrefs = hrefs; taken = calendars None })
calendar_selection path prefix (Some (FreeBusyQuery range)) = refuses FreeBusy

-- An address book request likewise.
abbrev pub address_selection : WebPath → List ℕ → Option CardDavReportType → Selection
address_selection path prefix None = refuses BadRequest
address_selection path prefix (Some (AddressBookQuery q)) =
    queries (record { dir = path; limit = q.limit; taken = cards q.prop_filter })
address_selection path prefix (Some (AddressBookMultiget hrefs)) =
    follows (record { prefix = prefix; hrefs = hrefs; taken = cards None })

-- a query's records as a report; nothing that it asks for is missing
abbrev pub of_records : Result (List Record) ReportError → Result Report ReportError
of_records (Ok records) = Ok (record { records = records; missing = [] })
of_records (Err e) = Err e

module _ {S C F L E : Type 0} (view : View S C F) (lists : Listings S C L E) (c : C) where
  -- The report over the calls of a store. (Want of memory is answered beside it.)
  abbrev pub Reports : Selection → S → Result Report ReportError → S → Type 0
  Reports (queries q) s result t =
      (given : Result (List Record) ReportError) × Queries view lists c q s given t × (result ≡ of_records given)
  Reports (follows asked) s result t = Follows view c asked s result t
  Reports (refuses e) s result t = (t ≡ s) × (result ≡ Err e)
