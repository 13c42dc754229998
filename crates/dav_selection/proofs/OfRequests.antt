-- A query that a request asks for is one of the directory at its path.
use Rattle.std.proofs.Common.{ℕ, List, Option, None, Some, refl}
use Rattle.dav_core.specs.DavPath.{WebPath}
use Rattle.dav_report.specs.declared.caldav.query.CalDavReportType.{CalDavReportType}
use Rattle.dav_report.specs.declared.caldav.query.CalDavReportType.TheVariants.{CalendarQuery, CalendarMultiget, FreeBusyQuery}
use Rattle.dav_report.specs.declared.carddav.query.CardDavReportType.{CardDavReportType}
use Rattle.dav_report.specs.declared.carddav.query.CardDavReportType.TheVariants.{AddressBookQuery, AddressBookMultiget}
use Rattle.dav_selection.specs.Selection.{address_selection, calendar_selection}
use Rattle.dav_selection.specs.Told.{IsOf}

pub of_calendars : (path : WebPath) (prefix : List ℕ) (request : Option CalDavReportType) → IsOf path (calendar_selection path prefix request)
of_calendars path prefix None = tt
of_calendars path prefix (Some (CalendarQuery q)) = refl
of_calendars path prefix (Some (CalendarMultiget hrefs)) = tt
of_calendars path prefix (Some (FreeBusyQuery range)) = tt

pub of_address_books : (path : WebPath) (prefix : List ℕ) (request : Option CardDavReportType) → IsOf path (address_selection path prefix request)
of_address_books path prefix None = tt
of_address_books path prefix (Some (AddressBookQuery q)) = refl
of_address_books path prefix (Some (AddressBookMultiget hrefs)) = tt
