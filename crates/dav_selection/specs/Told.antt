-- What a local store shows of a told world by its rules, as a report finds it.
use Rattle.std.specs.Prelude.{◌≡◌, ◌⊎◌, ℕ, List, All, Option, Some, Result, Ok, Err}
use Rattle.dav_core.specs.declared.parse_error.ParseError.{ParseError}
use Rattle.dav_core.specs.DavPath.{WebPath}
use Rattle.dav_core.specs.Grammar.{parsed}
use Rattle.dav_core.specs.World.{World}
use Rattle.dav_local.specs.declared.ways.Ways.{Ways}
use Rattle.dav_local_laws.specs.Ruled.{FindsOnce, HasFreeMembers, IsFree, members_in, opened_in}
use Rattle.dav_lock.specs.declared.element.Element.{Element}
use Rattle.dav_report.specs.declared.answer.Report.{Report}
use Rattle.dav_report.specs.declared.error.ReportError.{ReportError}
use Rattle.dav_report.specs.declared.error.ReportError.TheVariants.{NoMemory}
use Rattle.dav_report.specs.AddressBooks.{address_report}
use Rattle.dav_report.specs.Calendars.{calendar_report}
use Rattle.dav_selection.specs.Selection.{Selection, queries, follows, refuses, address_selection, calendar_selection}
use Rattle.dav_selection.specs.Shown.{IsRight, Stock}
use Rattle.dav_selection.specs.declared.told.ReportKind.{ReportKind}
use Rattle.dav_selection.specs.declared.told.ReportKind.TheVariants.{Calendars, AddressBook}

-- the members of the directories that the rules find, and what is opened where they find paths
abbrev pub stock_in : Ways → World → Stock
stock_in ways w = record { listed = members_in ways w; opened = opened_in ways w }

-- No link stands on the way to where a link of a request leads.
abbrev pub IsFreeBy : Ways → World → Result WebPath ParseError → Type 0
IsFreeBy ways w (Ok path) = IsFree ways w path.names
IsFreeBy ways w (Err e) = Unit {0}

-- No link stands on the way to what a selection looks at.
abbrev pub MeetsNoLink : Ways → World → Selection → Type 0
MeetsNoLink ways w (queries q) = HasFreeMembers ways w q.dir.names
MeetsNoLink ways w (follows asked) = All (λ href. IsFreeBy ways w (parsed href asked.prefix)) asked.hrefs
MeetsNoLink ways w (refuses e) = Unit {0}

-- a query is one of this directory
abbrev pub IsOf : WebPath → Selection → Type 0
IsOf dir (queries q) = q.dir ≡ dir
IsOf dir (follows asked) = Unit {0}
IsOf dir (refuses e) = Unit {0}

-- Where a disk told its world, the rules of the store find each path there in one place and no link is met, the report of
-- the selection is right for what the store shows of that world by its rules, or for what may stand in its place where a
-- fault was met; or memory was wanting.
abbrev pub TellsTheTree : Option World → Ways → Selection → Type 0 → Result Report ReportError → Type 0
TellsTheTree told ways q fault result = (w : World) → told ≡ Some w → FindsOnce ways w → MeetsNoLink ways w q
    → IsRight q (stock_in ways w) fault result ⊎ (result ≡ Err NoMemory)

-- what a request for a report of this kind asks of a store
abbrev pub selection_of : ReportKind → WebPath → List ℕ → Element → Selection
selection_of Calendars path prefix root = calendar_selection path prefix (calendar_report root)
selection_of AddressBook path prefix root = address_selection path prefix (address_report root)
