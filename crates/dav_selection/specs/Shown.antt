-- The report that is right for what a store shows: which resources stand, which are wanted, and in which order.
use Rattle.std.specs.Prelude.{◌≡◌, ◌⊎◌, ◌++◌, ◌∷◌, ℕ, List, [], All, map, take, Option, None, Some, Result, Ok, Err, if◌then◌else◌}
use Rattle.std.specs.List.{flat_map}
use Rattle.std.specs.List.Sorted.{IsPermutation}
use Rattle.dav_io.specs.Counts.{Rose}
use Rattle.dav_core.specs.declared.error.FsError.{FsError}
use Rattle.dav_core.specs.declared.error.FsError.TheVariants.{GeneralFailure}
use Rattle.dav_core.specs.declared.member.Member.{Member}
use Rattle.dav_core.specs.declared.parse_error.ParseError.{ParseError}
use Rattle.dav_core.specs.DavPath.{WebPath}
use Rattle.dav_core.specs.Grammar.{parsed}
use Rattle.dav_core.specs.Tree.{is_file}
use Rattle.dav_store.specs.Members.{ShowsMembers}
use Rattle.dav_store.specs.Reached.{ShowsOn}
use Rattle.dav_store.specs.Standing.{Standing}
use Rattle.dav_store.specs.View.{Listings, Stays, View}
use Rattle.dav_report.specs.declared.answer.Record.{Record}
use Rattle.dav_report.specs.declared.answer.Report.{Report}
use Rattle.dav_report.specs.declared.error.ReportError.{ReportError}
use Rattle.dav_report.specs.declared.error.ReportError.TheVariants.{Fs, NoMemory}
use Rattle.dav_selection.specs.Answered.{given, is_given, unless}
use Rattle.dav_selection.specs.Reports.{AreInOrder, LinksAsked, Sought, member_path}
use Rattle.dav_selection.specs.Resources.{resource}
use Rattle.dav_selection.specs.Selection.{Reports, Selection, queries, follows, refuses, of_records}

-- what stands in a store: the members of its directories, and what is opened at its paths
pub record Stock : Type 0 where
  pub listed : WebPath → Result (List Member) FsError
  pub opened : WebPath → Result Standing FsError

-- The record that is due of what is opened at a path: that of a regular file, where its content, read to its length, is
-- wanted. Of all else none is due.
abbrev pub due : (List ℕ → Option (List ℕ)) → WebPath → Result Standing FsError → List Record
due taken path (Ok there) =
    if is_file there.kind then given taken path (Ok (resource there.tag (take there.len there.bytes))) else []
due taken path (Err e) = []

abbrev pub due_at : (List ℕ → Option (List ℕ)) → Stock → WebPath → List Record
due_at taken stock path = due taken path (stock.opened path)

-- the record that is due of a link: none where it doesn't parse
abbrev pub due_by : (List ℕ → Option (List ℕ)) → Stock → Result WebPath ParseError → List Record
due_by taken stock (Ok path) = due_at taken stock path
due_by taken stock (Err e) = []

abbrev pub due_of : LinksAsked → Stock → List ℕ → List Record
due_of asked stock href = due_by asked.taken stock (parsed href asked.prefix)

-- what is due, or nothing where a fault was met
abbrev pub IsDueOr : Type 0 → List Record → List Record → Type 0
IsDueOr fault due given = (given ≡ due) ⊎ ((given ≡ []) × fault)

-- Each path in turn gives what is due of it, or nothing where a fault was met.
abbrev pub AreGiven : (WebPath → List Record) → Type 0 → List WebPath → List Record → Type 0
AreGiven due fault [] records = records ≡ []
AreGiven due fault (path ∷ paths) records = (first : List Record) × (rest : List Record) × (records ≡ first ++ rest)
    × IsDueOr fault (due path) first × AreGiven due fault paths rest

-- Each link in turn gives the record that is due of it, or is missing where none is due or a fault was met.
abbrev pub AreLinked : (List ℕ → List Record) → Type 0 → List (List ℕ) → List Record → List (List ℕ) → Type 0
AreLinked due fault [] records missing = (records ≡ []) × (missing ≡ [])
AreLinked due fault (href ∷ hrefs) records missing =
    ((r : Record) × (rest : List Record) × (due href ≡ r ∷ []) × (records ≡ r ∷ rest)
    × AreLinked due fault hrefs rest missing)
    ⊎ ((rest : List (List ℕ)) × ((due href ≡ []) ⊎ fault) × (missing ≡ href ∷ rest)
    × AreLinked due fault hrefs records rest)

-- the links of which nothing is due
abbrev pub lacking : (List ℕ → List Record) → List (List ℕ) → List (List ℕ)
lacking due hrefs = flat_map (λ href. unless (is_given (due href)) href) hrefs

-- as many as are wanted at most
abbrev pub at_most : Option ℕ → List Record → List Record
at_most None records = records
at_most (Some limit) records = take limit records

-- The first records, as many as are wanted, that a directory's members give in order of the bytes of their names. A
-- member is lost only where a fault was met.
pub record AreSelected
    (q : Sought) (all : List Member) (stock : Stock) (fault : Type 0) (records : List Record)
    : Type 0 where
  pub listed : List Member
  pub lost : List Member
  pub each : IsPermutation all (listed ++ lost)
  pub why : (lost ≡ []) ⊎ fault
  pub sorted : List Member
  pub order : AreInOrder listed sorted
  pub all_given : List Record
  pub gives : AreGiven (due_at q.taken stock) fault (map (member_path q.dir) sorted) all_given
  pub first : records ≡ at_most q.limit all_given

-- A query is refused as the listing of its directory is, or by a fault that was met.
abbrev pub IsQueried : Sought → Result (List Member) FsError → Stock → Type 0 → Result (List Record) ReportError
    → Type 0
IsQueried q (Ok all) stock fault (Ok records) = AreSelected q all stock fault records
IsQueried q (Ok all) stock fault (Err e) = fault × (e ≡ Fs GeneralFailure)
IsQueried q (Err refusal) stock fault (Ok records) = ⊥
IsQueried q (Err refusal) stock fault (Err e) = (e ≡ Fs refusal) ⊎ (fault × (e ≡ Fs GeneralFailure))

-- a multiget is never refused
abbrev pub IsFollowed : LinksAsked → Stock → Type 0 → Result Report ReportError → Type 0
IsFollowed asked stock fault (Ok report) =
    AreLinked (due_of asked stock) fault asked.hrefs report.records report.missing
IsFollowed asked stock fault (Err e) = ⊥

-- The report is right for what stands, or what may stand in its place where a fault was met.
abbrev pub IsRight : Selection → Stock → Type 0 → Result Report ReportError → Type 0
IsRight (queries q) stock fault result =
    (given : Result (List Record) ReportError) × IsQueried q (stock.listed q.dir) stock fault given
    × (result ≡ of_records given)
IsRight (follows asked) stock fault result = IsFollowed asked stock fault result
IsRight (refuses e) stock fault result = result ≡ Err e

module _ {S C F L E : Type 0} (view : View S C F) (lists : Listings S C L E) (s : S) (c : C) (stock : Stock) where
  abbrev pub ShowsAt : WebPath → Type 0
  ShowsAt path = ShowsOn view lists s c path (stock.opened path)

  -- The store shows the members of the directory, and what stands at each.
  pub record ShowsDir (dir : WebPath) : Type 0 where
    pub members : ShowsMembers view lists s c dir (stock.listed dir)
    pub files : (all : List Member) → stock.listed dir ≡ Ok all → All (λ m. ShowsAt (member_path dir m)) all

  -- It shows what stands where a link leads.
  abbrev pub ShowsBy : Result WebPath ParseError → Type 0
  ShowsBy (Ok path) = ShowsAt path
  ShowsBy (Err e) = Unit {0}

  -- It shows this stock wherever a selection looks.
  abbrev pub ShowsFor : Selection → Type 0
  ShowsFor (queries q) = ShowsDir q.dir
  ShowsFor (follows asked) = All (λ href. ShowsBy (parsed href asked.prefix)) asked.hrefs
  ShowsFor (refuses e) = Unit {0}

module _ {S C F L E : Type 0} (view : View S C F) (lists : Listings S C L E) where
  -- A selection over a store was answered.
  pub record Selects (c : C) (q : Selection) (s : S) (result : Result Report ReportError) (t : S) : Type 0 where
    -- These calls of the store gave the report.
    pub table : Reports view lists c q s result t ⊎ (result ≡ Err NoMemory)
    -- It is right for what the store shows wherever the selection looks, or for what may stand in its place where a
    -- fault was met.
    pub shown : (stock : Stock) → ShowsFor view lists s c stock q
        → IsRight q stock (Rose (view.state s).faults (view.state t).faults) result ⊎ (result ≡ Err NoMemory)
    -- What was live or open before is as it was, and no file and no listing stays open; what the store may remember
    -- stays true.
    pub stays : Stays view s t
