-- What a report selects: which calls of the store are made, and what is answered by what came of them.
use Rattle.std.specs.Prelude.{◌≡◌, ◌<◌, ◌+◌, ◌⊎◌, ◌++◌, ◌∷◌, ℕ, List, [], false, map, length, take, Option, None, Some, Result, Ok, Err}
use Rattle.std.specs.Cmp.Lexicographic.{slice_cmp}
use Rattle.std.specs.List.{AllByRecursion}
use Rattle.std.specs.List.Sorted.{IsPermutation, IsSortedByKey}
use Rattle.std.specs.Ordering.{nat_cmp}
use Rattle.dav_core.specs.declared.error.FsError.{FsError}
use Rattle.dav_core.specs.declared.member.Member.{Member}
use Rattle.dav_core.specs.declared.parse_error.ParseError.{ParseError}
use Rattle.dav_core.specs.DavPath.{WebPath}
use Rattle.dav_core.specs.Grammar.{parsed}
use Rattle.dav_store.specs.declared.entry.ReadDirMeta.TheVariants.{Data}
use Rattle.dav_store.specs.Members.{WasListed}
use Rattle.dav_store.specs.View.{View, Listings}
use Rattle.dav_report.specs.declared.answer.Record.{Record}
use Rattle.dav_report.specs.declared.answer.Report.{Report}
use Rattle.dav_report.specs.declared.error.ReportError.{ReportError}
use Rattle.dav_report.specs.declared.error.ReportError.TheVariants.{Fs}
use Rattle.dav_selection.specs.declared.resource.Resource.{Resource}
use Rattle.dav_selection.specs.declared.resource.Unread.{Unread}
use Rattle.dav_selection.specs.declared.resource.Unread.TheVariants.{Unsaid, Refused, NoMemory}
use Rattle.dav_selection.specs.Answered.{Answer, Link, Wants, linked, missing, records}
use Rattle.dav_selection.specs.Resources.{Fetches}

-- what is asked of a directory: the text of a content that is wanted, and how many records at most
pub record Sought : Type 0 where
  pub dir : WebPath
  pub limit : Option ℕ
  pub taken : List ℕ → Option (List ℕ)

-- what is asked of links: the prefix under which their paths stand, and the text of a content that is wanted
pub record LinksAsked : Type 0 where
  pub prefix : List ℕ
  pub hrefs : List (List ℕ)
  pub taken : List ℕ → Option (List ℕ)

-- the path of a member of a directory
abbrev pub member_path : WebPath → Member → WebPath
member_path dir m = record dir { names = dir.names ++ m.name ∷ []; slash = false }

-- The resource was read, or is passed over: its metadata wasn't refused, nor memory.
abbrev pub IsPassable : Result Resource Unread → Type 0
IsPassable (Ok r) = Unit {0}
IsPassable (Err Refused) = Unit {0}
IsPassable (Err (Unsaid e)) = ⊥
IsPassable (Err NoMemory) = ⊥

-- memory was had for what came of it
abbrev pub HadMemory : Result Resource Unread → Type 0
HadMemory (Ok r) = Unit {0}
HadMemory (Err Refused) = Unit {0}
HadMemory (Err (Unsaid e)) = Unit {0}
HadMemory (Err NoMemory) = ⊥

abbrev pub name_of : Member → List ℕ
name_of m = m.name

-- members in order of the bytes of their names
pub record AreInOrder (members sorted : List Member) : Type 0 where
  pub each : IsPermutation members sorted
  pub order : IsSortedByKey name_of (slice_cmp nat_cmp) sorted

module _ {S C F : Type 0} (view : View S C F) (c : C) where
  -- These resources were asked for, one after the other.
  pub data Asked (s : S) : List Answer → S → Type 0 where
    begun : Asked s [] s
    goes : (answers : List Answer) (m t : S) (path : WebPath) (got : Result Resource Unread) → Asked s answers m
        → Fetches view c path m got t
        → Asked s (answers ++ record { path = path; got = got } ∷ []) t

  -- The resources of these members were asked for from the first on, each only where more records were wanted, and none
  -- is at fault.
  pub record Walks (q : Sought) (members : List Member) (s : S) (answers : List Answer) (t : S) : Type 0 where
    pub asked : Asked s answers t
    pub paths : map (λ (a : Answer). a.path) answers ≡ map (member_path q.dir) (take (length answers) members)
    pub passable : AllByRecursion (λ (a : Answer). IsPassable a.got) answers
    pub wanted : (k : ℕ) → k < length answers → Wants q.limit (length (records q.taken (take k answers)))

  -- All members were asked for, or no more records are wanted; or the metadata of the next was refused.
  abbrev pub AfterWalk : Sought → List Member → List Answer → S → Result (List Record) ReportError → S → Type 0
  AfterWalk q members answers s (Ok given) t = (t ≡ s) × (given ≡ records q.taken answers)
      × ((length answers ≡ length members) ⊎ (Wants q.limit (length given) → ⊥))
  AfterWalk q members answers s (Err e) t = (fault : FsError) × (path : WebPath) × (e ≡ Fs fault)
      × Fetches view c path s (Err (Unsaid fault)) t
      × (map (λ (a : Answer). a.path) answers ++ path ∷ []
      ≡ map (member_path q.dir) (take (length answers + 1) members))
      × Wants q.limit (length (records q.taken answers))

  abbrev pub Selects : Sought → List Member → S → Result (List Record) ReportError → S → Type 0
  Selects q members s result t =
      (answers : List Answer) × (m : S) × Walks q members s answers m × AfterWalk q members answers m result t

  -- A link leads to the path that it gives, whose resource is asked for; one that gives none leads nowhere.
  abbrev pub Leads : List ℕ → List ℕ → S → Option Answer → S → Type 0
  Leads prefix href s None t = (t ≡ s) × ((fault : ParseError) × (parsed href prefix ≡ Err fault))
  Leads prefix href s (Some a) t = (parsed href prefix ≡ Ok a.path) × Fetches view c a.path s a.got t × HadMemory a.got

  -- These links were followed, one after the other.
  pub data Followed (prefix : List ℕ) (s : S) : List Link → S → Type 0 where
    began : Followed prefix s [] s
    leads : (links : List Link) (m t : S) (href : List ℕ) (answer : Option Answer) → Followed prefix s links m
        → Leads prefix href m answer t
        → Followed prefix s (links ++ record { href = href; answer = answer } ∷ []) t

  -- The links were followed, and give these records; those that give none are missing, as they are written.
  pub record Leading (asked : LinksAsked) (s : S) (report : Report) (t : S) : Type 0 where
    pub links : List Link
    pub followed : Followed asked.prefix s links t
    pub written : map (λ (l : Link). l.href) links ≡ asked.hrefs
    pub given : report.records ≡ linked asked.taken links
    pub lost : report.missing ≡ missing asked.taken links

  -- a multiget is never refused
  abbrev pub Follows : LinksAsked → S → Result Report ReportError → S → Type 0
  Follows asked s (Ok report) t = Leading asked s report t
  Follows asked s (Err e) t = ⊥

-- what a listing that was refused leaves, or what the members of one give
module _ {S C F L E : Type 0} (view : View S C F) (lists : Listings S C L E) (c : C) where
  -- The directory was listed, and the resources of its members were asked for in order of their names' bytes.
  pub record Listed (q : Sought) (s : S) (result : Result (List Record) ReportError) (t : S) : Type 0 where
    pub members : List Member
    pub begin : S
    pub listed : WasListed view lists s c q.dir members begin
    pub sorted : List Member
    pub order : AreInOrder members sorted
    pub selects : Selects view c q sorted begin result t

  -- A query: the store's refusal of the listing, or what its members give.
  abbrev pub Queries : Sought → S → Result (List Record) ReportError → S → Type 0
  Queries q s result t =
      ((e : FsError) × lists.lists s c q.dir Data (Err e) t × (result ≡ Err (Fs e))) ⊎ Listed q s result t
