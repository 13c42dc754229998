-- The table of GET and HEAD over the calls of a store: which calls are made one after the other, and what is answered
-- by the answer of each.
use Rattle.std.specs.Prelude.{◌≡◌, ◌⊎◌, ℕ, List, [], ◌∷◌, Bool, true, false, map, Option, None, Some, Result, Ok, Err, IfOk}
use Rattle.std.specs.List.{AllByRecursion}
use Rattle.dav_core.specs.declared.dav_error.DavError.{DavError}
use Rattle.dav_core.specs.declared.dav_error.DavError.TheVariants.{Status, StatusClose, NoMemory}
use Rattle.dav_core.specs.declared.error.FsError.{FsError}
use Rattle.dav_core.specs.declared.member.Member.{Member}
use Rattle.dav_core.specs.declared.method.DavMethod.{DavMethod}
use Rattle.dav_core.specs.declared.method.DavMethod.TheVariants.{Get, Head}
use Rattle.dav_core.specs.DavPath.{WebPath, last_name, type_of_last}
use Rattle.dav_core.specs.Info.{Info, AreInYears}
use Rattle.dav_core.specs.Writing.{reading}
use Rattle.dav_core.specs.Statuses.{of_fs}
use Rattle.dav_core.specs.Tags.{HasTagBytes}
use Rattle.dav_core.specs.Tree.{is_file}
use Rattle.dav_core.specs.Unchanged.{Keeps}
use Rattle.dav_page.specs.Index.{IsIndex}
use Rattle.dav_page.specs.Listed.{AreRows, HasPlainName}
use Rattle.dav_store.specs.declared.entry.ReadDirMeta.TheVariants.{Data}
use Rattle.dav_store.specs.Files.{FileRedirects}
use Rattle.dav_store.specs.Frames.{OpensOne}
use Rattle.dav_store.specs.Members.{ReadsThere, ShowsMembers, WasListed}
use Rattle.dav_store.specs.View.{View, Listings, Lent, seen_in, Says, Seeks, Closes}
use Rattle.dav_model.specs.declared.outcome.Outcome.{Outcome}
use Rattle.dav_model.specs.declared.ranges.Slice.{Slice}
use Rattle.dav_model.specs.declared.sent.Sent.{Sent}
use Rattle.dav_model.specs.declared.sent.Sent.TheVariants.{All, Alone, Unsatisfied, One, Several}
use Rattle.dav_model.specs.Due.{Course, Query, course, directing, listing, opening, refusing, query}
use Rattle.dav_model.specs.Head.{Reply, Stood, directed, is_get, is_set, is_well_known, redirected_fields, sent_fields, sent_of, sent_parts, sent_status, well_known, IsDate}
use Rattle.dav_model.specs.Indexes.{page_fields}
use Rattle.dav_get.specs.declared.body.GetBody.{GetBody}
use Rattle.dav_get.specs.declared.open_at.OpenAt.{OpenAt}
use Rattle.dav_get.specs.declared.part.BodyPart.{BodyPart}
use Rattle.dav_get.specs.declared.part.BodyPart.TheVariants.{Text}
use Rattle.dav_get.specs.Bodies.{left_of, parts_of}
use Rattle.dav_get.specs.declared.asked.Asked.{Asked}

-- a status with its fields, and a body
abbrev pub Answer : Type 0 → Type 0
Answer F = Outcome × GetBody F

-- an answer, or an error
abbrev pub Given : Type 0 → Type 0
Given F = Result (Answer F) DavError

-- metadata, as far as an answer speaks of it
abbrev pub stood_by : Info → Option (List ℕ) → Stood
stood_by info address = record {
  kind = info.kind;
  number = 0;
  len = info.len;
  modified = info.modified;
  tag = info.tag;
  address = address;
}

abbrev pub type_of : WebPath → List ℕ
type_of path = type_of_last (last_name path.names)

-- status and fields, where this of a file is sent
abbrev pub IsOutcome : DavMethod → WebPath → Info → Sent → Outcome → Type 0
IsOutcome method path info sent outcome = (date : Option (List ℕ)) × IsDate info.modified date
    × (outcome ≡ record {
      status = sent_status sent;
      fields = sent_fields (is_get method)
          (type_of path) info.len info.tag date sent;
    })

-- status and fields, where the client is sent to another address
abbrev pub IsRedirect : Info → List ℕ → Outcome → Type 0
IsRedirect info address outcome = (date : Option (List ℕ)) × IsDate info.modified date
    × (outcome ≡ record { status = 302; fields = redirected_fields address info.tag date })

-- the parts, where this of a file is sent; each slice is of the file's number
abbrev pub ArePartsOf : DavMethod → WebPath → Info → Sent → List BodyPart → Type 0
ArePartsOf method path info sent parts = (number : ℕ) → parts_of number parts ≡ sent_parts (is_get method)
    (type_of path) number info.len sent

-- the place to which the file is moved first
abbrev pub first_start : List Slice → Option ℕ
first_start [] = None
first_start (part ∷ parts) = Some part.start

abbrev pub first_place : Sent → Option ℕ
first_place All = None
first_place (Alone status) = None
first_place Unsatisfied = None
first_place (One part) = Some part.start
first_place (Several parts) = first_start parts

-- an answer with a body
abbrev pub GivesBody : {F : Type 0} → (Answer F → Type 0) → Given F → Type 0
GivesBody P (Ok answer) = P answer
GivesBody P (Err e) = ⊥

-- a body of no parts, without a file
abbrev pub IsEmpty : {F : Type 0} → GetBody F → Type 0
IsEmpty body = (left_of body ≡ []) × (body.file ≡ None)

-- status and fields of a reply
abbrev pub outcome_of : Reply → Outcome
outcome_of reply = record { status = reply.status; fields = reply.fields }

-- the answer of the page that is there whatever stands in the tree
abbrev pub well_known_outcome : Outcome
well_known_outcome = outcome_of well_known

-- the answer that sends the client to this path with a final slash
abbrev pub directed_outcome : WebPath → Outcome
directed_outcome path = outcome_of (directed path)

-- The client is sent to the path with a final slash.
abbrev pub Directs : {F : Type 0} → WebPath → Given F → Type 0
Directs path result = GivesBody (λ answer. (answer.0 ≡ directed_outcome path) × IsEmpty answer.1) result

-- the error of a refusal
abbrev pub refused_as : ℕ → Bool → DavError
refused_as status true = StatusClose status
refused_as status false = Status status

-- the same asked of another path
abbrev pub asked_at : Query → WebPath → Query
asked_at q path = record q { path = path }

-- what a query sends of a file with this metadata
abbrev pub sent_for : Query → Info → Sent
sent_for q info = sent_of q.method q.fields (stood_by info None)

-- What is sent after a move of the file: where it can't be moved to the first part, no range could be met.
abbrev pub sent_after : Result ℕ FsError → Sent → Sent
sent_after (Ok place) sent = sent
sent_after (Err e) sent = Unsatisfied

-- What any metadata says of what stands there: its times can be shown, and its tag has only the bytes of a tag.
pub record CouldSay (info : Info) : Type 0 where
  pub years : AreInYears info
  pub tag : HasTagBytes info.tag

module _ {S C F : Type 0} (view : View S C F) where
  -- the file was asked for its address
  pub record Redirects (s : S) (file : F) (result : Result (Option (List ℕ)) FsError) (t : S) (after : F) : Type 0 where
    pub done : FileRedirects (view.state s) (seen_in view s file) result (view.state t) (seen_in view t after)
    pub reads_from : view.file.reads_from file (view.state s) → view.file.reads_from after (view.state t)
    pub handle : view.file.handle after ≡ view.file.handle file
    pub becomes : view.file.becomes file after
    pub lent : Lent view s t

  -- A body of these parts has the file at its place; where there are none, it is closed.
  abbrev pub Holds : List BodyPart → OpenAt F → S → GetBody F → S → Type 0
  Holds [] held s body t = Closes view s held.file t × IsEmpty body
  Holds (part ∷ parts) held s body t = (t ≡ s) × (left_of body ≡ part ∷ parts) × (body.file ≡ Some held)

  -- This of the file is sent.
  pub record Sends (q : Query) (info : Info) (sent : Sent) (held : OpenAt F) (s : S) (answer : Answer F)
      (t : S) : Type 0 where
    pub outcome_is : IsOutcome q.method q.path info sent answer.0
    pub parts : List BodyPart
    pub are : ArePartsOf q.method q.path info sent parts
    pub holds : Holds parts held s answer.1 t

  -- P of the file where it stands, once it is moved to this place.
  abbrev pub IfMoved : Option ℕ → F → S → (Result ℕ FsError → OpenAt F → S → Type 0) → Type 0
  IfMoved None file s P = P (Ok 0) (record { file = file; place = 0 }) s
  IfMoved (Some start) file s P = (sought : Result ℕ FsError) × (g : F) × (m : S)
      × Seeks view s file start sought m g × P sought (record { file = g; place = start }) m

  -- This of the file is sent, which is moved to the first part before.
  abbrev pub SendsFrom : Query → Info → Sent → F → S → Answer F → S → Type 0
  SendsFrom q info sent file s answer t =
      IfMoved (first_place sent) file s (λ sought held m. Sends q info (sent_after sought sent) held m answer t)

  -- what of a regular file is sent
  abbrev pub SendsFile : Query → Info → F → S → Given F → S → Type 0
  SendsFile q info file s result t = GivesBody (λ answer. SendsFrom q info (sent_for q info) file s answer t) result

  -- The client is sent to another address.
  abbrev pub SendsAway : Info → List ℕ → F → S → Given F → S → Type 0
  SendsAway info address file s result t =
      GivesBody (λ answer. IsRedirect info address answer.0 × Closes view s file t × IsEmpty answer.1) result

  abbrev pub AfterRedirect : Result (Option (List ℕ)) FsError → Query → Info → F → S → Given F → S → Type 0
  AfterRedirect (Err e) q info file s result t = Closes view s file t × (result ≡ Err (of_fs e))
  AfterRedirect (Ok (Some address)) q info file s result t = SendsAway info address file s result t
  AfterRedirect (Ok None) q info file s result t = SendsFile q info file s result t

  abbrev pub ByRedirect : Bool → Query → Info → F → S → Given F → S → Type 0
  ByRedirect false q info file s result t = SendsFile q info file s result t
  ByRedirect true q info file s result t = (said : Result (Option (List ℕ)) FsError) × (g : F) × (m : S)
      × Redirects s file said m g × AfterRedirect said q info g m result t

  abbrev pub ByFile : Bool → Query → Info → F → S → Given F → S → Type 0
  ByFile true q info file s result t = ByRedirect (is_set q.settings.redirect) q info file s result t
  ByFile false q info file s result t = Closes view s file t × (result ≡ Err (Status 405))

  abbrev pub AfterMeta : Result Info FsError → Query → F → S → Given F → S → Type 0
  AfterMeta (Err e) q file s result t = Closes view s file t × (result ≡ Err (of_fs e))
  AfterMeta (Ok info) q file s result t = ByFile (is_file info.kind) q info file s result t

  -- a file that was opened
  abbrev pub GetsFile : Query → F → S → Given F → S → Type 0
  GetsFile q file s result t = (said : Result Info FsError) × (g : F) × (m : S)
      × Says view s file said m g × IfOk said CouldSay × AfterMeta said q g m result t

  abbrev pub AfterOpen : Result F FsError → Query → S → Given F → S → Type 0
  AfterOpen (Err e) q s result t = (t ≡ s) × (result ≡ Err (of_fs e))
  AfterOpen (Ok file) q s result t = GetsFile q file s result t ⊎ (result ≡ Err NoMemory)

  -- What is at the path is opened.
  abbrev pub Opens : Query → C → S → Given F → S → Type 0
  Opens q c s result t = (opened : Result F FsError) × (m : S) × view.opens s c q.path reading opened m
      × OpensOne view.file reading (view.state s) opened (view.state m) × AfterOpen opened q m result t

-- The body of a directory's page: its texts. HEAD has none.
abbrev pub IsPageBody : {F : Type 0} → Bool → WebPath → List Member → GetBody F → Type 0
IsPageBody true dir members body = (texts : List (List ℕ)) × IsIndex dir (AreRows dir members) texts
    × (left_of body ≡ map Text texts) × (body.file ≡ None)
IsPageBody false dir members body = IsEmpty body

-- status and fields of a directory's page
abbrev pub page_outcome : Outcome
page_outcome = record { status = 200; fields = page_fields }

-- the method of which a page is asked
abbrev pub method_for : Bool → DavMethod
method_for true = Head
method_for false = Get

-- The page of the directory with these members is given.
abbrev pub GivesPage : {F : Type 0} → Query → List Member → Given F → Type 0
GivesPage q members result = GivesBody (λ answer. (answer.0 ≡ page_outcome)
    × IsPageBody (is_get q.method) q.path members answer.1) result

abbrev pub AfterListing : {F : Type 0} → Result (List Member) FsError → Query → Given F → Type 0
AfterListing (Err e) q result = result ≡ Err (of_fs e)
AfterListing (Ok members) q result = GivesPage q members result

module _ {S C F L E : Type 0} (view : View S C F) (lists : Listings S C L E) where
  -- To a GET the members of a directory are read: where the store shows some, these. To a HEAD none is read.
  abbrev pub ReadsMembers : Bool → C → WebPath → S → List Member → S → Type 0
  ReadsMembers true c path s members t = WasListed view lists s c path members t
      × ((found : Result (List Member) FsError) → ShowsMembers view lists s c path found
      → ReadsThere found (view.state s).faults members (view.state t).faults)
  ReadsMembers false c path s members t = (members ≡ []) × ((listing : L) × (m : S)
      × lists.lists s c path Data (Ok listing) m × lists.ends_list m listing t)

  -- A directory was listed, or refused.
  abbrev pub IsListing : Bool → C → WebPath → S → Result (List Member) FsError → S → Type 0
  IsListing gives c path s (Err e) t = lists.lists s c path Data (Err e) t
  IsListing gives c path s (Ok members) t = ReadsMembers gives c path s members t
      × AllByRecursion HasPlainName members

  -- The directory is listed, and its page given.
  abbrev pub Lists : Query → C → S → Given F → S → Type 0
  Lists q c s result t = (answer : Result (List Member) FsError) × IsListing (is_get q.method) c q.path s answer t
      × Keeps (view.state s) (view.state t) × AfterListing answer q result

  -- The path of an index file is opened in place of the one that was looked at.
  abbrev pub ByCourse : Course → Query → C → S → Given F → S → Type 0
  ByCourse (refusing status close) q c s result t = (t ≡ s) × (result ≡ Err (refused_as status close))
  ByCourse directing q c s result t = (t ≡ s) × Directs q.path result
  ByCourse (opening path) q c s result t = Opens view (asked_at q path) c s result t
  ByCourse listing q c s result t = Lists q c s result t

  abbrev pub AfterLook : Result Info FsError → Query → C → S → Given F → S → Type 0
  AfterLook (Err e) q c s result t = (t ≡ s) × (result ≡ Err (of_fs e))
  AfterLook (Ok info) q c s result t = ByCourse (course q info.kind) q c s result t

  abbrev pub ByWellKnown : Bool → Query → C → S → Given F → S → Type 0
  ByWellKnown true q c s result t =
      (t ≡ s) × GivesBody (λ answer. (answer.0 ≡ well_known_outcome) × IsEmpty answer.1) result
  ByWellKnown false q c s result t = (look : Result Info FsError) × (m : S)
      × view.looks s c q.path look m × Keeps (view.state s) (view.state m) × AfterLook look q c m result t

  -- A GET or HEAD. (Want of memory is answered beside the table.)
  abbrev pub Gets : Query → C → S → Given F → S → Type 0
  Gets q c s result t = ByWellKnown (is_well_known q.settings q.method q.path) q c s result t

-- ---- what is asked, as the table speaks of it

abbrev pub asked_of : Asked → Query
asked_of asked = query asked.settings.now asked.fields.now asked.method asked.path.now
