-- What was heard of the store in a GET or HEAD, whatever the store tells, and that the answer is right for that.
use Rattle.std.specs.Prelude.{◌≡◌, ◌≤◌, ◌⊎◌, ◌&&◌, ℕ, Bool, true, false, List, Option, None, Result, Ok, Err}
use Rattle.std.specs.List.{AllByRecursion}
use Rattle.dav_io.specs.Counts.{Rose}
use Rattle.dav_core.specs.declared.error.FsError.{FsError}
use Rattle.dav_core.specs.declared.error.FsError.TheVariants.{NoMemory}
use Rattle.dav_core.specs.declared.member.Member.{Member}
use Rattle.dav_core.specs.DavPath.{WebPath}
use Rattle.dav_core.specs.Errors.{CouldRefuse}
use Rattle.dav_core.specs.Info.{Info}
use Rattle.dav_core.specs.Writing.{reading}
use Rattle.dav_core.specs.Tree.{is_file}
use Rattle.dav_core.specs.Unchanged.{Keeps}
use Rattle.dav_page.specs.Listed.{HasPlainName}
use Rattle.dav_store.specs.declared.entry.ReadDirMeta.TheVariants.{Data}
use Rattle.dav_store.specs.Files.{Spoiled}
use Rattle.dav_store.specs.Frames.{OpensOne}
use Rattle.dav_store.specs.View.{View, Listings, seen_in, Says}
use Rattle.dav_model.specs.Due.{Course, Due, Query, IsHead, IsRight, IsUnplaced, course, directing, due, known, listing, opening, page, refused, refusing, to_slash, file as sends}
use Rattle.dav_model.specs.Head.{Reply, Stood, is_get, is_set, is_well_known}
use Rattle.dav_model.specs.Shown.{Could, CouldStand, Shown}
use Rattle.dav_get.specs.Right.{IsOfNumber, number_told, or_zero, reply_at}
use Rattle.dav_get.specs.Table.{CouldSay, Given, IsListing, Redirects, asked_at, stood_by}

-- ---- what is heard, as what is shown

-- A look tells of what stands there its kind; an answer speaks of nothing else of it.
abbrev pub looked_stood : Info → Stood
looked_stood info = record { kind = info.kind; number = 0; len = 0; modified = None; tag = None; address = None }

abbrev pub looked_of : Result Info FsError → Result Stood FsError
looked_of (Ok info) = Ok (looked_stood info)
looked_of (Err e) = Err e

-- an open file, by its number where that is told, its metadata, and its address where that was asked for
abbrev pub stood_heard : Option ℕ → Info → Option (List ℕ) → Stood
stood_heard number info address = record (stood_by info address) { number = or_zero number }

abbrev pub address_heard : Option ℕ → Info → Result (Option (List ℕ)) FsError → Result Stood FsError
address_heard number info (Ok address) = Ok (stood_heard number info address)
address_heard number info (Err e) = Err e

-- One path is looked at, and one is opened or listed: so these results are what is shown at each.
abbrev pub shown_heard : Result Info FsError → Result Stood FsError → Result (List Member) FsError → Shown
shown_heard looked opened listed = record {
  looked = λ path. looked_of looked;
  opened = λ path. opened;
  listed = λ path. listed;
}

-- No range could be met, as the file couldn't be moved to the first part.
abbrev pub IsUnplacedOf : Query → Due → Reply → Type 0
IsUnplacedOf q known reply = ⊥
IsUnplacedOf q (refused status close) reply = ⊥
IsUnplacedOf q (to_slash path) reply = ⊥
IsUnplacedOf q (sends path stood) reply = IsUnplaced q path stood reply
IsUnplacedOf q (page dir members) reply = ⊥

-- The right reply for what is due, or no range could be met where a fault was met.
abbrev pub IsPlacedOr : Query → Due → Type 0 → Reply → Type 0
IsPlacedOr q due rose reply = IsHead q due reply ⊎ (IsUnplacedOf q due reply × rose)

-- memory was had
abbrev pub WasHad : {A : Type 0} → Result A FsError → Type 0
WasHad result = result ≡ Err NoMemory → ⊥

-- ---- the calls in which it was heard

module _ {S C F : Type 0} (view : View S C F) (q : Query) where
  -- no fault is forgotten
  abbrev pub Counts : S → S → Type 0
  Counts s t = (view.state s).faults ≤ (view.state t).faults

  -- A regular file is asked for its address, where clients may be sent there.
  abbrev pub HearsAddress : Bool → Option ℕ → Info → F → S → Result Stood FsError → S → Type 0
  HearsAddress false number info file s opened t = (opened ≡ Ok (stood_heard number info None)) × Counts s t
  HearsAddress true number info file s opened t = (said : Result (Option (List ℕ)) FsError) × (g : F) × (m : S)
      × Redirects view s file said m g × (opened ≡ address_heard number info said) × Counts m t

  abbrev pub HearsMeta : Result Info FsError → Option ℕ → F → S → Result Stood FsError → S → Type 0
  HearsMeta (Err e) number file s opened t = (opened ≡ Err e) × Counts s t
  HearsMeta (Ok info) number file s opened t =
      CouldSay info × HearsAddress (is_file info.kind && is_set q.settings.redirect) number info file s opened t

  -- A file that was opened is asked for its metadata.
  abbrev pub HearsFile : Result F FsError → Option ℕ → S → Result Stood FsError → S → Type 0
  HearsFile (Err e) number s opened t = (opened ≡ Err e) × Counts s t
  HearsFile (Ok file) number s opened t = (number ≡ number_told (seen_in view s file))
      × ((said : Result Info FsError) × (g : F) × (m : S)
      × Says view s file said m g × HearsMeta said number g m opened t)

module _ {S C F L E : Type 0} (view : View S C F) (lists : Listings S C L E) (q : Query) where
  -- A file is opened or a directory listed, or the answer is given at once.
  abbrev pub HearsCourse : Course → C → Option ℕ → S → Result Stood FsError → Result (List Member) FsError → S
      → Type 0
  HearsCourse (refusing status close) c number s opened listed t = Counts view q s t
  HearsCourse directing c number s opened listed t = Counts view q s t
  HearsCourse (opening path) c number s opened listed t = (answer : Result F FsError) × (m : S)
      × view.opens s c path reading answer m
      × OpensOne view.file reading (view.state s) answer (view.state m)
      × HearsFile view (asked_at q path) answer number m opened t
  HearsCourse listing c number s opened listed t = IsListing view lists (is_get q.method) c q.path s listed t
      × Keeps (view.state s) (view.state t)

  abbrev pub HearsLook : Result Info FsError → C → Option ℕ → S → Result Stood FsError → Result (List Member) FsError
      → S → Type 0
  HearsLook (Err e) c number s opened listed t = Counts view q s t
  HearsLook (Ok info) c number s opened listed t = HearsCourse (course q info.kind) c number s opened listed t

  -- What a look at the path answered, and what opening or listing it led to: an open file, members, or a call that was
  -- refused. The answer is right for it. (A fault is the store's refusal with 500 here.) The page of a well-known
  -- server is given without a look.
  pub record Heard (c : C) (s : S) (result : Given F) (t : S) : Type 0 where
    pub looked : Result Info FsError
    pub opened : Result Stood FsError
    pub listed : Result (List Member) FsError
    pub number : Option ℕ
    pub hears : is_well_known q.settings q.method q.path ≡ false
        → (m : S) × view.looks s c q.path looked m × Keeps (view.state s) (view.state m)
        × HearsLook looked c number m opened listed t
    pub looked_had : WasHad looked
    pub opened_had : WasHad opened
    pub listed_had : WasHad listed
    pub right : IsPlacedOr q (due (shown_heard looked opened listed) q)
        (Rose (view.state s).faults (view.state t).faults)
        (reply_at q.fields (or_zero number) result)
    pub file : IsOfNumber view number t result

-- ---- what was heard, as what could be shown

-- What a store refuses a look, an opening and a listing with, where nothing failed and memory was had.
pub record RefusesFew {S C F L E : Type 0} (view : View S C F) (lists : Listings S C L E) : Type 0 where
  pub looks : (s t : S) (c : C) (path : WebPath) (e : FsError) → view.looks s c path (Err e) t
      → CouldRefuse e ⊎ Spoiled {T = Info} (view.state s) (Err e) (view.state t)
  pub opens : (s t : S) (c : C) (path : WebPath) (e : FsError) → view.opens s c path reading (Err e) t
      → CouldRefuse e ⊎ Spoiled {T = F} (view.state s) (Err e) (view.state t)
  pub begins : (s t : S) (c : C) (path : WebPath) (e : FsError) → lists.lists s c path Data (Err e) t
      → CouldRefuse e ⊎ Spoiled {T = L} (view.state s) (Err e) (view.state t)

-- what is shown at every path alike
abbrev pub shown_alike : Result Stood FsError → Result Stood FsError → Result (List Member) FsError → Shown
shown_alike looked opened listed = record { looked = λ path. looked; opened = λ path. opened; listed = λ path. listed }

-- The answer is right for something that could stand at the path, or a fault was met.
pub record IsRightForSome {S C F : Type 0} (view : View S C F) (q : Query) (s : S) (result : Given F)
    (t : S) : Type 0 where
  pub looked : Result Stood FsError
  pub opened : Result Stood FsError
  pub listed : Result (List Member) FsError
  pub number : Option ℕ
  pub looked_could : Could CouldStand looked
  pub opened_could : Could CouldStand opened
  pub listed_could : Could (AllByRecursion HasPlainName) listed
  pub right : IsRight q (shown_alike looked opened listed) (Rose (view.state s).faults (view.state t).faults)
      (reply_at q.fields (or_zero number) result)
  pub file : IsOfNumber view number t result
