-- What a handler answers a request with, over any store.
use Rattle.std.specs.Prelude.{◌≡◌, ◌⊎◌, ◌<◌, ℕ, Bool, true, false, not, List, Option, None, Some, Result}
use Rattle.dav_io.specs.declared.clock.Moment.{Moment}
use Rattle.dav_io.specs.Counts.{Rose}
use Rattle.http.specs.declared.request.Parts.{Parts}
use Rattle.http.specs.Response.{head_of}
use Rattle.dav_core.specs.declared.error.FsError.{FsError}
use Rattle.dav_core.specs.declared.member.Member.{Member}
use Rattle.dav_core.specs.DavPath.{WebPath}
use Rattle.dav_model.specs.declared.settings.Settings.{Settings}
use Rattle.dav_model.specs.declared.target.Target.{Target}
use Rattle.dav_model.specs.declared.target.Target.TheVariants.{At, Methods, Refused, Writes}
use Rattle.dav_model.specs.Allowing.{allowing}
use Rattle.dav_model.specs.Announced.{HasSoundBody, IsFramed}
use Rattle.dav_model.specs.Calls.{AsksUnlessKnown, AtMostUnlessKnown, calls_to_send}
use Rattle.dav_model.specs.Conditions.{writes as is_writing}
use Rattle.dav_model.specs.Due.{Query, query}
use Rattle.dav_model.specs.Gates.{Bulk, none, admitted, gates, takes_much}
use Rattle.dav_model.specs.Head.{is_set, is_well_known, refusal}
use Rattle.dav_model.specs.Bodies.{read_size_of}
use Rattle.dav_store.specs.declared.body_reader.BodyReader.{Ghosts as ReaderGhosts}
use Rattle.dav_store.specs.declared.file.DavFile.{Ghosts as FileGhosts}
use Rattle.dav_store.specs.declared.guarded.GuardedFileSystem.{Ghosts as StoreGhosts}
use Rattle.dav_store.specs.Bodies.{BodyState}
use Rattle.dav_store.specs.Leads.{LeadsOn}
use Rattle.dav_store.specs.Standing.{Standing}
use Rattle.dav_store.specs.View.{View, Listings}
use Rattle.dav_walks.specs.Pouring.{Writes as FileWritesOf}
use Rattle.dav_get.specs.Calls.{AsksAtMostFor, AsksFor, fields_given, status_given}
use Rattle.dav_get.specs.Heard.{Heard}
use Rattle.dav_get.specs.Lives.{HasMost, OpenOnlyHeld}
use Rattle.dav_get.specs.Right.{reply_at}
use Rattle.dav_get.specs.Table.{Given}
use Rattle.dav_get.specs.Told.{IsRightFor, ShowsFor}
use Rattle.dav_config.specs.Failing.{FailsOver}
use Rattle.dav_config.specs.Reading.{ReadsBulk}
use Rattle.dav_config.specs.Responses.{IsBare, Responded, Responds}
use Rattle.dav_config.specs.Writing.{KeepsUnless, Order, RefusedIn, WritesOver, asks_to_write, order}

-- ---- a store's meanings in one value

pub record Served (S C F L E : Type 0) : Type 1 where
  pub view : View S C F
  pub lists : Listings S C L E
  -- what a writing of bytes to a file may answer
  pub writes : FileWritesOf F
  -- it has nothing and does nothing
  pub void : S → Bool
  pub with_now : S → Moment → S

abbrev pub the_served : {S C D M F L E : Type 0} → StoreGhosts S C D M F L E → FileGhosts F D M → Served S C F L E
the_served store file = record {
  view = store.view;
  lists = store.listings;
  writes = file.view.writes;
  void = store.void;
  with_now = store.with_now;
}

-- whether there is a store that does something
abbrev pub is_stored : {S : Type 0} → (S → Bool) → Option S → Bool
is_stored void None = false
is_stored void (Some s) = not (void s)

-- It passed the gates, and the store is asked.
abbrev pub IsAt : Target → Type 0
IsAt (At method path) = Unit {0}
IsAt (Writes method path) = Unit {0}
IsAt Methods = ⊥
IsAt (Refused status close) = ⊥

-- What is asked for by writing is asked for by a method that writes, and else by one that doesn't.
abbrev pub IsWritten : Target → Parts → Type 0
IsWritten (Writes method path) head = (is_writing method ≡ true) × (asks_to_write head ≡ true)
IsWritten (At method path) head = asks_to_write head ≡ false
IsWritten Methods head = asks_to_write head ≡ false
IsWritten (Refused status close) head = Unit {0}

-- ---- what is asked, and both sides of a call

-- the settings, the head of a request, the credentials with which the store is asked, and the moment
pub record Asking (C : Type 0) : Type 0 where
  pub settings : Settings
  pub head : Parts
  pub credentials : C
  pub now : Moment

abbrev pub asking : {C : Type 0} → Settings → Parts → C → Moment → Asking C
asking settings head credentials now = record { settings = settings; head = head; credentials = credentials; now = now }

-- the store and the reader of a request's body
pub record Sides (S : Type 0) : Type 0 where
  pub store : Option S
  pub body : BodyState

-- ---- what a request asks for

-- A method that stores its body reads it itself, so nothing is seen of it. For others it is read.
abbrev pub ReadsUnless : Bool → BodyState → Bulk → BodyState → Type 0
ReadsUnless true old bulk new = (bulk ≡ none) × (new ≡ old)
ReadsUnless false old bulk new = ReadsBulk old bulk new

-- The reader is asked behind the gates of the head alone.
abbrev pub ReadsBehind : Target → BodyState → Bulk → BodyState → Type 0
ReadsBehind (Refused status close) old bulk new = new ≡ old
ReadsBehind Methods old bulk new = new ≡ old
ReadsBehind (Writes method path) old bulk new = new ≡ old
ReadsBehind (At method path) old bulk new = ReadsUnless (takes_much method) old bulk new

-- What the gates make of a request, by what its reader gave of its body.
pub record IsTarget {C : Type 0} (asking : Asking C) (stored : Bool) (old : BodyState) (target : Target)
    (new : BodyState) : Type 0 where
  pub bulk : Bulk
  pub reads : ReadsBehind (admitted asking.settings stored asking.head) old bulk new
  pub gated : target ≡ gates asking.settings stored asking.head bulk

-- ---- what is answered

module _ {S C F L E : Type 0} (served : Served S C F L E) where
  -- What a GET or HEAD gave, that passed the gates.
  pub record Gives (q : Query) (c : C) (s : S) (given : Given F) (t : S) : Type 0 where
    pub framed : (number : ℕ) → IsFramed (At q.method q.path) (reply_at q.fields number given)
    pub sound : (number : ℕ) → HasSoundBody (reply_at q.fields number given)
    -- it is right for what the store's calls answered
    pub heard : Heard served.view served.lists q c s given t
    -- and for what the store shows
    pub right : (looked opened : WebPath → Result Standing FsError) (listed : WebPath → Result (List Member) FsError)
        → ShowsFor served.view served.lists s c q looked opened listed
        → IsRightFor served.view q looked opened listed s given t
    -- how often the disk was asked
    pub asks : (calls : ℕ) → 0 < calls
        → (is_well_known q.settings q.method q.path ≡ false → AsksFor served.view served.lists q calls
        (served.view.state t).faults s)
        → AsksUnlessKnown calls (is_well_known q.settings q.method q.path) (is_set q.settings.redirect)
        (status_given given) (fields_given q.fields given) (served.view.state s).asked (served.view.state t).asked
    pub bounded : (each : ℕ) → (is_well_known q.settings q.method q.path ≡ false
        → AsksAtMostFor served.view served.lists q each s)
        → AtMostUnlessKnown (calls_to_send each (is_set q.settings.redirect))
        (is_well_known q.settings q.method q.path) (fields_given q.fields given)
        (served.view.state s).asked (served.view.state t).asked
    -- by which calls
    pub leads : LeadsOn served.view served.lists c s t
    -- nothing is open that wasn't, but the body's file
    pub life : OpenOnlyHeld served.view s given t
    pub most : HasMost (read_size_of q.settings.read_buf_size) given
    pub loan : served.view.loan t ≡ served.view.loan s

  -- Over this store a GET or HEAD is answered so.
  pub record GivesOver (q : Query) (c : C) (s : S) (r : Responded F) (t : S) : Type 0 where
    pub given : Given F
    pub gives : Gives q c s given t
    pub responds : Responds q.fields given r

  -- Setting a store's moment changes nothing of its disk.
  pub record SetsMoment (s : S) (now : Moment) : Type 0 where
    pub state : served.view.state (served.with_now s now) ≡ served.view.state s
    pub loan : served.view.loan (served.with_now s now) ≡ served.view.loan s

  -- There is a store, and over it, once its moment is set, a GET or HEAD is answered so.
  pub record Passes (q : Query) (asking : Asking C) (old : Option S) (r : Responded F) (new : Option S) : Type 0 where
    pub before : S
    pub after : S
    pub was : old ≡ Some before
    pub is : new ≡ Some after
    pub moment : SetsMoment before asking.now
    pub gives : GivesOver q asking.credentials (served.with_now before asking.now) r after

  -- There is a store, and over it, once its moment is set, a request that writes is answered so.
  pub record Performs (o : Order) (asking : Asking C) (old : Sides S) (r : Responded F) (new : Sides S) : Type 0 where
    pub before : S
    pub after : S
    pub was : old.store ≡ Some before
    pub is : new.store ≡ Some after
    pub moment : SetsMoment before asking.now
    pub writes : WritesOver served.view served.lists served.writes asking.credentials o old.body
        (served.with_now before asking.now) r after new.body

  -- The gates' refusal, or what OPTIONS is told, with the store and the reader as they were; or the answer of a GET or
  -- HEAD over the store; or that of a request that writes, which may read the body.
  abbrev pub AnswersTo : Target → Asking C → Sides S → Responded F → Sides S → Type 0
  AnswersTo (Refused status close) asking old r new = IsBare (refusal asking.head.headers status close) r × (new ≡ old)
  AnswersTo Methods asking old r new = IsBare (allowing asking.settings.allow
      (not (is_stored served.void old.store))) r × (new ≡ old)
  AnswersTo (At method path) asking old r new = Passes
      (query asking.settings asking.head.headers method path) asking old.store r new.store × (new.body ≡ old.body)
  AnswersTo (Writes method path) asking old r new = Performs
      (order asking.settings.prefix method path asking.head.headers) asking old r new

  -- Nothing is left open, and nothing changed, unless the request writes; there is a store where there was one.
  abbrev pub Stays : Asking C → Option S → Option S → Type 0
  Stays asking None None = Unit {0}
  Stays asking None (Some t) = ⊥
  Stays asking (Some s) None = ⊥
  Stays asking (Some s) (Some t) = KeepsUnless (asks_to_write asking.head) (served.view.state s) (served.view.state t)
      × (served.view.loan t ≡ served.view.loan s)

  -- the disk of a store met a fault
  abbrev pub RoseIn : Option S → Option S → Type 0
  RoseIn None t = ⊥
  RoseIn (Some s) None = ⊥
  RoseIn (Some s) (Some t) = Rose (served.view.state s).faults (served.view.state t).faults

  -- Why a request is answered 500. The gates refuse it so where its reader met a fault, and so does a method that reads
  -- it.
  abbrev pub FailsFor : Target → Asking C → Sides S → Sides S → Type 0
  FailsFor (Refused status close) asking old new = Rose old.body.faults new.body.faults
  FailsFor Methods asking old new = ⊥
  FailsFor (At method path) asking old new = FailsOver served.view served.lists
      (query asking.settings asking.head.headers method path) asking.credentials
      (λ s. served.with_now s asking.now) old.store new.store
  FailsFor (Writes method path) asking old new = Rose old.body.faults new.body.faults
      ⊎ RefusedIn served.view served.lists served.writes asking.credentials
      (λ s. served.with_now s asking.now) old.store new.store

  -- A request was answered.
  pub record Handles (asking : Asking C) (old : Sides S) (r : Responded F) (new : Sides S) : Type 0 where
    pub target : Target
    -- the reader behind the gates
    pub between : BodyState
    pub asks : IsTarget asking (is_stored served.void old.store) old.body target between
    pub answers : AnswersTo target asking (record old { body = between }) r new
    -- it is answered 500 only for a cause
    pub failed : (head_of r).status ≡ 500 → FailsFor target asking old new

  -- The reader was consumed with the request. What is behind it is left as by a reader that stands on the same loan.
  abbrev pub HandlesAll : {B : Type 0} → ReaderGhosts B → Asking C → Option S → B → Responded F → Option S → Type 0
  HandlesAll {B} reader asking old body r new = (after : B) × (reader.loan after ≡ reader.loan body)
      × Handles asking (record { store = old; body = reader.state body }) r
      (record { store = new; body = reader.state after })
