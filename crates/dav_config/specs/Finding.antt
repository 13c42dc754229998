-- What a request finds over any store: the one way of a handler and of a player.
use Rattle.std.specs.Prelude.{◌≡◌, ◌⊎◌, ◌<◌, ℕ, List, Bool, true, false, not, Option, None, Some, Result, Ok, Err}
use Rattle.std.specs.Borrow.{GName}
use Rattle.http.specs.declared.request.Parts.{Parts}
use Rattle.http.specs.Request.{head_of as asked_head}
use Rattle.dav_io.specs.declared.clock.Moment.{Moment}
use Rattle.dav_io.specs.declared.failure.NoMemory.{NoMemory}
use Rattle.dav_core.specs.declared.dav_error.DavError.TheVariants as dav
use Rattle.dav_core.specs.declared.error.FsError.{FsError}
use Rattle.dav_core.specs.declared.member.Member.{Member}
use Rattle.dav_core.specs.DavPath.{WebPath}
use Rattle.dav_core.specs.Disk.{DiskState}
use Rattle.dav_core.specs.Statuses.{closes, lacks_memory, status_of}
use Rattle.dav_model.specs.declared.settings.Settings.{Settings}
use Rattle.dav_model.specs.declared.target.Target.{Target}
use Rattle.dav_model.specs.declared.target.Target.TheVariants.{At, Methods, Refused, Writes as AsksToWrite}
use Rattle.dav_model.specs.Allowing.{allowing}
use Rattle.dav_model.specs.Announced.{HasSoundBody, IsFramed}
use Rattle.dav_model.specs.Calls.{AsksUnlessKnown, AtMostUnlessKnown, calls_to_send}
use Rattle.dav_model.specs.Conditions.{Fields}
use Rattle.dav_model.specs.Due.{Query, query}
use Rattle.dav_model.specs.Gates.{Bulk, none, admitted, bulk_of, gates, takes_much}
use Rattle.dav_model.specs.Head.{Reply, is_set, is_well_known, refusal}
use Rattle.dav_model.specs.Bodies.{read_size_of}
use Rattle.dav_store.specs.Bodies.{BodyState}
use Rattle.dav_store.specs.FileView.{FileView}
use Rattle.dav_store.specs.Frames.{KeepsOpen}
use Rattle.dav_store.specs.Leads.{LeadsOn}
use Rattle.dav_store.specs.Standing.{Standing}
use Rattle.dav_methods.specs.Lines.{Given as GivenBy}
use Rattle.dav_body.specs.declared.body.BodyType.TheVariants.{AsyncStream as Stream, Empty}
use Rattle.dav_get.specs.declared.body.GetBody.{GetBody}
use Rattle.dav_get.specs.Bodies.{Closes, IsHeld}
use Rattle.dav_get.specs.Calls.{AsksAtMostFor, AsksFor, fields_given, status_given}
use Rattle.dav_get.specs.Heard.{Heard}
use Rattle.dav_get.specs.Lives.{HasMost, OpenOnlyHeld}
use Rattle.dav_get.specs.Right.{reply_at}
use Rattle.dav_get.specs.Table.{Given}
use Rattle.dav_get.specs.Told.{IsRightFor, ShowsFor}
use Rattle.dav_config.specs.declared.asked.Asked.{Asked}
use Rattle.dav_config.specs.declared.asked.Content.{Content}
use Rattle.dav_config.specs.declared.asked.Content.TheVariants.{Whole, Behind}
use Rattle.dav_config.specs.declared.finding.Found.{Found}
use Rattle.dav_config.specs.Handling.{Served, SetsMoment}
use Rattle.dav_config.specs.Reading.{ReadsBulk}
use Rattle.dav_config.specs.Responses.{Responded, SaysHead, inner_of}
use Rattle.dav_config.specs.Writing.{Brought, ByTable, Order, behind, order, whole}
use Rattle.http.specs.Response.{head_of as response_head}

-- ---- what is asked

-- the settings, the head of a request, the credentials with which the store is asked, and the moment that is set behind
-- the gates, where it isn't set already
pub record Sought (C : Type 0) : Type 0 where
  pub settings : Settings
  pub head : Parts
  pub credentials : C
  pub now : Option Moment

abbrev pub request_of : {C X : Type 0} → Asked C X → Sought C
request_of asked = record {
  settings = asked.settings.now;
  head = asked_head asked.head.now;
  credentials = asked.credentials.now;
  now = asked.now;
}

-- the body of a request, by what is seen of its reader
abbrev pub brought : {B : Type 0} → (B → BodyState) → Content B → Brought
brought state (Whole bytes) = whole bytes.now
brought state (Behind body) = behind (state body)

-- the loan on which its reader stands, if it has one
abbrev pub loan_in : {B : Type 0} → (B → Option GName) → Content B → Option (Option GName)
loan_in loan (Whole bytes) = None
loan_in loan (Behind body) = Some (loan body)

-- ---- the gates

-- Bytes in memory are seen as they are. A reader is asked, unless the method stores what it gives.
abbrev pub SeesBulk : Bool → Brought → Bulk → Brought → Type 0
SeesBulk takes (whole bytes) bulk new = (bulk ≡ bulk_of bytes) × (new ≡ whole bytes)
SeesBulk true (behind old) bulk new = (bulk ≡ none) × (new ≡ behind old)
SeesBulk false (behind old) bulk new = (n : BodyState) × (new ≡ behind n) × ReadsBulk old bulk n

-- The gates of the head let a body be seen, or didn't.
abbrev pub SeesBehind : Target → Brought → Bulk → Brought → Type 0
SeesBehind (Refused status close) old bulk new = new ≡ old
SeesBehind Methods old bulk new = new ≡ old
SeesBehind (AsksToWrite method path) old bulk new = new ≡ old
SeesBehind (At method path) old bulk new = SeesBulk (takes_much method) old bulk new

-- What the gates make of a request, by what was seen of its body.
pub record IsGated {C : Type 0} (sought : Sought C) (stored : Bool) (old : Brought) (target : Target) (new : Brought)
    : Type 0 where
  pub bulk : Bulk
  pub sees : SeesBehind (admitted sought.settings stored sought.head) old bulk new
  pub gated : target ≡ gates sought.settings stored sought.head bulk

-- ---- what is found

-- An answer without a body.
pub record IsAlone {F : Type 0} (reply : Reply) (found : Found F) : Type 0 where
  pub status : found.outcome.status ≡ reply.status
  pub fields : found.outcome.fields ≡ reply.fields
  pub body : found.body ≡ None

-- What a GET or HEAD gave, or the refusal that an error is. Memory is refused where it was wanting before, or for that
-- refusal.
abbrev pub IsFoundFor : {F : Type 0} → Fields → Given F → Result (Found F) NoMemory → Type 0
IsFoundFor fields (Ok given) (Ok found) = (found.outcome ≡ given.0) × (found.body ≡ Some given.1)
IsFoundFor fields (Ok given) (Err x) = ⊥
IsFoundFor fields (Err e) (Ok found) =
    (lacks_memory e ≡ false) × IsAlone (refusal fields (status_of e) (closes e)) found
IsFoundFor fields (Err e) (Err x) = Unit {0}

-- The same of what a method that writes gave.
abbrev pub IsFoundOf : {F : Type 0} → Fields → GivenBy → Result (Found F) NoMemory → Type 0
IsFoundOf fields (Ok outcome) (Ok found) = (found.outcome ≡ outcome) × (found.body ≡ None)
IsFoundOf fields (Ok outcome) (Err x) = ⊥
IsFoundOf fields (Err e) (Ok found) =
    (lacks_memory e ≡ false) × IsAlone (refusal fields (status_of e) (closes e)) found
IsFoundOf fields (Err e) (Err x) = Unit {0}

module _ {S C F L E : Type 0} (served : Served S C F L E) where
  -- What a GET or HEAD promises, where memory may have been refused.
  pub record GivesOr (q : Query) (c : C) (s : S) (given : Given F) (t : S) : Type 0 where
    pub framed : (number : ℕ) → IsFramed (At q.method q.path) (reply_at q.fields number given)
    pub sound : (number : ℕ) → HasSoundBody (reply_at q.fields number given)
    pub heard : (given ≡ Err dav.NoMemory) ⊎ Heard served.view served.lists q c s given t
    pub right : (looked opened : WebPath → Result Standing FsError) (listed : WebPath → Result (List Member) FsError)
        → ShowsFor served.view served.lists s c q looked opened listed
        → (given ≡ Err dav.NoMemory) ⊎ IsRightFor served.view q looked opened listed s given t
    -- how often the disk was asked
    pub asks : (calls : ℕ) → 0 < calls
        → (is_well_known q.settings q.method q.path ≡ false → AsksFor served.view served.lists q calls
        (served.view.state t).faults s)
        → (given ≡ Err dav.NoMemory) ⊎ AsksUnlessKnown calls (is_well_known q.settings q.method q.path)
        (is_set q.settings.redirect) (status_given given) (fields_given q.fields given)
        (served.view.state s).asked (served.view.state t).asked
    pub bounded : (each : ℕ) → (is_well_known q.settings q.method q.path ≡ false
        → AsksAtMostFor served.view served.lists q each s)
        → (given ≡ Err dav.NoMemory) ⊎ AtMostUnlessKnown (calls_to_send each (is_set q.settings.redirect))
        (is_well_known q.settings q.method q.path) (fields_given q.fields given)
        (served.view.state s).asked (served.view.state t).asked
    -- by which calls
    pub leads : LeadsOn served.view served.lists c s t
    -- nothing is open that wasn't, but the body's file
    pub life : OpenOnlyHeld served.view s given t
    pub most : HasMost (read_size_of q.settings.read_buf_size) given

  -- Over this store a GET or HEAD finds this.
  pub record FindsAt (q : Query) (c : C) (s : S) (result : Result (Found F) NoMemory) (t : S) : Type 0 where
    pub given : Given F
    pub gives : GivesOr q c s given t
    pub found : IsFoundFor q.fields given result

  -- Over this store a request that writes finds this.
  pub record FindsWritten (o : Order) (c : C) (b : Brought) (s : S) (result : Result (Found F) NoMemory) (t : S)
      (n : Brought) : Type 0 where
    pub given : GivenBy
    pub table : ByTable served.view served.lists served.writes c o.method o b s given t n
    -- nothing is open that wasn't
    pub keeps : KeepsOpen (served.view.state s) (served.view.state t)
    pub found : IsFoundOf o.fields given result

  -- An answer of the gates, with the store and the body as they were.
  pub record FindsAlone (reply : Reply) (b : Brought) (s : S) (result : Result (Found F) NoMemory) (t : S) (n : Brought)
      : Type 0 where
    pub found : (f : Found F) → result ≡ Ok f → IsAlone reply f
    pub store : t ≡ s
    pub body : n ≡ b

  -- the store whose moment is set, where it wasn't
  abbrev pub settled : Option Moment → S → S
  settled None s = s
  settled (Some now) s = served.with_now s now

  -- which changes nothing of its disk
  abbrev pub Settles : Option Moment → S → Type 0
  Settles None s = Unit {0}
  Settles (Some now) s = SetsMoment served s now

  -- by what is asked for. The moment is set behind the gates.
  abbrev pub FindsFor : Target → Sought C → Brought → S → Result (Found F) NoMemory → S → Brought → Type 0
  FindsFor (Refused status close) sought b s result t n =
      FindsAlone (refusal sought.head.headers status close) b s result t n
  FindsFor Methods sought b s result t n = FindsAlone (allowing sought.settings.allow (served.void s)) b s result t n
  FindsFor (At method path) sought b s result t n =
      FindsAt (query sought.settings sought.head.headers method path) sought.credentials (settled sought.now s) result t
      × (n ≡ b) × Settles sought.now s
  FindsFor (AsksToWrite method path) sought b s result t n = FindsWritten
      (order sought.settings.prefix method path sought.head.headers) sought.credentials b (settled sought.now s) result
      t n × Settles sought.now s

  -- What is asked for, and what it finds.
  pub record ServesBy (sought : Sought C) (b : Brought) (s : S) (result : Result (Found F) NoMemory) (t : S)
      (n : Brought) : Type 0 where
    pub target : Target
    pub between : Brought
    pub gated : IsGated sought (not (served.void s)) b target between
    pub finds : FindsFor target sought between s result t n

  -- Where memory is refused at the gates, the store is as it was.
  abbrev pub Serves : Sought C → Brought → S → Result (Found F) NoMemory → S → Brought → Type 0
  Serves sought b s (Ok found) t n = ServesBy sought b s (Ok found) t n
  Serves sought b s (Err e) t n = (t ≡ s) ⊎ ServesBy sought b s (Err e) t n

-- ---- a response to what was found

abbrev pub IsHeldIn : {F : Type 0} → FileView F → DiskState → Option (GetBody F) → Type 0
IsHeldIn files s None = Unit {0}
IsHeldIn files s (Some body) = IsHeld files s body

abbrev pub EndsFound : {F : Type 0} → (F → ℕ) → DiskState → Option (GetBody F) → DiskState → Type 0
EndsFound handle s None t = t ≡ s
EndsFound handle s (Some body) t = Closes handle s body.file t

abbrev pub SaysBody : {F : Type 0} → Option (GetBody F) → Responded F → Type 0
SaysBody None r = inner_of r ≡ Empty
SaysBody (Some body) r = inner_of r ≡ Stream (record { steps = body; ended = false })

pub record Says {F : Type 0} (found : Found F) (r : Responded F) : Type 0 where
  pub head : SaysHead found.outcome.status found.outcome.fields (response_head r)
  pub body : SaysBody found.body r

module _ {S C F L E : Type 0} (served : Served S C F L E) where
  -- A request was answered over a store: what it finds was found, and said.
  pub record AnswersBy (sought : Sought C) (b : Brought) (s : S) (r : Responded F) (t : S) (n : Brought) : Type 0 where
    pub found : Found F
    pub serves : Serves served sought b s (Ok found) t n
    pub says : Says found r

  -- The body that was found is ended, if there is one.
  abbrev pub Undone : Result (Found F) NoMemory → S → S → Type 0
  Undone (Ok found) m t = EndsFound served.view.file.handle (served.view.state m) found.body (served.view.state t)
  Undone (Err e) m t = t ≡ m

  -- Memory was refused on the way, or for the response. What was made before stays, as the table of its method says.
  pub record StarvesBy (sought : Sought C) (b : Brought) (s t : S) (n : Brought) : Type 0 where
    pub result : Result (Found F) NoMemory
    pub between : S
    pub serves : Serves served sought b s result between n
    pub undone : Undone result between t
