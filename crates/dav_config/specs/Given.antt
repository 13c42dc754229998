-- What a handler answers over a store that is given with the request, and ends with it.
use Rattle.std.specs.Prelude.{◌≡◌, ◌⊎◌, ℕ, List, [], ◌∷◌, Option, None, Some, Result, Ok, Err}
use Rattle.std.specs.Borrow.{GName}
use Rattle.http.specs.declared.response.Parts.{Parts}
use Rattle.http.specs.Response.{head_of}
use Rattle.dav_io.specs.Counts.{Rose}
use Rattle.dav_core.specs.Disk.{DiskState}
use Rattle.dav_model.specs.Due.{failure}
use Rattle.dav_store.specs.declared.body_reader.BodyReader.{Ghosts as ReaderGhosts}
use Rattle.dav_store.specs.FileView.{FileView}
use Rattle.dav_body.specs.declared.body.BodyType.{BodyType}
use Rattle.dav_body.specs.declared.body.BodyType.TheVariants.{Bytes, AsyncStream as Stream, Empty}
use Rattle.dav_body.specs.declared.fault.BodyFault.{BodyFault}
use Rattle.dav_body.specs.declared.fault.BodyFault.TheVariants.{Broken, NoMemory}
use Rattle.dav_body.specs.Bodies.{BodyGives}
use Rattle.dav_body.specs.Collecting.{Collects}
use Rattle.dav_get.specs.declared.body.GetBody.{GetBody}
use Rattle.dav_get.specs.declared.open_at.OpenAt.{OpenAt}
use Rattle.dav_get.specs.Bodies.{Closes}
use Rattle.dav_get.specs.BodySteps.{StepGives, ends_of}
use Rattle.dav_config.specs.Handling.{Asking, HandlesAll, Served, Stays}
use Rattle.dav_config.specs.Responses.{IsBare, Responded, inner_of}
use Rattle.dav_config.specs.Writing.{KeepsUnless, asks_to_write}

-- ---- what was collected

-- bytes as a body: nothing where there are none
abbrev pub body_of_bytes : {S : Type 0} → List ℕ → BodyType S
body_of_bytes [] = Empty
body_of_bytes (b ∷ bytes) = Bytes (Some (b ∷ bytes))

-- The head stays, and the body is what was collected; or 500, where it broke. Want of memory is no answer.
abbrev pub IsCollected : {F : Type 0} → Parts → Result (List ℕ) BodyFault → Responded F → Type 0
IsCollected head (Ok bytes) r = (head_of r ≡ head) × (inner_of r ≡ body_of_bytes bytes)
IsCollected head (Err Broken) r = IsBare failure r
IsCollected head (Err NoMemory) r = ⊥

-- the file that a body has open, if it has one
abbrev pub file_of : {F : Type 0} → BodyType (GetBody F) → Option (OpenAt F)
file_of (Stream a) = a.steps.file
file_of (Bytes bytes) = None
file_of Empty = None

-- A body's file is closed, where it is still open.
abbrev pub EndsBody : {F : Type 0} → (F → ℕ) → DiskState → BodyType (GetBody F) → DiskState → Type 0
EndsBody handle s body t = Closes handle s (file_of body) t

module _ {F D : Type 0} (files : FileView F) (state : D → DiskState)
    (loan : D → Option GName) where
  -- what a poll of a body with the disk gives
  abbrev pub PollGives : BodyType (GetBody F) → D → Option (Result (List ℕ) BodyFault) → BodyType (GetBody F) → D
      → Type 0
  PollGives = BodyGives (λ b d told c e. StepGives files (state d) b told (state e) c × (loan e ≡ loan d)) ends_of

  -- A body was collected with the disk, and ended.
  pub record Drains (body : BodyType (GetBody F)) (d : D) (all : Result (List ℕ) BodyFault) (e : D) : Type 0 where
    pub rest : BodyType (GetBody F)
    pub polled : D
    pub collects : Collects PollGives body d all rest polled
    pub ends : EndsBody files.handle (state polled) rest (state e)

-- ---- a store that is given

module _ {S C F L E : Type 0} (served : Served S C F L E) where
  -- It ended with nothing open that wasn't, on the loan on which it stood; and as it was, unless the request writes.
  pub record EndsAs (asking : Asking C) (given after : S) : Type 0 where
    pub keeps : KeepsUnless (asks_to_write asking.head) (served.view.state given) (served.view.state after)
    pub loan : served.view.loan after ≡ served.view.loan given

  abbrev pub Ends : Asking C → S → Type 0
  Ends asking given = (after : S) × EndsAs asking given after

  -- Nothing is left open. Over a store that is given the handler's own stays as it is.
  abbrev pub StaysWith : Asking C → Option S → Option S → Option S → Type 0
  StaysWith asking None old new = Stays served asking old new
  StaysWith asking (Some given) old new = Ends asking given × (new ≡ old)

module _ {S C F L E D : Type 0} (served : Served S C F L E) (files : FileView F) (state : D → DiskState)
    (loan : D → Option GName) (inside : S → D) where
  -- An answer's body was collected with the store's disk, and the answer made of it.
  pub record Gathers (answered : Responded F) (s : S) (r : Responded F) (t : S) : Type 0 where
    pub all : Result (List ℕ) BodyFault
    pub drains : Drains files state loan (inner_of answered) (inside s) all (inside t)
    pub becomes : IsCollected (head_of answered) all r

  -- A request was answered over the store that is given with it, and the answer gathered.
  pub record HandlesGiven {B : Type 0} (reader : ReaderGhosts B) (asking : Asking C) (given : S) (body : B)
      (r : Responded F) : Type 0 where
    pub answered : Responded F
    pub between : S
    pub after : S
    pub handles : HandlesAll served reader asking (Some given) body answered (Some between)
    pub gathers : Gathers answered between r after
    pub ends : EndsAs served asking given after
    -- Gathering makes 500 of another status only where the disk's count rose.
    pub failed : (head_of r).status ≡ 500 → ((head_of answered).status ≡ 500)
        ⊎ Rose (served.view.state between).faults (served.view.state after).faults

  -- A request was answered by a configuration's store, or else by the handler's own.
  abbrev pub HandlesWith : {B : Type 0} → ReaderGhosts B → Asking C → Option S → Option S → B → Responded F → Option S
      → Type 0
  HandlesWith reader asking None old body r new = HandlesAll served reader asking old body r new
  HandlesWith reader asking (Some given) old body r new = HandlesGiven reader asking given body r × (new ≡ old)
