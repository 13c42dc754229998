-- A request that is answered with a configuration.
use Rattle.std.proofs.Common.{◌≡◌, ℕ, List, [], ◌∷◌, Option, None, Some, Result, Ok, Err, refl, sym, subst}
use Rattle.std.specs.Prelude.{IfOk, IfSome, OnErr}
use Rattle.std.specs.Borrow.{GName}
use Rattle.http.specs.Response.{head_of}
use Rattle.dav_core.specs.Disk.{DiskState}
use Rattle.dav_core.proofs.UnchangedLemmas.{keeps_same}
use Rattle.dav_store.specs.declared.body_reader.BodyReader.{Ghosts as ReaderGhosts}
use Rattle.dav_store.specs.FileView.{FileView}
use Rattle.dav_body.specs.Bodies.{MayPoll}
use Rattle.dav_body.specs.declared.body.BodyType.{BodyType}
use Rattle.dav_body.specs.declared.fault.BodyFault.{BodyFault}
use Rattle.dav_body.specs.declared.fault.BodyFault.TheVariants.{Broken, NoMemory}
use Rattle.dav_get.specs.declared.body.GetBody.{GetBody}
use Rattle.dav_config.specs.Given.{Ends, HandlesGiven, HandlesWith, IsCollected, StaysWith, body_of_bytes}
use Rattle.dav_config.specs.Handling.{Asking, HandlesAll, Served}
use Rattle.dav_config.specs.Responses.{Responded, inner_of}
use Rattle.dav_config.specs.Writing.{asks_to_write}
use Rattle.dav_config.proofs.Staying.{kept_unless, stays_same}

-- bytes that are there may be polled with any disk
bytes_may : {F D : Type 0} (may : GetBody F → D → Type 0) (bytes : List ℕ) (d : D) → MayPoll may (body_of_bytes bytes) d
bytes_may may [] d = tt
bytes_may may (b ∷ bytes) d = tt

collected_may : {F D : Type 0} (may : GetBody F → D → Type 0) (answered r : Responded F) (all : Result (List ℕ) BodyFault) (d : D) → IsCollected (head_of answered) all r
    → MayPoll may (inner_of r) d
collected_may {F} may answered r (Ok bytes) d becomes = subst (λ (inner : BodyType (GetBody F)). MayPoll may inner d) (sym becomes.1) (bytes_may may bytes d)
collected_may {F} may answered r (Err Broken) d becomes = subst (λ (inner : BodyType (GetBody F)). MayPoll may inner d) (sym becomes.body) tt
collected_may may answered r (Err NoMemory) d becomes = absurd becomes

some_may : {F S D : Type 0} (may : GetBody F → D → Type 0) (inside : S → D) (answered r : Responded F) (all : Result (List ℕ) BodyFault) (store : Option S)
    → IsCollected (head_of answered) all r → IfSome store (λ s. MayPoll may (inner_of r) (inside s))
some_may may inside answered r all None becomes = tt
some_may may inside answered r all (Some s) becomes = collected_may may answered r all (inside s) becomes

module _ {S C F L E D : Type 0} (served : Served S C F L E) (files : FileView F) (state : D → DiskState) (loan : D → Option GName)
    (inside : S → D)
  where
    -- over the store that was given
    pub with_given : {B X : Type 0} (result : Result (Responded F) X) (reader : ReaderGhosts B) (asking : Asking C) (config old new : Option S) (given : S) (body : B)
        → IfOk result (λ r. HandlesGiven served files state loan inside reader asking given body r) → config ≡ Some given → new ≡ old
        → IfOk result (λ r. HandlesWith served files state loan inside reader asking config old body r new)
    with_given (Ok r) reader asking config old new given body handles is same = rw is (handles, same)
    with_given (Err e) reader asking config old new given body handles is same = tt

    pub given_may : {B X : Type 0} (result : Result (Responded F) X) (reader : ReaderGhosts B) (asking : Asking C) (store : Option S) (given : S) (body : B)
        (may : GetBody F → D → Type 0) → IfOk result (λ r. HandlesGiven served files state loan inside reader asking given body r)
        → IfOk result (λ r. IfSome store (λ s. MayPoll may (inner_of r) (inside s)))
    given_may (Ok r) reader asking store given body may handles = some_may may inside handles.answered r handles.gathers.all store handles.gathers.becomes
    given_may (Err e) reader asking store given body may handles = tt

    -- over the handler's own
    pub with_own : {B X : Type 0} (result : Result (Responded F) X) (reader : ReaderGhosts B) (asking : Asking C) (config old new : Option S) (body : B)
        → IfOk result (λ r. HandlesAll served reader asking old body r new) → config ≡ None
        → IfOk result (λ r. HandlesWith served files state loan inside reader asking config old body r new)
    with_own (Ok r) reader asking config old new body handles is = rw is handles
    with_own (Err e) reader asking config old new body handles is = tt

module _ {S C F L E : Type 0} (served : Served S C F L E) where
  pub ended_with : {A X : Type 0} (result : Result A X) (asking : Asking C) (config old new : Option S) (given : S) → OnErr result (Ends served asking given) → config ≡ Some given
      → new ≡ old → OnErr result (StaysWith served asking config old new)
  ended_with (Ok r) asking config old new given ends is same = tt
  ended_with (Err e) asking config old new given ends is same = rw is (ends, same)

  -- nothing was asked
  pub unasked : (asking : Asking C) (config old : Option S) → StaysWith served asking config old old
  unasked asking None old = stays_same served asking old
  unasked asking (Some given) old =
      ((given, record { keeps = kept_unless (asks_to_write asking.head) (served.view.state given) (served.view.state given) (keeps_same (served.view.state given)); loan = refl }), refl)
