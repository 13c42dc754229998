-- A body that was collected and ended leaves nothing open that wasn't.
use Rattle.std.proofs.Common.{◌≡◌, ◌≤◌, ◌⊎◌, ℕ, List, [], ◌∷◌, Bool, true, false, Option, None, Some, Result, Ok, Err, refl, sym, ap, subst, ◌∙◌, inl, inr, arith}
use Rattle.std.specs.Prelude.{IfOk}
use Rattle.std.specs.Borrow.{GName}
use Rattle.http.specs.Response.{head_of}
use Rattle.dav_io.specs.Counts.{Rose}
use Rattle.dav_core.specs.Disk.{DiskState}
use Rattle.dav_core.specs.Unchanged.{Keeps, KeepsBut}
use Rattle.dav_core.proofs.UnchangedLemmas.{but_then, closed_again, keeps_same}
use Rattle.dav_model.specs.declared.answer.Answer.TheVariants.{Broken as BrokenAnswer}
use Rattle.dav_model.specs.declared.target.Target.{Target}
use Rattle.dav_model.specs.declared.target.Target.TheVariants.{At, Methods, Refused, Writes}
use Rattle.dav_model.specs.Conditions.{Fields}
use Rattle.dav_model.specs.Due.{Query, query}
use Rattle.dav_store.specs.FileView.{FileView}
use Rattle.dav_store.specs.declared.body_reader.BodyReader.{Ghosts as ReaderGhosts}
use Rattle.dav_store.specs.Frames.{KeepsOpen}
use Rattle.dav_body.specs.declared.body.BodyType.{BodyType}
use Rattle.dav_body.specs.declared.body.BodyType.TheVariants.{Bytes, AsyncStream as Stream, Empty}
use Rattle.dav_body.specs.declared.fault.BodyFault.{BodyFault}
use Rattle.dav_body.specs.declared.fault.BodyFault.TheVariants.{Broken, NoMemory}
use Rattle.dav_body.specs.Collecting.{Collects, Gave, GaveThen}
use Rattle.dav_body.specs.Streams.{GivesUntil}
use Rattle.dav_get.specs.declared.body.GetBody.{GetBody}
use Rattle.dav_get.specs.declared.open_at.OpenAt.{OpenAt}
use Rattle.dav_get.specs.declared.part.BodyPart.{BodyPart}
use Rattle.dav_get.specs.declared.part.BodyPart.TheVariants.{Text, Slice as SliceOf}
use Rattle.dav_get.specs.Bodies.{Takes, TouchesOwn, left_of}
use Rattle.dav_get.specs.BodySteps.{StepGives, ends_of}
use Rattle.dav_get.specs.Lives.{OpenOnlyHeld, OpensOnly}
use Rattle.dav_get.specs.Table.{Given}
use Rattle.dav_get.proofs.HeardIsRight.{rose_through}
use Rattle.dav_get.proofs.Touching.{closes_touch, touches_none, touches_then}
use Rattle.dav_config.specs.Given.{Drains, Ends, EndsAs, Gathers, HandlesGiven, IsCollected, PollGives, file_of}
use Rattle.dav_config.specs.Handling.{AnswersTo, Asking, HandlesAll, IsWritten, Passes, Performs, Served, Sides, Stays}
use Rattle.dav_config.specs.Responses.{Responded, Responds, inner_of}
use Rattle.dav_config.specs.Writing.{KeepsUnless, Order, asks_to_write, order}
use Rattle.dav_config.proofs.Polling.{told_empty}
use Rattle.dav_config.proofs.Staying.{kept_unless, open_unless}
use Rattle.dav_config.proofs.Unstored.{target_parted}

-- ---- the disk, from poll to poll

module _ {F : Type 0} (files : FileView F) where
  touches_counts : (s t : DiskState) (f g : Option (OpenAt F)) → TouchesOwn files s f t g → s.faults ≤ t.faults
  touches_counts s t None None same = let e : t.faults ≡ s.faults = ap (λ (x : DiskState). x.faults) same in omega arith
  touches_counts s t None (Some g) touches = absurd touches
  touches_counts s t (Some h) None touches = touches.0.counts
  touches_counts s t (Some h) (Some g) touches = touches.0.counts

  step_touches : (s t : DiskState) (b c : GetBody F) (told : Option (Result (List ℕ) BodyFault)) → StepGives files s b told t c → TouchesOwn files s b.file t c.file
  step_touches s t b c None gives = gives.does.disk
  step_touches s t b c (Some (Ok bytes)) gives = gives.does.disk
  step_touches s t b c (Some (Err Broken)) gives = gives.does.disk
  step_touches s t b c (Some (Err NoMemory)) gives = gives.disk

  -- a body breaks only with its cause
  break_caused : (s : DiskState) (b : GetBody F) (cause : Type 0) (left rest : List BodyPart) → Takes files.seen s b cause left BrokenAnswer rest → cause
  break_caused s b cause [] rest (is, none) = cc
  break_caused s b cause (Text bytes ∷ parts) rest (is, more) = cc
  break_caused s b cause (SliceOf slice ∷ parts) rest (inl (piece, is, are, some, within, more)) = cc
  break_caused s b cause (SliceOf slice ∷ parts) rest (inr broke) = broke.2

  -- What was opened for the body is closed again.
  pub closed_all : (s m t : DiskState) (file : Option (OpenAt F)) → OpensOnly files.handle s file m → TouchesOwn files m file t None → Keeps s t
  closed_all s m t None opens same = subst (Keeps s) (sym same) opens
  closed_all s m t (Some h) opens touches = closed_again (files.handle h.file) s t (but_then (files.handle h.file) s m t opens.0 touches.0) opens.1 touches.1

  -- What an answer has open, if it has a file; and else what it left of what stands.
  abbrev OpensUnless : Bool → DiskState → Option (OpenAt F) → DiskState → Type 0
  OpensUnless writes s None t = KeepsUnless writes s t
  OpensUnless writes s (Some h) t = OpensOnly files.handle s (Some h) t

  opens_unless : (writes : Bool) (s t : DiskState) (file : Option (OpenAt F)) → OpensOnly files.handle s file t → OpensUnless writes s file t
  opens_unless writes s t None keeps = kept_unless writes s t keeps
  opens_unless writes s t (Some h) opens = opens

  pub closed_unless : (writes : Bool) (s m t : DiskState) (file : Option (OpenAt F)) → OpensUnless writes s file m → TouchesOwn files m file t None
      → KeepsUnless writes s t
  closed_unless writes s m t None keeps same = subst (KeepsUnless writes s) (sym same) keeps
  closed_unless writes s m t (Some h) opens touches = kept_unless writes s t (closed_all s m t (Some h) opens touches)

-- a file that was closed, by another view of its handle
ended_as : {F : Type 0} (one other : FileView F) → ((f : F) → other.handle f ≡ one.handle f) → (s t : DiskState) (file : Option (OpenAt F))
    → TouchesOwn one s file t None → TouchesOwn other s file t None
ended_as one other same s t None touches = touches
ended_as one other same s t (Some h) touches =
    subst (λ n. KeepsBut n s t × (t.live n ≡ None)) (sym (same h.file)) touches

module _ {F D : Type 0} (files : FileView F) (state : D → DiskState) (loan : D → Option GName) where
  abbrev Step : GetBody F → D → Option (Result (List ℕ) BodyFault) → GetBody F → D → Type 0
  Step b d told c e = StepGives files (state d) b told (state e) c × (loan e ≡ loan d)

  -- what polls leave of the disk
  pub record Leaves (f : Option (OpenAt F)) (d : D) (g : Option (OpenAt F)) (e : D) : Type 0 where
    pub touches : TouchesOwn files (state d) f (state e) g
    pub still : loan e ≡ loan d

  leaves_same : (f g : Option (OpenAt F)) (d e : D) → g ≡ f → e ≡ d → Leaves f d g e
  leaves_same f g d e same still = subst (λ (x : Option (OpenAt F)). Leaves f d x e) (sym same) (subst (λ (x : D). Leaves f d f x) (sym still)
      (record { touches = touches_none files (state d) f; still = refl }))

  leaves_then : (f g k : Option (OpenAt F)) (d m e : D) → Leaves f d g m → Leaves g m k e → Leaves f d k e
  leaves_then f g k d m e p q = record {
    touches = touches_then files (state d) (state m) (state e) f g k p.touches q.touches;
    still = q.still ∙ p.still;
  }

  until_leaves : (ended : Bool) (b : GetBody F) (d : D) (told : Option (Result (List ℕ) BodyFault)) (c : GetBody F) (e : D) (after : Bool)
      → GivesUntil Step ends_of ended b d told c e after → Leaves b.file d c.file e
  until_leaves true b d told c e after (none, same, still, over) = leaves_same b.file c.file d e (ap (λ (x : GetBody F). x.file) same) still
  until_leaves false b d told c e after (gives, over) = record { touches = step_touches files (state d) (state e) b c told gives.0; still = gives.1 }

  poll_leaves : (b : BodyType (GetBody F)) (d : D) (told : Option (Result (List ℕ) BodyFault)) (c : BodyType (GetBody F)) (e : D)
      → PollGives files state loan b d told c e → Leaves (file_of b) d (file_of c) e
  poll_leaves (Bytes (Some bytes)) d told c e (is, none, same) = leaves_same None (file_of c) d e (ap file_of none) same
  poll_leaves (Bytes None) d told c e (is, none, same) = leaves_same None (file_of c) d e (ap file_of none) same
  poll_leaves (Stream a) d told (Stream k) e gives = until_leaves a.ended a.steps d told k.steps e k.ended gives
  poll_leaves (Stream a) d told (Bytes bytes) e gives = absurd gives
  poll_leaves (Stream a) d told Empty e gives = absurd gives
  poll_leaves Empty d told c e (is, none, same) = leaves_same None (file_of c) d e (ap file_of none) same

  run_leaves : (b : BodyType (GetBody F)) (d : D) (pieces : List (List ℕ)) (c : BodyType (GetBody F)) (e : D)
      → Gave (PollGives files state loan) b d pieces c e → Leaves (file_of b) d (file_of c) e
  run_leaves b d [] c e (same, still) = leaves_same (file_of b) (file_of c) d e (ap file_of same) still
  run_leaves b d (piece ∷ pieces) c e (m, z, gives, more) =
      leaves_then (file_of b) (file_of m) (file_of c) d z e (poll_leaves b d (Some (Ok piece)) m z gives) (run_leaves m z pieces c e more)

  then_leaves : (b : BodyType (GetBody F)) (d : D) (pieces : List (List ℕ)) (last : Option (Result (List ℕ) BodyFault)) (c : BodyType (GetBody F)) (e : D)
      → GaveThen (PollGives files state loan) b d pieces last c e → Leaves (file_of b) d (file_of c) e
  then_leaves b d pieces last c e run =
      leaves_then (file_of b) (file_of run.before) (file_of c) d run.with e (run_leaves b d pieces run.before run.with run.gave)
      (poll_leaves run.before run.with last c e run.ends)

  pub collected_leaves : (b : BodyType (GetBody F)) (d : D) (all : Result (List ℕ) BodyFault) (c : BodyType (GetBody F)) (e : D)
      → Collects (PollGives files state loan) b d all c e → Leaves (file_of b) d (file_of c) e
  collected_leaves b d (Ok octets) c e (pieces, run, is) = then_leaves b d pieces None c e run
  collected_leaves b d (Err Broken) c e (pieces, run) = then_leaves b d pieces (Some (Err Broken)) c e run
  collected_leaves b d (Err NoMemory) c e (pieces, inl run) = run_leaves b d pieces c e run
  collected_leaves b d (Err NoMemory) c e (pieces, inr run) = then_leaves b d pieces (Some (Err NoMemory)) c e run

  -- A body that was ended has its file open no more.
  pub drained_touches : (body : BodyType (GetBody F)) (d : D) (all : Result (List ℕ) BodyFault) (e : D) → Drains files state loan body d all e
      → TouchesOwn files (state d) (file_of body) (state e) None
  drained_touches body d all e drains =
      touches_then files (state d) (state drains.polled) (state e) (file_of body) (file_of drains.rest) None
      (collected_leaves body d all drains.rest drains.polled drains.collects).touches
      (closes_touch files (state drains.polled) (state e) (file_of drains.rest) drains.ends)

  -- ---- a body that broke

  until_broken : (ended : Bool) (b : GetBody F) (d : D) (c : GetBody F) (e : D) (after : Bool) → GivesUntil Step ends_of ended b d (Some (Err Broken)) c e after
      → Rose (state d).faults (state e).faults
  until_broken true b d c e after (none, same, still, over) = cc
  until_broken false b d c e after (gives, over) = break_caused files (state d) b (Rose (state d).faults (state e).faults) (left_of b) (left_of c) gives.0.does.takes

  poll_broken : (b : BodyType (GetBody F)) (d : D) (c : BodyType (GetBody F)) (e : D) → PollGives files state loan b d (Some (Err Broken)) c e
      → Rose (state d).faults (state e).faults
  poll_broken (Bytes (Some bytes)) d c e (is, none, same) = cc
  poll_broken (Bytes None) d c e (is, none, same) = cc
  poll_broken (Stream a) d (Stream k) e gives = until_broken a.ended a.steps d k.steps e k.ended gives
  poll_broken (Stream a) d (Bytes bytes) e gives = absurd gives
  poll_broken (Stream a) d Empty e gives = absurd gives
  poll_broken Empty d c e (is, none, same) = cc

  -- The disk met a fault.
  pub drained_broken : (body : BodyType (GetBody F)) (d e : D) → Drains files state loan body d (Err Broken) e → Rose (state d).faults (state e).faults
  drained_broken body d e drains =
      let (pieces, run) = drains.collects in
      let before = touches_counts files (state d) (state run.with) (file_of body) (file_of run.before) (run_leaves body d pieces run.before run.with run.gave).touches in
      let after = touches_counts files (state drains.polled) (state e) (file_of drains.rest) None
      (closes_touch files (state drains.polled) (state e) (file_of drains.rest) drains.ends) in
      rose_through (state d).faults (state run.with).faults (state drains.polled).faults (state e).faults before (poll_broken run.before run.with drains.rest drains.polled run.ends) after

-- ---- a store that is given

module _ {S C F L E : Type 0} (served : Served S C F L E) where
  abbrev OpensFor : Asking C → S → Responded F → S → Type 0
  OpensFor asking s r t = OpensUnless served.view.file (asks_to_write asking.head) (served.view.state s) (file_of (inner_of r)) (served.view.state t)

  -- what an answer over a store leaves
  pub record Opened (asking : Asking C) (given : S) (r : Responded F) (new : Option S) : Type 0 where
    pub after : S
    pub is : new ≡ Some after
    pub opens : OpensFor asking given r after
    pub loan : served.view.loan after ≡ served.view.loan given

  given_opens : (fields : Fields) (given : Given F) (r : Responded F) (s t : S) → OpenOnlyHeld served.view s given t → Responds fields given r
      → OpensOnly served.view.file.handle (served.view.state s) (file_of (inner_of r)) (served.view.state t)
  given_opens fields (Ok given) r s t life responds =
      subst (λ (inner : BodyType (GetBody F)). OpensOnly served.view.file.handle (served.view.state s) (file_of inner) (served.view.state t)) (sym responds.body) life.1
  given_opens fields (Err e) r s t life bare =
      subst (λ (inner : BodyType (GetBody F)). OpensOnly served.view.file.handle (served.view.state s) (file_of inner) (served.view.state t)) (sym bare.body) life

  -- without a body
  bare_opens : (asking : Asking C) (given after : S) (r : Responded F) → inner_of r ≡ Empty
      → KeepsUnless (asks_to_write asking.head) (served.view.state given) (served.view.state after) → OpensFor asking given r after
  bare_opens asking given after r none keeps =
      subst (λ (inner : BodyType (GetBody F)). OpensUnless served.view.file (asks_to_write asking.head) (served.view.state given) (file_of inner) (served.view.state after))
      (sym none) keeps

  -- and with the store as it was
  same_opens : (asking : Asking C) (given : S) (r : Responded F) (old new : Sides S) → old.store ≡ Some given → inner_of r ≡ Empty → new ≡ old
      → Opened asking given r new.store
  same_opens asking given r old new was none same = record {
    after = given;
    is = ap (λ (x : Sides S). x.store) same ∙ was;
    opens = bare_opens asking given given r none (kept_unless (asks_to_write asking.head) (served.view.state given) (served.view.state given) (keeps_same (served.view.state given)));
    loan = refl;
  }

  passes_opens : (q : Query) (asking : Asking C) (given : S) (r : Responded F) (old new : Option S) → old ≡ Some given → Passes served q asking old r new
      → Opened asking given r new
  passes_opens q asking given r old new was passes =
      let e = passes.was in
      let same : passes.before ≡ given = cc in record {
        after = passes.after;
        is = passes.is;
        opens = opens_unless served.view.file (asks_to_write asking.head) (served.view.state given) (served.view.state passes.after) (file_of (inner_of r))
            (subst (λ (x : DiskState). OpensOnly served.view.file.handle x (file_of (inner_of r)) (served.view.state passes.after)) (passes.moment.state ∙ ap served.view.state same)
            (given_opens q.fields passes.gives.given r (served.with_now passes.before asking.now) passes.after passes.gives.gives.life passes.gives.responds));
        loan = passes.gives.gives.loan ∙ (passes.moment.loan ∙ ap served.view.loan same);
      }

  performs_opens : (o : Order) (asking : Asking C) (given : S) (r : Responded F) (old new : Sides S) → asks_to_write asking.head ≡ true → old.store ≡ Some given
      → Performs served o asking old r new → Opened asking given r new.store
  performs_opens o asking given r old new writes was performs =
      let e = performs.was in
      let same : performs.before ≡ given = cc in record {
        after = performs.after;
        is = performs.is;
        opens = bare_opens asking given performs.after r (told_empty o.fields performs.writes.given r performs.writes.tells)
            (open_unless (asks_to_write asking.head) (served.view.state given) (served.view.state performs.after) writes
            (subst (λ (x : DiskState). KeepsOpen x (served.view.state performs.after)) (performs.moment.state ∙ ap served.view.state same) performs.writes.keeps));
        loan = performs.writes.loan ∙ (performs.moment.loan ∙ ap served.view.loan same);
      }

  answer_opens : (target : Target) (asking : Asking C) (given : S) (r : Responded F) (old new : Sides S) → IsWritten target asking.head → old.store ≡ Some given
      → AnswersTo served target asking old r new → Opened asking given r new.store
  answer_opens (Refused status close) asking given r old new writes was answers = same_opens asking given r old new was answers.0.body answers.1
  answer_opens Methods asking given r old new writes was answers = same_opens asking given r old new was answers.0.body answers.1
  answer_opens (At method path) asking given r old new writes was answers =
      passes_opens (query asking.settings asking.head.headers method path) asking given r old.store new.store was answers.0
  answer_opens (Writes method path) asking given r old new writes was performs =
      performs_opens (order asking.settings.prefix method path asking.head.headers) asking given r old new writes.1 was performs

  pub handled_opens : {B : Type 0} (reader : ReaderGhosts B) (asking : Asking C) (given : S) (body : B) (r : Responded F) (new : Option S)
      → HandlesAll served reader asking (Some given) body r new → Opened asking given r new
  handled_opens reader asking given body r new (after, loan, handles) =
      answer_opens handles.target asking given r (record { store = Some given; body = handles.between }) (record { store = new; body = reader.state after })
      (target_parted asking _ (reader.state body) handles.between handles.target handles.asks) refl handles.answers

  pub stays_ended : (asking : Asking C) (given : S) (new : Option S) → Stays served asking (Some given) new → Ends served asking given
  stays_ended asking given None stays = absurd stays
  stays_ended asking given (Some t) stays = (t, record { keeps = stays.0; loan = stays.1 })

module _ {S C F L E D : Type 0} (served : Served S C F L E) (files : FileView F) (state : D → DiskState) (loan : D → Option GName)
    (inside : S → D)
  where
    pub gathered : {X : Type 0} (result : Result (Responded F) X) (answered : Responded F) (s t : S) (all : Result (List ℕ) BodyFault)
        → Drains files state loan (inner_of answered) (inside s) all (inside t) → IfOk result (IsCollected (head_of answered) all)
        → IfOk result (λ r. Gathers served files state loan inside answered s r t)
    gathered (Ok r) answered s t all drains becomes = record { all = all; drains = drains; becomes = becomes }
    gathered (Err e) answered s t all drains becomes = tt

    failed_so : (all : Result (List ℕ) BodyFault) (answered r : Responded F) (s t : S)
        → Drains files state loan (inner_of answered) (inside s) all (inside t) → IsCollected (head_of answered) all r → (head_of r).status ≡ 500
        → ((head_of answered).status ≡ 500) ⊎ Rose (state (inside s)).faults (state (inside t)).faults
    failed_so (Ok bytes) answered r s t drains becomes e = inl (rw becomes.0 at e)
    failed_so (Err Broken) answered r s t drains becomes e = inr (drained_broken files state loan (inner_of answered) (inside s) (inside t) drains)
    failed_so (Err NoMemory) answered r s t drains becomes e = absurd becomes

    -- the view is that of the disk inside and of its files
    module _ (is_inside : (s : S) → served.view.state s ≡ state (inside s)) (is_handle : (f : F) → served.view.file.handle f ≡ files.handle f) where
      gathered_ends : (asking : Asking C) (given between after : S) (answered : Responded F) → OpensFor served asking given answered between
          → served.view.loan between ≡ served.view.loan given
          → TouchesOwn files (state (inside between)) (file_of (inner_of answered)) (state (inside after)) None
          → served.view.loan after ≡ served.view.loan between → EndsAs served asking given after
      gathered_ends asking given between after answered opens same touches still = record {
        keeps = subst (KeepsUnless (asks_to_write asking.head) (served.view.state given)) (sym (is_inside after))
            (closed_unless served.view.file (asks_to_write asking.head) (served.view.state given) (state (inside between)) (state (inside after))
            (file_of (inner_of answered))
            (subst (OpensUnless served.view.file (asks_to_write asking.head) (served.view.state given) (file_of (inner_of answered))) (is_inside between) opens)
            (ended_as files served.view.file is_handle (state (inside between)) (state (inside after)) (file_of (inner_of answered)) touches));
        loan = still ∙ same;
      }

      -- The request was answered over the given store, which ended.
      pub given_handled : {B X : Type 0} (result : Result (Responded F) X) (reader : ReaderGhosts B) (asking : Asking C) (given between after : S) (body : B) (answered : Responded F)
          → HandlesAll served reader asking (Some given) body answered (Some between)
          → IfOk result (λ r. Gathers served files state loan inside answered between r after)
          → TouchesOwn files (state (inside between)) (file_of (inner_of answered)) (state (inside after)) None
          → served.view.loan after ≡ served.view.loan between
          → IfOk result (λ r. HandlesGiven served files state loan inside reader asking given body r) × Ends served asking given
      given_handled {X = X} result reader asking given between after body answered handles gathers touches still =
          let opened = handled_opens served reader asking given body answered (Some between) handles in
          let f = opened.is in
          let same : opened.after ≡ between = cc in
          let ends : EndsAs served asking given after = gathered_ends asking given between after answered
          (subst (λ (x : S). OpensFor served asking given answered x) same opened.opens)
          (subst (λ (x : S). served.view.loan x ≡ served.view.loan given) same opened.loan) touches still in
          (by result gathers ends, (after, ends))
        where
          by : (result : Result (Responded F) X) → IfOk result (λ r. Gathers served files state loan inside answered between r after) → EndsAs served asking given after
              → IfOk result (λ r. HandlesGiven served files state loan inside reader asking given body r)
          by (Ok r) gathers ends = record {
            answered = answered;
            between = between;
            after = after;
            handles = handles;
            gathers = gathers;
            ends = ends;
            failed = λ e. rw (is_inside between, is_inside after) (failed_so gathers.all answered r between after gathers.drains gathers.becomes e);
          }
          by (Err e) gathers ends = tt
