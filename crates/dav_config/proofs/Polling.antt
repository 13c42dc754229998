-- The body of an answer may be polled with what is inside the store.
use Rattle.std.proofs.Common.{◌≡◌, true, Option, None, Some, subst, sym, ◌∙◌}
use Rattle.std.specs.Prelude.{IfOk, IfSome}
use Rattle.dav_core.specs.Disk.{DiskState, can_read}
use Rattle.std.specs.Prelude.{Result, Ok, Err}
use Rattle.dav_model.specs.declared.target.Target.{Target}
use Rattle.dav_model.specs.Conditions.{Fields}
use Rattle.dav_model.specs.declared.target.Target.TheVariants.{At, Methods, Refused, Writes}
use Rattle.dav_body.specs.Bodies.{MayPoll}
use Rattle.dav_body.specs.declared.body.BodyType.{BodyType}
use Rattle.dav_body.specs.declared.body.BodyType.TheVariants.{Empty}
use Rattle.dav_store.specs.declared.body_reader.BodyReader.{Ghosts as ReaderGhosts}
use Rattle.dav_store.specs.FileView.{FileView, SameFiles}
use Rattle.dav_get.specs.declared.body.GetBody.{GetBody}
use Rattle.dav_get.specs.Bodies.{IsHeld}
use Rattle.dav_get.specs.Lives.{OpenOnlyHeld}
use Rattle.dav_get.specs.Table.{Given}
use Rattle.dav_methods.specs.Lines.{Given as Written}
use Rattle.dav_model.specs.Due.{Query, query}
use Rattle.dav_config.specs.Handling.{AnswersTo, Asking, Handles, HandlesAll, Passes, Served, Sides}
use Rattle.dav_config.specs.Responses.{Responded, Responds, inner_of}
use Rattle.dav_config.specs.Writing.{Tells}

-- what a request that writes is answered with has no body
pub told_empty : {F : Type 0} (fields : Fields) (given : Written) (r : Responded F) → Tells fields given r → inner_of r ≡ Empty
told_empty fields (Ok outcome) r bare = bare.body
told_empty fields (Err e) r tells = tells.1.body

-- a body that is held, by another view of its file
pub held_as : {F : Type 0} (one other : FileView F) → SameFiles one other → (s : DiskState) (b : GetBody F) → IsHeld one s b → IsHeld other s b
held_as one other same s b held = record {
  parts = held.parts;
  needs = held.needs;
  over = held.over;
  some = held.some;
  room = held.room;
  file = λ h is.
      let at = held.file h is in record {
        live = subst (λ n. can_read (s.live n) ≡ true) (same.handle h.file) at.live;
        reads = same.reads_from h.file s at.reads;
        place = λ f stands. at.place f (same.seen h.file s ∙ stands);
      };
}

module _ {S C F L E D : Type 0} (served : Served S C F L E) (files : FileView F) (state : D → DiskState) (inside : S → D)
    (same : (s : S) → served.view.state s ≡ state (inside s)) (same_files : SameFiles served.view.file files)
  where
    -- such a body may be polled with this disk
    abbrev May : BodyType (GetBody F) → D → Type 0
    May inner d = MayPoll (λ (b : GetBody F) (d : D). IsHeld files (state d) b) inner d

    given_may : (fields : Fields) (given : Given F) (r : Responded F) (s t : S) → OpenOnlyHeld served.view s given t → Responds fields given r → May (inner_of r) (inside t)
    given_may fields (Ok given) r s t life responds =
        subst (λ (inner : BodyType (GetBody F)). May inner (inside t)) (sym responds.body)
        (held_as served.view.file files same_files (state (inside t)) given.1
        (subst (λ (x : DiskState). IsHeld served.view.file x given.1) (same t) life.0))
    given_may fields (Err e) r s t life bare = subst (λ (inner : BodyType (GetBody F)). May inner (inside t)) (sym bare.body) tt

    -- a response without a body may be polled with any disk
    bare_may : (r : Responded F) (store : Option S) → inner_of r ≡ Empty → IfSome store (λ s. May (inner_of r) (inside s))
    bare_may r None none = tt
    bare_may r (Some t) none = subst (λ (inner : BodyType (GetBody F)). May inner (inside t)) (sym none) tt

    passes_may : (q : Query) (asking : Asking C) (old new : Option S) (r : Responded F) → Passes served q asking old r new → IfSome new (λ s. May (inner_of r) (inside s))
    passes_may q asking old None r passes = tt
    passes_may q asking old (Some t) r passes =
        let is = passes.is in
        let same_store : passes.after ≡ t = cc in
        subst (λ (s : S). May (inner_of r) (inside s)) same_store
        (given_may q.fields passes.gives.given r (served.with_now passes.before asking.now) passes.after passes.gives.gives.life passes.gives.responds)

    answer_may : (target : Target) (asking : Asking C) (old new : Sides S) (r : Responded F) → AnswersTo served target asking old r new
        → IfSome new.store (λ s. May (inner_of r) (inside s))
    answer_may (Refused status close) asking old new r answers = bare_may r new.store answers.0.body
    answer_may Methods asking old new r answers = bare_may r new.store answers.0.body
    answer_may (At method path) asking old new r answers = passes_may (query asking.settings asking.head.headers method path) asking old.store new.store r answers.0
    answer_may (Writes method path) asking old new r performs = bare_may r new.store (told_empty asking.head.headers performs.writes.given r performs.writes.tells)

    handled_may : (asking : Asking C) (old new : Sides S) (r : Responded F) → Handles served asking old r new → IfSome new.store (λ s. May (inner_of r) (inside s))
    handled_may asking old new r handles = answer_may handles.target asking (record old { body = handles.between }) new r handles.answers

    -- the same where an answer was refused
    pub handled_may_where : {B X : Type 0} (result : Result (Responded F) X) (reader : ReaderGhosts B) (asking : Asking C) (old new : Option S) (body : B)
        → IfOk result (λ r. HandlesAll served reader asking old body r new) → IfOk result (λ r. IfSome new (λ s. May (inner_of r) (inside s)))
    handled_may_where (Ok r) reader asking old new body (after, loan, handles) =
        handled_may asking (record { store = old; body = reader.state body }) (record { store = new; body = reader.state after }) r handles
    handled_may_where (Err e) reader asking old new body handles = tt
