-- Why a request is answered 500.
use Rattle.std.proofs.Common.{◌≡◌, ◌≤◌, ◌⊎◌, ℕ, Bool, true, false, Option, Some, Result, Ok, Err, refl, sym, ap, subst, ◌∙◌, inl, inr, arith}
use Rattle.std.specs.Prelude.{IfOk}
use Rattle.http.specs.Response.{head_of}
use Rattle.dav_io.specs.Counts.{Rose}
use Rattle.dav_model.specs.declared.target.Target.{Target}
use Rattle.dav_model.specs.declared.target.Target.TheVariants.{At, Methods, Refused, Writes}
use Rattle.dav_model.specs.Conditions.{Fields}
use Rattle.dav_model.specs.Due.{query}
use Rattle.dav_model.specs.Gates.{Bulk, none, some, much, broken, admitted, takes_much}
use Rattle.dav_model.proofs.GateStatuses.{gate_broken}
use Rattle.dav_core.specs.Disk.{DiskState}
use Rattle.dav_methods.specs.Answers.{RefusesUsually}
use Rattle.dav_methods.specs.Lines.{Given as Written}
use Rattle.dav_store.specs.Bodies.{BodyState}
use Rattle.dav_get.specs.Heard.{RefusesFew}
use Rattle.dav_get.specs.Right.{reply_at}
use Rattle.dav_get.specs.Table.{Given}
use Rattle.dav_get.proofs.HeardIsRight.{rose_through}
use Rattle.dav_config.specs.Handling.{AnswersTo, Asking, FailsFor, Handles, IsTarget, IsWritten, Passes, Performs, ReadsBehind, ReadsUnless, RoseIn, Served, SetsMoment, Sides, is_stored}
use Rattle.dav_config.specs.Reading.{Gave, ReadsBulk, nothing, more}
use Rattle.dav_config.specs.Responses.{Responded, Responds}
use Rattle.dav_config.specs.Writing.{Order, RefusedIn, Tells, asks_to_write, order}
use Rattle.dav_config.proofs.Causes.{cause_rose, heard_fails}
use Rattle.dav_config.proofs.WriteCauses.{Fails, PutCause, written_cause}
use Rattle.dav_config.proofs.WriteFaults.{way_rose}
use Rattle.dav_config.proofs.Unstored.{target_parted}

-- ---- the reader

gave_counts : (s : BodyState) (n : ℕ) (t : BodyState) → Gave s n t → s.faults ≤ t.faults
gave_counts s n t nothing = omega arith
gave_counts s n t (more k piece m u gave gives) = let before = gave_counts s k m gave in let now = gives.counts in omega arith

-- What is read behind the gates forgets no fault.
bulk_counts : (s t : BodyState) (bulk : Bulk) → ReadsBulk s bulk t → s.faults ≤ t.faults
bulk_counts s t none reads = let before = gave_counts s reads.count reads.last reads.gave in let now = reads.stops.1.counts in omega arith
bulk_counts s t some reads = let before = gave_counts s reads.count reads.last reads.gave in let now = reads.stops.2.counts in omega arith
bulk_counts s t much reads = let before = gave_counts s reads.count reads.last reads.gave in let same = reads.stops.1 in rw same before
bulk_counts s t broken reads = let before = gave_counts s reads.count reads.last reads.gave in let now = reads.stops.1.1.counts in omega arith

same_counts : (s t : BodyState) → t ≡ s → s.faults ≤ t.faults
same_counts s t same = rw same (omega arith)

unless_counts : (takes : Bool) (s t : BodyState) (bulk : Bulk) → ReadsUnless takes s bulk t → s.faults ≤ t.faults
unless_counts true s t bulk reads = same_counts s t reads.1
unless_counts false s t bulk reads = bulk_counts s t bulk reads

behind_counts : (target : Target) (s t : BodyState) (bulk : Bulk) → ReadsBehind target s bulk t → s.faults ≤ t.faults
behind_counts (Refused status close) s t bulk same = same_counts s t same
behind_counts Methods s t bulk same = same_counts s t same
behind_counts (Writes method path) s t bulk same = same_counts s t same
behind_counts (At method path) s t bulk reads = unless_counts (takes_much method) s t bulk reads

-- a reader whose body is broken met a fault
read_rose : (s t : BodyState) → ReadsBulk s broken t → Rose s.faults t.faults
read_rose s t reads =
    let (few, (e, gives)) = reads.stops in
    rose_through s.faults reads.last.faults t.faults t.faults (gave_counts s reads.count reads.last reads.gave) (gives.failed refl) (omega arith)

unless_rose : (takes : Bool) (s t : BodyState) → ReadsUnless takes s broken t → Rose s.faults t.faults
unless_rose true s t reads = let none_seen = reads.0 in cc
unless_rose false s t reads = read_rose s t reads

-- ---- the gates, or the store

never_200 : ◌≡◌ {A = ℕ} 200 500 → ⊥
never_200 e = omega arith

given_status : {F : Type 0} (fields : Fields) (given : Given F) (r : Responded F) → Responds fields given r → (head_of r).status ≡ 500 → (n : ℕ) → (reply_at fields n given).status ≡ 500
given_status fields (Ok given) r responds e n = sym responds.head.status ∙ e
given_status fields (Err error) r responds e n = sym responds.head.status ∙ e

told_fails : {F : Type 0} (fields : Fields) (given : Written) (r : Responded F) → Tells fields given r → (head_of r).status ≡ 500 → Fails given
told_fails fields (Ok outcome) r bare e = sym bare.head.status ∙ e
told_fails fields (Err error) r tells e = (tells.0, sym tells.1.head.status ∙ e)

module _ {S C F L E : Type 0} (served : Served S C F L E) where
  -- of a request that writes
  performs_fail : (o : Order) (asking : Asking C) (first : BodyState) (old new : Sides S) (r : Responded F) → first.faults ≤ old.body.faults
      → Performs served o asking old r new → (head_of r).status ≡ 500
      → Rose first.faults new.body.faults ⊎ RefusedIn served.view served.lists served.writes asking.credentials (λ s. served.with_now s asking.now) old.store new.store
  performs_fail o asking first old new r counts performs e =
      by (written_cause served.view served.lists served.writes asking.credentials o.method o old.body new.body (served.with_now performs.before asking.now) performs.after
      performs.writes.given performs.writes.table (told_fails o.fields performs.writes.given r performs.writes.tells e))
    where
      by : PutCause served.view served.lists served.writes asking.credentials (served.with_now performs.before asking.now) old.body performs.after new.body
          → Rose first.faults new.body.faults ⊎ RefusedIn served.view served.lists served.writes asking.credentials (λ s. served.with_now s asking.now) old.store new.store
      by (inl way) = inr (record { before = performs.before; after = performs.after; was = performs.was; is = performs.is; fails = way })
      by (inr rose) = inl (rose_through _ _ _ _ counts rose (omega arith))

  pub fails_for : (target : Target) (asking : Asking C) (old new : Sides S) (between : BodyState) (r : Responded F)
      → IsTarget asking (is_stored served.void old.store) old.body target between
      → AnswersTo served target asking (record old { body = between }) r new → (head_of r).status ≡ 500 → FailsFor served target asking old new
  fails_for (Refused status close) asking old new between r asks answers e =
      let is = gate_broken asking.settings (is_stored served.void old.store) asking.head asks.bulk status close (sym asks.gated) (sym answers.0.head.status ∙ e) in
      let behind = subst (λ (x : Target). ReadsBehind x old.body asks.bulk between) is.passed asks.reads in
      let rose = unless_rose (takes_much is.method) old.body between (subst (λ bulk. ReadsUnless (takes_much is.method) old.body bulk between) is.failed behind) in
      subst (λ (x : BodyState). Rose old.body.faults x.faults) (sym (ap (λ (x : Sides S). x.body) answers.1)) rose
  fails_for Methods asking old new between r asks answers e = absurd (never_200 (sym answers.0.head.status ∙ e))
  fails_for (Writes method path) asking old new between r asks performs e =
      performs_fail (order asking.settings.prefix method path asking.head.headers) asking old.body (record old { body = between }) new r
      (behind_counts (admitted asking.settings (is_stored served.void old.store) asking.head) old.body between asks.bulk asks.reads) performs e
  fails_for (At method path) asking old new between r asks answers e =
      let passes = answers.0 in record {
        before = passes.before;
        after = passes.after;
        was = passes.was;
        is = passes.is;
        cause = heard_fails served.view served.lists (query asking.settings asking.head.headers method path) asking.credentials
            (served.with_now passes.before asking.now) passes.after passes.gives.given passes.gives.gives.heard
            (given_status asking.head.headers passes.gives.given r passes.gives.responds e);
      }

  -- A request was answered.
  pub handled : {X : Type 0} (result : Result (Responded F) X) (target : Target) (asking : Asking C) (old : Sides S) (between : BodyState) (new : Sides S)
      → IsTarget asking (is_stored served.void old.store) old.body target between
      → IfOk result (λ r. AnswersTo served target asking (record old { body = between }) r new) → IfOk result (λ r. Handles served asking old r new)
  handled (Ok r) target asking old between new asks answers =
      record { target = target; between = between; asks = asks; answers = answers; failed = fails_for target asking old new between r asks answers }
  handled (Err e) target asking old between new asks answers = tt

  -- ---- a store that refuses few things

  moved_rose : (asking : Asking C) (s t : S) → SetsMoment served s asking.now → Rose (served.view.state (served.with_now s asking.now)).faults (served.view.state t).faults
      → Rose (served.view.state s).faults (served.view.state t).faults
  moved_rose asking s t moment rose = subst (λ (x : DiskState). Rose x.faults (served.view.state t).faults) moment.state rose

  rose_in : (s t : S) (old new : Option S) → old ≡ Some s → new ≡ Some t → Rose (served.view.state s).faults (served.view.state t).faults → RoseIn served old new
  rose_in s t old new was is rose = rw (was, is) rose

  same_some : (s t : S) (old : Option S) → old ≡ Some s → old ≡ Some t → s ≡ t
  same_some s t old was is = let e = sym was ∙ is in cc

  -- 500 comes only with a fault.
  pub handled_failed : RefusesFew served.view served.lists → (asking : Asking C)
      → (asks_to_write asking.head ≡ true → RefusesUsually served.view served.lists served.writes asking.credentials)
      → (old new : Sides S) (r : Responded F) → Handles served asking old r new
      → (head_of r).status ≡ 500 → Rose old.body.faults new.body.faults ⊎ RoseIn served old.store new.store
  handled_failed few asking usual old new r handles e =
      by handles.target (target_parted asking (is_stored served.void old.store) old.body handles.between handles.target handles.asks) handles.answers (handles.failed e)
    where
      moment_of : (s : S) (q : _) → old.store ≡ Some s → Passes served q asking old.store r new.store → SetsMoment served s asking.now
      moment_of s q was passes = subst (λ x. SetsMoment served x asking.now) (same_some passes.before s old.store passes.was was) passes.moment

      writing_moment : (s : S) (o : Order) (between : BodyState) → old.store ≡ Some s → Performs served o asking (record old { body = between }) r new → SetsMoment served s asking.now
      writing_moment s o between was performs = subst (λ x. SetsMoment served x asking.now) (same_some performs.before s old.store performs.was was) performs.moment

      by : (target : Target) → IsWritten target asking.head → AnswersTo served target asking (record old { body = handles.between }) r new → FailsFor served target asking old new
          → Rose old.body.faults new.body.faults ⊎ RoseIn served old.store new.store
      by (Refused status close) parted answers rose = inl rose
      by Methods parted answers never = absurd never
      by (At method path) parted answers fails =
          inr (rose_in fails.before fails.after old.store new.store fails.was fails.is
          (moved_rose asking fails.before fails.after (moment_of fails.before (query asking.settings asking.head.headers method path) fails.was answers.0)
          (cause_rose served.view served.lists few (query asking.settings asking.head.headers method path) asking.credentials
          (served.with_now fails.before asking.now) fails.after fails.cause)))
      by (Writes method path) parted performs (inl rose) = inl rose
      by (Writes method path) parted performs (inr fails) =
          inr (rose_in fails.before fails.after old.store new.store fails.was fails.is
          (moved_rose asking fails.before fails.after (writing_moment fails.before (order asking.settings.prefix method path asking.head.headers) handles.between fails.was performs)
          (way_rose served.view served.lists served.writes asking.credentials (usual parted.1) (served.with_now fails.before asking.now) fails.after fails.fails)))
