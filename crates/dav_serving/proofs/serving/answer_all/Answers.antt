use Rattle.std.proofs.Common.{◌∙◌, refl}
use Rattle.dav_serving.proofs.AnswersByPlayers.{broken_ruled, stopped_ruled, unsent_ruled, whole_ruled, whole_rules}
use Rattle.dav_serving.proofs.Progress.{none_served, meets, meets_shorter, served_more, served_on, served_read, shown_now}
use Rattle.dav_serving.proofs.RunEnds.{ends_broken, ends_closing, ends_failed, ends_over, ends_refused, ends_stopped, ends_too_much, ends_unfinished, ends_unsent, may_ask, starves, starves_answering}
use Rattle.dav_serving.proofs.serving.answer_all.Goals as goal

pub requests-init : goal.requests-init
requests-init g c = record { clock = refl; loan = refl; rules = refl; progress = none_served _ _ _ _ c.requires.unread c.requires.empty; may = λ left written may. may }

pub next_message-requires : goal.next_message-requires
next_message-requires g c = record {
  ready = λ passed kept left written later on wanting none pushes.
      c.requests.invariant.may left written (may_ask _ c.requires.waits (served_on c.requests.invariant.progress on pushes) none wanting);
}

pub requests-smaller : goal.requests-smaller
requests-smaller g c =
    let reads = rw c.in-Ok-Whole.field-0-is at c.in-Ok-Whole.ensures.reads in
    rw c.in-Ok-Open.ensures.input (meets_shorter _ _ _ _ _ _ c.in-Ok-Whole.ensures.within reads.on reads.gives.2)

pub requests-preserved : goal.requests-preserved
requests-preserved g c =
    let reads = rw c.in-Ok-Whole.field-0-is at c.in-Ok-Whole.ensures.reads in
    let made = rw c.in-Ok-Open.field-0-is at c.in-Ok-Open.ensures.ends in
    record {
      clock = c.now-now.ensures.stays ∙ c.requests.invariant.clock;
      loan = c.in-Ok-Open.ensures.loan ∙ c.requests.invariant.loan;
      rules = whole_rules made ∙ c.requests.invariant.rules;
      progress = rw c.in-Ok-Open.ensures.input (served_more (served_on c.requests.invariant.progress reads.on c.in-Ok-Whole.ensures.sends)
          (meets _ _ _ _ _ _ reads.gives refl (shown_now _ _ _ c.requests.invariant.clock c.now-now.ensures.shown)) refl
          (whole_ruled c.requests.invariant.rules made));
      may = λ left written may. c.in-Ok-Whole.ensures.stays left written (c.requests.invariant.may left written may);
    }

pub returns-in-Ok-Closed-clause-ends : goal.returns-in-Ok-Closed-clause-ends
returns-in-Ok-Closed-clause-ends g c =
    let reads = rw c.in-Ok-Whole.field-0-is at c.in-Ok-Whole.ensures.reads in
    ends_closing (g.K.Sink.stream c.answer.new.sink) c.answer.new.held.output _
    (served_on c.requests.invariant.progress reads.on c.in-Ok-Whole.ensures.sends)
    (meets _ _ _ _ _ _ reads.gives refl (shown_now _ _ _ c.requests.invariant.clock c.now-now.ensures.shown)) refl
    (whole_ruled c.requests.invariant.rules (rw c.in-Ok-Closed.field-0-is at c.in-Ok-Closed.ensures.ends)) c.finish.ensures

pub returns-in-Ok-SinkFailed-clause-ends : goal.returns-in-Ok-SinkFailed-clause-ends
returns-in-Ok-SinkFailed-clause-ends g c =
    let reads = rw c.in-Ok-Whole.field-0-is at c.in-Ok-Whole.ensures.reads in
    ends_unsent c.answer.new.held.output (served_on c.requests.invariant.progress reads.on c.in-Ok-Whole.ensures.sends)
    (meets _ _ _ _ _ _ reads.gives refl (shown_now _ _ _ c.requests.invariant.clock c.now-now.ensures.shown)) refl
    (unsent_ruled c.requests.invariant.rules (rw c.in-Ok-SinkFailed.field-0-is at c.in-Ok-SinkFailed.ensures.ends))

pub returns-in-Ok-Broke-clause-ends : goal.returns-in-Ok-Broke-clause-ends
returns-in-Ok-Broke-clause-ends g c =
    let reads = rw c.in-Ok-Whole.field-0-is at c.in-Ok-Whole.ensures.reads in
    ends_broken (g.K.Sink.stream c.answer.new.sink) c.answer.new.held.output _
    (served_on c.requests.invariant.progress reads.on c.in-Ok-Whole.ensures.sends)
    (meets _ _ _ _ _ _ reads.gives refl (shown_now _ _ _ c.requests.invariant.clock c.now-now.ensures.shown)) refl
    (broken_ruled c.requests.invariant.rules (rw c.in-Ok-Broke.field-0-is at c.in-Ok-Broke.ensures.ends)) c.finish-in-Ok-Broke.ensures

pub returns-in-Err-clause-memory : goal.returns-in-Err-clause-memory
returns-in-Err-clause-memory g c =
    let reads = rw c.in-Ok-Whole.field-0-is at c.in-Ok-Whole.ensures.reads in
    starves_answering _ (served_on c.requests.invariant.progress reads.on c.in-Ok-Whole.ensures.sends)
    (meets _ _ _ _ _ _ reads.gives refl (shown_now _ _ _ c.requests.invariant.clock c.now-now.ensures.shown)) refl
    (stopped_ruled c.requests.invariant.rules c.in-Err.ensures.memory)

pub returns-in-Ok-Refused-clause-ends : goal.returns-in-Ok-Refused-clause-ends
returns-in-Ok-Refused-clause-ends g c =
    let reads = rw c.in-Ok-Refused.field-0-is at c.in-Ok-Refused.ensures.reads in
    ends_refused c.in-Ok-Refused.flaw _ (served_on c.requests.invariant.progress reads.on c.in-Ok-Refused.ensures.sends) reads.gives refl refl c.refuse.ensures

pub returns-in-Ok-Over-clause-ends : goal.returns-in-Ok-Over-clause-ends
returns-in-Ok-Over-clause-ends g c =
    let reads = rw c.in-Ok-Over.field-0-is at c.in-Ok-Over.ensures.reads in
    ends_over _ (g.S.Client.stream c.requests.source) (served_on c.requests.invariant.progress reads.on c.in-Ok-Over.ensures.sends)
    (rw c.in-Ok-Over.field-0-is at c.in-Ok-Over.ensures.emptied) reads.gives.0 reads.gives.1 c.requests.invariant.progress.taken reads.gives.2

pub returns-in-Ok-Unfinished-clause-ends : goal.returns-in-Ok-Unfinished-clause-ends
returns-in-Ok-Unfinished-clause-ends g c =
    let reads = rw c.in-Ok-Unfinished.field-0-is at c.in-Ok-Unfinished.ensures.reads in
    ends_unfinished _ (g.S.Client.stream c.requests.source) (served_on c.requests.invariant.progress reads.on c.in-Ok-Unfinished.ensures.sends)
    (rw c.in-Ok-Unfinished.field-0-is at c.in-Ok-Unfinished.ensures.emptied) reads.gives.0 reads.gives.1 c.requests.invariant.progress.taken reads.gives.2

pub returns-in-Err-Failed-clause-ends : goal.returns-in-Err-Failed-clause-ends
returns-in-Err-Failed-clause-ends g c =
    let reads = rw c.in-Err-Failed.field-0-is at c.in-Err-Failed.ensures.reads in
    ends_failed _ (served_on c.requests.invariant.progress reads.on (rw c.in-Err-Failed.field-0-is at c.in-Err-Failed.ensures.sends))
    (rw c.in-Err-Failed.field-0-is at c.in-Err-Failed.ensures.emptied) reads.gives.0 reads.gives.1 c.requests.invariant.progress.serving.counted reads.gives.2

pub returns-in-Err-TooMuch-clause-ends : goal.returns-in-Err-TooMuch-clause-ends
returns-in-Err-TooMuch-clause-ends g c =
    let reads = rw c.in-Err-TooMuch.field-0-is at c.in-Err-TooMuch.ensures.reads in
    ends_too_much (served_on c.requests.invariant.progress reads.on (rw c.in-Err-TooMuch.field-0-is at c.in-Err-TooMuch.ensures.sends))
    (rw c.in-Err-TooMuch.field-0-is at c.in-Err-TooMuch.ensures.emptied) reads.gives.0 reads.gives.1

pub returns-in-Err-NoMemory-clause-memory : goal.returns-in-Err-NoMemory-clause-memory
returns-in-Err-NoMemory-clause-memory g c =
    let reads = rw c.in-Err-NoMemory.field-0-is at c.in-Err-NoMemory.ensures.reads in
    starves (served_on c.requests.invariant.progress reads.on (rw c.in-Err-NoMemory.field-0-is at c.in-Err-NoMemory.ensures.sends))

pub returns-in-Err-Unsent-clause-ends : goal.returns-in-Err-Unsent-clause-ends
returns-in-Err-Unsent-clause-ends g c =
    let reads = rw c.in-Err-Unsent.field-0-is at c.in-Err-Unsent.ensures.reads in
    ends_stopped _ _ (served_read c.requests.invariant.progress reads.on) (rw c.in-Err-Unsent.field-0-is at c.in-Err-Unsent.ensures.sends)
