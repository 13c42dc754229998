-- How a run ends, by what was served and what happened then.
use Rattle.dav_model.specs.Play.{Playing, Stage}
use Rattle.std.proofs.Common.{◌≡◌, ◌<◌, ◌≤◌, ◌+◌, ◌^◌, ◌++◌, ℕ, List, [], ◌∷◌, true, false, Ok, Err, Result, length, sym, subst, ◌∙◌, refl, inl, inr, arith, append-nil, true≢false}
use Rattle.http.specs.declared.request.Parts.{Parts}
use Rattle.dav_io.specs.Counts.{Rose}
use Rattle.dav_io.specs.Told.{Both}
use Rattle.dav_io.proofs.ToldLemmas.{both_then, both_map}
use Rattle.dav_io.specs.Outside.{Stream}
use Rattle.dav_io.specs.declared.clock.Moment.{Moment}
use Rattle.dav_io.specs.declared.failure.Failed.{Failed as SinkFailure}
use Rattle.dav_model.specs.Rules.{Knowledge}
use Rattle.dav_model.specs.Trail.{Point}
use Rattle.dav_model.specs.declared.step.Step.TheVariants.{Poll, Turn}
use Rattle.dav_model.specs.declared.answer.Answer.TheVariants.{Broken, Done}
use Rattle.dav_wire.specs.Answers.{refusal_text}
use Rattle.dav_wire.specs.Messages.{Message, Messages, MessageRefusal, IsMessageUnfinished}
use Rattle.dav_wire.specs.Reading.{Pending}
use Rattle.dav_wire.specs.Writing.{Pushes, Sent, SentAll, SentFront}
use Rattle.dav_wire.specs.declared.next.Flaw.{Flaw}
use Rattle.dav_wire.proofs.MessageLemmas.{message_refusal_stays}
use Rattle.dav_wire.proofs.Pushing.{none_sent, sent_on, sent_on_front, sent_flush, sent_flush_front, sent_push, sent_push_front, sent_then, sent_then_front, sent_all_of, sent_some}
use Rattle.dav_serving.specs.declared.ending.Ending.{Ending}
use Rattle.dav_serving.specs.declared.ending.Ending.TheVariants.{Over, Closed as RunClosed, Refused, Unfinished, SourceFailed, SinkFailed as RunSinkFailed, DiskFailed, TooMuch}
use Rattle.dav_serving.specs.Exchange.{Exchange, begun_wire_of, wire_of}
use Rattle.dav_serving.specs.Ends.{BrokenOff, IsAnswerTo, MemoryStopped, Reached, SinkStopped, Whole}
use Rattle.dav_serving.specs.Serving.{Setup, wires, Serving, LeftIs, IsRefusedBy, IsEmptied, TookBytes, TookFewer, IsWanting, Faces, HoldsSoFar, Partway, nothing, refusal, exchange, Halfway, ServedPartly, Starved, EndsBy, Finishes, ready}
use Rattle.dav_serving.specs.Stages.{Outlet, Outside, outlet_of, outside_of, stage_at, work_of}
use Rattle.dav_serving.proofs.ExchangesEnd.{rose_between}
use Rattle.dav_serving.proofs.Progress.{Progress, Meets, faces, chain_counts, serving_more, so_far, none_halfway, wires_more, working}

-- ---- what is begun behind the exchanges that were played

halfway : {setup : Setup} {before : Outside} {held : Pending} {waiting : List ℕ} {mid next : Outside} {knows : Knowledge} (v : Progress setup before held waiting mid knows) → next.source ≡ mid.source → (bytes : List ℕ)
    → Partway setup (λ flaw. LeftIs (IsRefusedBy flaw) before.source next.source held.bytes) held.bytes (ready setup.rules knows mid.disk) bytes next.disk → Halfway setup before next v.exchanges bytes
halfway {setup = setup} {before = before} {held = held} {mid = mid} {knows = knows} v same bytes part = record {
  closed = false;
  held = held.bytes;
  place = ready setup.rules knows mid.disk;
  serving = subst (λ z. Serving setup false before z held.bytes v.exchanges (ready setup.rules knows mid.disk)) (sym same) v.serving;
  partway = part;
  behind = λ e. absurd (true≢false (sym e));
}

-- the same exchange by another predicate
pub reached_as : (Is As : Exchange → Type 0) {a : Stage} {bytes : List ℕ} {t : _} → ((x : Exchange) → Is x → As x) → Reached Is a bytes t → Reached As a bytes t
reached_as Is As f (inl u) = inl (record {
  exchange = u.exchange;
  is = f u.exchange u.is;
  no_pieces = u.no_pieces;
  answers = u.answers;
  result = u.result;
  after = u.after;
  played = u.played;
  none = u.none;
})
reached_as Is As f (inr (inl u)) = inr (inl (record {
  exchange = u.exchange;
  is = f u.exchange u.is;
  more = u.more;
  next = u.next;
  answers = u.answers;
  result = u.result;
  after = u.after;
  played = u.played;
  are = u.are;
}))
reached_as Is As f (inr (inr u)) = inr (inr (record { exchange = u.exchange; is = f u.exchange u.is; after = u.after; played = u.played; are = u.are }))

-- ---- an answer is the last

-- an answer closes, and then all is given to the sink
pub ends_closing : {setup : Setup} {before : Outside} {held : Pending} {waiting : List ℕ} {mid next : Outside} {knows : Knowledge} {q : Playing} {parts : Parts} {body : List ℕ} {now : Moment} {rest : Pending} (between : Stream) (later : List ℕ)
    (end : Ending) → Progress setup before held waiting mid knows → Meets setup.shown held parts body now rest → next.source ≡ mid.source
    → Whole (IsAnswerTo parts body now) true (working setup waiting mid knows) (work_of between later (stage_at next.disk q)) → Finishes RunClosed (outlet_of between later) next.sink end → EndsBy setup before next end
ends_closing {setup = setup} {before = before} {waiting = waiting} {mid = mid} {next = next} {knows = knows} {q = q} {rest = rest} between later end v m same made (inl (is, given)) =
    let x = made.exchange in
    let sent = sent_then before.sink mid.sink between (wires v.exchanges) waiting (wire_of x) later v.sent made.sent in
    subst (EndsBy setup before next) (sym is) (record {
      held = rest.bytes;
      exchanges = v.exchanges ++ x ∷ [];
      knows = q.knows;
      serving = subst (λ z. Serving setup true before z rest.bytes (v.exchanges ++ x ∷ []) (ready setup.rules q.knows next.disk)) (sym same)
          (serving_more true (working setup waiting mid knows) _ v m refl made);
      sent = subst (λ z. SentAll before.sink next.sink z) (wires_more v.exchanges x)
          (sent_all_of before.sink next.sink (wires v.exchanges ++ wire_of x) [] refl (sent_on before.sink between next.sink (wires v.exchanges ++ wire_of x) later [] sent given));
    })
ends_closing {setup = setup} {before = before} {waiting = waiting} {mid = mid} {next = next} {knows = knows} {q = q} {rest = rest} between later end v m same made (inr (is, given, rose)) =
    let x = made.exchange in
    let sent = sent_then before.sink mid.sink between (wires v.exchanges) waiting (wire_of x) later v.sent made.sent in
    subst (EndsBy setup before next) (sym is) (
      rose_between before.sink.faults between.faults between.faults next.sink.faults sent.counts (omega arith) rose,
      record {
        exchanges = v.exchanges ++ x ∷ [];
        bytes = [];
        halfway = record {
          closed = true;
          held = rest.bytes;
          place = ready setup.rules q.knows next.disk;
          serving = subst (λ z. Serving setup true before z rest.bytes (v.exchanges ++ x ∷ []) (ready setup.rules q.knows next.disk)) (sym same)
              (serving_more true (working setup waiting mid knows) _ v m refl made);
          partway = nothing refl refl;
          behind = λ e. refl;
        };
        sent = subst (λ z. SentFront before.sink next.sink z) (wires_more v.exchanges x ∙ sym (append-nil (wires (v.exchanges ++ x ∷ []))))
            (sent_on_front before.sink between next.sink (wires v.exchanges ++ wire_of x) later sent given);
      },
    )

-- the sink failed in an answer
pub ends_unsent : {setup : Setup} {before : Outside} {held : Pending} {waiting : List ℕ} {mid next : Outside} {knows : Knowledge} {parts : Parts} {body : List ℕ} {now : Moment} {rest : Pending} (later : List ℕ)
    → Progress setup before held waiting mid knows → Meets setup.shown held parts body now rest → next.source ≡ mid.source
    → SinkStopped (IsAnswerTo parts body now) (working setup waiting mid knows) (outlet_of next.sink later) next.disk → EndsBy setup before next RunSinkFailed
ends_unsent {setup = setup} {before = before} {held = held} {waiting = waiting} {mid = mid} {next = next} {parts = parts} {body = body} {now = now} later v m same made = (
  rose_between before.sink.faults mid.sink.faults mid.sink.faults next.sink.faults v.sent.counts (omega arith) made.rose,
  record {
    exchanges = v.exchanges;
    bytes = made.bytes;
    halfway = halfway v same made.bytes (exchange (reached_as (IsAnswerTo parts body now) (Faces setup held.bytes) (faces m) made.reached));
    sent = sent_then_front before.sink mid.sink next.sink (wires v.exchanges) waiting made.bytes v.sent made.sent;
  },
)

-- memory was refused in an answer
pub starves_answering : {setup : Setup} {before : Outside} {held : Pending} {waiting : List ℕ} {mid next : Outside} {knows : Knowledge} {parts : Parts} {body : List ℕ} {now : Moment} {rest : Pending} (later : List ℕ)
    → Progress setup before held waiting mid knows → Meets setup.shown held parts body now rest → next.source ≡ mid.source
    → MemoryStopped (IsAnswerTo parts body now) (working setup waiting mid knows) (outlet_of next.sink later) next.disk → Starved setup before later next
starves_answering {setup = setup} {before = before} {held = held} {waiting = waiting} {mid = mid} {next = next} {parts = parts} {body = body} {now = now} later v m same made = record {
  exchanges = v.exchanges;
  bytes = made.bytes;
  halfway = halfway v same made.bytes (exchange (reached_as (IsAnswerTo parts body now) (Faces setup held.bytes) (faces m) made.reached));
  sent = sent_then before.sink mid.sink next.sink (wires v.exchanges) waiting made.bytes later v.sent made.sent;
}

-- a body broke in an answer, and then all is given to the sink
pub ends_broken : {setup : Setup} {before : Outside} {held : Pending} {waiting : List ℕ} {mid next : Outside} {knows : Knowledge} {q : Playing} {parts : Parts} {body : List ℕ} {now : Moment} {rest : Pending} (between : Stream) (later : List ℕ)
    (end : Ending) → Progress setup before held waiting mid knows → Meets setup.shown held parts body now rest → next.source ≡ mid.source
    → BrokenOff (IsAnswerTo parts body now) (working setup waiting mid knows) (work_of between later (stage_at next.disk q)) → Finishes DiskFailed (outlet_of between later) next.sink end → EndsBy setup before next end
ends_broken {setup = setup} {before = before} {held = held} {waiting = waiting} {mid = mid} {next = next} {knows = knows} {q = q} between later end v m same made (inl (is, given)) =
    let x = made.exchange in
    let sent = sent_then before.sink mid.sink between (wires v.exchanges) waiting (begun_wire_of x) later v.sent made.sent in
    subst (EndsBy setup before next) (sym is) (
      rose_between before.disk.faults mid.disk.faults mid.disk.faults next.disk.faults (chain_counts setup.rules (ready setup.rules setup.knows before.disk) _ v.exchanges v.serving.played) (omega arith) made.rose,
      record {
        held = held.bytes;
        place = ready setup.rules knows mid.disk;
        exchanges = v.exchanges;
        serving = subst (λ z. Serving setup false before z held.bytes v.exchanges (ready setup.rules knows mid.disk)) (sym same) v.serving;
        broken = x;
        faces = faces m x made.is;
        player = q;
        played = made.played;
        sent = sent_all_of before.sink next.sink (wires v.exchanges ++ begun_wire_of x) [] refl (sent_on before.sink between next.sink (wires v.exchanges ++ begun_wire_of x) later [] sent given);
      },
    )
ends_broken {setup = setup} {before = before} {held = held} {waiting = waiting} {mid = mid} {next = next} {knows = knows} {q = q} between later end v m same made (inr (is, given, rose)) =
    let x = made.exchange in
    let sent = sent_then before.sink mid.sink between (wires v.exchanges) waiting (begun_wire_of x) later v.sent made.sent in
    subst (EndsBy setup before next) (sym is) (
      rose_between before.sink.faults between.faults between.faults next.sink.faults sent.counts (omega arith) rose,
      record {
        exchanges = v.exchanges;
        bytes = begun_wire_of x;
        halfway = halfway v same (begun_wire_of x) (exchange (inr (inl (record {
          exchange = x;
          is = faces m x made.is;
          more = Turn ∷ Poll x.body ∷ [];
          next = inr refl;
          answers = Done ∷ Broken ∷ [];
          result = Ok tt;
          after = q;
          played = made.played;
          are = refl;
        }))));
        sent = sent_on_front before.sink between next.sink (wires v.exchanges ++ begun_wire_of x) later sent given;
      },
    )

-- ---- no request stands there

stays_refused : (input next source : Stream) (held : List ℕ) (messages : List Message) (flaw : Flaw) → next ≡ source → Both input.bytes source.bytes (λ a b. Messages a messages (held ++ b))
    → MessageRefusal held flaw → LeftIs (IsRefusedBy flaw) input next held
stays_refused input next source held messages flaw same told refused = subst (λ (z : Stream). LeftIs (IsRefusedBy flaw) input z held) (sym same)
    (both_map input.bytes source.bytes (λ a b. Messages a messages (held ++ b)) (λ a b. MessageRefusal (held ++ b) flaw) (λ a b r. message_refusal_stays held b flaw refused) told)

-- what no request can be was refused, and all is given to the sink
pub ends_refused : {setup : Setup} {before : Outside} {held : Pending} {waiting : List ℕ} {mid next : Outside} {knows : Knowledge} (flaw : Flaw) (end : Ending) → Progress setup before held waiting mid knows
    → MessageRefusal held.bytes flaw → next.source ≡ mid.source → next.disk ≡ mid.disk → Finishes Refused (outlet_of mid.sink (waiting ++ refusal_text flaw)) next.sink end
    → EndsBy setup before next end
ends_refused {setup = setup} {before = before} {held = held} {waiting = waiting} {mid = mid} {next = next} {knows = knows} flaw end v refused source disk (inl (is, given)) =
    subst (EndsBy setup before next) (sym is) (record {
      held = held.bytes;
      exchanges = v.exchanges;
      flaw = flaw;
      knows = knows;
      serving = subst (λ z. Serving setup false before next.source held.bytes v.exchanges (ready setup.rules knows z)) (sym disk)
          (subst (λ z. Serving setup false before z held.bytes v.exchanges (ready setup.rules knows mid.disk)) (sym source) v.serving);
      sent = sent_all_of before.sink next.sink (wires v.exchanges ++ refusal_text flaw) [] refl
          (sent_then before.sink mid.sink next.sink (wires v.exchanges) waiting (refusal_text flaw) [] v.sent given);
      refused = stays_refused before.source next.source mid.source held.bytes v.serving.messages flaw source v.serving.requests refused;
    })
ends_refused {setup = setup} {before = before} {held = held} {waiting = waiting} {mid = mid} {next = next} {knows = knows} flaw end v refused source disk (inr (is, given, rose)) =
    subst (EndsBy setup before next) (sym is) (
      rose_between before.sink.faults mid.sink.faults mid.sink.faults next.sink.faults v.sent.counts (omega arith) rose,
      record {
        exchanges = v.exchanges;
        bytes = refusal_text flaw;
        halfway = halfway v source (refusal_text flaw)
            (refusal flaw refl disk (stays_refused before.source next.source mid.source held.bytes v.serving.messages flaw source v.serving.requests refused));
        sent = sent_then_front before.sink mid.sink next.sink (wires v.exchanges) waiting (refusal_text flaw) v.sent given;
      },
    )

-- memory was refused between two answers
pub starves : {setup : Setup} {before : Outside} {held : Pending} {waiting : List ℕ} {now : Outside} {knows : Knowledge} → Progress setup before held waiting now knows → Starved setup before waiting now
starves {before = before} {waiting = waiting} {now = now} v = record {
  exchanges = v.exchanges;
  bytes = [];
  halfway = halfway v refl [] (nothing refl refl);
  sent = subst (λ z. Sent before.sink now.sink z waiting) (sym (append-nil (wires v.exchanges))) v.sent;
}

-- ---- no more comes

-- the client may be asked, where all that came whole is answered and written
pub may_ask : {setup : Setup} {before : Outside} {held : Pending} {waiting : List ℕ} {now : Outside} {knows : Knowledge} (P : Stream → Stream → Type 0) → HoldsSoFar setup before P
    → Progress setup before held waiting now knows → waiting ≡ [] → IsWanting held.bytes → P now.source now.sink
may_ask {now = now} P holds v none wanting = holds now (so_far v none wanting)

now_emptied : (input mid source : Stream) (n : ℕ) → TookBytes input mid n → IsEmptied mid source → IsEmptied input source
now_emptied input mid source n took over =
    both_then input.bytes mid.bytes source.bytes (λ a b. length a ≡ n + length b) (λ b c. c ≡ []) (λ a c. c ≡ []) (λ a b c t e. e) took over

took_fewer : (input source : Stream) (n : ℕ) → n < 2 ^ 60 → TookBytes input source n → TookFewer input source (2 ^ 60)
took_fewer input source n less took = both_map input.bytes source.bytes (λ a b. length a ≡ n + length b) (λ a b. length a < 2 ^ 60 + length b) (λ a b e. omega arith) took

-- the input is over
pub ends_over : {setup : Setup} {before : Outside} {held : Pending} {waiting : List ℕ} {now : Outside} {knows : Knowledge} (n : ℕ) (mid : Stream) → Progress setup before held waiting now knows → waiting ≡ []
    → held.bytes ≡ [] → held.taken < 2 ^ 60 → TookBytes before.source mid n → IsEmptied mid now.source → EndsBy setup before now Over
ends_over {setup = setup} {before = before} {held = held} {waiting = waiting} {now = now} {knows = knows} n mid v none nothing' few took over = record {
  exchanges = v.exchanges;
  knows = knows;
  serving = subst (λ z. Serving setup false before now.source z v.exchanges (ready setup.rules knows now.disk)) nothing' v.serving;
  sent = sent_all_of before.sink now.sink (wires v.exchanges) waiting none v.sent;
  over = now_emptied before.source mid now.source n took over;
  few = took_fewer before.source now.source held.taken few v.taken;
}

-- the input ends inside a request
pub ends_unfinished : {setup : Setup} {before : Outside} {held : Pending} {waiting : List ℕ} {now : Outside} {knows : Knowledge} (n : ℕ) (mid : Stream) → Progress setup before held waiting now knows → waiting ≡ []
    → IsMessageUnfinished held.bytes → held.taken < 2 ^ 60 → TookBytes before.source mid n → IsEmptied mid now.source → EndsBy setup before now Unfinished
ends_unfinished {before = before} {held = held} {waiting = waiting} {now = now} {knows = knows} n mid v none unfinished few took over = record {
  held = held.bytes;
  exchanges = v.exchanges;
  knows = knows;
  serving = v.serving;
  sent = sent_all_of before.sink now.sink (wires v.exchanges) waiting none v.sent;
  over = now_emptied before.source mid now.source n took over;
  few = took_fewer before.source now.source held.taken few v.taken;
  unfinished = unfinished;
}

-- the source failed
pub ends_failed : {setup : Setup} {before : Outside} {held : Pending} {waiting : List ℕ} {now : Outside} {knows : Knowledge} (counted : ℕ) → Progress setup before held waiting now knows → waiting ≡ []
    → IsWanting held.bytes → held.taken < 2 ^ 60 → before.source.faults ≤ counted → Rose counted now.source.faults → EndsBy setup before now SourceFailed
ends_failed {before = before} {held = held} {now = now} counted v none wanting few first rose = (
  rose_between before.source.faults counted counted now.source.faults first (omega arith) rose,
  took_fewer before.source now.source held.taken few v.taken,
  so_far v none wanting,
)

-- 2^60 bytes were taken
pub ends_too_much : {setup : Setup} {before : Outside} {held : Pending} {waiting : List ℕ} {now : Outside} {knows : Knowledge} → Progress setup before held waiting now knows → waiting ≡ []
    → IsWanting held.bytes → held.taken ≡ 2 ^ 60 → EndsBy setup before now TooMuch
ends_too_much {before = before} {now = now} v none wanting all = (subst (λ z. TookBytes before.source now.source z) all v.taken, so_far v none wanting)

-- the sink failed between two answers
pub ends_stopped : {setup : Setup} {before : Outside} {held : Pending} {waiting : List ℕ} {mid : Outside} {knows : Knowledge} (new : Stream) (later : List ℕ) → Progress setup before held waiting mid knows
    → Pushes mid.sink waiting [] (Err (record {})) later new → EndsBy setup before (outside_of mid.source new mid.disk) RunSinkFailed
ends_stopped {before = before} {waiting = waiting} {mid = mid} new later v pushes = (
  rose_between before.sink.faults mid.sink.faults mid.sink.faults new.faults v.sent.counts (omega arith) (pushes.failed refl),
  record {
    exchanges = v.exchanges;
    bytes = [];
    halfway = halfway v refl [] (nothing refl refl);
    sent = subst (λ z. SentFront before.sink new z) (sym (append-nil (wires v.exchanges)))
        (sent_on_front before.sink mid.sink new (wires v.exchanges) waiting v.sent (sent_flush_front mid.sink new waiting later (record {}) pushes));
  },
)

-- ---- all that waits is given to the sink

front_by : (old mid new : Stream) (bytes waiting later : List ℕ) (result : Result Unit SinkFailure) → Sent old mid bytes waiting → Pushes mid waiting [] result later new → later ≡ []
    → SentFront old new bytes
front_by old mid new bytes waiting later (Ok x) sent pushes none = sent_some old new bytes [] (sent_on old mid new bytes waiting [] sent (sent_flush mid new waiting later none pushes))
front_by old mid new bytes waiting later (Err e) sent pushes none = sent_on_front old mid new bytes waiting sent (sent_flush_front mid new waiting later e pushes)

-- where memory was refused, as far as the sink takes it
pub starved_flushed : {setup : Setup} {before : Outside} {waiting : List ℕ} {left written : Stream} {t : Point} (new : Stream) (later : List ℕ) (result : Result Unit SinkFailure)
    → Starved setup before waiting (outside_of left written t) → Pushes written waiting [] result later new → later ≡ [] → ServedPartly setup before (outside_of left new t)
starved_flushed {before = before} {waiting = waiting} {written = written} new later result v pushes none = record {
  exchanges = v.exchanges;
  bytes = v.bytes;
  halfway = record { closed = v.halfway.closed; held = v.halfway.held; place = v.halfway.place; serving = v.halfway.serving; partway = v.halfway.partway; behind = v.halfway.behind };
  sent = front_by before.sink written new (wires v.exchanges ++ v.bytes) waiting later result v.sent pushes none;
}

-- where memory was refused before anything was read
pub none_partly : (setup : Setup) (before : Outside) → ServedPartly setup before before
none_partly setup before = record { exchanges = []; bytes = []; halfway = none_halfway setup before; sent = sent_some before.sink before.sink [] [] (none_sent before.sink []) }

-- at the end of a run
pub finishes : (wanted end : Ending) (a : Outlet) (new : Stream) (later : List ℕ) → end ≡ wanted → later ≡ [] → Pushes a.sink a.waiting [] (Ok tt) later new → Finishes wanted a new end
finishes wanted end a new later is none pushes = inl (is, sent_flush a.sink new a.waiting later none pushes)

pub finishes_not : (wanted end : Ending) (a : Outlet) (new : Stream) (later : List ℕ) (e : SinkFailure) → end ≡ RunSinkFailed → Pushes a.sink a.waiting [] (Err e) later new → Finishes wanted a new end
finishes_not wanted end a new later e is pushes = inr (is, sent_flush_front a.sink new a.waiting later e pushes, pushes.failed refl)

pub refuses : {old mid new : Stream} {held bytes later : List ℕ} (wanted end : Ending) → Pushes old held bytes (Ok tt) later mid → Finishes wanted (outlet_of mid later) new end
    → Finishes wanted (outlet_of old (held ++ bytes)) new end
refuses {old = old} {mid = mid} {new = new} {held = held} {bytes = bytes} {later = later} wanted end pushes (inl (is, given)) =
    inl (is, sent_on old mid new (held ++ bytes) later [] (sent_push old mid held bytes later pushes) given)
refuses {old = old} {mid = mid} {new = new} {held = held} {bytes = bytes} {later = later} wanted end pushes (inr (is, given, rose)) =
    inr (is, sent_on_front old mid new (held ++ bytes) later (sent_push old mid held bytes later pushes) given, rose_between old.faults mid.faults mid.faults new.faults pushes.counts (omega arith) rose)

pub refuses_not : {old new : Stream} {held bytes later : List ℕ} {e : SinkFailure} (wanted end : Ending) → end ≡ RunSinkFailed → Pushes old held bytes (Err e) later new
    → Finishes wanted (outlet_of old (held ++ bytes)) new end
refuses_not {old = old} {new = new} {held = held} {bytes = bytes} {later = later} {e = e} wanted end is pushes = inr (is, sent_push_front old new held bytes later e pushes, pushes.failed refl)
