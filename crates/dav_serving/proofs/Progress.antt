-- What a run has served, exchange by exchange.
use Rattle.dav_model.specs.Play.{Playing, Stage}
use Rattle.std.proofs.Common.{◌≡◌, ◌<◌, ◌≤◌, ◌+◌, ◌*◌, ◌-◌, ◌^◌, ◌++◌, ℕ, suc, if◌then◌else◌, List, [], ◌∷◌, true, false, Bool, Option, Ok, length, sym, ap, subst, ◌∙◌, refl, arith, append_assoc, append-nil, length-append}
use Rattle.std.proofs.Math.Dec.{leb}
use Rattle.std.proofs.lemmas.Bool.{leb-true, le-leb}
use Rattle.std.specs.List.{AllByRecursion}
use Rattle.http.specs.declared.request.Parts.{Parts}
use Rattle.httparse.specs.Grammar.{RequestHead}
use Rattle.dav_io.specs.Told.{Both}
use Rattle.dav_io.proofs.ToldLemmas.{both_then, both_map, both_same}
use Rattle.dav_io.specs.Outside.{Stream}
use Rattle.dav_io.specs.declared.clock.Moment.{Moment}
use Rattle.dav_model.specs.Rules.{Knowledge, Rules}
use Rattle.dav_model.proofs.JoiningLemmas.{played_counts}
use Rattle.dav_wire.specs.Heads.{IsRead}
use Rattle.dav_wire.specs.Reading.{Pending}
use Rattle.dav_wire.specs.BodyReading.{ReadsOn}
use Rattle.dav_wire.specs.Messages.{Message, IsMessage, Messages}
use Rattle.dav_wire.specs.Writing.{Pushes, Sent}
use Rattle.dav_wire.proofs.Pushing.{holds, none_sent, sent_more, sent_then, sent_all_of}
use Rattle.dav_wire.proofs.MessageLemmas.{message_stays, messages_join}
use Rattle.dav_serving.specs.Exchange.{Exchange, ClosesAfter, IsShown, IsOf, is_closed, steps_of, answers_of, wire_of}
use Rattle.dav_serving.specs.Ends.{IsAnswerTo, Whole}
use Rattle.dav_serving.specs.Serving.{Setup, Chain, Alike, Follow, IsOpen, wires, Serving, TookBytes, IsWanting, Faces, ServedSoFar, Halfway, nothing, ready}
use Rattle.dav_serving.specs.Stages.{PlayedOn, Outside, Work, outside_of, stage_at, work_of}
use Rattle.dav_serving.proofs.RequestsAreSome.{message_shorter}

-- what was served, what of it was sent and waits, how many bytes were taken for it, and what the memory knows then
pub record Progress (setup : Setup) (before : Outside) (held : Pending) (waiting : List ℕ) (now : Outside) (knows : Knowledge) : Type 0 where
  pub exchanges : List Exchange
  pub serving : Serving setup false before now.source held.bytes exchanges (ready setup.rules knows now.disk)
  pub sent : Sent before.sink now.sink (wires exchanges) waiting
  pub taken : TookBytes before.source now.source held.taken

-- A request stands at the front of what is held, with its body, and it is asked at the moment that the clock shows.
pub record Meets (first : Option Moment) (held : Pending) (parts : Parts) (body : List ℕ) (now : Moment) (rest : Pending) : Type 0 where
  pub head : RequestHead
  pub stands : IsMessage held.bytes (record { head = head; body = body }) rest.bytes
  pub read : IsRead head parts
  pub same : rest.taken ≡ held.taken
  pub shown : IsShown first now

-- what the clock shows
pub shown_now : (first shown : Option Moment) (now : Moment) → shown ≡ first → IsShown shown now → IsShown first now
shown_now first shown now same is = subst (λ z. IsShown z now) same is

-- all the bytes of which a front was passed
abbrev pub all_of : List ℕ → Pending → Pending
all_of passed kept = record { bytes = passed ++ kept.bytes; taken = kept.taken }

pub meets : (first : Option Moment) (text : Pending) (parts : Parts) (body : List ℕ) (now : Moment) (rest : Pending)
    → ((head : RequestHead) × IsRead head parts × IsMessage text.bytes (record { head = head; body = body }) rest.bytes) → rest.taken ≡ text.taken → IsShown first now
    → Meets first text parts body now rest
meets first text parts body now rest found same shown = record { head = found.0; stands = found.2; read = found.1; same = same; shown = shown }

-- What is held becomes shorter by more than came, or more is taken; a count above the most that is ever taken is none.
abbrev pub steps_left : Pending → ℕ
steps_left held = if leb held.taken (2 ^ 60) then suc (2 * (2 ^ 60 - held.taken) + length held.bytes) else 0

steps_by : (held kept : ℕ) (m n g : ℕ) (within : Bool) → leb kept (2 ^ 60) ≡ within → held ≤ 2 ^ 60 → kept ≡ held + g → n < m + g
    → (if within then suc (2 * (2 ^ 60 - kept) + n) else 0) < suc (2 * (2 ^ 60 - held) + m)
steps_by held kept m n g true e most same less =
    let few = leb-true kept (2 ^ 60) e in
    omega arith
steps_by held kept m n g false e most same less = omega arith

pub meets_shorter : (old new : Stream) (held rest : Pending) (passed : List ℕ) (message : Message) → held.taken ≤ 2 ^ 60 → ReadsOn old held passed rest new
    → IsMessage (passed ++ rest.bytes) message rest.bytes → steps_left rest < steps_left held
meets_shorter old new held rest passed message most on is =
    let shorter = message_shorter (passed ++ rest.bytes) message rest.bytes is in
    let whole = sym (length-append held.bytes on.got) ∙ ap (length {A = ℕ}) on.whole in
    subst (λ within. steps_left rest < (if within then suc (2 * (2 ^ 60 - held.taken) + length held.bytes) else 0)) (sym (le-leb held.taken (2 ^ 60) most))
    (steps_by held.taken rest.taken (length held.bytes) (length rest.bytes) (length on.got) (leb rest.taken (2 ^ 60)) refl most on.taken (omega arith))

chain_more : (rules : Rules) (a b m : Stage) (xs : List Exchange) (x : Exchange) → Chain rules a xs b → PlayedOn b (steps_of x) (answers_of x) (Ok tt) m
    → Chain rules a (xs ++ x ∷ []) (ready rules m.playing.knows m.at)
chain_more rules a b m [] x chain played = (m, subst (λ z. PlayedOn z (steps_of x) (answers_of x) (Ok tt) m) chain played, refl)
chain_more rules a b m (y ∷ xs) x (n, first, chain) played = (n, first, chain_more rules (ready rules n.playing.knows n.at) b m xs x chain played)

pub chain_counts : (rules : Rules) (a b : Stage) (xs : List Exchange) → Chain rules a xs b → a.at.faults ≤ b.at.faults
chain_counts rules a b [] chain = rw chain (omega arith)
chain_counts rules a b (x ∷ xs) (m, first, chain) =
    let here = played_counts first.trail a m (steps_of x) [] (answers_of x) first.played in
    let later = chain_counts rules (ready rules m.playing.knows m.at) b xs chain in
    omega arith

alike_more : (setup : Setup) (hs : List Message) (xs : List Exchange) (h : Message) (x : Exchange) → Alike setup hs xs → IsOf setup.shown h x → Alike setup (hs ++ h ∷ []) (xs ++ x ∷ [])
alike_more setup [] [] h x a is = (is, tt)
alike_more setup [] (y ∷ xs) h x a is = absurd a
alike_more setup (g ∷ hs) [] h x a is = absurd a
alike_more setup (g ∷ hs) (y ∷ xs) h x (first, a) is = (first, alike_more setup hs xs h x a is)

all_more : (xs : List Exchange) (x : Exchange) → AllByRecursion IsOpen xs → IsOpen x → AllByRecursion IsOpen (xs ++ x ∷ [])
all_more [] x a is = (is, tt)
all_more (y ∷ xs) x (first, a) is = (first, all_more xs x a is)

follows : (closed : Bool) (xs : List Exchange) (x : Exchange) → AllByRecursion IsOpen xs → is_closed x ≡ closed → Follow closed (xs ++ x ∷ [])
follows false xs x open' e = all_more xs x open' e
follows true xs x open' e = (xs, x, refl, open', e)

pub wires_more : (xs : List Exchange) (x : Exchange) → wires xs ++ wire_of x ≡ wires (xs ++ x ∷ [])
wires_more [] x = sym (append-nil (wire_of x))
wires_more (y ∷ xs) x = append_assoc (wire_of y) (wires xs) (wire_of x) ∙ ap (λ z. wire_of y ++ z) (wires_more xs x)

none_serving : (setup : Setup) (before : Outside) → Serving setup false before before.source [] [] (ready setup.rules setup.knows before.disk)
none_serving setup before = record {
  messages = [];
  played = refl;
  alike = tt;
  follow = tt;
  counted = omega arith;
  requests = both_same before.source.bytes before.source.bytes (λ a b. b ≡ a) (λ a. refl) refl;
}

-- nothing was served yet
pub none_served : (setup : Setup) (before : Outside) (held : Pending) (waiting : List ℕ) → held ≡ record { bytes = []; taken = 0 } → waiting ≡ [] → Progress setup before held waiting before setup.knows
none_served setup before held waiting none empty = record {
  exchanges = [];
  serving = subst (λ (z : List ℕ). Serving setup false before before.source z [] (ready setup.rules setup.knows before.disk)) (sym (ap (λ (z : Pending). z.bytes) none)) (none_serving setup before);
  sent = subst (λ (z : List ℕ). Sent before.sink before.sink [] z) (sym empty) (none_sent before.sink []);
  taken = both_same before.source.bytes before.source.bytes (λ a b. length a ≡ held.taken + length b)
      (λ a. let n = ap (λ (z : Pending). z.taken) none in omega arith) refl;
}

-- and nothing is owed
pub none_halfway : (setup : Setup) (before : Outside) → Halfway setup before before [] []
none_halfway setup before = record {
  closed = false;
  held = [];
  place = ready setup.rules setup.knows before.disk;
  serving = none_serving setup before;
  partway = nothing refl refl;
  behind = λ e. refl;
}

pub is_of : (setup : Setup) (head : RequestHead) (parts : Parts) (body : List ℕ) (now : Moment) (x : Exchange) → IsRead head parts → IsShown setup.shown now → IsAnswerTo parts body now x
    → IsOf setup.shown (record { head = head; body = body }) x
is_of setup head parts body now x read when is = record {
  parts = subst (λ z. IsRead head z) (sym is.parts_are) read;
  body = is.body_is;
  closing = subst (λ z. ClosesAfter z x.closing) (sym is.parts_are) is.asks;
  moment = subst (λ z. IsShown setup.shown z) (sym is.now_is) when;
}

-- the exchange of a request that stands there
pub faces : {setup : Setup} {held : Pending} {parts : Parts} {body : List ℕ} {now : Moment} {rest : Pending} → Meets setup.shown held parts body now rest → (x : Exchange) → IsAnswerTo parts body now x
    → Faces setup held.bytes x
faces {setup = setup} {parts = parts} {body = body} {now = now} {rest = rest} m x is =
    record { message = record { head = m.head; body = body }; rest = rest.bytes; stands = m.stands; is = is_of setup m.head parts body now x m.read m.shown is }

next_message : (input source : Stream) (held rest : List ℕ) (ms : List Message) (message : Message) → IsMessage held message rest → Both input.bytes source.bytes (λ a b. Messages a ms (held ++ b))
    → Both input.bytes source.bytes (λ a b. Messages a (ms ++ message ∷ []) (rest ++ b))
next_message input source held rest ms message is both = both_map input.bytes source.bytes (λ a b. Messages a ms (held ++ b)) (λ a b. Messages a (ms ++ message ∷ []) (rest ++ b))
    (λ a b r. messages_join a (held ++ b) (rest ++ b) ms (message ∷ []) r (rest ++ b, message_stays held b message rest is, refl)) both

-- An exchange more was played, as the last of its list: it closes or not.
pub serving_more : {setup : Setup} {before : Outside} {held : Pending} {waiting : List ℕ} {mid : Outside} {knows : Knowledge} {parts : Parts} {body : List ℕ} {now : Moment} {rest : Pending} (closed : Bool) (a b : Work)
    → (v : Progress setup before held waiting mid knows) → Meets setup.shown held parts body now rest → a.stage ≡ ready setup.rules knows mid.disk → (made : Whole (IsAnswerTo parts body now) closed a b)
    → Serving setup closed before mid.source rest.bytes (v.exchanges ++ made.exchange ∷ []) (ready setup.rules b.stage.playing.knows b.stage.at)
serving_more {setup = setup} {before = before} {held = held} {mid = mid} {knows = knows} {parts = parts} {body = body} {now = now} {rest = rest} closed a b v m first made =
    let x = made.exchange in
    let w = v.serving in
    let message : Message = record { head = m.head; body = body } in
    record {
      messages = w.messages ++ message ∷ [];
      played = chain_more setup.rules (ready setup.rules setup.knows before.disk) (ready setup.rules knows mid.disk) b.stage v.exchanges x w.played
          (subst (λ z. PlayedOn z (steps_of x) (answers_of x) (Ok tt) b.stage) first made.played);
      alike = alike_more setup w.messages v.exchanges message x w.alike (is_of setup m.head parts body now x m.read m.shown made.is);
      follow = follows closed v.exchanges x w.follow made.closed_is;
      counted = w.counted;
      requests = next_message before.source mid.source held.bytes rest.bytes w.messages message m.stands w.requests;
    }

-- what an answer to the next request stands on
abbrev pub working : Setup → List ℕ → Outside → Knowledge → Work
working setup waiting now knows = work_of now.sink waiting (ready setup.rules knows now.disk)

-- one exchange more
pub served_more : {setup : Setup} {before : Outside} {held : Pending} {waiting : List ℕ} {mid : Outside} {parts : Parts} {body : List ℕ} {now : Moment} {rest : Pending} {later : List ℕ} {next : Outside} {knows : Knowledge} {q : Playing}
    → Progress setup before held waiting mid knows → Meets setup.shown held parts body now rest → next.source ≡ mid.source
    → Whole (IsAnswerTo parts body now) false (working setup waiting mid knows) (work_of next.sink later (stage_at next.disk q)) → Progress setup before rest later next q.knows
served_more {setup = setup} {before = before} {held = held} {waiting = waiting} {mid = mid} {parts = parts} {now = now} {rest = rest} {later = later} {next = next} {knows = knows} {q = q} v m same made =
    let x = made.exchange in
    record {
      exchanges = v.exchanges ++ x ∷ [];
      serving = subst (λ z. Serving setup false before z rest.bytes (v.exchanges ++ x ∷ []) (ready setup.rules q.knows next.disk)) (sym same)
          (serving_more false (working setup waiting mid knows) _ v m refl made);
      sent = subst (λ z. Sent before.sink next.sink z later) (wires_more v.exchanges x) (sent_then before.sink mid.sink next.sink (wires v.exchanges) waiting (wire_of x) later v.sent made.sent);
      taken = subst (λ z. TookBytes before.source z rest.taken) (sym same) (subst (λ z. TookBytes before.source mid.source z) (sym m.same) v.taken);
    }

read_bytes : (held passed kept got b c : List ℕ) → held ++ got ≡ passed ++ kept → b ≡ got ++ c → held ++ b ≡ (passed ++ kept) ++ c
read_bytes held passed kept got b c whole told = ap (λ z. held ++ z) told ∙ sym (append_assoc held got c) ∙ ap (λ z. z ++ c) whole

counts_more : (n m : ℕ) (a b c got : List ℕ) → m ≡ n + length got → length a ≡ n + length b → b ≡ got ++ c → length a ≡ m + length c
counts_more n m a b c got taken e told = let long = ap (length {A = ℕ}) told ∙ length-append got c in omega arith

-- more bytes were got from the source, and what waited was given to the sink or waits still
pub served_on : {setup : Setup} {before : Outside} {held kept : Pending} {waiting later : List ℕ} {mid : Outside} {left written : Stream} {passed : List ℕ} {knows : Knowledge}
    → Progress setup before held waiting mid knows → ReadsOn mid.source held passed kept left → Pushes mid.sink waiting [] (Ok tt) later written
    → Progress setup before (all_of passed kept) later (outside_of left written mid.disk) knows
served_on {setup = setup} {before = before} {held = held} {kept = kept} {waiting = waiting} {later = later} {mid = mid} {left = left} {written = written} {passed = passed} v on pushes =
    let w = v.serving in
    record {
      exchanges = v.exchanges;
      serving = record {
        messages = w.messages;
        played = w.played;
        alike = w.alike;
        follow = w.follow;
        counted = let first = w.counted in let second = on.counts in omega arith;
        requests = both_then before.source.bytes mid.source.bytes left.bytes (λ a b. Messages a w.messages (held.bytes ++ b)) (λ b c. b ≡ on.got ++ c)
            (λ a c. Messages a w.messages ((passed ++ kept.bytes) ++ c))
            (λ a b c r told. subst (λ z. Messages a w.messages z) (read_bytes held.bytes passed kept.bytes on.got b c on.whole told) r) w.requests on.told;
      };
      sent = subst (λ z. Sent before.sink written z later) (append-nil (wires v.exchanges)) (sent_more before.sink mid.sink written (wires v.exchanges) waiting [] later v.sent pushes);
      taken = both_then before.source.bytes mid.source.bytes left.bytes (λ a b. length a ≡ held.taken + length b) (λ b c. b ≡ on.got ++ c) (λ a c. length a ≡ kept.taken + length c)
          (λ a b c e told. counts_more held.taken kept.taken a b c on.got on.taken e told) v.taken on.told;
    }

-- more bytes were got from the source
pub served_read : {setup : Setup} {before : Outside} {held kept : Pending} {waiting : List ℕ} {mid : Outside} {left : Stream} {passed : List ℕ} {knows : Knowledge}
    → Progress setup before held waiting mid knows → ReadsOn mid.source held passed kept left → Progress setup before (all_of passed kept) waiting (outside_of left mid.sink mid.disk) knows
served_read {waiting = waiting} {mid = mid} v on = served_on v on (holds mid.sink waiting [] waiting (sym (append-nil waiting)))

-- All that came is answered and written, and more is wanted.
pub so_far : {setup : Setup} {before : Outside} {held : Pending} {waiting : List ℕ} {now : Outside} {knows : Knowledge} → Progress setup before held waiting now knows → waiting ≡ [] → IsWanting held.bytes
    → ServedSoFar setup before now
so_far {before = before} {held = held} {waiting = waiting} {now = now} {knows = knows} v none wanting = record {
  held = held.bytes;
  exchanges = v.exchanges;
  knows = knows;
  serving = v.serving;
  sent = sent_all_of before.sink now.sink (wires v.exchanges) waiting none v.sent;
  wanting = wanting;
}
