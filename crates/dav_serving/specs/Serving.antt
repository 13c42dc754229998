-- What a run has served so far, and how it ends.
use Rattle.dav_model.specs.Play.{Stage, Playing}
use Rattle.std.specs.Prelude.{◌≡◌, ◌≤◌, ◌<◌, ◌+◌, ◌^◌, ◌⊎◌, ℕ, List, [], ◌∷◌, ◌++◌, length, Bool, true, false, Ok, Option, Some}
use Rattle.std.specs.List.{flat_map, AllByRecursion}
use Rattle.httparse.specs.Grammar.{RequestHead, HasNoRequest, MayBecomeRequest}
use Rattle.dav_io.specs.Counts.{Rose}
use Rattle.dav_io.specs.Told.{Both}
use Rattle.dav_io.specs.Outside.{Stream}
use Rattle.dav_io.specs.declared.clock.Moment.{Moment}
use Rattle.dav_model.specs.declared.answer.Answer.TheVariants.{Broken, Done}
use Rattle.dav_model.specs.Rules.{Knowledge, Rules, nothing_known}
use Rattle.dav_model.specs.Trail.{Point}
use Rattle.dav_wire.specs.Announced.{announces}
use Rattle.dav_wire.specs.Answers.{refusal_text}
use Rattle.dav_wire.specs.Bodies.{IsBodyUnfinished}
use Rattle.dav_wire.specs.Messages.{Message, IsMessage, Messages, MessageRefusal, IsMessageUnfinished}
use Rattle.dav_wire.specs.Requests.{IsRequest}
use Rattle.dav_wire.specs.Writing.{Sent, SentAll, SentFront}
use Rattle.dav_wire.specs.declared.next.Flaw.{Flaw}
use Rattle.dav_serving.specs.declared.ending.Ending.{Ending}
use Rattle.dav_serving.specs.declared.ending.Ending.TheVariants.{Over, Closed, Refused, Unfinished, SourceFailed, SinkFailed, DiskFailed, TooMuch}
use Rattle.dav_serving.specs.Exchange.{Exchange, IsOf, fresh, is_closed, steps_of, answers_of, begun_answers, begun_wire_of, wire_of}
use Rattle.dav_serving.specs.Ends.{Reached}
use Rattle.dav_serving.specs.Stages.{PlayedOn, Outlet, Outside, stage_at}

-- What is the same for all exchanges of a run: what the clock shows, what is set, and what the memory knows at first.
pub record Setup : Type 0 where
  pub shown : Option Moment
  pub rules : Rules
  pub knows : Knowledge

abbrev pub setup_over : Option Moment → Rules → Knowledge → Setup
setup_over shown rules knows = record { shown = shown; rules = rules; knows = knows }

-- of a run whose memory knows nothing at first
abbrev pub setup_with : Option Moment → Rules → Setup
setup_with shown rules = setup_over shown rules nothing_known

-- a new player over the disk and a memory that knows this
abbrev pub ready : Rules → Knowledge → Point → Stage
ready rules knows s = stage_at s (fresh rules knows)

-- of a run by a player that stands so
abbrev pub setup_by : Option Moment → Stage → Setup
setup_by shown a = setup_over shown a.playing.rules a.playing.knows

-- what a player stands on that starts over
abbrev pub renewed : Stage → Stage
renewed a = ready a.playing.rules a.playing.knows a.at

-- The exchanges were played one after the other, each by a new player over the disk and the memory that the one before
-- it left.
abbrev pub Chain : Rules → Stage → List Exchange → Stage → Type 0
Chain rules a [] b = b ≡ a
Chain rules a (x ∷ xs) b = (m : Stage) × PlayedOn a (steps_of x) (answers_of x) (Ok tt) m
    × Chain rules (ready rules m.playing.knows m.at) xs b

-- each exchange is that of its message
abbrev pub Alike : Setup → List Message → List Exchange → Type 0
Alike setup [] [] = Unit {0}
Alike setup (message ∷ messages) (x ∷ xs) = IsOf setup.shown message x × Alike setup messages xs
Alike setup messages xs = ⊥

-- another request may follow
abbrev pub IsOpen : Exchange → Type 0
IsOpen x = is_closed x ≡ false

-- All exchanges were open, or all but the last.
abbrev pub Follow : Bool → List Exchange → Type 0
Follow false xs = AllByRecursion IsOpen xs
Follow true xs = (ys : List Exchange) × (y : Exchange) × (xs ≡ ys ++ y ∷ []) × AllByRecursion IsOpen ys
    × (is_closed y ≡ true)

-- the bytes of all answers
abbrev pub wires : List Exchange → List ℕ
wires xs = flat_map wire_of xs

-- The requests at the front of the input, each with its body, were answered by these exchanges. `held` is what was
-- taken from the source behind them, and `last` is the stage at which the next request would be played.
pub record Serving (setup : Setup) (closed : Bool) (before : Outside) (source : Stream) (held : List ℕ)
    (exchanges : List Exchange) (last : Stage) : Type 0 where
  pub messages : List Message
  pub played : Chain setup.rules (ready setup.rules setup.knows before.disk) exchanges last
  pub alike : Alike setup messages exchanges
  pub follow : Follow closed exchanges
  pub counted : before.source.faults ≤ source.faults
  pub requests : Both before.source.bytes source.bytes (λ a b. Messages a messages (held ++ b))

-- What the source has left, where it tells, is nothing.
abbrev pub IsEmptied : Stream → Stream → Type 0
IsEmptied input source = Both input.bytes source.bytes (λ a b. b ≡ [])

-- what is left, where the source tells, is such
abbrev pub LeftIs : (List ℕ → Type 0) → Stream → Stream → List ℕ → Type 0
LeftIs P input source held = Both input.bytes source.bytes (λ a b. P (held ++ b))

-- no request can stand at the front, for this reason
abbrev pub IsRefusedBy : Flaw → List ℕ → Type 0
IsRefusedBy flaw left = MessageRefusal left flaw

-- so many bytes were taken from the source, where it tells
abbrev pub TookBytes : Stream → Stream → ℕ → Type 0
TookBytes input source n = Both input.bytes source.bytes (λ a b. length a ≡ n + length b)

-- fewer bytes were taken from the source, where it tells
abbrev pub TookFewer : Stream → Stream → ℕ → Type 0
TookFewer input source n = Both input.bytes source.bytes (λ a b. length a < n + length b)

-- More bytes are wanted behind these: they are no request and no refusal, and more can make a request of them.
pub data IsWanting (held : List ℕ) : Type 0 where
  -- they are no head, and more can make one of them
  wanting_head : length held ≤ 65536 → HasNoRequest held → MayBecomeRequest held → IsWanting held
  -- they are a head, and behind it stands a body that isn't finished
  wanting_body : (request : RequestHead) (behind : List ℕ) → IsRequest held request behind
      → IsBodyUnfinished (announces request) behind → IsWanting held

-- The exchange answers the request that stands at the front of what is held.
pub record Faces (setup : Setup) (held : List ℕ) (x : Exchange) : Type 0 where
  pub message : Message
  pub rest : List ℕ
  pub stands : IsMessage held message rest
  pub is : IsOf setup.shown message x

-- The input was read to its end, below 2^60 bytes: all requests are answered.
pub record ServedAll (setup : Setup) (before after : Outside) : Type 0 where
  pub exchanges : List Exchange
  pub knows : Knowledge
  pub serving : Serving setup false before after.source [] exchanges (ready setup.rules knows after.disk)
  pub sent : SentAll before.sink after.sink (wires exchanges)
  pub over : IsEmptied before.source after.source
  pub few : TookFewer before.source after.source (2 ^ 60)

-- An answer closes: the requests up to it are answered.
pub record ServedClosing (setup : Setup) (before after : Outside) : Type 0 where
  pub held : List ℕ
  pub exchanges : List Exchange
  pub knows : Knowledge
  pub serving : Serving setup true before after.source held exchanges (ready setup.rules knows after.disk)
  pub sent : SentAll before.sink after.sink (wires exchanges)

-- Behind the requests that were answered stands what no request can be, and 400 was written for it, or 413 where its
-- body is too large.
pub record ServedRefusing (setup : Setup) (before after : Outside) : Type 0 where
  pub held : List ℕ
  pub exchanges : List Exchange
  pub flaw : Flaw
  pub knows : Knowledge
  pub serving : Serving setup false before after.source held exchanges (ready setup.rules knows after.disk)
  pub sent : SentAll before.sink after.sink (wires exchanges ++ refusal_text flaw)
  pub refused : LeftIs (IsRefusedBy flaw) before.source after.source held

-- Behind the requests that were answered the input ends inside a head or a body, below 2^60 bytes, and nothing was
-- written for it.
pub record ServedUnfinished (setup : Setup) (before after : Outside) : Type 0 where
  pub held : List ℕ
  pub exchanges : List Exchange
  pub knows : Knowledge
  pub serving : Serving setup false before after.source held exchanges (ready setup.rules knows after.disk)
  pub sent : SentAll before.sink after.sink (wires exchanges)
  pub over : IsEmptied before.source after.source
  pub few : TookFewer before.source after.source (2 ^ 60)
  pub unfinished : IsMessageUnfinished held

-- All requests that were whole are answered, all answers are written, and what is held behind them is no refusal.
pub record ServedSoFar (setup : Setup) (before after : Outside) : Type 0 where
  pub held : List ℕ
  pub exchanges : List Exchange
  pub knows : Knowledge
  pub serving : Serving setup false before after.source held exchanges (ready setup.rules knows after.disk)
  pub sent : SentAll before.sink after.sink (wires exchanges)
  pub wanting : IsWanting held

-- What may be said wherever all requests that were whole are answered and all answers are written, by what is left and
-- what was written.
abbrev pub HoldsSoFar : Setup → Outside → (Stream → Stream → Type 0) → Type 0
HoldsSoFar setup before P = (now : Outside) → ServedSoFar setup before now → P now.source now.sink

-- A whole request was taken, and nothing was written.
pub record Owes (before now : Outside) : Type 0 where
  pub taken : List ℕ
  pub left : List ℕ
  pub written : List ℕ
  pub message : Message
  pub rest : List ℕ
  pub first : before.source.bytes ≡ Some (taken ++ left)
  pub stands : now.source.bytes ≡ Some left
  pub was : before.sink.bytes ≡ Some written
  pub is : now.sink.bytes ≡ Some written
  pub request : IsMessage taken message rest

-- A body broke in the answer to the request behind those that were answered: the bytes end with its last
-- piece, and what ends a body isn't written.
pub record ServedBroken (setup : Setup) (before after : Outside) : Type 0 where
  pub held : List ℕ
  pub place : Stage
  pub exchanges : List Exchange
  pub serving : Serving setup false before after.source held exchanges place
  pub broken : Exchange
  pub faces : Faces setup held broken
  pub player : Playing
  pub played : PlayedOn place (steps_of broken) (begun_answers broken ++ Done ∷ Broken ∷ []) (Ok tt)
      (stage_at after.disk player)
  pub sent : SentAll before.sink after.sink (wires exchanges ++ begun_wire_of broken)

-- What the run came to behind the exchanges that were played, and the bytes of it. `refused` says that what no request
-- can be stands there, and why.
pub data Partway (setup : Setup) (refused : Flaw → Type 0) (held : List ℕ) (place : Stage) (bytes : List ℕ) (t : Point)
    : Type 0 where
  -- nothing
  nothing : bytes ≡ [] → t ≡ place.at → Partway setup refused held place bytes t
  -- the answer to what no request can be
  refusal : (flaw : Flaw) → bytes ≡ refusal_text flaw → t ≡ place.at → refused flaw
      → Partway setup refused held place bytes t
  -- some of the exchange of the request that stands there
  exchange : Reached (Faces setup held) place bytes t → Partway setup refused held place bytes t

-- Some exchanges were played, and these bytes are made behind them: none where the last of them closes.
pub record Halfway (setup : Setup) (before after : Outside) (exchanges : List Exchange) (bytes : List ℕ) : Type 0 where
  pub closed : Bool
  pub held : List ℕ
  pub place : Stage
  pub serving : Serving setup closed before after.source held exchanges place
  pub partway : Partway setup (λ flaw. LeftIs (IsRefusedBy flaw) before.source after.source held) held place bytes
      after.disk
  pub behind : closed ≡ true → bytes ≡ []

-- The sink failed, or memory was refused: a front of the bytes is written.
pub record ServedPartly (setup : Setup) (before after : Outside) : Type 0 where
  pub exchanges : List Exchange
  pub bytes : List ℕ
  pub halfway : Halfway setup before after exchanges bytes
  pub sent : SentFront before.sink after.sink (wires exchanges ++ bytes)

-- Memory was refused: a front of the bytes is written, and the others wait.
pub record Starved (setup : Setup) (before : Outside) (waiting : List ℕ) (after : Outside) : Type 0 where
  pub exchanges : List Exchange
  pub bytes : List ℕ
  pub halfway : Halfway setup before after exchanges bytes
  pub sent : Sent before.sink after.sink (wires exchanges ++ bytes) waiting

-- What each end of a run that serves says.
abbrev pub EndsBy : Setup → Outside → Outside → Ending → Type 0
EndsBy setup before after Over = ServedAll setup before after
EndsBy setup before after Closed = ServedClosing setup before after
EndsBy setup before after Refused = ServedRefusing setup before after
EndsBy setup before after Unfinished = ServedUnfinished setup before after
EndsBy setup before after SourceFailed = Rose before.source.faults after.source.faults
    × TookFewer before.source after.source (2 ^ 60) × ServedSoFar setup before after
EndsBy setup before after SinkFailed = Rose before.sink.faults after.sink.faults × ServedPartly setup before after
EndsBy setup before after DiskFailed = Rose before.disk.faults after.disk.faults × ServedBroken setup before after
EndsBy setup before after TooMuch = TookBytes before.source after.source (2 ^ 60) × ServedSoFar setup before after

-- the status of each end
abbrev pub status_of : Ending → ℕ
status_of Over = 0
status_of Closed = 0
status_of SourceFailed = 3
status_of SinkFailed = 4
status_of DiskFailed = 5
status_of Refused = 6
status_of Unfinished = 6
status_of TooMuch = 7

-- A run that serves ends with the status of its end.
abbrev pub ServeEnds : Setup → Outside → Outside → ℕ → Type 0
ServeEnds setup before after status = (end : Ending) × (status ≡ status_of end) × EndsBy setup before after end

-- All that waited was given to the sink, and the end stands; or the sink failed.
abbrev pub Finishes : Ending → Outlet → Stream → Ending → Type 0
Finishes wanted a new end = ((end ≡ wanted) × Sent a.sink new a.waiting [])
    ⊎ ((end ≡ SinkFailed) × SentFront a.sink new a.waiting × Rose a.sink.faults new.faults)
