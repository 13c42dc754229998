-- How one exchange goes, and how it ends. Which exchange it is says a predicate.
use Rattle.dav_model.specs.Play.{Stage, Playing}
use Rattle.std.specs.Prelude.{◌≡◌, ◌⊎◌, ◌||◌, List, [], ◌∷◌, ◌++◌, cond, Bool, true, false, ℕ, Result, Ok, Err}
use Rattle.http.specs.declared.request.Parts.{Parts}
use Rattle.http.specs.Request.{head_of, body_of}
use Rattle.dav_io.specs.Counts.{Rose}
use Rattle.dav_io.specs.declared.failure.NoMemory.{NoMemory}
use Rattle.dav_io.specs.declared.clock.Moment.{Moment}
use Rattle.dav_io.specs.declared.fields.Field.{Field}
use Rattle.dav_wire.specs.Answers.{has_close_field}
use Rattle.dav_wire.specs.Chunks.{ending}
use Rattle.dav_wire.specs.declared.chunks.Framing.{Framing}
use Rattle.dav_model.specs.declared.step.Step.{Step}
use Rattle.dav_model.specs.declared.step.Step.TheVariants.{Poll, Turn}
use Rattle.dav_model.specs.declared.answer.Answer.{Answer}
use Rattle.dav_model.specs.declared.answer.Answer.TheVariants.{Broken, Done}
use Rattle.dav_model.specs.Conditions.{Asked}
use Rattle.dav_model.specs.Trail.{Point}
use Rattle.dav_serving.specs.declared.exchange.Ended.{Ended}
use Rattle.dav_serving.specs.declared.exchange.Ended.TheVariants.{Open, Closed, SinkFailed, Broke as BrokeOff}
use Rattle.dav_serving.specs.Exchange.{Exchange, ClosesAfter, is_closed, begun_steps, begun_answers, steps_of, answers_of, begun_wire_of, wire_of, with_pieces}
use Rattle.dav_serving.specs.Stages.{PlayedOn, Outlet, PushesOn, Sends, SendsFront, Work, stage_at}

-- whether another request may follow an answer
abbrev pub ended_by : Bool → List Field → Ended
ended_by closing fields = cond (closing || has_close_field fields) Closed Open

-- What ends a body was given to the sink or waits, and then it is told whether another request may follow. Or the sink
-- failed.
abbrev pub EndsBody : Framing → Bool → List Field → Outlet → Ended → Outlet → Type 0
EndsBody framing closing fields a ended b =
    ((ended ≡ ended_by closing fields) × PushesOn a (ending framing) (Ok tt) b)
    ⊎ ((ended ≡ SinkFailed) × PushesOn a (ending framing) (Err (record {})) b)

-- the exchange of this request at this moment
pub record IsAt (request : Asked) (now : Moment) (closing : Bool) (x : Exchange) : Type 0 where
  pub request_is : x.request ≡ request
  pub now_is : x.now ≡ now
  pub closing_is : x.closing ≡ closing

-- the exchange of a request with these parts and this body, at this moment
pub record IsAnswerTo (parts : Parts) (body : List ℕ) (now : Moment) (x : Exchange) : Type 0 where
  pub parts_are : head_of x.request ≡ parts
  pub body_is : body_of x.request ≡ body
  pub now_is : x.now ≡ now
  pub asks : ClosesAfter parts x.closing

-- The exchange has got so far: it has these pieces, and its bytes are sent or wait behind those that waited before.
pub record Begun (x : Exchange) (a b : Work) : Type 0 where
  pub pieces : List (List ℕ)
  pub played : PlayedOn a.stage (begun_steps (with_pieces x pieces)) (begun_answers (with_pieces x pieces))
      (Ok tt) b.stage
  pub sent : Sends a.outlet (begun_wire_of (with_pieces x pieces)) b.outlet

-- An exchange was made.
pub record Whole (Is : Exchange → Type 0) (closed : Bool) (a b : Work) : Type 0 where
  pub exchange : Exchange
  pub is : Is exchange
  pub closed_is : is_closed exchange ≡ closed
  pub played : PlayedOn a.stage (steps_of exchange) (answers_of exchange) (Ok tt) b.stage
  pub sent : Sends a.outlet (wire_of exchange) b.outlet

-- A body broke: the last bytes are those of the last piece before it. What ends a body isn't written, so that a client
-- that reads chunks knows.
pub record BrokenOff (Is : Exchange → Type 0) (a b : Work) : Type 0 where
  pub exchange : Exchange
  pub is : Is exchange
  pub played : PlayedOn a.stage (steps_of exchange) (begun_answers exchange ++ Done ∷ Broken ∷ []) (Ok tt) b.stage
  pub sent : Sends a.outlet (begun_wire_of exchange) b.outlet
  pub rose : Rose a.stage.at.faults b.stage.at.faults

-- The steps up to the reply were played, or as many as memory allowed, and no byte of the answer was made.
pub record Unheard (Is : Exchange → Type 0) (a : Stage) (bytes : List ℕ) (t : Point) : Type 0 where
  pub exchange : Exchange
  pub is : Is exchange
  pub no_pieces : exchange.pieces ≡ []
  pub answers : List Answer
  pub result : Result Unit NoMemory
  pub after : Playing
  pub played : PlayedOn a (begun_steps exchange) answers result (stage_at t after)
  pub none : bytes ≡ []

-- The steps up to a piece were played, and perhaps a turn and a poll behind them, of which no byte came.
pub record Underway (Is : Exchange → Type 0) (a : Stage) (bytes : List ℕ) (t : Point) : Type 0 where
  pub exchange : Exchange
  pub is : Is exchange
  pub more : List Step
  pub next : (more ≡ []) ⊎ (more ≡ Turn ∷ Poll exchange.body ∷ [])
  pub answers : List Answer
  pub result : Result Unit NoMemory
  pub after : Playing
  pub played : PlayedOn a (begun_steps exchange ++ more) (begun_answers exchange ++ answers) result (stage_at t after)
  pub are : bytes ≡ begun_wire_of exchange

-- All steps were played to the end of the body: the bytes are those of the whole answer.
pub record PlayedToEnd (Is : Exchange → Type 0) (a : Stage) (bytes : List ℕ) (t : Point) : Type 0 where
  pub exchange : Exchange
  pub is : Is exchange
  pub after : Playing
  pub played : PlayedOn a (steps_of exchange) (answers_of exchange) (Ok tt) (stage_at t after)
  pub are : bytes ≡ wire_of exchange

-- how far an exchange came, and the bytes of its answer so far
abbrev pub Reached : (Exchange → Type 0) → Stage → List ℕ → Point → Type 0
Reached Is a bytes t = Unheard Is a bytes t ⊎ (Underway Is a bytes t ⊎ PlayedToEnd Is a bytes t)

-- The sink failed in an exchange: a front of the bytes was sent.
pub record SinkStopped (Is : Exchange → Type 0) (a : Work) (b : Outlet) (t : Point) : Type 0 where
  pub bytes : List ℕ
  pub reached : Reached Is a.stage bytes t
  pub sent : SendsFront a.outlet bytes b
  pub rose : Rose a.outlet.sink.faults b.sink.faults

-- Memory was refused in an exchange: its bytes so far are sent or wait.
pub record MemoryStopped (Is : Exchange → Type 0) (a : Work) (b : Outlet) (t : Point) : Type 0 where
  pub bytes : List ℕ
  pub reached : Reached Is a.stage bytes t
  pub sent : Sends a.outlet bytes b

abbrev pub Exchanges : (Exchange → Type 0) → Work → Ended → Work → Type 0
Exchanges Is a Open b = Whole Is false a b
Exchanges Is a Closed b = Whole Is true a b
Exchanges Is a SinkFailed b = SinkStopped Is a b.outlet b.stage.at
Exchanges Is a BrokeOff b = BrokenOff Is a b
