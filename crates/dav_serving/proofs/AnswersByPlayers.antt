-- An exchange by a player that starts over is the answer to its request, and the player keeps its rules.
use Rattle.dav_model.specs.Play.{Playing, Plays, Stage}
use Rattle.std.proofs.Common.{◌≡◌, ◌∙◌, ℕ, Bool, List, [], ◌∷◌, Ok, Err, Result, sym, ap, subst, IfOk, OnErr}
use Rattle.http.specs.declared.request.Parts.{Parts}
use Rattle.http.specs.Request.{head_of, body_of}
use Rattle.dav_io.specs.declared.failure.NoMemory.{NoMemory}
use Rattle.dav_io.specs.declared.clock.Moment.{Moment}
use Rattle.dav_model.specs.Conditions.{Asked}
use Rattle.dav_model.specs.Rules.{Knowledge, Rules}
use Rattle.dav_model.specs.Trail.{Move, Point}
use Rattle.dav_model.proofs.JoiningLemmas.{over, step_rules}
use Rattle.dav_serving.specs.declared.exchange.Ended.{Ended}
use Rattle.dav_serving.specs.declared.exchange.Ended.TheVariants.{Open, Closed, SinkFailed, Broke as BrokeOff}
use Rattle.dav_serving.specs.Exchange.{Exchange, ClosesAfter}
use Rattle.dav_serving.specs.Ends.{BrokenOff, IsAt, IsAnswerTo, Exchanges, MemoryStopped, SinkStopped, Whole}
use Rattle.dav_serving.specs.Serving.{ready}
use Rattle.dav_serving.specs.Stages.{Outlet, Work}
use Rattle.dav_serving.proofs.RunEnds.{reached_as}

-- the request has these parts and this body, and asks so
pub record Comes (request : Asked) (parts : Parts) (body : List ℕ) (closing : _) : Type 0 where
  pub heads : head_of request ≡ parts
  pub body_is : body_of request ≡ body
  pub asks : ClosesAfter parts closing

answer_of : (request : Asked) (parts : Parts) (body : List ℕ) (now : Moment) (closing : _) → Comes request parts body closing → (x : Exchange) → IsAt request now closing x → IsAnswerTo parts body now x
answer_of request parts body now closing comes x is = record {
  parts_are = ap head_of is.request_is ∙ comes.heads;
  body_is = ap body_of is.request_is ∙ comes.body_is;
  now_is = is.now_is;
  asks = subst (λ z. ClosesAfter parts z) (sym is.closing_is) comes.asks;
}

exchanges_as : (Is As : Exchange → Type 0) (a : Work) (ended : Ended) (b : Work) → ((x : Exchange) → Is x → As x) → Exchanges Is a ended b → Exchanges As a ended b
exchanges_as Is As a Open b f e = record { exchange = e.exchange; is = f e.exchange e.is; closed_is = e.closed_is; played = e.played; sent = e.sent }
exchanges_as Is As a Closed b f e = record { exchange = e.exchange; is = f e.exchange e.is; closed_is = e.closed_is; played = e.played; sent = e.sent }
exchanges_as Is As a SinkFailed b f e = record { bytes = e.bytes; reached = reached_as Is As f e.reached; sent = e.sent; rose = e.rose }
exchanges_as Is As a BrokeOff b f e = record { exchange = e.exchange; is = f e.exchange e.is; played = e.played; sent = e.sent; rose = e.rose }

-- one request was answered by a player that started over
pub answered : {request : Asked} {parts : Parts} {body : List ℕ} {closing : _} (now : Moment) (made start : Stage) (outlet : Outlet) (b : Work) (result : Result Ended NoMemory)
    → Comes request parts body closing → made ≡ start → IfOk result (λ ended. Exchanges (IsAt request now closing) (record { outlet = outlet; stage = made }) ended b)
    → IfOk result (λ ended. Exchanges (IsAnswerTo parts body now) (record { outlet = outlet; stage = start }) ended b)
answered now made start outlet b (Err e) comes first exchanges = tt
answered {request = request} {parts = parts} {body = body} {closing = closing} now made start outlet b (Ok ended) comes first exchanges =
    exchanges_as (IsAt request now closing) (IsAnswerTo parts body now) (record { outlet = outlet; stage = start }) ended b (answer_of request parts body now closing comes)
    (subst (λ z. Exchanges (IsAt request now closing) (record { outlet = outlet; stage = z }) ended b) first exchanges)

-- or memory was refused
pub unanswered : {request : Asked} {parts : Parts} {body : List ℕ} {closing : _} (now : Moment) (made start : Stage) (outlet b : Outlet) (t : Point) (result : Result Ended NoMemory)
    → Comes request parts body closing → made ≡ start → OnErr result (MemoryStopped (IsAt request now closing) (record { outlet = outlet; stage = made }) b t)
    → OnErr result (MemoryStopped (IsAnswerTo parts body now) (record { outlet = outlet; stage = start }) b t)
unanswered now made start outlet b t (Ok ended) comes first stopped = tt
unanswered {request = request} {parts = parts} {body = body} {closing = closing} now made start outlet b t (Err e) comes first stopped =
    let here = subst (λ z. MemoryStopped (IsAt request now closing) (record { outlet = outlet; stage = z }) b t) first stopped in
    record { bytes = here.bytes; reached = reached_as (IsAt request now closing) (IsAnswerTo parts body now) (answer_of request parts body now closing comes) here.reached; sent = here.sent }

-- ---- the rules

plays_rules : (p : Playing) (s : Point) (xs : List Move) (q : Playing) → Plays p s xs q → q.rules ≡ p.rules
plays_rules p s [] q e = ap (λ (z : Playing). z.rules) e
plays_rules p s (x ∷ xs) q (m, st, o, rest) = plays_rules m x.to xs q rest ∙ step_rules p s x.to x.step x.answer m st

-- A player that made a whole exchange has the rules that it had.
pub whole_rules : {Is : Exchange → Type 0} {closed : Bool} {a b : Work} → Whole Is closed a b → b.stage.playing.rules ≡ a.stage.playing.rules
whole_rules {a = a} {b = b} made =
    let r = made.played in
    ap (λ (z : Stage). z.playing.rules) (over r.played.rest _ b.stage r.played.ends).at ∙ plays_rules a.stage.playing a.stage.at r.trail r.played.player r.played.answered

-- What a player comes to that starts over by the same rules, it comes to by these.
module _ {Is : Exchange → Type 0} {rules other : Rules} {knows : Knowledge} {s : Point} {outlet : Outlet} (same : other ≡ rules) where
  pub whole_ruled : {closed : Bool} {b : Work} → Whole Is closed (record { outlet = outlet; stage = ready other knows s }) b → Whole Is closed (record { outlet = outlet; stage = ready rules knows s }) b
  whole_ruled {closed = closed} {b = b} e = subst (λ z. Whole Is closed (record { outlet = outlet; stage = ready z knows s }) b) same e

  pub unsent_ruled : {b : Outlet} {t : Point} → SinkStopped Is (record { outlet = outlet; stage = ready other knows s }) b t → SinkStopped Is (record { outlet = outlet; stage = ready rules knows s }) b t
  unsent_ruled {b = b} {t = t} e = subst (λ z. SinkStopped Is (record { outlet = outlet; stage = ready z knows s }) b t) same e

  pub broken_ruled : {b : Work} → BrokenOff Is (record { outlet = outlet; stage = ready other knows s }) b → BrokenOff Is (record { outlet = outlet; stage = ready rules knows s }) b
  broken_ruled {b = b} e = subst (λ z. BrokenOff Is (record { outlet = outlet; stage = ready z knows s }) b) same e

  pub stopped_ruled : {b : Outlet} {t : Point} → MemoryStopped Is (record { outlet = outlet; stage = ready other knows s }) b t → MemoryStopped Is (record { outlet = outlet; stage = ready rules knows s }) b t
  stopped_ruled {b = b} {t = t} e = subst (λ z. MemoryStopped Is (record { outlet = outlet; stage = ready z knows s }) b t) same e
