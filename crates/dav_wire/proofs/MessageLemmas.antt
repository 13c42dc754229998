-- Messages: at most one stands at a place, and it stays.
use Rattle.std.proofs.Common.{◌≡◌, ℕ, List, [], ◌++◌, sym, ap₂, ◌∙◌, subst}
use Rattle.httparse.specs.Grammar.{RequestHead}
use Rattle.dav_wire.specs.Announced.{announces}
use Rattle.dav_wire.specs.Bodies.{IsBody, BodyRefusal}
use Rattle.dav_wire.specs.Messages.{Message, IsMessage, Messages, HasNoMessage, MessageRefusal, refused_head, refused_body, IsMessageUnfinished, open_head, open_body}
use Rattle.dav_wire.specs.Requests.{EitherWay}
use Rattle.dav_wire.specs.declared.next.Flaw.{Flaw}
use Rattle.dav_wire.proofs.BodyLaws.{bodies_are_one, bodies_stay, body_refusal_stays, body_refusal_has_none, body_flaws_are_one, unfinished_body_none, unfinished_body_not_refused}
use Rattle.dav_wire.proofs.RequestLemmas.{request_stays, request_is_one, refusal_stays, refusal_has_none, unfinished_none, unfinished_refused, end_has_none}
use Rattle.dav_wire.proofs.RequestLemmas as requests
use Rattle.dav_wire.proofs.InTurn.{in_turn_are_one, in_turn_join}

pub message_stays : (left more : List ℕ) (message : Message) (rest : List ℕ) → IsMessage left message rest
    → IsMessage (left ++ more) message (rest ++ more)
message_stays left more message rest m = record {
  behind = m.behind ++ more;
  request = request_stays left more message.head m.behind m.request;
  body = bodies_stay (announces message.head) m.behind message.body rest more m.body;
}

-- what is said of the body behind one head is said behind the same
at_same : (P : RequestHead → List ℕ → Type 0) (head other : RequestHead) (behind after : List ℕ) → (head ≡ other) × (behind ≡ after) → P head behind
    → P other after
at_same P head other behind after same p = subst (λ (x : List ℕ). P other x) same.1 (subst (λ (h : RequestHead). P h behind) same.0 p)

pub message_is_one : (left : List ℕ) (message other : Message) (rest behind : List ℕ) → IsMessage left message rest → IsMessage left other behind
    → (message ≡ other) × (rest ≡ behind)
message_is_one left message other rest behind a b =
    let same = request_is_one left message.head other.head a.behind b.behind a.request b.request in
    let body = bodies_are_one (announces other.head) b.behind message.body other.body rest behind
    (at_same (λ h x. IsBody (announces h) x message.body rest) message.head other.head a.behind b.behind same a.body) b.body in
    (ap₂ (λ (h : RequestHead) (x : List ℕ). let m : Message = record { head = h; body = x } in m) same.0 body.0, body.1)

pub message_refusal_stays : (left more : List ℕ) (flaw : Flaw) → MessageRefusal left flaw → MessageRefusal (left ++ more) flaw
message_refusal_stays left more flaw (refused_head is refused) = refused_head is (refusal_stays left more refused)
message_refusal_stays left more flaw (refused_body head behind request refused) =
    refused_body head (behind ++ more) (request_stays left more head behind request) (body_refusal_stays (announces head) behind more flaw refused)

pub message_refusal_has_none : (left more : List ℕ) (flaw : Flaw) → MessageRefusal left flaw → HasNoMessage (left ++ more)
message_refusal_has_none left more flaw (refused_head is refused) message rest m = refusal_has_none left more refused message.head m.behind m.request
message_refusal_has_none left more flaw (refused_body head behind request refused) message rest m =
    let same = request_is_one (left ++ more) message.head head m.behind (behind ++ more) m.request (request_stays left more head behind request) in
    body_refusal_has_none (announces head) behind more flaw refused message.body rest
    (at_same (λ h x. IsBody (announces h) x message.body rest) message.head head m.behind (behind ++ more) same m.body)

pub message_flaws_are_one : (left : List ℕ) (flaw other : Flaw) → MessageRefusal left flaw → MessageRefusal left other → flaw ≡ other
message_flaws_are_one left flaw other (refused_head is refused) (refused_head is' refused') = is ∙ sym is'
message_flaws_are_one left flaw other (refused_head is refused) (refused_body head behind request refused') =
    absurd (requests.refused_none left refused head behind request)
message_flaws_are_one left flaw other (refused_body head behind request refused) (refused_head is refused') =
    absurd (requests.refused_none left refused' head behind request)
message_flaws_are_one left flaw other (refused_body head behind request refused) (refused_body head' behind' request' refused') =
    let same = request_is_one left head head' behind behind' request request' in
    body_flaws_are_one (announces head') behind' flaw other
    (at_same (λ h x. BodyRefusal (announces h) x flaw) head head' behind behind' same refused) refused'

pub unfinished_message_none : (left : List ℕ) → IsMessageUnfinished left → HasNoMessage left
unfinished_message_none left (open_head still) message rest m = unfinished_none left still message.head m.behind m.request
unfinished_message_none left (open_body head behind request still) message rest m =
    let same = request_is_one left message.head head m.behind behind m.request request in
    unfinished_body_none (announces head) behind still message.body rest
    (at_same (λ h x. IsBody (announces h) x message.body rest) message.head head m.behind behind same m.body)

pub unfinished_message_refused : (left : List ℕ) (flaw : Flaw) → IsMessageUnfinished left → MessageRefusal left flaw → EitherWay left
unfinished_message_refused left flaw (open_head still) (refused_head is refused) = unfinished_refused left still refused
unfinished_message_refused left flaw (open_head still) (refused_body head behind request refused) =
    absurd (unfinished_none left still head behind request)
unfinished_message_refused left flaw (open_body head behind request still) (refused_head is refused) =
    absurd (requests.refused_none left refused head behind request)
unfinished_message_refused left flaw (open_body head behind request still) (refused_body head' behind' request' refused) =
    let same = request_is_one left head' head behind' behind request' request in
    absurd (unfinished_body_not_refused (announces head) behind flaw still
    (at_same (λ h x. BodyRefusal (announces h) x flaw) head' head behind' behind same refused))

pub messages_join : (left mid rest : List ℕ) (messages more : List Message) → Messages left messages mid → Messages mid more rest
    → Messages left (messages ++ more) rest
messages_join = in_turn_join IsMessage

pub messages_are_one : (left rest behind : List ℕ) (messages others : List Message) → Messages left messages rest → HasNoMessage rest
    → Messages left others behind → HasNoMessage behind → (messages ≡ others) × (rest ≡ behind)
messages_are_one = in_turn_are_one IsMessage message_is_one

pub end_has_no_message : HasNoMessage []
end_has_no_message message rest m = end_has_none message.head m.behind m.request
