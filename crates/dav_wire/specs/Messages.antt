-- Which requests, with their bodies, the bytes of an input hold.
--
-- At a place there is nothing (the bytes are over), a message, a refusal (400 or 413 is owed), or a message that isn't
-- finished (nothing is owed).
use Rattle.std.specs.Prelude.{◌≡◌, ℕ, List}
use Rattle.httparse.specs.Grammar.{RequestHead}
use Rattle.dav_wire.specs.Announced.{announces}
use Rattle.dav_wire.specs.Bodies.{IsBody, BodyRefusal, IsBodyUnfinished}
use Rattle.dav_wire.specs.Requests.{InTurn, IsRequest, Refusal, IsUnfinished}
use Rattle.dav_wire.specs.declared.next.Flaw.{Flaw}
use Rattle.dav_wire.specs.declared.next.Flaw.TheVariants.{Malformed}

-- a request and its body
pub record Message : Type 0 where
  pub head : RequestHead
  pub body : List ℕ

-- A message stands at the front: the head of a request, and behind it the body that it announces. The rest follows it.
pub record IsMessage (left : List ℕ) (message : Message) (rest : List ℕ) : Type 0 where
  pub behind : List ℕ
  pub request : IsRequest left message.head behind
  pub body : IsBody (announces message.head) behind message.body rest

-- the messages at the front, one after the other
abbrev pub Messages : List ℕ → List Message → List ℕ → Type 0
Messages left messages rest = InTurn IsMessage left messages rest

-- no message stands at the front
abbrev pub HasNoMessage : List ℕ → Type 0
HasNoMessage left = (message : Message) (rest : List ℕ) → IsMessage left message rest → ⊥

-- Why no message can stand at the front, whatever follows.
pub data MessageRefusal (left : List ℕ) (flaw : Flaw) : Type 0 where
  -- no request can stand there
  refused_head : flaw ≡ Malformed → Refusal left → MessageRefusal left flaw
  -- behind the head of a request the body that it announces can't stand
  refused_body : (request : RequestHead) (behind : List ℕ) → IsRequest left request behind
      → BodyRefusal (announces request) behind flaw → MessageRefusal left flaw

-- The bytes are over inside a message.
pub data IsMessageUnfinished (left : List ℕ) : Type 0 where
  -- inside its head
  open_head : IsUnfinished left → IsMessageUnfinished left
  -- inside the body behind the head
  open_body : (request : RequestHead) (behind : List ℕ) → IsRequest left request behind
      → IsBodyUnfinished (announces request) behind → IsMessageUnfinished left
