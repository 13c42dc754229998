-- What a head announces: of a body its length, and of a HEAD the fields of the GET.
use Rattle.std.specs.Prelude.{◌≡◌, ◌==◌, ◌&&◌, ◌+◌, ℕ, Bool, true, false, not, cond, List, [], ◌∷◌, length, bytes_eq, codes, decimal, Option, None, Some}
use Rattle.dav_io.specs.Counts.{Rose}
use Rattle.dav_io.specs.declared.fields.Field.{Field}
use Rattle.dav_core.specs.World.{World}
use Rattle.dav_model.specs.declared.answer.Answer.{Answer}
use Rattle.dav_model.specs.declared.answer.Answer.TheVariants.{Piece, End}
use Rattle.dav_model.specs.declared.target.Target.{Target}
use Rattle.dav_model.specs.declared.target.Target.TheVariants.{At, Methods, Refused, Writes}
use Rattle.dav_model.specs.Bodies.{NoneEmpty, Part, bytes_left, Polls}
use Rattle.dav_model.specs.Head.{Reply, is_get}

-- the value of the first field of a name
abbrev pub value_of : List ℕ → List Field → Option (List ℕ)
value_of name [] = None
value_of name (field ∷ fields) = cond (bytes_eq field.name name) (Some field.value) (value_of name fields)

-- Whether `content-length` speaks of the body that is sent. To a HEAD, and with 304, no body is sent, and it speaks of
-- the one that a GET would have (RFC 9110, section 8.6).
abbrev pub length_is_own : Target → ℕ → Bool
length_is_own (At method path) status = is_get method && not (status == 304)
length_is_own Methods answered = true
length_is_own (Writes method path) answered = true
length_is_own (Refused status close) answered = true

abbrev pub IsFramedBy : Bool → Reply → Type 0
IsFramedBy true reply = (value : List ℕ) → value_of (codes "content-length") reply.fields ≡ Some value
    → value ≡ decimal (bytes_left reply.parts)
IsFramedBy false reply = reply.parts ≡ []

-- Where a reply has `content-length`, that is the number of bytes of its body. A HEAD and 304 have no body.
abbrev pub IsFramed : Target → Reply → Type 0
IsFramed target reply = IsFramedBy (length_is_own target reply.status) reply

-- What holds of the body of every reply: no part is empty, and with 204 there is none (RFC 9110, section 15.3.5).
pub record HasSoundBody (reply : Reply) : Type 0 where
  pub full : NoneEmpty reply.parts
  pub bodiless : reply.status ≡ 204 → reply.parts ≡ []

-- a poll, over any world, with any read buffer and any count of faults
pub record IsPoll (left : List Part) (answer : Answer) (rest : List Part) : Type 0 where
  pub told : Option World
  pub whole : Bool
  pub most : ℕ
  pub before : ℕ
  pub after : ℕ
  pub polls : Polls told whole most (Rose before after) left answer rest

-- A body was polled to its end without a break, and gave these pieces. Between two polls anything may happen to the
-- files.
abbrev pub PolledToEnd : List Part → List (List ℕ) → Type 0
PolledToEnd left [] = (rest : List Part) × IsPoll left End rest
PolledToEnd left (piece ∷ pieces) = (rest : List Part) × IsPoll left (Piece piece) rest × PolledToEnd rest pieces

-- how many bytes the pieces have
abbrev pub bytes_in : List (List ℕ) → ℕ
bytes_in [] = 0
bytes_in (piece ∷ pieces) = length piece + bytes_in pieces

-- a reply without its body
abbrev pub bare : Reply → Reply
bare reply = record { status = reply.status; fields = reply.fields; parts = [] }
