-- An exchange is a request and all that is answered to it. Its steps, its answers and its bytes are functions of it.
use Rattle.dav_model.specs.Play.{Playing}
use Rattle.std.specs.Prelude.{◌≡◌, ◌⊎◌, ◌↔◌, ◌||◌, ℕ, List, [], ◌∷◌, ◌++◌, Bool, IsTrue, true, Option, Some, None}
use Rattle.std.specs.List.{flat_map}
use Rattle.http.specs.declared.request.Parts.{Parts}
use Rattle.http.specs.declared.version.TheConstants.Version.{HTTP_10}
use Rattle.http.specs.Request.{head_of, body_of}
use Rattle.dav_io.specs.declared.clock.Moment.{Moment}
use Rattle.dav_io.specs.declared.fields.Field.{Field}
use Rattle.dav_model.specs.declared.step.Step.{Step}
use Rattle.dav_model.specs.declared.step.Step.TheVariants.{Request, Poll, Purge, Turn}
use Rattle.dav_model.specs.declared.answer.Answer.{Answer}
use Rattle.dav_model.specs.declared.answer.Answer.TheVariants.{Reply as Replied, Piece, End, Done}
use Rattle.dav_model.specs.Conditions.{Asked}
use Rattle.dav_model.specs.Rules.{Rules, Knowledge}
use Rattle.dav_wire.specs.Answers.{head_text, has_close_field}
use Rattle.dav_wire.specs.Chunks.{written, ending}
use Rattle.dav_wire.specs.Framing.{framing, takes_chunks}
use Rattle.dav_wire.specs.declared.chunks.Framing.{Framing}
use Rattle.dav_wire.specs.Fields.{asks_close}
use Rattle.dav_wire.specs.Heads.{IsRead}
use Rattle.dav_wire.specs.Messages.{Message}

pub record Exchange : Type 0 where
  pub request : Asked
  pub now : Moment
  -- whether the request asks that the connection closes
  pub closing : Bool
  pub status : ℕ
  pub fields : List Field
  pub body : ℕ
  pub pieces : List (List ℕ)

-- Nothing is read behind a request of HTTP/1.0, and one with a member `close` of a field `connection`.
abbrev pub IsLast : Parts → Type 0
IsLast parts = (parts.version ≡ HTTP_10) ⊎ (asks_close parts.headers ≡ true)

-- whether the connection closes behind the answer, whatever that is
abbrev pub ClosesAfter : Parts → Bool → Type 0
ClosesAfter parts closing = IsTrue closing ↔ IsLast parts

-- whether nothing more is read after the answer
abbrev pub is_closed : Exchange → Bool
is_closed x = x.closing || has_close_field x.fields

-- a turn and a poll for each piece
abbrev pub piece_steps : ℕ → List (List ℕ) → List Step
piece_steps body [] = []
piece_steps body (piece ∷ pieces) = Turn ∷ Poll body ∷ piece_steps body pieces

abbrev pub piece_answers : List (List ℕ) → List Answer
piece_answers [] = []
piece_answers (piece ∷ pieces) = Done ∷ Piece piece ∷ piece_answers pieces

abbrev pub begun_steps : Exchange → List Step
begun_steps x = (Turn ∷ Purge x.now ∷ Request x.request x.now ∷ []) ++ piece_steps x.body x.pieces

abbrev pub begun_answers : Exchange → List Answer
begun_answers x = (Done ∷ Done ∷ Replied x.status x.fields x.body ∷ []) ++ piece_answers x.pieces

-- The steps of an exchange: a turn, a purge, the request, and then a turn and a poll until the end.
abbrev pub steps_of : Exchange → List Step
steps_of x = begun_steps x ++ Turn ∷ Poll x.body ∷ []

abbrev pub answers_of : Exchange → List Answer
answers_of x = begun_answers x ++ Done ∷ End ∷ []

-- How the body is written: by the head of the request, the status and the fields.
abbrev pub framing_of : Exchange → Framing
framing_of x = framing (takes_chunks (head_of x.request)) x.status x.fields

-- the bytes of the head and of the pieces, each as it is written
abbrev pub begun_wire_of : Exchange → List ℕ
begun_wire_of x = head_text x.status x.fields x.closing (framing_of x) ++ flat_map (written (framing_of x)) x.pieces

-- the bytes of the whole answer, with what ends its body
abbrev pub wire_of : Exchange → List ℕ
wire_of x = begun_wire_of x ++ ending (framing_of x)

-- a player of these rules with no replies and no bodies, over a memory that knows this
abbrev pub fresh : Rules → Knowledge → Playing
fresh rules knows = record { rules = rules; replies = 0; left = λ _. []; held = λ _. None; knows = knows }

-- The moment is what the clock shows, where it tells.
abbrev pub IsShown : Option Moment → Moment → Type 0
IsShown shown now = (shown ≡ Some now) ⊎ (shown ≡ None)

-- The exchange is that of this message: its request is what the head says, with the body behind it, at the moment that
-- the clock shows.
pub record IsOf (shown : Option Moment) (message : Message) (x : Exchange) : Type 0 where
  pub parts : IsRead message.head (head_of x.request)
  pub body : body_of x.request ≡ message.body
  pub closing : ClosesAfter (head_of x.request) x.closing
  pub moment : IsShown shown x.now

-- an exchange that has no pieces yet
abbrev pub exchange_of : Asked → Moment → Bool → ℕ → List Field → ℕ → Exchange
exchange_of request now closing status fields body =
    record {
      request = request;
      now = now;
      closing = closing;
      status = status;
      fields = fields;
      body = body;
      pieces = [];
    }

-- the same exchange with these pieces
abbrev pub with_pieces : Exchange → List (List ℕ) → Exchange
with_pieces x pieces = record x { pieces = pieces }
