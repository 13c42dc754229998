-- Which requests the bytes of an input hold. Until bodies are read, a request is its head alone.
--
-- At a place there is nothing (the bytes are over), a request, a refusal (400 is owed), or a head that isn't finished
-- (nothing is owed). Blank lines before a head belong to it.
use Rattle.std.specs.Prelude.{◌≡◌, ℕ, ◌<◌, ◌≤◌, ◌⊎◌, List, [], ◌∷◌, length, take}
use Rattle.http_uri.specs.Uri.{Spells, SpellsNone}
use Rattle.http_uri.specs.declared.uri.Uri.{Uri as Target}
use Rattle.httparse.specs.Grammar.{RequestHead, print_request, ReadsRequest, HasNoRequest, NeverHasRequest, MayBecomeRequest, EndsInTarget}
use Rattle.httparse.specs.Spans.{RequestOverflows, RequestExceeds}

-- A request stands at the front: a head of HTTP/1.0 or 1.1 as `httparse` reads it, of at most 65,536 bytes and at most
-- 256 fields, with a target that `http_uri` reads. The rest follows it.
pub record IsRequest (left : List ℕ) (head : RequestHead) (rest : List ℕ) : Type 0 where
  pub reads : ReadsRequest left head rest
  pub short : length (print_request head) ≤ 65536
  pub few : length head.fields ≤ 256
  pub target : (uri : Target) × Spells head.target uri

-- Why no request can stand at the front, whatever follows.
pub data Refusal (left : List ℕ) : Type 0 where
  -- no head of the grammar can stand there
  never : NeverHasRequest left → Refusal left
  -- there are more than 65,536 bytes, and no head in the first 65,536
  long : 65536 < length left → HasNoRequest (take 65536 left) → Refusal left
  -- more than 256 field lines stand there, and a head has no fewer
  many : RequestExceeds 256 left → RequestOverflows 256 left → Refusal left
  -- the head that stands there has a target that `http_uri` refuses
  target : (head : RequestHead) (rest : List ℕ) → ReadsRequest left head rest → SpellsNone head.target → Refusal left

-- The bytes are over inside a head: at most 65,536 of them, of which no front is a head, and more could have made one.
-- A target is judged at its end, so the bytes may also be over inside one that nothing could complete.
pub record IsUnfinished (left : List ℕ) : Type 0 where
  pub some : 0 < length left
  pub short : length left ≤ 65536
  pub none : HasNoRequest left
  pub may : MayBecomeRequest left

-- Things of a kind stand at the front, one after the other. What follows them is the rest.
abbrev pub InTurn : {H : Type 0} → (List ℕ → H → List ℕ → Type 0) → List ℕ → List H → List ℕ → Type 0
InTurn Is left [] rest = rest ≡ left
InTurn Is left (x ∷ xs) rest = (after : List ℕ) × Is left x after × InTurn Is after xs rest

-- the requests at the front
abbrev pub Requests : List ℕ → List RequestHead → List ℕ → Type 0
Requests left heads rest = InTurn IsRequest left heads rest

-- no request stands at the front
abbrev pub HasNone : List ℕ → Type 0
HasNone left = (head : RequestHead) (rest : List ℕ) → IsRequest left head rest → ⊥

-- The two places where an unfinished head may also be refused: its target is one that nothing could complete, or it
-- has more than 256 field lines.
abbrev pub EitherWay : List ℕ → Type 0
EitherWay left = (EndsInTarget left × NeverHasRequest left) ⊎ RequestExceeds 256 left
