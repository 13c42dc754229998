-- What the head of each reply is, so that it can be read: a status of a list, and fields in order.
use Rattle.std.specs.Prelude.{◌≡◌, ◌==◌, ℕ, Bool, true, List, [], ◌∷◌, All, Contains, codes, map}
use Rattle.std.specs.Cmp.Lexicographic.{slice_cmp}
use Rattle.std.specs.List.{list_any}
use Rattle.std.specs.List.Sorted.{IsStrictlySortedBy}
use Rattle.std.specs.Ordering.{nat_cmp}
use Rattle.http_header.specs.FieldValue.{IsFieldValue}
use Rattle.http_header.specs.Token.{IsToken}
use Rattle.dav_io.specs.declared.fields.Field.{Field}
use Rattle.dav_model.specs.declared.answer.Answer.{Answer}
use Rattle.dav_model.specs.declared.answer.Answer.TheVariants.{Reply as Replied, Piece, End, Broken, Done}

-- the statuses of right replies, where nothing failed
abbrev pub right_statuses : List ℕ
right_statuses = 200 ∷ 206 ∷ 302 ∷ 304 ∷ 403 ∷ 404 ∷ 405 ∷ 412 ∷ 416 ∷ []

-- the statuses of what the gates refuse
abbrev pub gate_statuses : List ℕ
gate_statuses = 400 ∷ 403 ∷ 404 ∷ 405 ∷ 413 ∷ 415 ∷ 501 ∷ []

-- the statuses of all replies; 500 comes only where the disk failed
abbrev pub reply_statuses : List ℕ
reply_statuses = 200 ∷ 201 ∷ 204 ∷ 206 ∷ 302 ∷ 304 ∷ 400 ∷ 403 ∷ 404 ∷ 405 ∷ 409 ∷ 412 ∷ 413 ∷ 415 ∷ 416 ∷ 500 ∷ 501
    ∷ []

abbrev pub is_among : ℕ → List ℕ → Bool
is_among n ns = list_any (λ m. m == n) ns

-- the names of the fields of all replies
abbrev pub reply_names : List (List ℕ)
reply_names =
    codes "accept-ranges" ∷ codes "allow" ∷ codes "cache-control" ∷ codes "connection" ∷ codes "content-length"
    ∷ codes "content-range" ∷ codes "content-type" ∷ codes "dav" ∷ codes "etag" ∷ codes "expires"
    ∷ codes "last-modified"
    ∷ codes "location" ∷ codes "ms-author-via" ∷ codes "pragma" ∷ codes "vary"
    ∷ []

-- The name of a field is a token and its value a field value (RFC 9110, sections 5.1 and 5.5), so neither has a byte
-- that ends a line. A field `connection` says `close`.
pub record IsReplyField (field : Field) : Type 0 where
  pub known : Contains reply_names field.name
  pub name : IsToken field.name
  pub value : IsFieldValue field.value
  pub closes : field.name ≡ codes "connection" → field.value ≡ codes "close"

-- The names of fields ascend by their bytes, each before all behind it. So none stands twice.
abbrev pub Ascend : List Field → Type 0
Ascend fields = IsStrictlySortedBy (slice_cmp nat_cmp) (map (λ (field : Field). field.name) fields)

-- the head of a reply: its status and its fields
pub record IsWellFormed (status : ℕ) (fields : List Field) : Type 0 where
  pub listed : is_among status reply_statuses ≡ true
  pub ascend : Ascend fields
  pub each : All IsReplyField fields

-- the same of an answer to a step, if it is a reply
abbrev pub IsWellFormedAnswer : Answer → Type 0
IsWellFormedAnswer (Replied status fields body) = IsWellFormed status fields
IsWellFormedAnswer (Piece bytes) = Unit {0}
IsWellFormedAnswer End = Unit {0}
IsWellFormedAnswer Broken = Unit {0}
IsWellFormedAnswer Done = Unit {0}
