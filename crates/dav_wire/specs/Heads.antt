-- The head of a request of the grammar, and the parts that `http` makes of it.
use Rattle.std.specs.Prelude.{◌≡◌, ◌≤◌, ℕ, ◌==◌, true, if◌then◌else◌, List, [], map, length, drop, Option, Some, None, Result, Ok, Err}
use Rattle.http.specs.declared.request.Parts.{Parts}
use Rattle.http.specs.declared.version.Version.{Version}
use Rattle.http.specs.declared.version.TheConstants.Version.{HTTP_10, HTTP_11}
use Rattle.http_header.specs.FieldName.{IsFieldName}
use Rattle.http_header.specs.FieldValue.{FieldValue, IsFieldValue, plain_value}
use Rattle.http_header.specs.HeaderMap.{append_all}
use Rattle.http_header.specs.Token.{lowercase}
use Rattle.http_uri.specs.Uri.{Spells}
use Rattle.httparse.specs.Grammar.{Field, field_value, RequestHead, print_request, ReadsRequest, HasNoRequest, MayBecomeRequest}
use Rattle.httparse.specs.Spans.{header_bytes}
use Rattle.httparse.specs.declared.spans.HeaderSpan.{HeaderSpan}
use Rattle.dav_wire.specs.Fields.{ArePlain}
use Rattle.dav_wire.specs.Requests.{Refusal}
use Rattle.dav_wire.specs.declared.head.Head.{Head}
use Rattle.dav_wire.specs.declared.head.PartError.{PartError}
use Rattle.dav_wire.specs.declared.head.PartError.TheVariants.{Refused, NoMemory}

-- HTTP/1.0 or HTTP/1.1, by its minor number
abbrev pub version_of : ℕ → Version
version_of minor = if minor == 0 then HTTP_10 else HTTP_11

-- a name and a value as a map keeps them
abbrev pub kept : List ℕ × List ℕ → List ℕ × FieldValue
kept part = (lowercase part.0, plain_value part.1)

-- a field as a map keeps it
abbrev pub kept_field : Field → List ℕ × FieldValue
kept_field f = kept (f.name, field_value f)

-- what the spans of a field cover, as a map keeps it
abbrev pub kept_span : List ℕ → HeaderSpan → List ℕ × FieldValue
kept_span buf h = kept (header_bytes buf h)

-- `http` takes the name and the value
abbrev pub IsField : List ℕ × List ℕ → Type 0
IsField part = IsFieldName part.0 × IsFieldValue part.1

-- The parts are those of the head: its method, what its target spells, its version and its fields.
pub record IsRead (head : RequestHead) (parts : Parts) : Type 0 where
  pub method : parts.method ≡ head.method
  pub uri : Spells head.target parts.uri
  pub version : parts.version ≡ version_of head.minor
  pub headers : parts.headers ≡ append_all [] (map kept_field head.fields)

-- The first len bytes are a head of at most 256 fields, and the parts are its.
pub record IsReadAt (buf : List ℕ) (len : ℕ) (parts : Parts) : Type 0 where
  pub head : RequestHead
  pub reads : ReadsRequest buf head (drop len buf)
  pub len_is : len ≡ length (print_request head)
  pub few : length head.fields ≤ 256
  pub parts_are : IsRead head parts

-- ---- what is read at the front of a buffer of at most 65,536 bytes: how many of them a head takes, and its parts; and
-- where its fields are told as plain, they are

abbrev pub Parses : List ℕ → Result (Option Head) PartError → Parts → Type 0
Parses buf (Ok (Some head)) parts = IsReadAt buf head.len parts × (head.plain ≡ true → ArePlain parts.headers)
Parses buf (Ok None) parts = HasNoRequest buf × MayBecomeRequest buf
Parses buf (Err Refused) parts = Refusal buf
Parses buf (Err NoMemory) parts = Unit {0}
