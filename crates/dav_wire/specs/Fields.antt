-- What a server asks of the fields of a request: whether the connection is to be closed (RFC 9110, sections 5.6.1 and
-- 7.6.1), and whether any frames a body.
use Rattle.std.specs.Prelude.{◌≡◌, ℕ, Bool, ◌&&◌, ◌||◌, ◌==◌, not, List, [], codes, bytes_eq, map, take, drop}
use Rattle.std.specs.List.{list_any, list_all, slice_split}
use Rattle.httparse.specs.Grammar.{is_ows, skip_ows}
use Rattle.http_header.specs.FieldValue.{FieldValue}
use Rattle.http_header.specs.HeaderMap.{Entries, get_all}
use Rattle.http_header.specs.Token.{lowercase}

-- the bytes of each value under the name
abbrev pub values_of : Entries FieldValue → List ℕ → List (List ℕ)
values_of fields name = map (λ v. v.bytes) (get_all fields (lowercase name))

-- the members of a list: the texts between its commas
abbrev pub members : List ℕ → List (List ℕ)
members text = slice_split (λ b. b == 44) text

-- `close` in any case, and then nothing but spaces and tabs
abbrev pub is_close_word : List ℕ → Bool
is_close_word bytes = bytes_eq (lowercase (take 5 bytes)) (codes "close") && list_all is_ows (drop 5 bytes)

-- a member `close`, in any case, with spaces and tabs around it
abbrev pub is_close_member : List ℕ → Bool
is_close_member member = is_close_word (skip_ows member)

-- a member of the list is `close`
abbrev pub names_close : List ℕ → Bool
names_close text = list_any is_close_member (members text)

-- a member of a field `connection` is `close`
abbrev pub asks_close : Entries FieldValue → Bool
asks_close fields = list_any names_close (values_of fields (codes "connection"))

-- No field announces a body or says what becomes of the connection: there is none of these three.
pub record ArePlain (fields : Entries FieldValue) : Type 0 where
  pub lengths : values_of fields (codes "content-length") ≡ []
  pub codings : values_of fields (codes "transfer-encoding") ≡ []
  pub connection : values_of fields (codes "connection") ≡ []

-- no name of these three begins with the letter, in any case
abbrev pub is_apart : ℕ → Bool
is_apart letter = not ((letter == 99 || letter == 67) || (letter == 116 || letter == 84))
