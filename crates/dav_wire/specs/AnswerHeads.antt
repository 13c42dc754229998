-- The head of an answer as one who reads it sees it, by the grammar of `httparse` (RFC 9112, sections 4 and 5).
use Rattle.std.specs.Prelude.{◌≡◌, ℕ, List, map}
use Rattle.dav_io.specs.declared.fields.Field.{Field}
use Rattle.http_header.specs.Token.{IsToken}
use Rattle.http_header.specs.FieldValue.{IsFieldValue}
use Rattle.httparse.specs.Grammar.{ResponseHead, ReadsResponse, status_code, trim_ows}
use Rattle.httparse.specs.Spans.{name_and_value}

-- The name is a token and the value a field value, so neither has a byte that ends a line.
pub record IsAnswerField (field : Field) : Type 0 where
  pub name : IsToken field.name
  pub value : IsFieldValue field.value

-- a field as it is read: its value is without the spaces and tabs at its ends
abbrev pub as_read : Field → List ℕ × List ℕ
as_read field = (field.name, trim_ows field.value)

-- One response head stands at the front, with this status and these fields and no more. Behind it stands the rest.
pub record ReadsAnswer (text : List ℕ) (status : ℕ) (fields : List Field) (rest : List ℕ) : Type 0 where
  pub head : ResponseHead
  pub reads : ReadsResponse text head rest
  pub status_is : status_code head ≡ status
  pub fields_are : map name_and_value head.fields ≡ map as_read fields
