-- What a file's answer is judged to be, and what comes of the file.
use Rattle.std.specs.Prelude.{◌&&◌, ◌==◌, ◌-◌, ℕ, List, [], ◌++◌, length, take, codes, cond, decimal, nat_lt, nat_le, Bool, false, Option, None, Some}
use Rattle.std.specs.Str.{all_ascii_digits, bytes_eq}
use Rattle.std.specs.Str.Parse.{digits_value}
use Rattle.dav_io.specs.declared.fields.Field.{Field}
use Rattle.dav_core.specs.declared.etag.ETag.{ETag}
use Rattle.dav_core.specs.Path.{Names}
use Rattle.dav_core.specs.TagReading.{tag_of}
use Rattle.dav_model.specs.Announced.{value_of}
use Rattle.dav_fetch.specs.declared.copied.Kept.{Kept}
use Rattle.dav_fetch.specs.Asking.{Awaits, whole, rest, same}

-- what an answer does to a file
pub data Use : Type 0 where
  -- so many bytes are announced behind those of this file
  gives : Kept → ℕ → Use
  keeps : Use
  -- a status that isn't awaited
  refuses : Use
  -- its head says what can't be of it
  spoils : Use

-- a number of 1 to 19 digits
abbrev pub number_said : Option (List ℕ) → Option ℕ
number_said None = None
number_said (Some text) = cond (nat_lt 0 (length text) && (nat_le (length text) 19 && all_ascii_digits text))
    (Some (digits_value 10 text)) None

-- the value, where it is one strong tag; else nothing
abbrev pub if_strong : List ℕ → Option ETag → List ℕ
if_strong value None = []
if_strong value (Some tag) = cond tag.weak [] value

abbrev pub strong_said : Option (List ℕ) → List ℕ
strong_said None = []
strong_said (Some value) = if_strong value (tag_of value)

abbrev pub has_value : Option (List ℕ) → List ℕ → Bool
has_value None value = false
has_value (Some v) value = bytes_eq v value

abbrev pub has_number : Option ℕ → ℕ → Bool
has_number None n = false
has_number (Some m) n = m == n

-- the span from the bytes kept on
abbrev pub span_behind : Kept → List ℕ
span_behind f = codes "bytes " ++ (decimal (length f.bytes) ++ (codes "-" ++ (decimal (f.len - 1) ++ (codes "/" ++ decimal f.len))))

abbrev pub is_rest_of : Kept → List Field → Bool
is_rest_of f fields = has_value (value_of (codes "etag") fields) f.tag
    && (has_value (value_of (codes "content-range") fields) (span_behind f)
    && has_number (number_said (value_of (codes "content-length") fields)) (f.len - length f.bytes))

abbrev pub new_file : Names → List Field → Option ℕ → Use
new_file path fields None = spoils
new_file path fields (Some n) = gives (record { path = path; tag = strong_said (value_of (codes "etag") fields); len = n; bytes = [] }) n

abbrev pub replaced : Names → List Field → Use
replaced path fields = new_file path fields (number_said (value_of (codes "content-length") fields))

-- what 206 does to a file of which some is kept
abbrev pub rest_use : Kept → List Field → Use
rest_use f fields = cond (is_rest_of f fields) (gives f (f.len - length f.bytes)) spoils

abbrev pub use_of : Names → Awaits → ℕ → List Field → Use
use_of path whole status fields = cond (status == 200) (replaced path fields) refuses
use_of path (rest f) status fields = cond (status == 200) (replaced path fields)
    (cond (status == 206) (rest_use f fields) refuses)
use_of path (same f) status fields = cond (status == 200) (replaced path fields) (cond (status == 304) keeps refuses)

-- the file with what came of the body; no more than was announced is kept
abbrev pub grown : Kept → ℕ → List ℕ → Kept
grown f n came = record f { bytes = f.bytes ++ take n came }
