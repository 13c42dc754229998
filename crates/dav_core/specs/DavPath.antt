-- The path of a request as contracts see it.
use Rattle.std.specs.Prelude.{◌≡◌, ◌==◌, ◌||◌, ◌&&◌, ◌++◌, nat_le, ℕ, List, [], ◌∷◌, Bool, true, false, not, length, codes, ◌-◌, slice_get, Option, None, Some, if◌then◌else◌}
use Rattle.std.specs.List.{flat_map, list_all}
use Rattle.std.specs.Str.{bytes_eq, is_utf8}
use Rattle.percent_encoding.specs.Percent.{percent_encode_byte}
use Rattle.dav_core.specs.ContentTypes.{content_type_of, octet_stream}
use Rattle.dav_core.specs.Path.{Names, is_plain}

-- the prefix under which the server stands, the names below it, and whether a slash ends it
pub record WebPath : Type 0 where
  pub prefix : Names
  pub names : Names
  pub slash : Bool

-- a path without names has a final slash
abbrev pub ends_well : WebPath → Bool
ends_well path = not (length path.names == 0) || path.slash

-- two names or more, of which this is the first
abbrev pub is_in_home : List ℕ → Names → Bool
is_in_home home [] = false
is_in_home home (name ∷ []) = false
is_in_home home (name ∷ next ∷ names) = bytes_eq name home

-- the last name, which the root alone has not
abbrev pub last_name : Names → Option (List ℕ)
last_name names = slice_get names (length names - 1)

abbrev pub type_of_last : Option (List ℕ) → List ℕ
type_of_last None = octet_stream
type_of_last (Some name) = content_type_of name

abbrev pub slashed : List ℕ → List ℕ
slashed name = codes "/" ++ name

abbrev pub final_slash : Bool → List ℕ
final_slash slash = if slash then codes "/" else []

-- a slash before each name of prefix and path, and the final slash
abbrev pub shown : WebPath → List ℕ
shown path = flat_map slashed path.prefix ++ (flat_map slashed path.names ++ final_slash path.slash)

-- an ASCII letter, a digit, or one of - . _ ~ /
abbrev pub stays : ℕ → Bool
stays b =
    (nat_le 97 b && nat_le b 122) || (nat_le 65 b && nat_le b 90) || (nat_le 48 b && nat_le b 57)
    || (b == 45) || (b == 46) || (b == 95) || (b == 126) || (b == 47)

-- each other byte is `%` and two upper-case digits
abbrev pub link_byte : ℕ → List ℕ
link_byte b = if stays b then (b ∷ []) else percent_encode_byte b

-- a printable ASCII character
abbrev pub is_printable : ℕ → Bool
is_printable b = nat_le 32 b && nat_le b 126

abbrev pub link_of : List ℕ → List ℕ
link_of bytes = flat_map link_byte bytes

-- names that are plain and UTF-8
abbrev pub are_texts : Names → Bool
are_texts names = list_all is_plain names && list_all is_utf8 names

-- What holds of each path that a text gives, and that the calls make of one.
pub record IsPath (path : WebPath) : Type 0 where
  pub texts : are_texts (path.prefix ++ path.names) ≡ true
  pub ends : ends_well path ≡ true
