-- The hidden names of uploads.
use Rattle.std.specs.Prelude.{◌==◌, ◌&&◌, ◌||◌, ◌++◌, ◌∷◌, [], ℕ, List, Bool, false, length, take, drop, codes, nat_le}
use Rattle.std.specs.Int.{to_be_bytes, w64}
use Rattle.std.specs.List.{list_all}
use Rattle.std.specs.Str.{bytes_eq}
use Rattle.hex.specs.Hex.{encode_lower}
use Rattle.dav_core.specs.DavPath.{WebPath, last_name}
use Rattle.dav_core.specs.Listing.{or_empty}
use Rattle.dav_core.specs.Path.{Names, parent_of}

-- what each hidden name begins with
abbrev pub front_of_hidden : List ℕ
front_of_hidden = codes ".upload-"

-- a lower-case hexadecimal digit
abbrev pub is_digit : ℕ → Bool
is_digit c = (nat_le 48 c && nat_le c 57) || (nat_le 97 c && nat_le c 102)

-- a name begins as each hidden name does
abbrev pub begins_hidden : List ℕ → Bool
begins_hidden name = bytes_eq front_of_hidden (take 8 name)

-- `.upload-` and 16 lower-case hexadecimal digits
abbrev pub is_hidden : List ℕ → Bool
is_hidden name = (length name == 24) && (begins_hidden name && list_all is_digit (drop 8 name))

abbrev pub is_hidden_path : Names → Bool
is_hidden_path path = is_hidden (or_empty (last_name path))

-- the hidden name of a token: its 16 digits, those of the highest value first
abbrev pub hidden_name : ℕ → List ℕ
hidden_name token = front_of_hidden ++ encode_lower (to_be_bytes w64 token)

-- the hidden path of a token beside a target
abbrev pub hidden_beside : WebPath → ℕ → WebPath
hidden_beside target token = record {
  prefix = target.prefix;
  names = parent_of target.names ++ hidden_name token ∷ [];
  slash = false;
}

-- the target's last name begins as each hidden name does
abbrev pub is_taken : WebPath → Bool
is_taken target = begins_hidden (or_empty (last_name target.names))
