-- Clients that are answered apart, by the name that they give themselves.
use Rattle.std.specs.Prelude.{◌&&◌, ◌||◌, ℕ, nat_eq, List, [], ◌∷◌, Bool, false, codes, Option, None, Some}
use Rattle.std.specs.List.{starts_with}
use Rattle.http_header.specs.FieldValue.{is_visible_text}
use Rattle.dav_model.specs.Conditions.{Fields, first_bytes}

-- whether these bytes stand somewhere in a text
abbrev pub has_text : List ℕ → List ℕ → Bool
has_text text [] = starts_with nat_eq [] text
has_text text (b ∷ bytes) = starts_with nat_eq (b ∷ bytes) text || has_text text bytes

-- a name of visible ASCII, spaces and tabs that has `Microsoft` in it, in this case
abbrev pub is_microsoft : Option (List ℕ) → Bool
is_microsoft None = false
is_microsoft (Some name) = is_visible_text name && has_text (codes "Microsoft") name

-- a request of a client by Microsoft: the first field `user-agent` says so
unfoldable pub is_from_microsoft : Fields → Bool
is_from_microsoft fields = is_microsoft (first_bytes fields (codes "user-agent"))
