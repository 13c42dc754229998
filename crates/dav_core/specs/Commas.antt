-- A list of tags member by member, for the reader itself.
use Rattle.std.specs.Prelude.{◌≡◌, ◌==◌, ◌+◌, ◌&&◌, ◌++◌, ℕ, Bool, not, List, [], ◌∷◌, Option, Some, option_to_list, if◌then◌else◌}
use Rattle.dav_core.specs.TagReading.{after_byte, said_in}
use Rattle.dav_core.specs.declared.etag.ETag.{ETag}

-- how many bytes stand before the first comma that isn't between quotes
abbrev pub comma_place : Bool → List ℕ → ℕ
comma_place quoted [] = 0
comma_place quoted (b ∷ bytes) = if b == 44 && not quoted then 0 else comma_place (after_byte quoted b) bytes + 1

-- what a member says is added
pub record Adds (member : List ℕ) (old new : List ETag) : Type 0 where
  pub said : Option ETag
  pub says : said_in member ≡ Some said
  pub added : new ≡ old ++ option_to_list said
