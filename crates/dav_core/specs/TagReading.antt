-- Readers of tags and lists. What they read is what the grammar has; laws say so.
use Rattle.std.specs.Prelude.{◌==◌, ◌&&◌, ℕ, Bool, true, false, not, List, [], ◌∷◌, codes, bytes_eq, take, drop, reverse, Option, None, Some, option_map, if◌then◌else◌}
use Rattle.std.specs.List.{list_all, cons_option, onto_first}
use Rattle.httpdate.specs.Date.{parse_secs}
use Rattle.dav_core.specs.Blanks.{trimmed}
use Rattle.dav_core.specs.Tags.{is_tag_byte}
use Rattle.dav_core.specs.declared.etag.ETag.{ETag}
use Rattle.dav_core.specs.declared.etag_list.EtagList.{EtagList}
use Rattle.dav_core.specs.declared.etag_list.EtagList.TheVariants.{Any, Tags}
use Rattle.dav_core.specs.declared.if_range.IfRange.{IfRange}
use Rattle.dav_core.specs.declared.if_range.IfRange.TheVariants.{Tag, Date}

-- the text of a tag, from what stands behind the opening quote, the last byte first
abbrev pub closed_by : List ℕ → Option (List ℕ)
closed_by [] = None
closed_by (last ∷ front) = if last == 34 && list_all is_tag_byte (reverse front) then Some (reverse front) else None

abbrev pub unquoted : List ℕ → Option (List ℕ)
unquoted [] = None
unquoted (first ∷ rest) = if first == 34 then closed_by (reverse rest) else None

abbrev pub marked : Bool → Option (List ℕ) → Option ETag
marked weak text = option_map (λ tag. record { weak = weak; tag = tag }) text

-- the tag that a text is
abbrev pub tag_of : List ℕ → Option ETag
tag_of text = if bytes_eq (take 2 text) (codes "W/") then marked true (unquoted (drop 2 text))
    else marked false (unquoted text)

-- a quote opens, and the next one closes
abbrev pub after_byte : Bool → ℕ → Bool
after_byte quoted b = if b == 34 then not quoted else quoted

-- the texts between the commas that don't stand between quotes
abbrev pub members : Bool → List ℕ → List (List ℕ)
members quoted [] = [] ∷ []
members quoted (b ∷ bytes) = if b == 44 && not quoted then [] ∷ members false bytes
    else onto_first b (members (after_byte quoted b) bytes)

-- what a member without blanks says: nothing, or a tag
abbrev pub said_in : List ℕ → Option (Option ETag)
said_in [] = Some None
said_in (b ∷ bytes) = option_map (λ tag. Some tag) (tag_of (b ∷ bytes))

abbrev pub with_said : Option (Option ETag) → Option (List ETag) → Option (List ETag)
with_said None tags = None
with_said (Some one) tags = option_map (cons_option one) tags

abbrev pub all_tags : List (List ℕ) → Option (List ETag)
all_tags [] = Some []
all_tags (member ∷ more) = with_said (said_in (trimmed member)) (all_tags more)

abbrev pub some_tags : Option (List ETag) → Option EtagList
some_tags None = None
some_tags (Some []) = None
some_tags (Some (tag ∷ more)) = Some (Tags (tag ∷ more))

-- the list that a text is
abbrev pub list_of : List ℕ → Option EtagList
list_of text = if bytes_eq (trimmed text) (codes "*") then Some Any else some_tags (all_tags (members false text))

abbrev pub tag_or_date : Option ETag → Option ℕ → Option IfRange
tag_or_date None secs = option_map (λ s. Date s) secs
tag_or_date (Some tag) secs = Some (Tag tag)

-- the tag or the date that a text is
abbrev pub if_range_of : List ℕ → Option IfRange
if_range_of text = tag_or_date (tag_of text) (parse_secs text)
