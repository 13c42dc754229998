-- Entity tags and lists of them, as fields write them (RFC 9110, sections 8.8.3, 13.1.1 and 13.1.2).
use Rattle.std.specs.Prelude.{◌≡◌, ◌==◌, ◌||◌, ◌&&◌, ◌<◌, ℕ, nat_le, Bool, true, false, not, List, [], ◌∷◌, ◌++◌, length, codes, bytes_eq, filter_map, Option, None, Some}
use Rattle.std.specs.List.{list_all, join_with_byte, AllZip}
use Rattle.httpdate.specs.Date.{parse_secs}
use Rattle.dav_core.specs.Blanks.{trimmed}
use Rattle.dav_core.specs.declared.etag.ETag.{ETag}
use Rattle.dav_core.specs.declared.etag_list.EtagList.{EtagList}
use Rattle.dav_core.specs.declared.etag_list.EtagList.TheVariants.{Any, Tags}
use Rattle.dav_core.specs.declared.if_range.IfRange.{IfRange}
use Rattle.dav_core.specs.declared.if_range.IfRange.TheVariants.{Tag, Date}

-- a byte between the quotes: no control, no space and no quote
abbrev pub is_tag_byte : ℕ → Bool
is_tag_byte b = b == 33 || ((nat_le 35 b && nat_le b 126) || (nat_le 128 b && nat_le b 255))

abbrev pub weak_mark : Bool → List ℕ
weak_mark true = codes "W/"
weak_mark false = []

-- The bytes of a text may stand between the quotes.
abbrev pub IsTagText : List ℕ → Type 0
IsTagText text = list_all is_tag_byte text ≡ true

-- the text of a tag, where there is one, is such
abbrev pub HasTagBytes : Option (List ℕ) → Type 0
HasTagBytes None = Unit {0}
HasTagBytes (Some text) = IsTagText text

-- the text of a tag between quotes
abbrev pub quoted : List ℕ → List ℕ
quoted tag = 34 ∷ (tag ++ 34 ∷ [])

abbrev pub quoted_where : Option (List ℕ) → Option (List ℕ)
quoted_where None = None
quoted_where (Some tag) = Some (quoted tag)

-- a tag as a field writes it
abbrev pub spelled : ETag → List ℕ
spelled tag = weak_mark tag.weak ++ (34 ∷ (tag.tag ++ 34 ∷ []))

pub record IsTag (text : List ℕ) (tag : ETag) : Type 0 where
  pub bytes : IsTagText tag.tag
  pub same : text ≡ spelled tag

-- A member of a list has spaces and tabs around it. It is a tag, or it is empty and says nothing.
abbrev pub IsMember : List ℕ → Option ETag → Type 0
IsMember text None = trimmed text ≡ []
IsMember text (Some tag) = IsTag (trimmed text) tag

-- A list has its members between commas, which may stand in a tag as well. One of them is a tag.
pub record IsTagList (text : List ℕ) (tags : List ETag) : Type 0 where
  pub members : List (List ℕ)
  pub said : List (Option ETag)
  pub joined : text ≡ join_with_byte 44 members
  pub each : AllZip IsMember members said
  pub tags_are : tags ≡ filter_map (λ one. one) said
  pub some : 0 < length tags

-- a star, or a list of tags
abbrev pub IsList : List ℕ → EtagList → Type 0
IsList text Any = trimmed text ≡ codes "*"
IsList text (Tags tags) = IsTagList text tags

-- a tag, or a date in whole seconds since 1970
abbrev pub IsIfRange : List ℕ → IfRange → Type 0
IsIfRange text (Tag tag) = IsTag text tag
IsIfRange text (Date secs) = parse_secs text ≡ Some secs

-- Comparison of tags (RFC 9110, section 8.8.3.2): strong comparison needs two tags that aren't weak.
abbrev pub same_text : ETag → ETag → Bool
same_text a b = bytes_eq a.tag b.tag

abbrev pub equal_strongly : ETag → ETag → Bool
equal_strongly a b = not a.weak && (not b.weak && same_text a b)

abbrev pub equal_weakly : ETag → ETag → Bool
equal_weakly a b = same_text a b
