-- The preconditions of a request (RFC 9110, section 13), and whether its ranges are to be heard (section 13.1.5).
use Rattle.std.specs.Prelude.{◌==◌, ◌&&◌, ◌++◌, ℕ, nat_lt, Bool, true, false, not, List, [], ◌∷◌, map, flat_map, codes, ℤ, pos, negsuc, Option, None, Some, option_map, option_and_then, if◌then◌else◌}
use Rattle.std.specs.List.{list_any}
use Rattle.http_header.specs.FieldValue.{FieldValue}
use Rattle.http_header.specs.HeaderMap.{Entries, get, get_all}
use Rattle.httpdate.specs.Date.{parse_secs}
use Rattle.dav_core.specs.Info.{Info}
use Rattle.dav_core.specs.Tags.{equal_strongly, equal_weakly}
use Rattle.dav_core.specs.TagReading.{list_of, if_range_of}
use Rattle.dav_core.specs.declared.etag.ETag.{ETag}
use Rattle.dav_core.specs.declared.etag_list.EtagList.{EtagList}
use Rattle.dav_core.specs.declared.etag_list.EtagList.TheVariants.{Any, Tags}
use Rattle.dav_core.specs.declared.if_range.IfRange.{IfRange}
use Rattle.dav_core.specs.declared.if_range.IfRange.TheVariants.{Tag, Date}
use Rattle.dav_core.specs.declared.method.DavMethod.{DavMethod}
use Rattle.dav_core.specs.declared.method.DavMethod.TheVariants.{Copy, Delete, Get, Head, MkAddressbook, MkCalendar, MkCol, Move, Put}
use Rattle.dav_core.specs.declared.time.FileTime.{FileTime}
use Rattle.http.specs.declared.request.Request.{Request}
use Rattle.http.specs.Request.{head_of}

-- the fields of a request
abbrev pub Fields : Type 0
Fields = Entries FieldValue

-- the bytes of the first value of a lower-case name
abbrev pub first_bytes : Fields → List ℕ → Option (List ℕ)
first_bytes fields name = option_map (λ v. v.bytes) (get fields name)

-- the bytes of each value of a lower-case name
abbrev pub values_of : Fields → List ℕ → List (List ℕ)
values_of fields name = map (λ v. v.bytes) (get_all fields name)

-- a comma and a space before each text
abbrev pub behind : List (List ℕ) → List ℕ
behind texts = flat_map (λ text. codes ", " ++ text) texts

-- values with a comma and a space between them (RFC 9110, section 5.3)
abbrev pub joined : List (List ℕ) → List ℕ
joined [] = []
joined (text ∷ texts) = text ++ behind texts

-- The list of tags that the values of a name are. A value that isn't readable counts as none.
abbrev pub list_in : Fields → List ℕ → Option EtagList
list_in fields name = list_of (joined (values_of fields name))

-- the date that the first value of a name is, likewise
abbrev pub date_in : Fields → List ℕ → Option ℕ
date_in fields name = option_and_then parse_secs (first_bytes fields name)

-- A star matches whatever stands, a list what has an equal tag.
abbrev pub has_equal : (ETag → ETag → Bool) → Option ETag → List ETag → Bool
has_equal equal None tags = false
has_equal equal (Some tag) tags = list_any (equal tag) tags

abbrev pub matches : (ETag → ETag → Bool) → Bool → Option ETag → EtagList → Bool
matches equal stands tag Any = stands
matches equal stands tag (Tags tags) = has_equal equal tag tags

-- whether a time, in whole seconds, is later than a date, and whether it is that date
abbrev pub is_later : ℤ → ℕ → Bool
is_later (pos secs) date = nat_lt date secs
is_later (negsuc n) date = false

abbrev pub is_at : ℤ → ℕ → Bool
is_at (pos secs) date = secs == date
is_at (negsuc n) date = false

-- Unmodified since a date is what stands, with a known time that isn't later.
abbrev pub is_unmodified : Option FileTime → ℕ → Bool
is_unmodified None date = false
is_unmodified (Some time) date = not (is_later time.secs date)

-- Steps 1 and 2 of section 13.2.2: `if-match`, and without it `if-unmodified-since`, are false.
abbrev pub is_refused : Option EtagList → Option ℕ → Bool → Option ETag → Option FileTime → Bool
is_refused (Some list) date stands tag time = not (matches equal_strongly stands tag list)
is_refused None (Some date) stands tag time = not (stands && is_unmodified time date)
is_refused None None stands tag time = false

-- GET and HEAD
abbrev pub reads : DavMethod → Bool
reads Get = true
reads Head = true
reads other = false

-- the methods that write, as far as they are built
abbrev pub writes : DavMethod → Bool
writes Put = true
writes MkCol = true
writes MkCalendar = true
writes MkAddressbook = true
writes Delete = true
writes Copy = true
writes Move = true
writes other = false

-- Steps 3 and 4: `if-none-match`, and without it, for a method that reads, `if-modified-since`, are false.
abbrev pub repeated : DavMethod → Option EtagList → Option ℕ → Bool → Option ETag → Option FileTime → Option ℕ
repeated method (Some list) date stands tag time =
    if matches equal_weakly stands tag list then Some (if reads method then 304 else 412) else None
repeated method None (Some date) stands tag time = if reads method && is_unmodified time date then Some 304 else None
repeated method None None stands tag time = None

-- The status that the preconditions give in place of the method's own answer: of fields, and of whether something
-- stands, its tag and the time of its last change.
abbrev pub condition : DavMethod → Fields → Bool → Option ETag → Option FileTime → Option ℕ
condition method fields stands tag time =
    if is_refused (list_in fields (codes "if-match")) (date_in fields (codes "if-unmodified-since")) stands tag time
    then Some 412
    else repeated method (list_in fields (codes "if-none-match"))
    (date_in fields (codes "if-modified-since")) stands tag time

-- the strong tag of a text
abbrev pub strong : Option (List ℕ) → Option ETag
strong text = option_map (λ t. record { weak = false; tag = t }) text

-- the same, of what metadata says of what stands there
abbrev pub condition_of : DavMethod → Fields → Option Info → Option ℕ
condition_of method fields None = condition method fields false None None
condition_of method fields (Some info) = condition method fields true (strong info.tag) info.modified

-- Section 13.1.5: a tag is to be equal strongly, a date is to be that of the last change in whole seconds. Whether that
-- date is a strong validator (section 8.8.2.2) isn't asked.
abbrev pub range_matches : IfRange → Option ETag → Option FileTime → Bool
range_matches (Tag wanted) None time = false
range_matches (Tag wanted) (Some tag) time = equal_strongly wanted tag
range_matches (Date date) tag None = false
range_matches (Date date) tag (Some time) = is_at time.secs date

abbrev pub is_fresh : Option IfRange → Option ETag → Option FileTime → Bool
is_fresh None tag time = false
is_fresh (Some read) tag time = range_matches read tag time

abbrev pub heard : Option (List ℕ) → Option ETag → Option FileTime → Bool
heard None tag time = true
heard (Some value) tag time = is_fresh (if_range_of value) tag time

-- Whether ranges are heard: without a field `if-range`, and where its first value matches. One that isn't readable
-- doesn't.
abbrev pub ranges_are_heard : Fields → Option ETag → Option FileTime → Bool
ranges_are_heard fields tag time = heard (first_bytes fields (codes "if-range")) tag time

-- ---- requests with their whole body

-- a request with its whole body
abbrev pub Asked : Type 0
Asked = Request (List ℕ)

abbrev pub fields_of : Asked → Fields
fields_of r = (head_of r).headers
