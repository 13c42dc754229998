-- The head of a file's answer, and of the answers without a file: status, header fields and parts.
use Rattle.std.specs.Prelude.{◌≡◌, ◌==◌, ◌&&◌, ◌+◌, ◌-◌, ℕ, List, [], ◌∷◌, ◌++◌, Bool, true, false, cond, not, length, codes, decimal, Option, None, Some}
use Rattle.std.specs.Option.{option_map}
use Rattle.std.specs.List.{flat_map}
use Rattle.dav_io.specs.declared.fields.Field.{Field}
use Rattle.dav_core.specs.declared.tree.Row.{Row}
use Rattle.dav_core.specs.declared.tree.Kind.{Kind}
use Rattle.dav_core.specs.declared.time.FileTime.{FileTime}
use Rattle.dav_core.specs.declared.method.DavMethod.{DavMethod}
use Rattle.dav_core.specs.declared.method.DavMethod.TheVariants.{Get}
use Rattle.dav_core.specs.DavPath.{WebPath, last_name, link_of, shown as shown_text, type_of_last}
use Rattle.dav_core.specs.Info.{known_time, tag_of, natural}
use Rattle.dav_core.specs.Methods.{same_method}
use Rattle.dav_core.specs.Path.{same_names}
pub use Rattle.dav_core.specs.Tags.{quoted, quoted_where}
use Rattle.dav_core.specs.World.{World, bytes_of}
use Rattle.dav_model.specs.declared.settings.Settings.{Settings}
use Rattle.dav_model.specs.declared.ranges.Slice.{Slice}
use Rattle.dav_model.specs.declared.ranges.Ranges.{Ranges}
use Rattle.dav_model.specs.declared.ranges.Ranges.TheVariants.{Whole, Unsatisfiable, Parts}
use Rattle.dav_model.specs.declared.sent.Sent.{Sent}
use Rattle.dav_model.specs.declared.sent.Sent.TheVariants.{All, Alone, Unsatisfied, One, Several}
use Rattle.dav_model.specs.Bodies.{Part, text, slice}
use Rattle.dav_model.specs.Clients.{is_from_microsoft}
use Rattle.dav_model.specs.Conditions.{Fields, condition, first_bytes, ranges_are_heard, strong}
use Rattle.dav_model.specs.Slices.{ranges}
use Rattle.httpdate.specs.declared.date.HttpDate.{HttpDate}
use Rattle.httpdate.specs.Date.{unix_secs, date_text}

-- The text of a known time in a header (RFC 9110, section 5.6.7), in whole seconds: there is exactly one.
abbrev pub IsDate : Option FileTime → Option (List ℕ) → Type 0
IsDate None shown = shown ≡ None
IsDate (Some time) shown = (date : HttpDate) × (unix_secs date ≡ natural time.secs) × (shown ≡ Some (date_text date))

-- what is answered to a request
pub record Reply : Type 0 where
  pub status : ℕ
  pub fields : List Field
  pub parts : List Part

abbrev pub field : List ℕ → List ℕ → Field
field name value = record { name = name; value = value }

-- a field that stands where its value does
abbrev pub field_where : List ℕ → Option (List ℕ) → List Field
field_where name None = []
field_where name (Some value) = field name value ∷ []

-- the field of a connection that closes
abbrev pub closing : Bool → List Field
closing close = cond close (field (codes "connection") (codes "close") ∷ []) []

-- What tells caches to keep nothing stands before the field of the connection, and behind the length.
abbrev pub uncached_first : Bool → List Field
uncached_first uncached = cond uncached (field (codes "cache-control") (codes "no-store, no-cache, must-revalidate")
    ∷ []) []

abbrev pub uncached_last : Bool → List Field
uncached_last uncached = cond uncached (field (codes "expires") (codes "0") ∷ field (codes "pragma") (codes "no-cache")
    ∷ field (codes "vary") (codes "*") ∷ []) []

abbrev pub refused_fields : Bool → Bool → List Field
refused_fields uncached close = uncached_first uncached ++ (closing close ++ field (codes "content-length") (codes "0")
    ∷ uncached_last uncached)

-- A refusal has no body.
abbrev pub refused_with : Bool → ℕ → Bool → Reply
refused_with uncached status close = record { status = status; fields = refused_fields uncached close; parts = [] }

-- Clients by Microsoft would keep in mind that nothing stands at a path.
abbrev pub is_uncached : Fields → ℕ → Bool
is_uncached fields status = status == 404 && is_from_microsoft fields

-- what a request with these fields is refused with
abbrev pub refusal : Fields → ℕ → Bool → Reply
refusal fields status close = refused_with (is_uncached fields status) status close

-- What stands at a path, as far as an answer speaks of it: its length in bytes, the time of its last change where it is
-- known, the text of its entity tag, and the address that a client is sent to in its place.
pub record Stood : Type 0 where
  pub kind : Kind
  pub number : ℕ
  pub len : ℕ
  pub modified : Option FileTime
  pub tag : Option (List ℕ)
  pub address : Option (List ℕ)

-- one slice or several
abbrev pub sent_parts_of : List Slice → Sent
sent_parts_of [] = All
sent_parts_of (part ∷ []) = One part
sent_parts_of (part ∷ next ∷ parts) = Several (part ∷ next ∷ parts)

abbrev pub sent_ranges : Ranges → Sent
sent_ranges Whole = All
sent_ranges Unsatisfiable = Unsatisfied
sent_ranges (Parts parts) = sent_parts_of parts

-- A precondition that fails decides; after it, or where If-Range turns them off, ranges don't count (RFC 9110, section
-- 13.2.2).
abbrev pub sent_by : Option ℕ → Bool → Option (List ℕ) → ℕ → Sent
sent_by (Some status) on range len = Alone status
sent_by None false range len = All
sent_by None true range len = sent_ranges (ranges range len)

abbrev pub sent_of : DavMethod → Fields → Stood → Sent
sent_of method fields stood = sent_by (condition method fields true (strong stood.tag) stood.modified)
    (ranges_are_heard fields (strong stood.tag) stood.modified)
    (first_bytes fields (codes "range")) stood.len

abbrev pub sent_status : Sent → ℕ
sent_status All = 200
sent_status (Alone status) = status
sent_status Unsatisfied = 416
sent_status (One part) = 206
sent_status (Several parts) = 206

-- The number of the field `content-length`. It is that of the slice, or of the whole file, where the method is HEAD,
-- the status is 304 or a body follows; several slices have none.
abbrev pub sent_length : Bool → ℕ → Sent → Option ℕ
sent_length gives len All = Some len
sent_length gives len (Alone status) = Some (cond (gives && not (status == 304)) 0 len)
sent_length gives len Unsatisfied = Some (cond gives 0 len)
sent_length gives len (One part) = Some part.count
sent_length gives len (Several parts) = None

-- the first and the last byte of a slice, and the length of the file (RFC 9110, section 14.4)
abbrev pub span_text : ℕ → Slice → List ℕ
span_text len part = decimal part.start ++ (codes "-"
    ++ (decimal (part.start + part.count - 1) ++ (codes "/" ++ decimal len)))

abbrev pub sent_range : ℕ → Sent → Option (List ℕ)
sent_range len All = None
sent_range len (Alone status) = None
sent_range len Unsatisfied = Some (codes "bytes */" ++ decimal len)
sent_range len (One part) = Some (codes "bytes " ++ span_text len part)
sent_range len (Several parts) = None

abbrev pub sent_type : List ℕ → Sent → List ℕ
sent_type type All = type
sent_type type (Alone status) = type
sent_type type Unsatisfied = type
sent_type type (One part) = type
sent_type type (Several parts) = codes "multipart/byteranges; boundary=BOUNDARY"

-- the text before a slice of several
abbrev pub part_head : List ℕ → ℕ → Slice → List ℕ
part_head type len part = codes "\n--BOUNDARY\nContent-Range: bytes "
    ++ (span_text len part ++ (codes "\nContent-Type: " ++ (type ++ codes "\n\n")))

abbrev pub last_boundary : List ℕ
last_boundary = codes "\n--BOUNDARY--\n"

-- each slice behind its text, and the last boundary
abbrev pub two_parts : List ℕ → ℕ → ℕ → Slice → List Part
two_parts type number len part = text (part_head type len part) ∷ slice number part.start part.count ∷ []

abbrev pub several_parts : List ℕ → ℕ → ℕ → List Slice → List Part
several_parts type number len parts = flat_map (two_parts type number len) parts ++ text last_boundary ∷ []

-- bytes of a file, if there are some
abbrev pub slice_where : ℕ → ℕ → ℕ → List Part
slice_where number start count = cond (count == 0) [] (slice number start count ∷ [])

abbrev pub given_parts : List ℕ → ℕ → ℕ → Sent → List Part
given_parts type number len All = slice_where number 0 len
given_parts type number len (Alone status) = []
given_parts type number len Unsatisfied = []
given_parts type number len (One part) = slice_where number part.start part.count
given_parts type number len (Several parts) = several_parts type number len parts

-- HEAD has no body.
abbrev pub sent_parts : Bool → List ℕ → ℕ → ℕ → Sent → List Part
sent_parts gives type number len sent = cond gives (given_parts type number len sent) []

-- the fields of a file's answer, in the order of their names
abbrev pub announced_fields : List ℕ → ℕ → Option (List ℕ) → Option (List ℕ) → Sent → Option ℕ → List Field
announced_fields type len tag date sent announced =
    field (codes "accept-ranges") (codes "bytes")
    ∷ (field_where (codes "content-length") (option_map decimal announced)
    ++ (field_where (codes "content-range") (sent_range len sent)
    ++ (field (codes "content-type") (sent_type type sent)
    ∷ (field_where (codes "etag") (quoted_where tag) ++ field_where (codes "last-modified") date))))

-- the same, with the length that is announced of what is sent
abbrev pub sent_fields : Bool → List ℕ → ℕ → Option (List ℕ) → Option (List ℕ) → Sent → List Field
sent_fields gives type len tag date sent = announced_fields type len tag date sent (sent_length gives len sent)

-- a file's answer; `date` is the text of its time, and `gives` whether a body may follow
abbrev pub sent_reply : Bool → List ℕ → Stood → Option (List ℕ) → Sent → Reply
sent_reply gives type stood date sent = record {
  status = sent_status sent;
  fields = sent_fields gives type stood.len stood.tag date sent;
  parts = sent_parts gives type stood.number stood.len sent;
}

abbrev pub is_get : DavMethod → Bool
is_get method = same_method method Get

-- This of the file at the path is sent.
abbrev pub IsSent : DavMethod → WebPath → Stood → Sent → Reply → Type 0
IsSent method path stood sent reply = (date : Option (List ℕ)) × IsDate stood.modified date
    × (reply ≡ sent_reply (is_get method) (type_of_last (last_name path.names)) stood date sent)

abbrev pub redirected_fields : List ℕ → Option (List ℕ) → Option (List ℕ) → List Field
redirected_fields address tag date = field (codes "content-length") (codes "0")
    ∷ (field_where (codes "etag") (quoted_where tag)
    ++ (field_where (codes "last-modified") date ++ field (codes "location") address ∷ []))

-- the client is sent to another address
abbrev pub redirected : List ℕ → Option (List ℕ) → Option (List ℕ) → Reply
redirected address tag date = record { status = 302; fields = redirected_fields address tag date; parts = [] }

abbrev pub with_slash : WebPath → WebPath
with_slash path = record path { slash = true }

-- The client is sent to the same path with a final slash, so that the links of what stands there lead on from it.
abbrev pub directed : WebPath → Reply
directed path = redirected (link_of (shown_text (with_slash path))) None None

abbrev pub is_set : Option Bool → Bool
is_set None = false
is_set (Some b) = b

-- the address that the client is sent to, where that is set
abbrev pub address_of : Settings → Stood → Option (List ℕ)
address_of settings stood = cond (is_set settings.redirect) stood.address None

abbrev pub IsFileHead : Option (List ℕ) → DavMethod → Fields → WebPath → Stood → Reply → Type 0
IsFileHead (Some address) method fields path stood reply = (date : Option (List ℕ)) × IsDate stood.modified date
    × (reply ≡ redirected address stood.tag date)
IsFileHead None method fields path stood reply = IsSent method path stood (sent_of method fields stood) reply

-- the page that clients of a well-known server look for: it is there whatever stands in the tree
abbrev pub is_well_known : Settings → DavMethod → WebPath → Bool
is_well_known settings method path = is_get method
    && (not (is_set settings.autoindex) && (path.slash && same_names path.names (codes "remote.php" ∷ codes "webdav"
    ∷ [])))

abbrev pub well_known : Reply
well_known = record {
  status = 200;
  fields = field (codes "accept-ranges") (codes "bytes")
      ∷ field (codes "content-length") (codes "0") ∷ [];
  parts = [];
}

-- a row of a world, as far as an answer speaks of it
abbrev pub stood_in : World → Row → Stood
stood_in w row = record {
  kind = row.kind;
  number = row.number;
  len = length (bytes_of w row.number);
  modified = known_time row.time;
  tag = tag_of row.kind row.number (length (bytes_of w row.number)) (known_time row.time);
  address = None;
}
