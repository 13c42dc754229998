-- What a COPY or a MOVE asks for by its fields Destination, Overwrite and Depth (RFC 4918, sections 10.3, 10.6 and
-- 10.2). The first field of each name counts.
use Rattle.std.specs.Prelude.{◌≡◌, ◌⊎◌, ◌&&◌, ℕ, Bool, true, false, not, List, codes, Option, None, Some, IsSome, Result, Ok, Err, if◌then◌else◌}
use Rattle.std.specs.Str.{bytes_eq}
use Rattle.http_uri.specs.Uri.{Spells, uri_path, uri_scheme}
use Rattle.http_uri.specs.declared.uri.Uri.{Uri as Target}
use Rattle.dav_core.specs.declared.dav_error.DavError.{DavError}
use Rattle.dav_core.specs.declared.dav_error.DavError.TheVariants.{Status}
use Rattle.dav_core.specs.declared.parse_error.ParseError.{ParseError}
use Rattle.dav_core.specs.DavPath.{WebPath}
use Rattle.dav_core.specs.Grammar.{begins_with_slash, parsed}
use Rattle.dav_core.specs.Statuses.{of_path}
use Rattle.dav_model.specs.Conditions.{Fields, first_bytes}
use Rattle.dav_model.specs.declared.asked.Asked.{Asked}

-- ---- Destination

-- a path, or what its text is refused with
abbrev pub path_or_refusal : Result WebPath ParseError → Result WebPath DavError
path_or_refusal (Ok path) = Ok path
path_or_refusal (Err fault) = Err (of_path fault)

-- The text is no URI with a scheme.
abbrev pub IsNoAddress : List ℕ → Type 0
IsNoAddress text = (uri : Target) → Spells text uri → uri_scheme uri ≡ None

-- The text is a URI with a scheme, of which the path counts alone; else it is refused.
abbrev pub IsAddress : List ℕ → List ℕ → Result WebPath DavError → Type 0
IsAddress prefix text to = ((uri : Target) × Spells text uri × IsSome (uri_scheme uri)
    × (to ≡ path_or_refusal (parsed (uri_path uri) prefix)))
    ⊎ (IsNoAddress text × (to ≡ Err (Status 400)))

-- A text that begins with a slash is a path as it stands.
abbrev pub IsPlace : Bool → List ℕ → List ℕ → Result WebPath DavError → Type 0
IsPlace true prefix text to = to ≡ path_or_refusal (parsed text prefix)
IsPlace false prefix text to = IsAddress prefix text to

-- Under a prefix the field says this path, or is refused.
abbrev pub IsDestination : List ℕ → Option (List ℕ) → Result WebPath DavError → Type 0
IsDestination prefix None to = to ≡ Err (Status 400)
IsDestination prefix (Some text) to = IsPlace (begins_with_slash text) prefix text to

-- ---- Overwrite and Depth: what the field says, or nothing where it says none of its words

-- whether what stands at the destination may go
abbrev pub overwrite_of : Option (List ℕ) → Option Bool
overwrite_of None = Some true
overwrite_of (Some text) = if bytes_eq text (codes "T") then Some true
    else (if bytes_eq text (codes "F") then Some false else None)

-- Whether a directory goes without its members. It never does where it is moved.
abbrev pub depth_of : Bool → Option (List ℕ) → Option Bool
depth_of moving None = Some false
depth_of moving (Some text) = if bytes_eq text (codes "infinity") then Some false
    else (if not moving && bytes_eq text (codes "0") then Some true else None)

-- ---- all three, in this order

abbrev pub asked_by : Bool → Result WebPath DavError → Option Bool → Option Bool → Result Asked DavError
asked_by moving (Err e) replaces alone = Err e
asked_by moving (Ok to) None alone = Err (Status 400)
asked_by moving (Ok to) (Some replaces) None = Err (Status 400)
asked_by moving (Ok to) (Some replaces) (Some alone) =
    Ok (record { moving = moving; to = to; replaces = replaces; alone = alone })

-- The fields ask for this, or are refused.
abbrev pub Asks : Bool → List ℕ → Fields → Result Asked DavError → Type 0
Asks moving prefix fields asked = (to : Result WebPath DavError)
    × IsDestination prefix (first_bytes fields (codes "destination")) to
    × (asked ≡ asked_by moving to (overwrite_of (first_bytes fields (codes "overwrite")))
    (depth_of moving (first_bytes fields (codes "depth"))))
