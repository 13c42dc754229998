-- Content types by names.
use Rattle.std.specs.Prelude.{◌==◌, ℕ, Bool, List, [], ◌∷◌, codes, Option, None, Some, if◌then◌else◌}
use Rattle.std.specs.List.{find}
use Rattle.std.specs.Str.{str_eq_ignore_ascii_case}

-- the part after a dot, where no later one stands
abbrev pub or_later : Bool → List ℕ → Option (List ℕ) → Option (List ℕ)
or_later is_dot part None = if is_dot then Some part else None
or_later is_dot part (Some later) = Some later

-- the part after the last dot
abbrev pub after_dot : List ℕ → Option (List ℕ)
after_dot [] = None
after_dot (b ∷ bytes) = or_later (b == 46) bytes (after_dot bytes)

abbrev pub octet_stream : List ℕ
octet_stream = codes "application/octet-stream"

-- a part of a name, and the type of what is so named
pub record Row : Type 0 where
  pub part : List ℕ
  pub type : List ℕ

abbrev row : List ℕ → List ℕ → Row
row part type = record { part = part; type = type }

abbrev pub types : List Row
types =
    row (codes "txt") (codes "text/plain") ∷ row (codes "html") (codes "text/html")
    ∷ row (codes "htm") (codes "text/html")
    ∷ row (codes "css") (codes "text/css") ∷ row (codes "js") (codes "text/javascript")
    ∷ row (codes "json") (codes "application/json")
    ∷ row (codes "xml") (codes "text/xml") ∷ row (codes "csv") (codes "text/csv")
    ∷ row (codes "md") (codes "text/markdown")
    ∷ row (codes "ics") (codes "text/calendar") ∷ row (codes "vcf") (codes "text/vcard")
    ∷ row (codes "pdf") (codes "application/pdf")
    ∷ row (codes "png") (codes "image/png") ∷ row (codes "jpg") (codes "image/jpeg")
    ∷ row (codes "jpeg") (codes "image/jpeg")
    ∷ row (codes "gif") (codes "image/gif") ∷ row (codes "svg") (codes "image/svg+xml")
    ∷ row (codes "mp3") (codes "audio/mpeg")
    ∷ row (codes "mp4") (codes "video/mp4") ∷ row (codes "zip") (codes "application/zip")
    ∷ []

abbrev pub type_in : Option Row → List ℕ
type_in None = octet_stream
type_in (Some row) = row.type

abbrev pub type_of_part : Option (List ℕ) → List ℕ
type_of_part None = octet_stream
type_of_part (Some part) = type_in (find (λ row. str_eq_ignore_ascii_case row.part part) types)

-- the content type of what has this name
abbrev pub content_type_of : List ℕ → List ℕ
content_type_of name = type_of_part (after_dot name)
