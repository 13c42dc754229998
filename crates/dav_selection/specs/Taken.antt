-- Which contents are wanted, and the text of one that is.
use Rattle.std.specs.Prelude.{◌&&◌, ℕ, List, Bool, Option, None, Some, codes, if◌then◌else◌}
use Rattle.std.specs.Str.Lossy.{utf8_lossy}
use Rattle.dav_report.specs.Lines.{is_object}
use Rattle.dav_report.specs.declared.caldav.component_filter.ComponentFilter.{ComponentFilter}
use Rattle.dav_report.specs.declared.carddav.property_filter.PropertyFilter.{PropertyFilter}
use Rattle.dav_selection.specs.declared.wanted.Wanted.{Wanted}
use Rattle.dav_selection.specs.declared.wanted.Wanted.TheVariants.{Calendars, Cards}
use Rattle.dav_matching.specs.Calendars.{calendar_passes}
use Rattle.dav_matching.specs.Cards.{address_passes}

-- data of each kind, by how it begins and ends
abbrev pub is_calendar : List ℕ → Bool
is_calendar content = is_object (codes "BEGIN:VCALENDAR") (codes "END:VCALENDAR") content

abbrev pub is_vcard : List ℕ → Bool
is_vcard content = is_object (codes "BEGIN:VCARD") (codes "END:VCARD") content

abbrev pub is_data : Wanted → List ℕ → Bool
is_data (Calendars filter) content = is_calendar content
is_data (Cards filter) content = is_vcard content

abbrev pub matches : Wanted → List ℕ → Bool
matches (Calendars filter) text = calendar_passes filter.now text
matches (Cards filter) text = address_passes filter.now text

-- the text of a content that is such data and matches, with U+FFFD for what isn't UTF-8
abbrev pub text_if : Bool → List ℕ → Option (List ℕ)
text_if wanted content = if wanted then Some (utf8_lossy content) else None

abbrev pub calendars : Option ComponentFilter → List ℕ → Option (List ℕ)
calendars filter content = text_if (is_calendar content && calendar_passes filter (utf8_lossy content)) content

abbrev pub cards : Option PropertyFilter → List ℕ → Option (List ℕ)
cards filter content = text_if (is_vcard content && address_passes filter (utf8_lossy content)) content

abbrev pub taken : Wanted → List ℕ → Option (List ℕ)
taken (Calendars filter) content = calendars filter.now content
taken (Cards filter) content = cards filter.now content
