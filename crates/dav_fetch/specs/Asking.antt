-- Which fields a request has, by what is kept of its file.
use Rattle.std.specs.Prelude.{◌==◌, ℕ, List, [], ◌∷◌, ◌++◌, length, codes, cond, decimal, true, false, Option, None, Some}
use Rattle.dav_io.specs.declared.fields.Field.{Field}
use Rattle.dav_core.specs.Path.{Names}
use Rattle.dav_core.specs.DavPath.{WebPath}
use Rattle.dav_model.specs.Head.{field}
use Rattle.dav_fetch.specs.declared.copied.Kept.{Kept}

-- what a file's request awaits
pub data Awaits : Type 0 where
  -- the whole file
  whole : Awaits
  -- the rest, behind so many bytes, if it is still this file; else the whole
  rest : Kept → Awaits
  -- nothing, if it is still this file; else the whole
  same : Kept → Awaits

abbrev pub awaits_of : Kept → Awaits
awaits_of f = cond (length f.tag == 0) whole
    (cond (length f.bytes == f.len) (same f) (cond (length f.bytes == 0) whole (rest f)))

abbrev pub awaits : Option Kept → Awaits
awaits None = whole
awaits (Some f) = awaits_of f

-- the bytes from this one on
abbrev pub range_from : ℕ → List ℕ
range_from n = codes "bytes=" ++ (decimal n ++ codes "-")

abbrev pub asked_for : Awaits → List Field
asked_for whole = []
asked_for (rest f) = field (codes "range") (range_from (length f.bytes)) ∷ field (codes "if-range") f.tag ∷ []
asked_for (same f) = field (codes "if-none-match") f.tag ∷ []

-- paths of the server: it stands under no prefix
abbrev pub file_path : Names → WebPath
file_path names = record { prefix = []; names = names; slash = false }

abbrev pub dir_path : Names → WebPath
dir_path names = record { prefix = []; names = names; slash = true }
