-- What is written of a copy: a line for each file.
use Rattle.std.specs.Prelude.{List, ◌++◌, ℕ, codes, decimal, flat_map}
use Rattle.dav_core.specs.DavPath.{link_of, slashed}
use Rattle.dav_fetch.specs.declared.copied.Kept.{Kept}

-- its length, a space, its link, and a line feed
abbrev pub line_of : Kept → List ℕ
line_of f = decimal f.len ++ (codes " " ++ (link_of (flat_map slashed f.path) ++ codes "\n"))

abbrev pub lines_of : List Kept → List ℕ
lines_of files = flat_map line_of files
