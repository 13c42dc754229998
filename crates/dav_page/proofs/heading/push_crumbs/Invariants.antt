use Rattle.std.proofs.Common.{take, string_bytes}
use Rattle.dav_page.proofs.Crumbs.{AreCrumbs}
use Rattle.dav_page.proofs.heading.push_crumbs.Given as goal

-- the links so far, and the path of their names
abbrev pub invariant-loop-name : goal.invariant-loop-name
invariant-loop-name l = AreCrumbs (string_bytes l.initial.text) (string_bytes l.text) (string_bytes l.path) (take l.name-index l.names)
