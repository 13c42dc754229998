use Rattle.std.proofs.Common.{◌≡◌, take, flat_map, string_bytes}
use Rattle.dav_core.specs.DavPath.{slashed}
use Rattle.dav_mirror.proofs.lines.link_to.Given as goal

abbrev pub invariant-loop-name : goal.invariant-loop-name
invariant-loop-name l = string_bytes l.text ≡ flat_map slashed (take l.name-index l.name-items)
