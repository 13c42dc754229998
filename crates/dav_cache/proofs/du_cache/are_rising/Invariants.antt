use Rattle.std.proofs.Common.{◌≡◌, None, drop}
use Rattle.std.specs.Option.{option_copied}
use Rattle.dav_memory.specs.Entries.{is_rising}
use Rattle.dav_cache.proofs.du_cache.are_rising.Given as goal

-- what is left of the names tells what all tell
abbrev pub invariant-loop-name : goal.invariant-loop-name
invariant-loop-name l = is_rising (option_copied l.last) (drop l.name-index l.names) ≡ is_rising None l.names
