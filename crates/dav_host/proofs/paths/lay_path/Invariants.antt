use Rattle.std.proofs.Common.{◌≡◌, ◌≤◌, take, length, string_bytes, string_capacity}
use Rattle.dav_host.specs.Host.{host_path, room}
use Rattle.dav_host.proofs.paths.lay_path.Given as goal

-- the names so far are laid, and fit
abbrev pub invariant-loop-name : goal.invariant-loop-name
invariant-loop-name l =
    (room ≤ string_capacity l.path) × (string_bytes l.path ≡ host_path l.root (take l.name-index l.names)) × (length (string_bytes l.path) ≤ room)
