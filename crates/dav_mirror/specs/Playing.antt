-- A player as a peer.
use Rattle.std.specs.Prelude.{drop}
use Rattle.dav_memory.specs.declared.remember.Remember.{Ghosts as MemoryGhosts}
use Rattle.dav_core.specs.declared.disk.Disk.{Ghosts as DiskGhosts}
use Rattle.dav_fetch.specs.Peer.{Calls, PeerState}
use Rattle.dav_handler.specs.Player.{playing_of, stage_of}
use Rattle.dav_mirror.specs.declared.play_peer.PlayPeer.{PlayPeer}
use Rattle.dav_mirror.specs.Seen.{calls_in, peer_in}

abbrev pub peer_of : {D R : Type 0} {disk : DiskGhosts D} {memory : MemoryGhosts R} → PlayPeer D R disk memory → PeerState
peer_of peer = peer_in peer.heard (drop peer.at peer.piece) peer.body peer.refused (stage_of peer.player)

abbrev pub calls_of : {D R : Type 0} {disk : DiskGhosts D} {memory : MemoryGhosts R} → PlayPeer D R disk memory → Calls
calls_of peer = calls_in (playing_of peer.player).replies peer.refused peer.failures peer.turns
