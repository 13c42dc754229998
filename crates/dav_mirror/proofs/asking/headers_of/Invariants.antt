use Rattle.std.proofs.Common.{take}
use Rattle.dav_fetch.specs.Peer.{Carries}
use Rattle.dav_mirror.specs.Asking.{IsSmall}
use Rattle.dav_mirror.proofs.asking.headers_of.Given as goal

abbrev pub invariant-loop-field : goal.invariant-loop-field
invariant-loop-field l = Carries (take l.field-index l.fields) l.headers × IsSmall l.field-index l.headers
