use Rattle.std.proofs.Common.{[], ◌-◌, ◌^◌, Ok}
use Rattle.dav_io.specs.Outside.{Stream}
use Rattle.dav_wire.specs.Writing.{Pushes}
use Rattle.dav_wire.proofs.BodyProgress.{Progress}
use Rattle.dav_wire.proofs.body.read_on.Given as goal

abbrev pub decreases-bytes : goal.decreases-bytes
decreases-bytes g l = 2 ^ 60 - l.input.taken

abbrev pub invariant-bytes : goal.invariant-bytes
invariant-bytes g l = record {
  progress : Progress l.fn.announced (g.S.Client.stream l.fn.source) l.fn.input l.place l.body.items l.input (g.S.Client.stream l.source);
  sends : Pushes (g.K.Sink.stream l.fn.sink) l.fn.output [] (Ok tt) l.output (g.K.Sink.stream l.sink);
  may : (left written : Stream) → g.S.Client.may l.fn.source left written → g.S.Client.may l.source left written;
}
