use Rattle.std.proofs.Common.{◌-◌, ◌^◌, [], Ok}
use Rattle.dav_io.specs.Outside.{Stream}
use Rattle.dav_wire.specs.BodyReading.{ReadsOn}
use Rattle.dav_wire.specs.Writing.{Pushes}
use Rattle.dav_serving.proofs.asking.next_message.Given as goal

abbrev pub decreases-heads : goal.decreases-heads
decreases-heads g l = 2 ^ 60 - l.input.taken

abbrev pub invariant-heads : goal.invariant-heads
invariant-heads g l = record {
  reads : ReadsOn (g.S.Client.stream l.fn.source) l.fn.input [] l.input (g.S.Client.stream l.source);
  sent : Pushes (g.K.Sink.stream l.fn.sink) l.fn.output [] (Ok tt) l.output (g.K.Sink.stream l.sink);
  may : (left written : Stream) → g.S.Client.may l.fn.source left written → g.S.Client.may l.source left written;
}
