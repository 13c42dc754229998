use Rattle.htmlescape.proofs.DecodeLoop.{Going}
use Rattle.htmlescape.proofs.decode.decode.Given as goal

abbrev pub invariant-loop-count : goal.invariant-loop-count
invariant-loop-count g l =
    Going (g.C.Characters.stream l.initial.characters) (g.C.Characters.stream l.characters) (g.W.Sink.stream l.initial.writer) (g.W.Sink.stream l.writer) l.decoder l.count
