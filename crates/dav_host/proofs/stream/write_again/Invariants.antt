use Rattle.std.specs.Io.KnownBytes.{Keeps}
use Rattle.dav_host.proofs.stream.write_again.Given as goal

-- the tries so far wrote nothing
abbrev pub invariant-tries : goal.invariant-tries
invariant-tries g l = Keeps (g.W.Write.contents l.initial.output) (g.W.Write.contents l.output)
