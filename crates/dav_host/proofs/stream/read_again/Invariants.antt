use Rattle.std.specs.Io.KnownBytes.{Keeps}
use Rattle.dav_host.proofs.stream.read_again.Given as goal

-- the tries so far took nothing
abbrev pub invariant-tries : goal.invariant-tries
invariant-tries g l = Keeps (g.R.Read.remaining l.initial.input) (g.R.Read.remaining l.input)
