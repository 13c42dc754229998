use Rattle.htmlescape.proofs.Moves.{completes, faults}
use Rattle.htmlescape.proofs.decoder.Decoder.take.Goals as goal

pub returns-in-Whole-clause-took : goal.returns-in-Whole-clause-took
returns-in-Whole-clause-took c = λ text value r. completes _ _ _ text value c.args.c c.in-Whole.found r (c.in-Whole.ensures r.pending r.keeps)

pub returns-in-Fault-clause-took : goal.returns-in-Fault-clause-took
returns-in-Fault-clause-took c = λ text value r. faults _ _ _ text value c.args.c c.in-Fault.kind r (c.in-Fault.ensures r.pending r.keeps)
