use Rattle.std.proofs.Common.{rules, sym}
use Rattle.dav_host.proofs.PassedNames.{passes_more, missed_more}
use Rattle.dav_host.proofs.listings.next_told.Goals as goal

pub names-preserved : goal.names-preserved
names-preserved g c = (
  c.in-Some.ensures.goes.keeps,
  passes_more g.I.Iterator.next_gives c.names.counter c.args.names.now c.names.names c.next.new.self c.in-Some.entry c.names.invariant.1
      c.in-Some.ensures.steps (search rules),
  sym (missed_more c.args.missed.now c.names.counter),
)
