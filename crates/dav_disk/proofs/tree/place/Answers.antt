use Rattle.std.proofs.Common.{rules, sym, ◌∙◌, []}
use Rattle.dav_disk.proofs.Walks.{walk_on, walk_ends, walk_blocked}
use Rattle.dav_disk.proofs.tree.place.Goals as goal

pub returns-in-None-clause-found : goal.returns-in-None-clause-found
returns-in-None-clause-found c = c.loop-i.invariant ∙ walk_ends c.args.rows.now c.args.path.now c.loop-i.i [] c.loop-i-test.true (sym c.in-None.ensures.found)

pub returns-then-ne-clause-found : goal.returns-then-ne-clause-found
returns-then-ne-clause-found c = c.loop-i.invariant ∙ walk_blocked c.args.rows.now c.args.path.now c.loop-i.i c.in-Some.row.now [] c.loop-i-test.true (sym c.in-Some.ensures.found) (search rules)

pub loop-i-preserved : goal.loop-i-preserved
loop-i-preserved c = c.loop-i.invariant ∙ walk_on c.args.rows.now c.args.path.now c.loop-i.i c.in-Some.row.now [] c.loop-i-test.true (sym c.in-Some.ensures.found) (search rules)
