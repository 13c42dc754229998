use Rattle.dav_page.proofs.Found.{root_found, root_not}
use Rattle.dav_page.proofs.reading.skip_root.Goals as goal

pub returns-clause-some : goal.returns-clause-some
returns-clause-some c =
    root_found c.args.whole.now c.in_ok-rest.rest.now c.expect-2.result c.in_ok-rest.ensures.some c.expect-2.ensures.some

pub returns-clause-none : goal.returns-clause-none
returns-clause-none c = λ e. root_not c.args.whole.now c.in_ok-rest.rest.now c.in_ok-rest.ensures.some (c.expect-2.ensures.none e)
