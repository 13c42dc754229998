use Rattle.dav_page.proofs.Between.{between_none}
use Rattle.dav_page.proofs.cutting.between.Goals as goal

pub returns-clause-none : goal.returns-clause-none
returns-clause-none c = λ e text rest is.
    between_none c.args.literal.now c.args.stop c.args.whole.now c.in_ok-behind.behind.now text rest c.in_ok-behind.ensures.some
    (c.until.ensures.none e) is
