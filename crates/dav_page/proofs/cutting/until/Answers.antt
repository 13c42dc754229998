use Rattle.dav_page.proofs.Between.{until_none, until_some}
use Rattle.dav_page.proofs.cutting.until.Goals as goal

pub returns-in_err-front-clause-none : goal.returns-in_err-front-clause-none
returns-in_err-front-clause-none c =
    λ e. until_none c.args.stop c.args.whole.now c.split_once.result c.split_once.ensures.cases c.requires c.in_err-front.was

pub returns-clause-some : goal.returns-clause-some
returns-clause-some c =
    let cut = until_some c.args.stop c.args.whole.now c.split_once.result c.split_once.ensures.cases c.requires c.in_ok-front.front
    c.in_ok-front.field-0-1
    c.in_ok-front.was in
    rw (c.split_at.ensures.front, c.split_at.ensures.back) cut
