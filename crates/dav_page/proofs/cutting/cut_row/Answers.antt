use Rattle.std.proofs.Common.{refl}
use Rattle.dav_page.proofs.Between.{behind_link, link_at, row_front, row_no_date, row_no_end, row_no_name, row_no_size}
use Rattle.dav_page.proofs.cutting.cut_row.Goals as goal

pub returns-in_err-link-clause-none : goal.returns-in_err-link-clause-none
returns-in_err-link-clause-none c = λ e r rest is.
    c.in_err-link.ensures.none refl r.link (behind_link r rest) (link_at c.args.whole.now r rest is)

pub returns-in_err-name-clause-none : goal.returns-in_err-name-clause-none
returns-in_err-name-clause-none c = λ e.
    row_no_name c.args.whole.now c.in_ok-link.link.now c.in_ok-link.rest.now c.in_ok-link.ensures.some (c.in_err-name.ensures.none refl)

pub returns-in_err-date-clause-none : goal.returns-in_err-date-clause-none
returns-in_err-date-clause-none c = λ e.
    row_no_date c.args.whole.now c.in_ok-link.link.now c.in_ok-link.rest.now c.in_ok-link.ensures.some c.in_ok-name.name.now c.in_ok-name.rest.now
    c.in_ok-name.ensures.some (c.in_err-date.ensures.none refl)

pub returns-in_err-size-clause-none : goal.returns-in_err-size-clause-none
returns-in_err-size-clause-none c = λ e.
    row_no_size c.args.whole.now c.in_ok-link.link.now c.in_ok-link.rest.now c.in_ok-link.ensures.some c.in_ok-name.name.now c.in_ok-name.rest.now
    c.in_ok-name.ensures.some c.in_ok-date.date.now c.in_ok-date.rest.now c.in_ok-date.ensures.some (c.in_err-size.ensures.none refl)

pub returns-in_err-rest-clause-none : goal.returns-in_err-rest-clause-none
returns-in_err-rest-clause-none c = λ e.
    row_no_end c.args.whole.now c.in_ok-link.link.now c.in_ok-link.rest.now c.in_ok-link.ensures.some c.in_ok-name.name.now c.in_ok-name.rest.now
    c.in_ok-name.ensures.some c.in_ok-date.date.now c.in_ok-date.rest.now c.in_ok-date.ensures.some c.in_ok-size.size.now c.in_ok-size.rest.now
    c.in_ok-size.ensures.some (c.in_err-rest.ensures.none refl)

pub returns-clause-some : goal.returns-clause-some
returns-clause-some c =
    row_front c.args.whole.now c.in_ok-link.link.now c.in_ok-name.name.now c.in_ok-date.date.now c.in_ok-size.size.now c.in_ok-link.rest.now
    c.in_ok-name.rest.now c.in_ok-date.rest.now c.in_ok-size.rest.now c.in_ok-rest.rest.now c.in_ok-link.ensures.some c.in_ok-name.ensures.some
    c.in_ok-date.ensures.some c.in_ok-size.ensures.some c.in_ok-rest.ensures.some
