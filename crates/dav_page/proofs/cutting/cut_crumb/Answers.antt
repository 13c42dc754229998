use Rattle.std.proofs.Common.{refl}
use Rattle.dav_page.proofs.Between.{behind_crumb_link, crumb_link_at, crumb_no_end, crumb_no_name}
use Rattle.dav_page.proofs.cutting.cut_crumb.Goals as goal

pub returns-in_err-link-clause-none : goal.returns-in_err-link-clause-none
returns-in_err-link-clause-none c = λ e r rest is.
    c.in_err-link.ensures.none refl r.link (behind_crumb_link r rest) (crumb_link_at c.args.whole.now r rest is)

pub returns-in_err-name-clause-none : goal.returns-in_err-name-clause-none
returns-in_err-name-clause-none c = λ e.
    crumb_no_name c.args.whole.now c.in_ok-link.link.now c.in_ok-link.rest.now c.in_ok-link.ensures.some (c.in_err-name.ensures.none refl)

pub returns-in_err-rest-clause-none : goal.returns-in_err-rest-clause-none
returns-in_err-rest-clause-none c = λ e.
    crumb_no_end c.args.whole.now c.in_ok-link.link.now c.in_ok-link.rest.now c.in_ok-link.ensures.some c.in_ok-name.name.now
    c.in_ok-name.rest.now c.in_ok-name.ensures.some (c.in_err-rest.ensures.none refl)
