use Rattle.std.proofs.Common.{Ok, ◌++◌, ap}
use Rattle.dav_io.proofs.Cases.{if_some}
use Rattle.dav_page.specs.Cuts.{Spells}
use Rattle.dav_page.specs.Pages.{before_heading}
use Rattle.dav_page.proofs.PageOnce.{title_between}
use Rattle.dav_page.proofs.Reader.{title_found, title_is, title_wrong}
use Rattle.dav_page.proofs.reading.skip_title.Goals as goal

pub returns-in_default-clause-none : goal.returns-in_default-clause-none
returns-in_default-clause-none c = λ e rest h.
    c.between.ensures.none c.in_default.is h.text (before_heading ++ rest) (title_between c.args.page.now rest h)

pub returns-in_default-expect-clause-none : goal.returns-in_default-expect-clause-none
returns-in_default-expect-clause-none c = λ e rest h.
    c.expect.ensures.none c.in_default-expect.is rest
    (title_is c.args.page.now c.in-Some.title.now c.in-Some.rest.now rest c.in-Some.ensures.some h).1

pub returns-in_default-2-clause-none : goal.returns-in_default-2-clause-none
returns-in_default-2-clause-none c = λ e rest h.
    title_wrong c.args.page.now c.in-Some.title.now c.in-Some.rest.now rest c.in-Some.ensures.some
    (c.in_ok-_title.ensures.none (ap Ok c.in_default-2.is)) h

pub returns-clause-some : goal.returns-clause-some
returns-clause-some c =
    title_found c.args.page.now c.in-Some.title.now c.in-Some.rest.now c.in-Some-expect.behind.now c.in-Some-2._title c.in-Some.ensures.some
    c.in-Some-expect.ensures.some (if_some (Spells c.in-Some.title.now) _ _ c.in-Some-2.is c.in_ok-_title.ensures.some)
