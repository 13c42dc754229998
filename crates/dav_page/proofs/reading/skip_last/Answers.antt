use Rattle.std.proofs.Common.{Ok, ap}
use Rattle.dav_io.proofs.Cases.{if_some}
use Rattle.dav_page.specs.Pages.{IsName}
use Rattle.dav_page.proofs.Reader.{last_found, last_is, last_wrong}
use Rattle.dav_page.proofs.reading.skip_last.Goals as goal

pub returns-in_default-expect-clause-none : goal.returns-in_default-expect-clause-none
returns-in_default-expect-clause-none c = λ e rest h.
    c.expect.ensures.none c.in_default-expect.is rest
    (last_is c.args.whole.now c.in-Some.name.now c.in-Some.rest.now rest c.in-Some.ensures.some h).1

pub returns-in_default-2-clause-none : goal.returns-in_default-2-clause-none
returns-in_default-2-clause-none c = λ e rest h.
    last_wrong c.args.whole.now c.in-Some.name.now c.in-Some.rest.now rest c.in-Some.ensures.some
    (c.in_ok-_name.ensures.none (ap Ok c.in_default-2.is)) h

pub returns-clause-some : goal.returns-clause-some
returns-clause-some c =
    last_found c.args.whole.now c.in-Some.name.now c.in-Some.rest.now c.in-Some-expect.behind.now c.in-Some-2._name c.in-Some.ensures.some
    c.in-Some-expect.ensures.some (if_some (IsName c.in-Some.name.now) _ _ c.in-Some-2.is c.in_ok-_name.ensures.some)
