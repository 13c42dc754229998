use Rattle.std.proofs.Common.{ap, arith}
use Rattle.dav_page.proofs.Whole.{amount_shown}
use Rattle.dav_page.proofs.sizes.push_size.Goals as goal

pub returns-in_ok-push_amount-in-Some-clause-form : goal.returns-in_ok-push_amount-in-Some-clause-form
returns-in_ok-push_amount-in-Some-clause-form c =
    amount_shown c.args.size c.in-Some.bytes (ap (λ s. s.bytes) c.in-Some.ensures.unit) (omega (arith, c.in-Some.ensures.least)) (omega arith)

pub returns-in_ok-push_bytes-in-None-clause-form : goal.returns-in_ok-push_bytes-in-None-clause-form
returns-in_ok-push_bytes-in-None-clause-form c =
    amount_shown c.args.size 1 (ap (λ s. s.bytes) c.in-None.ensures.unit) (omega arith) (omega arith)
