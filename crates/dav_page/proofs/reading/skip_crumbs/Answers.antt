use Rattle.std.proofs.Common.{Ok, Bor, ℕ, List, ap, rules}
use Rattle.dav_page.specs.Cuts.{HasCrumbs, HasLast, crumb_texts}
use Rattle.dav_page.proofs.Found.{ok_map}
use Rattle.dav_page.proofs.Reader.{crumb_right, crumbs_end, crumbs_step, no_crumbs}
use Rattle.dav_page.proofs.reading.skip_crumbs.Goals as goal

pub returns-then-not-branch-clause-none : goal.returns-then-not-branch-clause-none
returns-then-not-branch-clause-none c = λ e rest h.
    crumb_right c.crumbs.left.now rest c.in-Some.behind.now (crumb_texts c.in-Some.cut) c.in-Some.ensures.some
    (c.in_ok-is_crumb.ensures.no (ap Ok c.if-not-branch.true)) (c.crumbs.invariant.0.only rest h)

pub crumbs-preserved : goal.crumbs-preserved
crumbs-preserved c =
    let is = c.in_ok-is_crumb.ensures.yes (ap Ok c.if-not-branch.false) in (
      crumbs_step c.args.whole.now c.crumbs.left.now c.in-Some.behind.now (crumb_texts c.in-Some.cut) is.0 c.crumbs.invariant.0 c.in-Some.ensures.some
          is.1,
      search rules,
    )

pub returns-clause-some : goal.returns-clause-some
returns-clause-some c =
    ok_map (λ (x : Bor (List ℕ)). HasLast c.crumbs.left.now x.now) (λ x. HasCrumbs c.args.whole.now x.now) c.skip_last.result
    (λ x h. c.crumbs.invariant.0.leads x.now (no_crumbs c.crumbs.left.now x.now h)) c.skip_last.ensures.some

pub returns-clause-none : goal.returns-clause-none
returns-clause-none c = λ e rest h.
    c.skip_last.ensures.none e rest
    (crumbs_end c.crumbs.left.now rest (c.cut_crumb.ensures.none c.in_default.is) (c.crumbs.invariant.0.only rest h))
