use Rattle.std.proofs.Common.{◌≡◌, None, Bor, ℕ, List, refl}
use Rattle.dav_page.specs.Cuts.{HasCrumbs, HasHeading, HasRoot}
use Rattle.dav_page.proofs.Found.{ok_map, some_map}
use Rattle.dav_page.proofs.Reader.{heading_crumbs, heading_found, heading_is_root, heading_root}
use Rattle.dav_page.proofs.reading.skip_heading.Goals as goal

pub returns-in-Some-clause-some : goal.returns-in-Some-clause-some
returns-in-Some-clause-some c =
    ok_map (λ (x : Bor (List ℕ)). HasCrumbs c.in-Some.rest.now x.now) (λ x. HasHeading c.args.whole.now x.now) c.skip_crumbs.result
    (λ x h. heading_found c.args.whole.now c.in-Some.rest.now x.now c.in-Some.ensures.some h) c.skip_crumbs.ensures.some

pub returns-in-Some-clause-none : goal.returns-in-Some-clause-none
returns-in-Some-clause-none c = λ e rest h.
    c.skip_crumbs.ensures.none e rest (heading_crumbs c.args.whole.now c.in-Some.rest.now rest c.in-Some.ensures.some h)

pub returns-in-None-clause-some : goal.returns-in-None-clause-some
returns-in-None-clause-some c =
    some_map (λ (x : Bor (List ℕ)). HasRoot c.args.whole.now x.now) (λ x. HasHeading c.args.whole.now x.now) c.skip_root.result
    (λ x h. heading_root c.args.whole.now x.now h) c.skip_root.ensures.some

pub returns-in-None-clause-none : goal.returns-in-None-clause-none
returns-in-None-clause-none c = λ e rest h.
    let none : c.skip_root.result ≡ None = cc in
    c.skip_root.ensures.none none rest (heading_is_root c.args.whole.now rest (c.in-None.ensures.none refl) h)
