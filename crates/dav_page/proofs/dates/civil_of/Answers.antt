use Rattle.std.proofs.Common.{rules, ◌≡◌, ap, sym, subst, ◌∙◌, pos, ◌≤ℤ◌, to_z, of_z, w16}
use Rattle.jiff_core.specs.Calendar.{days_from_civil}
use Rattle.dav_page.proofs.Calendar.{counted, year_from_0}
use Rattle.dav_page.proofs.dates.civil_of.Goals as goal

pub natural-requires : goal.natural-requires
natural-requires c = let d = c.from_days_since_min-date.result in
    let same : to_z w16 (of_z w16 d.year) ≡ d.year = search rules in
    subst (λ y. pos 0 ≤ℤ y) (sym same)
    (year_from_0 d.year d.month d.day c.args.day (d.year_in, d.month_in, d.day_in) (counted _ c.args.day c.from_days_since_min-date.ensures))

pub returns-clause-counts : goal.returns-clause-counts
returns-clause-counts c = let d = c.from_days_since_min-date.result in
    let same : to_z w16 (of_z w16 d.year) ≡ d.year = search rules in
    ap (λ y. days_from_civil y d.month d.day) (c.natural.ensures ∙ same) ∙ counted (days_from_civil d.year d.month d.day) c.args.day c.from_days_since_min-date.ensures
