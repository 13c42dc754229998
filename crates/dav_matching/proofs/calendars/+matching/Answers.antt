use Rattle.std.proofs.Common.{◌≤◌, suc, sym, subst, arith}
use Rattle.dav_report.specs.Filters.{filters_depth}
use Rattle.dav_report.specs.FilterLists.{filters_of}
use Rattle.dav_matching.proofs.Walking.{deep_at}
use Rattle.dav_matching.proofs.calendars.+matching.Goals as goal

pub all_match-filter_matches-requires : goal.all_match-filter_matches-requires
all_match-filter_matches-requires t c =
    let deep = subst (λ f. suc (filters_depth f.comp_filters) ≤ filters_depth (filters_of c.args.filters.now)) (sym c.filter-item.is) (deep_at c.args.filters.now c.loop-filter.filter-index c.filter-item.result c.loop-filter-test.true) in
    (omega (arith, deep, c.decreases), tt)
