use Rattle.std.proofs.Common.{[], ◌∷◌}
use Rattle.dav_report.specs.FilterLists.{asked_by, filters_in}
use Rattle.dav_calendar.proofs.NestedWaiting.{nested_of-append}
use Rattle.dav_report.proofs.caldav.component_filter.ComponentFilters.push.Goals as goal

pub returns-clause-ok : goal.returns-clause-ok
returns-clause-ok c = rw (c.in_ok-push.ensures.items, ← c.self.view_is) (nested_of-append asked_by filters_in c.self.inside.filters.items (_ ∷ []))
