use Rattle.std.proofs.Common.{◌≡◌, is_ok, rules, arith}
use Rattle.dav_calendar.specs.Nested.{nested_of}
use Rattle.dav_report.specs.FilterLists.{asked_by, filters_in}
use Rattle.dav_calendar.proofs.NestedWaiting.{popped, appended}
use Rattle.dav_report.proofs.FilterWaiting.{filters_size}
use Rattle.dav_report.proofs.+drops.Goals as goal

pub caldav::component_filter::ComponentFilters::drop-drop-inner-requires : goal.caldav::component_filter::ComponentFilters::drop-drop-inner-requires
caldav::component_filter::ComponentFilters::drop-drop-inner-requires t c κs =
    let p = popped asked_by filters_in c.loop-filter.waiting.items c.pop.new.self.items c.in-Some.filter c.in-Some.ensures.items in
    let e : nested_of asked_by filters_in c.into_vec-inner.result.items ≡ c.in-Some.filter.comp_filters = c.into_vec-inner.ensures in
    let a = appended asked_by filters_in (is_ok c.append.result) c.pop.new.self.items c.into_vec-inner.result.items c.append.new.self.items c.append.new.other.items c.append.ensures.items c.append.ensures.other_items in
    let l = rw e at a.left in
    (((omega (arith, filters_size c.append.new.other.items, l, p.first, c.loop-filter.invariant, c.decreases), tt), tt), search rules)

pub caldav::component_filter::ComponentFilters::drop-loop-filter-smaller : goal.caldav::component_filter::ComponentFilters::drop-loop-filter-smaller
caldav::component_filter::ComponentFilters::drop-loop-filter-smaller t c =
    let p = popped asked_by filters_in c.loop-filter.waiting.items c.pop.new.self.items c.in-Some.filter c.in-Some.ensures.items in
    let e : nested_of asked_by filters_in c.into_vec-inner.result.items ≡ c.in-Some.filter.comp_filters = c.into_vec-inner.ensures in
    let a = appended asked_by filters_in (is_ok c.append.result) c.pop.new.self.items c.into_vec-inner.result.items c.append.new.self.items c.append.new.other.items c.append.ensures.items c.append.ensures.other_items in
    let w = rw e at a.weighs in
    omega (arith, p.less, w)

pub caldav::component_filter::ComponentFilters::drop-loop-filter-preserved : goal.caldav::component_filter::ComponentFilters::drop-loop-filter-preserved
caldav::component_filter::ComponentFilters::drop-loop-filter-preserved t c =
    let p = popped asked_by filters_in c.loop-filter.waiting.items c.pop.new.self.items c.in-Some.filter c.in-Some.ensures.items in
    let e : nested_of asked_by filters_in c.into_vec-inner.result.items ≡ c.in-Some.filter.comp_filters = c.into_vec-inner.ensures in
    let a = appended asked_by filters_in (is_ok c.append.result) c.pop.new.self.items c.into_vec-inner.result.items c.append.new.self.items c.append.new.other.items c.append.ensures.items c.append.ensures.other_items in
    let w = rw e at a.waits in
    omega (arith, c.loop-filter.invariant, p.others, p.first, w)
