use Rattle.std.proofs.Common.{◌≡◌, ◌&&◌, ◌+◌, ◌*◌, drop}
use Rattle.dav_calendar.specs.TreeLists.{tree_of}
use Rattle.dav_report.specs.Filters.{filters_depth}
use Rattle.dav_report.specs.FilterLists.{asked_by, filters_of}
use Rattle.dav_matching.specs.Calendars.{all_pass, fits, some_component}
use Rattle.dav_matching.proofs.calendars.+matching.Given as goal

abbrev pub decreases-all_match : goal.decreases-all_match
decreases-all_match l = 4 * filters_depth (filters_of l.filters.now) + 2

abbrev pub decreases-filter_matches : goal.decreases-filter_matches
decreases-filter_matches l = 4 * filters_depth l.filter.now.comp_filters + 5

abbrev pub decreases-some_match : goal.decreases-some_match
decreases-some_match l = 4 * filters_depth l.filter.now.comp_filters + 4

abbrev pub decreases-one_matches : goal.decreases-one_matches
decreases-one_matches l = 4 * filters_depth l.filter.now.comp_filters + 3

abbrev pub invariant-all_match-loop-filter : goal.invariant-all_match-loop-filter
invariant-all_match-loop-filter l = all_pass (filters_of l.fn.filters) (tree_of l.components) ≡ all_pass (filters_of (drop l.filter-index l.filters)) (tree_of l.components)

abbrev pub invariant-some_match-loop-component : goal.invariant-some_match-loop-component
invariant-some_match-loop-component l =
    some_component (λ told children. fits (asked_by l.filter) told && all_pass l.filter.comp_filters children) (tree_of l.fn.components)
    ≡ some_component (λ told children. fits (asked_by l.filter) told && all_pass l.filter.comp_filters children) (tree_of (drop l.component-index l.components))
