use Rattle.std.proofs.Common.{◌≡◌, drop}
use Rattle.dav_calendar.specs.TreeLists.{tree_of}
use Rattle.dav_matching.specs.Calendars.{is_named, some_component}
use Rattle.dav_matching.proofs.calendars.some_named.Given as goal

abbrev pub invariant-loop-component : goal.invariant-loop-component
invariant-loop-component l =
    some_component (λ told children. is_named l.filter.name told) (tree_of l.fn.components)
    ≡ some_component (λ told children. is_named l.filter.name told) (tree_of (drop l.component-index l.components))
