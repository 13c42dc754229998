use Rattle.std.proofs.Common.{◌≡◌, Some, None}
use Rattle.dav_report.specs.Calendars.{component_filters}
use Rattle.dav_report.proofs.FilterByFilter.{outer_read, outer_faulty}
use Rattle.dav_report.proofs.calendar_parts.ComponentFilterOuter.read_all.Goals as goal

pub returns-in-Some : goal.returns-in-Some
returns-in-Some c =
    let h : Some c.in-Some.filters ≡ component_filters c.args.children.now = rw c.in-Some.is at c.in_ok-filters.ensures in outer_read c.args.children.now c.in-Some.filters c.into_vec.result.items c.into_vec.ensures h

pub returns-in-None : goal.returns-in-None
returns-in-None c = let h : None ≡ component_filters c.args.children.now = rw c.in-None.is at c.in_ok-filters.ensures in outer_faulty c.args.children.now h
