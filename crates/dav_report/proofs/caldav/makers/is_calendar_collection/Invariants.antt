use Rattle.std.proofs.Common.{◌≡◌, false, take}
use Rattle.dav_report.specs.Making.{has_calendar}
use Rattle.dav_report.proofs.caldav.makers.is_calendar_collection.Given as goal

abbrev pub invariant-loop-element : goal.invariant-loop-element
invariant-loop-element l = has_calendar (take l.element-index l.resource_type) ≡ false
