use Rattle.std.proofs.Common.{Some, ap, ◌∙◌}
use Rattle.dav_report.specs.Children.{last_of}
use Rattle.std.specs.Prelude.{option_map}
use Rattle.dav_report.proofs.Steps.{or_none}
use Rattle.dav_report.proofs.calendar_parts.read_last_range.Goals as goal

pub returns-in-Some : goal.returns-in-Some
returns-in-Some c =
    let read = rw c.in-Some.is at c.in_ok-ranges.ensures in
    ap Some (c.later.ensures ∙ or_none (last_of c.in-Some.ranges.items)) ∙ ap (option_map last_of) read
