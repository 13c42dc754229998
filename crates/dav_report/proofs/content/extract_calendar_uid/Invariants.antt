use Rattle.std.proofs.Common.{◌≡◌, length, drop}
use Rattle.std.specs.Str.{trim}
use Rattle.std.specs.Str.Lines.{lines}
use Rattle.dav_report.specs.Lines.{first_some, calendar_uid_in, calendar_uid}
use Rattle.dav_report.proofs.content.extract_calendar_uid.Given as goal

abbrev pub invariant-loop-line : goal.invariant-loop-line
invariant-loop-line l = calendar_uid l.content ≡ first_some (λ line. calendar_uid_in (trim line)) (drop (length l.yielded) (lines l.content))
