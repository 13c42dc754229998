use Rattle.std.proofs.Common.{◌≡◌, length, drop}
use Rattle.std.specs.Str.{trim}
use Rattle.std.specs.Str.Lines.{lines}
use Rattle.dav_report.specs.Lines.{first_some, vcard_value_in, vcard_value}
use Rattle.dav_report.proofs.content.read_value.Given as goal

abbrev pub invariant-loop-line : goal.invariant-loop-line
invariant-loop-line l =
    vcard_value l.name l.content ≡ first_some (λ line. vcard_value_in l.name (trim line)) (drop (length l.yielded) (lines l.content))
