use Rattle.std.proofs.Common.{◌≡◌, length, drop, false}
use Rattle.std.specs.List.{list_any}
use Rattle.std.specs.Option.{option_map_or}
use Rattle.std.specs.Str.Lines.{lines}
use Rattle.dav_report.specs.Lines.{value_of}
use Rattle.dav_matching.specs.Cards.{some_value}
use Rattle.dav_matching.specs.Texts.{compares}
use Rattle.dav_matching.proofs.cards.some_line_has.Given as goal

abbrev pub invariant-loop-line : goal.invariant-loop-line
invariant-loop-line l =
    some_value (compares l.comparison l.part) l.text
    ≡ list_any (λ line. option_map_or (compares l.comparison l.part) (value_of line) false) (drop (length l.yielded) (lines l.text))
