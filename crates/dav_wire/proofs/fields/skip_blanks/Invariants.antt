use Rattle.std.proofs.Common.{◌≡◌, ◌-◌, ◌≤◌, drop, length}
use Rattle.httparse.specs.Grammar.{skip_ows}
use Rattle.dav_wire.proofs.fields.skip_blanks.Given as goal

abbrev pub decreases-loop-at : goal.decreases-loop-at
decreases-loop-at l = length l.text - l.at

abbrev pub invariant-loop-at : goal.invariant-loop-at
invariant-loop-at l = record {
  within : l.at ≤ length l.text;
  same : skip_ows l.text ≡ skip_ows (drop l.at l.text);
}
