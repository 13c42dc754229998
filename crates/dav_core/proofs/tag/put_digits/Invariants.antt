use Rattle.std.proofs.Common.{◌≡◌, suc, ◌+◌, ◌-◌, ◌^◌, ◌++◌, ◌<◌, ◌≤◌, drop, length}
use Rattle.dav_core.specs.Info.{hex}
use Rattle.dav_core.proofs.Hex.{front}
use Rattle.dav_core.proofs.tag.put_digits.Given as goal

-- the digits of what is left stand before those that are written, and what stood from the end on behind them
abbrev pub invariant-loop-rest : goal.invariant-loop-rest
invariant-loop-rest l = record {
  whole : length l.into ≡ 52;
  some : l.at < l.end;
  fits : l.rest < 2 ^ 64;
  room : l.end ≤ l.at + 16;
  few : l.rest < 16 ^ suc (l.at + 16 - l.end);
  digits : hex l.number ++ drop l.end l.fn.into ≡ front l.rest ++ drop l.at l.into;
}

abbrev pub decreases-loop-rest : goal.decreases-loop-rest
decreases-loop-rest l = l.rest
