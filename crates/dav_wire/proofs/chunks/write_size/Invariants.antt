use Rattle.std.proofs.Common.{◌≡◌, ◌+◌, ◌^◌, ◌<◌, ◌≤◌, drop, length}
use Rattle.dav_wire.specs.Chunks.{size_line}
use Rattle.dav_wire.proofs.Sizes.{onto}
use Rattle.dav_wire.proofs.chunks.write_size.Given as goal

-- the digits so far stand from the place on, and those of the rest are still to be written in front of them
abbrev pub invariant-digits : goal.invariant-digits
invariant-digits l = record {
  long : length l.line ≡ 18;
  some : 0 < l.at;
  within : l.at ≤ 16;
  fits : l.rest < 16 ^ l.at;
  so_far : onto (l.at + 48) l.rest (drop l.at l.line) ≡ size_line l.size;
}

abbrev pub decreases-digits : goal.decreases-digits
decreases-digits l = l.at
