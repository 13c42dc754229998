use Rattle.std.proofs.Common.{◌≡◌, ◌≤◌, ◌∷◌, ◌++◌, length, take, get_or}
use Rattle.dav_io.specs.Told.{Both}
use Rattle.htmlescape.proofs.characters.read_after.Given as goal

-- the first byte and what was read are at the front of the buffer
abbrev pub invariant-loop-at : goal.invariant-loop-at
invariant-loop-at g l =
    let stream = g.R.Source.stream in
    record {
      size : length l.bytes ≡ 4;
      first : get_or l.bytes 0 0 ≡ l.first;
      counts : (stream l.initial.reader).faults ≤ (stream l.reader).faults;
      told : Both (stream l.initial.reader).bytes (stream l.reader).bytes (λ a b. l.first ∷ a ≡ take l.at l.bytes ++ b);
    }
