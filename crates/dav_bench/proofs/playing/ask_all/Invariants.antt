use Rattle.std.proofs.Common.{◌≡◌, ◌+◌, ◌*◌}
use Rattle.dav_handler.specs.Player.{playing_of, stage_of}
use Rattle.dav_bench.specs.Asking.{IsReady}
use Rattle.dav_bench.specs.Counting.{added}
use Rattle.dav_bench.specs.Running.{places_below}
use Rattle.dav_bench.proofs.Counted.{bytes_below}
use Rattle.dav_bench.proofs.Rounds.{AskedSoFar}
use Rattle.dav_bench.proofs.playing.ask_all.Given as goal

abbrev pub invariant-loop-i : goal.invariant-loop-i
invariant-loop-i g l = record {
  ready : IsReady l.m (stage_of l.player);
  replies : (playing_of l.player).replies ≡ (playing_of l.initial.player).replies + l.i * l.m;
  counts : l.counts ≡ added (l.i * l.m) (bytes_below l.m l.i) l.initial.counts;
  asked : AskedSoFar (places_below l.m l.i) (stage_of l.initial.player) (stage_of l.player) l.initial.counts l.counts;
}
