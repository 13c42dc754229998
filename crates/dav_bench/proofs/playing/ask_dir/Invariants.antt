use Rattle.std.proofs.Common.{◌≡◌, ◌+◌, map, sum}
use Rattle.dav_handler.specs.Player.{playing_of, stage_of}
use Rattle.dav_bench.specs.Asking.{IsReady}
use Rattle.dav_bench.specs.Counting.{added}
use Rattle.dav_bench.specs.Running.{places_of}
use Rattle.dav_bench.specs.Tree.{length_of, upto}
use Rattle.dav_bench.proofs.Rounds.{AskedSoFar}
use Rattle.dav_bench.proofs.playing.ask_dir.Given as goal

abbrev pub invariant-loop-j : goal.invariant-loop-j
invariant-loop-j g l = record {
  ready : IsReady l.m (stage_of l.player);
  replies : (playing_of l.player).replies ≡ (playing_of l.initial.player).replies + l.j;
  counts : l.counts ≡ added l.j (sum (map (length_of l.i) (upto l.j))) l.initial.counts;
  asked : AskedSoFar (places_of l.i l.j) (stage_of l.initial.player) (stage_of l.player) l.initial.counts l.counts;
}
