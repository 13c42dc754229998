use Rattle.std.proofs.Common.{◌≡◌, inl, refl, arith, subst}
use Rattle.dav_handler.specs.Player.{stage_of}
use Rattle.dav_bench.specs.Running.{places_of}
use Rattle.dav_bench.proofs.Counted.{dir_begins, dir_goes_on, dir_has_place}
use Rattle.dav_bench.proofs.Rounds.{AskedSoFar, all_of_dir, dir_asked, none_of_dir}
use Rattle.dav_bench.proofs.playing.ask_dir.Goals as goal

pub loop-j-init : goal.loop-j-init
loop-j-init g c = record { ready = c.requires.ready; replies = omega arith; counts = dir_begins c.args.i c.args.counts.now; asked = inl (none_of_dir c.args.i, refl, refl) }

pub ask-requires-clause-place : goal.ask-requires-clause-place
ask-requires-clause-place g c =
    dir_has_place c.args.m c.args.i c.loop-j.j c.args.counts.now c.loop-j.counts c.requires.m c.requires.i (omega arith) c.requires.place c.loop-j.invariant.counts

pub loop-j-preserved : goal.loop-j-preserved
loop-j-preserved g c =
    let before = c.loop-j.invariant.replies in
    let more = c.in_ok-ask.ensures.replies in
    record {
      ready = c.in_ok-ask.ensures.ready;
      replies = omega arith;
      counts = dir_goes_on c.args.i c.loop-j.j c.args.counts.now c.loop-j.counts c.ask.new.counts c.loop-j.invariant.counts c.in_ok-ask.ensures.counts;
      asked = dir_asked c.args.i c.loop-j.j (stage_of c.args.player.now) (stage_of c.loop-j.player) (stage_of c.ask.new.player) c.args.counts.now c.loop-j.counts c.ask.new.counts
          c.loop-j.invariant.asked before c.in_ok-ask.ensures.asked;
    }

pub returns-clause-asked : goal.returns-clause-asked
returns-clause-asked g c =
    let all : c.loop-j.j ≡ c.args.m = omega arith in
    all_of_dir c.args.i c.args.m (stage_of c.args.player.now) (stage_of c.loop-j.player) c.args.counts.now c.loop-j.counts c.requires.some
    (subst (λ n. AskedSoFar (places_of c.args.i n) (stage_of c.args.player.now) (stage_of c.loop-j.player) c.args.counts.now c.loop-j.counts) all c.loop-j.invariant.asked)
