use Rattle.std.proofs.Common.{◌≡◌, inl, refl, arith, subst}
use Rattle.dav_handler.specs.Player.{stage_of}
use Rattle.dav_bench.specs.Running.{places_below}
use Rattle.dav_bench.proofs.Counted.{all_begin, all_go_on, all_have_place}
use Rattle.dav_bench.proofs.Rounds.{AskedSoFar, all_below, below_asked, none_below_dir}
use Rattle.dav_bench.proofs.playing.ask_all.Goals as goal

pub loop-i-init : goal.loop-i-init
loop-i-init g c = record { ready = c.requires.ready; replies = omega arith; counts = all_begin c.args.m c.args.counts.now; asked = inl (none_below_dir c.args.m, refl, refl) }

pub ask_dir-requires-clause-place : goal.ask_dir-requires-clause-place
ask_dir-requires-clause-place g c =
    all_have_place c.args.m c.loop-i.i c.args.counts.now c.loop-i.counts c.requires.m (omega arith) c.requires.place c.loop-i.invariant.counts

pub loop-i-preserved : goal.loop-i-preserved
loop-i-preserved g c =
    let before = c.loop-i.invariant.replies in
    let more = c.in_ok-ask_dir.ensures.replies in
    record {
      ready = c.in_ok-ask_dir.ensures.ready;
      replies = omega arith;
      counts = all_go_on c.args.m c.loop-i.i c.args.counts.now c.loop-i.counts c.ask_dir.new.counts c.loop-i.invariant.counts c.in_ok-ask_dir.ensures.counts;
      asked = below_asked c.args.m c.loop-i.i (stage_of c.args.player.now) (stage_of c.loop-i.player) (stage_of c.ask_dir.new.player) c.args.counts.now c.loop-i.counts c.ask_dir.new.counts
          c.loop-i.invariant.asked before c.in_ok-ask_dir.ensures.asked;
    }

pub returns-clause-asked : goal.returns-clause-asked
returns-clause-asked g c =
    let all : c.loop-i.i ≡ 8 = omega arith in
    all_below c.args.m (stage_of c.args.player.now) (stage_of c.loop-i.player) c.args.counts.now c.loop-i.counts c.requires.some
    (subst (λ n. AskedSoFar (places_below c.args.m n) (stage_of c.args.player.now) (stage_of c.loop-i.player) c.args.counts.now c.loop-i.counts) all c.loop-i.invariant.asked)
