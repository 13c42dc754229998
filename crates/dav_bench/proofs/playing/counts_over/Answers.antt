use Rattle.std.proofs.Common.{ap, subst, ◌∙◌}
use Rattle.dav_handler.specs.Player.{stage_of}
use Rattle.dav_bench.specs.Counting.{added, nothing_counted}
use Rattle.dav_bench.specs.Running.{AskedFor, places_below}
use Rattle.dav_bench.specs.Totals.{lengths}
use Rattle.std.proofs.Common.{sum, ◌*◌}
use Rattle.dav_bench.proofs.Counted.{second_round}
use Rattle.dav_bench.proofs.Rounds.{twice_asked}
use Rattle.dav_bench.proofs.playing.counts_over.Goals as goal

pub ask_all-requires-2-clause-place : goal.ask_all-requires-2-clause-place
ask_all-requires-2-clause-place g c =
    second_round c.args.m c.ask_all.new.counts c.requires.m (c.in_ok-ask_all.ensures.counts ∙ ap (added (8 * c.args.m) (sum (lengths c.args.m))) c.none-counts.ensures)

pub returns-clause-asked : goal.returns-clause-asked
returns-clause-asked g c =
    twice_asked c.args.m (stage_of c.args.player.now) (stage_of c.ask_all.new.player) (stage_of c.ask_all-2.new.player) nothing_counted c.ask_all.new.counts c.ask_all-2.new.counts
    (subst (λ z. AskedFor (places_below c.args.m 8) (stage_of c.args.player.now) (stage_of c.ask_all.new.player) z c.ask_all.new.counts) c.none-counts.ensures c.in_ok-ask_all.ensures.asked)
    c.in_ok-ask_all.ensures.replies c.in_ok-ask_all-2.ensures.asked
