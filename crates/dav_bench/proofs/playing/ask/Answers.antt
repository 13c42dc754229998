use Rattle.std.proofs.Common.{ap, ◌∙◌}
use Rattle.dav_model.specs.Play.{Stage}
use Rattle.dav_handler.specs.Player.{stage_of}
use Rattle.dav_bench.specs.Counting.{all_counted}
use Rattle.dav_bench.proofs.Counted.{Asked, asked_play, file_counted}
use Rattle.dav_bench.proofs.Reported.{spared_lent}
use Rattle.dav_bench.proofs.Rounds.{one_asked}
use Rattle.dav_bench.proofs.playing.ask.Goals as goal

pub returns : goal.returns
returns g c =
    let a : Stage = stage_of c.args.player.now in
    let b : Stage = stage_of c.play.new.player in
    let x : Asked c.args.m c.args.i c.args.j a c.play.new.answers.items b =
    asked_play c.args.m c.args.i c.args.j c.replies.result a c.deref.result.now c.in_ok-steps.steps.items c.new-answers.result.items c.play.new.answers.items c.play.result b
    c.requires.m c.requires.i c.requires.j c.requires.ready c.replies.ensures c.in_ok-steps.ensures c.deref.ensures.value c.new-answers.ensures.items c.in_ok-play.was
    (spared_lent c.play.new.player.store.disk c.disk.result.now c.disk.ensures c.sure_disks_fail_for_want_of_room.ensures) c.play.ensures.done in
    let counts = c.count_all.ensures ∙ ap (all_counted c.args.counts.now) c.deref-2.ensures.value in
    record {
      ready = x.on.ready;
      replies = x.on.replies;
      counts = counts
          ∙ file_counted c.args.m c.args.i c.args.j a.playing.replies c.args.counts.now c.play.new.answers.items c.requires.m c.requires.i c.requires.j c.requires.place x.file;
      asked = one_asked c.args.i c.args.j c.replies.result a c.deref.result.now c.in_ok-steps.steps.items c.new-answers.result.items c.play.new.answers.items c.play.result b
          c.args.counts.now c.count_all.new.self c.replies.ensures c.in_ok-steps.ensures c.deref.ensures.value c.new-answers.ensures.items c.in_ok-play.was c.play.ensures.done counts;
    }
