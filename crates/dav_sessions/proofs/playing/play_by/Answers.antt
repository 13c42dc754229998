use Rattle.std.proofs.Common.{◌≡◌, rules, subst, sym, ap, arith}
use Rattle.dav_handler.specs.Player.{stage_of}
use Rattle.dav_model.specs.Play.{PlayedOn, Stage}
use Rattle.dav_sessions.specs.Sessions.{MayShare}
use Rattle.dav_sessions.proofs.playing.play_by.Goals as goal

pub play_on-outcome-requires-clause-room : goal.play_on-outcome-requires-clause-room
play_on-outcome-requires-clause-room g c =
    let none : c.player_over-player.result.replies ≡ 0 = ap (λ (b : Stage). b.playing.replies) c.player_over-player.ensures.stage in omega (arith, none, c.requires.room)

pub play_on-outcome-requires-clause-knows : goal.play_on-outcome-requires-clause-knows
play_on-outcome-requires-clause-knows g c = ap (λ (b : Stage). b.playing.knows) c.player_over-player.ensures.stage

pub play_on-outcome-requires-clause-may : goal.play_on-outcome-requires-clause-may
play_on-outcome-requires-clause-may g c =
    subst (λ (b : Stage). MayShare (g.B.Book.names c.args.ways.now.cache.now.folder) b.playing.rules b.at c.args.steps.now) (sym c.player_over-player.ensures.stage) c.requires.may

pub returns : goal.returns
returns g c = (
  stage_of c.play_on-outcome.new.player,
  subst (λ (a : Stage). PlayedOn a c.args.steps.now c.args.answers.now.items c.play_on-outcome.new.answers.items c.play_on-outcome.result (stage_of c.play_on-outcome.new.player))
      c.player_over-player.ensures.stage c.play_on-outcome.ensures.done,
  search rules,
)
