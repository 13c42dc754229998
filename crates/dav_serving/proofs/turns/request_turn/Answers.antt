use Rattle.dav_handler.specs.Player.{stage_of}
use Rattle.dav_serving.proofs.StepsArePlayed.{refused_first, request_is_played}
use Rattle.dav_serving.proofs.turns.request_turn.Goals as goal

pub returns-in-Err-clause-refused : goal.returns-in-Err-clause-refused
returns-in-Err-clause-refused g c = refused_first (stage_of c.args.player.now) c.turn.ensures.held c.turn.ensures.full _ _ _ _ c.in-Err.ensures.done

pub returns-clause-played : goal.returns-clause-played
returns-clause-played g c =
    (request_is_played (stage_of c.args.player.now) c.turn.ensures.held c.turn.ensures.full _ _ _ _ _ _ _ _ c.in-Ok.ensures.done c.purge-purged.ensures.done c.request.ensures.done).0

pub returns-clause-refused : goal.returns-clause-refused
returns-clause-refused g c =
    (request_is_played (stage_of c.args.player.now) c.turn.ensures.held c.turn.ensures.full _ _ _ _ _ _ _ _ c.in-Ok.ensures.done c.purge-purged.ensures.done c.request.ensures.done).1
