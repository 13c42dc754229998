use Rattle.std.proofs.Common.{Ok, Err}
use Rattle.dav_handler.specs.Player.{stage_of}
use Rattle.dav_mirror.proofs.Coming.{came_ended, came_held}
use Rattle.dav_mirror.proofs.Standing.{abandoned_leaves, abandoned_still}
use Rattle.dav_mirror.proofs.play_peer.abandon.Goals as goal

pub returns-in-Ok-clause-still : goal.returns-in-Ok-clause-still
returns-in-Ok-clause-still g c = abandoned_still (stage_of c.args.player.now) (stage_of c.step.new.self) c.args.body (Ok c.in-Ok.field-0) c.in-Ok.ensures.done

pub returns-clause-still : goal.returns-clause-still
returns-clause-still g c = abandoned_still (stage_of c.args.player.now) (stage_of c.step.new.self) c.args.body (Err c.in-Err.error) c.in-Err.ensures.done

pub returns-in-Ok-clause-leaves : goal.returns-in-Ok-clause-leaves
returns-in-Ok-clause-leaves g c = abandoned_leaves (stage_of c.args.player.now) (stage_of c.step.new.self) c.args.body (Ok c.in-Ok.field-0) c.in-Ok.ensures.done

pub returns-clause-leaves : goal.returns-clause-leaves
returns-clause-leaves g c = abandoned_leaves (stage_of c.args.player.now) (stage_of c.step.new.self) c.args.body (Err c.in-Err.error) c.in-Err.ensures.done

pub returns-in-Ok-clause-ended : goal.returns-in-Ok-clause-ended
returns-in-Ok-clause-ended g c = λ s count by. came_ended s count (stage_of c.args.player.now) (stage_of c.step.new.self) c.args.body c.in-Ok.field-0 c.in-Ok.ensures.done by

pub returns-clause-held : goal.returns-clause-held
returns-clause-held g c = λ s count by. came_held s count (stage_of c.args.player.now) (stage_of c.step.new.self) c.args.body c.in-Err.error c.in-Err.ensures.done by
