use Rattle.dav_body.specs.Bodies.{MayPoll, BodyGives, body_tells, body_most}
use Rattle.dav_body.proofs.Joining.{IsStill, Taken}
use Rattle.dav_body.proofs.collecting.collect.Given as goal

abbrev pub invariant-loop-piece : goal.invariant-loop-piece
invariant-loop-piece g l = record {
  may : MayPoll g.S.Steps.may_resume l.body.inner l.with;
  taken : Taken (BodyGives g.S.Steps.gives g.S.Steps.ends_at) l.initial.body.inner l.initial.with l.joined l.body.inner l.with;
  still : IsStill (body_tells g.S.Steps.tells l.initial.body.inner l.initial.with) l.joined (body_tells g.S.Steps.tells l.body.inner l.with);
}

abbrev pub decreases-loop-piece : goal.decreases-loop-piece
decreases-loop-piece g l = body_most g.S.Steps.most l.body.inner
