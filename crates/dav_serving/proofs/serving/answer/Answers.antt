use Rattle.std.proofs.Common.{refl}
use Rattle.dav_serving.proofs.AnswersByPlayers.{answered, unanswered}
use Rattle.dav_serving.proofs.serving.answer.Goals as goal

pub returns-clause-ends : goal.returns-clause-ends
returns-clause-ends g c =
    answered _ _ _ _ _ c.exchange-ended.result (record { heads = refl; body_is = refl; asks = c.manner_of-manner.ensures.closing })
    c.renew.ensures.stage c.exchange-ended.ensures.ends

pub returns-clause-memory : goal.returns-clause-memory
returns-clause-memory g c =
    unanswered _ _ _ _ _ _ c.exchange-ended.result (record { heads = refl; body_is = refl; asks = c.manner_of-manner.ensures.closing })
    c.renew.ensures.stage c.exchange-ended.ensures.memory
