use Rattle.std.proofs.Common.{rules, sym, IfOk, OnErr}
use Rattle.dav_serve.proofs.OverDisks.{asks_over, over_the_disk}
use Rattle.dav_serving.specs.Serving.{EndsBy, ServedPartly}
use Rattle.dav_serving.proofs.RunEnds.{none_partly}
use Rattle.dav_serve.proofs.serving.serve.Goals as goal

pub returns-in-Err-clause-memory : goal.returns-in-Err-clause-memory
returns-in-Err-clause-memory g c = none_partly _ _

pub serve_requests-ended-requires : goal.serve_requests-ended-requires
serve_requests-ended-requires g c = record {
  waits = asks_over _ _ _ _ _ _ (sym (c.player_over-player.ensures.stage c.in-Ok.ensures)) c.requires.waits;
}

pub returns-clause-ends : goal.returns-clause-ends
returns-clause-ends g c =
    over_the_disk (λ setup before after. IfOk c.serve_requests-ended.result (EndsBy setup before after)) _ _ _ _ _ _ _ _ _ (c.player_over-player.ensures.stage c.in-Ok.ensures) (search rules) c.serve_requests-ended.ensures.ends

pub returns-clause-memory : goal.returns-clause-memory
returns-clause-memory g c =
    over_the_disk (λ setup before after. OnErr c.serve_requests-ended.result (ServedPartly setup before after)) _ _ _ _ _ _ _ _ _ (c.player_over-player.ensures.stage c.in-Ok.ensures) (search rules) c.serve_requests-ended.ensures.memory
