use Rattle.std.proofs.Common.{refl, Ok, Err}
use Rattle.http.specs.Request.{head_of}
use Rattle.dav_config.proofs.Gated.{found_error}
use Rattle.dav_config.proofs.finding.find_at.Goals as goal

pub returns-in-Ok-clause-done : goal.returns-in-Ok-clause-done
returns-in-Ok-clause-done g c = record {
  given = Ok c.in-Ok.given;
  gives = record {
    framed = c.in-Ok.ensures.framed;
    sound = c.in-Ok.ensures.sound;
    heard = rw c.headers-fields.ensures at c.in-Ok.ensures.heard;
    right = rw c.headers-fields.ensures at c.in-Ok.ensures.right;
    asks = rw c.headers-fields.ensures at c.in-Ok.ensures.asks;
    bounded = rw c.headers-fields.ensures at c.in-Ok.ensures.bounded;
    leads = c.in-Ok.ensures.leads;
    life = c.in-Ok.ensures.life;
    most = c.in-Ok.ensures.most;
  };
  found = (refl, refl);
}

pub returns-in-Err-clause-done : goal.returns-in-Err-clause-done
returns-in-Err-clause-done g c = record {
  given = Err c.in-Err.error;
  gives = record {
    framed = rw c.headers-fields.ensures at c.in-Err.ensures.framed;
    sound = rw c.headers-fields.ensures at c.in-Err.ensures.sound;
    heard = rw c.headers-fields.ensures at c.in-Err.ensures.heard;
    right = rw c.headers-fields.ensures at c.in-Err.ensures.right;
    asks = rw c.headers-fields.ensures at c.in-Err.ensures.asks;
    bounded = rw c.headers-fields.ensures at c.in-Err.ensures.bounded;
    leads = c.in-Err.ensures.leads;
    life = c.in-Err.ensures.life;
    most = c.in-Err.ensures.most;
  };
  found = found_error (head_of c.args.asked.now.head.now).headers c.in-Err.error c.refuse.result (rw c.headers-fields.ensures at c.refuse.ensures.refused) c.refuse.ensures.memory;
}
