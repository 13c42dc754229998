use Rattle.dav_local.proofs.Found.{takes_forgotten, takes_found, takes_next}
use Rattle.dav_local.proofs.fs.LocalFs.take_member.Goals as goal

pub returns-in-Ok-clause-done : goal.returns-in-Ok-clause-done
returns-in-Ok-clause-done g c =
    takes_found _ _ _ _ _ _ c.in-Ok-Some.field-0 (λ w told. g.met.D.Disk.world c.args.self.now.disk w told) c.in-Ok-Some.ensures.done c.in-Ok-Some.field-0-is c.in-Ok.ensures.done

pub returns-in-Err-remember-clause-done : goal.returns-in-Err-remember-clause-done
returns-in-Err-remember-clause-done g c =
    takes_forgotten _ _ _ _ _ c.in-Ok-Some.at c.in-Ok-Some.field-0 _ (λ w told. g.met.D.Disk.world c.args.self.now.disk w told) c.in-Ok-Some.ensures.done c.in-Ok-Some.field-0-is
    c.in-Err-remember.ensures.done

pub returns-in-Ok-clause-above : goal.returns-in-Ok-clause-above
returns-in-Ok-clause-above g c = λ first. takes_next _ _ _ _ _ _ c.in-Ok-Some.field-0 c.in-Ok-Some.ensures.done c.in-Ok-Some.field-0-is c.in-Ok.ensures.done first
