use Rattle.std.proofs.Common.{refl, ap}
use Rattle.dav_local.proofs.Recalling.{remembers_at, remembers_starved}
use Rattle.dav_local.proofs.fs.LocalFs.remember.Goals as goal

pub returns-in-Ok-clause-done : goal.returns-in-Ok-clause-done
returns-in-Ok-clause-done g c = remembers_at _ _ _ c.args.self.now.moment refl refl refl refl c.in-Ok.ensures.done

pub returns-in-Err-clause-done : goal.returns-in-Err-clause-done
returns-in-Err-clause-done g c = remembers_starved _ _ _ refl refl (ap g.R.Remember.state c.in-Err.ensures.err) refl
