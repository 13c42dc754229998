use Rattle.dav_local.proofs.Found.{parent_stands, parent_starved}
use Rattle.dav_local.specs.Places.{place_of}
use Rattle.dav_local.proofs.NearFound.{here_refused, here_remembered, here_starved}
use Rattle.dav_local.proofs.MostSeen.{looked_few}
use Rattle.std.proofs.Common.{sym, subst}
use Rattle.dav_local.specs.Near.{CallsAtMost}
use Rattle.dav_local.proofs.fs.LocalFs.parent_on_disk.Goals as goal

pub returns-in-Ok-remember-clause-done : goal.returns-in-Ok-remember-clause-done
returns-in-Ok-remember-clause-done g c = parent_stands _ _ _ _ c.in-Ok.field-0 c.in-Ok.ensures.done c.in-Ok.ensures.keeps c.in-Ok-remember.ensures.done

pub returns-in-Ok-clause-done : goal.returns-in-Ok-clause-done
returns-in-Ok-clause-done g c = parent_starved _ _ _ _ c.in-Ok.field-0 _ c.in-Ok.ensures.done c.in-Ok.ensures.keeps c.in-Err-remember.ensures.done

pub returns-in-Ok-remember-clause-near : goal.returns-in-Ok-remember-clause-near
returns-in-Ok-remember-clause-near g c = here_remembered (place_of g.D.Disk.state g.R.Remember.state c.args.self.now) (place_of g.D.Disk.state g.R.Remember.state c.remember.new.self) (g.D.Disk.state c.look.new.disk) c.args.dir c.in-Ok.field-0 c.in-Ok.ensures.done c.in-Ok-remember.ensures.disk

pub returns-in-Ok-clause-near : goal.returns-in-Ok-clause-near
returns-in-Ok-clause-near g c = here_starved (place_of g.D.Disk.state g.R.Remember.state c.args.self.now) (place_of g.D.Disk.state g.R.Remember.state c.remember.new.self) (g.D.Disk.state c.look.new.disk) c.args.dir c.in-Ok.field-0 _ c.in-Ok.ensures.done c.in-Err-remember.ensures.done c.in-Err-remember.ensures.disk

pub returns-in-Err-Failed-clause-near : goal.returns-in-Err-Failed-clause-near
returns-in-Err-Failed-clause-near g c = here_refused (place_of g.D.Disk.state g.R.Remember.state c.args.self.now) (g.D.Disk.state c.look.new.disk) c.args.dir c.in-Err-Failed.field-0 _ c.in-Err-Failed.ensures.done

pub returns-in-Ok-remember-clause-few : goal.returns-in-Ok-remember-clause-few
returns-in-Ok-remember-clause-few g c = subst (λ d. CallsAtMost 1 (g.D.Disk.state c.args.self.now.disk) d) (sym c.in-Ok-remember.ensures.disk) (looked_few _ _ _ _ c.in-Ok.ensures.done)

pub returns-in-Ok-clause-few : goal.returns-in-Ok-clause-few
returns-in-Ok-clause-few g c = subst (λ d. CallsAtMost 1 (g.D.Disk.state c.args.self.now.disk) d) (sym c.in-Err-remember.ensures.disk) (looked_few _ _ _ _ c.in-Ok.ensures.done)

pub returns-in-Err-Failed-clause-few : goal.returns-in-Err-Failed-clause-few
returns-in-Err-Failed-clause-few g c = looked_few _ _ _ _ c.in-Err-Failed.ensures.done
