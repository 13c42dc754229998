use Rattle.dav_local.specs.Places.{place_of}
use Rattle.dav_local.specs.Resolving.{found_at}
use Rattle.dav_local.proofs.Found.{keeps_above, keeps_walked}
use Rattle.dav_local.proofs.Memories.{remembers_rows}
use Rattle.dav_local.proofs.Resolved.{resolves_plain, resolves_walked}
use Rattle.dav_local.proofs.fs.LocalFs.found.Goals as goal

pub returns-then-self-clause-done : goal.returns-then-self-clause-done
returns-then-self-clause-done g c = resolves_walked _ _ _ _ (λ w told. g.met.D.Disk.world c.args.self.now.disk w told) c.in_default.is c.if-self.true c.find_alike.ensures.done

pub returns-then-self-clause-saved : goal.returns-then-self-clause-saved
returns-then-self-clause-saved g c = λ r stands folds alone. c.find_alike.ensures.saved r stands

pub returns-then-self-clause-kept : goal.returns-then-self-clause-kept
returns-then-self-clause-kept g c = keeps_walked _ _ _ _ (λ w told. g.met.D.Disk.world c.args.self.now.disk w told) c.find_alike.ensures.done

pub returns-then-self-clause-rows : goal.returns-then-self-clause-rows
returns-then-self-clause-rows g c =
    remembers_rows (place_of g.D.Disk.state g.R.Remember.state c.args.self.now) (place_of g.D.Disk.state g.R.Remember.state c.find_alike.new.self)
    (λ w told. (g.met.D.Disk.world c.args.self.now.disk w told).tree) c.find_alike.ensures.done.rows

pub returns-clause-done : goal.returns-clause-done
returns-clause-done g c = resolves_plain _ _ c.in_default.is c.if-self.false

pub returns-then-self-clause-above : goal.returns-then-self-clause-above
returns-then-self-clause-above g c = keeps_above (place_of g.D.Disk.state g.R.Remember.state c.args.self.now) (place_of g.D.Disk.state g.R.Remember.state c.find_alike.new.self) c.args.path.now (found_at c.args.path.now c.find_alike.result) (λ w told. g.met.D.Disk.world c.args.self.now.disk w told) c.find_alike.ensures.above
