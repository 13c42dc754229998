use Rattle.dav_get.specs.BodySteps.{item_of}
use Rattle.dav_get.proofs.BodyBound.{step_fewer, step_no_more, step_same, step_held, step_right}
use Rattle.dav_get.proofs.body.GetBody.next_bytes.Goals as goal

pub returns-clause-done : goal.returns-clause-done
returns-clause-done g c = step_right g.F.DavFile.view (g.D.Disk.state c.args.disk.now) (g.D.Disk.state c.take.new.disk) c.args.self.now c.take.new.self (item_of c.take.result) c.requires c.take.ensures.done

pub returns-clause-held : goal.returns-clause-held
returns-clause-held g c = step_held g.F.DavFile.view (g.D.Disk.state c.args.disk.now) (g.D.Disk.state c.take.new.disk) c.args.self.now c.take.new.self (item_of c.take.result) c.take.ensures.done

pub returns-clause-fewer : goal.returns-clause-fewer
returns-clause-fewer g c = step_fewer g.F.DavFile.view (g.D.Disk.state c.args.disk.now) (g.D.Disk.state c.take.new.disk) c.args.self.now c.take.new.self (item_of c.take.result) c.take.ensures.done

pub returns-clause-no_more : goal.returns-clause-no_more
returns-clause-no_more g c = step_no_more g.F.DavFile.view (g.D.Disk.state c.args.disk.now) (g.D.Disk.state c.take.new.disk) c.args.self.now c.take.new.self (item_of c.take.result) c.take.ensures.done

pub returns-clause-same : goal.returns-clause-same
returns-clause-same g c = step_same g.F.DavFile.view (g.D.Disk.state c.args.disk.now) (g.D.Disk.state c.take.new.disk) c.args.self.now c.take.new.self (item_of c.take.result) c.take.ensures.done
