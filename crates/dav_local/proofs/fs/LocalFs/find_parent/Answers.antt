use Rattle.std.proofs.Common.{arith}
use Rattle.std.proofs.lemmas.Bool.Decides.{nat_tests}
use Rattle.dav_local.proofs.Found.{parent_recalled, parent_root, parent_unknown}
use Rattle.dav_local.specs.Places.{place_of}
use Rattle.dav_local.proofs.NearFound.{dir_recalled, dir_root, dir_starved, dir_unknown}
use Rattle.dav_local.proofs.Counted.{few_more, few_then}
use Rattle.dav_local.proofs.fs.LocalFs.find_parent.Goals as goal

pub returns-then-is_empty-clause-done : goal.returns-then-is_empty-clause-done
returns-then-is_empty-clause-done g c = parent_root _ _ c.as_slice.result.now (grind (arith, nat_tests)) c.as_slice.ensures.value

pub returns-in-Ok-None-clause-done : goal.returns-in-Ok-None-clause-done
returns-in-Ok-None-clause-done g c = parent_unknown _ _ _ _ c.in-Ok-None.field-0 _ c.in-Ok-None.ensures.done c.in-Ok-None.field-0-is c.parent_on_disk.ensures.done

pub returns-in-Ok-Some-clause-done : goal.returns-in-Ok-Some-clause-done
returns-in-Ok-Some-clause-done g c = parent_recalled _ _ _ _ c.in-Ok-Some.field-0 c.in-Ok-Some.ensures.done c.in-Ok-Some.field-0-is

pub returns-then-is_empty-clause-near : goal.returns-then-is_empty-clause-near
returns-then-is_empty-clause-near g c = dir_root (place_of g.D.Disk.state g.R.Remember.state c.args.self.now) c.args.dir c.as_slice.result.now _ (grind (arith, nat_tests)) c.as_slice.ensures.value

pub returns-in-Ok-Some-clause-near : goal.returns-in-Ok-Some-clause-near
returns-in-Ok-Some-clause-near g c = dir_recalled (place_of g.D.Disk.state g.R.Remember.state c.args.self.now) (place_of g.D.Disk.state g.R.Remember.state c.recall.new.self) c.args.dir c.in-Ok-Some.found c.in-Ok-Some.field-0 c.in-Ok-Some.ensures.done c.in-Ok-Some.ensures.unasked c.in-Ok-Some.field-0-is

pub returns-in-Ok-None-clause-near : goal.returns-in-Ok-None-clause-near
returns-in-Ok-None-clause-near g c = dir_unknown (place_of g.D.Disk.state g.R.Remember.state c.args.self.now) (place_of g.D.Disk.state g.R.Remember.state c.recall.new.self) (place_of g.D.Disk.state g.R.Remember.state c.parent_on_disk.new.self) c.args.dir c.in-Ok-None.field-0 _ c.in-Ok-None.ensures.done c.in-Ok-None.ensures.unasked c.in-Ok-None.field-0-is c.parent_on_disk.ensures.done.keeps.keeps.counts c.parent_on_disk.ensures.near

pub returns-in-Err-clause-near : goal.returns-in-Err-clause-near
returns-in-Err-clause-near g c = dir_starved (place_of g.D.Disk.state g.R.Remember.state c.args.self.now) (place_of g.D.Disk.state g.R.Remember.state c.recall.new.self) c.args.dir c.in-Err.error c.in-Err.ensures.done

pub returns-in-Ok-Some-clause-few : goal.returns-in-Ok-Some-clause-few
returns-in-Ok-Some-clause-few g c = few_more 1 2 (g.D.Disk.state c.args.self.now.disk) (g.D.Disk.state c.recall.new.self.disk) (omega arith) c.in-Ok-Some.ensures.few

pub returns-in-Ok-None-clause-few : goal.returns-in-Ok-None-clause-few
returns-in-Ok-None-clause-few g c = few_then 1 1 (g.D.Disk.state c.args.self.now.disk) (g.D.Disk.state c.recall.new.self.disk) (g.D.Disk.state c.parent_on_disk.new.self.disk) c.in-Ok-None.ensures.few c.parent_on_disk.ensures.few

pub returns-in-Err-clause-few : goal.returns-in-Err-clause-few
returns-in-Err-clause-few g c = few_more 1 2 (g.D.Disk.state c.args.self.now.disk) (g.D.Disk.state c.recall.new.self.disk) (omega arith) c.in-Err.ensures.few
