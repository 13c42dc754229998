use Rattle.std.proofs.Common.{arith, Ok}
use Rattle.dav_core.specs.Writing.{reading}
use Rattle.dav_memory.specs.Calls.{Opening}
use Rattle.dav_local.specs.Seeing.{OpensAt}
use Rattle.dav_local.specs.Calls.{place_of}
use Rattle.dav_local.proofs.Seen.{finds_unknown, open_recalled, open_saved, open_unknown, missed_counts, opened_counts, opened_recalled, opened_unknown}
use Rattle.dav_local.proofs.NearSeen.{opening_starved, seeks_recalled, seeks_starved, seeks_unknown, two_recalled, two_unknown}
use Rattle.dav_local.proofs.FromRoot.{costs_few, costs_then}
use Rattle.dav_local.proofs.MostSeen.{missed_keeps}
use Rattle.dav_local.proofs.fs.LocalFs.open_alike.Goals as goal

pub returns-in-Ok-Some-clause-done : goal.returns-in-Ok-Some-clause-done
returns-in-Ok-Some-clause-done g c = open_recalled _ _ _ c.in-Ok-Some.field-0-0-0 c.in-Ok-Some.handle c.in-Ok-Some.field-0 c.in-Ok-Some.ensures.done c.in-Ok-Some.field-0-is

pub returns-in-Ok-Some-clause-one : goal.returns-in-Ok-Some-clause-one
returns-in-Ok-Some-clause-one g c = opened_recalled _ _ c.in-Ok-Some.field-0-0-0 c.in-Ok-Some.handle c.in-Ok-Some.field-0 c.in-Ok-Some.ensures.one c.in-Ok-Some.field-0-is

pub returns-in-Ok-None-clause-done : goal.returns-in-Ok-None-clause-done
returns-in-Ok-None-clause-done g c = finds_unknown Opening _ _ _ _ (OpensAt reading) c.in-Ok-None.field-0 _ c.in-Ok-None.ensures.done c.in-Ok-None.field-0-is c.open_on_disk.ensures.done

pub returns-in-Ok-None-clause-one : goal.returns-in-Ok-None-clause-one
returns-in-Ok-None-clause-one g c = opened_unknown _ _ _ c.in-Ok-None.field-0 _ c.in-Ok-None.ensures.one c.in-Ok-None.field-0-is c.open_on_disk.ensures.one

pub returns-in-Ok-Some-clause-saved : goal.returns-in-Ok-Some-clause-saved
returns-in-Ok-Some-clause-saved g c = open_saved _ _ _ _ _ c.in-Ok-Some.ensures.once

pub returns-in-Ok-None-clause-saved : goal.returns-in-Ok-None-clause-saved
returns-in-Ok-None-clause-saved g c =
    open_unknown _ (place_of g.D.Disk.state g.R.Remember.state c.recall_open.new.self) (place_of g.D.Disk.state g.R.Remember.state c.open_on_disk.new.self) _ c.in-Ok-None.field-0 _ c.in-Ok-None.ensures.once
    c.in-Ok-None.field-0-is (missed_counts _ _ c.in-Ok-None.field-0 c.in-Ok-None.ensures.one c.in-Ok-None.field-0-is) (opened_counts _ _ _ c.open_on_disk.ensures.one)

pub returns-in-Ok-Some-clause-here : goal.returns-in-Ok-Some-clause-here
returns-in-Ok-Some-clause-here g c = two_recalled (place_of g.D.Disk.state g.R.Remember.state c.args.self.now) (place_of g.D.Disk.state g.R.Remember.state c.recall_open.new.self) (place_of g.D.Disk.state g.R.Remember.state c.recall_open.new.self) c.args.path.now c.in-Ok-Some.field-0 (c.in-Ok-Some.field-0-0-0, c.in-Ok-Some.handle) (Ok (record { handle = c.in-Ok-Some.handle })) c.in-Ok-Some.ensures.unasked c.in-Ok-Some.field-0-is

pub returns-in-Ok-None-clause-here : goal.returns-in-Ok-None-clause-here
returns-in-Ok-None-clause-here g c = two_unknown (place_of g.D.Disk.state g.R.Remember.state c.args.self.now) (place_of g.D.Disk.state g.R.Remember.state c.recall_open.new.self) (place_of g.D.Disk.state g.R.Remember.state c.open_on_disk.new.self) c.args.path.now c.in-Ok-None.field-0 _ c.in-Ok-None.ensures.unasked c.open_on_disk.ensures.here

pub returns-in-Ok-Some-clause-above : goal.returns-in-Ok-Some-clause-above
returns-in-Ok-Some-clause-above g c = seeks_recalled (OpensAt reading) 4 (place_of g.D.Disk.state g.R.Remember.state c.args.self.now) (place_of g.D.Disk.state g.R.Remember.state c.recall_open.new.self) (place_of g.D.Disk.state g.R.Remember.state c.recall_open.new.self) c.args.path.now c.in-Ok-Some.field-0 (c.in-Ok-Some.field-0-0-0, c.in-Ok-Some.handle) _ c.in-Ok-Some.ensures.unasked c.in-Ok-Some.field-0-is

pub returns-in-Ok-None-clause-above : goal.returns-in-Ok-None-clause-above
returns-in-Ok-None-clause-above g c = seeks_unknown (OpensAt reading) (place_of g.D.Disk.state g.R.Remember.state c.args.self.now) (place_of g.D.Disk.state g.R.Remember.state c.recall_open.new.self) (place_of g.D.Disk.state g.R.Remember.state c.open_on_disk.new.self) c.args.path.now c.in-Ok-None.field-0 _ c.in-Ok-None.ensures.unasked c.open_on_disk.ensures.above

pub returns-clause-above : goal.returns-clause-above
returns-clause-above g c = seeks_starved (OpensAt reading) 4 (place_of g.D.Disk.state g.R.Remember.state c.args.self.now) (place_of g.D.Disk.state g.R.Remember.state c.recall_open.new.self) c.args.path.now c.in-Err.error (omega arith) (opening_starved (place_of g.D.Disk.state g.R.Remember.state c.args.self.now) (place_of g.D.Disk.state g.R.Remember.state c.recall_open.new.self) c.args.path.now c.in-Err.error c.in-Err.ensures.once)

pub returns-in-Ok-Some-clause-most : goal.returns-in-Ok-Some-clause-most
returns-in-Ok-Some-clause-most g c = costs_few 1 5 (place_of g.D.Disk.state g.R.Remember.state c.args.self.now) (place_of g.D.Disk.state g.R.Remember.state c.recall_open.new.self) c.args.path.now (omega arith) c.in-Ok-Some.ensures.few

pub returns-in-Ok-None-clause-most : goal.returns-in-Ok-None-clause-most
returns-in-Ok-None-clause-most g c = costs_then 1 4 5 (place_of g.D.Disk.state g.R.Remember.state c.args.self.now) (place_of g.D.Disk.state g.R.Remember.state c.recall_open.new.self) (place_of g.D.Disk.state g.R.Remember.state c.open_on_disk.new.self) c.args.path.now (omega arith) c.in-Ok-None.ensures.few (missed_keeps _ _ c.in-Ok-None.field-0 c.in-Ok-None.ensures.one c.in-Ok-None.field-0-is) c.open_on_disk.ensures.most

pub returns-clause-most : goal.returns-clause-most
returns-clause-most g c = costs_few 1 5 (place_of g.D.Disk.state g.R.Remember.state c.args.self.now) (place_of g.D.Disk.state g.R.Remember.state c.recall_open.new.self) c.args.path.now (omega arith) c.in-Err.ensures.few
