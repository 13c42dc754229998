use Rattle.std.proofs.Common.{[], append-nil, sym}
use Rattle.dav_wire.proofs.BodyProgress.{begins_reading, is_refused, wants, is_ended, is_stopped, fills_more, sends_error}
use Rattle.dav_wire.proofs.Pushing.{holds, pushes_then}
use Rattle.dav_wire.proofs.body.read_on.Goals as goal

pub bytes-init : goal.bytes-init
bytes-init g c = record {
  progress = begins_reading c.args.announced _ _ c.in-At.place _ c.requires.empty c.in-At.ensures;
  sends = holds _ _ [] _ (sym (append-nil c.args.output.now));
  may = λ left written may. may;
}

pub returns-in-Refused-halt-clause-reads : goal.returns-in-Refused-halt-clause-reads
returns-in-Refused-halt-clause-reads g c =
    is_refused c.pass.new.self c.pending.result.now c.advance.new.body.items c.in-Ok.stepped.used c.in-Ok.stepped.halt c.in-Refused-halt.flaw c.bytes.invariant.progress
    c.in-Refused-halt.is c.pending.ensures c.in-Ok.ensures.does c.pass.ensures.bytes c.pass.ensures.taken

pub fill_flushing-requires-clause-ready : goal.fill_flushing-requires-clause-ready
fill_flushing-requires-clause-ready g c = λ later written none pushes.
    let both = wants c.pass.new.self c.pending.result.now c.advance.new.body.items c.in-Ok.stepped.used c.in-Ok.stepped.halt c.in-Wanting.to c.bytes.invariant.progress
    c.in-Wanting.is c.pending.ensures c.in-Ok.ensures.does c.pass.ensures.bytes c.pass.ensures.taken in
    c.bytes.invariant.may _ _
    (c.requires.ready both.0.passed c.pass.new.self _ written later both.0.on both.0.unfinished none
    (pushes_then _ _ _ _ [] _ [] _ _ c.bytes.invariant.sends pushes))

pub returns-then-count-eq0-clause-reads : goal.returns-then-count-eq0-clause-reads
returns-then-count-eq0-clause-reads g c =
    let both = wants c.pass.new.self c.pending.result.now c.advance.new.body.items c.in-Ok.stepped.used c.in-Ok.stepped.halt c.in-Wanting.to c.bytes.invariant.progress
    c.in-Wanting.is c.pending.ensures c.in-Ok.ensures.does c.pass.ensures.bytes c.pass.ensures.taken in
    is_ended c.fill_flushing.new.input c.in-Ok-fill_flushing.count c.if-count-eq0.true both.0 c.in-Ok-fill_flushing.ensures.fills

pub bytes-preserved : goal.bytes-preserved
bytes-preserved g c =
    let both = wants c.pass.new.self c.pending.result.now c.advance.new.body.items c.in-Ok.stepped.used c.in-Ok.stepped.halt c.in-Wanting.to c.bytes.invariant.progress
    c.in-Wanting.is c.pending.ensures c.in-Ok.ensures.does c.pass.ensures.bytes c.pass.ensures.taken in
    record {
      progress = fills_more c.fill_flushing.new.input c.in-Ok-fill_flushing.count both.1 c.in-Ok-fill_flushing.ensures.fills;
      sends = pushes_then _ _ _ _ [] _ [] _ _ c.bytes.invariant.sends c.in-Ok-fill_flushing.ensures.sends;
      may = λ left written may. c.in-Ok-fill_flushing.ensures.stays left written (c.bytes.invariant.may left written may);
    }

pub returns-in-Err-fill_flushing-clause-reads : goal.returns-in-Err-fill_flushing-clause-reads
returns-in-Err-fill_flushing-clause-reads g c =
    let both = wants c.pass.new.self c.pending.result.now c.advance.new.body.items c.in-Ok.stepped.used c.in-Ok.stepped.halt c.in-Wanting.to c.bytes.invariant.progress
    c.in-Wanting.is c.pending.ensures c.in-Ok.ensures.does c.pass.ensures.bytes c.pass.ensures.taken in
    is_stopped c.fill_flushing.new.input c.in-Err-fill_flushing.error both.0 c.in-Err-fill_flushing.ensures.fills

pub returns-in-Err-fill_flushing-clause-sends : goal.returns-in-Err-fill_flushing-clause-sends
returns-in-Err-fill_flushing-clause-sends g c =
    sends_error _ _ _ _ _ _ c.in-Err-fill_flushing.error c.bytes.invariant.sends c.in-Err-fill_flushing.ensures.sends
