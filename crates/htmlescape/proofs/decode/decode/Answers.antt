use Rattle.std.proofs.Common.{◌≡◌, refl, arith}
use Rattle.htmlescape.proofs.DecodeLoop.{going_on, writer_fails, fault_met, bytes_met, reader_fails, limit_met, input_ends}
use Rattle.htmlescape.proofs.decode.decode.Goals as goal

pub loop-count-preserved : goal.loop-count-preserved
loop-count-preserved g c =
    let i = c.loop-count.invariant in
    going_on _ _ _ _ _ _ _ _ _ _ _ i (rw c.in-Some-Ok.field-0-is at c.in-Some-Ok.ensures) (c.in-Ok.ensures.took i.text i.value i.running) c.in-Ok-put_found.ensures.appends

pub returns-in-Err-put_found : goal.returns-in-Err-put_found
returns-in-Err-put_found g c =
    let i = c.loop-count.invariant in
    writer_fails _ _ _ _ _ _ _ _ _ _ _ _ _ i (rw c.in-Some-Ok.field-0-is at c.in-Some-Ok.ensures) (c.in-Ok.ensures.took i.text i.value i.running) c.in-Err-put_found.ensures.appends (c.in-Err-put_found.ensures.some refl) c.loop-count-test.true

pub returns-in-Err : goal.returns-in-Err
returns-in-Err g c =
    let i = c.loop-count.invariant in
    fault_met _ _ _ _ _ _ _ c.take.new.self _ _ _ i (rw c.in-Some-Ok.field-0-is at c.in-Some-Ok.ensures) (c.in-Err.ensures.took i.text i.value i.running) c.loop-count-test.true

pub returns-in-Some-Err-NotUtf8 : goal.returns-in-Some-Err-NotUtf8
returns-in-Some-Err-NotUtf8 g c = bytes_met _ _ _ _ _ _ _ _ c.loop-count.invariant (rw c.in-Some-Err-NotUtf8.field-0-0-is at (rw c.in-Some-Err-NotUtf8.field-0-is at c.in-Some-Err-NotUtf8.ensures)) c.loop-count-test.true

pub returns-in-Some-Err-Other : goal.returns-in-Some-Err-Other
returns-in-Some-Err-Other g c = reader_fails _ _ _ _ _ _ _ _ _ c.loop-count.invariant (rw c.in-Some-Err-Other.field-0-0-is at (rw c.in-Some-Err-Other.field-0-is at c.in-Some-Err-Other.ensures)) c.loop-count-test.true

pub returns-in-None : goal.returns-in-None
returns-in-None g c = let i = c.loop-count.invariant in input_ends _ _ _ _ _ _ _ _ _ i c.in-None.ensures (c.end.ensures i.text i.value i.running) c.loop-count-test.true

pub returns : goal.returns
returns g c = let e : c.loop-count.count ≡ c.args.limit = omega arith in limit_met _ _ _ _ _ _ _ c.loop-count.invariant e
