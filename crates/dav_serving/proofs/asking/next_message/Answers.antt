use Rattle.std.proofs.Common.{ℕ, [], rules, sym, ◌∙◌}
use Rattle.http.specs.Request.{head_of}
use Rattle.dav_wire.specs.declared.next.BodyRead.{BodyRead}
use Rattle.dav_serving.specs.declared.asking.Next.{Next}
use Rattle.dav_serving.proofs.NextIsRead.{begins, body_fails, body_read, body_reads, body_wants, fill_reads, head_fails, head_more, head_over, head_refused, head_starved, reads_then, sends_not, sends_then, told_plain, wants}
use Rattle.dav_serving.proofs.asking.next_message.Goals as goal

pub read_body-requires : goal.read_body-requires
read_body-requires g c = record {
  ready = λ passed kept left written later on unfinished none pushes.
      let b = begins c.in-Ok-Whole.plain (rw c.in-Ok-Whole.field-0-is at c.in-Ok-Whole.ensures.finds) c.in-Ok-Whole.ensures.taken c.announced_where-announced.ensures in
      c.heads.invariant.may left written
      (c.requires.ready _ kept left written later (body_reads b c.heads.invariant.reads on) (body_wants b on unfinished) none (sends_then c.heads.invariant.sent pushes));
}

pub returns-in-Ok-clause-reads : goal.returns-in-Ok-clause-reads
returns-in-Ok-clause-reads g c = body_read c.in-Ok-Whole.plain c.in-Ok.read c.next_by.result c.next_by.new.request
    (rw c.next_by.ensures.head (begins c.in-Ok-Whole.plain (rw c.in-Ok-Whole.field-0-is at c.in-Ok-Whole.ensures.finds) c.in-Ok-Whole.ensures.taken c.announced_where-announced.ensures))
    c.heads.invariant.reads c.in-Ok.ensures.reads c.next_by.ensures.next c.next_by.ensures.body

pub returns-in-Ok-clause-plain : goal.returns-in-Ok-clause-plain
returns-in-Ok-clause-plain g c = λ same.
    rw c.next_by.ensures.head (told_plain _ c.in-Ok.read (λ plain. c.in-Ok-Whole.ensures.plain (search (rules, plain))) (sym c.next_by.ensures.next ∙ search (rules, same)))

pub returns-in-Ok-clause-sends : goal.returns-in-Ok-clause-sends
returns-in-Ok-clause-sends g c = sends_then c.heads.invariant.sent c.in-Ok.ensures.sends

pub returns-in-Err-read_body-clause-reads : goal.returns-in-Err-read_body-clause-reads
returns-in-Err-read_body-clause-reads g c = body_fails c.in-Err-read_body.error _
    (begins c.in-Ok-Whole.plain (rw c.in-Ok-Whole.field-0-is at c.in-Ok-Whole.ensures.finds) c.in-Ok-Whole.ensures.taken c.announced_where-announced.ensures)
    c.heads.invariant.reads c.in-Err-read_body.ensures.reads

pub returns-in-Err-read_body-clause-sends : goal.returns-in-Err-read_body-clause-sends
returns-in-Err-read_body-clause-sends g c = sends_not BodyRead Next c.in-Err-read_body.error c.heads.invariant.sent c.in-Err-read_body.ensures.sends

pub returns-in-Ok-Refused-clause-reads : goal.returns-in-Ok-Refused-clause-reads
returns-in-Ok-Refused-clause-reads g c = head_refused (head_of c.next_head.new.request) _ c.heads.invariant.reads (rw c.in-Ok-Refused.field-0-is at c.in-Ok-Refused.ensures.finds) c.in-Ok-Refused.ensures.taken

pub fill_flushing-requires-clause-ready : goal.fill_flushing-requires-clause-ready
fill_flushing-requires-clause-ready g c = λ later written none pushes.
    let found = rw c.in-Ok-More.field-0-is at c.in-Ok-More.ensures.finds in
    c.heads.invariant.may _ written
    (c.requires.ready _ c.next_head.new.self _ written later (head_more (head_of c.next_head.new.request) c.heads.invariant.reads found c.in-Ok-More.ensures.taken)
    (wants _ _ found.0 found.1 found.2 found.3) none (sends_then c.heads.invariant.sent pushes))

pub returns-then-count-eq0-clause-reads : goal.returns-then-count-eq0-clause-reads
returns-then-count-eq0-clause-reads g c = head_over (head_of c.next_head.new.request) c.in-Ok-fill_flushing.count c.at_end.result _ c.heads.invariant.reads
    (rw c.in-Ok-More.field-0-is at c.in-Ok-More.ensures.finds) c.in-Ok-More.ensures.taken c.in-Ok-fill_flushing.ensures.fills c.if-count-eq0.true c.at_end.ensures

pub heads-preserved : goal.heads-preserved
heads-preserved g c =
    let found = rw c.in-Ok-More.field-0-is at c.in-Ok-More.ensures.finds in
    record {
      reads = reads_then [] c.heads.invariant.reads (sym found.0) c.in-Ok-More.ensures.taken (fill_reads c.in-Ok-fill_flushing.ensures.fills);
      sent = sends_then c.heads.invariant.sent c.in-Ok-fill_flushing.ensures.sends;
      may = λ left written may. c.in-Ok-fill_flushing.ensures.stays left written (c.heads.invariant.may left written may);
    }

pub returns-in-Err-fill_flushing-clause-reads : goal.returns-in-Err-fill_flushing-clause-reads
returns-in-Err-fill_flushing-clause-reads g c = head_fails (head_of c.next_head.new.request) c.in-Err-fill_flushing.error _ c.heads.invariant.reads
    (rw c.in-Ok-More.field-0-is at c.in-Ok-More.ensures.finds) c.in-Ok-More.ensures.taken c.in-Err-fill_flushing.ensures.fills

pub returns-in-Err-fill_flushing-clause-sends : goal.returns-in-Err-fill_flushing-clause-sends
returns-in-Err-fill_flushing-clause-sends g c = sends_not ℕ Next c.in-Err-fill_flushing.error c.heads.invariant.sent c.in-Err-fill_flushing.ensures.sends

pub returns-in-Err-clause-reads : goal.returns-in-Err-clause-reads
returns-in-Err-clause-reads g c = head_starved _ c.heads.invariant.reads c.in-Err.ensures.finds c.in-Err.ensures.taken
