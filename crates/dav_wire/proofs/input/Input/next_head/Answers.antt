use Rattle.std.proofs.Common.{ap, sym, rules, ◌∙◌, subst, arith, List, ℕ, ◌≤◌, length, drop}
use Rattle.http.specs.Request.{head_of}
use Rattle.dav_wire.specs.Reading.{Pending}
use Rattle.dav_wire.specs.Requests.{IsRequest}
use Rattle.dav_wire.specs.Heads.{IsRead}
use Rattle.httparse.specs.Grammar.{RequestHead}
use Rattle.dav_wire.proofs.Holding.{held_front, held_behind, held_len, finds_whole, whole_fits, finds_refused, finds_long, finds_more}
use Rattle.dav_wire.proofs.input.Input.next_head.Goals as goal

pub returns-then-len-self-clause-finds : goal.returns-then-len-self-clause-finds
returns-then-len-self-clause-finds c =
    let held = ap (λ (p : Pending). p.bytes) c.self.view_is in
    let front = held_front _ _ _ _ _ _ c.deref.ensures.value c.min-len.ensures held in
    let read = rw c.in-Ok-None.field-0-is at c.in-Ok-None.ensures in
    let size = held_len c.self.inside.buffer.items c.args.self.now.bytes c.self.inside.start c.self.inside.end held (omega arith) (omega arith) in
    (finds_long _ _ front (omega arith) read.0, held)

pub returns-in-Ok-Some-clause-finds : goal.returns-in-Ok-Some-clause-finds
returns-in-Ok-Some-clause-finds c =
    let held = ap (λ (p : Pending). p.bytes) c.self.view_is in
    let front = held_front _ _ _ _ _ _ c.deref.ensures.value c.min-len.ensures held in
    let read = (rw c.in-Ok-Some.field-0-is at c.in-Ok-Some.ensures).0 in
    let size = held_len c.self.inside.buffer.items c.args.self.now.bytes c.self.inside.start c.self.inside.end held (omega arith) (omega arith) in
    let fits = whole_fits _ _ _ _ front read in
    let behind = held_behind c.self.inside.buffer.items c.self.inside.start c.self.inside.end c.in-Ok-Some.head.len (omega arith) ∙ ap (drop c.in-Ok-Some.head.len) held in
    subst (λ (rest : List ℕ). (x : RequestHead) × IsRequest c.args.self.now.bytes x rest × IsRead x (head_of c.read_head.new.request)) (sym behind)
    (finds_whole _ _ _ _ front read)

pub returns-in-Ok-Some-clause-plain : goal.returns-in-Ok-Some-clause-plain
returns-in-Ok-Some-clause-plain c = λ same. (rw c.in-Ok-Some.field-0-is at c.in-Ok-Some.ensures).1 (search (rules, same))

pub returns-else-len-self-clause-finds : goal.returns-else-len-self-clause-finds
returns-else-len-self-clause-finds c =
    let held = ap (λ (p : Pending). p.bytes) c.self.view_is in
    let front = held_front _ _ _ _ _ _ c.deref.ensures.value c.min-len.ensures held in
    let read = rw c.in-Ok-None.field-0-is at c.in-Ok-None.ensures in
    let size = held_len c.self.inside.buffer.items c.args.self.now.bytes c.self.inside.start c.self.inside.end held (omega arith) (omega arith) in
    let short : length c.args.self.now.bytes ≤ 65536 = omega arith in
    let more = finds_more _ _ front short read.0 read.1 in
    (held, short, more.0, more.1)

pub returns-in-Err-Refused-clause-finds : goal.returns-in-Err-Refused-clause-finds
returns-in-Err-Refused-clause-finds c =
    let held = ap (λ (p : Pending). p.bytes) c.self.view_is in
    let front = held_front _ _ _ _ _ _ c.deref.ensures.value c.min-len.ensures held in
    let read = rw c.in-Err-Refused.field-0-is at c.in-Err-Refused.ensures in
    (finds_refused _ _ front read, held)
