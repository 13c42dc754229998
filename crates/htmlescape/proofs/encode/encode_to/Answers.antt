use Rattle.std.proofs.Common.{◌≤◌, ◌+◌, [], length, ◌++◌, arith, take, drop, ◌∙◌, ap}
use Rattle.htmlescape.specs.Escapes.{escape_text}
use Rattle.dav_io.proofs.AppendingLemmas.{appends_none, appends_then}
use Rattle.htmlescape.proofs.Encoding.{begun, stays, replaced, refused, last}
use Rattle.htmlescape.proofs.encode.encode_to.Goals as goal

pub loop-c-init : goal.loop-c-init
loop-c-init g c = ([], appends_none _, begun _ _ _ _ c.utf8.s c.as_bytes-rest.ensures.value c.chars-left.ensures.rest, let l = c.as_bytes-rest.ensures.len in omega arith)

pub overflow_add-run : goal.overflow_add-run
overflow_add-run g c =
    let i = c.loop-c.invariant in
    let more = stays _ _ _ _ _ _ _ _ _ i.2 c.in-Some.ensures.steps.0 c.in-None.ensures c.len_utf8-run.ensures.len in
    let within : c.loop-c.run + c.len_utf8-run.result ≤ length c.loop-c.rest.now = more.within in
    let short = i.3 in
    omega (arith, c.as_bytes-rest.ensures.len)

pub loop-c-preserved-in-None : goal.loop-c-preserved-in-None
loop-c-preserved-in-None g c =
    let i = c.loop-c.invariant in (i.0, i.1, stays _ _ _ _ _ _ _ _ _ i.2 c.in-Some.ensures.steps.0 c.in-None.ensures c.len_utf8-run.ensures.len, i.3)

pub returns-in-Err : goal.returns-in-Err
returns-in-Err g c =
    let i = c.loop-c.invariant in
    let front = c.split_at.ensures.front in
    refused _ _ _ _ _ _ _ i.0 _ _ _ _ _ i.2 c.in-Some.ensures.steps.0 c.in-Some-escape.ensures i.1 (rw front at c.in-Err.ensures)

pub loop-c-preserved : goal.loop-c-preserved
loop-c-preserved g c =
    let i = c.loop-c.invariant in
    let front = c.split_at.ensures.front in
    let more = replaced _ _ _ _ _ _ _ _ i.0 _ i.2 c.in-Some.ensures.steps.0 c.in-Some-escape.ensures c.len_utf8.ensures.len in
    let behind = c.split_at-in-Some-escape.ensures.back ∙ ap (drop c.len_utf8.result) c.split_at.ensures.back in (
      i.0 ++ (take c.loop-c.run c.loop-c.rest.now ++ escape_text c.in-Some-escape.escape),
      appends_then _ _ _ _ _ i.1 (rw front at c.in-Ok.ensures),
      rw behind more,
      (let short = i.3 in omega (arith, c.split_at-in-Some-escape.ensures.back_len, c.split_at.ensures.back_len)),
    )

pub returns : goal.returns
returns g c = let i = c.loop-c.invariant in last _ _ _ _ _ i.0 _ _ _ _ i.2 c.in_default.ensures.steps.0.0 i.1 c.put_all.ensures
