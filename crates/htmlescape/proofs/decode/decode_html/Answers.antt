use Rattle.std.proofs.Common.{refl, chars, string_bytes, ◌∙◌}
use Rattle.htmlescape.specs.Decoding.{IsDecoded}
use Rattle.htmlescape.proofs.InMemory.{decoded_utf8, is_decoded, is_fault, ok_text, ok_fault, err_text, err_fault, fault_kind}
use Rattle.htmlescape.proofs.decode.decode_html.Goals as goal

pub into_text-requires : goal.into_text-requires
into_text-requires c = let d = c.in-Ok.ensures in decoded_utf8 _ _ d.value c.new-text.ensures.empty d.written d.characters

pub returns-in-Ok-clause-ok : goal.returns-in-Ok-clause-ok
returns-in-Ok-clause-ok c =
    let d = c.in-Ok.ensures in
    let whole : IsDecoded (chars c.args.s.now) (string_bytes c.into_text.result) =
    is_decoded _ c.args.s.now _ _ d.value _ c.utf8.s c.chars.ensures.rest refl c.new-text.ensures.empty (c.into_text.ensures ∙ d.written) d.decodes in
    whole

pub returns-in-Ok-clause-text : goal.returns-in-Ok-clause-text
returns-in-Ok-clause-text c = λ value t.
    let d = c.in-Ok.ensures in
    ok_text _ _ value (is_decoded _ c.args.s.now _ _ d.value _ c.utf8.s c.chars.ensures.rest refl c.new-text.ensures.empty (c.into_text.ensures ∙ d.written) d.decodes) t

pub returns-in-Ok-clause-fault : goal.returns-in-Ok-clause-fault
returns-in-Ok-clause-fault c = λ kind position value f.
    let d = c.in-Ok.ensures in
    ok_fault _ _ value kind position (is_decoded _ c.args.s.now _ _ d.value _ c.utf8.s c.chars.ensures.rest refl c.new-text.ensures.empty (c.into_text.ensures ∙ d.written) d.decodes) f

pub returns-in-Err-clause-err : goal.returns-in-Err-clause-err
returns-in-Err-clause-err c =
    let d = c.in-Err.ensures in
    is_fault _ c.args.s.now d.value _ c.in-Err.fault _ c.utf8.s c.chars.ensures.rest refl c.memory_fault.ensures.position c.memory_fault.ensures.kind d.decodes

pub returns-in-Err-clause-text : goal.returns-in-Err-clause-text
returns-in-Err-clause-text c = λ value t.
    let d = c.in-Err.ensures in
    err_text _ value _ (is_fault _ c.args.s.now d.value _ c.in-Err.fault _ c.utf8.s c.chars.ensures.rest refl c.memory_fault.ensures.position c.memory_fault.ensures.kind d.decodes) t

pub returns-in-Err-clause-fault : goal.returns-in-Err-clause-fault
returns-in-Err-clause-fault c = λ kind position value f.
    let d = c.in-Err.ensures in
    err_fault _ value kind position _ (is_fault _ c.args.s.now d.value _ c.in-Err.fault _ c.utf8.s c.chars.ensures.rest refl c.memory_fault.ensures.position c.memory_fault.ensures.kind d.decodes) f

pub returns-in-Err-clause-kind : goal.returns-in-Err-clause-kind
returns-in-Err-clause-kind c =
    let d = c.in-Err.ensures in
    fault_kind _ _ (is_fault _ c.args.s.now d.value _ c.in-Err.fault _ c.utf8.s c.chars.ensures.rest refl c.memory_fault.ensures.position c.memory_fault.ensures.kind d.decodes)
