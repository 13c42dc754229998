use Rattle.std.proofs.Common.{◌≡◌, ℕ, List, ◌++◌, codes, ap, ◌∙◌, append_assoc}
use Rattle.dav_model.specs.Head.{span_text}
use Rattle.dav_get.proofs.parts.part_head.Goals as goal

regroup : (a b c d e : List ℕ) → (((a ++ b) ++ c) ++ d) ++ e ≡ a ++ (b ++ (c ++ (d ++ e)))
regroup a b c d e = append_assoc ((a ++ b) ++ c) d e ∙ append_assoc (a ++ b) c (d ++ e) ∙ append_assoc a b (c ++ (d ++ e))

pub returns-clause-text : goal.returns-clause-text
returns-clause-text c =
    let span = span_text c.args.len c.args.part.now in
    let kind = c.args.kind.now in
    c.new.ensures ∙ c.in_ok-extend_from_slice-3.ensures.items
    ∙ ap (λ text. text ++ codes "\n\n") (c.in_ok-extend_from_slice-2.ensures.items ∙ ap (λ type. c.extend_from_slice.new.self.items ++ type) c.as_bytes.ensures.value)
    ∙ ap (λ text. (text ++ kind) ++ codes "\n\n")
    (c.in_ok-extend_from_slice.ensures.items ∙ ap (λ text. text ++ codes "\nContent-Type: ") (c.in_ok-push_span.ensures ∙ ap (λ text. text ++ span) c.in_ok-text.ensures.items))
    ∙ regroup (codes "\n--BOUNDARY\nContent-Range: bytes ") span (codes "\nContent-Type: ") kind (codes "\n\n")
