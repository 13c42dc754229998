use Rattle.std.proofs.Common.{◌++◌, ◌∷◌, drop, ap, sym, ◌∙◌, rules, ⊎_elim}
use Rattle.dav_core.specs.Info.{hex, tag_at}
use Rattle.dav_core.specs.Tags.{quoted}
use Rattle.dav_core.proofs.Hex.{none_behind, two_quoted, three_quoted}
use Rattle.dav_core.proofs.tag.put_tag.Goals.{in-File, in-Dir}
use Rattle.dav_core.proofs.tag.put_tag.Goals as goal

pub returns-clause-tag : goal.returns-clause-tag
returns-clause-tag c =
    let number = c.args.meta.now.number in
    let len = c.args.meta.now.len in
    let time = c.args.time in
    let none = none_behind 52 c.args.into.now (search rules) in
    let last = c.put_part-at.ensures.part ∙ ap (λ n. 45 ∷ (hex n ++ drop c.put_byte-at.result c.put_byte-at.new.into)) c.micros.ensures in
    elim c.match-meta.branch [
      | in-File w ↦ three_quoted _ _ _ _ _ _ _ _ _ none c.put_byte-at.ensures.put last w.put_part-at-in-File.ensures.part
          (c.put_digits-at.ensures.digits ∙ (λ i. hex number ++ drop (w.at-is i) (w.into-is i))) c.put_byte.ensures.put
          ∙ ap (λ k. quoted (tag_at k number len time)) (sym w.in-File.is)
      | in-Dir w ↦
          let pair = two_quoted _ _ _ _ _ _ _ none c.put_byte-at.ensures.put last
          (c.put_digits-at.ensures.digits ∙ (λ i. hex number ++ drop (w.at-is i) (w.into-is i))) c.put_byte.ensures.put in
          ⊎_elim (λ is. pair ∙ ap (λ k. quoted (tag_at k number len time)) (sym is))
          (λ is. pair ∙ ap (λ k. quoted (tag_at k number len time)) (sym is)) w.in-Dir.is
    ]
