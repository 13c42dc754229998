use Rattle.std.proofs.Common.{rules, ◌++◌, ◌∷◌, [], ap, ap₂, ◌∙◌}
use Rattle.dav_page.proofs.PageMade.{index_made, index_sound, plain_each}
use Rattle.dav_page.proofs.index.index_page.Goals as goal

pub returns-clause-page : goal.returns-clause-page
returns-clause-page c =
    let rows = c.in_ok-push_rows.ensures in
    index_made c.args.dir.now c.args.members.items c.in_ok-members.members.items c.in_ok-head_text.field-0 rows.0 c.push-2.new.self.items
    c.in_ok-head_text.ensures c.in_ok-members.ensures.each_once c.in_ok-members.ensures.in_order (search rules)
    (c.in_ok-push-2.ensures.items ∙ ap₂ (λ a b. a ++ b ∷ [])
    (rows.1 ∙ ap (λ l. l ++ rows.0) (c.in_ok-push.ensures.items ∙ ap (λ l. l ++ c.in_ok-head_text.field-0 ∷ []) c.new-texts.ensures.items))
    c.in_ok-end_text.ensures)

pub returns-clause-sound : goal.returns-clause-sound
returns-clause-sound c =
    index_sound c.args.dir.now c.args.members.items c.push-2.new.self.items (plain_each c.args.members.items c.requires) (returns-clause-page c)
