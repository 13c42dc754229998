use Rattle.std.proofs.Common.{rules, ◌++◌, ap₂, ◌∙◌, codes, string_bytes, append_assoc}
use Rattle.std.proofs.lemmas.Str.{is_utf8-from_IsUtf8}
use Rattle.dav_page.proofs.Crumbs.{crumbs_next, crumbs_whole}
use Rattle.dav_page.proofs.heading.push_crumbs.Goals as goal

pub loop-name-preserved : goal.loop-name-preserved
loop-name-preserved c =
    crumbs_next _ _ _ c.args.names.now c.loop-name.name-index c.name-item.result _ _ c.loop-name-test.true (search rules) c.loop-name.invariant
    (is_utf8-from_IsUtf8 c.name-item.result (search rules))
    (c.in_ok-push_str-2.ensures.bytes ∙ (ap₂ (λ a b. a ++ b) c.in_ok-push_str.ensures.bytes c.as_str.ensures.value
    ∙ append_assoc (string_bytes c.loop-name.path) (codes "/") c.name-item.result))
    (search rules)

pub returns-clause-text : goal.returns-clause-text
returns-clause-text c = (crumbs_whole _ _ _ c.args.names.now c.loop-name.name-index c.loop-name-test.false c.loop-name.invariant).text

pub returns-clause-utf8 : goal.returns-clause-utf8
returns-clause-utf8 c = (crumbs_whole _ _ _ c.args.names.now c.loop-name.name-index c.loop-name-test.false c.loop-name.invariant).utf8
