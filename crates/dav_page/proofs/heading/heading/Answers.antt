use Rattle.std.proofs.Common.{rules, ◌∙◌, subst, sym}
use Rattle.std.proofs.lemmas.Str.{is_utf8-from_IsUtf8}
use Rattle.dav_page.specs.Index.{IsHeading}
use Rattle.dav_page.proofs.Crumbs.{heading_at, heading_made, root_at}
use Rattle.dav_page.proofs.heading.heading.Goals as goal

pub returns-in_default-clause-reads : goal.returns-in_default-clause-reads
returns-in_default-clause-reads c = root_at c.args.names.now c.in_ok-copy.field-0 c.in_default.ensures.cases c.in_ok-copy.ensures

pub returns-clause-text : goal.returns-clause-text
returns-clause-text c =
    c.new.ensures ∙ (c.in_ok-push_str.ensures.bytes
    ∙ heading_made c.args.names.now c.in-Some.front.now c.in-Some.last.now _ _ _ c.in-Some.ensures.cases.0 c.in_ok-text.ensures.ok c.in_ok-push_crumbs.ensures.text
    (c.as_str-2.ensures.value ∙ (c.in_ok-name.ensures ∙ search rules)))

pub returns-clause-reads : goal.returns-clause-reads
returns-clause-reads c =
    subst (IsHeading c.args.names.now)
    (sym (c.new.ensures ∙ (c.in_ok-push_str.ensures.bytes
    ∙ heading_made c.args.names.now c.in-Some.front.now c.in-Some.last.now _ _ _ c.in-Some.ensures.cases.0 c.in_ok-text.ensures.ok c.in_ok-push_crumbs.ensures.text
    (c.as_str-2.ensures.value ∙ (c.in_ok-name.ensures ∙ search rules)))))
    (heading_at c.args.names.now c.in-Some.front.now c.in-Some.last.now c.in-Some.ensures.cases.0 c.in_ok-push_crumbs.ensures.utf8
    (is_utf8-from_IsUtf8 c.in-Some.last.now (search rules)))
