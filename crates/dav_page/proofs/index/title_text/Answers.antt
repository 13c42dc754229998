use Rattle.std.proofs.Common.{◌≡◌, true, subst, sym, ap, ◌∙◌}
use Rattle.std.specs.Str.{is_utf8}
use Rattle.std.proofs.lemmas.Str.{is_utf8-from_IsUtf8}
use Rattle.dav_core.specs.DavPath.{link_of, shown}
use Rattle.dav_page.specs.Index.{name_text}
use Rattle.dav_page.specs.Pages.{IsTitle}
use Rattle.dav_page.proofs.Written.{title_written}
use Rattle.dav_page.proofs.index.title_text.Goals as goal

pub returns-clause-text : goal.returns-clause-text
returns-clause-text c = c.new.ensures ∙ (c.in_ok-encode_minimal.ensures ∙ ap name_text (c.as_str.ensures.value ∙ c.in_ok-link.ensures))

pub returns-clause-reads : goal.returns-clause-reads
returns-clause-reads c =
    let link = c.as_str.ensures.value ∙ c.in_ok-link.ensures in
    subst (λ t. IsTitle t (link_of (shown c.args.dir.now))) (sym (c.new.ensures ∙ (c.in_ok-encode_minimal.ensures ∙ ap name_text link)))
    (title_written (link_of (shown c.args.dir.now)) (subst (λ l. is_utf8 l ≡ true) c.in_ok-link.ensures (is_utf8-from_IsUtf8 c.in_ok-link.link c.as_str.ensures.utf8)))
