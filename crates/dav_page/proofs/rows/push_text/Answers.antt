use Rattle.std.proofs.Common.{◌++◌, ap, sym, ◌∙◌, string_bytes}
use Rattle.dav_page.proofs.Bare.{bare_text}
use Rattle.dav_page.proofs.rows.push_text.Goals as goal

pub returns-then-has_escaped : goal.returns-then-has_escaped
returns-then-has_escaped c =
    c.in_ok-push_str.ensures.bytes ∙ ap (λ t. string_bytes c.args.row.now ++ t) (c.as_str.ensures.value ∙ c.in_ok-text.ensures)

pub returns : goal.returns
returns c =
    c.in_ok-push_str-2.ensures.bytes
    ∙ ap (λ t. string_bytes c.args.row.now ++ t) (sym (bare_text c.args.name.now c.utf8.name (sym c.has_escaped.ensures ∙ c.if-has_escaped.false)))
