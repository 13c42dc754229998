use Rattle.std.proofs.Common.{◌++◌, ap, ap₂, ◌∙◌, string_bytes}
use Rattle.dav_page.specs.Pages.{crumb_text}
use Rattle.dav_page.proofs.heading.push_crumb.Goals as goal

pub returns : goal.returns
returns c =
    c.in_ok-push_str.ensures.bytes
    ∙ ap (λ t. string_bytes c.args.text.now ++ t)
    (c.as_str-3.ensures.value ∙ (c.in_ok-crumb.ensures.ok
    ∙ ap₂ (λ l n. crumb_text (record { link = l; name = n })) (c.as_str.ensures.value ∙ c.in_ok-link.ensures) (c.as_str-2.ensures.value ∙ c.in_ok-name.ensures)))
