use Rattle.std.proofs.Common.{◌++◌, ap, ◌∙◌}
use Rattle.std.specs.Prelude.{string_bytes}
use Rattle.dav_core.proofs.Links.{link_is}
use Rattle.dav_core.proofs.url.push_link.Goals as goal

pub returns : goal.returns
returns c =
    c.in_ok-append_to.ensures.ok
    ∙ ap (λ l. string_bytes c.args.link.now ++ l) (rw (c.percent_encode.ensures.text, c.as_bytes.ensures.value) (link_is c.args.text.now))
