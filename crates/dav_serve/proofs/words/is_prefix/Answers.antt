use Rattle.std.proofs.Common.{sym, ◌∙◌}
use Rattle.dav_serve.proofs.Prefixes.{bytes_refuse, names_decide, names_refuse}
use Rattle.dav_serve.proofs.words.is_prefix.Goals as goal

pub returns-then-not-has_prefix_bytes : goal.returns-then-not-has_prefix_bytes
returns-then-not-has_prefix_bytes c =
    bytes_refuse c.args.word.now (rw c.as_bytes.ensures.value at (sym c.has_prefix_bytes.ensures ∙ c.if-not-has_prefix_bytes.true))

pub returns-then-not-prefix_fits : goal.returns-then-not-prefix_fits
returns-then-not-prefix_fits c =
    names_refuse c.args.word.now (rw c.as_bytes.ensures.value at (sym c.has_prefix_bytes.ensures ∙ c.if-not-has_prefix_bytes.false))
    (sym c.prefix_fits.ensures ∙ c.if-not-prefix_fits.true)

pub returns : goal.returns
returns c =
    (rw c.as_bytes-2.ensures.value at c.has_names.ensures)
    ∙ names_decide c.args.word.now (rw c.as_bytes.ensures.value at (sym c.has_prefix_bytes.ensures ∙ c.if-not-has_prefix_bytes.false))
    (sym c.prefix_fits.ensures ∙ c.if-not-prefix_fits.false)
