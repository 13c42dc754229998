use Rattle.std.proofs.Common.{◌≡◌, refl, sym, ap, ◌∙◌, Vec, Global, ℕ}
use Rattle.std.proofs.lemmas.Str.{is_utf8-from_IsUtf8}
use Rattle.std.specs.Str.{is_utf8}
use Rattle.dav_core.proofs.Utf8.{not_utf8}
use Rattle.dav_core.proofs.grammar.text_of.Goals as goal

pub returns-in-Ok-clause-ok : goal.returns-in-Ok-clause-ok
returns-in-Ok-clause-ok c =
    let same : c.new-text.result ≡ c.args.bytes.items = c.new-text.ensures ∙ ap (λ (v : Vec ℕ Global). v.items) c.in-Ok.ensures.ok in
    (ap is_utf8 (sym same) ∙ is_utf8-from_IsUtf8 c.new-text.result c.as_str-utf8.ensures.utf8, same)

pub returns-clause-err : goal.returns-clause-err
returns-clause-err c = (not_utf8 _ c.in-Err.ensures.succeeds, refl)
