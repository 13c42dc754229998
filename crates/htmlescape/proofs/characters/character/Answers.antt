use Rattle.std.proofs.Common.{rules, IsUtf8, subst, sym, List, ℕ, ◌∙◌}
use Rattle.std.proofs.lemmas.Str.{IsUtf8-encode}
use Rattle.htmlescape.proofs.Utf8.{whole, first_of}
use Rattle.htmlescape.proofs.characters.character.Goals as goal

pub returns-in-Ok-clause-spelled : goal.returns-in-Ok-clause-spelled
returns-in-Ok-clause-spelled c = first_of _ _ _ _ c.next.result (c.chars.ensures.rest ∙ c.in-Ok.ensures.cases.0) c.requires.some c.requires.width c.next.ensures.steps.0 (search rules)

pub returns-in-Err-clause-spelled : goal.returns-in-Err-clause-spelled
returns-in-Err-clause-spelled c = λ d more s e.
    c.in-Err.ensures.cases.0 (let P : List ℕ → Type 0 = IsUtf8 in subst P (sym (whole _ more d s c.requires.width e)) (IsUtf8-encode d s))
