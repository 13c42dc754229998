use Rattle.std.proofs.Common.{sym, ◌∙◌}
use Rattle.std.proofs.lemmas.Slice.Eq.{bytes_eq-Decides}
use Rattle.dav_mirror.proofs.asking.name_of.Goals as goal

pub returns-clause-name : goal.returns-clause-name
returns-clause-name c = sym c.as_str.ensures.value ∙ ((bytes_eq-Decides _ _).0 (sym c.is_text.ensures ∙ c.if-not-is_text.false) ∙ c.as_str-2.ensures.value)
