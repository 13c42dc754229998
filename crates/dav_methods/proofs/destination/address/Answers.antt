use Rattle.std.proofs.Common.{inl, inr, refl, ap, ◌∙◌, not}
use Rattle.dav_methods.proofs.texts.Addresses.{none_shown, some_shown, without_scheme}
use Rattle.dav_methods.proofs.destination.address.Goals as goal

pub returns-then-is_none : goal.returns-then-is_none
returns-then-is_none c =
    inr (inr (without_scheme c.args.text.now c.in-Ok.uri c.in-Ok.ensures.ok (none_shown c.scheme_str.result _ (c.is_none.ensures ∙ ap not c.if-is_none.true) c.scheme_str.ensures.value), refl))

pub returns : goal.returns
returns c = elim c.path_of.ensures [
  | inl none ↦ inl none
  | inr same ↦ inr (inl (c.in-Ok.uri, c.in-Ok.ensures.ok, some_shown c.scheme_str.result _ (c.is_none.ensures ∙ ap not c.if-is_none.false) c.scheme_str.ensures.value, same))
]
