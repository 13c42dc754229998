use Rattle.std.proofs.Common.{◌≡◌, drop}
use Rattle.std.specs.Cmp.Lexicographic.{pointwise}
use Rattle.dav_page.specs.Pages.{fits}
use Rattle.dav_page.proofs.forms.has_form.Given as goal

abbrev pub invariant-form : goal.invariant-form
invariant-form l = pointwise fits l.fn.expected l.fn.text ≡ pointwise fits (drop l.b-index l.fn.expected) l.rest
