use Rattle.std.proofs.Common.{◌++◌, ap, ap₂, subst, sym, ◌∙◌, ◌≡◌, true}
use Rattle.std.specs.Str.{is_utf8}
use Rattle.std.proofs.lemmas.Str.{IsUtf8-string_bytes, is_utf8-from_IsUtf8}
use Rattle.dav_page.specs.Pages.{before_heading, before_rows, before_title}
use Rattle.dav_page.proofs.index.head_text.Goals as goal

pub returns : goal.returns
returns c = record {
  title = c.in_ok-title.title;
  heading = c.in_ok-heading.heading;
  spells = c.new.ensures ∙ (ap (λ v. v.items) c.into_bytes.ensures.value ∙ (c.in_ok-text.ensures.ok
      ∙ ap₂ (λ t h. before_title ++ (t ++ (before_heading ++ (h ++ before_rows)))) c.as_str.ensures.value c.as_str-2.ensures.value));
  utf8 = subst (λ t. is_utf8 t ≡ true) (sym (c.new.ensures ∙ ap (λ v. v.items) c.into_bytes.ensures.value)) (is_utf8-from_IsUtf8 _ (IsUtf8-string_bytes c.in_ok-text.text));
  titled = c.in_ok-title.ensures.text;
  headed = c.in_ok-heading.ensures.text;
  names = c.in_ok-title.ensures.reads;
  leads = c.in_ok-heading.ensures.reads;
}
