use Rattle.std.proofs.Common.{◌≡◌, ℕ, false, true, ◌++◌, IsUtf8, sym, ap, ap₂, ◌∙◌, subst, Vec, Global, string_bytes}
use Rattle.std.proofs.lemmas.Str.{IsUtf8-from_is_utf8, IsUtf8-string_bytes, is_utf8-from_IsUtf8}
use Rattle.percent_encoding.specs.Percent.{percent_decode}
use Rattle.dav_page.proofs.meaning.path_in.Goals as goal

pub returns-in-Ok-clause-some : goal.returns-in-Ok-clause-some
returns-in-Ok-clause-some c =
    let bytes_are : c.append_to.new.out.items ≡ percent_decode c.args.link.now =
    c.in_ok-append_to.ensures.ok
    ∙ (ap₂ (λ a b. a ++ b) c.new-bytes.ensures.items c.percent_decode.ensures.bytes ∙ ap percent_decode c.as_bytes-link.ensures.value) in
    let path_is : string_bytes c.in-Ok.path ≡ c.append_to.new.out.items = ap (λ (v : Vec ℕ Global). v.items) c.in-Ok.ensures.ok in
    rw c.new.ensures
    (record {
      bytes = cc;
      decoded = sym (path_is ∙ bytes_are);
      utf8 = is_utf8-from_IsUtf8 (string_bytes c.in-Ok.path) (IsUtf8-string_bytes c.in-Ok.path);
    })

pub returns-clause-none : goal.returns-clause-none
returns-clause-none c = λ e path is.
    let bytes_are : c.append_to.new.out.items ≡ path =
    c.in_ok-append_to.ensures.ok
    ∙ (ap₂ (λ a b. a ++ b) c.new-bytes.ensures.items c.percent_decode.ensures.bytes
    ∙ (ap percent_decode c.as_bytes-link.ensures.value ∙ is.decoded)) in
    let bad : false ≡ true = c.in-Err.ensures.succeeds (subst IsUtf8 (sym bytes_are) (IsUtf8-from_is_utf8 path is.utf8)) in cc
