use Rattle.std.proofs.Common.{◌≡◌, ◌∙◌, sym, ap, subst, rules}
use Rattle.std.specs.List.{AllZip}
use Rattle.std.proofs.lemmas.Str.{IsUtf8-from_is_utf8}
use Rattle.dav_io.proofs.Cases.{if_some}
use Rattle.dav_page.proofs.PageOnce.{page_once}
use Rattle.dav_page.specs.Pages.{Page, IsPage}
use Rattle.dav_fetch.specs.Walk.{IsFound}
use Rattle.dav_fetch.proofs.paging.found_on.Goals as goal

pub returns-in_default-clause-none : goal.returns-in_default-clause-none
returns-in_default-clause-none c e found is = c.in_default.ensures.cases.0 (IsUtf8-from_is_utf8 _ is.is.utf8)

pub returns-in_default-2-clause-none : goal.returns-in_default-2-clause-none
returns-in_default-2-clause-none c e found is =
    c.in_ok-rows.ensures.none (search rules) is.page (subst (λ t. IsPage t is.page) (sym c.in-Ok.ensures.cases.0) is.is)

pub returns-clause-none : goal.returns-clause-none
returns-clause-none c e found is =
    let (p, page, same) = if_some _ _ _ c.in-Some.is c.in_ok-rows.ensures.some in
    let once = page_once c.in-Ok.text.now p is.page page (subst (λ t. IsPage t is.page) (sym c.in-Ok.ensures.cases.0) is.is) in
    let rows : c.as_slice.result.now ≡ c.in-Some.rows = search rules in
    c.all_found.ensures.none e found (subst (λ r. AllZip (IsFound c.args.dir.now.names) r found) (sym (rows ∙ same ∙ ap (λ (x : Page). x.rows) once)) is.rows)
