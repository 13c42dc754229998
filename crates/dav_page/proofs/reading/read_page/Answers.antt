use Rattle.std.proofs.Common.{Ok, Bor, ℕ, List, ◌≡◌, ap}
use Rattle.std.proofs.lemmas.Str.{is_utf8-from_IsUtf8}
use Rattle.dav_io.proofs.Cases.{if_some}
use Rattle.dav_page.specs.declared.row.PageRow.{PageRow}
use Rattle.dav_page.specs.Cuts.{HasHeading, HasRows, HasTitle}
use Rattle.dav_page.specs.Pages.{IsPage, Page}
use Rattle.dav_page.proofs.Found.{ok_map}
use Rattle.dav_page.proofs.Reader.{heading_behind, page_heading_at, page_is, page_rows_at, page_title, title_behind}
use Rattle.dav_page.proofs.reading.read_page.Goals as goal

pub returns-in_default-clause-none : goal.returns-in_default-clause-none
returns-in_default-clause-none c = λ e p is.
    c.in_ok-rest.ensures.none (ap Ok c.in_default.is) (title_behind c.args.page.now p is) (page_title c.args.page.now p is)

pub returns-in_default-2-clause-none : goal.returns-in_default-2-clause-none
returns-in_default-2-clause-none c = λ e p is.
    let title = if_some (λ (x : Bor (List ℕ)). HasTitle c.args.page.now x.now) _ _ c.in-Some.is c.in_ok-rest.ensures.some in
    c.in_ok-rest-2.ensures.none (ap Ok c.in_default-2.is) (heading_behind c.args.page.now p is)
    (page_heading_at c.args.page.now c.in-Some.rest.now title p is)

pub returns-clause-some : goal.returns-clause-some
returns-clause-some c =
    let title = if_some (λ (x : Bor (List ℕ)). HasTitle c.args.page.now x.now) _ _ c.in-Some.is c.in_ok-rest.ensures.some in
    let heading = if_some (λ (x : Bor (List ℕ)). HasHeading c.in-Some.rest.now x.now) _ _ c.in-Some-2.is c.in_ok-rest-2.ensures.some in
    ok_map (HasRows c.in-Some-2.rest.now) (λ (rows : List PageRow). (p : Page) × IsPage c.args.page.now p × (rows ≡ p.rows)) c.read_rows.result
    (λ rows h. page_is c.args.page.now c.in-Some.rest.now c.in-Some-2.rest.now rows (is_utf8-from_IsUtf8 c.args.page.now c.utf8.page) title heading h)
    c.read_rows.ensures.some

pub returns-clause-none : goal.returns-clause-none
returns-clause-none c = λ e p is.
    let title = if_some (λ (x : Bor (List ℕ)). HasTitle c.args.page.now x.now) _ _ c.in-Some.is c.in_ok-rest.ensures.some in
    let heading = if_some (λ (x : Bor (List ℕ)). HasHeading c.in-Some.rest.now x.now) _ _ c.in-Some-2.is c.in_ok-rest-2.ensures.some in
    c.read_rows.ensures.none e p.rows (page_rows_at c.args.page.now c.in-Some.rest.now c.in-Some-2.rest.now title heading p is)
