use Rattle.dav_io.proofs.Cases.{if_some}
use Rattle.dav_page.specs.Pages.{IsName, Leads}
use Rattle.dav_page.proofs.meaning.is_crumb.Goals as goal

pub returns-clause-yes : goal.returns-clause-yes
returns-clause-yes c = λ e. (
  record { path = c.in-Some._path; name = c.in-Some-2._name },
  record {
    path = if_some (Leads c.args.cut.link.now) _ _ c.in-Some.is c.in_ok-_path.ensures.some;
    name = if_some (IsName c.args.cut.name.now) _ _ c.in-Some-2.is c.in_ok-_name.ensures.some;
  },
)
