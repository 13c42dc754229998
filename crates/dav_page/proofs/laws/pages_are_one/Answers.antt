use Rattle.dav_page.proofs.PageOnce.{page_once}
use Rattle.dav_page.proofs.laws.pages_are_one.Goals as goal

pub returns : goal.returns
returns c = page_once
