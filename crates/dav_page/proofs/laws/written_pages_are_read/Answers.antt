use Rattle.dav_page.proofs.PagesRead.{page_read}
use Rattle.dav_page.proofs.laws.written_pages_are_read.Goals as goal

pub returns : goal.returns
returns c = page_read
