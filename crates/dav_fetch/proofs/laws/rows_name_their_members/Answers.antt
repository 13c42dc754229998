use Rattle.dav_fetch.proofs.PageFound.{rows_found}
use Rattle.dav_fetch.proofs.laws.rows_name_their_members.Goals as goal

pub returns : goal.returns
returns c = rows_found
