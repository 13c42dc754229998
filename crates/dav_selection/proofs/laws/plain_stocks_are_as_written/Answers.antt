use Rattle.dav_local_laws.proofs.PlainWays.{plain_members, plain_once, plain_opened, plain_place}
use Rattle.dav_selection.proofs.laws.plain_stocks_are_as_written.Goals as goal

pub returns : goal.returns
returns c w path = (plain_once w, plain_place w.tree path.names, plain_members w path, plain_opened w path)
