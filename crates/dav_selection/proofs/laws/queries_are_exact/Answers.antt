use Rattle.dav_io.specs.Counts.{Rose}
use Rattle.dav_selection.proofs.Exact.{query_exact}
use Rattle.dav_selection.proofs.laws.queries_are_exact.Goals as goal

pub returns : goal.returns
returns c q stock all from now report never listed right = query_exact (Rose from now) never q stock all report listed right
