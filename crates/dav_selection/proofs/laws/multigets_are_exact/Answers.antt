use Rattle.dav_io.specs.Counts.{Rose}
use Rattle.dav_selection.proofs.Exact.{multiget_exact}
use Rattle.dav_selection.proofs.laws.multigets_are_exact.Goals as goal

pub returns : goal.returns
returns c asked stock from now report never right = multiget_exact (Rose from now) never asked stock report right
