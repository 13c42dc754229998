use Rattle.dav_disk.proofs.Trees.{found_path}
use Rattle.dav_disk.proofs.tree.row_at.Goals as goal

pub returns-clause-path : goal.returns-clause-path
returns-clause-path c = found_path (λ r. r.now) c.args.rows.now c.args.path.now c.find.result c.find.ensures
