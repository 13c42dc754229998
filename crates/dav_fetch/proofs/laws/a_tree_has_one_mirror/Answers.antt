use Rattle.dav_fetch.proofs.OneMirror.{one_mirror}
use Rattle.dav_fetch.proofs.laws.a_tree_has_one_mirror.Goals as goal

pub returns : goal.returns
returns c = one_mirror
