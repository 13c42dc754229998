use Rattle.dav_fetch.proofs.StillClear.{unlinked_clear}
use Rattle.dav_fetch.proofs.laws.a_tree_without_links_is_clear.Goals as goal

pub returns : goal.returns
returns c = unlinked_clear
