use Rattle.dav_mirror.proofs.Coming.{left_so}
use Rattle.dav_mirror.proofs.laws.a_mirror_changes_nothing.Goals as goal

pub returns : goal.returns
returns c = λ before after old new result report m v w told then none. left_so before after m.turns m.file m.came v w told then none
