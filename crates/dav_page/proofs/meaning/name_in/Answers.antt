use Rattle.std.specs.Str.{chars}
use Rattle.dav_page.proofs.meaning.name_in.Goals as goal

pub returns-clause-none : goal.returns-clause-none
returns-clause-none c = λ e name is. c.decoded.ensures.none e (chars name) is.means
