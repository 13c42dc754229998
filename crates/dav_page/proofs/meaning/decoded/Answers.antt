use Rattle.dav_page.proofs.Values.{decoded_is}
use Rattle.dav_page.proofs.meaning.decoded.Goals as goal

pub returns-in-Ok-clause-some : goal.returns-in-Ok-clause-some
returns-in-Ok-clause-some c = rw c.new.ensures (decoded_is c.args.text.now _ c.utf8.text c.in-Ok.ensures.ok)

pub returns-in_default : goal.returns-in_default
returns-in_default c = record { some = tt; none = λ e value is. c.in_default.not-NoMemory (c.in-Err.ensures.text value is) }
