use Rattle.std.proofs.Common.{[], sym, true≢false}
use Rattle.dav_core.proofs.tag.is_digits.Goals as goal

pub returns-in-None : goal.returns-in-None
returns-in-None c = ((λ e. absurd (true≢false (sym e))), (λ e. absurd (c.in-None.ensures [] e)))
