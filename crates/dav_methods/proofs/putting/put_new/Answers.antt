use Rattle.dav_methods.proofs.tables.TableLines.{line_answer}
use Rattle.dav_methods.proofs.putting.put_new.Goals as goal

pub returns : goal.returns
returns c = line_answer _ _ _ _ _ c.may_put_new.ensures c.answer.ensures c.in_ok-outcome.ensures
