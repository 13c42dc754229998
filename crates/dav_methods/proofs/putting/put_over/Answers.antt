use Rattle.dav_methods.proofs.tables.TableLines.{line_answer}
use Rattle.dav_methods.proofs.putting.put_over.Goals as goal

pub returns : goal.returns
returns g c = line_answer _ _ _ _ _ c.may_put_over.ensures c.answer.ensures c.silent.ensures
