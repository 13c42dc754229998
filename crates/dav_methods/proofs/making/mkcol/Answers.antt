use Rattle.std.proofs.Common.{Err}
use Rattle.dav_store.proofs.Staying.{stays_after}
use Rattle.dav_methods.proofs.tables.TableLines.{line_next}
use Rattle.dav_methods.proofs.making.mkcol.Goals as goal

pub returns-clause-table : goal.returns-clause-table
returns-clause-table g c = (Err c.in-Err.refusal, c.metadata.new.self, c.in-Err.ensures.done, line_next _ _ _ _ _ _ c.may_make-may.ensures c.make_if.ensures.table)

pub returns-clause-stays : goal.returns-clause-stays
returns-clause-stays g c = stays_after _ _ _ _ c.metadata.ensures.stays c.make_if.ensures.stays
