use Rattle.std.proofs.Common.{◌∙◌}
use Rattle.dav_core.proofs.UnchangedLemmas.{but_then, closed_again}
use Rattle.dav_selection.proofs.reading.fetch.Goals as goal

pub returns-in-Ok-clause-stays : goal.returns-in-Ok-clause-stays
returns-in-Ok-clause-stays g c =
    let opened = c.in-Ok.ensures.stays.keeps in
    let closed = c.read_file.ensures.closed in
    record {
      keeps = closed_again _ _ _ (but_then _ _ _ _ (opened.kept c.read.ensures) closed.keeps) opened.fresh closed.live;
      loan = closed.lent.loan ∙ c.in-Ok.ensures.stays.loan;
    }
