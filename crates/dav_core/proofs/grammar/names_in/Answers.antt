use Rattle.dav_core.proofs.Kept.{plain_names}
use Rattle.dav_core.proofs.grammar.names_in.Goals as goal

pub returns-clause-plain : goal.returns-clause-plain
returns-clause-plain c = plain_names _ c.all_decoded.result (λ v. v.items) c.all_decoded.ensures.ok
