use Rattle.std.proofs.Common.{◌∙◌, ap}
use Rattle.http.specs.declared.request.Parts.{Parts}
use Rattle.session_rows.proofs.Quiet.{quiet_get}
use Rattle.session_rows.proofs.told.get.Goals as goal

pub returns : goal.returns
returns c = λ rules. quiet_get rules c.from_parts.result (ap (λ (h : Parts). h.method) c.from_parts.ensures.head ∙ c.new-head.ensures.method)
