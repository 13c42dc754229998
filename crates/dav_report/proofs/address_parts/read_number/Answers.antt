use Rattle.std.proofs.Common.{ap, ◌∙◌}
use Rattle.dav_report.specs.Requests.{number}
use Rattle.dav_report.proofs.Numbers.{number_reads}
use Rattle.dav_report.proofs.address_parts.read_number.Goals as goal

pub returns : goal.returns
returns c = c.ok.ensures.value ∙ number_reads c.as_str.result.now c.parse.result c.parse.ensures.value.0 ∙ ap number c.as_str.ensures.value
