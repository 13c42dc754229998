use Rattle.htmlescape.proofs.Fronts.{text_unique, text_faultless, fault_unique}
use Rattle.htmlescape.proofs.laws.one_reading.Goals as goal

pub returns : goal.returns
returns c = record { value = text_unique; apart = text_faultless; fault = fault_unique }
