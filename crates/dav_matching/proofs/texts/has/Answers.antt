use Rattle.std.proofs.lemmas.Str.Pattern.{contains_text}
use Rattle.dav_matching.proofs.Parts.{has_is}
use Rattle.dav_matching.proofs.texts.has.Goals as goal

pub returns-clause-value : goal.returns-clause-value
returns-clause-value c = has_is c.contains.result c.args.part.now c.args.text.now (contains_text c.contains.result c.args.part.now c.args.text.now c.contains.ensures.cases)

pub returns-clause-stands : goal.returns-clause-stands
returns-clause-stands c = contains_text c.contains.result c.args.part.now c.args.text.now c.contains.ensures.cases
