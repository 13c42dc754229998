use Rattle.htmlescape.specs.declared.alphabet.Alphabet.TheVariants.{Minimal, Attribute}
use Rattle.htmlescape.proofs.Undone.{undone}
use Rattle.htmlescape.proofs.laws.decoding_undoes_encoding.Goals as goal

pub returns : goal.returns
returns c = record { minimal = undone Minimal; attribute = undone Attribute }
