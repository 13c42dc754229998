use Rattle.htmlescape.proofs.Undone.{attribute_characters, attribute_bytes}
use Rattle.htmlescape.proofs.laws.attribute_is_harmless.Goals as goal

pub returns : goal.returns
returns c = record { characters = attribute_characters; bytes = attribute_bytes }
