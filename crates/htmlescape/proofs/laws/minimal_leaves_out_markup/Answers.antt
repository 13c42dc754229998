use Rattle.htmlescape.proofs.Undone.{minimal_characters, minimal_bytes}
use Rattle.htmlescape.proofs.laws.minimal_leaves_out_markup.Goals as goal

pub returns : goal.returns
returns c = record { characters = minimal_characters; bytes = minimal_bytes }
