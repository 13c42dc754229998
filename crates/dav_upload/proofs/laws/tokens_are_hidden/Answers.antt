use Rattle.dav_upload.proofs.Tokens.{beside_hides, token_hides, token_plain}
use Rattle.dav_upload.proofs.laws.tokens_are_hidden.Goals as goal

pub returns-clause-name : goal.returns-clause-name
returns-clause-name c = token_hides

pub returns-clause-plain : goal.returns-clause-plain
returns-clause-plain c = token_plain

pub returns-clause-path : goal.returns-clause-path
returns-clause-path c = beside_hides
