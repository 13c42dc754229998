use Rattle.std.proofs.Common.{◌∙◌}
use Rattle.dav_put.proofs.Numbers.{seconds_read}
use Rattle.dav_put.proofs.words.seconds_said.Goals as goal

pub returns : goal.returns
returns c = c.ok.ensures.value ∙ seconds_read c.args.word.now c.parse.result c.parse.ensures.value.0
