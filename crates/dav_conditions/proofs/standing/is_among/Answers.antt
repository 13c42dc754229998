use Rattle.std.proofs.Common.{◌∙◌}
use Rattle.dav_conditions.proofs.TagsCompared.{any_equal}
use Rattle.dav_conditions.proofs.standing.is_among.Goals as goal

pub returns : goal.returns
returns g c = c.any_is_own.ensures ∙ any_equal _ _ c.args.tags.now
