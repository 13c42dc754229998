use Rattle.std.proofs.Common.{◌∙◌}
use Rattle.dav_conditions.proofs.TagsCompared.{any_equal}
use Rattle.dav_conditions.proofs.standing.is_among_weakly.Goals as goal

pub returns : goal.returns
returns g c = c.any_has_text.ensures ∙ any_equal _ _ c.args.tags.now
