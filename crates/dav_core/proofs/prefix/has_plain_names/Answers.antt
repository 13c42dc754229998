use Rattle.std.proofs.Common.{◌||◌, rules, tests, ◌∙◌}
use Rattle.std.proofs.lemmas.Iterator.Search.{all_from_yields_List}
use Rattle.std.proofs.lemmas.Iterator.Splits.{YieldsList-from_slice_split}
use Rattle.dav_core.specs.Grammar as grammar
use Rattle.dav_core.specs.Path.{is_plain}
use Rattle.dav_core.proofs.Fits.{all_may_stand}
use Rattle.dav_core.proofs.prefix.has_plain_names.Goals as goal

pub returns : goal.returns
returns c =
    all_from_yields_List (λ s. grammar.is_empty s || is_plain s) _ _ c.all.result c.all.ensures.ran
    (YieldsList-from_slice_split _ _ c.args.prefix.now c.split.ensures.rest c.split.ensures.done c.split.ensures.closure (λ x r q k. search (rules, tests)))
    (λ x b q k. search (rules, tests))
    ∙ all_may_stand (grammar.segments c.args.prefix.now)
