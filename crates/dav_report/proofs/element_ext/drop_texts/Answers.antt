use Rattle.std.proofs.Common.{ap, ◌∙◌, rules, tests}
use Rattle.std.proofs.lemmas.Fn.{filter_same}
use Rattle.dav_lock.specs.Trees.{forest_of}
use Rattle.dav_report.specs.Making.{without_texts}
use Rattle.dav_report.proofs.Texts.{not_texts, forest_of-filter}
use Rattle.dav_report.proofs.element_ext.drop_texts.Goals as goal

pub returns : goal.returns
returns c =
    let kept = filter_same _ not_texts _ (λ x b f' h. search (rules, tests)) _ _ c.retain.ensures.filtered in
    c.new.ensures ∙ ap forest_of kept ∙ forest_of-filter c.into_vec-nodes.result.items ∙ ap without_texts c.into_vec-nodes.ensures
