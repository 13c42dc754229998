use Rattle.std.proofs.Common.{◌≡◌, take, ap, rules, ◌∙◌}
use Rattle.dav_core.specs.Path.{all_plain}
use Rattle.dav_core.proofs.Plain.{plain_take}
use Rattle.dav_core.proofs.dav_path.DavPath.parent.Goals as goal

pub new-requires : goal.new-requires
new-requires c =
    let kept : c.in_ok-kept.kept.items ≡ take c.saturating_sub.result c.as_slice-names.result.now = search rules in
    ap all_plain kept ∙ plain_take c.saturating_sub.result c.as_slice-names.result.now (ap all_plain c.as_slice-names.ensures.value ∙ c.as_slice-names.ensures.plain)
