use Rattle.dav_local.proofs.OneName.{front_is_plain}
use Rattle.dav_local.proofs.walk.parent.Goals as goal

pub new-requires : goal.new-requires
new-requires c = front_is_plain _ _ _ _ _ c.as_slice-names.ensures.plain c.as_slice-names.ensures.value c.new-kept.ensures.items c.in_ok-append.ensures
