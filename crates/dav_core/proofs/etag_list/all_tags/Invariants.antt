use Rattle.std.proofs.Common.{◌≡◌, ◌++◌, false, length, option_map}
use Rattle.dav_core.specs.TagReading as reading
use Rattle.dav_core.proofs.etag_list.all_tags.Given as goal

abbrev pub decreases-members : goal.decreases-members
decreases-members l = length l.rest

-- what is left decides
abbrev pub invariant-members : goal.invariant-members
invariant-members l = reading.all_tags (reading.members false l.text) ≡ option_map (λ more. l.tags.items ++ more) (reading.all_tags (reading.members false l.rest))
