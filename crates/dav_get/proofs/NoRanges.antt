-- Where no ranges are asked for, all of a file is sent, whether ranges are heard or not.
use Rattle.std.proofs.Common.{◌≡◌, ℕ, Bool, true, false, List, Option, None, refl, ap, ◌∙◌}
use Rattle.dav_model.specs.Head.{sent_by, sent_ranges}
use Rattle.dav_model.specs.Slices.{ranges}
use Rattle.dav_model.specs.declared.sent.Sent.TheVariants.{All}

unasked : (heard : Bool) (range : Option (List ℕ)) (len : ℕ) → None ≡ range → All ≡ sent_by None heard range len
unasked false range len e = refl
unasked true range len e = ap (λ r. sent_ranges (ranges r len)) e

pub none_asked : (failed : Option ℕ) (heard : Bool) (range : Option (List ℕ)) (len : ℕ) → None ≡ failed → None ≡ range → All ≡ sent_by failed heard range len
none_asked failed heard range len f e = unasked heard range len e ∙ ap (λ x. sent_by x heard range len) f
