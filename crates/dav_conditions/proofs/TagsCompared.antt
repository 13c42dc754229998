-- Tags that are compared with the one of what stands at a path.
use Rattle.std.proofs.Common.{◌≡◌, Bool, List, [], ◌∷◌, Option, None, Some, refl}
use Rattle.std.specs.List.{list_any}
use Rattle.dav_core.specs.Info.{Info}
use Rattle.dav_core.specs.declared.etag.ETag.{ETag}
use Rattle.dav_core.specs.declared.method.DavMethod.{DavMethod}
use Rattle.dav_model.specs.Conditions.{Fields, condition, condition_of, has_equal}
use Rattle.dav_conditions.specs.Standing.{is_equal, stands, tag_of, time_of}

-- one of several tags
pub any_equal : (equal : ETag → ETag → Bool) (own : Option ETag) (tags : List ETag) → list_any (is_equal equal own) tags ≡ has_equal equal own tags
any_equal equal None [] = refl
any_equal equal None (tag ∷ tags) = any_equal equal None tags
any_equal equal (Some own) tags = refl

-- the conditions, of what metadata says, or of nothing
pub conditions_by_standing : (method : DavMethod) (fields : Fields) (info : Option Info) → condition_of method fields info ≡ condition method fields (stands info) (tag_of info) (time_of info)
conditions_by_standing method fields None = refl
conditions_by_standing method fields (Some info) = refl
