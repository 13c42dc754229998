-- What a refused call may leave of a world, by what the tree allows.
use Rattle.std.specs.Prelude.{Bool, true, false, Option, None, Some, Result, Ok, Err}
use Rattle.std.proofs.Common.{inl}
use Rattle.dav_core.specs.declared.handle.DiskError.{DiskError}
use Rattle.dav_core.specs.Allowed.{Allowed}
use Rattle.dav_core.specs.World.{SameBesidesOpens, World}
use Rattle.dav_core.specs.Writing.{LeftBy}

-- what the tree calls to refuse changes nothing
pub left_refused : (may : Bool) (e : DiskError) (v w : World) → LeftBy may (Err e) v w → SameBesidesOpens v w
left_refused true e v w left = left
left_refused false e v w left = left

pub left_more : (may : Bool) (allowed : Allowed) (v w : World) → LeftBy may allowed v w → LeftBy true allowed v w
left_more true allowed v w left = left
left_more false (Ok (Some e)) v w left = inl left
left_more false (Ok None) v w left = left
left_more false (Err e) v w left = left
