-- What a PUT whose body is read from a reader makes of a told world, where the reader tells its bytes.
use Rattle.std.specs.Prelude.{◌≡◌, ◌⊎◌, ◌<◌, false, length, Some, Err}
use Rattle.dav_io.specs.Counts.{Rose}
use Rattle.dav_core.specs.declared.dav_error.DavError.TheVariants.{Body}
use Rattle.dav_store.specs.Bodies.{BodyState}
use Rattle.dav_store.specs.View.{View, Listings}
use Rattle.dav_model.specs.Finding.{resolved}
use Rattle.dav_model.specs.Plans.{Ask, meets_link, plan}
use Rattle.dav_model.specs.Rules.{Rules}
use Rattle.dav_model.specs.Written.{PartOf}
use Rattle.dav_methods.specs.ByPlan.{RightIn, Turn}
use Rattle.dav_walks.specs.Pouring.{Writes, most_bytes}

-- The bytes that the reader has left are the body of the request, and fewer than the bound of a body.
pub record TellsBody (ask : Ask) (b : BodyState) : Type 0 where
  pub told : b.left ≡ Some ask.body
  pub short : length ask.body < most_bytes

module _ {S C F L E : Type 0} (view : View S C F) (lists : Listings S C L E) (writes : Writes F) (c : C) where
  -- What is answered and made is what the plan of these bytes says; or the reader, which is `b` before and `n` after, met
  -- a fault, and what was made is a part of what the plan says.
  abbrev pub ReadIn : Rules → Ask → BodyState → BodyState → Turn view lists writes c
  ReadIn rules ask b n s r t v w = RightIn view lists writes c rules ask s r t v w
      ⊎ ((r ≡ Err Body) × Rose b.faults n.faults
      × (meets_link ask.method v.tree (resolved rules v.tree ask.path.names) ≡ false
      → PartOf (plan rules v ask).acts v w))
