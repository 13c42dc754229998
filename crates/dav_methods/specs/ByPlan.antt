-- What a method over a store that follows its rules is answered with, and makes of its told world: what its plan says.
use Rattle.std.specs.Prelude.{◌≡◌, ℕ, List, [], Bool, true, false, Result, Ok, Err}
use Rattle.dav_io.specs.Counts.{Rose}
use Rattle.dav_io.specs.declared.failure.NoMemory.{NoMemory as Wanting}
use Rattle.dav_core.specs.DavPath.{WebPath}
use Rattle.dav_core.specs.Statuses.{closes, lacks_memory, status_of}
use Rattle.dav_core.specs.World.{World}
use Rattle.dav_store.specs.View.{View, Listings}
use Rattle.dav_model.specs.CarryPlans.{method_of}
use Rattle.dav_model.specs.Conditions.{Fields}
use Rattle.dav_model.specs.Finding.{resolved}
use Rattle.dav_model.specs.Head.{Reply, refusal}
use Rattle.dav_model.specs.Plans.{Ask, meets_link, plan}
use Rattle.dav_model.specs.Rules.{Knowledge, Rules}
use Rattle.dav_model.specs.Valid.{IsRegular}
use Rattle.dav_model.specs.Written.{CarriesIn, EndsAs}
use Rattle.dav_walks.specs.Follows.{Follows, Told}
use Rattle.dav_walks.specs.Pouring.{Writes}
use Rattle.dav_methods.specs.Carrying.{CopyMoves}
use Rattle.dav_methods.specs.Lines.{Given}
use Rattle.dav_methods.specs.Table.{Next}

-- what is answered, or want of memory
abbrev pub answer_or : Fields → Given → Result Reply Wanting → Type 0
answer_or fields (Ok outcome) (Ok reply) = reply ≡ record {
  status = outcome.status;
  fields = outcome.fields;
  parts = [];
}
answer_or fields (Ok outcome) (Err e) = ⊥
answer_or fields (Err error) (Ok reply) = (lacks_memory error ≡ false)
    × (reply ≡ refusal fields (status_of error) (closes error))
answer_or fields (Err error) (Err e) = lacks_memory error ≡ true

module _ {S C F L E : Type 0} (view : View S C F) (lists : Listings S C L E) (writes : Writes F) (c : C) where
  -- a store before and after what it is answered with, and its told world before and after
  abbrev pub Turn : Type 1
  Turn = S → Given → S → World → World → Type 0

  -- What is answered to a request, and what it makes of the told world, is what its plan says, where it meets no link.
  abbrev pub RightIn : Rules → Ask → Turn
  RightIn rules ask s r t v w = (result : Result Reply Wanting) → answer_or ask.fields r result
      → meets_link ask.method v.tree (resolved rules v.tree ask.path.names) ≡ false
      → EndsAs ask.fields (plan rules v ask) result (Rose (view.state s).faults (view.state t).faults) v w

  -- the same of a COPY or a MOVE, whose plan is by what its fields ask for
  abbrev pub CarriedIn : Rules → Bool → Ask → Turn
  CarriedIn rules moves ask s r t v w = (result : Result Reply Wanting) → answer_or ask.fields r result
      → CarriesIn rules moves ask result (Rose (view.state s).faults (view.state t).faults) v w

  -- A COPY or a MOVE is answered by the plan of what its fields ask for, and makes of a world of a valid run what the
  -- plan says.
  abbrev pub CarriesByPlan : Bool → Type 0
  CarriesByPlan moves = (rules : Rules) (k : Knowledge) (s : S) → Follows view lists writes c rules k s → (path : WebPath)
      (fields : Fields) (body : List ℕ) (r : Given) (t : S)
      → Next (CopyMoves view lists c moves rules.settings.prefix path fields) s r t
      → Told view lists writes c s t (λ v w. IsRegular rules k v → CarriedIn rules moves
      (record { method = method_of moves; path = path; fields = fields; body = body }) s r t v w)
