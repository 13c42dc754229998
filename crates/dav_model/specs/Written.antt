-- What a request that writes makes of a world, by its plan, and what it is answered.
use Rattle.std.specs.Prelude.{◌≡◌, ◌==◌, ◌⊎◌, ℕ, Bool, true, false, List, [], ◌∷◌, codes, cond, Result, Ok, Err}
use Rattle.dav_io.specs.Counts.{Rose}
use Rattle.dav_io.specs.Told.{Both}
use Rattle.dav_io.specs.declared.failure.NoMemory.{NoMemory}
use Rattle.dav_core.specs.declared.dav_error.DavError.{DavError}
use Rattle.dav_core.specs.declared.method.DavMethod.{DavMethod}
use Rattle.dav_core.specs.declared.method.DavMethod.TheVariants.{Copy, Delete, MkCol, Move, Put}
use Rattle.dav_core.specs.DavPath.{WebPath}
use Rattle.dav_core.specs.Edits.{Edit, Edited, IsPart}
use Rattle.dav_core.specs.World.{World, SameBesidesOpens}
use Rattle.dav_model.specs.declared.asked.Asked.{Asked}
use Rattle.dav_model.specs.declared.target.Target.{Target}
use Rattle.dav_model.specs.declared.target.Target.TheVariants.{At, Methods, Refused, Writes}
use Rattle.dav_model.specs.CarryPlans.{carries_link, carry_plan}
use Rattle.dav_model.specs.Causes.{IsDueTo}
use Rattle.dav_model.specs.Conditions.{Fields}
use Rattle.dav_model.specs.Destination.{Asks}
use Rattle.dav_model.specs.Due.{failure}
use Rattle.dav_model.specs.Finding.{resolved}
use Rattle.dav_model.specs.Head.{Reply, field, refusal}
use Rattle.dav_model.specs.Plans.{Act, Ask, Plan, does, halts, meets_link, plan}
use Rattle.dav_model.specs.Rules.{Knowledge, Rules}
use Rattle.dav_model.specs.Trail.{Leaves, Point}
use Rattle.dav_model.specs.Valid.{IsRegular}
use Rattle.dav_model.specs.WellFormed.{is_among}

-- ---- answers

-- Something was made: there is no body, and the answer says so.
abbrev pub made : Reply
made = record { status = 201; fields = field (codes "content-length") (codes "0") ∷ []; parts = [] }

-- Nothing is left to say: there is no body, and no field.
abbrev pub silent : Reply
silent = record { status = 204; fields = []; parts = [] }

abbrev pub done_reply : ℕ → Reply
done_reply status = cond (status == 201) made silent

-- what is answered where all was done (only methods that write are asked for theirs)
abbrev pub done_statuses : DavMethod → List ℕ
done_statuses Delete = 204 ∷ []
done_statuses Put = 201 ∷ 204 ∷ []
done_statuses Copy = 201 ∷ 204 ∷ []
done_statuses Move = 201 ∷ 204 ∷ []
done_statuses other = 201 ∷ []

-- The statuses with which a request that writes is refused behind the gates: those of each method, and its own. 400 is
-- of fields that ask for nothing, 409 of a directory above that isn't there, and 412 of a precondition.
abbrev pub own_statuses : DavMethod → List ℕ
own_statuses Put = 409 ∷ 412 ∷ []
own_statuses MkCol = 409 ∷ 412 ∷ []
own_statuses Delete = 412 ∷ []
own_statuses Copy = 400 ∷ 409 ∷ 412 ∷ []
own_statuses Move = 400 ∷ 409 ∷ 412 ∷ []
own_statuses other = []

abbrev pub halt_statuses : DavMethod → List ℕ
halt_statuses method = 403 ∷ 404 ∷ 405 ∷ 500 ∷ own_statuses method

-- Of the methods that write only MKCALENDAR and MKADDRESSBOOK close a connection.
abbrev pub may_close : DavMethod → Bool
may_close Put = false
may_close MkCol = false
may_close Delete = false
may_close Copy = false
may_close Move = false
may_close other = true

-- It is refused; 400 and 412 come only where the fields, read under a prefix, are their cause, 500 only where the disk
-- failed, and a close only with 405, where something stands.
pub record IsHalted (method : DavMethod) (prefix : List ℕ) (fields : Fields) (rose : Type 0) (reply : Reply) : Type 0 where
  pub status : ℕ
  pub close : Bool
  pub is : reply ≡ refusal fields status close
  pub listed : is_among status (halt_statuses method) ≡ true
  pub due : IsDueTo method prefix fields status
  pub failed : status ≡ 500 → rose
  pub closes : close ≡ true → (status ≡ 405) × (may_close method ≡ true)

-- A method may be answered so where all was done.
abbrev pub MayEnd : DavMethod → ℕ → Type 0
MayEnd method status = is_among status (done_statuses method) ≡ true

-- what a request that writes may be answered in any run, its fields read under a prefix
abbrev pub IsWriteReply : DavMethod → List ℕ → Fields → Type 0 → Reply → Type 0
IsWriteReply method prefix fields rose reply = ((reply ≡ made) × MayEnd method 201)
    ⊎ (((reply ≡ silent) × MayEnd method 204) ⊎ IsHalted method prefix fields rose reply)

-- ---- worlds

-- The acts are done one after the other, up to the first that ends the request.
abbrev pub ByActs : Fields → List Act → ℕ → Reply → World → World → Type 0
ByActs fields [] done reply v w = (reply ≡ done_reply done) × SameBesidesOpens v w
ByActs fields (halts l ∷ acts) done reply v w = (reply ≡ refusal fields l.status l.close) × SameBesidesOpens v w
ByActs fields (does e ∷ acts) done reply v w = (m : World) × Edited e v m × ByActs fields acts done reply m w

-- Some of the changes were made, in their order, and then perhaps a part of the next.
abbrev pub PartOf : List Act → World → World → Type 0
PartOf [] v w = SameBesidesOpens v w
PartOf (halts l ∷ acts) v w = SameBesidesOpens v w
PartOf (does e ∷ acts) v w = SameBesidesOpens v w
    ⊎ (((part : Edit) × IsPart e part × Edited part v w) ⊎ ((m : World) × Edited e v m × PartOf acts m w))

-- It is answered by its plan; where the count of faults rose it may have failed on the way, and where memory was
-- refused it was broken off on the way.
abbrev pub EndsAs : Fields → Plan → Result Reply NoMemory → Type 0 → World → World → Type 0
EndsAs fields plan (Ok reply) rose v w = ByActs fields plan.acts plan.done reply v w
    ⊎ ((reply ≡ failure) × rose × PartOf plan.acts v w)
EndsAs fields plan (Err e) rose v w = PartOf plan.acts v w

-- ---- a request between two points

abbrev pub ask_of : DavMethod → WebPath → Fields → List ℕ → Ask
ask_of method path fields body = record { method = method; path = path; fields = fields; body = body }

-- what a request that writes makes of a told world, where it meets no link
abbrev pub MakesIn : Rules → Ask → Result Reply NoMemory → Type 0 → World → World → Type 0
MakesIn rules ask result rose v w = meets_link ask.method v.tree (resolved rules v.tree ask.path.names) ≡ false
    → EndsAs ask.fields (plan rules v ask) result rose v w

-- The fields of a COPY or a MOVE ask for something, and what it makes of a told world is what it asked for, where it
-- meets no link.
abbrev pub CarriesBy : Rules → Bool → Ask → Result Reply NoMemory → Type 0 → World → World → Type 0
CarriesBy rules moving ask result rose v w = (asked : Result Asked DavError)
    × Asks moving rules.settings.prefix ask.fields asked
    × (carries_link rules v.tree ask.path asked ≡ false
    → EndsAs ask.fields (carry_plan rules v ask asked) result rose v w)

-- (Memory may be refused before its fields were read.)
abbrev pub CarriesIn : Rules → Bool → Ask → Result Reply NoMemory → Type 0 → World → World → Type 0
CarriesIn rules moving ask (Ok reply) rose v w = CarriesBy rules moving ask (Ok reply) rose v w
CarriesIn rules moving ask (Err e) rose v w = SameBesidesOpens v w ⊎ CarriesBy rules moving ask (Err e) rose v w

-- what a request of a method makes of a told world
abbrev pub MakesAs : DavMethod → Rules → Ask → Result Reply NoMemory → Type 0 → World → World → Type 0
MakesAs Copy rules ask = CarriesIn rules false ask
MakesAs Move rules ask = CarriesIn rules true ask
MakesAs other rules ask = MakesIn rules ask

-- Only a request that writes changes what stands. What it makes is said of each world of a valid run, with what the
-- memory knew before it.
abbrev pub Makes : Target → Rules → Knowledge → Fields → List ℕ → Result Reply NoMemory → Point → Point → Type 0
Makes (Writes method path) rules k fields body result s t = Both s.told t.told (λ v w. IsRegular rules k v
    → MakesAs method rules (ask_of method path fields body) result (Rose s.faults t.faults) v w)
Makes (At method path) rules k fields body result s t = Leaves s t
Makes Methods rules k fields body result s t = Leaves s t
Makes (Refused status close) rules k fields body result s t = Leaves s t
