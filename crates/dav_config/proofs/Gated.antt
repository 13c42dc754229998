-- What the gates make of a request whose body is in memory or behind a reader.
use Rattle.std.proofs.Common.{◌≡◌, ◌∙◌, List, ℕ, Bool, refl, ap, subst, sym}
use Rattle.dav_core.specs.declared.method.DavMethod.{DavMethod}
use Rattle.dav_core.specs.DavPath.{WebPath}
use Rattle.dav_core.specs.Methods.{method_of}
use Rattle.dav_model.specs.declared.target.Target.{Target}
use Rattle.dav_model.specs.declared.target.Target.TheVariants.{At, Methods, Refused, Writes}
use Rattle.dav_model.specs.Conditions.{Fields}
use Rattle.dav_model.specs.Gates.{Bulk, admitted, bulk_of, gates, takes_much, weighed}
use Rattle.dav_config.specs.Handling.{IsWritten}
use Rattle.std.specs.Prelude.{IfOk, false, Result, Ok, Err}
use Rattle.dav_io.specs.declared.failure.NoMemory.{NoMemory}
use Rattle.dav_core.specs.declared.dav_error.DavError.{DavError}
use Rattle.dav_core.specs.Statuses.{closes, lacks_memory, status_of}
use Rattle.dav_model.specs.Head.{refusal}
use Rattle.dav_config.specs.declared.finding.Found.{Found}
use Rattle.dav_config.specs.Finding.{IsAlone, IsFoundFor, IsGated, SeesBehind, SeesBulk, Sought}
use Rattle.dav_config.specs.Writing.{Brought, whole}
use Rattle.dav_config.proofs.Unstored.{known_parted}

-- A body that was seen behind the gates of its head is weighed.
pub weighed_gated : {C : Type 0} (sought : Sought C) (stored : Bool) (old new : Brought) (bulk : Bulk) (method : DavMethod) (path : WebPath) (target : Target)
    → At method path ≡ admitted sought.settings stored sought.head → SeesBulk (takes_much method) old bulk new
    → target ≡ weighed sought.head.headers bulk (At method path) → IsGated sought stored old target new
weighed_gated sought stored old new bulk method path target passed sees e = record {
  bulk = bulk;
  sees = subst (λ (x : Target). SeesBehind x old bulk new) passed sees;
  gated = e ∙ ap (weighed sought.head.headers bulk) passed;
}

-- What the gates make of a request writes where its method does.
pub gated_parted : {C : Type 0} (sought : Sought C) (stored : Bool) (old new : Brought) (target : Target) → IsGated sought stored old target new
    → IsWritten target sought.head
gated_parted sought stored old new target asks =
    subst (λ (x : Target). IsWritten x sought.head) (sym asks.gated) (known_parted sought.head sought.settings stored asks.bulk (method_of sought.head.method) refl)

by_bytes : (fields : Fields) (bytes : List ℕ) (bulk : Bulk) (new : Brought) (target : Target) → SeesBehind target (whole bytes) bulk new → weighed fields bulk target ≡ weighed fields (bulk_of bytes) target
by_bytes fields bytes bulk new (Refused status close) sees = refl
by_bytes fields bytes bulk new Methods sees = refl
by_bytes fields bytes bulk new (Writes method path) sees = refl
by_bytes fields bytes bulk new (At method path) sees = ap (λ b. weighed fields b (At method path)) sees.0

-- A body in memory is weighed as it is.
pub gated_whole : {C : Type 0} (sought : Sought C) (stored : Bool) (bytes : List ℕ) (new : Brought) (target : Target) → IsGated sought stored (whole bytes) target new
    → target ≡ gates sought.settings stored sought.head (bulk_of bytes)
gated_whole sought stored bytes new target is =
    is.gated ∙ by_bytes sought.head.headers bytes is.bulk new (admitted sought.settings stored sought.head) is.sees

-- an error, as what a GET or HEAD finds
pub found_error : {F : Type 0} (fields : Fields) (e : DavError) (result : Result (Found F) NoMemory) → IfOk result (IsAlone (refusal fields (status_of e) (closes e)))
    → IfOk result (λ f. lacks_memory e ≡ false) → IsFoundFor fields (Err e) result
found_error fields e (Ok found) alone has = (has, alone)
found_error fields e (Err x) alone has = tt
