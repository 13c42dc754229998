-- What was found, as a response.
use Rattle.std.proofs.Common.{◌≡◌, Option, None, Result, Ok, Err, refl, sym, subst}
use Rattle.std.specs.Prelude.{IfOk, OnErr}
use Rattle.dav_io.specs.declared.failure.NoMemory.{NoMemory}
use Rattle.dav_core.specs.Disk.{DiskState}
use Rattle.dav_model.specs.declared.target.Target.{Target}
use Rattle.dav_model.specs.declared.target.Target.TheVariants.{At, Methods, Refused, Writes}
use Rattle.dav_model.specs.Conditions.{Fields}
use Rattle.dav_store.specs.FileView.{FileView}
use Rattle.dav_methods.specs.Lines.{Given as GivenBy}
use Rattle.dav_get.specs.declared.body.GetBody.{GetBody}
use Rattle.dav_get.specs.Lives.{OpenOnlyHeld}
use Rattle.dav_get.specs.Table.{Given}
use Rattle.dav_config.specs.declared.finding.Found.{Found}
use Rattle.dav_config.specs.Handling.{Served}
use Rattle.dav_config.specs.Responses.{Responded}
use Rattle.dav_config.specs.Finding.{AnswersBy, EndsFound, FindsFor, IsFoundFor, IsFoundOf, IsHeldIn, Says, Serves, Sought, StarvesBy, settled}
use Rattle.dav_config.specs.Writing.{Brought}

none_held : {F : Type 0} (files : FileView F) (s : DiskState) (body : Option (GetBody F)) → body ≡ None → IsHeldIn files s body
none_held files s body e = subst (IsHeldIn files s) (sym e) tt

module _ {S C F L E : Type 0} (served : Served S C F L E) where
  at_held : (fields : Fields) (s t : S) (given : Given F) (found : Found F) → OpenOnlyHeld served.view s given t → IsFoundFor fields given (Ok found)
      → IsHeldIn served.view.file (served.view.state t) found.body
  at_held fields s t (Ok given) found life (outcome, body) = subst (IsHeldIn served.view.file (served.view.state t)) (sym body) life.0
  at_held fields s t (Err e) found life (memory, alone) = none_held served.view.file (served.view.state t) found.body alone.body

  written_held : (fields : Fields) (t : S) (given : GivenBy) (found : Found F) → IsFoundOf fields given (Ok found) → IsHeldIn served.view.file (served.view.state t) found.body
  written_held fields t (Ok outcome) found (is, body) = none_held served.view.file (served.view.state t) found.body body
  written_held fields t (Err e) found (memory, alone) = none_held served.view.file (served.view.state t) found.body alone.body

  found_held : (target : Target) (sought : Sought C) (b n : Brought) (s t : S) (found : Found F) → FindsFor served target sought b s (Ok found) t n
      → IsHeldIn served.view.file (served.view.state t) found.body
  found_held (Refused status close) sought b n s t found finds = none_held served.view.file (served.view.state t) found.body (finds.found found refl).body
  found_held Methods sought b n s t found finds = none_held served.view.file (served.view.state t) found.body (finds.found found refl).body
  found_held (At method path) sought b n s t found (at, e, set) = at_held sought.head.headers (settled served sought.now s) t at.given found at.gives.life at.found
  found_held (Writes method path) sought b n s t found (w, set) = written_held sought.head.headers t w.given found w.found

  -- The body of what was found may be polled.
  pub served_held : (sought : Sought C) (b n : Brought) (s t : S) (found : Found F) → Serves served sought b s (Ok found) t n
      → IsHeldIn served.view.file (served.view.state t) found.body
  served_held sought b n s t found by = found_held by.target sought by.between n s t found by.finds

  -- a response to it
  pub answered_by : (result : Result (Responded F) NoMemory) (sought : Sought C) (b n : Brought) (s m t : S) (found : Found F) → Serves served sought b s (Ok found) m n
      → IfOk result (Says found) → IfOk result (λ r. t ≡ m) → IfOk result (λ r. AnswersBy served sought b s r t n)
  answered_by (Ok r) sought b n s m t found by says same = record { found = found; serves = subst (λ x. Serves served sought b s (Ok found) x n) (sym same) by; says = says }
  answered_by (Err e) sought b n s m t found by says same = tt

  -- or none, for want of memory
  pub starved_by : (result : Result (Responded F) NoMemory) (sought : Sought C) (b n : Brought) (s m t : S) (found : Found F) → Serves served sought b s (Ok found) m n
      → OnErr result (EndsFound served.view.file.handle (served.view.state m) found.body (served.view.state t)) → OnErr result (StarvesBy served sought b s t n)
  starved_by (Ok r) sought b n s m t found by ends = tt
  starved_by (Err e) sought b n s m t found by ends = record { result = Ok found; between = m; serves = by; undone = ends }
