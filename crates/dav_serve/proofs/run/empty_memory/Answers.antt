use Rattle.std.proofs.Common.{IfOk, Err, Ok, Result, ap}
use Rattle.dav_memory.specs.Memory.{memory_of}
use Rattle.dav_local.specs.Shown.{knowledge_of}
use Rattle.dav_serve.proofs.run.empty_memory.Goals as goal

-- what follows for the value, if there is one
if_ok : {A E : Type 0} (P Q : A → Type 0) → ((x : A) → P x → Q x) → (r : Result A E) → IfOk r P → IfOk r Q
if_ok P Q h (Ok x) p = h x p
if_ok P Q h (Err e) p = p

pub returns-clause-knows : goal.returns-clause-knows
returns-clause-knows c = if_ok _ _ (λ memory is. ap (λ m. knowledge_of (memory_of m)) is) c.new.result c.new.ensures
