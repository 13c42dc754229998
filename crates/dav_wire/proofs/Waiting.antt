-- A call of the source behind a flush.
use Rattle.std.proofs.Common.{◌≡◌, ℕ, List, [], Result, Ok, Err, refl, sym, subst}
use Rattle.dav_io.specs.declared.failure.Failed.{Failed as SinkFailed}
use Rattle.dav_io.specs.Outside.{Stream}
use Rattle.dav_wire.specs.Reading.{Fills, FillsThen, sending, Pending}
use Rattle.dav_wire.specs.Writing.{Pushes}
use Rattle.dav_wire.specs.declared.next.ReadError.{ReadError}
use Rattle.dav_wire.specs.declared.next.ReadError.TheVariants.{Failed, TooMuch, NoMemory as WithoutMemory, Unsent}

pub fills_then : (old new : Stream) (held kept : Pending) (r : Result ℕ ReadError) → Fills old held r kept new → FillsThen old held r kept new
fills_then old new held kept (Ok n) f = f
fills_then old new held kept (Err Failed) f = f
fills_then old new held kept (Err TooMuch) f = f
fills_then old new held kept (Err WithoutMemory) f = f
fills_then old new held kept (Err Unsent) f = absurd (f.sent refl)

count_sending : (r : Result ℕ ReadError) → (r ≡ Err Unsent → ⊥) → sending r ≡ Ok tt
count_sending (Ok n) none = refl
count_sending (Err Failed) none = refl
count_sending (Err TooMuch) none = refl
count_sending (Err WithoutMemory) none = refl
count_sending (Err Unsent) none = absurd (none refl)

pub sends_before : (old new : Stream) (held later : List ℕ) (source filled : Stream) (before kept : Pending) (r : Result ℕ ReadError)
    → Fills source before r kept filled
    → Pushes old held [] (Ok tt) later new → Pushes old held [] (sending r) later new
sends_before old new held later source filled before kept r f p =
    subst (λ (x : Result Unit SinkFailed). Pushes old held [] x later new) (sym (count_sending r f.sent)) p
