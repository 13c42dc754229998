-- What a reader of a body does to its input, and what it gives.
use Rattle.std.specs.Prelude.{◌≡◌, ℕ, ◌+◌, ◌<◌, ◌≤◌, ◌^◌, List, [], ◌++◌, length, Result, Ok, Err}
use Rattle.dav_io.specs.Counts.{Rose}
use Rattle.dav_io.specs.Told.{Both}
use Rattle.dav_io.specs.Outside.{Stream}
use Rattle.dav_wire.specs.Bodies.{IsBody, BodyRefusal, IsBodyUnfinished}
use Rattle.dav_wire.specs.Reading.{Pending}
use Rattle.dav_wire.specs.declared.announcing.Announced.{Announced}
use Rattle.dav_wire.specs.declared.next.BodyRead.{BodyRead}
use Rattle.dav_wire.specs.declared.next.BodyRead.TheVariants.{Whole, Refused, Ended}
use Rattle.dav_wire.specs.declared.next.ReadError.{ReadError}
use Rattle.dav_wire.specs.declared.next.ReadError.TheVariants.{Failed, TooMuch, NoMemory as WithoutMemory, Unsent}

-- Bytes were got from the source. Of those that were held before and these a front was passed, and the others are held.
pub record ReadsOn (old : Stream) (held : Pending) (passed : List ℕ) (kept : Pending) (new : Stream) : Type 0 where
  pub got : List ℕ
  pub whole : held.bytes ++ got ≡ passed ++ kept.bytes
  pub taken : kept.taken ≡ held.taken + length got
  pub counts : old.faults ≤ new.faults
  pub told : Both old.bytes new.bytes (λ before after. before ≡ got ++ after)

-- What a reader of a body gives, by the bytes that it passed and those that are held behind them. Where memory is
-- refused, no byte is lost either.
abbrev pub GivesBody : Announced → Stream → Result BodyRead ReadError → List ℕ → Pending → Stream → Type 0
GivesBody announced old (Ok (Whole body)) passed kept new = IsBody announced passed body []
GivesBody announced old (Ok (Refused flaw)) passed kept new = BodyRefusal announced (passed ++ kept.bytes) flaw
GivesBody announced old (Ok Ended) passed kept new =
    IsBodyUnfinished announced (passed ++ kept.bytes) × (kept.taken < 2 ^ 60)
    × Both old.bytes new.bytes (λ before after. after ≡ [])
GivesBody announced old (Err Failed) passed kept new =
    IsBodyUnfinished announced (passed ++ kept.bytes) × (kept.taken < 2 ^ 60) × Rose old.faults new.faults
GivesBody announced old (Err TooMuch) passed kept new =
    IsBodyUnfinished announced (passed ++ kept.bytes) × (kept.taken ≡ 2 ^ 60)
GivesBody announced old (Err WithoutMemory) passed kept new = Unit {0}
GivesBody announced old (Err Unsent) passed kept new = IsBodyUnfinished announced (passed ++ kept.bytes)

-- A body was read: bytes were passed, and what is given holds of them.
pub record ReadsBody (announced : Announced) (old : Stream) (held : Pending) (result : Result BodyRead ReadError)
    (kept : Pending) (new : Stream) : Type 0 where
  pub passed : List ℕ
  pub on : ReadsOn old held passed kept new
  pub gives : GivesBody announced old result passed kept new

-- Where the source was asked and gave no more, nothing waits for the sink.
abbrev pub IsEmptiedBy : Result BodyRead ReadError → List ℕ → Type 0
IsEmptiedBy (Ok (Whole body)) waiting = Unit {0}
IsEmptiedBy (Ok (Refused flaw)) waiting = Unit {0}
IsEmptiedBy (Ok Ended) waiting = waiting ≡ []
IsEmptiedBy (Err WithoutMemory) waiting = Unit {0}
IsEmptiedBy (Err Failed) waiting = waiting ≡ []
IsEmptiedBy (Err TooMuch) waiting = waiting ≡ []
IsEmptiedBy (Err Unsent) waiting = waiting ≡ []
