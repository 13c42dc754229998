-- A reader of a request's body, polled up to its end.
use Rattle.std.specs.Prelude.{ℕ, List, Bool, true, Option, None, Some, Result, Ok, Err}
use Rattle.dav_io.specs.declared.failure.Failed.{Failed}
use Rattle.dav_store.specs.Bodies.{BodyState, GivesPiece}
use Rattle.dav_body.specs.Streams.{GivesUntil}

-- what a call of a reader answers
abbrev pub read_of : Option (Result (List ℕ) Failed) → Result (Option (List ℕ)) Failed
read_of None = Ok None
read_of (Some (Ok piece)) = Ok (Some piece)
read_of (Some (Err error)) = Err error

-- one call of a reader, which is lent nothing
abbrev pub Reads : BodyState → Unit {0} → Option (Result (List ℕ) Failed) → BodyState → Unit {0} → Type 0
Reads s x told t y = GivesPiece s (read_of told) t

-- One poll of a reader and of whether it has ended: a call of the reader, and None for good after None or an error.
abbrev pub ReadsUntil : BodyState × Bool → Unit {0} → Option (Result (List ℕ) Failed) → BodyState × Bool → Unit {0}
    → Type 0
ReadsUntil s x told t y = GivesUntil Reads (λ error. true) s.1 s.0 x told t.0 y t.1
