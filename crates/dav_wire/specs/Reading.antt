-- What stands at the front of the bytes that are held, and what a call for more does.
use Rattle.std.specs.Prelude.{◌≡◌, ℕ, ◌+◌, ◌<◌, ◌≤◌, ◌^◌, List, [], ◌++◌, length, take, Result, Ok, Err}
use Rattle.dav_io.specs.Counts.{Rose, one_more}
use Rattle.dav_io.specs.Told.{Both}
use Rattle.dav_io.specs.Outside.{Stream}
use Rattle.http.specs.declared.request.Parts.{Parts}
use Rattle.httparse.specs.Grammar.{RequestHead, HasNoRequest, MayBecomeRequest}
use Rattle.dav_io.specs.declared.failure.NoMemory.{NoMemory}
use Rattle.dav_io.specs.declared.failure.Failed.{Failed as SinkFailed}
use Rattle.dav_wire.specs.Heads.{IsRead}
use Rattle.dav_wire.specs.Requests.{IsRequest, Refusal}
use Rattle.dav_wire.specs.declared.next.Found.{Found}
use Rattle.dav_wire.specs.declared.next.Found.TheVariants.{Whole, Refused as FoundRefused, More}
use Rattle.dav_wire.specs.declared.next.ReadError.{ReadError}
use Rattle.dav_wire.specs.declared.next.ReadError.TheVariants.{Failed, TooMuch, NoMemory as WithoutMemory, Unsent}

-- the bytes that were taken from the source and not yet passed, and how many bytes were ever taken
pub record Pending : Type 0 where
  pub bytes : List ℕ
  pub taken : ℕ

-- What stands at the front of the bytes that are held; only a request is passed, and the parts are its. Otherwise more
-- bytes are wanted: of these at most 65,536 no front is a head.
abbrev pub Finds : List ℕ → Result Found NoMemory → Parts → List ℕ → Type 0
Finds held (Ok (Whole plain)) parts rest = (head : RequestHead) × IsRequest held head rest × IsRead head parts
Finds held (Ok FoundRefused) parts rest = Refusal held × (rest ≡ held)
Finds held (Ok More) parts rest = (rest ≡ held) × (length held ≤ 65536) × HasNoRequest held × MayBecomeRequest held
Finds held (Err e) parts rest = rest ≡ held

-- n bytes were taken behind those that are held
pub record Behind (held : Pending) (n : ℕ) (kept : Pending) : Type 0 where
  pub long : length kept.bytes ≡ length held.bytes + n
  pub front : take (length held.bytes) kept.bytes ≡ held.bytes
  pub taken : kept.taken ≡ held.taken + n
  pub before : held.taken < 2 ^ 60
  pub most : kept.taken ≤ 2 ^ 60

-- what is held after a call of the source
abbrev pub Grows : Pending → Result ℕ ReadError → Pending → Type 0
Grows held (Ok n) kept = Behind held n kept
Grows held (Err e) kept = kept ≡ held

-- no byte is lost; 0 is the end
abbrev pub Moves : Pending → Result ℕ ReadError → Pending → List ℕ → List ℕ → Type 0
Moves held result kept before after = (held.bytes ++ before ≡ kept.bytes ++ after) × (result ≡ Ok 0 → before ≡ [])

-- how often a source was asked after a look for more bytes: once more, but not where as many were taken as ever are
abbrev pub asked_after : Result ℕ ReadError → ℕ → ℕ
asked_after (Err TooMuch) asked = asked
asked_after result asked = one_more asked

-- At most one call of the source.
pub record Fills (old : Stream) (held : Pending) (result : Result ℕ ReadError) (kept : Pending)
    (new : Stream) : Type 0 where
  pub asked : new.asked ≡ asked_after result old.asked
  pub counts : old.faults ≤ new.faults
  pub failed : result ≡ Err Failed → Rose old.faults new.faults
  pub fewer : result ≡ Err Failed → held.taken < 2 ^ 60
  pub too_much : result ≡ Err TooMuch → held.taken ≡ 2 ^ 60
  pub sent : result ≡ Err Unsent → ⊥
  pub memory : result ≡ Err WithoutMemory → ⊥
  pub grows : Grows held result kept
  pub told : Both old.bytes new.bytes (Moves held result kept)

-- did the sink take what was given to it, by what the reader gives
abbrev pub sending : {A : Type 0} → Result A ReadError → Result Unit SinkFailed
sending (Ok x) = Ok tt
sending (Err Failed) = Ok tt
sending (Err TooMuch) = Ok tt
sending (Err WithoutMemory) = Ok tt
sending (Err Unsent) = Err (record {})

-- One call of the source, which is made only where the sink took all that was held for it.
abbrev pub FillsThen : Stream → Pending → Result ℕ ReadError → Pending → Stream → Type 0
FillsThen old held (Ok n) kept new = Fills old held (Ok n) kept new
FillsThen old held (Err Failed) kept new = Fills old held (Err Failed) kept new
FillsThen old held (Err TooMuch) kept new = Fills old held (Err TooMuch) kept new
FillsThen old held (Err WithoutMemory) kept new = Fills old held (Err WithoutMemory) kept new
FillsThen old held (Err Unsent) kept new = (kept ≡ held) × (new ≡ old)
