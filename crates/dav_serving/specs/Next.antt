-- What a look for the next request of an input does, and what it gives.
use Rattle.std.specs.Prelude.{◌≡◌, ℕ, Bool, ◌<◌, ◌^◌, List, [], ◌∷◌, ◌++◌, Result, Ok, Err}
use Rattle.http.specs.Request.{body_of, head_of}
use Rattle.httparse.specs.Grammar.{RequestHead}
use Rattle.dav_io.specs.Counts.{Rose}
use Rattle.dav_io.specs.Outside.{Stream}
use Rattle.dav_wire.specs.BodyReading.{ReadsOn}
use Rattle.dav_wire.specs.Heads.{IsRead}
use Rattle.dav_wire.specs.Messages.{IsMessage, MessageRefusal, IsMessageUnfinished}
use Rattle.dav_wire.specs.Reading.{Pending}
use Rattle.dav_wire.specs.declared.next.BodyRead.{BodyRead}
use Rattle.dav_wire.specs.declared.next.BodyRead.TheVariants.{Whole as BodyWhole, Refused as BodyRefused, Ended}
use Rattle.dav_wire.specs.declared.next.ReadError.{ReadError}
use Rattle.dav_wire.specs.declared.next.ReadError.TheVariants.{Failed, TooMuch, NoMemory as WithoutMemory, Unsent}
use Rattle.dav_model.specs.Conditions.{Asked}
use Rattle.dav_serving.specs.Serving.{IsEmptied, IsWanting}
use Rattle.dav_serving.specs.declared.asking.Next.{Next}
use Rattle.dav_serving.specs.declared.asking.Next.TheVariants.{Whole, Refused, Over, Unfinished}

-- what comes next behind a head, by whether its fields are known to be plain, and by what came of reading the body behind
-- it
abbrev pub next_by : Bool → BodyRead → Next
next_by plain (BodyWhole body) = Whole plain
next_by plain (BodyRefused flaw) = Refused flaw
next_by plain Ended = Unfinished

-- These bytes are the body that was read, where one was.
abbrev pub HasBodyOf : BodyRead → List ℕ → Type 0
HasBodyOf (BodyWhole body) bytes = bytes ≡ body
HasBodyOf (BodyRefused flaw) bytes = Unit {0}
HasBodyOf Ended bytes = Unit {0}

-- what an input is at its end, by what is held there
abbrev pub over_with : List ℕ → Next
over_with [] = Over
over_with (b ∷ bytes) = Unfinished

-- What is given, by the bytes that were held and those that came behind them, and by what is held now of these. Where a
-- request came whole, it is the one that is asked.
abbrev pub GivesNext : Stream → Result Next ReadError → Asked → List ℕ → Pending → Stream → Type 0
GivesNext old (Ok (Whole plain)) asked text kept new =
    (head : RequestHead) × IsRead head (head_of asked)
    × IsMessage text (record { head = head; body = body_of asked }) kept.bytes
GivesNext old (Ok (Refused flaw)) asked text kept new = MessageRefusal text flaw
GivesNext old (Ok Over) asked text kept new = (text ≡ []) × (kept.taken < 2 ^ 60) × IsEmptied old new
GivesNext old (Ok Unfinished) asked text kept new =
    IsMessageUnfinished text × (kept.taken < 2 ^ 60) × IsEmptied old new
GivesNext old (Err Failed) asked text kept new = IsWanting text × (kept.taken < 2 ^ 60) × Rose old.faults new.faults
GivesNext old (Err TooMuch) asked text kept new = IsWanting text × (kept.taken ≡ 2 ^ 60)
GivesNext old (Err WithoutMemory) asked text kept new = Unit {0}
GivesNext old (Err Unsent) asked text kept new = Unit {0}

-- The next request was looked for: a front of the bytes was passed, and what is given holds of all.
pub record ReadsNext (old : Stream) (held : Pending) (result : Result Next ReadError) (asked : Asked)
    (kept : Pending) (new : Stream) : Type 0 where
  pub passed : List ℕ
  pub on : ReadsOn old held passed kept new
  pub gives : GivesNext old result asked (passed ++ kept.bytes) kept new

-- Where the source was asked and gave no more, nothing waits for the sink.
abbrev pub IsEmptiedBy : Result Next ReadError → List ℕ → Type 0
IsEmptiedBy (Ok (Whole plain)) waiting = Unit {0}
IsEmptiedBy (Ok (Refused flaw)) waiting = Unit {0}
IsEmptiedBy (Ok Over) waiting = waiting ≡ []
IsEmptiedBy (Ok Unfinished) waiting = waiting ≡ []
IsEmptiedBy (Err WithoutMemory) waiting = Unit {0}
IsEmptiedBy (Err Failed) waiting = waiting ≡ []
IsEmptiedBy (Err TooMuch) waiting = waiting ≡ []
IsEmptiedBy (Err Unsent) waiting = waiting ≡ []
