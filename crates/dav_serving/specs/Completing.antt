-- Which status a run ends with where no fault ends it, by the bytes of its input alone, or by them and the answers.
use Rattle.dav_model.specs.Play.{Stage}
use Rattle.std.specs.Prelude.{◌≡◌, ◌<◌, ◌^◌, ◌⊎◌, ℕ, List, [], ◌∷◌, ◌++◌, length, Some}
use Rattle.std.specs.List.{AllByRecursion}
use Rattle.http.specs.declared.request.Parts.{Parts}
use Rattle.httparse.specs.Grammar.{RequestHead}
use Rattle.dav_io.specs.Counts.{RefusedNothing}
use Rattle.dav_model.specs.Trail.{Point}
use Rattle.dav_wire.specs.Heads.{IsRead}
use Rattle.dav_wire.specs.Messages.{Message, Messages, HasNoMessage}
use Rattle.dav_serving.specs.Exchange.{Exchange, IsLast}
use Rattle.dav_serving.specs.Serving.{Setup, Chain, Alike, IsOpen, ready}
use Rattle.dav_serving.specs.Stages.{Outside}

-- Source, sink and disk refused nothing.
pub record Faultless (before after : Outside) : Type 0 where
  pub by_source : RefusedNothing before.source.faults after.source.faults
  pub by_sink : RefusedNothing before.sink.faults after.sink.faults
  pub by_disk : RefusedNothing before.disk.faults after.disk.faults

-- The last of these requests closes: no exchanges that answer them from here on leave the connection open.
abbrev pub Closes : Setup → Point → List Message → Type 0
Closes setup s messages = (xs : List Exchange) (last : Stage)
    → Chain setup.rules (ready setup.rules setup.knows s) xs last → Alike setup messages xs → AllByRecursion IsOpen xs
    → ⊥

-- None of these requests closes: exchanges that answer the first of them leave the connection open.
abbrev pub StayOpen : Setup → Point → List Message → Type 0
StayOpen setup s messages = (front back : List Message) → messages ≡ front ++ back → (xs : List Exchange) (last : Stage)
    → Chain setup.rules (ready setup.rules setup.knows s) xs last → Alike setup front xs → AllByRecursion IsOpen xs

-- Where the disk refuses nothing, the last of these requests closes: no exchanges that answer them from here on, over a
-- disk that refused nothing, leave the connection open.
abbrev pub ClosesStill : Setup → Point → List Message → Type 0
ClosesStill setup s messages = (xs : List Exchange) (last : Stage)
    → Chain setup.rules (ready setup.rules setup.knows s) xs last → RefusedNothing s.faults last.at.faults
    → Alike setup messages xs → AllByRecursion IsOpen xs → ⊥

-- Where the disk refuses nothing, none of these requests closes: exchanges that answer the first of them, over a disk
-- that refused nothing, leave the connection open.
abbrev pub StayOpenStill : Setup → Point → List Message → Type 0
StayOpenStill setup s messages = (front back : List Message) → messages ≡ front ++ back → (xs : List Exchange)
    (last : Stage)
    → Chain setup.rules (ready setup.rules setup.knows s) xs last → RefusedNothing s.faults last.at.faults
    → Alike setup front xs → AllByRecursion IsOpen xs

-- By its head alone a request is the last.
abbrev pub LastByHead : RequestHead → Type 0
LastByHead head = (parts : Parts) → IsRead head parts → IsLast parts

-- The input is valid requests, each with its body, to its end, or to one whose answer closes.
pub record IsValid (setup : Setup) (s : Point) (bytes : List ℕ) : Type 0 where
  pub messages : List Message
  pub rest : List ℕ
  pub requests : Messages bytes messages rest
  pub ends : (rest ≡ []) ⊎ Closes setup s messages

-- The input is valid requests to one that asks that the connection closes.
pub record IsLeft (bytes : List ℕ) : Type 0 where
  pub messages : List Message
  pub last : Message
  pub rest : List ℕ
  pub requests : Messages bytes (messages ++ last ∷ []) rest
  pub asks : LastByHead last.head

-- Behind valid requests of which none closes, the input has bytes that are no request.
pub record IsInvalid (setup : Setup) (s : Point) (bytes : List ℕ) : Type 0 where
  pub messages : List Message
  pub rest : List ℕ
  pub requests : Messages bytes messages rest
  pub some : 0 < length rest
  pub none : HasNoMessage rest
  pub stay : StayOpen setup s messages

-- The input is valid requests, each with its body, to its end, or to one whose answer closes where the disk refuses
-- nothing. So closing may depend on what stands there: a failure, which leaves the connection open, could take the place
-- of each answer otherwise.
pub record IsValidStill (setup : Setup) (s : Point) (bytes : List ℕ) : Type 0 where
  pub messages : List Message
  pub rest : List ℕ
  pub requests : Messages bytes messages rest
  pub ends : (rest ≡ []) ⊎ ClosesStill setup s messages

-- Behind valid requests of which none closes where the disk refuses nothing, the input has bytes that are no request.
pub record IsInvalidStill (setup : Setup) (s : Point) (bytes : List ℕ) : Type 0 where
  pub messages : List Message
  pub rest : List ℕ
  pub requests : Messages bytes messages rest
  pub some : 0 < length rest
  pub none : HasNoMessage rest
  pub stay : StayOpenStill setup s messages

-- A fault ended the run, or 2^60 bytes were taken.
abbrev pub IsStopped : ℕ → Type 0
IsStopped status = (status ≡ 3) ⊎ ((status ≡ 4) ⊎ ((status ≡ 5) ⊎ (status ≡ 7)))

-- The status by the bytes of the input, where the source tells them. Where the disk refused nothing, which answers close
-- is asked of a disk that refuses nothing. With no fault, and below 2^60 bytes, nothing stops a run.
pub record StatusIs (setup : Setup) (before after : Outside) (status : ℕ) : Type 0 where
  pub valid : (bytes : List ℕ) → before.source.bytes ≡ Some bytes → IsValid setup before.disk bytes → (status ≡ 0)
      ⊎ IsStopped status
  pub left : (bytes : List ℕ) → before.source.bytes ≡ Some bytes → IsLeft bytes → (status ≡ 0) ⊎ IsStopped status
  pub invalid : (bytes : List ℕ) → before.source.bytes ≡ Some bytes → IsInvalid setup before.disk bytes → (status ≡ 6)
      ⊎ IsStopped status
  pub valid_still : (bytes : List ℕ) → before.source.bytes ≡ Some bytes
      → RefusedNothing before.disk.faults after.disk.faults → IsValidStill setup before.disk bytes → (status ≡ 0)
      ⊎ IsStopped status
  pub invalid_still : (bytes : List ℕ) → before.source.bytes ≡ Some bytes
      → RefusedNothing before.disk.faults after.disk.faults → IsInvalidStill setup before.disk bytes → (status ≡ 6)
      ⊎ IsStopped status
  pub goes_on : (bytes : List ℕ) → before.source.bytes ≡ Some bytes → length bytes < 2 ^ 60 → Faultless before after
      → IsStopped status → ⊥
