-- What a poll of a stream gives.
use Rattle.std.specs.Prelude.{◌≡◌, Bool, true, false, Option, None, Some, Result}
use Rattle.futures.specs.declared.task.Poll.{Poll}
use Rattle.futures.specs.declared.task.Poll.TheVariants.{Ready, Pending}
use Rattle.dav_body.specs.declared.stream.AsyncStream.{AsyncStream}
use Rattle.dav_body.specs.Steps.{Left, nothing_left, is_end}

-- the poll is ready with what P says
abbrev pub IsReady : {T : Type 0} → Poll T → (T → Type 0) → Type 0
IsReady (Ready x) P = P x
IsReady Pending P = ⊥

module _ {S X I E : Type 0} (gives : S → X → Option (Result I E) → S → X → Type 0) (ends : E → Bool) where
  -- an ended stream gives its end, and nothing changes; any other gives what one step gives
  abbrev pub GivesUntil : Bool → S → X → Option (Result I E) → S → X → Bool → Type 0
  GivesUntil true s x told t y after = (told ≡ None) × (t ≡ s) × (y ≡ x) × (after ≡ true)
  GivesUntil false s x told t y after = gives s x told t y × (after ≡ is_end ends told)

  abbrev pub StreamGives : AsyncStream S → X → Option (Result I E) → AsyncStream S → X → Type 0
  StreamGives a x told b y = GivesUntil a.ended a.steps x told b.steps y b.ended

module _ {S X I E : Type 0} (tells : S → X → Option (Left I E)) where
  abbrev pub tells_until : Bool → S → X → Option (Left I E)
  tells_until true s x = Some nothing_left
  tells_until false s x = tells s x

  -- all that a stream has still to give, where its steps tell it
  abbrev pub stream_tells : AsyncStream S → X → Option (Left I E)
  stream_tells a x = tells_until a.ended a.steps x
