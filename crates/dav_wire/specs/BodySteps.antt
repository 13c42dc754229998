-- Where a reader of a body stands behind the bytes that it passed, and what a step of it does.
use Rattle.std.specs.Prelude.{ℕ, ◌≡◌, ◌+◌, ◌<◌, ◌≤◌, List, [], ◌++◌, length, take}
use Rattle.dav_wire.specs.Bodies.{most_body, IsBody, BeginsBody, BodyRefusal, IsBodyUnfinished}
use Rattle.dav_wire.specs.Chunks.{HasSize}
use Rattle.dav_wire.specs.declared.announcing.Announced.{Announced}
use Rattle.dav_wire.specs.declared.announcing.Announced.TheVariants.{Sized, InChunks}
use Rattle.dav_wire.specs.declared.body_steps.Halt.{Halt}
use Rattle.dav_wire.specs.declared.body_steps.Halt.TheVariants.{Over as HaltOver, Refused as HaltRefused, Wanting}
use Rattle.dav_wire.specs.declared.body_steps.Stepped.{Stepped}
use Rattle.dav_wire.specs.declared.body_steps.Place.{Place}
use Rattle.dav_wire.specs.declared.body_steps.Place.TheVariants.{Rest, Between, Inside, Last}
use Rattle.dav_wire.specs.declared.body_steps.Step.{Step}
use Rattle.dav_wire.specs.declared.body_steps.Step.TheVariants.{On, Over, More, Refused}

-- Inside a body of a length that is announced: so many bytes are to come.
pub record StandsInSized (announced : Announced) (passed body : List ℕ) (left : ℕ) : Type 0 where
  pub size : ℕ
  pub announced_is : announced ≡ Sized size
  pub few : size ≤ most_body
  pub all : passed ≡ body
  pub counted : length body + left ≡ size

-- Inside a chunk, behind the line with its size and some of its bytes: so many bytes are to come, and a line's end.
pub record StandsInChunk (passed body : List ℕ) (size left : ℕ) : Type 0 where
  pub begun : List ℕ
  pub rest : List ℕ
  pub got : List ℕ
  pub begins : BeginsBody passed begun rest
  pub line : HasSize rest size got
  pub counted : length got + left ≡ size
  pub joined : begun ++ got ≡ body
  pub room : length begun + size ≤ most_body

-- The bytes passed and those of the body so far, by the place of the reader.
abbrev pub Stands : Announced → List ℕ → Place → List ℕ → Type 0
Stands announced passed (Rest left) body = StandsInSized announced passed body left
Stands announced passed Between body = (announced ≡ InChunks) × BeginsBody passed body []
Stands announced passed (Inside left) body =
    (announced ≡ InChunks) × (size : ℕ) × (0 < size) × StandsInChunk passed body size left
Stands announced passed Last body = (announced ≡ InChunks) × StandsInChunk passed body 0 0

-- how many bytes a step passes of those that are held
abbrev pub StepFits : List ℕ → Step → Type 0
StepFits held (On used place) = (0 < used) × (used ≤ length held)
StepFits held (Over used) = used ≤ length held
StepFits held More = length held ≤ 274
StepFits held (Refused flaw) = Unit {0}

-- What a step does at the front of the bytes that are held, to the body so far.
abbrev pub Steps : Announced → List ℕ → List ℕ → Step → List ℕ → Type 0
Steps announced passed held (On used place) body = Stands announced (passed ++ take used held) place body
Steps announced passed held (Over used) body = IsBody announced (passed ++ take used held) body []
Steps announced passed held More body = IsBodyUnfinished announced (passed ++ held)
Steps announced passed held (Refused flaw) body = BodyRefusal announced (passed ++ held) flaw

-- how many bytes steps leave of those that are held, up to one that does not go on
abbrev pub HaltFits : List ℕ → ℕ → Halt → Type 0
HaltFits held used HaltOver = used ≤ length held
HaltFits held used (HaltRefused flaw) = used ≤ length held
HaltFits held used (Wanting place) = (used ≤ length held) × (length held ≤ used + 274)

-- What steps do, up to one that does not go on: so many bytes were passed.
abbrev pub HaltsAt : Announced → List ℕ → List ℕ → ℕ → Halt → List ℕ → Type 0
HaltsAt announced passed held used HaltOver body = IsBody announced (passed ++ take used held) body []
HaltsAt announced passed held used (HaltRefused flaw) body = BodyRefusal announced (passed ++ held) flaw
HaltsAt announced passed held used (Wanting place) body =
    Stands announced (passed ++ take used held) place body × IsBodyUnfinished announced (passed ++ held)

abbrev pub Halts : Announced → List ℕ → List ℕ → Stepped → List ℕ → Type 0
Halts announced passed held end body = HaltsAt announced passed held end.used end.halt body
