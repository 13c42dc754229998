-- What a poll of a body gives.
use Rattle.std.specs.Prelude.{◌≡◌, ℕ, List, [], ◌∷◌, Bool, Option, None, Some, Result, Ok}
use Rattle.dav_body.specs.declared.body.BodyType.{BodyType}
use Rattle.dav_body.specs.declared.body.BodyType.TheVariants.{Bytes, AsyncStream as Stream, Empty}
use Rattle.dav_body.specs.Steps.{Left, nothing_left}
use Rattle.dav_body.specs.Streams.{StreamGives, stream_tells}

-- the body may be polled with this value
abbrev pub MayPoll : {S X : Type 0} → (S → X → Type 0) → BodyType S → X → Type 0
MayPoll may (Bytes bytes) x = Unit {0}
MayPoll may (Stream a) x = may a.steps x
MayPoll may Empty x = Unit {0}

-- Bytes are given once, also where there are none; a stream gives its items; then nothing.
abbrev pub BodyGives : {S X E : Type 0} → (S → X → Option (Result (List ℕ) E) → S → X → Type 0) → (E → Bool)
    → BodyType S → X
    → Option (Result (List ℕ) E) → BodyType S → X → Type 0
BodyGives gives ends (Bytes (Some bytes)) x told b y = (told ≡ Some (Ok bytes)) × (b ≡ Bytes None) × (y ≡ x)
BodyGives gives ends (Bytes None) x told b y = (told ≡ None) × (b ≡ Bytes None) × (y ≡ x)
BodyGives gives ends (Stream a) x told (Stream c) y = StreamGives gives ends a x told c y
BodyGives gives ends (Stream a) x told (Bytes bytes) y = ⊥
BodyGives gives ends (Stream a) x told Empty y = ⊥
BodyGives gives ends Empty x told b y = (told ≡ None) × (b ≡ Empty) × (y ≡ x)

-- all that a body has still to give, where it is told
abbrev pub body_tells : {S X E : Type 0} → (S → X → Option (Left (List ℕ) E)) → BodyType S → X
    → Option (Left (List ℕ) E)
body_tells tells (Bytes (Some bytes)) x = Some (record { items = bytes ∷ []; fault = None })
body_tells tells (Bytes None) x = Some nothing_left
body_tells tells (Stream a) x = stream_tells tells a x
body_tells tells Empty x = Some nothing_left

-- a bound on the number of pieces to come
abbrev pub body_most : {S : Type 0} → (S → ℕ) → BodyType S → ℕ
body_most most (Bytes (Some bytes)) = 1
body_most most (Bytes None) = 0
body_most most (Stream a) = most a.steps
body_most most Empty = 0

-- Polls gave these answers, in order. What is lent may be changed by others between two polls.
abbrev pub PollsGive : {B X T : Type 0} → (B → X → Option T → B → X → Type 0) → B → List (Option T) → B → Type 0
PollsGive gives b [] c = c ≡ b
PollsGive {B} {X} gives b (told ∷ more) c = (m : B) × (x : X) × (y : X) × gives b x told m y × PollsGive gives m more c
