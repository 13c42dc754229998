-- Runs of polls, and the same as frames.
use Rattle.std.specs.Prelude.{◌≡◌, List, [], ◌∷◌, map, Option, Some, Result, Ok, Err}
use Rattle.std.specs.Option.{option_map}
use Rattle.futures.specs.Runs.{Runs}
use Rattle.http_body.specs.declared.frame.Frame.{Frame}
use Rattle.http_body.specs.Frame.{data_frame}

module _ {B X T : Type 0} (gives : B → X → Option T → B → X → Type 0) where
  -- polls may give these answers in order, and then that one
  abbrev pub MayGive : B → X → Runs T
  MayGive b x [] last = (c : B) × (y : X) × gives b x last c y
  MayGive b x (told ∷ more) last = (c : B) × (y : X) × gives b x (Some told) c y × MayGive c y more last

-- a piece as one data frame
abbrev pub framed : {A E : Type 0} → Result A E → Result (Frame A) E
framed (Ok piece) = Ok (data_frame piece)
framed (Err e) = Err e

-- what may come from source, each piece as one data frame
abbrev pub Framed : {A E : Type 0} → Runs (Result A E) → Runs (Result (Frame A) E)
Framed {A} {E} source frames last =
    (items : List (Result A E)) × (end : Option (Result A E)) × source items end × (frames ≡ map framed items)
    × (last ≡ option_map framed end)

-- one poll of a body gives this answer, its piece as one data frame
abbrev pub FrameGives : {B X A E : Type 0} → (B → X → Option (Result A E) → B → X → Type 0) → B → X → B → X
    → Option (Result (Frame A) E) → Type 0
FrameGives {A = A} {E} gives b x c y answer = (told : Option (Result A E)) × gives b x told c y
    × (answer ≡ option_map framed told)
