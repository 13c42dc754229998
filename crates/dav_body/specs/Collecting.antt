-- What a run of polls gives, joined.
use Rattle.std.specs.Prelude.{◌≡◌, ◌⊎◌, ℕ, List, [], ◌∷◌, Bool, true, Option, None, Some, Result, Ok, Err, flat_map}
use Rattle.dav_body.specs.declared.fault.BodyFault.{BodyFault}
use Rattle.dav_body.specs.declared.fault.BodyFault.TheVariants.{Broken, NoMemory}
use Rattle.dav_body.specs.Steps.{Left}

-- the pieces, joined
abbrev pub joined : List (List ℕ) → List ℕ
joined = flat_map (λ piece. piece)

module _ {B X E : Type 0} (gives : B → X → Option (Result (List ℕ) E) → B → X → Type 0) where
  -- polls gave these pieces, in order
  abbrev pub Gave : B → X → List (List ℕ) → B → X → Type 0
  Gave b x [] c y = (c ≡ b) × (y ≡ x)
  Gave b x (piece ∷ pieces) c y = (m : B) × (z : X) × gives b x (Some (Ok piece)) m z × Gave m z pieces c y

  -- polls gave these pieces, and then the end or an error
  pub record GaveThen (b : B) (x : X) (pieces : List (List ℕ)) (last : Option (Result (List ℕ) E)) (c : B) (y : X)
      : Type 0 where
    pub before : B
    pub with : X
    pub gave : Gave b x pieces before with
    pub ends : gives before with last c y

module _ {B X : Type 0} (gives : B → X → Option (Result (List ℕ) BodyFault) → B → X → Type 0) where
  -- All pieces up to the end, joined; or the error that a poll gave; or no memory to join them.
  abbrev pub Collects : B → X → Result (List ℕ) BodyFault → B → X → Type 0
  Collects b x (Ok octets) c y = (pieces : List (List ℕ)) × GaveThen gives b x pieces None c y
      × (octets ≡ joined pieces)
  Collects b x (Err Broken) c y = (pieces : List (List ℕ)) × GaveThen gives b x pieces (Some (Err Broken)) c y
  Collects b x (Err NoMemory) c y = (pieces : List (List ℕ))
      × (Gave gives b x pieces c y ⊎ GaveThen gives b x pieces (Some (Err NoMemory)) c y)

-- By what was told beforehand: all of it, joined, where there is no error in its end's place; a break that is the end
-- only where it stands in the end's place. Want of memory may be that of joining.
abbrev pub IsAllOf : (BodyFault → Bool) → Option (Left (List ℕ) BodyFault) → Result (List ℕ) BodyFault → Type 0
IsAllOf ends None result = Unit {0}
IsAllOf ends (Some left) (Ok octets) = (left.fault ≡ None) × (octets ≡ joined left.items)
IsAllOf ends (Some left) (Err Broken) = ends Broken ≡ true → left.fault ≡ Some Broken
IsAllOf ends (Some left) (Err NoMemory) = Unit {0}
