-- One more piece that was taken.
use Rattle.std.proofs.Common.{◌≡◌, ℕ, List, [], ◌∷◌, ◌++◌, Bool, Option, None, Some, Result, Ok, Err, refl, sym, ◌∙◌, ap, inl, append_assoc}
use Rattle.std.proofs.lemmas.List.{append-nil}
use Rattle.std.proofs.lemmas.Grind.{flat_map-append}
use Rattle.dav_body.specs.Steps.{Left, IsNext}
use Rattle.std.specs.Result.{IsErrAnd}
use Rattle.dav_body.specs.declared.fault.BodyFault.{BodyFault}
use Rattle.dav_body.specs.declared.fault.BodyFault.TheVariants.{Broken, NoMemory}
use Rattle.dav_body.specs.Collecting.{joined, Gave, Collects}

module _ {B X E : Type 0} (gives : B → X → Option (Result (List ℕ) E) → B → X → Type 0) where
  -- the same from an equal place
  from_same : (b : B) (x : X) (c : B) (y : X) (piece : List ℕ) (d : B) (z : X) → c ≡ b → y ≡ x → gives c y (Some (Ok piece)) d z → gives b x (Some (Ok piece)) d z
  from_same b x c y piece d z e f gave = rw (← e, ← f) gave

  pub gave_more : (b : B) (x : X) (pieces : List (List ℕ)) (c : B) (y : X) (piece : List ℕ) (d : B) (z : X)
      → Gave gives b x pieces c y → gives c y (Some (Ok piece)) d z → Gave gives b x (pieces ++ piece ∷ []) d z
  gave_more b x [] c y piece d z (same, still) next = (d, z, from_same b x c y piece d z same still next, (refl, refl))
  gave_more b x (first ∷ pieces) c y piece d z (m, w, gave, rest) next = (m, w, gave, gave_more m w pieces c y piece d z rest next)

pub joined_more : (pieces : List (List ℕ)) (piece : List ℕ) → joined (pieces ++ piece ∷ []) ≡ joined pieces ++ piece
joined_more pieces piece = flat_map-append (λ (p : List ℕ). p) pieces (piece ∷ []) ∙ ap (λ (t : List ℕ). joined pieces ++ t) (append-nil piece)

-- what was taken so far
abbrev pub Taken : {B X E : Type 0} → (B → X → Option (Result (List ℕ) E) → B → X → Type 0) → B → X → List ℕ → B → X → Type 0
Taken gives b x text c y = (pieces : List (List ℕ)) × Gave gives b x pieces c y × (text ≡ joined pieces)

module _ {B X : Type 0} (gives : B → X → Option (Result (List ℕ) BodyFault) → B → X → Type 0) where
  pub taken_more : (b : B) (x : X) (text : List ℕ) (c : B) (y : X) (piece : List ℕ) (d : B) (z : X)
      → Taken gives b x text c y → gives c y (Some (Ok piece)) d z → Taken gives b x (text ++ piece) d z
  taken_more b x text c y piece d z (pieces, gave, is) next =
      (pieces ++ piece ∷ [], gave_more gives b x pieces c y piece d z gave next, ap (λ (t : List ℕ). t ++ piece) is ∙ sym (joined_more pieces piece))

  pub no_room : (b : B) (x : X) (text : List ℕ) (c : B) (y : X) (piece : List ℕ) (d : B) (z : X) (result : Result (List ℕ) BodyFault)
      → Taken gives b x text c y → gives c y (Some (Ok piece)) d z → IsErrAnd result (λ (e : BodyFault). e ≡ NoMemory) → Collects gives b x result d z
  no_room b x text c y piece d z (Ok octets) taken next refused = absurd refused
  no_room b x text c y piece d z (Err Broken) taken next refused = cc
  no_room b x text c y piece d z (Err NoMemory) (pieces, gave, is) next refused = (pieces ++ piece ∷ [], inl (gave_more gives b x pieces c y piece d z gave next))

-- what is taken and what is left are all that was told
abbrev pub IsStill : {E : Type 0} → Option (Left (List ℕ) E) → List ℕ → Option (Left (List ℕ) E) → Type 0
IsStill None text now = Unit {0}
IsStill (Some left) text now = (rest : List (List ℕ)) × (now ≡ Some (record { items = rest; fault = left.fault })) × (text ++ joined rest ≡ joined left.items)

pub still_at_first : {E : Type 0} (told : Option (Left (List ℕ) E)) → IsStill told [] told
still_at_first None = tt
still_at_first (Some left) = (left.items, refl, refl)

module _ {E : Type 0} (ends : E → Bool) where
  moves_on : (left : Left (List ℕ) E) (text piece : List ℕ) (rest : List (List ℕ)) (after : Option (Left (List ℕ) E))
      → IsNext ends (Some (record { items = rest; fault = left.fault })) (Some (Ok piece)) after → text ++ joined rest ≡ joined left.items → IsStill (Some left) (text ++ piece) after
  moves_on left text piece rest after (more, is, next) so_far =
      (more, next, append_assoc text piece (joined more) ∙ ap (λ (r : List (List ℕ)). text ++ joined r) (sym is) ∙ so_far)

  pub still_more : (told : Option (Left (List ℕ) E)) (text piece : List ℕ) (now after : Option (Left (List ℕ) E))
      → IsStill told text now → IsNext ends now (Some (Ok piece)) after → IsStill told (text ++ piece) after
  still_more None text piece now after still next = tt
  still_more (Some left) text piece now after (rest, is, so_far) next = moves_on left text piece rest after (rw is at next) so_far
