-- Things that stand in turn: they join, and they are the only ones where one of a kind stands at a place.
use Rattle.std.proofs.Common.{◌≡◌, ℕ, List, [], ◌∷◌, ◌++◌, refl, sym, ap₂, ◌∙◌, subst}
use Rattle.dav_wire.specs.Requests.{InTurn}

module _ {H : Type 0} (Is : List ℕ → H → List ℕ → Type 0) where
  pub in_turn_join : (left mid rest : List ℕ) (xs more : List H) → InTurn Is left xs mid → InTurn Is mid more rest → InTurn Is left (xs ++ more) rest
  in_turn_join left mid rest [] more a b = subst (λ (x : List ℕ). InTurn Is x more rest) a b
  in_turn_join left mid rest (x ∷ xs) more (after, first, others) b = (after, first, in_turn_join after mid rest xs more others b)

  pub in_turn_are_one : ((left : List ℕ) (x other : H) (rest behind : List ℕ) → Is left x rest → Is left other behind → (x ≡ other) × (rest ≡ behind))
      → (left rest behind : List ℕ) (xs others : List H) → InTurn Is left xs rest → ((x : H) (after : List ℕ) → Is rest x after → ⊥)
      → InTurn Is left others behind → ((x : H) (after : List ℕ) → Is behind x after → ⊥) → (xs ≡ others) × (rest ≡ behind)
  in_turn_are_one one left rest behind [] [] a none b nor = (refl, a ∙ sym b)
  in_turn_are_one one left rest behind [] (other ∷ others) a none (after, first, later) nor =
      absurd (none other after (subst (λ (x : List ℕ). Is x other after) (sym a) first))
  in_turn_are_one one left rest behind (x ∷ xs) [] (after, first, later) none b nor = absurd (nor x after (subst (λ (y : List ℕ). Is y x after) (sym b) first))
  in_turn_are_one one left rest behind (x ∷ xs) (other ∷ others) (after, first, later) none (then, second, more) nor =
      let same = one left x other after then first second in
      let rests = in_turn_are_one one then rest behind xs others (subst (λ (y : List ℕ). InTurn Is y xs rest) same.1 later) none more nor in
      (ap₂ (λ (y : H) (ys : List H). y ∷ ys) same.0 rests.0, rests.1)
