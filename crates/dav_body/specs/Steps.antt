-- What one step gives, and what steps have still to give.
use Rattle.std.specs.Prelude.{◌≡◌, ◌⊎◌, List, [], ◌∷◌, Bool, true, false, Option, None, Some, Result, Ok, Err}
use Rattle.std.specs.Option.{option_map}
use Rattle.futures.specs.declared.task.Poll.{Poll}
use Rattle.futures.specs.declared.task.Poll.TheVariants.{Ready, Pending}

-- the item of the slot, the error, or the end
abbrev pub told_of : {I E : Type 0} → Option I → Poll (Result Unit E) → Option (Result I E)
told_of slot (Ready (Ok x)) = None
told_of slot (Ready (Err e)) = Some (Err e)
told_of slot Pending = option_map (λ item. Ok item) slot

-- all that is still to come: items in order, and then the end, or an error in its place
pub record Left (I E : Type 0) : Type 0 where
  pub items : List I
  pub fault : Option E

-- nothing is still to come
abbrev pub nothing_left : {I E : Type 0} → Left I E
nothing_left = record { items = []; fault = None }

-- whether this is the end
abbrev pub is_end : {I E : Type 0} → (E → Bool) → Option (Result I E) → Bool
is_end ends None = true
is_end ends (Some (Ok item)) = false
is_end ends (Some (Err e)) = ends e

-- P, where an item was given
abbrev pub IfItem : {I E : Type 0} → Option (Result I E) → Type 0 → Type 0
IfItem None P = Unit {0}
IfItem (Some (Ok item)) P = P
IfItem (Some (Err e)) P = Unit {0}

-- P, where an error was given that is not the end
abbrev pub IfGoesOn : {I E : Type 0} → (E → Bool) → Option (Result I E) → Type 0 → Type 0
IfGoesOn ends None P = Unit {0}
IfGoesOn ends (Some (Ok item)) P = Unit {0}
IfGoesOn ends (Some (Err e)) P = ends e ≡ false → P

-- The first item is given, and the others stay; at their end the end comes, or the error in its place. Any other error
-- is not the end, and all stays.
abbrev pub IsNextOf : {I E : Type 0} → (E → Bool) → Left I E → Option (Result I E) → Option (Left I E) → Type 0
IsNextOf {I} ends left (Some (Ok item)) after = (rest : List I) × (left.items ≡ item ∷ rest)
    × (after ≡ Some (record { items = rest; fault = left.fault }))
IsNextOf ends left None after = (left.items ≡ []) × (left.fault ≡ None)
IsNextOf ends left (Some (Err e)) after = ((left.items ≡ []) × (left.fault ≡ Some e) × (ends e ≡ true))
    ⊎ ((ends e ≡ false) × (after ≡ Some left))

-- the same, where it was told what is still to come
abbrev pub IsNext : {I E : Type 0} → (E → Bool) → Option (Left I E) → Option (Result I E) → Option (Left I E) → Type 0
IsNext ends None told after = Unit {0}
IsNext ends (Some left) told after = IsNextOf ends left told after
