-- The elements of kinds of components.
use Rattle.std.proofs.Common.{◌≡◌, ℕ, zero, suc, ◌+◌, ◌<◌, List, [], ◌∷◌, length, take, get_or, map, refl, ap, arith, add-one}
use Rattle.dav_lock.specs.Forests.{bare, then, joined}
use Rattle.dav_report.specs.Making.{tree, holding, component}
use Rattle.dav_report.specs.declared.caldav.resource.CalendarComponentType.{CalendarComponentType}

step : (xs : List CalendarComponentType) (i : ℕ) (d : CalendarComponentType) → i < length xs
    → joined (holding (map component (take i xs))) (then (tree (component (get_or xs i d))) bare) ≡ holding (map component (take (suc i) xs))
step [] i d h = absurd (omega arith)
step (y ∷ ys) zero d h = refl
step (y ∷ ys) (suc i) d h = ap (then (tree (component y))) (step ys i d (omega arith))

pub kind_step : (xs : List CalendarComponentType) (i : ℕ) (d : CalendarComponentType) → i < length xs
    → joined (holding (map component (take i xs))) (then (tree (component (get_or xs i d))) bare) ≡ holding (map component (take (i + 1) xs))
kind_step xs i d h = rw add-one (step xs i d h)
