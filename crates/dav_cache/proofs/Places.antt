-- The places of callers, after one of them goes to another place.
use Rattle.std.proofs.Common.{◌≡◌, ◌≢◌, ℕ, zero, suc, List, [], ◌∷◌, Some, refl, ap, replicate, slice_get, slice_set}
use Rattle.dav_cache.specs.Core.{Place}

pub get-set_same : (ps : List Place) (c : ℕ) (p q : Place) → slice_get ps c ≡ Some q → slice_get (slice_set ps c p) c ≡ Some p
get-set_same [] c p q h = cc
get-set_same (r ∷ ps) zero p q h = refl
get-set_same (r ∷ ps) (suc c) p q h = get-set_same ps c p q h

pub get-set_other : (ps : List Place) (c i : ℕ) (p q : Place) → i ≢ c → slice_get (slice_set ps c p) i ≡ Some q → slice_get ps i ≡ Some q
get-set_other [] c i p q ne h = h
get-set_other (r ∷ ps) zero zero p q ne h = absurd (ne refl)
get-set_other (r ∷ ps) zero (suc i) p q ne h = h
get-set_other (r ∷ ps) (suc c) zero p q ne h = h
get-set_other (r ∷ ps) (suc c) (suc i) p q ne h = get-set_other ps c i p q (λ e. ne (ap suc e)) h

pub get-set_own : (ps : List Place) (c : ℕ) (p q : Place) → slice_get (slice_set ps c p) c ≡ Some q → p ≡ q
get-set_own [] c p q h = cc
get-set_own (r ∷ ps) zero p q h = cc
get-set_own (r ∷ ps) (suc c) p q h = get-set_own ps c p q h

pub get-replicate : (n c : ℕ) (p q : Place) → slice_get (replicate n p) c ≡ Some q → p ≡ q
get-replicate zero c p q h = cc
get-replicate (suc n) zero p q h = cc
get-replicate (suc n) (suc c) p q h = get-replicate n c p q h
