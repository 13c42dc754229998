-- Entries in another order.
use Rattle.std.specs.Prelude.{◌≡◌, ◌≤◌, ◌+◌, ℕ, List, [], ◌∷◌, Bool, true, false, cond, length, Option, None, Some, refl}
use Rattle.std.specs.Map.{lookup, lookup_entry, remove_entry}
use Rattle.std.specs.Option.{option_map_or}
use Rattle.std.proofs.Common.{arith}
use Rattle.lru.specs.LruCache.{promoted}
use Rattle.dav_readcache.specs.Shelf.{AreWithin, Pairs, total}

module _ (test : List ℕ → Bool) where
  -- what is taken out, where it is
  abbrev taken_total : Option (List ℕ × List ℕ) → ℕ
  taken_total None = 0
  taken_total (Some pair) = length pair.1

  abbrev IsTakenWithin : ℕ → Option (List ℕ × List ℕ) → Type 0
  IsTakenWithin most None = Unit {0}
  IsTakenWithin most (Some pair) = length pair.1 ≤ most

  total_when : (b : Bool) (p : List ℕ × List ℕ) (pairs : Pairs)
      → taken_total (lookup_entry test pairs) + total (remove_entry test pairs) ≡ total pairs
      → taken_total (cond b (Some p) (lookup_entry test pairs)) + total (cond b pairs (p ∷ remove_entry test pairs)) ≡ length p.1 + total pairs
  total_when true p pairs e = refl
  total_when false p pairs e = omega (arith, e)

  total_taken : (pairs : Pairs) → taken_total (lookup_entry test pairs) + total (remove_entry test pairs) ≡ total pairs
  total_taken [] = omega arith
  total_taken (p ∷ pairs) = total_when (test p.0) p pairs (total_taken pairs)

  within_when : (most : ℕ) (b : Bool) (p : List ℕ × List ℕ) (pairs : Pairs) → length p.1 ≤ most → AreWithin most pairs
      → IsTakenWithin most (lookup_entry test pairs) × AreWithin most (remove_entry test pairs)
      → IsTakenWithin most (cond b (Some p) (lookup_entry test pairs)) × AreWithin most (cond b pairs (p ∷ remove_entry test pairs))
  within_when most true p pairs one all rest = (one, all)
  within_when most false p pairs one all rest = (rest.0, (one, rest.1))

  within_taken : (most : ℕ) (pairs : Pairs) → AreWithin most pairs
      → IsTakenWithin most (lookup_entry test pairs) × AreWithin most (remove_entry test pairs)
  within_taken most [] all = (tt, tt)
  within_taken most (p ∷ pairs) (one, all) = within_when most (test p.0) p pairs one all (within_taken most pairs all)

  total_as : (found : Option (List ℕ × List ℕ)) (pairs rest : Pairs) → taken_total found + total rest ≡ total pairs
      → total (option_map_or (λ e. e ∷ rest) found pairs) ≡ total pairs
  total_as None pairs rest e = refl
  total_as (Some p) pairs rest e = e

  within_as : (most : ℕ) (found : Option (List ℕ × List ℕ)) (pairs rest : Pairs) → AreWithin most pairs
      → IsTakenWithin most found × AreWithin most rest → AreWithin most (option_map_or (λ e. e ∷ rest) found pairs)
  within_as most None pairs rest all parts = all
  within_as most (Some p) pairs rest all parts = parts

  -- An entry that comes first keeps the sum, and each within its bound.
  pub total_promoted : (pairs : Pairs) → total (promoted test pairs) ≡ total pairs
  total_promoted pairs = total_as (lookup_entry test pairs) pairs (remove_entry test pairs) (total_taken pairs)

  pub within_promoted : (most : ℕ) (pairs : Pairs) → AreWithin most pairs → AreWithin most (promoted test pairs)
  within_promoted most pairs all = within_as most (lookup_entry test pairs) pairs (remove_entry test pairs) all (within_taken most pairs all)

  -- What has no key that passes has no entry whose key passes.
  no_entry_when : (b : Bool) (p : List ℕ × List ℕ) (pairs : Pairs) → (lookup test pairs ≡ None → lookup_entry test pairs ≡ None)
      → cond b (Some p.1) (lookup test pairs) ≡ None → cond b (Some p) (lookup_entry test pairs) ≡ None
  no_entry_when true p pairs on e = cc
  no_entry_when false p pairs on e = on e

  pub no_entry : (pairs : Pairs) → lookup test pairs ≡ None → lookup_entry test pairs ≡ None
  no_entry [] e = refl
  no_entry (p ∷ pairs) e = no_entry_when (test p.0) p pairs (no_entry pairs) e
