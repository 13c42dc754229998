-- A name more that is passed over.
use Rattle.std.proofs.Common.{◌≡◌, ◌+◌, ℕ, suc, Bool, true, Option, None, Some, Ok, sym, ap, subst, arith}
use Rattle.dav_host.specs.Entries.{Entry, Passes, Says, has_missed}

one_more : (n : ℕ) → suc n ≡ n + 1
one_more n = omega arith

pub passes_more : {R A F D S : Type 0} (gives : S → Option (Entry R A F D) → S → Type 0) (n : ℕ) (s u t : S) (entry : Entry R A F D) → Passes gives n s u
    → gives u (Some entry) t → Says entry (Ok None) → Passes gives (n + 1) s t
passes_more gives n s u t entry passed given says = subst (λ k. Passes gives k s t) (one_more n) (u, entry, passed, given, says)

pub missed_more : (missed : Bool) (n : ℕ) → has_missed missed (n + 1) ≡ true
missed_more missed n = ap (has_missed missed) (sym (one_more n))
