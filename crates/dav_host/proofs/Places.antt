-- The places that are kept of open files, after that of one was set or moved.
use Rattle.std.proofs.Common.{◌≡◌, ◌==◌, ℕ, zero, suc, Bool, true, false, cond, Option, Some, refl, sym, ap, ◌∙◌, arith}
use Rattle.std.proofs.lemmas.Bool.Decides.{nat_tests}
use mathlib.Core.Path.{fun_ext}
use Rattle.std.specs.Prelude.{option_and_then}
use Rattle.std.specs.Option.{option_map}
use Rattle.std.specs.Ordering.{nat_cmp}
use Rattle.std.specs.BTreeMap.{BTreeMap, WritesThrough, get_by}
use Rattle.dav_core.specs.World.{at_key, put}
use Rattle.dav_host.specs.declared.opens.HostFile.{HostFile}
use Rattle.dav_host.specs.Host.{beside, live_of}
use Rattle.dav_host.specs.Places.{place_of}
use Rattle.dav_host.proofs.Listers.{listing_written}

-- a table with a value beside it, at another key
beside_other : {X : Type 0} (first : Option X) (table : ℕ → Option X) (k : ℕ) → (k ≡ 0 → ⊥) → beside first table k ≡ table k
beside_other first table zero other = absurd (other refl)
beside_other first table (suc k) other = refl

zero_test : (k : ℕ) → (0 == suc k) ≡ false
zero_test k = grind (arith, nat_tests)

put_beside : {X : Type 0} (first : Option X) (table : ℕ → Option X) (k : ℕ) (v : Option X) (n : ℕ) → (k ≡ 0 → ⊥)
    → beside first (put k v table) n ≡ put k v (beside first table) n
put_beside first table zero v n other = absurd (other refl)
put_beside first table (suc k) v zero other = ap (λ b. cond b v first) (sym (zero_test k))
put_beside first table (suc k) v (suc n) other = refl

place_cond : {F : Type 0} (b : Bool) (w x : Option (HostFile F))
    → option_and_then place_of (cond b w x) ≡ cond b (option_and_then place_of w) (option_and_then place_of x)
place_cond true w x = refl
place_cond false w x = refl

-- The place of one that isn't beside the table becomes what a call makes of it.
pub place_written : {F : Type 0} (k : ℕ) (first : Option (HostFile F)) (old : BTreeMap ℕ (HostFile F)) (lender : HostFile F → BTreeMap ℕ (HostFile F)) (x w : HostFile F)
    (after : Option ℕ → Option ℕ) → (k ≡ 0 → ⊥) → ((w : HostFile F) → WritesThrough nat_cmp (nat_cmp k) old w (lender w)) → Some x ≡ get_by (nat_cmp k) old
    → w.place ≡ after x.place
    → ◌≡◌ {A = ℕ → Option ℕ} (beside (option_and_then place_of first) (λ h. option_and_then place_of (at_key (lender w) h)))
    (put k (after (beside (option_and_then place_of first) (λ h. option_and_then place_of (at_key old h)) k))
    (beside (option_and_then place_of first) (λ h. option_and_then place_of (at_key old h))))
place_written {F} k first old lender x w after other writes at is =
    let kept : ℕ → Option ℕ = λ h. option_and_then place_of (at_key old h) in
    let own : Option ℕ = option_and_then place_of first in
    ap (λ (t : ℕ → Option (HostFile F)). beside own (λ h. option_and_then place_of (t h))) (listing_written k old lender x w writes at)
    ∙ ap (beside own) (fun_ext (λ n. place_cond (n == k) (Some w) (at_key old n)))
    ∙ fun_ext (λ n. put_beside own kept k w.place n other)
    ∙ ap (λ v. put k v (beside own kept)) (is ∙ ap after (ap (option_and_then place_of) at ∙ sym (beside_other own kept k other)))

-- what is known of such a handle
pub live_there : {F : Type 0} (k : ℕ) (first : Option (HostFile F)) (old : BTreeMap ℕ (HostFile F)) (x : HostFile F) → (k ≡ 0 → ⊥)
    → Some x ≡ get_by (nat_cmp k) old → beside (option_map live_of first) (λ h. option_map live_of (at_key old h)) k ≡ Some (live_of x)
live_there k first old x other at = beside_other (option_map live_of first) (λ h. option_map live_of (at_key old h)) k other ∙ sym (ap (option_map live_of) at)
