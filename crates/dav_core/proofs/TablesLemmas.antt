-- Maps as functions, after a change at a key.
use Rattle.std.proofs.Common.{◌≡◌, ◌==◌, ℕ, Bool, true, false, cond, Option, None, Some, IsSome, refl, sym, ap, ◌∙◌, arith}
use Rattle.std.proofs.lemmas.Bool.Decides.{nat_tests}
use mathlib.Core.Path.{fun_ext}
use Rattle.std.specs.BTreeMap.{BTreeMap, WritesThrough, get_by, UpdatesBy, is_at}
use Rattle.std.specs.Ordering.{nat_cmp}
use Rattle.std.specs.Option.{option_map}
use Rattle.dav_core.specs.World.{put, at_key}
use Rattle.dav_core.proofs.UnchangedLemmas.{equal_keys}

-- the tests of a map and of `put` agree
same_test : (k n : ℕ) → is_at (nat_cmp k) n ≡ (n == k)
same_test k n = grind (arith, nat_tests)

-- a map after a change at a key
pub updates_put : {X : Type 0} (k : ℕ) (old new : BTreeMap ℕ X) (w : Option X) → UpdatesBy nat_cmp (nat_cmp k) old new w
    → (λ n. get_by (nat_cmp n) new) ≡ put k w (λ n. get_by (nat_cmp n) old)
updates_put k old new w u = fun_ext (λ n. u.0 n ∙ ap (λ b. cond b w (get_by (nat_cmp n) old)) (same_test k n))

map_cond : {X Y : Type 0} (f : X → Y) (b : Bool) (w x : Option X) → option_map f (cond b w x) ≡ cond b (option_map f w) (option_map f x)
map_cond f true w x = refl
map_cond f false w x = refl

-- a table of values made from another's, after a change at a key
pub put_map : {X Y : Type 0} (f : X → Y) (k : ℕ) (w : Option X) (table : ℕ → Option X)
    → (λ n. option_map f (put k w table n)) ≡ put k (option_map f w) (λ n. option_map f (table n))
put_map f k w table = fun_ext (λ n. map_cond f (n == k) w (table n))

-- what is seen of each value, after a change at a key
pub value_put : {X Y : Type 0} (f : X → Y) (k : ℕ) (old new : BTreeMap ℕ X) (w : Option X) → UpdatesBy nat_cmp (nat_cmp k) old new w
    → (λ n. option_map f (at_key new n)) ≡ put k (option_map f w) (λ n. option_map f (at_key old n))
value_put {X} f k old new w u = ap (λ (t : ℕ → Option X). λ n. option_map f (t n)) (updates_put k old new w u) ∙ put_map f k w (at_key old)

is_there : {X : Type 0} (o : Option X) (x : X) → Some x ≡ o → IsSome o
is_there None x e = cc
is_there (Some y) x e = refl

-- the same, where a value was written in its place
pub value_written : {X Y : Type 0} (f : X → Y) (k : ℕ) (old : BTreeMap ℕ X) (lender : X → BTreeMap ℕ X) (x w : X) → ((w : X) → WritesThrough nat_cmp (nat_cmp k) old w (lender w))
    → Some x ≡ get_by (nat_cmp k) old → (λ n. option_map f (at_key (lender w) n)) ≡ put k (Some (f w)) (λ n. option_map f (at_key old n))
value_written f k old lender x w writes at = value_put f k old (lender w) (Some w) ((writes w).3 (is_there (get_by (nat_cmp k) old) x at))

same_value : {X Y : Type 0} (f : X → Y) (b : Bool) (x w : X) (o : Option X) → f w ≡ f x → (b ≡ true → o ≡ Some x) → cond b (Some (f w)) (option_map f o) ≡ option_map f o
same_value f true x w o e h = ap Some e ∙ sym (ap (option_map f) (h refl))
same_value f false x w o e h = refl

-- and nothing else is seen of it
pub value_kept : {X Y : Type 0} (f : X → Y) (k : ℕ) (old : BTreeMap ℕ X) (lender : X → BTreeMap ℕ X) (x w : X) → ((w : X) → WritesThrough nat_cmp (nat_cmp k) old w (lender w))
    → Some x ≡ get_by (nat_cmp k) old → f w ≡ f x → ◌≡◌ {A = ℕ → Option Y} (λ n. option_map f (at_key (lender w) n)) (λ n. option_map f (at_key old n))
value_kept f k old lender x w writes at same =
    value_written f k old lender x w writes at
    ∙ fun_ext (λ n. same_value f (n == k) x w (at_key old n) same (λ t. ap (at_key old) (equal_keys n k t) ∙ sym at))
