-- What the names of the table have in common.
use Rattle.std.proofs.Common.{◌≡◌, ◌<◌, ◌≤◌, ℕ, Bool, true, false, cond, ◌&&◌, ltb, leb, List, [], ◌∷◌, ◌++◌, length, Option, Some, None, refl, sym, ◌∙◌, ap, arith, bytes_eq}
use lib.Utf8.{scalar}
use Rattle.std.specs.Map.{lookup}
use Rattle.std.specs.List.{list_all}
use Rattle.std.proofs.lemmas.Bool.{and_parts, false≢true}
use Rattle.std.proofs.lemmas.Bool.Decides.{nat_tests}
use Rattle.std.proofs.lemmas.Slice.Eq.{bytes_eq-Decides}
use Rattle.htmlescape.specs.Names.{entities, latin, symbols, special, named}
use Rattle.htmlescape.specs.Running.{begins_name}

abbrev is_short : List ℕ → Bool
is_short name = leb (length name) 8 && list_all (λ c. ltb c 128) name

abbrev is_entry : List ℕ × ℕ → Bool
is_entry e = (is_short e.0 && begins_name e.0) && scalar e.1

entries_are : list_all is_entry entities ≡ true
unfolding entities latin symbols special
entries_are = refl

found_in : (p : List ℕ × ℕ → Bool) (xs : List (List ℕ × ℕ)) → list_all p xs ≡ true → (n : List ℕ) (v : ℕ) → lookup (bytes_eq n) xs ≡ Some v
    → p (n, v) ≡ true
found_in p [] a n v h = cc
found_in p (x ∷ xs) a n v h =
    let parts = and_parts (p x) (list_all p xs) a in
    elim (bytes_eq n x.0) as (λ b. bytes_eq n x.0 ≡ b → cond b (Some x.1) (lookup (bytes_eq n) xs) ≡ Some v → p (n, v) ≡ true) [
      | true ↦ λ t s. let k : n ≡ x.0 = (bytes_eq-Decides n x.0).0 t in let w : x.1 ≡ v = cc in ap (λ m. p (m, v)) k ∙ ap (λ m. p (x.0, m)) (sym w) ∙ parts.0
      | false ↦ λ t s. found_in p xs parts.1 n v s
    ] refl h

named_is : (n : List ℕ) (v : ℕ) → named n ≡ Some v → is_entry (n, v) ≡ true
unfolding named
named_is n v h = found_in is_entry entities entries_are n v h

pub named_begins : (n : List ℕ) (v : ℕ) → named n ≡ Some v → begins_name n ≡ true
named_begins n v h = (and_parts (is_short n) (begins_name n) (and_parts (is_short n && begins_name n) (scalar v) (named_is n v h)).0).1

pub named_scalar : (n : List ℕ) (v : ℕ) → named n ≡ Some v → scalar v ≡ true
named_scalar n v h = (and_parts (is_short n && begins_name n) (scalar v) (named_is n v h)).1

named_short : (n : List ℕ) (v : ℕ) → named n ≡ Some v → is_short n ≡ true
named_short n v h = (and_parts (is_short n) (begins_name n) (and_parts (is_short n && begins_name n) (scalar v) (named_is n v h)).0).0

unnamed : (n : List ℕ) (o : Option ℕ) → named n ≡ o → is_short n ≡ false → o ≡ None
unnamed n None e f = refl
unnamed n (Some v) e f = absurd (false≢true (sym f ∙ named_short n v e))

pub lost_long : (n : List ℕ) → 8 < length n → named n ≡ None
lost_long n h = unnamed n (named n) refl (let f : leb (length n) 8 ≡ false = grind (arith, nat_tests) in ap (λ b. b && list_all (λ c. ltb c 128) n) f)

wide : (a b : List ℕ) (c : ℕ) → 128 ≤ c → list_all (λ d. ltb d 128) (a ++ c ∷ b) ≡ false
wide [] b c h = let f : ltb c 128 ≡ false = grind (arith, nat_tests) in ap (λ t. t && list_all (λ d. ltb d 128) b) f
wide (x ∷ a) b c h = ap (λ t. ltb x 128 && t) (wide a b c h) ∙ (elim (ltb x 128) as (λ t. (t && false) ≡ false) [ true ↦ refl | false ↦ refl ])

pub lost_wide : (a b : List ℕ) (c : ℕ) → 128 ≤ c → named (a ++ c ∷ b) ≡ None
lost_wide a b c h = unnamed (a ++ c ∷ b) (named (a ++ c ∷ b)) refl
    (ap (λ t. leb (length (a ++ c ∷ b)) 8 && t) (wide a b c h) ∙ (elim (leb (length (a ++ c ∷ b)) 8) as (λ t. (t && false) ≡ false) [ true ↦ refl | false ↦ refl ]))
