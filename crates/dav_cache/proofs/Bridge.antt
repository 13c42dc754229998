-- Where the keys differ, std's `remove_entry` takes out all entries of the key.
use Rattle.std.proofs.Common.{◌≡◌, ℕ, ◌≤◌, ◌+◌, ◌-◌, Bool, true, false, List, [], ◌∷◌, ◌++◌, length, take, refl, sym, ap, subst, ◌∙◌, arith, take_all, length-append}
use Rattle.std.specs.List.{IsDistinct, AllByRecursion}
use Rattle.std.specs.Map.{keys_of, remove_entry}
use Rattle.dav_memory.specs.Entries.{without, put}

module _ {K X : Type 0} (eq : K → K → Bool) (exact : (a b : K) → eq a b ≡ true → a ≡ b) (k : K) where
  pub none-without : (es : List (K × X)) → AllByRecursion (λ y. eq k y ≡ false) (keys_of es) → without (eq k) es ≡ es
  none-without [] all = refl
  none-without (e ∷ es) all = rw (all.0) (ap (λ l. e ∷ l) (none-without es all.1))

  pub remove-without : (es : List (K × X)) → IsDistinct eq (keys_of es) → remove_entry (eq k) es ≡ without (eq k) es
  unfolding IsDistinct
  remove-without [] d = refl
  remove-without (e ∷ es) d = (elim (eq k e.0) as (λ y. eq k e.0 ≡ y → remove_entry (eq k) (e ∷ es) ≡ without (eq k) (e ∷ es)) [
    | true ↦ λ t.
        let same = exact k e.0 t in
        let others = subst (λ w. AllByRecursion (λ y. eq w y ≡ false) (keys_of es)) (sym same) d.0 in
        rw t (sym (none-without es others))
    | false ↦ λ t. rw t (ap (λ l. e ∷ l) (remove-without es d.1))
  ]) refl

  distinct-behind : (us es : List (K × X)) → IsDistinct eq (keys_of (us ++ es)) → IsDistinct eq (keys_of es)
  unfolding IsDistinct
  distinct-behind [] es d = d
  distinct-behind (u ∷ us) es d = distinct-behind us es d.1

  first-apart : (e : K × X) (es : List (K × X)) → IsDistinct eq (keys_of (e ∷ es)) → AllByRecursion (λ y. eq e.0 y ≡ false) (keys_of es)
  unfolding IsDistinct
  first-apart e es d = d.0

  -- a key that stands nowhere behind is put in front
  pub put-fresh : (size : ℕ) (us : List (K × X)) (x : X) (es : List (K × X)) → IsDistinct eq (keys_of (us ++ (k, x) ∷ es))
      → length (us ++ (k, x) ∷ es) ≤ size → put size (eq k) k x es ≡ (k, x) ∷ es
  put-fresh size us x es d fits =
      let same = none-without es (first-apart (k, x) es (distinct-behind us ((k, x) ∷ es) d)) in
      let all : length us + length ((k, x) ∷ es) ≤ size = subst (λ n. n ≤ size) (length-append us ((k, x) ∷ es)) fits in
      ap (λ l. (k, x) ∷ take (size - 1) l) same ∙ ap (λ l. (k, x) ∷ l) (take_all (size - 1) es (omega arith))
