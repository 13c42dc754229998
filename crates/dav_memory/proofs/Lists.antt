-- Look-ups after an entry goes, comes, or falls off the end.
use Rattle.std.proofs.Common.{◌≡◌, ℕ, zero, suc, Bool, true, false, List, [], ◌∷◌, ◌++◌, take, Some, None, refl, ap, ◌∙◌, inl, inr}
use Rattle.std.specs.Map.{lookup}
use Rattle.std.proofs.lemmas.Bool.{cases_Bool}
use Rattle.dav_memory.specs.Entries.{without, purged, unless_old}

module _ {K X : Type 0} (test : K → Bool) where
  pub lookup-without_same : (es : List (K × X)) → lookup test (without test es) ≡ None
  lookup-without_same [] = refl
  lookup-without_same (f ∷ fs) = (elim (test f.0) as (λ y. test f.0 ≡ y → lookup test (without test (f ∷ fs)) ≡ None) [
    | true ↦ λ t. rw t (lookup-without_same fs)
    | false ↦ λ t. rw (t, t) (lookup-without_same fs)
  ]) refl

  pub lookup-take : (n : ℕ) (es : List (K × X)) (e : X) → lookup test (take n es) ≡ Some e → lookup test es ≡ Some e
  lookup-take zero es e h = cc
  lookup-take (suc n) [] e h = h
  lookup-take (suc n) (f ∷ fs) e h = (elim (test f.0) as (λ y. test f.0 ≡ y → lookup test (f ∷ fs) ≡ Some e) [
    | true ↦ λ t. rw t (rw t at h)
    | false ↦ λ t. rw t (lookup-take n fs e (rw t at h))
  ]) refl

module _ {K X : Type 0} (test other : K → Bool) (apart : (k : K) → test k ≡ true → other k ≡ true → ⊥) where
  pub lookup-without_other : (es : List (K × X)) → lookup test (without other es) ≡ lookup test es
  lookup-without_other [] = refl
  lookup-without_other (f ∷ fs) =
      let ih = lookup-without_other fs in
      (elim (other f.0) as (λ y. other f.0 ≡ y → lookup test (without other (f ∷ fs)) ≡ lookup test (f ∷ fs)) [
        | true ↦ λ o. elim (cases_Bool (test f.0)) [ inl t ↦ absurd (apart f.0 t o) | inr t ↦ rw (o, t) ih ]
        | false ↦ λ o. rw o (elim (cases_Bool (test f.0)) [ inl t ↦ rw t refl | inr t ↦ rw t ih ])
      ]) refl

-- what stays after a purge is the beginning of the list
pub purged-take : {K X : Type 0} (is_old : X → Bool) (es : List (K × X)) → (n : ℕ) × (purged is_old es ≡ take n es)
purged-take is_old [] = (0, refl)
purged-take is_old (e ∷ es) = by_rest (purged is_old es) (purged-take is_old es)
  where
    by_rest : (rest : List _) → (n : ℕ) × (rest ≡ take n es) → (n : ℕ) × (unless_old is_old e rest ≡ take n (e ∷ es))
    by_rest [] h = elim (cases_Bool (is_old e.1)) [
      | inl o ↦ (0, rw o refl)
      | inr o ↦ (1, rw o refl)
    ]
    by_rest (f ∷ fs) h = (suc h.0, ap (λ l. e ∷ l) h.1)

-- ---- a purge that looks from the end

module _ {K X : Type 0} (is_old : X → Bool) where
  unless-append : (e f : K × X) (es : List (K × X)) → unless_old is_old e (es ++ f ∷ []) ≡ e ∷ (es ++ f ∷ [])
  unless-append e f [] = refl
  unless-append e f (g ∷ es) = refl

  pub purged-old : (es : List (K × X)) (e : K × X) → is_old e.1 ≡ true → purged is_old (es ++ e ∷ []) ≡ purged is_old es
  purged-old [] e old = rw old refl
  purged-old (f ∷ es) e old = ap (unless_old is_old f) (purged-old es e old)

  pub purged-young : (es : List (K × X)) (e : K × X) → is_old e.1 ≡ false → purged is_old (es ++ e ∷ []) ≡ es ++ e ∷ []
  purged-young [] e young = rw young refl
  purged-young (f ∷ es) e young = ap (unless_old is_old f) (purged-young es e young) ∙ unless-append f e es
