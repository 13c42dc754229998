-- What `lru` does to its entries is what the caches promise of theirs.
use Rattle.std.proofs.Common.{◌≡◌, ℕ, ◌+◌, ◌-◌, ◌≤◌, Bool, true, false, List, [], ◌∷◌, ◌++◌, length, take, Option, Some, None, option_map, refl, sym, ap, ap₂, subst, ◌∙◌, arith, take_all}
use Rattle.std.specs.List.{IsDistinct}
use Rattle.std.specs.Option.{option_map_or}
use Rattle.std.specs.Map.{keys_of, lookup, lookup_entry, remove_entry}
use Rattle.lru.specs.LruCache.{lru_cache, put_entries, last_entry, promoted as to_front}
use Rattle.lru.proofs.CallerLemmas.{Contains-lookup_entry}
use Rattle.lru.proofs.Pairs.{cut_end, last_of_push, lookup-lookup_entry}
use Rattle.dav_memory.specs.Entries.{without, put, purged}
use Rattle.dav_cache.proofs.Bridge.{remove-without}
use Rattle.dav_memory.proofs.Lists.{purged-old, purged-young}

-- the entry of a key first, where there is one
abbrev pub front_of : {K X : Type 0} → (K → K → Bool) → K → Option X → List (K × X) → List (K × X)
front_of eq key None entries = entries
front_of eq key (Some e) entries = (key, e) ∷ without (eq key) entries

module _ {K X : Type 0} (test : K → Bool) where
  remove-absent : (es : List (K × X)) → lookup_entry test es ≡ None → remove_entry test es ≡ es
  remove-absent [] h = refl
  remove-absent (e ∷ es) h = (elim (test e.0) as (λ y. test e.0 ≡ y → remove_entry test (e ∷ es) ≡ e ∷ es) [
    | true ↦ λ t. let h' = rw t at h in cc
    | false ↦ λ t. rw t (ap (λ l. e ∷ l) (remove-absent es (rw t at h)))
  ]) refl

  length-remove-found : (es : List (K × X)) (e : K × X) → lookup_entry test es ≡ Some e → length (remove_entry test es) + 1 ≡ length es
  length-remove-found [] e h = cc
  length-remove-found (f ∷ es) e h = (elim (test f.0) as (λ y. test f.0 ≡ y → length (remove_entry test (f ∷ es)) + 1 ≡ length (f ∷ es)) [
    | true ↦ λ t. rw t (omega arith)
    | false ↦ λ t. rw t (let rest = length-remove-found es e (rw t at h) in omega arith)
  ]) refl

module _ {K X : Type 0} (eq : K → K → Bool) (exact : (a b : K) → eq a b ≡ true → a ≡ b) (key : K) (es : List (K × X)) (distinct : IsDistinct eq (keys_of es)) where
  pub removed_is : remove_entry (eq key) es ≡ without (eq key) es
  removed_is = remove-without eq exact key es distinct

  found_key : (e : K × X) → lookup_entry (eq key) es ≡ Some e → key ≡ e.0
  found_key e h = exact key e.0 (Contains-lookup_entry (eq key) es e h).1

  front_by : (o : Option (K × X)) → lookup_entry (eq key) es ≡ o
      → option_map_or (λ e. e ∷ remove_entry (eq key) es) o es ≡ front_of eq key (option_map (λ e. e.1) o) es
  front_by None h = refl
  front_by (Some e) h = ap₂ (λ k l. (k, e.1) ∷ l) (sym (found_key e h)) removed_is

  pub front_is : to_front (eq key) es ≡ front_of eq key (lookup (eq key) es) es
  front_is = front_by (lookup_entry (eq key) es) refl ∙ ap (λ o. front_of eq key o es) (lookup-lookup_entry (eq key) es)

  module _ (entry : X) (size : ℕ) (fits : length es ≤ size) where
    put_by : (o : Option (K × X)) → lookup_entry (eq key) es ≡ o
        → option_map_or (λ e. (e.0, entry) ∷ remove_entry (eq key) es) o ((key, entry) ∷ take (size - 1) es) ≡ put size (eq key) key entry es
    put_by None h = ap (λ l. (key, entry) ∷ take (size - 1) l) (sym (remove-absent (eq key) es h) ∙ removed_is)
    put_by (Some e) h =
        let shorter = length-remove-found (eq key) es e h in
        ap₂ (λ k l. (k, entry) ∷ l) (sym (found_key e h)) (sym (take_all (size - 1) (remove_entry (eq key) es) (omega arith)) ∙ ap (take (size - 1)) removed_is)

    pub put_is : put_entries eq (lru_cache es size) key entry ≡ put size (eq key) key entry es
    put_is = put_by (lookup_entry (eq key) es) refl

-- ---- purging

module _ {K X : Type 0} (is_old : X → Bool) where
  last-append : (us : List (K × X)) (x : K × X) → option_map_or (λ e. is_old e.1) (last_entry (us ++ x ∷ [])) false ≡ is_old x.1
  last-append us x = ap (λ o. option_map_or (λ e. is_old e.1) o false) (last_of_push us x).0

  abbrev DropsLast : List (K × X) → Type 0
  DropsLast es = option_map_or (λ e. is_old e.1) (last_entry es) false ≡ true → purged is_old es ≡ purged is_old (take (length es - 1) es)

  drops_last_at : (us : List (K × X)) (x : K × X) → DropsLast (us ++ x ∷ [])
  drops_last_at us x h = purged-old is_old us x (sym (last-append us x) ∙ h) ∙ ap (purged is_old) (sym (last_of_push us x).1)

  -- the last entry, where it is old, goes first
  pub purged-drop_last : (es : List (K × X)) → option_map_or (λ e. is_old e.1) (last_entry es) false ≡ true
      → purged is_old es ≡ purged is_old (take (length es - 1) es)
  purged-drop_last [] = λ h. cc
  purged-drop_last (f ∷ es) = let cut = cut_end (f ∷ es) (omega arith) in subst DropsLast (sym cut.2) (drops_last_at cut.0 cut.1)

  abbrev KeepsAll : List (K × X) → Type 0
  KeepsAll es = option_map_or (λ e. is_old e.1) (last_entry es) false ≡ false → purged is_old es ≡ es

  keeps_all_at : (us : List (K × X)) (x : K × X) → KeepsAll (us ++ x ∷ [])
  keeps_all_at us x h = purged-young is_old us x (sym (last-append us x) ∙ h)

  -- where the last entry is not old, all stay
  pub purged-done : (es : List (K × X)) → option_map_or (λ e. is_old e.1) (last_entry es) false ≡ false → purged is_old es ≡ es
  purged-done [] = λ h. refl
  purged-done (f ∷ es) = let cut = cut_end (f ∷ es) (omega arith) in subst KeepsAll (sym cut.2) (keeps_all_at cut.0 cut.1)
