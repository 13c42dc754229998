-- The entries of a map, put in one after another.
use Rattle.std.proofs.Common.{◌≡◌, ℕ, List, [], ◌∷◌, ◌++◌, Less, Greater, refl, sym, ap, ◌∙◌, subst, append_assoc}
use Rattle.std.proofs.lemmas.Cmp.{nat_list_cmp_total}
use Rattle.std.specs.List.{AllByRecursion}
use Rattle.std.specs.List.Sorted.{IsStrictlySortedBy}
use Rattle.std.specs.Map.{keys_of}
use Rattle.std.specs.Ordering.{ordering_reverse}
use Rattle.std.specs.BTreeMap.{insert_entry}
use Rattle.dav_lock.specs.Pairs.{Table, text_order}

abbrev pub Entry : Type 0
Entry = List ℕ × List ℕ

below_middle : (first : Entry) (es : Table) (e : Entry) (more : Table) → AllByRecursion (λ y. text_order first.0 y ≡ Less) (keys_of (es ++ e ∷ more))
    → text_order first.0 e.0 ≡ Less
below_middle first [] e more h = h.0
below_middle first (x ∷ es) e more h = below_middle first es e more h.1

-- a key that is above those before it goes last
pub put_last : (done : Table) (e : Entry) (more : Table) → IsStrictlySortedBy text_order (keys_of (done ++ e ∷ more))
    → insert_entry text_order done e.0 e.1 ≡ done ++ e ∷ []
unfolding IsStrictlySortedBy
put_last [] e more h = refl
put_last (first ∷ done) e more h =
    let above : text_order e.0 first.0 ≡ Greater = nat_list_cmp_total.antisymm e.0 first.0 ∙ ap ordering_reverse (below_middle first done e more h.0) in
    rw above (ap (λ es. first ∷ es) (put_last done e more h.1))

-- one more entry of the list is in the copy
pub copied : (all copy more left rest : Table) (e : Entry) → IsStrictlySortedBy text_order (keys_of all) → all ≡ copy ++ left → left ≡ e ∷ rest
    → more ≡ insert_entry text_order copy e.0 e.1 → all ≡ more ++ rest
copied all copy more left rest e sorted shown step put =
    let parts : all ≡ copy ++ e ∷ rest = shown ∙ ap (λ es. copy ++ es) step in
    let last = put_last copy e rest (subst (λ es. IsStrictlySortedBy text_order (keys_of es)) parts sorted) in
    parts ∙ sym (append_assoc copy (e ∷ []) rest) ∙ ap (λ es. es ++ rest) (sym (put ∙ last))
