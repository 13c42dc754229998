use Rattle.std.proofs.Common.{◌≡◌, ◌+◌, ◌++◌, ℕ, List, [], ◌∷◌, length, drop, refl, sym, ap, ◌∙◌}
use Rattle.std.proofs.lemmas.List.{drop_more}
use Rattle.std.specs.Cmp.Lexicographic.{slice_cmp}
use Rattle.std.specs.Ordering.{nat_cmp, ordering_then}
use Rattle.std.specs.declared.cmp.Ordering.TheVariants.{Greater}
use Rattle.dav_page.proofs.order.slashed_order.Goals as goal

longer : (x : ℕ) (xs right : List ℕ) → length right ≡ 0
    → ordering_then (nat_cmp x 47) Greater ≡ slice_cmp nat_cmp (x ∷ (xs ++ 47 ∷ [])) (right ++ 47 ∷ [])
longer x [] [] e = refl
longer x (y ∷ xs) [] e = refl
longer x xs (y ∷ right) e = absurd (cc)

pub returns-in_default : goal.returns-in_default
returns-in_default c =
    c.then.ensures ∙ (ap (λ o. ordering_then o Greater) c.cmp.ensures
    ∙ (longer _ (drop (c.front.a-index + 1) c.args.one.now) c.front.right.now c.in_default.ensures.cases
    ∙ (ap (λ l. slice_cmp nat_cmp (l ++ 47 ∷ []) (c.front.right.now ++ 47 ∷ [])) (sym (drop_more c.args.one.now c.front.a-index 0 c.front-test.true))
    ∙ c.front.invariant)))
