-- The names of a prefix.
use Rattle.std.proofs.Common.{◌≡◌, ◌||◌, ◌&&◌, Bool, true, false, cond, not, List, [], ◌∷◌, ℕ, filter, refl, ap, ◌∙◌}
use Rattle.std.specs.List.{list_all}
use Rattle.dav_core.specs.Grammar.{is_empty}
use Rattle.dav_core.specs.Path.{Names, is_plain}

one_more : (empty plain : Bool) (s : List ℕ) (rest : Bool) (kept : Names) → plain ≡ is_plain s → rest ≡ list_all is_plain kept
    → ((empty || plain) && rest) ≡ list_all is_plain (cond (not empty) (s ∷ kept) kept)
one_more true plain s rest kept p r = r
one_more false true s rest kept p r = r ∙ ap (λ b. b && list_all is_plain kept) p
one_more false false s rest kept p r = ap (λ b. b && list_all is_plain kept) p

pub all_may_stand : (segments : Names) → list_all (λ s. is_empty s || is_plain s) segments ≡ list_all is_plain (filter (λ s. not (is_empty s)) segments)
all_may_stand [] = refl
all_may_stand (s ∷ segments) = one_more (is_empty s) (is_plain s) s _ (filter (λ s. not (is_empty s)) segments) refl (all_may_stand segments)
