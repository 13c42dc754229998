use Rattle.std.proofs.Common.{◌≡◌, ◌-◌, ◌++◌, ◌∷◌, [], length, take, ap, ◌∙◌, length-append, take_at, refl, arith}
use Rattle.dav_core.proofs.laws.pushed_names_go.Goals as goal

pub returns : goal.returns
returns c = λ names name.
    let n : length (names ++ name ∷ []) - 1 ≡ length names = omega (arith, length-append names (name ∷ [])) in
    ap (λ k. take k (names ++ name ∷ [])) n ∙ take_at names (name ∷ []) (length names) refl
