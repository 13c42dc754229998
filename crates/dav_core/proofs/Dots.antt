-- The last dot of a name.
use Rattle.std.proofs.Common.{◌≡◌, ◌==◌, ℕ, zero, suc, ◌+◌, ◌<◌, Bool, cond, List, [], ◌∷◌, length, drop, get_or, None, Some, sym, ap, ◌∙◌, eq-eqb, add-one, arith}
use Rattle.dav_core.specs.ContentTypes.{or_later, after_dot}

dot_at : (name : List ℕ) (at : ℕ) → at < length name → get_or name at 0 ≡ 46 → after_dot (drop (suc at) name) ≡ None → after_dot name ≡ Some (drop (suc at) name)
dot_at [] at inside dot none = absurd (omega arith)
dot_at (b ∷ bytes) zero inside dot none = ap (λ o. or_later (b == 46) bytes o) none ∙ ap (λ (t : Bool). cond t (Some bytes) None) (eq-eqb b 46 dot)
dot_at (b ∷ bytes) (suc at) inside dot none = ap (λ o. or_later (b == 46) bytes o) (dot_at bytes at (omega arith) dot none)

pub dot_here : (name : List ℕ) (at : ℕ) → at < length name → get_or name at 0 ≡ 46 → after_dot (drop (at + 1) name) ≡ None → after_dot name ≡ Some (drop (at + 1) name)
dot_here name at inside dot none =
    dot_at name at inside dot (ap (λ n. after_dot (drop n name)) (sym (add-one at)) ∙ none) ∙ ap (λ n. Some (drop n name)) (sym (add-one at))
