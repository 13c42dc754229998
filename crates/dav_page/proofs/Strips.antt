-- What a stripped prefix and a split text say, by bytes.
use Rattle.std.proofs.Common.{◌≡◌, ℕ, List, ◌++◌, Option, Some, None, MatchOption, IfSome, sym, ap, ◌∙◌}
use Rattle.std.specs.Borrow.{Bor}
use Rattle.std.specs.Str.Pattern.{FindsTextPrefix, StripsPrefix}

-- Where a literal was stripped, it stands at the front.
pub strips_some : (literal whole : List ℕ) (r : Option (Bor (List ℕ)))
    → MatchOption r (FindsTextPrefix literal whole None) (λ x. StripsPrefix (FindsTextPrefix literal) whole x.now)
    → IfSome r (λ rest. whole ≡ literal ++ rest.now)
strips_some literal whole None h = tt
strips_some literal whole (Some x) h = h.1.1 ∙ ap (λ z. literal ++ z) (sym h.2)

-- Where none was, it doesn't.
pub strips_none : (literal whole : List ℕ) (r : Option (Bor (List ℕ)))
    → MatchOption r (FindsTextPrefix literal whole None) (λ x. StripsPrefix (FindsTextPrefix literal) whole x.now)
    → r ≡ None → (rest : List ℕ) → whole ≡ literal ++ rest → ⊥
strips_none literal whole None h e = h
strips_none literal whole (Some x) h e = cc
