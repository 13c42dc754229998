-- Paths that are one.
use Rattle.std.proofs.Common.{◌≡◌, ◌↔◌, ◌∙◌, Bool, true, false, cond, not, Result, Ok, Err, refl, sym, ap, true≢false}
use Rattle.dav_core.specs.declared.parse_error.ParseError.{ParseError}
use Rattle.dav_core.specs.DavPath.{WebPath}
use Rattle.dav_core.specs.Path.{Names, same_names}
use Rattle.dav_core.proofs.Plain.{names_same}
use Rattle.dav_core.proofs.Paths.{names_refl}

same_end : (x y : Bool) → cond x y (not y) ≡ true → x ≡ y
same_end true true e = refl
same_end true false e = sym e
same_end false true e = e
same_end false false e = refl

parts_same : (a b : WebPath) → a.prefix ≡ b.prefix → a.names ≡ b.names → a.slash ≡ b.slash → a ≡ b
parts_same a b p n s =
    ap (λ (x : Names). record a { prefix = x }) p ∙ ap (λ (x : Names). record a { prefix = b.prefix; names = x }) n
    ∙ ap (λ (x : Bool). record a { prefix = b.prefix; names = b.names; slash = x }) s

pub same_paths : (a b : WebPath) (ends : Bool) → a.prefix ≡ b.prefix → a.names ≡ b.names → ends ≡ cond a.slash b.slash (not b.slash) → ends ≡ true → a ≡ b
same_paths a b ends prefix names is told = parts_same a b prefix names (same_end a.slash b.slash (sym is ∙ told))

-- names that are told to be the same are, and those that are told apart aren't
pub told_same : (p q : Names) (same : Bool) → same ≡ same_names p q → same ≡ true → p ≡ q
told_same p q same is told = names_same p q (sym is ∙ told)

pub told_apart : (p q : Names) (same : Bool) → same ≡ same_names p q → same ≡ false → p ≡ q → ⊥
told_apart p q same is told e = true≢false (sym (names_refl q) ∙ sym (ap (λ n. same_names n q) e) ∙ sym is ∙ told)

pub end_same : (a b : WebPath) (z : Bool) → z ≡ cond a.slash b.slash (not b.slash) → a ≡ b → z ≡ true
end_same a b z is e = is ∙ ap (λ (x : WebPath). cond x.slash b.slash (not b.slash)) e ∙ by b.slash
  where
    by : (s : Bool) → cond s s (not s) ≡ true
    by true = refl
    by false = refl

-- whether the path that was read is this one
pub back_same : (p : Result WebPath ParseError) (back path : WebPath) (b : Bool) → p ≡ Ok back → (b ≡ true ↔ back ≡ path) → (b ≡ true ↔ p ≡ Ok path)
back_same p back path b is same = (
  λ e. is ∙ ap (λ z. Ok z) (same.0 e),
  λ e. same.1 (let both : (◌≡◌ {A = Result WebPath ParseError} (Ok back) (Ok path)) = sym is ∙ e in cc),
)

pub back_none : (p : Result WebPath ParseError) (fault : ParseError) (path : WebPath) → p ≡ Err fault → (false ≡ true ↔ p ≡ Ok path)
back_none p fault path is = (
  λ e. absurd (true≢false (sym e)),
  λ e. let both : (◌≡◌ {A = Result WebPath ParseError} (Err fault) (Ok path)) = sym is ∙ e in cc,
)
