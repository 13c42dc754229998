-- Words say how to serve, or a large input, or that the tree is fetched, or nothing: never two of them.
use Rattle.std.proofs.Common.{◌≡◌, ◌&&◌, ℕ, List, [], ◌∷◌, Bool, true, false, String, Option, None, Some, IfSome, codes, string_bytes, length, not, if◌then◌else◌, get_or, ap, sym, subst, refl, ◌∙◌, arith, bytes_eq, true≢false}
use Rattle.std.specs.Prelude.{◌==◌}
use Rattle.std.proofs.lemmas.Slice.Eq.{bytes_eq-Decides}
use Rattle.dav_model.specs.Rules.{Rules}
use Rattle.dav_serve.specs.Words.{mirror_said, rules_said, seed_said}

-- a word isn't two that begin with other bytes
one_verb : (first second : List ℕ) (m n : ℕ) → get_or first 0 0 ≡ m → get_or second 0 0 ≡ n → (m ≡ n → ⊥) → (word : List ℕ) → bytes_eq word first ≡ true → bytes_eq word second ≡ true → ⊥
one_verb first second m n f g unlike word one two =
    let both : first ≡ second = sym ((bytes_eq-Decides word first).0 one) ∙ (bytes_eq-Decides word second).0 two in
    unlike (sym f ∙ ap (λ (ds : List ℕ). get_or ds 0 0) both ∙ g)

serve_not_bench : ◌≡◌ {A = ℕ} 115 98 → ⊥
serve_not_bench e = omega arith

serve_not_mirror : ◌≡◌ {A = ℕ} 115 109 → ⊥
serve_not_mirror e = omega arith

one_test : {A B : Type 0} (some first second : Bool) (read : Option A) (said : Option B) (x : A) → (first ≡ true → second ≡ true → ⊥) → (if some && first then read else None) ≡ Some x
    → (if some && second then said else None) ≡ None
one_test false first second read said x apart e = refl
one_test true false second read said x apart e = cc
one_test true true false read said x apart e = refl
one_test true true true read said x apart e = absurd (apart refl refl)

-- words that say how to serve say no large input
pub serving_says_no_seed : {A : Type 0} (words : List (String A)) (rules : Rules) → rules_said words ≡ Some rules → seed_said words ≡ None
serving_says_no_seed [] rules e = refl
serving_says_no_seed (root ∷ []) rules e = refl
serving_says_no_seed (root ∷ verb ∷ []) rules e = refl
serving_says_no_seed (root ∷ verb ∷ seed ∷ []) rules e =
    one_test (not (length (string_bytes root) == 0)) _ _ _ _ rules (one_verb (codes "serve") (codes "bench") 115 98 refl refl serve_not_bench (string_bytes verb)) e
serving_says_no_seed (root ∷ verb ∷ seed ∷ more ∷ words) rules e = refl

-- of two tests that no value passes, where the first was passed
other_test : {A : Type 0} (some first second : Bool) (read : Option A) (x : A) → (first ≡ true → second ≡ true → ⊥) → (if some && first then read else None) ≡ Some x → some && second ≡ false
other_test false first second read x apart e = refl
other_test true false second read x apart e = cc
other_test true true false read x apart e = refl
other_test true true true read x apart e = absurd (apart refl refl)

-- nor do they say that the tree is fetched
pub serving_says_no_mirror : {A : Type 0} (words : List (String A)) (rules : Rules) → rules_said words ≡ Some rules → mirror_said words ≡ false
serving_says_no_mirror [] rules e = refl
serving_says_no_mirror (root ∷ []) rules e = refl
serving_says_no_mirror (root ∷ verb ∷ []) rules e =
    other_test (not (length (string_bytes root) == 0)) _ _ _ rules (one_verb (codes "serve") (codes "mirror") 115 109 refl refl serve_not_mirror (string_bytes verb)) e
serving_says_no_mirror (root ∷ verb ∷ word ∷ words) rules e = refl

-- what holds where something is said that isn't
pub unheard : {P : Type 0} (said : Bool) → said ≡ false → said ≡ true → P
unheard said denied told = absurd (true≢false (sym told ∙ denied))

-- what holds of nothing that was said
pub unsaid : {B : Type 0} (P : B → Type 0) (said : Option B) → said ≡ None → IfSome said P
unsaid P said e = subst (λ z. IfSome z P) (sym e) tt
