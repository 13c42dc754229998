-- Fields of which no name passes a test.
use Rattle.std.proofs.Common.{◌≡◌, ℕ, Bool, true, false, cond, List, [], ◌∷◌, bytes_eq, slice_get, None, refl, sym, ap, ◌∙◌, true≢false}
use Rattle.std.specs.List.{list_any}
use Rattle.std.proofs.lemmas.Bool.{false_from_ne_true, or_parts}
use Rattle.std.proofs.lemmas.Slice.Eq.{bytes_eq-Decides}
use Rattle.http_header.specs.HeaderMap.{Entries, keys, get, get_all}

-- A name that passes has no values.
pub none_under : {X : Type 0} (test : List ℕ → Bool) (m : Entries X) (name : List ℕ) → list_any test (keys m) ≡ false → test name ≡ true → get_all m name ≡ []
none_under test [] name free passes = refl
none_under test (e ∷ m) name free passes =
    let parts = or_parts (test e.0) (list_any test (keys m)) free in
    let differs : bytes_eq e.0 name ≡ false = false_from_ne_true _ (λ same. true≢false (sym passes ∙ ap test (sym ((bytes_eq-Decides _ _).0 same)) ∙ parts.0)) in
    ap (λ b. cond b e.1 (get_all m name)) differs ∙ none_under test m name parts.1 passes

-- and no first one
pub none_first : {X : Type 0} (test : List ℕ → Bool) (m : Entries X) (name : List ℕ) → list_any test (keys m) ≡ false → test name ≡ true → get m name ≡ None
none_first test m name free passes = ap (λ values. slice_get values 0) (none_under test m name free passes)
