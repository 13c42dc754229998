-- Paths: which are equal, their last names and parents, and which begins with which.
use Rattle.std.proofs.Common.{◌≡◌, ◌<◌, ◌+◌, ◌-◌, ◌++◌, ℕ, suc, zero, List, [], ◌∷◌, length, take, drop, slice_get, true, false, Some, refl, sym, ap, ◌∙◌, append-nil, length-append, length-take, take-append-drop, arith}
use Rattle.std.specs.Bool.{Decides}
use Rattle.std.proofs.lemmas.Bool.{false_from_ne_true, ne_eqb}
use Rattle.std.proofs.lemmas.Slice.Eq.{slice_eq-Decides, bytes_eq-Decides}
use Rattle.std.proofs.Math.Seq.{take-append_seam}
use Rattle.dav_core.specs.Allowed.{is_root}
use Rattle.dav_core.specs.DavPath.{last_name}
use Rattle.dav_core.specs.Path.{Names, is_front, parent_of, same_names}

-- ---- equal paths

pub names_decide : (a b : Names) → Decides (same_names a b) (a ≡ b)
names_decide a b = slice_eq-Decides bytes_eq-Decides a b (same_names a b) refl

pub names_same : (a b : Names) → same_names a b ≡ true → a ≡ b
names_same a b = (names_decide a b).0

pub names_equal : (a b : Names) → a ≡ b → same_names a b ≡ true
names_equal a b = (names_decide a b).1

pub names_refl : (a : Names) → same_names a a ≡ true
names_refl a = names_equal a a refl

pub names_differ : (a b : Names) → (a ≡ b → ⊥) → same_names a b ≡ false
names_differ a b other = false_from_ne_true (same_names a b) (λ e. other (names_same a b e))

-- ---- the last name, and the path without it

-- the last of a list that ends with an element
pub last_pushed : (names : Names) (last : List ℕ) → last_name (names ++ last ∷ []) ≡ Some last
last_pushed [] last = refl
last_pushed (name ∷ []) last = refl
last_pushed (name ∷ next ∷ names) last =
    let more : length (name ∷ next ∷ names ++ last ∷ []) - 1 ≡ suc (length (next ∷ names ++ last ∷ []) - 1) = omega arith in
    ap (slice_get (name ∷ next ∷ names ++ last ∷ [])) more ∙ last_pushed (next ∷ names) last

pub parent_pushed : (at : Names) (name : List ℕ) → parent_of (at ++ name ∷ []) ≡ at
parent_pushed at name =
    let cut : length at + 1 - 1 ≡ length at = omega arith in
    ap (λ n. take (n - 1) (at ++ name ∷ [])) (length-append at (name ∷ [])) ∙ (ap (λ n. take n (at ++ name ∷ [])) cut ∙ take-append_seam at (name ∷ []))

pub parent_cons : (x k : List ℕ) (ks : Names) → parent_of (x ∷ k ∷ ks) ≡ x ∷ parent_of (k ∷ ks)
parent_cons x k ks = let e : length (x ∷ k ∷ ks) - 1 ≡ suc (length (k ∷ ks) - 1) = omega arith in ap (λ n. take n (x ∷ k ∷ ks)) e

pub parent_length : (path : Names) → length (parent_of path) ≡ length path - 1
parent_length path = simp length-take (omega arith)

pub last_at : (path : Names) (n : ℕ) → length path ≡ n + 1 → (x : List ℕ) × (path ≡ take n path ++ x ∷ [])
last_at [] n e = absurd (omega arith)
last_at (x ∷ []) zero e = (x, refl)
last_at (x ∷ []) (suc n) e = absurd (omega arith)
last_at (x ∷ y ∷ path) zero e = absurd (omega arith)
last_at (x ∷ y ∷ path) (suc n) e = let (z, is) = last_at (y ∷ path) n (omega arith) in (z, ap (λ w. x ∷ w) is)

-- a path that isn't the root is its parent with a name behind it
pub parent_and_last : (path : Names) → 0 < length path → (last : List ℕ) × (path ≡ parent_of path ++ last ∷ [])
parent_and_last path some = last_at path (length path - 1) (omega arith)

pub not_root : (path : Names) → 0 < length path → is_root path ≡ false
not_root path some = ne_eqb (length path) 0 (λ none. omega (arith, some, none))

pub no_path_ends : (names : Names) (x : List ℕ) → names ++ x ∷ [] ≡ [] → ⊥
no_path_ends names x e = let long = length-append names (x ∷ []) in let none : length (names ++ x ∷ []) ≡ 0 = ap length e in absurd (omega arith)

-- ---- one path at the front of another

pub front_join : (a b : Names) → is_front a (a ++ b) ≡ true
front_join a b = names_equal a (take (length a) (a ++ b)) (sym (take-append_seam a b))

pub front_itself : (a : Names) → is_front a a ≡ true
front_itself a = names_equal a (take (length a) a) (sym (ap (take (length a)) (sym (append-nil a)) ∙ take-append_seam a []))

-- what lies below a path is the path with names behind it
pub front_rest : (a b : Names) → is_front a b ≡ true → b ≡ a ++ drop (length a) b
front_rest a b e = sym (take-append-drop (length a) b) ∙ ap (λ x. x ++ drop (length a) b) (sym (names_same a (take (length a) b) e))
