-- Paths overlap where the names that both have are the same, one by one.
use Rattle.std.proofs.Common.{◌≡◌, ◌&&◌, ◌||◌, ◌<◌, ℕ, zero, suc, min, Bool, true, false, List, [], ◌∷◌, length, get_or, bytes_eq, refl, sym, ap, ap₂, ◌∙◌, arith}
use Rattle.std.proofs.lemmas.Slice.Eq.{bytes_eq-Decides}
use Rattle.dav_core.specs.Path.{Names, is_front}
use Rattle.dav_model.specs.Folds.{fold_name, fold_path}
use Rattle.dav_model.specs.Overlap.{overlap, same_name}

bytes_eq_back : (x y : List ℕ) → bytes_eq y x ≡ bytes_eq x y
bytes_eq_back x y = by (bytes_eq x y) (bytes_eq y x) refl refl
  where
    by : (a b : Bool) → bytes_eq x y ≡ a → bytes_eq y x ≡ b → bytes_eq y x ≡ bytes_eq x y
    by true b is other = let same = (bytes_eq-Decides x y).0 is in (bytes_eq-Decides y x).1 (sym same) ∙ sym is
    by false true is other = let same = (bytes_eq-Decides y x).0 other in sym ((bytes_eq-Decides x y).1 (sym same) ∙ sym other)
    by false false is other = other ∙ sym is

shared : (e p q : Bool) → ((e && p) || (e && q)) ≡ (e && (p || q))
shared true p q = refl
shared false p q = refl

abbrev meets : Names → Names → Bool
meets names others = is_front names others || is_front others names

meets-cons : (x y : List ℕ) (names others : Names) → meets (x ∷ names) (y ∷ others) ≡ (bytes_eq x y && meets names others)
meets-cons x y names others =
    ap (λ e. (bytes_eq x y && is_front names others) || (e && is_front others names)) (bytes_eq_back x y)
    ∙ shared (bytes_eq x y) (is_front names others) (is_front others names)

overlap-cons : (folds : Bool) (x y : List ℕ) (names others : Names) → overlap folds (x ∷ names) (y ∷ others) ≡ (same_name folds x y && overlap folds names others)
overlap-cons true x y names others = meets-cons (fold_name x) (fold_name y) (fold_path names) (fold_path others)
overlap-cons false x y names others = meets-cons x y names others

pub none_ahead : (folds : Bool) (others : Names) → overlap folds [] others ≡ true
none_ahead true others = refl
none_ahead false others = refl

pub none_behind : (folds : Bool) (x : List ℕ) (names : Names) → overlap folds (x ∷ names) [] ≡ true
none_behind true x names = refl
none_behind false x names = refl

-- All names that both have are the same.
pub all_same : (folds : Bool) (names others : Names) → ((k : ℕ) → k < min (length names) (length others) → same_name folds (get_or names k []) (get_or others k []) ≡ true)
    → overlap folds names others ≡ true
all_same folds [] others same = none_ahead folds others
all_same folds (x ∷ names) [] same = none_behind folds x names
all_same folds (x ∷ names) (y ∷ others) same =
    overlap-cons folds x y names others
    ∙ ap₂ (λ (a b : Bool). a && b) (same 0 (omega arith)) (all_same folds names others (λ k less. same (suc k) (omega (arith, less))))

-- Two of them differ.
pub one_differs : (folds : Bool) (names others : Names) (k : ℕ) (a b : List ℕ) → k < length names → k < length others → a ≡ get_or names k a → b ≡ get_or others k b
    → same_name folds a b ≡ false → overlap folds names others ≡ false
one_differs folds [] others k a b less more one other differs = absurd (omega (arith, less))
one_differs folds (x ∷ names) [] k a b less more one other differs = absurd (omega (arith, more))
one_differs folds (x ∷ names) (y ∷ others) zero a b less more one other differs =
    overlap-cons folds x y names others ∙ ap (λ e. e && overlap folds names others) (ap₂ (same_name folds) (sym one) (sym other) ∙ differs)
one_differs folds (x ∷ names) (y ∷ others) (suc k) a b less more one other differs =
    overlap-cons folds x y names others
    ∙ (ap (λ e. same_name folds x y && e) (one_differs folds names others k a b (omega (arith, less)) (omega (arith, more)) one other differs) ∙ never (same_name folds x y))
  where
    never : (e : Bool) → (e && false) ≡ false
    never true = refl
    never false = refl
