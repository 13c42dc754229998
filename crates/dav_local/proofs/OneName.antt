-- Paths of one name.
use Rattle.std.proofs.Common.{◌≡◌, ◌≢◌, ◌&&◌, Bool, true, false, ℕ, List, [], ◌∷◌, ◌++◌, length, take, refl, sym}
use Rattle.std.proofs.lemmas.Bool.{and_right}
use Rattle.std.specs.Str.{bytes_eq}
use Rattle.dav_core.specs.Path.{Names, all_plain, same_names}
use Rattle.dav_core.proofs.Plain.{plain_take}

and_true : (b : Bool) → b ≡ (b && true)
and_true true = refl
and_true false = refl

pub one_name : (names : Names) (only name : List ℕ) → length names ≡ 1 → names ≡ only ∷ [] → bytes_eq only name ≡ same_names names (name ∷ [])
one_name names only name one is = rw is (and_true (bytes_eq only name))

pub other_names : (names : Names) (name : List ℕ) → length names ≢ 1 → false ≡ same_names names (name ∷ [])
other_names [] name other = refl
other_names (x ∷ []) name other = absurd (other refl)
other_names (x ∷ y ∷ names) name other = sym (and_right (bytes_eq x name) false refl)

-- a front of a path is plain
pub front_is_plain : (path names kept items : Names) (n : ℕ) → all_plain path ≡ true → names ≡ path → kept ≡ [] → items ≡ kept ++ take n names → all_plain items ≡ true
front_is_plain path names kept items n plain same none is = rw (is, none, same) (plain_take n path plain)
