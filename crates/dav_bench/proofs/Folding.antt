-- How names of ASCII fold.
use Rattle.std.proofs.Common.{◌≡◌, ℕ, zero, suc, ◌<◌, ◌≤◌, ◌^◌, List, [], ◌∷◌, ◌++◌, map, encode_utf8_all, codes, decimal, refl, ap, ap₂, ◌∙◌, arith}
use Rattle.std.proofs.lemmas.Bool.Decides.{nat_tests}
use Rattle.std.specs.List.{AllByRecursion}
use Rattle.std.specs.Char.{to_ascii_lowercase}
use Rattle.std.specs.Str.{IsAscii}
use Rattle.std.proofs.lemmas.Str.{chars-IsAscii, encode_ascii}
use Rattle.caseless.specs.Caseless.{default_case_fold}
use Rattle.caseless.proofs.CaselessLemmas.{default_case_fold-nil, default_case_fold-cons}
use Rattle.ucd_case.proofs.CaseFoldingLemmas.{full_fold-ascii}
use Rattle.dav_model.specs.Folds.{fold_name}
use Rattle.dav_bench.specs.Names.{dir_name, file_name, asked_dir, asked_file}
use Rattle.dav_bench.proofs.Digits.{decimal_each, each_append}
use Rattle.std.proofs.lemmas.Str.Ascii.{lowercase_ascii}

abbrev pub AreAscii : List ℕ → Type 0
AreAscii bs = AllByRecursion (λ b. b < 128) bs

pub at_index : (bs : List ℕ) → AreAscii bs → IsAscii bs
at_index [] all i = omega arith
at_index (b ∷ bs) (here, all) zero = here
at_index (b ∷ bs) (here, all) (suc i) = at_index bs all i

folds_to : (bs : List ℕ) → AreAscii bs → default_case_fold bs ≡ map to_ascii_lowercase bs
folds_to [] all = default_case_fold-nil
folds_to (b ∷ bs) (here, all) = default_case_fold-cons b bs ∙ ap₂ (λ (x y : List ℕ). x ++ y) (full_fold-ascii b here) (folds_to bs all)

all_lower : (bs : List ℕ) → AreAscii bs → AreAscii (map to_ascii_lowercase bs)
all_lower [] all = tt
all_lower (b ∷ bs) (here, all) = (lowercase_ascii b here, all_lower bs all)

encodes_itself : (bs : List ℕ) → AreAscii bs → encode_utf8_all bs ≡ bs
encodes_itself [] all = refl
encodes_itself (b ∷ bs) (here, all) = ap₂ (λ (x y : List ℕ). x ++ y) (encode_ascii b here) (encodes_itself bs all)

pub fold_ascii : (bs : List ℕ) → AreAscii bs → fold_name bs ≡ map to_ascii_lowercase bs
fold_ascii bs all =
    ap (λ cs. encode_utf8_all (default_case_fold cs)) (chars-IsAscii bs (at_index bs all))
    ∙ (ap encode_utf8_all (folds_to bs all) ∙ encodes_itself (map to_ascii_lowercase bs) (all_lower bs all))

-- digits fold to themselves
digit_lower : (b : ℕ) → 48 ≤ b → b ≤ 57 → to_ascii_lowercase b ≡ b
digit_lower b low high = grind (arith, nat_tests)

lower_same : (bs : List ℕ) → AllByRecursion (λ b. to_ascii_lowercase b ≡ b) bs → map to_ascii_lowercase bs ≡ bs
lower_same [] all = refl
lower_same (b ∷ bs) (here, all) = ap₂ (λ (x : ℕ) (xs : List ℕ). x ∷ xs) here (lower_same bs all)

pub lower_decimal : (n : ℕ) → n < 2 ^ 64 → map to_ascii_lowercase (decimal n) ≡ decimal n
lower_decimal n lt = lower_same (decimal n) (decimal_each (λ b. to_ascii_lowercase b ≡ b) digit_lower n lt)

lower_append : (xs ys : List ℕ) → map to_ascii_lowercase (xs ++ ys) ≡ map to_ascii_lowercase xs ++ map to_ascii_lowercase ys
lower_append [] ys = refl
lower_append (x ∷ xs) ys = ap (λ zs. to_ascii_lowercase x ∷ zs) (lower_append xs ys)

pub ascii_name : (front : List ℕ) (n : ℕ) → AreAscii front → n < 2 ^ 64 → AreAscii (front ++ decimal n)
ascii_name front n all lt = each_append (λ b. b < 128) front (decimal n) all (decimal_each (λ b. b < 128) (λ b low high. omega arith) n lt)

-- a name of ASCII letters and a number
pub fold_numbered : (front : List ℕ) (n : ℕ) → AreAscii front → n < 2 ^ 64 → fold_name (front ++ decimal n) ≡ map to_ascii_lowercase front ++ decimal n
fold_numbered front n all lt =
    fold_ascii (front ++ decimal n) (ascii_name front n all lt)
    ∙ (lower_append front (decimal n) ∙ ap (λ z. map to_ascii_lowercase front ++ z) (lower_decimal n lt))

three : (a b c : ℕ) → a < 128 → b < 128 → c < 128 → AreAscii (a ∷ b ∷ c ∷ [])
three a b c h i j = (h, (i, (j, tt)))

four : (a b c d : ℕ) → a < 128 → b < 128 → c < 128 → d < 128 → AreAscii (a ∷ b ∷ c ∷ d ∷ [])
four a b c d h i j k = (h, (i, (j, (k, tt))))

pub fold_dir : (i : ℕ) → i < 2 ^ 64 → fold_name (dir_name i) ≡ asked_dir i
fold_dir i lt = fold_numbered (codes "Dir") i (three 68 105 114 (omega arith) (omega arith) (omega arith)) lt

pub fold_file : (j : ℕ) → j < 2 ^ 64 → fold_name (file_name j) ≡ asked_file j
fold_file j lt = fold_numbered (codes "File") j (four 70 105 108 101 (omega arith) (omega arith) (omega arith) (omega arith)) lt

pub fold_asked_dir : (i : ℕ) → i < 2 ^ 64 → fold_name (asked_dir i) ≡ asked_dir i
fold_asked_dir i lt = fold_numbered (codes "dir") i (three 100 105 114 (omega arith) (omega arith) (omega arith)) lt

pub fold_asked_file : (j : ℕ) → j < 2 ^ 64 → fold_name (asked_file j) ≡ asked_file j
fold_asked_file j lt = fold_numbered (codes "file") j (four 102 105 108 101 (omega arith) (omega arith) (omega arith) (omega arith)) lt
