-- Folding a folded name changes nothing.
use Rattle.std.proofs.Common.{◌≡◌, ℕ, true, List, [], ◌∷◌, ◌++◌, All, IsUtf8, chars, encode_utf8_all, refl, ap, ap₂, ◌∙◌}
use Rattle.std.proofs.Math.Utf8.{scalar, scalars}
use Rattle.std.proofs.lemmas.Bool.{and_parts}
use Rattle.std.proofs.lemmas.Str.{chars-encodes, scalars-chars}
use Rattle.std.proofs.lemmas.List.Elements.{All-head, All-tail}
use Rattle.caseless.specs.Caseless.{default_case_fold}
use Rattle.caseless.proofs.CaselessLemmas.{default_case_fold_idem, default_case_fold-nil, default_case_fold-cons}
use Rattle.ucd_case.specs.CaseFolding.{full_folding, full_fold, or_itself}
use Rattle.ucd_case.proofs.CaseFoldingLemmas.{full_folding_stepped}
use Rattle.ucd_table.proofs.RangedFacts.{values_ok, Stepped-at_values}
use Rattle.ucd_table.proofs.Computing.{tables}
use Rattle.dav_memory.specs.Trees.{Name, Names, fold_name, fold_path}

-- ---- the characters of a folding are scalars

folds_scalars : (c : ℕ) → scalars (full_folding c) ≡ true
unfolding tables values_ok full_folding_stepped
folds_scalars c = Stepped-at_values full_folding full_folding_stepped scalars refl c

scalars_of : (c : ℕ) (table : List ℕ) → scalars (c ∷ []) ≡ true → scalars table ≡ true → scalars (or_itself c table) ≡ true
scalars_of c [] own all = own
scalars_of c (x ∷ xs) own all = all

scalars-append : (xs ys : List ℕ) → scalars xs ≡ true → scalars ys ≡ true → scalars (xs ++ ys) ≡ true
scalars-append [] ys a b = b
scalars-append (x ∷ xs) ys a b = let parts = and_parts (scalar x) (scalars xs) a in rw parts.0 (scalars-append xs ys parts.1 b)

scalars-fold : (cs : List ℕ) → scalars cs ≡ true → scalars (default_case_fold cs) ≡ true
scalars-fold [] h = ap scalars default_case_fold-nil
scalars-fold (c ∷ cs) h =
    let parts = and_parts (scalar c) (scalars cs) h in
    let own : scalars (c ∷ []) ≡ true = rw parts.0 refl in
    ap scalars (default_case_fold-cons c cs)
    ∙ scalars-append (full_fold c) (default_case_fold cs) (scalars_of c (full_folding c) own (folds_scalars c)) (scalars-fold cs parts.1)

-- ---- names and paths

pub fold_name_idem : (name : Name) → IsUtf8 name → fold_name (fold_name name) ≡ fold_name name
unfolding fold_name
fold_name_idem name text =
    ap (λ cs. encode_utf8_all (default_case_fold cs)) (chars-encodes (default_case_fold (chars name)) (scalars-fold (chars name) (scalars-chars name text)))
    ∙ ap encode_utf8_all (default_case_fold_idem (chars name))

pub fold_path_idem : (path : Names) → All IsUtf8 path → fold_path (fold_path path) ≡ fold_path path
unfolding fold_path
fold_path_idem [] all = refl
fold_path_idem (name ∷ path) all =
    ap₂ (λ (n : Name) (p : Names). n ∷ p) (fold_name_idem name (All-head IsUtf8 name path all)) (fold_path_idem path (All-tail IsUtf8 name path all))
