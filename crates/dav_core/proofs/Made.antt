-- Paths that texts give, and that calls make of paths.
use Rattle.std.proofs.Common.{◌≡◌, ◌==◌, ◌-◌, ℕ, Bool, true, false, not, cond, ◌&&◌, ◌||◌, List, [], ◌∷◌, ◌++◌, length, take, drop, Ok, Err, Result, refl, sym, ap, ap₂, ◌∙◌, append_assoc, take-append-drop, arith}
use Rattle.std.proofs.lemmas.Bool.{and_parts, and_from}
use Rattle.std.proofs.lemmas.Bool.Decides.{nat_tests}
use Rattle.std.proofs.lemmas.List.{length-append}
use Rattle.std.proofs.lemmas.List.Folds.{list_all-append}
use Rattle.std.specs.List.{list_all}
use Rattle.std.specs.Str.{is_utf8}
use Rattle.percent_encoding.specs.Percent.{percent_decode}
use Rattle.dav_core.specs.declared.parse_error.ParseError.{ParseError}
use Rattle.dav_core.specs.declared.parse_error.ParseError.TheVariants.{InvalidPath, NotText, PrefixMismatch}
use Rattle.dav_core.specs.DavPath.{WebPath, IsPath, are_texts, ends_well, last_name}
use Rattle.dav_core.specs.Path.{Names, is_plain, is_front, parent_of}
use Rattle.dav_core.specs.Grammar.{and_then, readable, segments, before_query, kept_of, decoded, all_decoded, names_in, prefix_names, ends, has_slash, placed, parsed}
use Rattle.dav_core.proofs.Plain.{names_same}

texts_append : (front names : Names) → are_texts (front ++ names) ≡ (are_texts front && are_texts names)
texts_append front names =
    ap₂ ◌&&◌ (list_all-append is_plain front names) (list_all-append is_utf8 front names)
    ∙ four (list_all is_plain front) (list_all is_plain names) (list_all is_utf8 front) (list_all is_utf8 names)
  where
    four : (a b c d : Bool) → ((a && b) && (c && d)) ≡ ((a && c) && (b && d))
    four true true true d = refl
    four true true false d = refl
    four true false true d = refl
    four true false false d = refl
    four false b c d = refl

-- ---- what a text gives

text_of : (bytes name : List ℕ) (plain utf8 : Bool) → is_plain bytes ≡ plain → is_utf8 bytes ≡ utf8 → cond plain (cond utf8 (Ok bytes) (Err NotText)) (Err InvalidPath) ≡ Ok name
    → (is_plain name ≡ true) × (is_utf8 name ≡ true)
text_of bytes name true true p u e = let same : bytes ≡ name = cc in (ap is_plain (sym same) ∙ p, ap is_utf8 (sym same) ∙ u)
text_of bytes name true false p u e = cc
text_of bytes name false utf8 p u e = cc

texts_of : (kept names : Names) → all_decoded kept ≡ Ok names → are_texts names ≡ true
texts_of [] names e = let none : [] ≡ names = cc in ap are_texts (sym none)
texts_of (s ∷ kept) names e =
    both (decoded s) (all_decoded kept) names (λ name d. text_of (percent_decode s) name (is_plain (percent_decode s)) (is_utf8 (percent_decode s)) refl refl d) (texts_of kept) e
  where
    both : (first : Result (List ℕ) ParseError) (rest : Result Names ParseError) (names : Names) → ((name : List ℕ) → first ≡ Ok name → (is_plain name ≡ true) × (is_utf8 name ≡ true))
        → ((others : Names) → rest ≡ Ok others → are_texts others ≡ true)
        → and_then first (λ name. and_then rest (λ others. Ok (name ∷ others))) ≡ Ok names → are_texts names ≡ true
    both (Err e) rest names one more h = cc
    both (Ok name) (Err e) names one more h = cc
    both (Ok name) (Ok others) names one more h =
        let same : name ∷ others ≡ names = cc in
        let text = one name refl in
        let rest = and_parts _ _ (more others refl) in
        ap are_texts (sym same) ∙ and_from _ _ (and_from _ _ text.0 rest.0) (and_from _ _ text.1 rest.1)

well : (names : Names) (slash : Bool) → (not (length names == 0) || (slash || length names == 0)) ≡ true
well names slash = by (length names == 0) slash
  where
    by : (none slash : Bool) → (not none || (slash || none)) ≡ true
    by true true = refl
    by true false = refl
    by false slash = refl

placed_path : (segs prefix all : Names) (path : WebPath) (begins : Bool) → is_front prefix all ≡ begins → are_texts all ≡ true
    → and_then (cond begins (Ok (drop (length prefix) all)) (Err PrefixMismatch)) (λ names. Ok (record { prefix = prefix; names = names; slash = has_slash segs names })) ≡ Ok path
    → IsPath path × (prefix ≡ path.prefix)
placed_path segs prefix all path false b t e = cc
placed_path segs prefix all path true b t e =
    let names = drop (length prefix) all in
    let made : WebPath = record { prefix = prefix; names = names; slash = has_slash segs names } in
    let same : made ≡ path = cc in
    let whole : prefix ++ names ≡ all = ap (λ (front : Names). front ++ names) (names_same prefix (take (length prefix) all) b) ∙ take-append-drop (length prefix) all in (
      record {
        texts = ap (λ (p : WebPath). are_texts (p.prefix ++ p.names)) (sym same) ∙ ap are_texts whole ∙ t;
        ends = ap ends_well (sym same) ∙ well names (ends (last_name segs));
      },
      ap (λ (p : WebPath). p.prefix) same,
    )

parts : (cut : Result (List ℕ) ParseError) (prefix : Names) (path : WebPath)
    → and_then cut (λ cut. and_then (names_in (segments cut)) (placed (segments cut) prefix)) ≡ Ok path → IsPath path × (prefix ≡ path.prefix)
parts (Err e) prefix path h = cc
parts (Ok cut) prefix path h = by (kept_of (segments cut)) h
  where
    named : (kept : Names) (all : Result Names ParseError) → all_decoded kept ≡ all → and_then all (placed (segments cut) prefix) ≡ Ok path → IsPath path × (prefix ≡ path.prefix)
    named kept (Err e) a h = cc
    named kept (Ok all) a h = placed_path (segments cut) prefix all path (is_front prefix all) refl (texts_of kept all a) h

    by : (kept : Result Names ParseError) → and_then (and_then kept all_decoded) (placed (segments cut) prefix) ≡ Ok path → IsPath path × (prefix ≡ path.prefix)
    by (Err e) h = cc
    by (Ok kept) h = named kept (all_decoded kept) refl h

pub parsed_path : (text prefix : List ℕ) (path : WebPath) → parsed text prefix ≡ Ok path → IsPath path × (prefix_names prefix ≡ path.prefix)
parsed_path text prefix path h = parts (readable (before_query text)) (prefix_names prefix) path h

-- ---- what calls make of a path

pub pushed_path : (path : WebPath) (name : List ℕ) → IsPath path → is_plain name ≡ true → is_utf8 name ≡ true
    → IsPath (record path { names = path.names ++ name ∷ []; slash = false })
pushed_path path name is plain utf8 = record {
  texts =
      ap are_texts (sym (append_assoc path.prefix path.names (name ∷ []))) ∙ texts_append (path.prefix ++ path.names) (name ∷ [])
      ∙ and_from _ _ is.texts (and_from _ _ (and_from _ _ plain refl) (and_from _ _ utf8 refl));
  ends = let some = length-append path.names (name ∷ []) in grind (arith, nat_tests, some);
}

pub parent_path : (path : WebPath) → IsPath path → IsPath (record path { names = parent_of path.names; slash = true })
parent_path path is =
    let kept = parent_of path.names in
    let rest = drop (length path.names - 1) path.names in
    let whole : (path.prefix ++ kept) ++ rest ≡ path.prefix ++ path.names =
    append_assoc path.prefix kept rest ∙ ap (λ names. path.prefix ++ names) (take-append-drop (length path.names - 1) path.names) in
    record {
      texts = (and_parts _ _ (sym (texts_append (path.prefix ++ kept) rest) ∙ ap are_texts whole ∙ is.texts)).0;
      ends = or_true (not (length kept == 0));
    }
  where
    or_true : (b : Bool) → (b || true) ≡ true
    or_true true = refl
    or_true false = refl

pub slashed_path : (path : WebPath) → IsPath path → IsPath (record path { slash = true })
slashed_path path is = record { texts = is.texts; ends = or_true (not (length path.names == 0)) }
  where
    or_true : (b : Bool) → (b || true) ≡ true
    or_true true = refl
    or_true false = refl
