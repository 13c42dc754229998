-- Destinations: texts that are URIs, and texts that are cut at their query.
use Rattle.std.proofs.Common.{◌≡◌, ◌≢◌, ◌==◌, ◌&&◌, ◌<◌, ◌+◌, ℕ, suc, not, nat_le, cond, is_some, option_copied, Bor, Bool, true, false, List, [], ◌∷◌, take, Option, None, Some, IsSome, IfOk, IfErr, IsUtf8, Result, Ok, Err, refl, sym, ap, subst, ◌∙◌, arith, true≢false}
use Rattle.std.proofs.lemmas.Bool.{and_parts}
use Rattle.std.proofs.lemmas.Bool.Decides.{nat_tests}
use Rattle.std.proofs.lemmas.List.Elements.{All-weaker}
use Rattle.std.proofs.lemmas.List.Sums.{AllPass-from_list_all}
use Rattle.std.proofs.lemmas.Str.{IsUtf8-from_ascii}
use Rattle.std.proofs.lemmas.Str.Ascii.{IsAscii-from_all}
use Rattle.std.specs.List.{list_all, position_or_len}
use Rattle.http_uri.specs.Uri.{Spells, uri_scheme}
use Rattle.http_uri.specs.declared.uri.Uri.{Uri as Target}
use Rattle.http_uri.proofs.Theorems.{Spells_unique}
use Rattle.dav_core.specs.DavPath.{WebPath}
use Rattle.dav_core.specs.Grammar.{and_then, before_query, begins_with_slash, is_path_byte, names_in, parsed, placed, prefix_names, readable, segments}
use Rattle.dav_core.specs.declared.parse_error.ParseError.{ParseError}
use Rattle.dav_core.specs.declared.parse_error.ParseError.TheVariants.{InvalidPath, NoMemory}
use Rattle.dav_model.specs.Destination.{IsNoAddress}

-- Another URI of the text has no scheme either.
pub without_scheme : (text : List ℕ) (uri : Target) → Spells text uri → uri_scheme uri ≡ None → IsNoAddress text
without_scheme text uri spelled none = λ other also. (Spells_unique text other uri also spelled).0 ∙ none

-- a scheme, by what a URI shows
pub none_shown : (shown : Option (Bor (List ℕ))) (scheme : Option (List ℕ)) → is_some shown ≡ false → option_copied shown ≡ scheme → scheme ≡ None
none_shown None scheme none is = sym is
none_shown (Some x) scheme none is = absurd (true≢false none)

pub some_shown : (shown : Option (Bor (List ℕ))) (scheme : Option (List ℕ)) → is_some shown ≡ true → option_copied shown ≡ scheme → IsSome scheme
some_shown None scheme some is = absurd (true≢false (sym some))
some_shown (Some x) scheme some is = subst IsSome is refl

-- ---- the text before a query

cut_at : (b : ℕ) (text : List ℕ) → (b == 63) ≡ true → before_query (b ∷ text) ≡ []
cut_at b text is = ap (λ t. take (cond (not t) (1 + position_or_len (λ b. b == 63) text) 0) (b ∷ text)) is

cut_past : (b : ℕ) (text : List ℕ) → (b == 63) ≡ false → before_query (b ∷ text) ≡ b ∷ before_query text
cut_past b text other =
    let more : 1 + position_or_len (λ b. b == 63) text ≡ suc (position_or_len (λ b. b == 63) text) = omega arith in
    ap (λ t. take (cond (not t) (1 + position_or_len (λ b. b == 63) text) 0) (b ∷ text)) other ∙ ap (λ n. take n (b ∷ text)) more

-- What is before the query has none.
cut_again : (text : List ℕ) → before_query (before_query text) ≡ before_query text
cut_again [] = refl
cut_again (b ∷ text) = by (b == 63) refl (cut_again text)
  where
    by : (is : Bool) → (b == 63) ≡ is → before_query (before_query text) ≡ before_query text → before_query (before_query (b ∷ text)) ≡ before_query (b ∷ text)
    by true is rest = let same = cut_at b text is in ap before_query same ∙ sym same
    by false other rest = let same = cut_past b text other in
        ap before_query same ∙ (cut_past b (before_query text) other ∙ (ap (λ front. b ∷ front) rest ∙ sym same))

-- the path of a text, and of what is before its query
pub parsed_cut : (text prefix : List ℕ) → parsed (before_query text) prefix ≡ parsed text prefix
parsed_cut text prefix = ap (λ front. and_then (readable front) (λ cut. and_then (names_in (segments cut)) (placed (segments cut) (prefix_names prefix)))) (cut_again text)

small : (b : ℕ) → is_path_byte b ≡ true → b < 128
small b is =
    let parts = and_parts (nat_le 33 b && nat_le b 126) (not (b == 35)) is in
    let more = and_parts (nat_le 33 b) (nat_le b 126) parts.0 in grind (arith, nat_tests)

-- Where the text before a query isn't UTF-8, it has no path.
pub unread : (text prefix : List ℕ) → (IsUtf8 (before_query text) → ⊥) → parsed text prefix ≡ Err InvalidPath
unread text prefix broken = by (list_all is_path_byte (before_query text)) refl
  where
    by : (all : Bool) → list_all is_path_byte (before_query text) ≡ all → parsed text prefix ≡ Err InvalidPath
    by true is =
        let pass = AllPass-from_list_all is_path_byte (before_query text) is in
        let ascii = IsAscii-from_all (before_query text) (All-weaker (λ b. is_path_byte b ≡ true) (λ b. b < 128) small (before_query text) pass) in
        absurd (broken (IsUtf8-from_ascii (before_query text) ascii))
    by false is =
        ap (λ all. and_then (cond (all && begins_with_slash (before_query text)) (Ok (before_query text)) (Err InvalidPath)) (λ cut. and_then (names_in (segments cut)) (placed (segments cut) (prefix_names prefix)))) is

module _ (text cut prefix : List ℕ) (r : Result WebPath ParseError) (same : cut ≡ before_query text) where
  -- what was read of the text before a query
  equal : parsed cut prefix ≡ parsed text prefix
  equal = ap (λ front. parsed front prefix) same ∙ parsed_cut text prefix

  pub read_ok : IfOk r (λ path. parsed cut prefix ≡ Ok path) → IfOk r (λ path. parsed text prefix ≡ Ok path)
  read_ok = subst (λ (all : Result WebPath ParseError). IfOk r (λ path. all ≡ Ok path)) equal

  pub read_err : IfErr r (λ fault. fault ≢ NoMemory → parsed cut prefix ≡ Err fault) → IfErr r (λ fault. fault ≢ NoMemory → parsed text prefix ≡ Err fault)
  read_err = subst (λ (all : Result WebPath ParseError). IfErr r (λ fault. fault ≢ NoMemory → all ≡ Err fault)) equal
