-- A text of bytes of a path that begins with a slash is the path of a URI, and nothing else of it.
use Rattle.std.proofs.Common.{◌≡◌, inl, inr, nat_lt, drop, IsTrue, IfSome, Some, None, ℕ, zero, suc, ◌+◌, ◌<◌, ◌≤◌, ◌==◌, ◌||◌, Bool, true, false, cond, not, List, [], ◌∷◌, length, take, codes, All, refl, sym, ap, subst, ◌∙◌, slice_index, arith}
use Rattle.std.proofs.lemmas.Bool.{cond-true, cond-false, le-ltb}
use Rattle.std.proofs.lemmas.Bool.Decides.{nat_tests}
use Rattle.std.proofs.lemmas.List.Elements.{All-head, All-tail, All-weaker}
use Rattle.std.proofs.lemmas.Str.{IsUtf8-from_ascii}
use Rattle.std.specs.List.{prefix_len}
use Rattle.http_uri.specs.declared.uri.Uri.{Uri}
use Rattle.http_uri.specs.declared.error.UriError.{UriError}
use Rattle.http_uri.specs.Error.{is_out_of_memory}
use Rattle.http_uri.specs.Uri.{HasParts, has_path, uri_data, uri_path}
use Rattle.http_uri.specs.Grammar.{AllPass, IsPathAndQuery, IsPathInput, or_slash, path_of, without_fragment}
use Rattle.http_uri.specs.ByteClasses.{index_of, is_path_byte, is_query_byte, split_once_front}

-- a byte of a path, that is no question mark and no hash
pub record IsUriByte (b : ℕ) : Type 0 where
  pub path : IsTrue (is_path_byte b)
  pub mark : not (b == 63) ≡ true
  pub hash : not (b == 35) ≡ true
  pub ascii : b < 128

-- ---- nothing is cut off

all_front : (p : ℕ → Bool) (bs : List ℕ) → All (λ b. p b ≡ true) bs → prefix_len p bs ≡ length bs
all_front p [] all = refl
all_front p (b ∷ bs) all =
    rw (All-head (λ b. p b ≡ true) b bs all) (let e = all_front p bs (All-tail (λ b. p b ≡ true) b bs all) in omega arith)

whole : (bs : List ℕ) (n : ℕ) → n ≡ length bs → take n bs ≡ bs
whole [] n e = rw e refl
whole (b ∷ bs) n e = rw e (ap (λ z. b ∷ z) (whole bs (length bs) refl))

front_is_all : (p : ℕ → Bool) (bs : List ℕ) → All (λ b. p b ≡ true) bs → take (prefix_len p bs) bs ≡ bs
front_is_all p bs all = whole bs (prefix_len p bs) (all_front p bs all)

unmarked : (text : List ℕ) → All IsUriByte text → split_once_front 63 text ≡ text
unmarked text all = front_is_all (λ b. not (b == 63)) text (All-weaker IsUriByte (λ b. not (b == 63) ≡ true) (λ b h. h.mark) text all)

unhashed : (text : List ℕ) → All IsUriByte text → split_once_front 35 text ≡ text
unhashed text all = front_is_all (λ b. not (b == 35)) text (All-weaker IsUriByte (λ b. not (b == 35) ≡ true) (λ b h. h.hash) text all)

-- ---- the text is a path

no_query : (n : ℕ) (text : List ℕ) → n ≡ length text → IfSome (cond (nat_lt n (length text)) (Some (drop (n + 1) text)) None) (AllPass is_query_byte)
no_query n text e = rw (e, le-ltb (length text) (length text) (omega arith)) tt

ascii_at : (text : List ℕ) → All (λ b. b < 128) text → (i : ℕ) → slice_index text i < 128
ascii_at [] all i = omega arith
ascii_at (b ∷ text) all zero = All-head (λ b. b < 128) b text all
ascii_at (b ∷ text) all (suc i) = ascii_at text (All-tail (λ b. b < 128) b text all) i

pub begun_is_input : (rest : List ℕ) → All IsUriByte (47 ∷ rest) → length (47 ∷ rest) ≤ 65534 → IsPathInput (47 ∷ rest)
begun_is_input rest all short =
    let text = 47 ∷ rest in
    record {
      start = inr refl;
      short = short;
      kept = subst IsPathAndQuery (sym (unhashed text all)) (record {
        start = inr (inr (inl refl));
        path = subst (AllPass is_path_byte) (sym (unmarked text all)) (All-weaker IsUriByte (λ b. IsTrue (is_path_byte b)) (λ b h. h.path) text all);
        query = no_query (index_of 63 text) text (all_front (λ b. not (b == 63)) text (All-weaker IsUriByte (λ b. not (b == 63) ≡ true) (λ b h. h.mark) text all));
        utf8 = IsUtf8-from_ascii text (ascii_at text (All-weaker IsUriByte (λ b. b < 128) (λ b h. h.ascii) text all));
        short = short;
      });
    }

some_bytes : (k : ℕ) → (suc k == 0) ≡ false
some_bytes k = grind (arith, nat_tests)

not_or : (b c : Bool) → b ≡ false → (not b || c) ≡ true
not_or true c e = cc
not_or false c e = refl

pub begun_path : (u : Uri) (rest kept : List ℕ) → All IsUriByte (47 ∷ rest) → kept ≡ without_fragment (47 ∷ rest) → HasParts u None None kept → uri_path u ≡ 47 ∷ rest
begun_path u rest kept all cut parts =
    let text = 47 ∷ rest in
    let kept_is : uri_data u ≡ text = parts.2 ∙ (cut ∙ unhashed text all) in
    let some : (length text == 0) ≡ false = some_bytes (length rest) in
    let path_is : path_of text ≡ text = ap or_slash (unmarked text all) ∙ cond-false (length text == 0) (codes "/") text some in
    cond-true (has_path u) (path_of (uri_data u)) [] (not_or (length (uri_data u) == 0) _ (ap (λ z. length z == 0) kept_is ∙ some)) ∙ (ap path_of kept_is ∙ path_is)

-- ---- its reader's refusals

pub not_so : IsTrue false → ⊥
not_so e = cc

pub out_of_memory_by : (e f : UriError) → IsTrue (is_out_of_memory e) → e ≡ f → IsTrue (is_out_of_memory f)
out_of_memory_by e f out same = subst (λ z. IsTrue (is_out_of_memory z)) same out
