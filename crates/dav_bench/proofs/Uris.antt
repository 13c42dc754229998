-- The text of a request of the large input is its path.
use Rattle.std.proofs.Common.{◌≡◌, IsTrue, ℕ, ◌+◌, ◌<◌, ◌≤◌, ◌^◌, ◌==◌, true, not, List, [], ◌∷◌, ◌++◌, length, codes, decimal, All, None, refl, ap, ◌∙◌, arith}
use Rattle.std.proofs.lemmas.Bool.Decides.{nat_tests}
use Rattle.std.specs.List.{AllByRecursion}
use Rattle.http_uri.specs.declared.uri.Uri.{Uri}
use Rattle.http_uri.specs.Uri.{HasParts, uri_path}
use Rattle.std.proofs.lemmas.Fmt.{length-decimal-le}
use Rattle.std.proofs.lemmas.List.Elements.{All-from_recursion}
use Rattle.http_uri.specs.Grammar.{IsPathInput, without_fragment}
use Rattle.http_uri.specs.ByteClasses.{is_path_byte}
use Rattle.dav_core.proofs.UriPaths.{IsUriByte, begun_is_input, begun_path}
use Rattle.dav_bench.specs.Names.{target}
use Rattle.dav_bench.proofs.Digits.{decimal_each, each_append}

no_mark : (b : ℕ) → 48 ≤ b → b ≤ 57 → not (b == 63) ≡ true
no_mark b low high = grind (arith, nat_tests)

no_hash : (b : ℕ) → 48 ≤ b → b ≤ 57 → not (b == 35) ≡ true
no_hash b low high = grind (arith, nat_tests)

each_byte : (P : ℕ → Type 0) → ((b : ℕ) → 48 ≤ b → b ≤ 57 → P b) → AllByRecursion P (codes "/dir") → AllByRecursion P (codes "/file") → (i j : ℕ) → i < 2 ^ 64 → j < 2 ^ 64
    → AllByRecursion P (target i j)
each_byte P digit dir file i j s t = each_append P (codes "/dir") (decimal i ++ (codes "/file" ++ decimal j)) dir
    (each_append P (decimal i) (codes "/file" ++ decimal j) (decimal_each P digit i s) (each_append P (codes "/file") (decimal j) file (decimal_each P digit j t)))

-- ---- the text is a path

path_digit : (b : ℕ) → 48 ≤ b → b ≤ 57 → IsTrue (is_path_byte b)
path_digit b low high = grind (arith, nat_tests)

both_lengths : (xs ys : List ℕ) → length (xs ++ ys) ≡ length xs + length ys
both_lengths [] ys = omega arith
both_lengths (x ∷ xs) ys = let e = both_lengths xs ys in omega arith

target_is_short : (i j : ℕ) → i < 2 ^ 64 → j < 2 ^ 64 → length (target i j) ≤ 65534
target_is_short i j s t =
    let d = length-decimal-le 20 i (omega arith) (omega arith) s in
    let e = length-decimal-le 20 j (omega arith) (omega arith) t in
    let a = both_lengths (codes "/dir") (decimal i ++ (codes "/file" ++ decimal j)) in
    let b = both_lengths (decimal i) (codes "/file" ++ decimal j) in
    let c = both_lengths (codes "/file") (decimal j) in
    omega arith

uri_digit : (b : ℕ) → 48 ≤ b → b ≤ 57 → IsUriByte b
uri_digit b low high = record { path = path_digit b low high; mark = no_mark b low high; hash = no_hash b low high; ascii = omega arith }

uri_byte : {b : ℕ} → IsTrue (is_path_byte b) → not (b == 63) ≡ true → not (b == 35) ≡ true → b < 128 → IsUriByte b
uri_byte path mark hash ascii = record { path = path; mark = mark; hash = hash; ascii = ascii }

-- each byte is one of a path
uri_bytes : (i j : ℕ) → i < 2 ^ 64 → j < 2 ^ 64 → All IsUriByte (target i j)
uri_bytes i j s t = All-from_recursion IsUriByte (target i j) (each_byte IsUriByte uri_digit
    (uri_byte refl refl refl (omega arith), (uri_byte refl refl refl (omega arith), (uri_byte refl refl refl (omega arith), (uri_byte refl refl refl (omega arith), tt))))
    (uri_byte refl refl refl (omega arith), (uri_byte refl refl refl (omega arith), (uri_byte refl refl refl (omega arith), (uri_byte refl refl refl (omega arith), (uri_byte refl refl refl (omega arith), tt))))) i j s t)

-- ---- the text is the path of its URI

pub target_is_input : (i j : ℕ) → i < 2 ^ 64 → j < 2 ^ 64 → IsPathInput (target i j)
target_is_input i j s t = begun_is_input (codes "dir" ++ (decimal i ++ (codes "/file" ++ decimal j))) (uri_bytes i j s t) (target_is_short i j s t)

pub path_is_text : (u : Uri) (text kept : List ℕ) (i j : ℕ) → i < 2 ^ 64 → j < 2 ^ 64 → text ≡ target i j → kept ≡ without_fragment text → HasParts u None None kept → uri_path u ≡ target i j
path_is_text u text kept i j s t is cut parts =
    begun_path u (codes "dir" ++ (decimal i ++ (codes "/file" ++ decimal j))) kept (uri_bytes i j s t) (cut ∙ ap without_fragment is) parts
