-- What the large input asks for is what its text says.
use Rattle.std.proofs.Common.{◌≡◌, ℕ, suc, ◌<◌, ◌≤◌, ◌^◌, ◌==◌, ◌&&◌, Bool, true, false, List, [], ◌∷◌, ◌++◌, length, codes, decimal, Ok, refl, sym, ap, ap₂, ◌∙◌, arith, append-nil}
use Rattle.std.proofs.lemmas.Bool.Decides.{nat_tests}
use Rattle.std.proofs.lemmas.Str.{IsUtf8-from_ascii, is_utf8-from_IsUtf8}
use Rattle.std.specs.List.{AllByRecursion, list_any}
use Rattle.std.specs.Str.{is_utf8}
use Rattle.http.specs.Request.{head_of, body_of}
use Rattle.dav_core.specs.declared.method.DavMethod.TheVariants.{Get}
use Rattle.dav_core.specs.DavPath.{IsPath, link_byte, link_of, shown, stays}
use Rattle.dav_core.specs.Grammar.{parsed}
use Rattle.dav_core.specs.Methods.{method_of}
use Rattle.dav_core.specs.Path.{all_plain, is_plain, parts_names}
use Rattle.dav_core.proofs.Back.{parsed_back}
use Rattle.dav_model.specs.declared.target.Target.TheVariants.{At}
use Rattle.dav_model.specs.Conditions.{Asked}
use Rattle.dav_model.specs.Gates.{admitted, bulk_of, weighed, with_method, with_path}
use Rattle.dav_model.specs.Trail.{target_of}
use Rattle.dav_model.specs.Unset.{nothing_set}
use Rattle.dav_bench.specs.Names.{dir_name, file_name, dir_path, file_path, asked_dir, asked_file, asked_at, target}
use Rattle.dav_bench.specs.Asking.{IsAsking, bench_rules}
use Rattle.dav_bench.proofs.Digits.{decimal_each, each_append}
use Rattle.dav_bench.proofs.Folding.{ascii_name, at_index}

-- ---- names of letters and a number

any_of : (p : ℕ → Bool) (bs : List ℕ) → AllByRecursion (λ b. p b ≡ false) bs → list_any p bs ≡ false
any_of p [] all = refl
any_of p (b ∷ bs) (here, all) = rw here (any_of p bs all)

digit_is_no_slash : (b : ℕ) → 48 ≤ b → b ≤ 57 → parts_names b ≡ false
digit_is_no_slash b low high = grind (arith, nat_tests)

no_slash : (n : ℕ) → n < 2 ^ 64 → list_any parts_names (decimal n) ≡ false
no_slash n lt = any_of parts_names (decimal n) (decimal_each (λ b. parts_names b ≡ false) digit_is_no_slash n lt)

some_bytes : (k : ℕ) → (suc k == 0) ≡ false
some_bytes k = grind (arith, nat_tests)

pub plain_dir : (n : ℕ) → n < 2 ^ 64 → is_plain (dir_name n) ≡ true
plain_dir n lt = rw (some_bytes (suc (suc (length (decimal n)))), no_slash n lt) refl

pub plain_file : (n : ℕ) → n < 2 ^ 64 → is_plain (file_name n) ≡ true
plain_file n lt = rw (some_bytes (suc (suc (suc (length (decimal n))))), no_slash n lt) refl

plain_asked_dir : (n : ℕ) → n < 2 ^ 64 → is_plain (asked_dir n) ≡ true
plain_asked_dir n lt = rw (some_bytes (suc (suc (length (decimal n)))), no_slash n lt) refl

plain_asked_file : (n : ℕ) → n < 2 ^ 64 → is_plain (asked_file n) ≡ true
plain_asked_file n lt = rw (some_bytes (suc (suc (suc (length (decimal n))))), no_slash n lt) refl

pub plain_dir_path : (i : ℕ) → i < 2 ^ 64 → all_plain (dir_path i) ≡ true
plain_dir_path i lt = rw (plain_dir i lt) refl

pub plain_file_path : (i j : ℕ) → i < 2 ^ 64 → j < 2 ^ 64 → all_plain (file_path i j) ≡ true
plain_file_path i j s t = rw (plain_dir i s, plain_file j t) refl

text_dir : (n : ℕ) → n < 2 ^ 64 → is_utf8 (asked_dir n) ≡ true
text_dir n lt = is_utf8-from_IsUtf8 (asked_dir n) (IsUtf8-from_ascii (asked_dir n) (at_index (asked_dir n) (ascii_name (codes "dir") n (omega arith, (omega arith, (omega arith, tt))) lt)))

text_file : (n : ℕ) → n < 2 ^ 64 → is_utf8 (asked_file n) ≡ true
text_file n lt = is_utf8-from_IsUtf8 (asked_file n) (IsUtf8-from_ascii (asked_file n) (at_index (asked_file n) (ascii_name (codes "file") n (omega arith, (omega arith, (omega arith, (omega arith, tt)))) lt)))

all_both : (a b c d : Bool) → a ≡ true → b ≡ true → c ≡ true → d ≡ true → ((a && (b && true)) && (c && (d && true))) ≡ true
all_both a b c d e f g h = rw (e, f, g, h) refl

is_path : (i j : ℕ) → i < 2 ^ 64 → j < 2 ^ 64 → IsPath (asked_at i j)
is_path i j s t = record {
  texts = all_both (is_plain (asked_dir i)) (is_plain (asked_file j)) (is_utf8 (asked_dir i)) (is_utf8 (asked_file j)) (plain_asked_dir i s) (plain_asked_file j t) (text_dir i s) (text_file j t);
  ends = refl;
}

-- ---- its link

stays_linked : (bs : List ℕ) → AllByRecursion (λ b. stays b ≡ true) bs → link_of bs ≡ bs
stays_linked [] all = refl
stays_linked (b ∷ bs) (here, all) = ap₂ (λ (x y : List ℕ). x ++ y) (as_it_is b here) (stays_linked bs all)
  where
    as_it_is : (b : ℕ) → stays b ≡ true → link_byte b ≡ b ∷ []
    as_it_is b e = rw e refl

digit_stays : (b : ℕ) → 48 ≤ b → b ≤ 57 → stays b ≡ true
digit_stays b low high = grind (arith, nat_tests)

number_stays : (n : ℕ) → n < 2 ^ 64 → AllByRecursion (λ b. stays b ≡ true) (decimal n)
number_stays n lt = decimal_each (λ b. stays b ≡ true) digit_stays n lt

abbrev Stay : ℕ → Type 0
Stay b = stays b ≡ true

target_stays : (i j : ℕ) → i < 2 ^ 64 → j < 2 ^ 64 → AllByRecursion Stay (target i j)
target_stays i j s t = each_append Stay (codes "/dir") (decimal i ++ (codes "/file" ++ decimal j)) (refl, (refl, (refl, (refl, tt))))
    (each_append Stay (decimal i) (codes "/file" ++ decimal j) (number_stays i s)
    (each_append Stay (codes "/file") (decimal j) (refl, (refl, (refl, (refl, (refl, tt))))) (number_stays j t)))

target_shown : (i j : ℕ) → shown (asked_at i j) ≡ target i j
target_shown i j = ap (λ z. codes "/dir" ++ z) (append-nil (decimal i ++ (codes "/file" ++ (decimal j ++ []))) ∙ ap (λ z. decimal i ++ (codes "/file" ++ z)) (append-nil (decimal j)))

pub target_parsed : (i j : ℕ) → i < 2 ^ 64 → j < 2 ^ 64 → parsed (target i j) [] ≡ Ok (asked_at i j)
target_parsed i j s t =
    ap (λ z. parsed z []) (sym (stays_linked (target i j) (target_stays i j s t)) ∙ ap link_of (sym (target_shown i j)))
    ∙ parsed_back (asked_at i j) [] (is_path i j s t) refl

-- ---- the gates

pub asks_at : (i j : ℕ) (request : Asked) → i < 2 ^ 64 → j < 2 ^ 64 → IsAsking i j request → target_of bench_rules request ≡ At Get (asked_at i j)
asks_at i j request s t asking =
    ap (λ f. weighed f (bulk_of (body_of request)) (admitted nothing_set true (head_of request))) asking.fields
    ∙ (ap (λ b. weighed [] (bulk_of b) (admitted nothing_set true (head_of request))) asking.body
    ∙ (ap (λ a. weighed [] (bulk_of []) a) here))
  where
    here : admitted nothing_set true (head_of request) ≡ At Get (asked_at i j)
    here = ap (λ word. with_method nothing_set true (head_of request) (method_of word)) asking.method
        ∙ ap (λ text. with_path Get (parsed text [])) asking.path ∙ ap (with_path Get) (target_parsed i j s t)
