-- Names of ASCII fold to their letters in lower case.
use Rattle.std.proofs.Common.{◌≡◌, ◌<◌, ℕ, List, All, IsAscii, chars, encode_utf8_all, map, ap, subst, ◌∙◌}
use Rattle.std.specs.Char.{to_ascii_lowercase}
use Rattle.std.proofs.lemmas.List.Elements.{All-map}
use Rattle.std.proofs.lemmas.Str.{chars-IsAscii}
use Rattle.std.proofs.lemmas.Str.Ascii.{IsAscii-from_all, encodes-IsAscii, lowercase_ascii}
use Rattle.caseless.proofs.CaselessLemmas.{All-chars, default_case_fold-ascii}
use Rattle.dav_memory.specs.Trees.{fold_name}

pub ascii_folds : (name : List ℕ) → IsAscii name → fold_name name ≡ map to_ascii_lowercase name
unfolding fold_name
ascii_folds name ascii =
    let small : All (λ c. c < 128) name = subst (All (λ c. c < 128)) (chars-IsAscii name ascii) (All-chars name ascii) in
    let lower : All (λ c. c < 128) (map to_ascii_lowercase name) =
    All-map (λ c. c < 128) to_ascii_lowercase name (λ k d within. lowercase_ascii _ (small k d within)) in
    ap encode_utf8_all (default_case_fold-ascii (chars name) (All-chars name ascii) ∙ ap (map to_ascii_lowercase) (chars-IsAscii name ascii))
    ∙ encodes-IsAscii (map to_ascii_lowercase name) (IsAscii-from_all (map to_ascii_lowercase name) lower)
