-- Parts of lists of plain names.
use Rattle.std.proofs.Common.{◌≡◌, ℕ, true, length, take, drop, sym, ap, ◌∙◌, take-append-drop}
use Rattle.std.proofs.lemmas.Bool.{and_parts}
use Rattle.std.proofs.lemmas.List.Folds.{list_all-append}
use Rattle.dav_core.specs.Path.{Names, is_plain, all_plain, is_front}
pub use Rattle.dav_core.proofs.Paths.{names_same}

both : (n : ℕ) (names : Names) → all_plain names ≡ true → (all_plain (take n names) ≡ true) × (all_plain (drop n names) ≡ true)
both n names plain =
    and_parts (all_plain (take n names)) (all_plain (drop n names)) (sym (list_all-append is_plain (take n names) (drop n names)) ∙ ap all_plain (take-append-drop n names) ∙ plain)

pub plain_take : (n : ℕ) (names : Names) → all_plain names ≡ true → all_plain (take n names) ≡ true
plain_take n names plain = (both n names plain).0

pub plain_drop : (n : ℕ) (names : Names) → all_plain names ≡ true → all_plain (drop n names) ≡ true
plain_drop n names plain = (both n names plain).1

-- what plain names begin with is plain
pub front_plain : (front names : Names) → is_front front names ≡ true → all_plain names ≡ true → all_plain front ≡ true
front_plain front names begins plain = ap all_plain (names_same front (take (length front) names) begins) ∙ plain_take (length front) names plain
