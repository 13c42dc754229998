-- What words of these numbers ask for.
use Rattle.std.proofs.Common.{◌≡◌, ◌<◌, ◌≤◌, List, [], ◌∷◌, length, get_or, Bool, true, if◌then◌else◌, codes, None, Some, String, string_bytes, Result, sym, subst, arith}
use Rattle.std.specs.Str.{bytes_eq}
use Rattle.dav_put.specs.declared.ending.Ending.{Ending}
use Rattle.dav_put.specs.declared.words.Task.{Task}
use Rattle.dav_put.specs.declared.words.Task.TheVariants.{Store}
use Rattle.dav_put.specs.Words.{IsSaid, asked_of, path_alone, sweep_asked, task_behind}

-- one word is a path
pub one_said : {A : Type 0} (words : List (String A)) (path : String A) (r : Result Task Ending) → 1 ≤ length words → length words < 2 → path ≡ get_or words 0 path → IsSaid (asked_of Store (path_alone (string_bytes path))) r
    → IsSaid (task_behind words) r
one_said [] path r least most at is = absurd (omega arith)
one_said (word ∷ []) path r least most at is = subst (λ (w : String _). IsSaid (asked_of Store (path_alone (string_bytes w))) r) at is
one_said (word ∷ second ∷ more) path r least most at is = absurd (omega arith)

-- two words say a sweep that goes an hour back
pub two_said : {A : Type 0} (words : List (String A)) (verb dir : String A) (r : Result Task Ending) → 2 ≤ length words → length words < 3 → verb ≡ get_or words 0 verb → dir ≡ get_or words 1 dir
    → bytes_eq (string_bytes verb) (codes "--sweep") ≡ true → IsSaid (sweep_asked (string_bytes dir) (Some 3600)) r → IsSaid (task_behind words) r
two_said [] verb dir r least most at there sweeps is = absurd (omega arith)
two_said (word ∷ []) verb dir r least most at there sweeps is = absurd (omega arith)
two_said (word ∷ second ∷ []) verb dir r least most at there sweeps is =
    let says : bytes_eq (string_bytes word) (codes "--sweep") ≡ true = subst (λ (w : String _). bytes_eq (string_bytes w) (codes "--sweep") ≡ true) at sweeps in
    subst (λ (b : Bool). IsSaid (if b then sweep_asked (string_bytes second) (Some 3600) else None) r) (sym says)
    (subst (λ (w : String _). IsSaid (sweep_asked (string_bytes w) (Some 3600)) r) there is)
two_said (word ∷ second ∷ third ∷ more) verb dir r least most at there sweeps is = absurd (omega arith)
