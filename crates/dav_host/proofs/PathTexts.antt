-- The text of a path, name by name.
use Rattle.std.proofs.Common.{◌≡◌, ◌<◌, ◌≤◌, ◌+◌, ℕ, zero, suc, List, [], ◌∷◌, ◌++◌, take, length, nat_le, true, false, get_or, refl, sym, ap, ◌∙◌, arith, append_assoc, append-nil}
use Rattle.std.proofs.lemmas.Bool.{leb-true, leb-false}
use Rattle.std.proofs.lemmas.Bool.Decides.{nat_tests}
use Rattle.std.proofs.lemmas.List.{length-append, take_more}
use Rattle.dav_core.specs.Path.{Names}
use Rattle.dav_host.specs.Host.{below, host_path, room}

below_more : (names : Names) (name : List ℕ) → below (names ++ name ∷ []) ≡ below names ++ (47 ∷ name)
below_more [] name = simp append-nil
below_more (n ∷ names) name = ap (λ t. (47 ∷ n) ++ t) (below_more names name) ∙ sym (append_assoc (47 ∷ n) (below names) (47 ∷ name))

-- a name more
pub path_more : (root : List ℕ) (names : Names) (i : ℕ) (d name text before after : List ℕ) → i < length names → name ≡ get_or names i d → text ≡ name
    → before ≡ host_path root (take i names) → after ≡ before ++ 47 ∷ text → after ≡ host_path root (take (i + 1) names)
path_more root names i d name text before after lt at is b e =
    e
    ∙ ap (λ t. before ++ 47 ∷ t) is
    ∙ ap (λ t. t ++ 47 ∷ name) b
    ∙ append_assoc root (below (take i names)) (47 ∷ name)
    ∙ ap (λ t. root ++ t) (sym (below_more (take i names) name) ∙ ap below (ap (λ x. take i names ++ x ∷ []) at ∙ sym (take_more names i d lt)))

-- What was appended and fits makes no text longer than the room.
pub fits_more : (before text after : List ℕ) → after ≡ before ++ 47 ∷ text → nat_le (length before + (1 + length text)) room ≡ true
    → length after ≤ room
fits_more before text after e fits = omega (arith, leb-true _ _ fits, ap length e, length-append before (47 ∷ text))

below_front : (names : Names) (i : ℕ) → length (below (take i names)) ≤ length (below names)
below_front [] zero = omega arith
below_front [] (suc i) = omega arith
below_front (n ∷ names) zero = omega arith
below_front (n ∷ names) (suc i) =
    omega (arith, below_front names i, length-append (47 ∷ n) (below (take i names)), length-append (47 ∷ n) (below names))

-- Fewer names have no longer a text.
no_longer : (root : List ℕ) (names : Names) (i : ℕ) → length (host_path root (take i names)) ≤ length (host_path root names)
no_longer root names i = omega (arith, below_front names i, length-append root (below (take i names)), length-append root (below names))

over_room : (n : ℕ) → room < n → nat_le n room ≡ false
over_room n over = grind (arith, nat_tests)

-- With a name more it is too long.
pub too_long : (root : List ℕ) (names : Names) (i : ℕ) (d name text before : List ℕ) → i < length names → name ≡ get_or names i d → text ≡ name
    → before ≡ host_path root (take i names) → nat_le (length before + (1 + length text)) room ≡ false
    → nat_le (length (host_path root names)) room ≡ false
too_long root names i d name text before lt at is b over =
    let more = ap length (path_more root names i d name text before (before ++ 47 ∷ text) lt at is b refl) in
    over_room (length (host_path root names)) (omega (arith, leb-false _ _ over, more, no_longer root names (i + 1), length-append before (47 ∷ text)))
