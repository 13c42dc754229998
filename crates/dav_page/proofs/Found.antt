-- What a reader's steps find, carried over to the text that they began with.
use Rattle.std.proofs.Common.{◌≡◌, ℕ, List, ◌++◌, codes, Option, Some, None, Result, Ok, Err, IfOk, IfSome, sym, ap, ◌∙◌}
use Rattle.std.specs.Borrow.{Bor}
use Rattle.std.proofs.lemmas.List.{append_cancel_left}
use Rattle.dav_page.specs.Cuts.{HasRoot}
use Rattle.dav_page.specs.Pages.{before_rows}

-- What is said of a value that was found, in other words.
pub some_map : {A : Type 0} (P Q : A → Type 0) (o : Option A) → ((x : A) → P x → Q x) → IfSome o P → IfSome o Q
some_map P Q None f h = tt
some_map P Q (Some x) f h = f x h

pub ok_map : {A E : Type 0} (P Q : A → Type 0) (r : Result (Option A) E) → ((x : A) → P x → Q x) → IfOk r (λ o. IfSome o P)
    → IfOk r (λ o. IfSome o Q)
ok_map P Q (Ok o) f h = some_map P Q o f h
ok_map P Q (Err e) f h = tt

-- The heading of the root is a slash and what leads to the rows.
pub root_found : (whole at : List ℕ) (r : Option (Bor (List ℕ))) → whole ≡ codes "/" ++ at → IfSome r (λ x. at ≡ before_rows ++ x.now)
    → IfSome r (λ x. HasRoot whole x.now)
root_found whole at r e h =
    some_map (λ (x : Bor (List ℕ)). at ≡ before_rows ++ x.now) (λ x. HasRoot whole x.now) r (λ x f. e ∙ ap (λ z. codes "/" ++ z) f) h

pub root_not : (whole at : List ℕ) → whole ≡ codes "/" ++ at → ((rest : List ℕ) → at ≡ before_rows ++ rest → ⊥) → (rest : List ℕ)
    → HasRoot whole rest → ⊥
root_not whole at e none rest is = none rest (append_cancel_left (codes "/") at (before_rows ++ rest) (sym e ∙ is))
