-- Filters and components, one after another.
use Rattle.std.proofs.Common.{◌≡◌, ◌<◌, ◌≤◌, ◌+◌, ◌&&◌, ◌||◌, ℕ, zero, suc, Bool, true, false, List, [], ◌∷◌, length, drop, get_or, add-one, drop-cons, refl, sym, ap, ◌∙◌, arith}
use Rattle.std.specs.List.{list_any}
use Rattle.std.proofs.lemmas.List.{drop_all}
use Rattle.dav_report.specs.Filters.{filters_depth}
use Rattle.dav_report.specs.FilterLists.{asked_by, filters_of}
use Rattle.dav_matching.specs.Calendars.{all_pass, filter_passes, some_component}
use Rattle.dav_calendar.specs.Trees.{Told, Tree}
use Rattle.dav_calendar.specs.TreeLists.{told_by, tree_of}
use Rattle.dav_calendar.specs.declared.component.Component.{Component}
use Rattle.dav_report.specs.declared.caldav.component_filter.ComponentFilter.{ComponentFilter}

at : {A : Type 0} (xs : List A) (i : ℕ) (d : A) → i < length xs → drop i xs ≡ get_or xs i d ∷ drop (i + 1) xs
at xs i d h = rw (add-one, drop-cons xs i d) refl

-- a filter at its place is less deep than all
pub deep_at : (fs : List ComponentFilter) (i : ℕ) (d : ComponentFilter) → i < length fs → suc (filters_depth (get_or fs i d).comp_filters) ≤ filters_depth (filters_of fs)
deep_at [] i d h = absurd (omega (arith, h))
deep_at (f ∷ fs) zero d h = omega arith
deep_at (f ∷ fs) (suc i) d h = omega (arith, deep_at fs i d (omega (arith, h)))

-- a component at its place
pub component_at : (test : Told → Tree → Bool) (cs : List Component) (i : ℕ) (d : Component) → i < length cs
    → some_component test (tree_of (drop i cs)) ≡ (test (told_by (get_or cs i d)) (get_or cs i d).children || some_component test (tree_of (drop (i + 1) cs)))
component_at test cs i d h = ap (λ xs. some_component test (tree_of xs)) (at cs i d h)

pub component_passes : (test : Told → Tree → Bool) (cs : List Component) (i : ℕ) (d : Component) (whole : Bool) → i < length cs
    → whole ≡ some_component test (tree_of (drop i cs)) → test (told_by (get_or cs i d)) (get_or cs i d).children ≡ true → true ≡ whole
component_passes test cs i d whole h before e = sym (before ∙ component_at test cs i d h ∙ ap (λ b. b || some_component test (tree_of (drop (i + 1) cs))) e)

pub component_fails : (test : Told → Tree → Bool) (cs : List Component) (i : ℕ) (d : Component) (whole : Bool) → i < length cs
    → whole ≡ some_component test (tree_of (drop i cs)) → test (told_by (get_or cs i d)) (get_or cs i d).children ≡ false
    → whole ≡ some_component test (tree_of (drop (i + 1) cs))
component_fails test cs i d whole h before e = before ∙ component_at test cs i d h ∙ ap (λ b. b || some_component test (tree_of (drop (i + 1) cs))) e

pub components_end : (test : Told → Tree → Bool) (cs : List Component) (i : ℕ) (whole : Bool) → length cs ≤ i
    → whole ≡ some_component test (tree_of (drop i cs)) → false ≡ whole
components_end test cs i whole h before = sym (before ∙ ap (λ xs. some_component test (tree_of xs)) (drop_all i cs h))

-- a filter at its place
pub filter_fails : (fs : List ComponentFilter) (tree : Tree) (i : ℕ) (d : ComponentFilter) (whole : Bool) → i < length fs
    → whole ≡ all_pass (filters_of (drop i fs)) tree → filter_passes (asked_by (get_or fs i d)) (λ children. all_pass (get_or fs i d).comp_filters children) tree ≡ false → false ≡ whole
filter_fails fs tree i d whole h before e =
    sym (before ∙ ap (λ xs. all_pass (filters_of xs) tree) (at fs i d h) ∙ ap (λ b. b && all_pass (filters_of (drop (i + 1) fs)) tree) e)

pub filter_holds : (fs : List ComponentFilter) (tree : Tree) (i : ℕ) (d : ComponentFilter) (whole : Bool) → i < length fs
    → whole ≡ all_pass (filters_of (drop i fs)) tree → filter_passes (asked_by (get_or fs i d)) (λ children. all_pass (get_or fs i d).comp_filters children) tree ≡ true
    → whole ≡ all_pass (filters_of (drop (i + 1) fs)) tree
filter_holds fs tree i d whole h before e =
    before ∙ ap (λ xs. all_pass (filters_of xs) tree) (at fs i d h) ∙ ap (λ b. b && all_pass (filters_of (drop (i + 1) fs)) tree) e

pub filters_end : (fs : List ComponentFilter) (tree : Tree) (i : ℕ) (whole : Bool) → length fs ≤ i → whole ≡ all_pass (filters_of (drop i fs)) tree → true ≡ whole
filters_end fs tree i whole h before = sym (before ∙ ap (λ xs. all_pass (filters_of xs) tree) (drop_all i fs h))

pub any_here : {A : Type 0} (f : A → Bool) (xs : List A) (i : ℕ) (d : A) (whole : Bool) → i < length xs → whole ≡ list_any f (drop i xs) → f (get_or xs i d) ≡ true → true ≡ whole
any_here f xs i d whole h before e = sym (before ∙ ap (list_any f) (at xs i d h) ∙ ap (λ b. b || list_any f (drop (i + 1) xs)) e)

pub any_passed : {A : Type 0} (f : A → Bool) (xs : List A) (i : ℕ) (d : A) (whole : Bool) → i < length xs → whole ≡ list_any f (drop i xs) → f (get_or xs i d) ≡ false → whole ≡ list_any f (drop (i + 1) xs)
any_passed f xs i d whole h before e = before ∙ ap (list_any f) (at xs i d h) ∙ ap (λ b. b || list_any f (drop (i + 1) xs)) e

-- the first of some items that passes a test
pub any_first : {A : Type 0} (f : A → Bool) (xs : List A) (i : ℕ) (d : A) → i < length xs → f (get_or xs i d) ≡ true → list_any f (drop i xs) ≡ true
any_first f xs i d within here = ap (list_any f) (at xs i d within) ∙ ap (λ b. b || list_any f (drop (i + 1) xs)) here

pub any_after : {A : Type 0} (f : A → Bool) (xs : List A) (i : ℕ) (d : A) → i < length xs → f (get_or xs i d) ≡ false
    → list_any f (drop i xs) ≡ list_any f (drop (i + 1) xs)
any_after f xs i d within here = ap (list_any f) (at xs i d within) ∙ ap (λ b. b || list_any f (drop (i + 1) xs)) here
