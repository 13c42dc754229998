use Rattle.std.proofs.Common.{suc, ◌≡◌, ◌≢◌, ◌<◌, ◌+◌, ℕ, List, [], ◌∷◌, ◌++◌, take, drop, length, get_or, Option, None, Some, Result, Err, refl, sym, ap, ◌∙◌, add-one, drop-cons}
use Rattle.std.proofs.lemmas.List.{take_more}
use Rattle.dav_core.specs.declared.tree.Kind.{Kind}
use Rattle.dav_core.specs.declared.tree.Row.{Row}
use Rattle.dav_core.specs.declared.tree.Kind.TheVariants.{Dir, File, Link}
use Rattle.dav_core.specs.declared.handle.DiskError.{DiskError}
use Rattle.dav_core.specs.declared.handle.DiskError.TheVariants.{NotFound, NotDir}
use Rattle.dav_core.specs.Path.{Names}
use Rattle.dav_core.specs.Tree.{look, row_at}
use Rattle.dav_core.specs.Allowed.{place, place_from, through, through_kind}
use Rattle.dav_core.proofs.PlaceLemmas.{look_place, stands_at}

-- one step of a walk: a directory stands at the first i names
pub walk_on : (tree : List Row) (path : Names) (i : ℕ) (row : Row) (d : List ℕ) → i < length path → row_at tree (take i path) ≡ Some row → row.kind ≡ Dir
    → place_from tree (take i path) (drop i path) ≡ place_from tree (take (i + 1) path) (drop (i + 1) path)
walk_on tree path i row d lt at dir =
    ap (place_from tree (take i path)) (drop-cons path i d lt)
    ∙ ap (λ o. through o (place_from tree (take i path ++ get_or path i d ∷ []) (drop (suc i) path))) at
    ∙ ap (λ k. through_kind k (place_from tree (take i path ++ get_or path i d ∷ []) (drop (suc i) path))) dir
    ∙ ap (λ p. place_from tree p (drop (suc i) path)) (sym (take_more path i d lt))
    ∙ ap (λ j. place_from tree (take (i + 1) path) (drop j path)) (sym (add-one i))

-- where a walk meets nothing, or no directory
pub walk_ends : (tree : List Row) (path : Names) (i : ℕ) (d : List ℕ) → i < length path → row_at tree (take i path) ≡ None
    → place_from tree (take i path) (drop i path) ≡ Err NotFound
walk_ends tree path i d lt at = ap (place_from tree (take i path)) (drop-cons path i d lt)
    ∙ ap (λ o. through o (place_from tree (take i path ++ get_or path i d ∷ []) (drop (suc i) path))) at

other_kind : (k : Kind) (found : Result (Option Row) DiskError) → k ≢ Dir → through_kind k found ≡ Err NotDir
other_kind Dir found ne = absurd (ne refl)
other_kind File found ne = refl
other_kind Link found ne = refl

pub walk_blocked : (tree : List Row) (path : Names) (i : ℕ) (row : Row) (d : List ℕ) → i < length path → row_at tree (take i path) ≡ Some row → row.kind ≢ Dir
    → place_from tree (take i path) (drop i path) ≡ Err NotDir
walk_blocked tree path i row d lt at ne = ap (place_from tree (take i path)) (drop-cons path i d lt)
    ∙ ap (λ o. through o (place_from tree (take i path ++ get_or path i d ∷ []) (drop (suc i) path))) at
    ∙ other_kind row.kind _ ne

-- what a look finds, by what stands at the place
pub look_by : (tree : List Row) (path : Names) (found : Result (Option Row) DiskError) → place tree path ≡ found → look tree path ≡ stands_at found
look_by tree path found e = look_place tree path ∙ ap stands_at e
