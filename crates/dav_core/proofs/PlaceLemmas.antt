-- A look finds what stands at the place.
use Rattle.std.specs.Prelude.{◌≡◌, List, [], ◌∷◌, ◌++◌, Option, None, Some, Result, Ok, Err, refl}
use Rattle.std.proofs.Common.{sym, ap, ◌∙◌, append_assoc, append-nil}
use Rattle.dav_core.specs.declared.tree.Row.{Row}
use Rattle.dav_core.specs.declared.tree.Kind.{Kind}
use Rattle.dav_core.specs.declared.tree.Kind.TheVariants.{Dir, File, Link}
use Rattle.dav_core.specs.declared.handle.DiskError.{DiskError}
use Rattle.dav_core.specs.Path.{Names}
use Rattle.dav_core.specs.Tree.{look, look_from, row_at, standing, below, below_kind}
use Rattle.dav_core.specs.Allowed.{place, place_from, through, through_kind}

abbrev pub stands_at : Result (Option Row) DiskError → Result Row DiskError
stands_at (Ok there) = standing there
stands_at (Err e) = Err e

kind_through : (kind : Kind) (found : Result (Option Row) DiskError) → stands_at (through_kind kind found) ≡ below_kind kind (stands_at found)
kind_through Dir found = refl
kind_through File found = refl
kind_through Link found = refl

row_through : (row : Option Row) (found : Result (Option Row) DiskError) → stands_at (through row found) ≡ below row (stands_at found)
row_through None found = refl
row_through (Some row) found = kind_through row.kind found

look_place_from : (tree : List Row) (at names : Names) → look_from tree at names ≡ stands_at (place_from tree at names)
look_place_from tree at [] = refl
look_place_from tree at (name ∷ names) = rw (look_place_from tree (at ++ name ∷ []) names, row_through (row_at tree at) (place_from tree (at ++ name ∷ []) names)) refl

pub look_place : (tree : List Row) (path : Names) → look tree path ≡ stands_at (place tree path)
look_place tree path = look_place_from tree [] path

-- ---- what a place has stands at the path

pub kind_passed : (kind : Kind) (found : Result (Option Row) DiskError) (o : Option Row) → through_kind kind found ≡ Ok o → (kind ≡ Dir) × (found ≡ Ok o)
kind_passed Dir found o e = (refl, e)
kind_passed File found o e = cc
kind_passed Link found o e = cc

pub row_passed : (row : Option Row) (found : Result (Option Row) DiskError) (o : Option Row) → through row found ≡ Ok o → ((r : Row) → row ≡ Some r → r.kind ≡ Dir) × (found ≡ Ok o)
row_passed None found o e = cc
row_passed (Some x) found o e =
    let p = kind_passed x.kind found o e in
    (λ r same. (let is : x ≡ r = cc in ap (λ (y : Row). y.kind) (sym is) ∙ p.0), p.1)

pub place_there : (tree : List Row) (at names : Names) (o : Option Row) → place_from tree at names ≡ Ok o → row_at tree (at ++ names) ≡ o
place_there tree at [] o e = let is : row_at tree at ≡ o = cc in ap (row_at tree) (append-nil at) ∙ is
place_there tree at (name ∷ names) o e =
    ap (row_at tree) (sym (append_assoc at (name ∷ []) names)) ∙ place_there tree (at ++ name ∷ []) names o (row_passed (row_at tree at) (place_from tree (at ++ name ∷ []) names) o e).1

pub placed_row : (tree : List Row) (path : Names) (o : Option Row) → place tree path ≡ Ok o → row_at tree path ≡ o
placed_row tree path o e = place_there tree [] path o e
