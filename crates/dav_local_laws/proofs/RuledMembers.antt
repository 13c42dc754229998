-- A member of a directory is found in the place where the rules find the directory, under its own name.
use Rattle.std.proofs.Common.{◌≡◌, ◌∷◌, ◌++◌, List, [], Bool, false, Option, None, Some, refl, sym, ap, ◌∙◌}
use Rattle.dav_core.specs.declared.tree.Row.{Row}
use Rattle.dav_core.specs.Listing.{name_of}
use Rattle.dav_core.specs.Path.{Names}
use Rattle.dav_core.specs.Tree.{is_linked, row_at}
use Rattle.dav_core.specs.World.{World}
use Rattle.dav_core.proofs.LookLemmas.{look_there}
use Rattle.dav_model.specs.Finding.{or_walk, resolved_from}
use Rattle.dav_model.specs.Folds.{Name}
use Rattle.dav_walks.proofs.trees.FoundStill.{child_found}
use Rattle.dav_local.specs.declared.ways.Ways.{Ways}
use Rattle.dav_local.specs.Ways.{resolved_by}
use Rattle.dav_local.proofs.EntriesTold.{StandsIn}
use Rattle.dav_local_laws.specs.Ruled.{IsFree}

-- the same where one file may be served alone
found_under : (alone : Option Names) (folds : Bool) (tree : List Row) (names : Names) (name : Name) (row : Row)
    → row_at tree (or_walk alone (resolved_from folds tree [] names) ++ name ∷ []) ≡ Some row
    → or_walk alone (resolved_from folds tree [] (names ++ name ∷ [])) ≡ or_walk alone (or_walk alone (resolved_from folds tree [] names) ++ name ∷ [])
found_under None folds tree names name row stands = child_found folds tree [] names name row stands
found_under (Some file) folds tree names name row stands = refl

clear_under : (alone : Option Names) (tree : List Row) (walk : Names) (name : Name) → is_linked tree (or_walk alone walk) ≡ false
    → is_linked tree (or_walk alone walk ++ name ∷ []) ≡ false → is_linked tree (or_walk alone (or_walk alone walk ++ name ∷ [])) ≡ false
clear_under None tree walk name way below = below
clear_under (Some file) tree walk name way below = way

-- No link stands on the way to where the rules find a member of a directory, where none stands on the way to the directory or at the member.
pub member_free : (ways : Ways) (w : World) (names : Names) (row : Row) → StandsIn w.tree (resolved_by ways w.tree names) row → is_linked w.tree row.path ≡ false → IsFree ways w names
    → IsFree ways w (names ++ name_of row ∷ [])
member_free ways w names row stands linked way =
    let there = look_there w.tree [] (resolved_by ways w.tree names ++ name_of row ∷ []) row stands.found in
    ap (is_linked w.tree) (found_under ways.alone ways.folds w.tree names (name_of row) row there)
    ∙ clear_under ways.alone w.tree (resolved_from ways.folds w.tree [] names) (name_of row) way (ap (is_linked w.tree) (sym stands.path) ∙ linked)
