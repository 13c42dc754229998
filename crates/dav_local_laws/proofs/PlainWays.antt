-- Where each path is meant as it is written, the rules find it there.
use Rattle.std.proofs.Common.{◌≡◌, Bool, true, false, cond, List, Err, ap, ◌∙◌, refl, if◌then◌else◌}
use Rattle.dav_core.specs.declared.error.FsError.TheVariants.{Forbidden}
use Rattle.dav_core.specs.declared.tree.Row.{Row}
use Rattle.dav_core.specs.DavPath.{WebPath}
use Rattle.dav_core.specs.Path.{Names}
use Rattle.dav_core.specs.Tree.{look}
use Rattle.dav_core.specs.World.{World}
use Rattle.dav_model.specs.Finding.{listed_in}
use Rattle.dav_model.specs.Unset.{nothing_set}
use Rattle.dav_model.proofs.PlainWalks.{plain_resolved}
use Rattle.dav_local.specs.Shown.{opened_by}
use Rattle.dav_local.specs.Standing.{found}
use Rattle.dav_local.specs.Ways.{resolved_by}
use Rattle.dav_local_laws.specs.Ruled.{FindsOnce, members_in, opened_in}
use Rattle.dav_local_laws.specs.Simple.{opened, plain_ways}

pub plain_once : (w : World) → FindsOnce plain_ways w
plain_once w folds = cc

pub plain_place : (tree : List Row) (names : Names) → resolved_by plain_ways tree names ≡ names
plain_place tree names = plain_resolved nothing_set tree names

pub plain_opened : (w : World) (path : WebPath) → opened_in plain_ways w path ≡ opened w path
plain_opened w path = ap (λ z. opened_by plain_ways w z path) (plain_place w.tree path.names) ∙ by path.slash
  where
    by : (slash : Bool) → cond slash (Err Forbidden) (found w false (look w.tree path.names)) ≡ (if slash then Err Forbidden else found w false (look w.tree path.names))
    by true = refl
    by false = refl

pub plain_members : (w : World) (path : WebPath) → members_in plain_ways w path ≡ listed_in w path.names
plain_members w path = ap (listed_in w) (plain_place w.tree path.names)
