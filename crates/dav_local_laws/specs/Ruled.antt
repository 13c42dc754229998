-- What a local store shows a reader by its rules: each path is found in one place, where names fold and where one file
-- is served alone as well.
use Rattle.std.specs.Prelude.{◌≡◌, false, List, Result}
use Rattle.dav_core.specs.declared.error.FsError.{FsError}
use Rattle.dav_core.specs.declared.member.Member.{Member}
use Rattle.dav_core.specs.DavPath.{WebPath}
use Rattle.dav_core.specs.Path.{Names}
use Rattle.dav_core.specs.Tree.{is_linked}
use Rattle.dav_core.specs.World.{World}
use Rattle.dav_store.specs.Standing.{Standing}
use Rattle.dav_model.specs.declared.settings.Settings.{Settings}
use Rattle.dav_model.specs.Finding.{listed_in, shown_in}
use Rattle.dav_model.specs.Valid.{TellsApart}
use Rattle.dav_local.specs.Shown.{as_stood, opened_by}
use Rattle.dav_local.specs.Standing.{HasNoLinks}
use Rattle.dav_local.specs.declared.ways.Ways.{Ways}
use Rattle.dav_local.specs.Ways.{resolved_by, rules_of, rules_with}

-- what is opened for reading where the rules find a path, or the refusal of what they shut
abbrev pub opened_in : Ways → World → WebPath → Result Standing FsError
opened_in ways w path = opened_by ways w (resolved_by ways w.tree path.names) path

-- the members of the directory that the rules find there: each of them, whatever its name
abbrev pub members_in : Ways → World → WebPath → Result (List Member) FsError
members_in ways w path = listed_in w (resolved_by ways w.tree path.names)

-- The rules find each path of the world in one place.
abbrev pub FindsOnce : Ways → World → Type 0
FindsOnce ways w = TellsApart (rules_of ways) w

-- No link stands on the way to where the rules find a path.
abbrev pub IsFree : Ways → World → Names → Type 0
IsFree ways w names = is_linked w.tree (resolved_by ways w.tree names) ≡ false

-- None stands on the way to the directory that they find, or at one of its members.
abbrev pub HasFreeMembers : Ways → World → Names → Type 0
HasFreeMembers ways w names = HasNoLinks w (resolved_by ways w.tree names)

-- What is shown at a path is what a run by these rules shows there, whatever its owner sets.
pub record IsOfRules (ways : Ways) (w : World) (path : WebPath) : Type 0 where
  pub opened : (settings : Settings) → as_stood (opened_in ways w path) ≡ (shown_in (rules_with settings ways) w).opened path
  pub listed : (settings : Settings) → members_in ways w path ≡ (shown_in (rules_with settings ways) w).listed path
