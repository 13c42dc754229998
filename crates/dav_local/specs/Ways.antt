-- How a local store finds what paths name, and the rules of a run over it.
use Rattle.std.specs.Prelude.{◌||◌, Bool, not, List}
use Rattle.std.specs.Option.{is_some}
use Rattle.dav_core.specs.declared.tree.Row.{Row}
use Rattle.dav_core.specs.Path.{Names}
use Rattle.dav_model.specs.declared.settings.Settings.{Settings}
use Rattle.dav_model.specs.Calls as calls
use Rattle.dav_model.specs.Finding.{resolved}
use Rattle.dav_model.specs.Rules.{Rules}
use Rattle.dav_model.specs.Unset.{nothing_set}
pub use Rattle.dav_local.specs.declared.ways.Ways.{Ways}

-- the rules of a run over the store, whatever its owner sets
abbrev pub rules_with : Settings → Ways → Rules
rules_with settings ways = record { settings = settings; folds = ways.folds; macos = ways.macos; alone = ways.alone }

-- the same where nothing is set: what a path names doesn't ask for settings
abbrev pub rules_of : Ways → Rules
rules_of ways = rules_with nothing_set ways

-- where a path is found in a tree by the rules
abbrev pub resolved_by : Ways → List Row → Names → Names
resolved_by ways tree names = resolved (rules_of ways) tree names

-- whether a place is judged by the rules for macOS before the disk is asked
abbrev pub is_judged : Ways → Names → Bool
is_judged ways at = calls.is_judged (rules_of ways) at

-- whether a path is found without the disk
abbrev pub is_known : Ways → Bool
is_known ways = is_some ways.alone || not ways.folds
