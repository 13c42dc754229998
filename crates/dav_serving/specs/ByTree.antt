-- What valid runs say of all their exchanges: each reply is that of the tree.
use Rattle.std.specs.Prelude.{List, [], ◌∷◌, ◌++◌}
use Rattle.dav_model.specs.Play.{EachByTree, Stage}
use Rattle.dav_model.specs.Rules.{Rules}
use Rattle.dav_model.specs.Trail.{Move}
use Rattle.dav_serving.specs.Exchange.{Exchange}
use Rattle.dav_serving.specs.Serving.{Chain, ready}

-- all moves of exchanges that were played one after the other
abbrev pub moves_of : (rules : Rules) (a : Stage) (xs : List Exchange) (b : Stage) → Chain rules a xs b → List Move
moves_of rules a [] b chain = []
moves_of rules a (x ∷ xs) b (m, played, chain) =
    played.trail ++ moves_of rules (ready rules m.playing.knows m.at) xs b chain

-- Each reply of these exchanges is that of the tree before its step.
abbrev pub AllByTree : (rules : Rules) (a : Stage) (xs : List Exchange) (b : Stage) → Chain rules a xs b → Type 0
AllByTree rules a [] b chain = Unit {0}
AllByTree rules a (x ∷ xs) b (m, played, chain) =
    EachByTree a.playing a.at played.trail played.played.player played.played.answered
    × AllByTree rules (ready rules m.playing.knows m.at) xs b chain
