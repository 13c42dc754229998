-- How much work is left at most, by which a walk ends over any store: a directory weighs more than so many members as
-- memory has room for, and it itself once it has lost them. What a walk that copies has left weighs the same.
use Rattle.std.specs.Prelude.{◌+◌, ◌-◌, ◌*◌, ◌^◌, ℕ, zero, suc, List, [], ◌∷◌, length, true, false}
use Rattle.dav_core.specs.DavPath.{WebPath}
use Rattle.dav_walks.specs.declared.work.Work.{Work}
use Rattle.dav_walks.specs.declared.work.Work.TheVariants.{Emptied, Whole}

abbrev pub width : ℕ → ℕ
width zero = 1
width (suc k) = 2 ^ 65 * width k

-- A directory that is too deep isn't walked into.
abbrev pub depth_left : WebPath → ℕ
depth_left path = 65537 - length path.names

abbrev pub weight_of : Work → ℕ
weight_of (Whole path true) = width (depth_left path)
weight_of (Whole path false) = 1
weight_of (Emptied path) = 1

abbrev pub weight : List Work → ℕ
weight [] = 0
weight (work ∷ works) = weight_of work + weight works
