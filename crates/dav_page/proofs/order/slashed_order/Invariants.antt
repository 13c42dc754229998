use Rattle.std.proofs.Common.{◌≡◌, ◌++◌, codes, drop}
use Rattle.std.specs.Cmp.Lexicographic.{slice_cmp}
use Rattle.std.specs.Ordering.{nat_cmp}
use Rattle.dav_page.proofs.order.slashed_order.Given as goal

-- what is left of the two compares as the whole
abbrev pub invariant-front : goal.invariant-front
invariant-front l =
    slice_cmp nat_cmp (drop l.a-index l.one ++ codes "/") (l.right ++ codes "/") ≡ slice_cmp nat_cmp (l.fn.one ++ codes "/") (l.fn.other ++ codes "/")
