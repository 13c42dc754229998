use Rattle.std.proofs.Common.{rules, ap}
use Rattle.std.specs.Cmp.Lexicographic.{slice_cmp}
use Rattle.std.specs.Ordering.{is_lt, nat_cmp}
use Rattle.std.proofs.lemmas.Cmp.{nat_list_cmp_total}
use Rattle.std.proofs.lemmas.List.Sorted.{answers_always, ranks_by}
use Rattle.dav_selection.specs.Reports.{name_of}
use Rattle.dav_selection.proofs.walking.sort.Goals as goal

pub returns-clause-order : goal.returns-clause-order
returns-clause-order c =
    c.in_ok-sort_by.ensures.sorted (λ x y. is_lt (slice_cmp nat_cmp (name_of x) (name_of y))) (ranks_by nat_list_cmp_total name_of)
    (answers_always _ _ _ (λ f a r g h. ap is_lt (search rules)))
