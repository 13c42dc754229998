use Rattle.std.proofs.Common.{rules, ap}
use Rattle.std.specs.Cmp.Lexicographic.{slice_cmp}
use Rattle.std.specs.Ordering.{is_lt, nat_cmp}
use Rattle.std.proofs.lemmas.Cmp.{nat_list_cmp_total}
use Rattle.std.proofs.lemmas.List.Sorted.{answers_always, ranks_by}
use Rattle.dav_walks.specs.declared.member.Member.{Member}
use Rattle.dav_walks.proofs.reading.in_order.Goals as goal

pub returns-in-Ok-sort_by-clause-in_order : goal.returns-in-Ok-sort_by-clause-in_order
returns-in-Ok-sort_by-clause-in_order c =
    c.in-Ok-sort_by.ensures.sorted (λ (x : Member) (y : Member). is_lt (slice_cmp nat_cmp x.name y.name)) (ranks_by nat_list_cmp_total (λ (x : Member). x.name))
    (answers_always _ _ _ (λ f a r g h. ap is_lt (search rules)))
