use Rattle.std.proofs.Common.{rules, ap}
use Rattle.std.specs.Ordering.{is_lt}
use Rattle.std.proofs.lemmas.List.Sorted.{answers_always, ranks_by}
use Rattle.dav_core.specs.Path.{Names}
use Rattle.dav_fetch.specs.Copy.{path_cmp}
use Rattle.dav_fetch.proofs.Orders.{path_total}
use Rattle.dav_fetch.proofs.ordering.sort.Goals as goal

pub returns-clause-order : goal.returns-clause-order
returns-clause-order c =
    c.in_ok-sort_by.ensures.sorted (λ x y. is_lt (path_cmp x y)) (ranks_by path_total (λ (x : Names). x))
    (answers_always _ _ _ (λ f a r g h. ap is_lt (search rules)))
