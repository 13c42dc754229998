use Rattle.std.proofs.Common.{◌≡◌, true, List, subst, sym, ap, ◌∙◌}
use Rattle.std.specs.List.{list_all}
use Rattle.dav_memory.specs.Trees.{Name, is_dot}
use Rattle.dav_memory.specs.Entries.{in_order, are_sealable}
use Rattle.dav_memory.proofs.Keeping.{order-sorted, order-twice, dots-order, sealable-order}
use Rattle.dav_memory.proofs.builder.put_in_order.Goals as goal

pub returns : goal.returns
returns c =
    let old : List Name = c.args.names.now.items in
    let is = order-sorted _ _ _ c.sort_unstable.ensures.permutation c.sort_unstable.ensures.sorted c.dedup.ensures.filtered in
    record {
      value = is;
      same = ap in_order is ∙ order-twice old;
      dots = subst (λ (l : List Name). list_all is_dot l ≡ true) (sym is) (dots-order old c.requires);
      sealable = subst (λ (l : List Name). are_sealable l ≡ true) (sym is) (sealable-order old c.requires);
    }
