use Rattle.std.proofs.Common.{◌≡◌, ◌∙◌, ◌++◌, ◌∷◌, [], reverse, sym, ap, subst, append_assoc, append-nil, rules}
use Rattle.std.specs.Option.{option_to_list}
use Rattle.std.proofs.lemmas.List.{reverse-append, reverse-reverse}
use Rattle.dav_fetch.proofs.Orders.{IsOnce, none_greater, once_more, once_none, ordered_is}
use Rattle.dav_fetch.proofs.ordering.ordered.Goals as goal

pub loop-path-init : goal.loop-path-init
loop-path-init c = (
  c.sort.new.paths.items,
  c.in_ok-sort.ensures.each,
  c.in_ok-sort.ensures.order,
  [],
  sym (ap reverse c.reverse.ensures.items ∙ reverse-reverse c.sort.new.paths.items),
  subst (λ o. IsOnce o []) (sym c.new-once.ensures.items) once_none,
)

pub loop-path-preserved : goal.loop-path-preserved
loop-path-preserved c =
    let (all, moved, sorted, done, parts, once) = c.loop-path.invariant in
    let path = c.in-Some.path in
    let turned : reverse c.loop-path.paths.items ≡ path ∷ reverse c.pop.new.self.items = ap reverse (c.pop.ensures.items ∙ ap (λ o. c.pop.new.self.items ++ option_to_list o) c.in-Some.is) ∙ reverse-append c.pop.new.self.items (path ∷ []) in
    let next : all ≡ done ++ path ∷ reverse c.pop.new.self.items = parts ∙ ap (λ l. done ++ l) turned in (
      all,
      moved,
      sorted,
      done ++ path ∷ [],
      next ∙ sym (append_assoc done (path ∷ []) (reverse c.pop.new.self.items)),
      subst (λ o. IsOnce o (done ++ path ∷ [])) (sym c.in_ok-add_next.ensures)
          (once_more c.loop-path.once.items done path once (none_greater all done (reverse c.pop.new.self.items) path sorted next)),
    )

pub returns : goal.returns
returns c =
    let (all, moved, sorted, done, parts, once) = c.loop-path.invariant in
    let none : c.loop-path.paths.items ≡ [] = search rules in
    ordered_is c.args.paths.items all c.loop-path.once.items moved
    (subst (IsOnce c.loop-path.once.items) (sym (parts ∙ ap (λ l. done ++ reverse l) none ∙ append-nil done)) once)
