use Rattle.std.proofs.Common.{◌≡◌, ◌∙◌, ◌+◌, ◌++◌, ◌∷◌, drop, reverse, ap, rules}
use Rattle.dav_fetch.specs.Fetching.{kept_of}
use Rattle.dav_fetch.proofs.Orders.{ascend_drop, drop_step, keep_step}
use Rattle.dav_fetch.proofs.keeping.keep_rest.Goals as goal

pub loop-path-preserved : goal.loop-path-preserved
loop-path-preserved c =
    let i = c.loop-path.invariant in
    let at = c.loop-path.path-index in
    let path = c.path-item.result in
    let parts : drop at c.args.paths.now ≡ path ∷ drop (at + 1) c.args.paths.now = drop_step c.args.paths.now at path (search rules) ∙ ap (λ p. p ∷ drop (at + 1) c.args.paths.now) (search rules) in (
      ap (λ f. f ++ kept_of (drop (at + 1) c.args.paths.now) (reverse c.next_kept-kept.new.rest.items)) c.push_kept.ensures.items
          ∙ keep_step c.loop-path.files.items (reverse c.loop-path.rest.items) (reverse c.next_kept-kept.new.rest.items) c.next_kept-kept.result (drop at c.args.paths.now) (drop (at + 1) c.args.paths.now) path
          parts (ascend_drop at c.args.paths.now c.requires.paths) c.next_kept-kept.ensures.found c.next_kept-kept.ensures.behind ∙ i.0,
      c.next_kept-kept.ensures.order,
      search rules,
    )
