use Rattle.std.proofs.Common.{◌≡◌, true, List, sym, ap, subst, ◌∙◌}
use Rattle.std.specs.List.{list_all}
use Rattle.dav_memory.specs.Builder.{with_name}
use Rattle.dav_memory.specs.Trees.{Name, is_dot}
use Rattle.dav_memory.proofs.Keeping.{added, dots-push}
use Rattle.dav_memory.proofs.builder.DUCacheBuilder.add.Goals as goal

pub invariant_of-self : goal.invariant_of-self
invariant_of-self c =
    let dot : is_dot c.args.name.now ≡ true = sym (ap is_dot c.as_bytes.ensures.value) ∙ sym c.begins_dot.ensures ∙ c.if-not-begins_dot.false in (
      c.self.invariant.0,
      subst (λ (l : List Name). list_all is_dot l ≡ true) (sym c.in-Ok.ensures.ok) (dots-push c.self.inside.names.items c.args.name.now c.self.invariant.1 dot),
    )

pub returns-in-Ok-clause-ok : goal.returns-in-Ok-clause-ok
returns-in-Ok-clause-ok c =
    let dot : is_dot c.args.name.now ≡ true = sym (ap is_dot c.as_bytes.ensures.value) ∙ sym c.begins_dot.ensures ∙ c.if-not-begins_dot.false in
    added c.args.name.now c.self.inside.names.items _ _ _ _ _ dot c.in-Ok.ensures.ok ∙ ap (with_name c.args.name.now) c.self.view_is
