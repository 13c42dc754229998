use Rattle.std.proofs.Common.{◌≡◌, ◌+◌, ◌-◌, drop, Some, sym, ap, ◌∙◌, arith}
use Rattle.dav_core.specs.ContentTypes.{after_dot}
use Rattle.dav_core.proofs.Dots.{dot_here}
use Rattle.dav_core.proofs.content_types.after_dot.Goals as goal

pub returns-then-name-at-eq46 : goal.returns-then-name-at-eq46
returns-then-name-at-eq46 c =
    let back : c.loop-at.at - 1 + 1 ≡ c.loop-at.at = omega arith in
    ap (λ x. Some x) c.split_at.ensures.back
    ∙ sym (dot_here c.args.name.now (c.loop-at.at - 1) (omega arith) c.if-name-at-eq46.true (ap (λ n. after_dot (drop n c.args.name.now)) back ∙ c.loop-at.invariant.none))
