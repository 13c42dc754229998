use Rattle.std.proofs.Common.{rules}
use Rattle.std.specs.Ordering.{nat_cmp}
use Rattle.std.specs.Cmp.Lexicographic.{slice_cmp}
use Rattle.std.proofs.lemmas.Fn.{always_returns_same}
use Rattle.htmlescape.proofs.Tables.{found, not_found}
use Rattle.htmlescape.proofs.entities.entity.Goals as goal

pub returns-in-Ok : goal.returns-in-Ok
returns-in-Ok c =
    let at = c.in-Ok.ensures.position (λ e. slice_cmp nat_cmp e.0.now c.args.name.now) (always_returns_same _ _ _ (λ a r f called. (search rules, search rules))) in
    found (λ e. e.0.now) (λ e. e.1) _ _ c.entries-entries.ensures _ _ c.in-Ok.ensures.bound (at _)

pub returns-in-Err : goal.returns-in-Err
returns-in-Err c =
    let at = c.in-Err.ensures.position (λ e. slice_cmp nat_cmp e.0.now c.args.name.now) (always_returns_same _ _ _ (λ a r f called. (search rules, search rules))) in
    not_found (λ e. e.0.now) (λ e. e.1) _ _ _ c.entries-entries.ensures at
