use Rattle.std.proofs.Common.{◌≡◌, ◌∙◌, ◌||◌, ◌∷◌, [], codes, sym, ap, true, false}
use Rattle.dav_core.specs.Path.{same_names}
use Rattle.dav_local.proofs.ways.is_looked_for.Goals as goal

pub returns-then-is_alone : goal.returns-then-is_alone
returns-then-is_alone c =
    let first : true ≡ same_names c.args.path.now (codes ".metadata_never_index" ∷ []) = sym c.if-is_alone.true ∙ c.is_alone.ensures in
    c.if-is_alone.true ∙ ap (λ b. b || same_names c.args.path.now (codes ".ql_disablethumbnails" ∷ [])) first

pub returns-else-is_alone : goal.returns-else-is_alone
returns-else-is_alone c =
    let first : false ≡ same_names c.args.path.now (codes ".metadata_never_index" ∷ []) = sym c.if-is_alone.false ∙ c.is_alone.ensures in
    c.is_alone-else-is_alone.ensures ∙ ap (λ b. b || same_names c.args.path.now (codes ".ql_disablethumbnails" ∷ [])) first
