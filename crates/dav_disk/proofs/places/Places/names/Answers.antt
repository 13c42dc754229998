use Rattle.std.proofs.Common.{sym, ap, ◌∙◌}
use Rattle.dav_disk.proofs.Placed.{named_still}
use Rattle.dav_disk.proofs.places.Places.names.Goals as goal
use Rattle.dav_core.proofs.Paths.{names_same}

pub returns-then-eq-clause-names : goal.returns-then-eq-clause-names
returns-then-eq-clause-names c =
    named_still c.args.self.now.dirs c.in-Some.listed.dir.items c.args.dir.now _ _
    (c.args.self.now.last c.in-Some.listed c.in-Some.is)
    (sym c.as_slice.ensures.value ∙ names_same _ _ (sym c.eq.ensures ∙ c.if-eq.true))
    (ap (λ v. v.items) c.in_ok-clone.ensures.cases)
