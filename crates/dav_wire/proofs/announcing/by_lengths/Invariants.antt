use Rattle.std.proofs.Common.{◌≡◌, ◌∷◌, [], false, map, codes}
use Rattle.dav_wire.specs.Announced.{body_by}
use Rattle.dav_wire.specs.Fields.{values_of}
use Rattle.dav_wire.proofs.announcing.by_lengths.Given as goal

-- those that are left decide as all do
abbrev pub invariant-loop-other : goal.invariant-loop-other
invariant-loop-other l =
    body_by false [] (l.size ∷ map (λ v. v.bytes) l.sizes) ≡ body_by false [] (values_of l.fields (codes "content-length"))
