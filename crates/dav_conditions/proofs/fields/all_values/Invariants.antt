use Rattle.std.proofs.Common.{◌≡◌, ◌++◌, map}
use Rattle.dav_model.specs.Conditions.{behind, joined, values_of}
use Rattle.dav_conditions.proofs.fields.all_values.Given as goal

abbrev pub invariant-loop-value : goal.invariant-loop-value
invariant-loop-value l = l.text.items ++ behind (map (λ v. v.bytes) l.values) ≡ joined (values_of l.fields l.name)
