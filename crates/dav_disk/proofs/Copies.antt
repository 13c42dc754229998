-- A copy of files has the same bytes and times.
use Rattle.std.proofs.Common.{◌≡◌, ℕ, Option, None, Some, MatchOption, ap}
use Rattle.std.specs.Option.{option_map, IsSomeAnd}
use Rattle.std.specs.Ordering.{nat_cmp}
use Rattle.std.specs.BTreeMap.{BTreeMap, IsClone, is_at, get_by}
use Rattle.std.proofs.lemmas.Map.Entries.{lookup_clone}
use mathlib.Core.Path.{fun_ext}
use Rattle.dav_disk.specs.declared.tables.StoredFile.{StoredFile}
use Rattle.dav_disk.specs.Files.{stored_of, stored_at}

both_looked : (a b : Option StoredFile) → MatchOption a (b ≡ None) (λ v. IsSomeAnd b (λ u. stored_of u ≡ stored_of v)) → option_map stored_of b ≡ option_map stored_of a
both_looked None b e = ap (option_map stored_of) e
both_looked (Some v) None e = absurd e
both_looked (Some v) (Some u) e = ap Some e

pub same_files : (old copy : BTreeMap ℕ StoredFile) → IsClone (λ (x y : ℕ). y ≡ x) (λ f g. stored_of g ≡ stored_of f) old copy → stored_at copy ≡ stored_at old
same_files old copy clone = fun_ext (λ n. both_looked (get_by (nat_cmp n) old) (get_by (nat_cmp n) copy)
    (lookup_clone (λ (x y : ℕ). y ≡ x) (λ f g. stored_of g ≡ stored_of f) (is_at (nat_cmp n)) (λ x y e. ap (is_at (nat_cmp n)) e) old.entries copy.entries clone))
