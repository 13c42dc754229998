-- A path has a last name in a directory only where it is one name longer.
use Rattle.std.proofs.Common.{◌≡◌, ◌≤◌, ◌<◌, ◌+◌, [], ◌∷◌, length, None, true, false, refl, arith}
use Rattle.dav_memory.specs.Trees.{Names, same_name, member_name}

pub member_short : (dir path : Names) → length path ≤ length dir → member_name dir path ≡ None
member_short [] [] le = refl
member_short [] (p ∷ path) le = absurd (omega arith)
member_short (d ∷ dir) [] le = refl
member_short (d ∷ dir) (p ∷ path) le =
    let rest = member_short dir path (omega arith) in
    (elim (same_name d p) as (λ y. same_name d p ≡ y → member_name (d ∷ dir) (p ∷ path) ≡ None) [ true ↦ λ t. rw t rest | false ↦ λ t. rw t refl ]) refl

pub member_long : (dir path : Names) → length dir + 1 < length path → member_name dir path ≡ None
member_long [] [] lt = refl
member_long [] (p ∷ []) lt = absurd (omega arith)
member_long [] (p ∷ q ∷ path) lt = refl
member_long (d ∷ dir) [] lt = refl
member_long (d ∷ dir) (p ∷ path) lt =
    let rest = member_long dir path (omega arith) in
    (elim (same_name d p) as (λ y. same_name d p ≡ y → member_name (d ∷ dir) (p ∷ path) ≡ None) [ true ↦ λ t. rw t rest | false ↦ λ t. rw t refl ]) refl
