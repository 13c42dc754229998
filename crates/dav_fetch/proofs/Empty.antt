-- A copy of nothing is in order.
use Rattle.std.proofs.Common.{◌≡◌, [], List, subst, sym}
use Rattle.std.specs.List.Sorted.{IsStrictlySortedBy}
use Rattle.dav_core.specs.Path.{Names}
use Rattle.dav_fetch.specs.declared.copied.Kept.{Kept}
use Rattle.dav_fetch.specs.Copy.{IsCopy}

nothing : IsCopy (record { dirs = []; files = [] })
unfolding IsStrictlySortedBy
nothing = record { dirs = tt; files = tt; each = tt }

pub empty_copy : (dirs : List Names) (files : List Kept) → dirs ≡ [] → files ≡ [] → IsCopy (record { dirs = dirs; files = files })
empty_copy dirs files none without = subst (λ d. IsCopy (record { dirs = d; files = files })) (sym none) (subst (λ f. IsCopy (record { dirs = []; files = f })) (sym without) nothing)
