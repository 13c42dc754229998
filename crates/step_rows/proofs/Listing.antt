-- A lister that is asked for a name stays live.
use Rattle.std.proofs.Common.{ℕ, List, Option, None, Some, IsSome, is_some, Result, Ok, Err, ap, ◌∙◌}
use Rattle.dav_core.specs.declared.handle.DiskError.{DiskError}
use Rattle.dav_core.specs.Disk.{DiskState}
use Rattle.dav_core.specs.Listing.{ListersAfterNext, ListsOn}
use Rattle.dav_core.proofs.UnchangedLemmas.{put_same}

live_after : (l : ℕ) (r : Result (Option (List ℕ)) DiskError) (old new : ℕ → Option ℕ) → ListersAfterNext l r old new → IsSome (old l) → IsSome (new l)
live_after l (Ok (Some name)) old new (k, was, is) live = ap (λ f. is_some (f l)) is ∙ ap is_some (put_same l (Some k) old)
live_after l (Ok None) old new is live = ap (λ f. is_some (f l)) is ∙ live
live_after l (Err e) old new is live = ap (λ f. is_some (f l)) is ∙ live

pub stays_live : (old new : DiskState) (l : ℕ) (r : Result (Option (List ℕ)) DiskError) → ListsOn old l r new → IsSome (old.listers l) → IsSome (new.listers l)
stays_live old new l r on live = live_after l r old.listers new.listers on.listers live
