-- What a reader's calls leave: what stands, and no count of faults falls.
use Rattle.std.proofs.Common.{◌≡◌, ◌≤◌, Some, Result, Ok, Err, refl, arith}
use Rattle.dav_io.specs.Told.{Both}
use Rattle.dav_io.proofs.ToldLemmas.{both_same, both_then, told_after}
use Rattle.dav_core.specs.declared.error.FsError.{FsError}
use Rattle.dav_core.specs.Disk.{DiskState}
use Rattle.dav_core.specs.Writing.{reading}
use Rattle.dav_core.specs.Unchanged.{SameBesidesOpens}
use Rattle.dav_core.specs.World.{World}
use Rattle.dav_core.proofs.UnchangedLemmas.{same_besides, same_besides_then}
use Rattle.dav_store.specs.Frames.{OpensOne}
use Rattle.dav_store.specs.Reached.{Reached, by_none, by_look, by_look_at_link, by_opening, by_file, by_listing}
use Rattle.dav_store.specs.FileView.{FileView}
use Rattle.dav_store.specs.View.{View, Listings}

-- what stands is the same, and the count of faults doesn't fall
pub record Stays (s t : DiskState) : Type 0 where
  pub counts : s.faults ≤ t.faults
  pub world : Both s.told t.told SameBesidesOpens

stays_same : (s : DiskState) → Stays s s
stays_same s = record { counts = omega arith; world = both_same s.told s.told SameBesidesOpens same_besides refl }

stays_then : (s m t : DiskState) → Stays s m → Stays m t → Stays s t
stays_then s m t p q = record { counts = omega (arith, p.counts, q.counts); world = both_then _ _ _ _ _ _ same_besides_then p.world q.world }

pub opening_stays : {F : Type 0} (view : FileView F) (s t : DiskState) (o : Result F FsError) → OpensOne view reading s o t → Stays s t
opening_stays view s t (Ok file) one = let kept = one.kept refl in record { counts = kept.counts; world = kept.world }
opening_stays view s t (Err e) one = let kept = one.kept refl in record { counts = kept.counts; world = kept.world }

module _ {S C F L E : Type 0} (view : View S C F) (lists : Listings S C L E) (s : S) (c : C) where
  pub reached_stays : (m : S) → Reached view lists s c m → Stays (view.state s) (view.state m)
  reached_stays m by_none = stays_same (view.state s)
  reached_stays j (by_look m n path r before look keeps) =
      stays_then (view.state s) (view.state m) (view.state n) (reached_stays m before) (record { counts = keeps.counts; world = keeps.world })
  reached_stays j (by_look_at_link m n path r before look keeps) =
      stays_then (view.state s) (view.state m) (view.state n) (reached_stays m before) (record { counts = keeps.counts; world = keeps.world })
  reached_stays j (by_opening m n path o before opens one) =
      stays_then (view.state s) (view.state m) (view.state n) (reached_stays m before) (opening_stays view.file (view.state m) (view.state n) o one)
  reached_stays j (by_file m n h before keeps lent) =
      stays_then (view.state s) (view.state m) (view.state n) (reached_stays m before) (record { counts = keeps.counts; world = keeps.world })
  reached_stays j (by_listing m n path members before listed keeps) =
      stays_then (view.state s) (view.state m) (view.state n) (reached_stays m before) (record { counts = keeps.counts; world = keeps.world })

  -- the world that is told has the same tree and the same bytes
  pub reached_world : (m : S) (w : World) → Reached view lists s c m → (view.state s).told ≡ Some w → (v : World) × ((view.state m).told ≡ Some v) × SameBesidesOpens w v
  reached_world m w reached told = told_after (view.state s).told (view.state m).told SameBesidesOpens w (reached_stays m reached).world told
