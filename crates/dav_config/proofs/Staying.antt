-- What a request leaves of its store where memory was refused: nothing open, and nothing changed unless it writes.
use Rattle.std.proofs.Common.{◌≡◌, Bool, true, false, Option, None, Some, refl, sym, true≢false}
use Rattle.dav_core.specs.Disk.{DiskState}
use Rattle.dav_core.specs.Unchanged.{Keeps}
use Rattle.dav_core.proofs.UnchangedLemmas.{keeps_same}
use Rattle.dav_store.specs.Frames.{KeepsOpen}
use Rattle.dav_config.specs.Handling.{Asking, Served, Stays}
use Rattle.dav_config.specs.Writing.{KeepsUnless, asks_to_write}
use Rattle.dav_store.proofs.Staying.{open_kept}

pub kept_unless : (writes : Bool) (s t : DiskState) → Keeps s t → KeepsUnless writes s t
kept_unless true s t keeps = open_kept s t keeps
kept_unless false s t keeps = keeps

pub open_unless : (writes : Bool) (s t : DiskState) → writes ≡ true → KeepsOpen s t → KeepsUnless writes s t
open_unless true s t e opened = opened
open_unless false s t e opened = absurd (true≢false (sym e))

module _ {S C F L E : Type 0} (served : Served S C F L E) (asking : Asking C) where
  pub stays_same : (old : Option S) → Stays served asking old old
  stays_same None = tt
  stays_same (Some s) = (kept_unless (asks_to_write asking.head) (served.view.state s) (served.view.state s) (keeps_same (served.view.state s)), refl)
