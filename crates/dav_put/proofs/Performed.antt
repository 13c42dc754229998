-- What is known of the program's call by its task.
use Rattle.std.proofs.Common.{◌≡◌, ℕ, subst}
use Rattle.dav_io.specs.Outside.{Stream}
use Rattle.dav_core.specs.DavPath.{WebPath}
use Rattle.dav_store.specs.View.{Listings, View}
use Rattle.dav_walks.specs.Pouring.{Writes}
use Rattle.dav_put.specs.declared.ending.Ending.{Ending}
use Rattle.dav_put.specs.declared.words.Task.{Task}
use Rattle.dav_put.specs.declared.words.Task.TheVariants.{Sweep}
use Rattle.dav_put.specs.Performs.{Performs, SweepsAt, limit_of}

module _ {S C F L E : Type 0} (view : View S C F) (lists : Listings S C L E) (writes : Writes F) (c : C) where
  pub swept_of : (task : Task) (dir : WebPath) (older first : ℕ) (s : S) (i : Stream) (ending : Ending) (t : S) (j : Stream) → task ≡ Sweep dir older → Performs view lists writes c task first s i ending t j
      → SweepsAt view lists writes c dir (limit_of first older) s ending t
  swept_of task dir older first s i ending t j is performs = (subst (λ x. Performs view lists writes c x first s i ending t j) is performs).0
