-- What a disk does that tells its world it does also where it doesn't tell.
use Rattle.std.proofs.Common.{Bool, List, ℕ, Option, Result, refl}
use Rattle.dav_core.specs.declared.handle.DiskError.{DiskError}
use Rattle.dav_core.specs.declared.handle.Handle.{Handle}
use Rattle.dav_core.specs.declared.handle.Lister.{Lister}
use Rattle.dav_core.specs.declared.handle.Meta.{Meta}
use Rattle.dav_core.specs.declared.handle.OpenOptions.{OpenOptions}
use Rattle.dav_core.specs.Disk.{Asks, Closes, DiskState, FileMetas, IsCounted, MetasBy, Opens, Reads, Seeks, Turns}
use Rattle.dav_core.specs.Listing.{EndsListing, Lists, ListsOn}
use Rattle.dav_core.specs.Path.{Names}
use Rattle.dav_core.specs.World.{World}
use Rattle.dav_core.specs.Writing.{Does, Writes}
use Rattle.session_rows.specs.Untold.{untold}

counted : {T : Type 0} → (r : Result T DiskError) (s t : DiskState) → IsCounted r s t → IsCounted r (untold s) (untold t)
counted r s t c = record { counts = c.counts; rose = c.rose; asked = c.asked; more = c.more; whole = c.whole }

asks : {T : Type 0} → (r : Result T DiskError) (s t : DiskState) → Asks r s t → Asks r (untold s) (untold t)
asks r s t a = record { counted = counted r s t a.counted; listers = a.listers }

pub untold_metas : (follows : Bool) (s t : DiskState) (path : Names) (r : Result Meta DiskError) → MetasBy follows s path r t → MetasBy follows (untold s) path r (untold t)
untold_metas follows s t path r m = record {
  asks = asks r s t m.asks;
  only = m.only;
  world = refl;
  live = m.live;
  told = λ w e. cc;
}

pub untold_opens : (s t : DiskState) (path : Names) (how : OpenOptions) (r : Result Handle DiskError) → Opens s path how r t → Opens (untold s) path how r (untold t)
untold_opens s t path how r m = record { asks = asks r s t m.asks; only = m.only; live = m.live; told = tt }

pub untold_file_metas : (s t : DiskState) (h : ℕ) (r : Result Meta DiskError) → FileMetas s h r t → FileMetas (untold s) h r (untold t)
untold_file_metas s t h r m = record {
  asks = asks r s t m.asks;
  only = m.only;
  world = refl;
  live = m.live;
  kind = m.kind;
  told = λ w e. cc;
}

pub untold_seeks : (s t : DiskState) (h place : ℕ) (r : Result Unit DiskError) → Seeks s h place r t → Seeks (untold s) h place r (untold t)
untold_seeks s t h place r m = record { asks = asks r s t m.asks; only = m.only; live = m.live; told = tt }

pub untold_reads : (s t : DiskState) (h : ℕ) (into : List ℕ) (r : Result ℕ DiskError) → Reads s h into r t → Reads (untold s) h into r (untold t)
untold_reads s t h into r m = record {
  asks = asks r s t m.asks;
  within = m.within;
  only = m.only;
  refused = m.refused;
  readable = λ some ok. cc;
  live = m.live;
  told = tt;
}

pub untold_writes : (s t : DiskState) (h : ℕ) (from : List ℕ) (r : Result ℕ DiskError) → Writes s h from r t → Writes (untold s) h from r (untold t)
untold_writes s t h from r m = record { asks = asks r s t m.asks; within = m.within; only = m.only; refused = m.refused; live = m.live; told = tt }

pub untold_closes : (s t : DiskState) (h : ℕ) → Closes s h t → Closes (untold s) h (untold t)
untold_closes s t h m = record { counts = m.counts; asked = m.asked; whole = m.whole; listers = m.listers; live = m.live; told = tt }

pub untold_lists : (s t : DiskState) (path : Names) (r : Result Lister DiskError) → Lists s path r t → Lists (untold s) path r (untold t)
untold_lists s t path r m = record { counted = counted r s t m.counted; only = m.only; live = m.live; listers = m.listers; told = tt }

pub untold_lists_on : (s t : DiskState) (l : ℕ) (r : Result (Option (List ℕ)) DiskError) → ListsOn s l r t → ListsOn (untold s) l r (untold t)
untold_lists_on s t l r m = record { counted = counted r s t m.counted; only = m.only; plain = m.plain; live = m.live; listers = m.listers; told = tt }

pub untold_ends : (s t : DiskState) (l : ℕ) → EndsListing s l t → EndsListing (untold s) l (untold t)
untold_ends s t l m = record { counts = m.counts; asked = m.asked; whole = m.whole; live = m.live; listers = m.listers; told = tt }

pub untold_does : (may : DiskError → Type 0) (In : World → World → Type 0) (s t : DiskState) (r : Result Unit DiskError) → Does may In s r t → Does may In (untold s) r (untold t)
untold_does may In s t r m = record { asks = asks r s t m.asks; only = m.only; live = m.live; opens = tt; told = tt }

pub untold_turns : {E : Type 0} → (s t : DiskState) (r : Result Unit E) → Turns s r t → Turns (untold s) r (untold t)
untold_turns s t r m = record { counts = m.counts; asked = m.asked; whole = m.whole; listers = m.listers; live = m.live; told = tt }
