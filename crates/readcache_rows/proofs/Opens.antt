-- What is open goes on through calls at paths, and through turns of the outside.
use Rattle.std.proofs.Common.{◌≡◌, ℕ, true, Option, None, Some, IsSome, Result, refl, sym, subst}
use Rattle.dav_io.proofs.Cases.{some_of}
use Rattle.dav_core.specs.Disk.{DiskState, Live, Turns, can_read}
use Rattle.dav_core.specs.Unchanged.{KeepsBut}
use Rattle.dav_store.specs.Files.{LeavesOpen, SameSeen}
use Rattle.dav_store.specs.FileView.{FileView}
use Rattle.dav_store.specs.Frames.{KeepsOpen, KeepsOpenBut}
use Rattle.dav_get.proofs.BodyKept.{held_stays}
use Rattle.dav_handler.proofs.Frames.{turn_leaves}
use Rattle.dav_walks.proofs.calls.KeptOpen.{but_kept, but_then, open_closed}
use Rattle.readcache_rows.specs.declared.opened.Opened.{Opened}
use Rattle.readcache_rows.specs.declared.opened.Opened.TheVariants.{Nothing, File, Body}
use Rattle.readcache_rows.specs.Open.{IsFor}

-- a file that was opened, read and closed
pub read_closed : (h : ℕ) (s m n t : DiskState) → s.live h ≡ None → KeepsOpenBut h s m → KeepsBut h m n → KeepsBut h n t → t.live h ≡ None → KeepsOpen s t
read_closed h s m n t fresh opened read closed gone =
    open_closed h s t (but_then h s n t (but_then h s m n opened (but_kept h m n read)) (but_kept h n t closed)) fresh gone

some_read : (o : Option Live) → can_read o ≡ true → IsSome o
some_read None e = cc
some_read (Some l) e = refl

-- what others leave of a handle that is live
pub kept_leaves : (s t : DiskState) → KeepsOpen s t → (h : ℕ) → IsSome (s.live h) → LeavesOpen h s t
kept_leaves s t keeps h live = let (l, is) = some_of (s.live h) live in record { opened = keeps.opens h l is; live = keeps.live h }

-- `stays` and `on` are the laws of the file's type.
module _ {F : Type 0} (view : FileView F) (stays : (f : F) (s t : DiskState) → LeavesOpen (view.handle f) s t → SameSeen (view.seen f s) (view.seen f t))
    (on : (f : F) (s t : DiskState) → LeavesOpen (view.handle f) s t → view.reads_from f s → view.reads_from f t)
  where
    pub stays_for : (opened : Opened F) (s t : DiskState) → ((h : ℕ) → IsSome (s.live h) → LeavesOpen h s t) → IsFor view opened s → IsFor view opened t
    stays_for Nothing s t leaves may = tt
    stays_for (File f) s t leaves may =
        let left = leaves (view.handle f) may.live in
        record { live = subst IsSome (sym left.live) may.live; reads = on f s t left may.reads }
    stays_for (Body b) s t leaves may =
        held_stays view stays on s t b (λ h is. leaves (view.handle h.file) (some_read (s.live (view.handle h.file)) (may.file h is).live)) may

    pub turned_for : {E : Type 0} (opened : Opened F) (s t : DiskState) (result : Result Unit E) → Turns s result t → IsFor view opened s → IsFor view opened t
    turned_for opened s t result turns may = stays_for opened s t (λ h live. turn_leaves s t result h turns) may

    pub kept_for : (opened : Opened F) (s t : DiskState) → KeepsOpen s t → IsFor view opened s → IsFor view opened t
    kept_for opened s t keeps may = stays_for opened s t (kept_leaves s t keeps) may

-- calls at paths, by the disk inside the store
pub kept_inside : {S D : Type 0} (one : S → DiskState) (other : D → DiskState) (inside : S → D) → ((s : S) → one s ≡ other (inside s))
    → (s t : S) → KeepsOpen (one s) (one t) → KeepsOpen (other (inside s)) (other (inside t))
kept_inside one other inside same s t keeps =
    subst (λ x. KeepsOpen x (other (inside t))) (same s) (subst (λ x. KeepsOpen (one s) x) (same t) keeps)
