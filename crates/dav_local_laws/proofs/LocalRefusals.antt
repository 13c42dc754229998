-- What a local store refuses, where nothing failed: few things.
use Rattle.std.proofs.Common.{◌≡◌, ◌≤◌, ◌⊎◌, ◌&&◌, Bool, true, false, not, Result, Ok, Err, refl, sym, ap, subst, inl, inr, if◌then◌else◌}
use Rattle.dav_io.specs.Counts.{Rose}
use Rattle.dav_io.specs.declared.failure.NoMemory.{NoMemory as Starved}
use Rattle.dav_io.specs.declared.clock.Moment.{Moment}
use Rattle.dav_core.specs.declared.error.FsError.{FsError}
use Rattle.dav_core.specs.declared.error.FsError.TheVariants as fs
use Rattle.dav_core.specs.declared.handle.DiskError.{DiskError}
use Rattle.dav_core.specs.declared.handle.DiskError.TheVariants.{NotFound, Exists, NotDir, IsDir, NotEmpty, Failed, NoMemory}
use Rattle.dav_core.specs.declared.handle.Handle.{Handle}
use Rattle.dav_core.specs.declared.handle.Lister.{Lister}
use Rattle.dav_core.specs.declared.handle.Meta.{Meta}
use Rattle.dav_core.specs.DavPath.{WebPath}
use Rattle.dav_core.specs.Disk.{DiskState, IsCounted, MayRefuseMeta, MayRefuseOpen, MetasBy, Opens}
use Rattle.dav_core.specs.Errors.{CouldRefuse, fs_error_of}
use Rattle.dav_core.specs.Info.{Info, info_of}
use Rattle.dav_core.specs.Listing.{MayRefuseList}
use Rattle.dav_core.specs.Writing.{reading}
use Rattle.dav_core.specs.Path.{Names}
use Rattle.dav_core.specs.Tree.{is_dir}
use Rattle.dav_core.specs.Unchanged.{Keeps}
use Rattle.dav_store.specs.declared.entry.ReadDirMeta.TheVariants.{Data}
use Rattle.dav_store.specs.Files.{Spoiled}
use Rattle.dav_store.specs.View.{Listings, View}
use Rattle.dav_store.proofs.Reading.{rose_from}
use Rattle.dav_model.specs.Finding.{has_slash, is_virtual}
use Rattle.dav_walks.specs.Pouring.{Writes}
use Rattle.dav_get.specs.Heard.{RefusesFew}
use Rattle.dav_memory.specs.Memory.{MemoryState}
use Rattle.dav_local.specs.declared.entry.LocalFsDirEntry.{LocalFsDirEntry}
use Rattle.dav_local.specs.declared.file.LocalFsFile.{LocalFsFile}
use Rattle.dav_local.specs.declared.ways.Ways.{Ways}
use Rattle.dav_local.specs.Calls.{AfterAbsent, Asks, BeginsAt, Finds, IsOpening, Looks, LooksAt, Place, is_shut}
use Rattle.dav_local.specs.Files.{filed, looked_as}
use Rattle.dav_local.specs.declared.gathering.LocalFsReadDir.{LocalFsReadDir}
use Rattle.dav_local.specs.Gathering.{BeginsDir, gathers}
use Rattle.dav_local.specs.Ways.{rules_of}
use Rattle.dav_local.proofs.ByRules.{tells_keeps}
use Rattle.dav_local_laws.specs.LocalStore.{IsLocalStore, place}
use Rattle.dav_local.proofs.Keeping.{metas_keep}

abbrev Refuses : Type 0 → FsError → DiskState → DiskState → Type 0
Refuses T e s t = CouldRefuse e ⊎ Spoiled {T = T} s (Err e) t

disk_refuses_look : (d : DiskError) (e : FsError) (s t : DiskState) → MayRefuseMeta d → IsCounted {T = Meta} (Err d) s t → e ≡ fs_error_of d → Refuses Info e s t
disk_refuses_look NotFound e s t may counted is = inl (inl is)
disk_refuses_look NotDir e s t may counted is = inl (inr is)
disk_refuses_look Failed e s t may counted is = inr (inl (cc, counted.rose refl))
disk_refuses_look IsDir e s t may counted is = absurd may
disk_refuses_look Exists e s t may counted is = absurd may
disk_refuses_look NotEmpty e s t may counted is = absurd may
disk_refuses_look NoMemory e s t may counted is = absurd may

slash_refuses : (b : Bool) (info : Info) (e : FsError) → Err e ≡ (if b then Err fs.Forbidden else Ok info) → e ≡ fs.Forbidden
slash_refuses true info e is = cc
slash_refuses false info e is = cc

look_refused : (slash : Bool) (at : Names) (follows : Bool) (answer : Result Meta DiskError) (e : FsError) (s t : DiskState) → MetasBy follows s at answer t → Err e ≡ looked_as slash answer → Refuses Info e s t
look_refused slash at follows (Ok m) e s t metas is = inl (inr (slash_refuses (slash && not (is_dir m.kind)) (info_of m) e is))
look_refused slash at follows (Err d) e s t metas is = disk_refuses_look d e s t metas.only metas.asks.counted cc

disk_refuses_open : (d : DiskError) (e : FsError) (s t : DiskState) → MayRefuseOpen false d → IsCounted {T = Handle} (Err d) s t → e ≡ fs_error_of d → Refuses LocalFsFile e s t
disk_refuses_open NotFound e s t may counted is = inl (inl is)
disk_refuses_open NotDir e s t may counted is = inl (inr is)
disk_refuses_open Failed e s t may counted is = inr (inl (cc, counted.rose refl))
disk_refuses_open NoMemory e s t may counted is = inr (inr cc)
disk_refuses_open IsDir e s t may counted is = absurd may
disk_refuses_open Exists e s t may counted is = absurd may
disk_refuses_open NotEmpty e s t may counted is = absurd may

disk_refuses_list : (d : DiskError) (e : FsError) (s t : DiskState) → MayRefuseList d → IsCounted {T = Lister} (Err d) s t → e ≡ fs_error_of d → Refuses LocalFsReadDir e s t
disk_refuses_list NotFound e s t may counted is = inl (inl is)
disk_refuses_list NotDir e s t may counted is = inl (inr is)
disk_refuses_list Failed e s t may counted is = inr (inl (cc, counted.rose refl))
disk_refuses_list NoMemory e s t may counted is = inr (inr cc)
disk_refuses_list IsDir e s t may counted is = absurd may
disk_refuses_list Exists e s t may counted is = absurd may
disk_refuses_list NotEmpty e s t may counted is = absurd may

refuses_from : (T : Type 0) (e : FsError) (s m t : DiskState) → s.faults ≤ m.faults → Refuses T e m t → Refuses T e s t
refuses_from T e s m t le (inl could) = inl could
refuses_from T e s m t le (inr (inl (is, rose))) = inr (inl (is, rose_from s.faults m.faults t.faults le rose))
refuses_from T e s m t le (inr (inr none)) = inr (inr none)

-- what a path that wasn't found is refused with
unfound : (T : Type 0) (e f : FsError) (s m t : DiskState) → e ≡ f → t ≡ m → Spoiled {T = Names} s (Err f) m → Refuses T e s t
unfound T e f s m t is same (inl (general, rose)) = inr (inl (cc, subst (λ (x : DiskState). Rose s.faults x.faults) (sym same) rose))
unfound T e f s m t is same (inr none) = inr (inr cc)

finds_refuse : (T : Type 0) (p q : Place) (names : Names) (call : Names → Place → Result T FsError → Place → Type 0) (e : FsError)
    → ((at : Names) (k : Place) → call at k (Err e) q → Refuses T e k.disk q.disk) → Finds p names call (Err e) q → Refuses T e p.disk q.disk
finds_refuse T p q names call e each (Err f, m, resolves, (is, ends)) =
    unfound T e f p.disk m.disk q.disk (let same : e ≡ f = cc in same) (ap (λ (x : Place). x.disk) ends) resolves.refused
finds_refuse T p q names call e each (Ok at, m, resolves, after) =
    refuses_from T e p.disk m.disk q.disk resolves.keeps.counts (each at m after)

absent_refuses : (k n q : Place) (absent : Result Bool Starved) (slash : Bool) (at : Names) (e : FsError) → Keeps k.disk n.disk → AfterAbsent absent true slash at n (Err e) q → Refuses Info e k.disk q.disk
absent_refuses k n q (Err x) slash at e keeps (is, ends) = inr (inr cc)
absent_refuses k n q (Ok true) slash at e keeps (is, ends) = inl (inl cc)
absent_refuses k n q (Ok false) slash at e keeps (answer, t, metas, is, ends) =
    subst (λ x. Refuses Info e k.disk x) (sym (ap (λ (x : Place). x.disk) ends))
    (refuses_from Info e k.disk n.disk t keeps.counts (look_refused slash at true answer e n.disk t metas is))

look_refuses : (p q : Place) (path : WebPath) (e : FsError) → Looks true p path (Err e) q → Refuses Info e p.disk q.disk
look_refuses p q path e looks = by (is_virtual (rules_of p.ways) path) refl
  where
    by : (b : Bool) → is_virtual (rules_of p.ways) path ≡ b → Refuses Info e p.disk q.disk
    by true is = let (empty, same) = looks.empty is in cc
    by false is = finds_refuse Info p q path.names (LooksAt true (has_slash p.ways.alone path)) e
        (λ at k (absent, n, tells, after). absent_refuses k n q absent (has_slash p.ways.alone path) at e (tells_keeps k n at absent tells) after) (looks.asked is)

opened_refuses : (k q : Place) (at : Names) (e : FsError) → Asks (λ s answer t. Opens s at reading answer t) filed k (Err e) q → Refuses LocalFsFile e k.disk q.disk
opened_refuses k q at e (Ok h, t, opens, is, ends) = cc
opened_refuses k q at e (Err d, t, opens, is, ends) =
    subst (λ x. Refuses LocalFsFile e k.disk x) (sym (ap (λ (x : Place). x.disk) ends)) (disk_refuses_open d e k.disk t opens.only opens.asks.counted cc)

open_refuses : (p q : Place) (path : WebPath) (e : FsError) → IsOpening p path reading (Err e) q → Refuses LocalFsFile e p.disk q.disk
open_refuses p q path e run = by (is_shut p.ways path) refl
  where
    by : (b : Bool) → is_shut p.ways path ≡ b → Refuses LocalFsFile e p.disk q.disk
    by true is = let (forbidden, same) = run.forbidden is in inl (inr cc)
    by false is = finds_refuse LocalFsFile p q path.names _ e (λ at k asks. opened_refuses k q at e asks) (run.asked is)

begun_refuses : (k q : Place) (at : Names) (e : FsError) → BeginsAt Data at k (Err e) q → Refuses LocalFsReadDir e k.disk q.disk
begun_refuses k q at e (t, begins, ends) =
    subst (λ x. Refuses LocalFsReadDir e k.disk x) (sym (ap (λ (x : Place). x.disk) ends)) (by (gathers k.ways.macos Data) begins)
  where
    later : (m : DiskState) → k.disk.faults ≤ m.faults → Refuses LocalFsReadDir e m t → Refuses LocalFsReadDir e k.disk t
    later m le (inl is) = inl is
    later m le (inr (inl (is, rose))) = inr (inl (is, rose_from k.disk.faults m.faults t.faults le rose))
    later m le (inr (inr is)) = inr (inr is)

    by : (b : Bool) → BeginsDir b at Data k.disk (Err e) t → Refuses LocalFsReadDir e k.disk t
    by false (Ok reading, lists_so, whole) = cc
    by false (Err f, (Ok lister, lists, is), whole) = cc
    by false (Err f, (Err d, lists, is), whole) = disk_refuses_list d e k.disk t lists.only lists.counted cc
    by true (inl (starved, same)) = inr (inr starved)
    by true (inr (b, m, starts, Ok reading, lists_so, whole)) = cc
    by true (inr (b, m, starts, Err f, (Ok lister, lists, is), whole)) = cc
    by true (inr (b, m, (found, metas, is_b), Err f, (Err d, lists, is), whole)) =
        later m (metas_keep true k.disk at found m metas).counts (disk_refuses_list d e m t lists.only lists.counted cc)

module _ {S C : Type 0} (view : View S C LocalFsFile) (lists : Listings S C LocalFsReadDir LocalFsDirEntry) (writes : Writes LocalFsFile) (ways : S → Ways) (memory : S → MemoryState) (moment : S → Moment)
    (local : IsLocalStore view lists writes ways memory moment) where
  abbrev at : S → Place
  at s = place view lists writes ways memory moment s

  pub refuses_few : RefusesFew view lists
  refuses_few = record {
    looks = λ s t c path e h. look_refuses (at s) (at t) path e (local.looks s t c path (Err e) h).0;
    opens = λ s t c path e h. open_refuses (at s) (at t) path e (local.opens s t c path reading (Err e) h).0;
    begins = λ s t c path e h. finds_refuse LocalFsReadDir (at s) (at t) path.names (BeginsAt Data) e (λ end k begins. begun_refuses k (at t) end e begins) (local.begins s t c path Data (Err e) h).0;
  }
