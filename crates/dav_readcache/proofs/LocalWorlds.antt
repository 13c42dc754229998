-- What the disk of a local store tells stays through its looks and its openings for reading, but for what is open.
use Rattle.std.specs.Prelude.{◌≡◌, ◌≤◌, ℕ, Bool, true, false, Option, Some, Result, Ok, Err, refl}
use Rattle.std.specs.Option.{option_map}
use Rattle.std.proofs.Common.{sym, ap, subst, ◌∙◌, arith}
use Rattle.dav_io.specs.declared.failure.NoMemory.{NoMemory}
use Rattle.dav_io.specs.Told.{Both}
use Rattle.dav_io.proofs.ToldLemmas.{both_same, both_then, told_after}
use Rattle.dav_core.specs.declared.error.FsError.{FsError}
use Rattle.dav_core.specs.declared.handle.Handle.{Handle}
use Rattle.dav_core.specs.DavPath.{WebPath}
use Rattle.dav_core.specs.Disk.{DiskState, Live, OpenedIn, Opens, at_start, kind_opened}
use Rattle.dav_core.specs.Info.{Info}
use Rattle.dav_core.specs.Path.{Names}
use Rattle.dav_core.specs.Unchanged.{Keeps, SameBesidesOpens}
use Rattle.dav_core.specs.World.{World}
use Rattle.dav_core.specs.Writing.{reading}
use Rattle.dav_core.proofs.UnchangedLemmas.{keeps_same, keeps_then, put_same, same_besides, same_besides_then}
use Rattle.dav_store.specs.Shows.{Looked, here, looks, looks_at_link}
use Rattle.dav_store.specs.Standing.{Seen}
use Rattle.dav_store.specs.View.{View}
use Rattle.dav_model.specs.Finding.{has_slash, is_virtual}
use Rattle.dav_local.specs.declared.file.LocalFsFile.{LocalFsFile}
use Rattle.dav_local.specs.Calls.{AfterAbsent, AfterFound, Asks, Finds, IsOpening, Looks, LooksAt, is_shut}
use Rattle.dav_local.specs.Files.{filed, seen_by}
use Rattle.dav_local.specs.Places.{Place}
use Rattle.dav_local.specs.Standing.{seen_in, seen_with}
use Rattle.dav_local.specs.Ways.{rules_of}
use Rattle.dav_local.proofs.ByRules.{tells_keeps}
use Rattle.dav_local.proofs.Keeping.{metas_keep}
use Rattle.dav_local.proofs.Opened.{opened_one, unopened_keeps}
use Rattle.dav_readcache.specs.Sound.{IsWorldThere, OpensTold}

-- ---- looks

place_keeps : (p q : Place) → q ≡ p → Keeps p.disk q.disk
place_keeps p q same = subst (λ (x : Place). Keeps p.disk x.disk) (sym same) (keeps_same p.disk)

absent_keeps : (absent : Result Bool NoMemory) (follows slash : Bool) (at : Names) (p q : Place) (r : Result Info FsError) → AfterAbsent absent follows slash at p r q → Keeps p.disk q.disk
absent_keeps (Err e) follows slash at p q r (is, same) = place_keeps p q same
absent_keeps (Ok true) follows slash at p q r (is, same) = place_keeps p q same
absent_keeps (Ok false) follows slash at p q r (answer, t, metas, is, ends) =
    subst (λ (x : Place). Keeps p.disk x.disk) (sym ends) (metas_keep follows p.disk at answer t metas)

look_at_keeps : (follows slash : Bool) (at : Names) (p q : Place) (r : Result Info FsError) → LooksAt follows slash at p r q → Keeps p.disk q.disk
look_at_keeps follows slash at p q r (absent, m, tells, after) = keeps_then p.disk m.disk q.disk (tells_keeps p m at absent tells) (absent_keeps absent follows slash at m q r after)

found_keeps : (found : Result Names FsError) (follows slash : Bool) (p q : Place) (r : Result Info FsError) → AfterFound found p (LooksAt follows slash) r q → Keeps p.disk q.disk
found_keeps (Err e) follows slash p q r (is, same) = place_keeps p q same
found_keeps (Ok at) follows slash p q r after = look_at_keeps follows slash at p q r after

pub look_keeps : (follows : Bool) (p q : Place) (path : WebPath) (r : Result Info FsError) → Looks follows p path r q → Keeps p.disk q.disk
look_keeps follows p q path r look = by (is_virtual (rules_of p.ways) path) refl
  where
    asked : Finds p path.names (LooksAt follows (has_slash p.ways.alone path)) r q → Keeps p.disk q.disk
    asked (found, m, resolves, after) = keeps_then p.disk m.disk q.disk resolves.keeps (found_keeps found follows (has_slash p.ways.alone path) m q r after)

    by : (b : Bool) → is_virtual (rules_of p.ways) path ≡ b → Keeps p.disk q.disk
    by true is = place_keeps p q (look.empty is).1
    by false is = asked (look.asked is)

-- ---- openings for reading

-- what stands is as it was, and no count of faults fell
abbrev pub Besides : Place → Place → Type 0
Besides p q = (p.disk.faults ≤ q.disk.faults) × Both p.disk.told q.disk.told SameBesidesOpens

besides_keeps : (p q : Place) → Keeps p.disk q.disk → Besides p q
besides_keeps p q keeps = (keeps.counts, keeps.world)

besides_then : (p m q : Place) → Besides p m → Besides m q → Besides p q
besides_then p m q (le, one) (on, other) =
    (omega (arith, le, on), both_then p.disk.told m.disk.told q.disk.told SameBesidesOpens SameBesidesOpens SameBesidesOpens same_besides_then one other)

abbrev OpensAt : Names → Place → Result LocalFsFile FsError → Place → Type 0
OpensAt at p r q = Asks (λ s answer t. Opens s at reading answer t) filed p r q

open_at_stays : (at : Names) (p q : Place) (r : Result LocalFsFile FsError) → OpensAt at p r q → Besides p q
open_at_stays at p q r (Ok h, t, opens, is, ends) =
    let kept = (opened_one p.disk at h t opens).kept refl in
    subst (λ (x : Place). Besides p x) (sym ends) (kept.counts, kept.world)
open_at_stays at p q r (Err e, t, opens, is, ends) =
    let kept = unopened_keeps p.disk at e t opens in
    subst (λ (x : Place). Besides p x) (sym ends) (kept.counts, kept.world)

found_stays : (found : Result Names FsError) (p q : Place) (r : Result LocalFsFile FsError) → AfterFound found p OpensAt r q → Besides p q
found_stays (Err e) p q r (is, same) = besides_keeps p q (place_keeps p q same)
found_stays (Ok at) p q r after = open_at_stays at p q r after

pub opening_stays : (p q : Place) (path : WebPath) (r : Result LocalFsFile FsError) → IsOpening p path reading r q → Besides p q
opening_stays p q path r opens = by (is_shut p.ways path) refl
  where
    asked : Finds p path.names OpensAt r q → Besides p q
    asked (found, m, resolves, after) = besides_then p m q (besides_keeps p m resolves.keeps) (found_stays found m q r after)

    by : (b : Bool) → is_shut p.ways path ≡ b → Besides p q
    by true is = besides_keeps p q (place_keeps p q (opens.forbidden is).1)
    by false is = asked (opens.asked is)

-- ---- what is opened is told

-- an open file at its first byte
abbrev IsToldAt : DiskState → LocalFsFile → Type 0
IsToldAt t file = (f : Seen) × (seen_by file t ≡ Some f) × (f.place ≡ 0)

told_in : (told : Option World) (live : Option Live) (h : ℕ) (w : World) (l : Live) (number : ℕ) → told ≡ Some w → live ≡ Some l → w.opens h ≡ Some (at_start number) → (f : Seen) × (seen_with told live h ≡ Some f) × (f.place ≡ 0)
told_in told live h w l number is now open_at =
    (seen_in w l.kind (at_start number), ap (λ x. seen_with x live h) is ∙ (ap (λ x. seen_with (Some w) x h) now ∙ ap (option_map (seen_in w l.kind)) open_at), refl)

handle_told : (v : World) (s t : DiskState) (at : Names) (h : Handle) → s.told ≡ Some v → Opens s at reading (Ok h) t → IsToldAt t (record { handle = h })
handle_told v s t at h told opens =
    let (w, is, (number, same, held, rows)) = told_after s.told t.told (OpenedIn at (Ok h) (kind_opened (Ok h) t)) v opens.told told in
    let (kind, fresh, live) = opens.live in
    let own : Live = record { kind = kind; how = reading } in
    told_in t.told (t.live h.0) h.0 w own number is (ap (λ (f : ℕ → Option Live). f h.0) live ∙ put_same h.0 (Some own) s.live)
    (ap (λ (u : World). u.opens h.0) same ∙ put_same h.0 (Some (at_start number)) v.opens)

open_at_told : (v : World) (at : Names) (p q : Place) (file : LocalFsFile) → p.disk.told ≡ Some v → OpensAt at p (Ok file) q → IsToldAt q.disk file
open_at_told v at p q file told (Err e, t, opens, is, ends) = cc
open_at_told v at p q file told (Ok h, t, opens, is, ends) =
    let given : LocalFsFile = record { handle = h } in
    let same : given ≡ file = cc in
    subst (λ (x : Place). IsToldAt x.disk file) (sym ends) (subst (IsToldAt t) same (handle_told v p.disk t at h told opens))

found_told : (v : World) (found : Result Names FsError) (p q : Place) (file : LocalFsFile) → p.disk.told ≡ Some v → AfterFound found p OpensAt (Ok file) q → IsToldAt q.disk file
found_told v (Err e) p q file told (is, same) = cc
found_told v (Ok at) p q file told after = open_at_told v at p q file told after

pub opening_told : (w : World) (p q : Place) (path : WebPath) (file : LocalFsFile) → p.disk.told ≡ Some w → IsOpening p path reading (Ok file) q → IsToldAt q.disk file
opening_told w p q path file told opens = by (is_shut p.ways path) refl
  where
    asked : Finds p path.names OpensAt (Ok file) q → IsToldAt q.disk file
    asked (found, m, resolves, after) =
        let (v, now, same) = told_after p.disk.told m.disk.told SameBesidesOpens w resolves.keeps.world told in
        found_told v found m q file now after

    by : (b : Bool) → is_shut p.ways path ≡ b → IsToldAt q.disk file
    by true is = let (refused, same) = opens.forbidden is in cc
    by false is = asked (opens.asked is)

-- ---- a store whose calls are these

module _ {S C : Type 0} (view : View S C LocalFsFile) (place : S → Place) (disk : (s : S) → (place s).disk ≡ view.state s) (seen : (file : LocalFsFile) (s : DiskState) → view.file.seen file s ≡ seen_by file s)
    (looks_so : (s t : S) (c : C) (path : WebPath) (r : Result Info FsError) → view.looks s c path r t → Looks true (place s) path r (place t))
    (links_so : (s t : S) (c : C) (path : WebPath) (r : Result Info FsError) → view.looks_at_link s c path r t → Looks false (place s) path r (place t))
    (opens_so : (s t : S) (c : C) (path : WebPath) (r : Result LocalFsFile FsError) → view.opens s c path reading r t → IsOpening (place s) path reading r (place t)) where
  abbrev pub StaysTold : S → S → Type 0
  StaysTold s t = Both (view.state s).told (view.state t).told SameBesidesOpens

  stays_as : (s t : S) → Besides (place s) (place t) → StaysTold s t
  stays_as s t besides = subst (λ (x : DiskState). Both x.told (view.state t).told SameBesidesOpens) (disk s) (subst (λ (x : DiskState). Both (place s).disk.told x.told SameBesidesOpens) (disk t) besides.1)

  stays_then : (s m t : S) → StaysTold s m → StaysTold m t → StaysTold s t
  stays_then s m t one other = both_then (view.state s).told (view.state m).told (view.state t).told SameBesidesOpens SameBesidesOpens SameBesidesOpens same_besides_then one other

  pub looked_stays : (s : S) (c : C) (t : S) → Looked view s c t → StaysTold s t
  looked_stays s c t here = both_same (view.state s).told (view.state s).told SameBesidesOpens same_besides refl
  looked_stays s c t (looks m n path r before call) =
      stays_then s m n (looked_stays s c m before) (stays_as m n (besides_keeps (place m) (place n) (look_keeps true (place m) (place n) path r (looks_so m n c path r call))))
  looked_stays s c t (looks_at_link m n path r before call) =
      stays_then s m n (looked_stays s c m before) (stays_as m n (besides_keeps (place m) (place n) (look_keeps false (place m) (place n) path r (links_so m n c path r call))))

  open_stays : (s t : S) (c : C) (path : WebPath) (r : Result LocalFsFile FsError) → view.opens s c path reading r t → StaysTold s t
  open_stays s t c path r opens = stays_as s t (opening_stays (place s) (place t) path r (opens_so s t c path r opens))

  told_now : (s t : S) (w v : World) → (view.state s).told ≡ Some w → StaysTold s t → (view.state t).told ≡ Some v → SameBesidesOpens w v
  told_now s t w v told stays now =
      let (x, is, same) = told_after (view.state s).told (view.state t).told SameBesidesOpens w stays told in
      let e : x ≡ v = some_is x v (sym is ∙ now) in
      subst (SameBesidesOpens w) e same
    where
      some_is : (a b : World) → ◌≡◌ {A = Option World} (Some a) (Some b) → a ≡ b
      some_is a b e = cc

  -- Where a path is opened after looks, the disk tells the same world but for what is open.
  pub world_there : (s : S) (c : C) (w : World) (path : WebPath) → (view.state s).told ≡ Some w → IsWorldThere view s c path w
  world_there s c w path told = λ m n o v looked opens now.
      told_now s n w v told (stays_then s m n (looked_stays s c m looked) (open_stays m n c path o opens)) now

  -- What is opened is told, at its first byte.
  pub opens_told : (s : S) (c : C) (w : World) (path : WebPath) → (view.state s).told ≡ Some w → OpensTold view s c path w
  opens_told s c w path told = λ n file opens.
      let at_place : (place s).disk.told ≡ Some w = ap (λ (x : DiskState). x.told) (disk s) ∙ told in
      let (f, is, first) = opening_told w (place s) (place n) path file at_place (opens_so s n c path (Ok file) opens) in
      (f, seen file (view.state n) ∙ (ap (seen_by file) (sym (disk n)) ∙ is), first, λ v now. told_now s n w v told (open_stays s n c path (Ok file) opens) now)
