-- What an opening for reading leaves as it was.
use Rattle.std.specs.Prelude.{◌==◌, ◌≢◌, cond, option_map}
use Rattle.std.specs.Option.{is_some}
use Rattle.std.proofs.Common.{◌≡◌, ℕ, Bool, true, false, Option, None, Some, Result, Ok, Err, refl, sym, ap, subst, ◌∙◌, inl, inr}
use Rattle.dav_io.specs.Told.{Both}
use Rattle.dav_io.proofs.ToldLemmas.{both_map}
use Rattle.dav_core.specs.declared.handle.DiskError.{DiskError}
use Rattle.dav_core.specs.declared.handle.Handle.{Handle}
use Rattle.dav_core.specs.declared.tree.Kind.{Kind}
use Rattle.dav_core.specs.Disk.{DiskState, Live, OpenedIn, Opens, at_start, kind_opened, with_opens}
use Rattle.dav_core.specs.Writing.{reading}
use Rattle.dav_core.specs.Path.{Names}
use Rattle.dav_core.specs.Unchanged.{Keeps, SameBesidesOpens, SameListing, SameOpen}
use Rattle.dav_core.specs.World.{Holds, OpenFile, World, put}
use Rattle.dav_core.proofs.UnchangedLemmas.{put_other, put_same, same_besides}
use Rattle.dav_store.specs.Frames.{IsOpened}
use Rattle.dav_store.specs.Standing.{Seen}
use Rattle.dav_local.specs.Standing.{seen_at, seen_in, seen_with}

-- ---- the world

abbrev number_open : Option OpenFile → Option ℕ
number_open o = option_map (λ x. x.number) o

at_put : (b : Bool) (x : Option OpenFile) (v : World) (h number : ℕ) → (number_open x ≡ Some number → Holds v number) → number_open (cond b x (v.opens h)) ≡ Some number → Holds v number
at_put true x v h number new e = new e
at_put false x v h number new e = inr (h, e)

held_before : (v : World) (k number : ℕ) (x : Option OpenFile) → (number_open x ≡ Some number → Holds v number) → Holds (with_opens v (put k x v.opens)) number → Holds v number
held_before v k number x new (inl row) = inl row
held_before v k number x new (inr (h, at)) = at_put (h == k) x v h number new at

opened_besides : (path : Names) (r : Result Handle DiskError) (kind : Option Kind) (v w : World) → OpenedIn path r kind v w → SameBesidesOpens v w
opened_besides path (Ok h) kind v w (number, e, held, rows) = rw e (record {
  tree = refl;
  files = λ n holds. (held_before v h.0 n (Some (at_start number)) (λ f. let same : number ≡ n = cc in subst (Holds v) same held) holds, refl);
  greatest = refl;
  latest = refl;
  script = refl;
})
opened_besides path (Err x) kind v w (e, r) = rw e (same_besides v)

opened_listing : (n : ℕ) (path : Names) (r : Result Handle DiskError) (kind : Option Kind) (v w : World) → OpenedIn path r kind v w → SameListing n v w
opened_listing n path (Ok h) kind v w (number, e, held, rows) = ap (λ (u : World). u.listings n) e
opened_listing n path (Err x) kind v w (e, r) = ap (λ (u : World). u.listings n) e

opened_other : (k : ℕ) (path : Names) (h : Handle) (kind : Option Kind) (v w : World) → k ≢ h.0 → OpenedIn path (Ok h) kind v w → SameOpen k v w
opened_other k path h kind v w ne (number, e, held, rows) = ap (λ (u : World). u.opens k) e ∙ put_other h.0 k (Some (at_start number)) v.opens ne

-- ---- a refused opening

pub unopened_keeps : (s : DiskState) (path : Names) (e : DiskError) (t : DiskState) → Opens s path reading (Err e) t → Keeps s t
unopened_keeps s path e t opens = record {
  counts = opens.asks.counts;
  asked = opens.asks.more;
  whole = opens.asks.whole;
  listers = opens.asks.listers;
  listings = λ n k is. both_map s.told t.told (OpenedIn path (Err e) None) (SameListing n) (opened_listing n path (Err e) None) opens.told;
  world = both_map s.told t.told (OpenedIn path (Err e) None) SameBesidesOpens (opened_besides path (Err e) None) opens.told;
  live = λ h. ap (λ (f : ℕ → Option Live). f h) opens.live;
  opens = λ h l is. both_map s.told t.told (OpenedIn path (Err e) None) (SameOpen h) (λ v w opened. ap (λ (u : World). u.opens h) opened.0) opens.told;
}

-- ---- an opening

place_is : (a b : Option World) (l : Option Live) (path : Names) (h : Handle) (kind : Option Kind) (f : Seen) → Both a b (OpenedIn path (Ok h) kind) → seen_with b l h.0 ≡ Some f → f.place ≡ 0
place_is None None l path h kind f both e = cc
place_is None (Some w) l path h kind f both e = absurd both
place_is (Some v) None l path h kind f both e = absurd both
place_is (Some v) (Some w) None path h kind f both e = cc
place_is (Some v) (Some w) (Some l) path h kind f (number, is, held, rows) e =
    by_open (w.opens h.0) (ap (λ (u : World). u.opens h.0) is ∙ put_same h.0 (Some (at_start number)) v.opens) e
  where
    by_open : (o : Option OpenFile) → o ≡ Some (at_start number) → option_map (seen_in w l.kind) o ≡ Some f → f.place ≡ 0
    by_open None at e = cc
    by_open (Some o) at e =
        let same : seen_in w l.kind o ≡ f = cc in
        let start : o ≡ at_start number = cc in
        ap (λ (x : Seen). x.place) (sym same) ∙ ap (λ (x : OpenFile). x.place) start

how_is : (o : Option Live) (k l : Live) → o ≡ Some k → o ≡ Some l → l.how ≡ k.how
how_is o k l e f = let same : k ≡ l = cc in ap (λ (x : Live). x.how) (sym same)

pub opened_one : (s : DiskState) (path : Names) (h : Handle) (t : DiskState) → Opens s path reading (Ok h) t → IsOpened reading s h.0 (seen_at t h.0) t
opened_one s path h t opens =
    let (kind, fresh, is) = opens.live in
    let known = kind_opened (Ok h) t in
    let own : Live = record { kind = kind; how = reading } in
    let now : t.live h.0 ≡ Some own = ap (λ (f : ℕ → Option Live). f h.0) is ∙ put_same h.0 (Some own) s.live in
    let live_other : (k : ℕ) → k ≢ h.0 → t.live k ≡ s.live k = λ k ne. ap (λ (f : ℕ → Option Live). f k) is ∙ put_other h.0 k (Some own) s.live ne in
    record {
      others = record {
        counts = opens.asks.counts;
        asked = opens.asks.more;
        whole = opens.asks.whole;
        listers = opens.asks.listers;
        listings = λ n k e. both_map s.told t.told (OpenedIn path (Ok h) known) (SameListing n) (opened_listing n path (Ok h) known) opens.told;
        live = live_other;
        opens = λ k l ne e. both_map s.told t.told (OpenedIn path (Ok h) known) (SameOpen k) (λ v w. opened_other k path h known v w ne) opens.told;
      };
      kept = λ reads. record {
        counts = opens.asks.counts;
        asked = opens.asks.more;
        whole = opens.asks.whole;
        listers = opens.asks.listers;
        listings = λ n k e. both_map s.told t.told (OpenedIn path (Ok h) known) (SameListing n) (opened_listing n path (Ok h) known) opens.told;
        world = both_map s.told t.told (OpenedIn path (Ok h) known) SameBesidesOpens (opened_besides path (Ok h) known) opens.told;
        live = live_other;
        opens = λ k l ne e. both_map s.told t.told (OpenedIn path (Ok h) known) (SameOpen k) (λ v w. opened_other k path h known v w ne) opens.told;
      };
      fresh = fresh;
      live = ap is_some now;
      options = λ l e. how_is (t.live h.0) own l now e;
      place = λ f e. place_is s.told t.told (t.live h.0) path h known f opens.told e;
    }
