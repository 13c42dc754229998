-- What a call does to what is known is what the trait of disks asks, with the counts beside it.
use Rattle.std.proofs.Common.{◌≡◌, ◌≤◌, ℕ, Bool, ◌↔◌, true, false, IsTrue, IsErrOf, Result, Ok, Err, inl, inr, refl, ap}
use Rattle.dav_io.specs.Counts.{one_more}
use Rattle.dav_core.specs.declared.tree.Row.{Row}
use Rattle.dav_core.specs.declared.handle.Meta.{Meta}
use Rattle.dav_core.specs.declared.handle.DiskError.{DiskError}
use Rattle.dav_core.specs.declared.handle.DiskError.TheVariants.{NotFound, Exists, NotDir, IsDir, NotEmpty, Failed, NoMemory}
use Rattle.dav_core.specs.Path.{Names}
use Rattle.dav_core.specs.Tree.{look, IsTreeRefusal}
use Rattle.dav_core.proofs.LookLemmas.{look_err}
use Rattle.dav_core.specs.World.{World}
use Rattle.dav_core.specs.Disk.{IsCounted, Refused, MetasBy, MayRefuseMeta, Closes}
use Rattle.dav_core.proofs.HeldStays.{same_held}
use Rattle.dav_core.proofs.RefusedLemmas.{refused_of}
use Rattle.dav_disk.specs.Calls.{Known, state_of, lengths, FindsMeta, RefusesBy, with_closed}
use Rattle.std.proofs.lemmas.Option.{same_Some}

-- what a counted call makes of the counts, and of whether reads are whole
pub record Counted (faults asked : ℕ) (whole : Bool) (met more : ℕ) (still : Bool) : Type 0 where
  pub rises : faults ≤ met
  pub counts : more ≡ one_more asked
  pub goes : asked ≤ more
  pub keeps : IsTrue whole → IsTrue still

pub counted_ok : {T : Type 0} (v : T) (k n : Known) (f a : ℕ) (x : Bool) (g b : ℕ) (y : Bool) → Counted f a x g b y → IsCounted {T = T} (Ok v) (state_of k f a x) (state_of n g b y)
counted_ok v k n f a x g b y c = record { counts = c.rises; rose = λ h. cc; asked = c.counts; more = c.goes; whole = c.keeps }

pub counted_err : {T : Type 0} (e : DiskError) (k n : Known) (f a : ℕ) (x : Bool) (g b : ℕ) (y : Bool) → (e ≡ Failed → ⊥) → Counted f a x g b y → IsCounted {T = T} (Err e) (state_of k f a x) (state_of n g b y)
counted_err e k n f a x g b y fine c = record { counts = c.rises; rose = λ h. absurd (fine (let same : e ≡ Failed = cc in same)); asked = c.counts; more = c.goes; whole = c.keeps }

pub no_fault : (e : DiskError) → IsTreeRefusal e → e ≡ Failed → ⊥
no_fault e (inl h) f = cc
no_fault e (inr h) f = cc

may_meta : (e : DiskError) → IsTreeRefusal e → MayRefuseMeta e
may_meta e (inl h) = rw h tt
may_meta e (inr h) = rw h tt

pub meta_done : (follows : Bool) (k : Known) (f a : ℕ) (x : Bool) (g b : ℕ) (y : Bool) (path : Names) (result : Result Meta DiskError) → Counted f a x g b y → FindsMeta k.world path result
    → MetasBy follows (state_of k f a x) path result (state_of k g b y)
meta_done follows k f a x g b y path (Ok meta) c found = record {
  asks = record { counted = counted_ok meta k k f a x g b y c; listers = refl };
  only = tt;
  world = refl;
  live = refl;
  told = λ w e linked. (let same = same_Some k.world w e in rw (← same) found);
}
meta_done follows k f a x g b y path (Err e) c found = record {
  asks = record { counted = counted_err e k k f a x g b y (no_fault e (look_err k.world.tree path e found)) c; listers = refl };
  only = may_meta e (look_err k.world.tree path e found);
  world = refl;
  live = refl;
  told = λ w h linked. (let same = same_Some k.world w h in rw (← same) (refused_of e (look k.world.tree path) found));
}

pub refused_by : (e : DiskError) (found : Result Row DiskError) → RefusesBy e found → Refused e found
refused_by NotFound found h = h
refused_by Exists found h = h
refused_by NotDir found h = h
refused_by IsDir found h = h
refused_by NotEmpty found h = h
refused_by Failed found h = tt
refused_by NoMemory found h = tt

pub close_done : (k n : Known) (f a : ℕ) (x y : Bool) (h : ℕ) → (IsTrue x → IsTrue y) → n ≡ with_closed k h → Closes (state_of k f a x) h (state_of n f a y)
close_done k n f a x y h keeps e = record {
  counts = refl;
  asked = refl;
  whole = keeps;
  listers = ap (λ (n : Known). lengths n.world.listings) e;
  live = ap (λ (n : Known). n.live) e;
  told = same_held (with_closed k h).world n.world (ap (λ (n : Known). n.world) e);
}

pub meta_no_fault : (w : World) (path : Names) (result : Result Meta DiskError) → FindsMeta w path result → IsErrOf result Failed → ⊥
meta_no_fault w path (Ok meta) found h = cc
meta_no_fault w path (Err e) found h = no_fault e (look_err w.tree path e found) (let same : e ≡ Failed = cc in same)

-- a call whose number isn't in the schedule
pub not_scheduled : {C : Type 0} (b : Bool) → b ≡ false → (IsTrue b ↔ C) → C → ⊥
not_scheduled true e h c = cc
not_scheduled false e h c = let t : false ≡ true = h.1 c in cc
