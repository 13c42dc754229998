-- A writing call that does what is allowed is what the trait of disks asks, with the counts beside it.
use Rattle.std.proofs.Common.{◌≡◌, ◌≤◌, ◌↔◌, ◌⊎◌, Contains, ℕ, Bool, true, false, IsTrue, IsErrOf, Option, None, Some, Result, Ok, Err, IfErr, OnErr, inl, inr, refl, sym, ap, ◌∙◌}
use Rattle.std.specs.Option.{is_none}
use Rattle.dav_io.specs.Counts.{Rose, one_more}
use Rattle.dav_core.specs.declared.handle.DiskError.{DiskError}
use Rattle.dav_core.specs.declared.handle.DiskError.TheVariants.{NotFound, Exists, NotDir, IsDir, NotEmpty, Failed, NoMemory}
use Rattle.dav_core.specs.World.{World, AreGiven}
use Rattle.dav_core.specs.Disk.{IsCounted}
use Rattle.dav_core.specs.Edits.{Edit, SameOpens}
use Rattle.dav_core.specs.Allowed.{Allowed}
use Rattle.dav_core.specs.Writing.{Does, DoesIn, LeftBy}
use Rattle.dav_core.proofs.UnchangedLemmas.{same_besides}
use Rattle.dav_disk.specs.Calls.{Known, state_of, lengths}
use Rattle.dav_disk.specs.Making.{MakesAt, edited_by, is_spent}
use Rattle.dav_disk.proofs.Done.{Counted, not_scheduled}
use Rattle.dav_disk.specs.declared.mem_disk.MemDisk.{MemDisk}
use Rattle.dav_disk.specs.declared.sure_disk.SureDisk.{SureDisk}
use Rattle.dav_disk.specs.Failing.{FollowsOr, UnlessFault, fails_at, mem_world}
use Rattle.dav_disk.specs.Sure.{FailsOnly}
use Rattle.dav_disk.proofs.Edited.{edited_by_is, edited_opens}
use Rattle.std.proofs.lemmas.Bool.{both_ways}

-- what a call leaves that made nothing
left_by : (may : Bool) (allowed : Allowed) (v w : World) → w ≡ v → LeftBy may allowed v w
left_by true (Ok (Some e)) v w same = inl (rw same (same_besides v))
left_by true (Ok None) v w same = rw same (same_besides v)
left_by true (Err x) v w same = rw same (same_besides v)
left_by false allowed v w same = rw same (same_besides v)

abbrev Given : World → Type 0
Given w = AreGiven w.tree w.files w.opens w.greatest w.latest

left_of : (may : Bool) (allowed : Allowed) (k n : Known) → n ≡ k → LeftBy may allowed k.world n.world
left_of may allowed k n same = left_by may allowed k.world n.world (ap (λ (n : Known). n.world) same)

-- what is made of the told world
pub does_in : (may : Bool) (allowed : Allowed) (k n : Known) (result : Result Unit DiskError) → Given k.world → MakesAt allowed k result n → DoesIn may allowed result k.world n.world
does_in may allowed k n (Ok x) given (edit, e, made, rest) = (edit, e, edited_by_is edit k.world n.world given made)
does_in may allowed k n (Err Failed) given (same, spent) = (tt, left_of may allowed k n same)
does_in may allowed k n (Err NoMemory) given (same, left) = (tt, left_of may allowed k n same)
does_in may allowed k n (Err NotFound) given (same, e) = (e, left_of may allowed k n same)
does_in may allowed k n (Err Exists) given (same, e) = (e, left_of may allowed k n same)
does_in may allowed k n (Err NotDir) given (same, e) = (e, left_of may allowed k n same)
does_in may allowed k n (Err IsDir) given (same, e) = (e, left_of may allowed k n same)
does_in may allowed k n (Err NotEmpty) given (same, e) = (e, left_of may allowed k n same)

-- what stays beside the files
record Stays (k n : Known) : Type 0 where
  opens : SameOpens k.world n.world
  live : n.live ≡ k.live

stays_same : (k n : Known) → n ≡ k → Stays k n
stays_same k n same = record { opens = record { opens = ap (λ (n : Known). n.world.opens) same; listings = ap (λ (n : Known). n.world.listings) same }; live = ap (λ (n : Known). n.live) same }

stays : (allowed : Allowed) (k n : Known) (result : Result Unit DiskError) → MakesAt allowed k result n → Stays k n
stays allowed k n (Ok x) (edit, e, made, rest) = record { opens = edited_opens edit k.world n.world made; live = ap (λ (n : Known). n.live) rest }
stays allowed k n (Err Failed) (same, spent) = stays_same k n same
stays allowed k n (Err NoMemory) (same, left) = stays_same k n same
stays allowed k n (Err NotFound) (same, e) = stays_same k n same
stays allowed k n (Err Exists) (same, e) = stays_same k n same
stays allowed k n (Err NotDir) (same, e) = stays_same k n same
stays allowed k n (Err IsDir) (same, e) = stays_same k n same
stays allowed k n (Err NotEmpty) (same, e) = stays_same k n same

-- the refusals of a call, by those that the tree calls for
pub record MayRefuse (may : DiskError → Type 0) (allowed : Allowed) : Type 0 where
  pub failed : may Failed
  pub memory : may NoMemory
  pub tree : (e : DiskError) → allowed ≡ Err e → may e

refuses : (may : DiskError → Type 0) (allowed : Allowed) (k n : Known) (result : Result Unit DiskError) → MayRefuse may allowed → MakesAt allowed k result n → IfErr result may
refuses may allowed k n (Ok x) m (edit, e, made, rest) = tt
refuses may allowed k n (Err Failed) m (same, spent) = m.failed
refuses may allowed k n (Err NoMemory) m (same, left) = m.memory
refuses may allowed k n (Err NotFound) m (same, e) = m.tree NotFound e
refuses may allowed k n (Err Exists) m (same, e) = m.tree Exists e
refuses may allowed k n (Err NotDir) m (same, e) = m.tree NotDir e
refuses may allowed k n (Err IsDir) m (same, e) = m.tree IsDir e
refuses may allowed k n (Err NotEmpty) m (same, e) = m.tree NotEmpty e

-- a call is counted, and where it failed a fault
pub record Noted {T : Type 0} (result : Result T DiskError) (faults asked : ℕ) (whole : Bool) (met more : ℕ) (still : Bool) : Type 0 where
  pub counted : Counted faults asked whole met more still
  pub rose : IsErrOf result Failed → Rose faults met

pub is_counted : {T : Type 0} (result : Result T DiskError) (k n : Known) (f a : ℕ) (x : Bool) (g b : ℕ) (y : Bool) → Noted result f a x g b y → IsCounted result (state_of k f a x) (state_of n g b y)
is_counted result k n f a x g b y c = record { counts = c.counted.rises; rose = c.rose; asked = c.counted.counts; more = c.counted.goes; whole = c.counted.keeps }

pub does : (may : DiskError → Type 0) (In : World → World → Type 0) (allowed : Allowed) (k n : Known) (f a : ℕ) (x : Bool) (g b : ℕ) (y : Bool) (result : Result Unit DiskError)
    → Noted result f a x g b y → MayRefuse may allowed → MakesAt allowed k result n → In k.world n.world → Does may In (state_of k f a x) result (state_of n g b y)
does may In allowed k n f a x g b y result c m makes told =
    let s = stays allowed k n result makes in
    record {
      asks = record { counted = is_counted result k n f a x g b y c; listers = ap lengths s.opens.listings };
      only = refuses may allowed k n result m makes;
      live = s.live;
      opens = s.opens;
      told = told;
    }

-- a call fails by itself where what is allowed needs a number or a tick that isn't left
pub fails_spent : (allowed : Allowed) (k n : Known) (result : Result Unit DiskError) → MakesAt allowed k result n → IsErrOf result Failed → is_spent allowed k.world ≡ true
fails_spent allowed k n (Ok x) m f = cc
fails_spent allowed k n (Err Failed) (same, spent) f = spent
fails_spent allowed k n (Err NoMemory) m f = cc
fails_spent allowed k n (Err NotFound) m f = cc
fails_spent allowed k n (Err Exists) m f = cc
fails_spent allowed k n (Err NotDir) m f = cc
fails_spent allowed k n (Err IsDir) m f = cc
fails_spent allowed k n (Err NotEmpty) m f = cc

pub refused_not_spent : (allowed : Allowed) (e : DiskError) (w : World) → allowed ≡ Err e → is_spent allowed w ≡ true → ⊥
refused_not_spent allowed e w refused spent = let t : false ≡ true = sym (ap (λ a. is_spent a w) refused) ∙ spent in cc

pub made_not_spent : (allowed : Allowed) (edit : Option Edit) (w v : World) → allowed ≡ Ok edit → edited_by edit w ≡ Some v → is_spent allowed w ≡ true → ⊥
made_not_spent allowed edit w v e made spent = let t : false ≡ true = sym (ap (λ a. is_spent a w) e ∙ ap is_none made) ∙ spent in cc

-- and it fails there
pub spent_fails : (allowed : Allowed) (k n : Known) (result : Result Unit DiskError) → MakesAt allowed k result n → is_spent allowed k.world ≡ true → IsErrOf result Failed
spent_fails allowed k n (Ok x) (edit, e, made, rest) spent = absurd (made_not_spent allowed edit k.world n.world e made spent)
spent_fails allowed k n (Err Failed) m spent = refl
spent_fails allowed k n (Err NoMemory) (same, left) spent = absurd (both_ways (is_spent allowed k.world) left spent)
spent_fails allowed k n (Err NotFound) (same, e) spent = absurd (refused_not_spent allowed NotFound k.world e spent)
spent_fails allowed k n (Err Exists) (same, e) spent = absurd (refused_not_spent allowed Exists k.world e spent)
spent_fails allowed k n (Err NotDir) (same, e) spent = absurd (refused_not_spent allowed NotDir k.world e spent)
spent_fails allowed k n (Err IsDir) (same, e) spent = absurd (refused_not_spent allowed IsDir k.world e spent)
spent_fails allowed k n (Err NotEmpty) (same, e) spent = absurd (refused_not_spent allowed NotEmpty k.world e spent)

-- ---- the counts

pub noted_by : {T : Type 0} (result : Result T DiskError) (f m g a b : ℕ) (x : Bool) (fault : Bool) → m ≡ f → (IsTrue fault ↔ IsErrOf result Failed) → m ≤ g → (fault ≡ true → Rose m g)
    → b ≡ one_more a → a ≤ b → Noted result f a x g b x
noted_by result f m g a b x fault same fails rises rose counts goes = rw (← same) (record {
  counted = record { rises = rises; counts = counts; goes = goes; keeps = λ whole. whole };
  rose = λ e. rose (fails.1 e);
})

-- a call that fails by the schedule
pub fails_noted : {T : Type 0} (f g a b : ℕ) (x : Bool) → f ≤ g → Rose f g → b ≡ one_more a → a ≤ b → Noted {T = T} (Err Failed) f a x g b x
fails_noted f g a b x rises rose counts goes = record { counted = record { rises = rises; counts = counts; goes = goes; keeps = λ whole. whole }; rose = λ e. rose }

pub fails_done : (may : DiskError → Type 0) (In : World → World → Type 0) (k : Known) (f a : ℕ) (x : Bool) (g b : ℕ) (y : Bool) → Noted {T = Unit} (Err Failed) f a x g b y → may Failed → In k.world k.world
    → Does may In (state_of k f a x) (Err Failed) (state_of k g b y)
fails_done may In k f a x g b y c m told = record {
  asks = record { counted = is_counted (Err Failed) k k f a x g b y c; listers = refl };
  only = m;
  live = refl;
  opens = record { opens = refl; listings = refl };
  told = told;
}

pub fails_in : (may : Bool) (allowed : Allowed) (w : World) → DoesIn may allowed (Err Failed) w w
fails_in may allowed w = (tt, left_by may allowed w w refl)

pub no_fault_noted : (fault : Bool) (C : Type 0) → (IsTrue fault ↔ C) → (C → ⊥) → fault ≡ false
no_fault_noted true C h n = absurd (n (h.0 refl))
no_fault_noted false C h n = refl

-- when a call fails that has a schedule
pub follows_or : {T : Type 0} (spent : Bool) (old new : MemDisk) (result : Result T DiskError) (m : ℕ) (next fault : Bool)
    → m ≡ old.faults.met → next ≡ false → (IsTrue next ↔ Contains (fails_at old) (one_more old.faults.asked)) → (IsTrue fault ↔ IsErrOf result Failed)
    → (IsErrOf result Failed → spent ≡ true) → (spent ≡ true → IsErrOf result Failed)
    → (fault ≡ true → new.faults.met ≡ one_more m) → (fault ≡ false → new.faults.met ≡ m) → fails_at new ≡ fails_at old → OnErr result (mem_world new ≡ mem_world old) → FollowsOr spent old result new
follows_or spent old new result m next fault same quiet listed fails to_spent from_spent once still stays leaves = record {
  fails = (λ f. inr (to_spent f), either);
  once = λ f. once (fails.1 f) ∙ ap one_more same;
  quiet = λ n. still (no_fault_noted fault (IsErrOf result Failed) fails n) ∙ same;
  stays = stays;
  leaves = leaves;
}
  where
    either : Contains (fails_at old) (one_more old.faults.asked) ⊎ (spent ≡ true) → IsErrOf result Failed
    either (inl l) = absurd (not_scheduled next quiet listed l)
    either (inr s) = from_spent s

-- and of one that has none
pub fails_only : {T : Type 0} (spent : Bool) (old new : SureDisk) (result : Result T DiskError) (fault : Bool) → (IsTrue fault ↔ IsErrOf result Failed)
    → (IsErrOf result Failed → spent ≡ true) → (spent ≡ true → IsErrOf result Failed)
    → (fault ≡ true → new.met ≡ one_more old.met) → (fault ≡ false → new.met ≡ old.met) → FailsOnly spent old result new
fails_only spent old new result fault fails to_spent from_spent once still = record {
  fails = (to_spent, from_spent);
  once = λ f. once (fails.1 f);
  quiet = λ n. still (no_fault_noted fault (IsErrOf result Failed) fails n);
}

-- a call that is refused leaves the world
pub makes_leaves : (allowed : Allowed) (k n : Known) (result : Result Unit DiskError) → MakesAt allowed k result n → OnErr result (n.world ≡ k.world)
makes_leaves allowed k n (Ok x) m = tt
makes_leaves allowed k n (Err NotFound) (same, why) = ap (λ (n : Known). n.world) same
makes_leaves allowed k n (Err Exists) (same, why) = ap (λ (n : Known). n.world) same
makes_leaves allowed k n (Err NotDir) (same, why) = ap (λ (n : Known). n.world) same
makes_leaves allowed k n (Err IsDir) (same, why) = ap (λ (n : Known). n.world) same
makes_leaves allowed k n (Err NotEmpty) (same, why) = ap (λ (n : Known). n.world) same
makes_leaves allowed k n (Err Failed) (same, why) = ap (λ (n : Known). n.world) same
makes_leaves allowed k n (Err NoMemory) (same, why) = ap (λ (n : Known). n.world) same

-- a call that says this of what it does, and changes nothing where it is refused with a fault
pub unless_fault : {T : Type 0} (result : Result T DiskError) (k n : Known) (said : Type 0) → said → (IsErrOf result Failed → n ≡ k) → UnlessFault result k n said
unless_fault (Ok x) k n said it same = it
unless_fault (Err Failed) k n said it same = same refl
unless_fault (Err NotFound) k n said it same = it
unless_fault (Err Exists) k n said it same = it
unless_fault (Err NotDir) k n said it same = it
unless_fault (Err IsDir) k n said it same = it
unless_fault (Err NotEmpty) k n said it same = it
unless_fault (Err NoMemory) k n said it same = it

makes_same : (allowed : Allowed) (k n : Known) (result : Result Unit DiskError) → MakesAt allowed k result n → IsErrOf result Failed → n ≡ k
makes_same allowed k n (Ok x) m f = cc
makes_same allowed k n (Err Failed) m f = m.0
makes_same allowed k n (Err NotFound) m f = cc
makes_same allowed k n (Err Exists) m f = cc
makes_same allowed k n (Err NotDir) m f = cc
makes_same allowed k n (Err IsDir) m f = cc
makes_same allowed k n (Err NotEmpty) m f = cc
makes_same allowed k n (Err NoMemory) m f = cc

-- what a call on paths makes
pub makes_unless : (allowed : Allowed) (k n : Known) (result : Result Unit DiskError) → MakesAt allowed k result n → UnlessFault result k n (MakesAt allowed k result n)
makes_unless allowed k n result m = unless_fault result k n (MakesAt allowed k result n) m (makes_same allowed k n result m)
