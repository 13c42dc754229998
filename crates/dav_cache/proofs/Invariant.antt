-- What each event keeps.
use Rattle.std.proofs.Common.{◌≡◌, ◌≢◌, ℕ, ◌<◌, ◌≤◌, true, not, ◌&&◌, ◌||◌, List, Option, Some, None, refl, ap, ◌∙◌, arith, inl, inr, ◌⊎◌, IsTrue, Contains, slice_get}
use Rattle.std.specs.Map.{lookup}
use Rattle.std.specs.List.{list_any}
use Rattle.dav_memory.specs.Trees.{Name, Names, FileTime, Tree, same_name, is_dot, is_after, has_name, time_of}
use Rattle.dav_memory.specs.Entries.{dir_key, same_key}
use Rattle.dav_memory.specs.declared.key.DuEntry.{DuEntry}
use Rattle.dav_cache.specs.Core.{State, Place, Listing, settled}
use Rattle.dav_cache.specs.declared.place.Place.TheVariants.{Idle, Asked, Peeked, Passed, Failed, Begun, Lists, Ended, Finding, Got, Missed}
use Rattle.dav_cache.specs.Transparency.{SoundAt, SameNames, IsListing}
use Rattle.dav_memory.proofs.Keys.{time_tells}
use Rattle.dav_cache.proofs.Dots.{AllBelow, Falling}
use Rattle.dav_cache.proofs.Order.{HasUpTo}

-- ---- the invariant

-- what a caller that has seen the directory's entry holds: a number that was given, to one directory and one time
pub record Holds (s : State) (dir : Names) (number : ℕ) (time : FileTime) : Type 0 where
  pub given : number < s.next
  pub one : (d : Names) (e : DuEntry) → lookup (same_key (dir_key d)) s.dots ≡ Some e → e.number ≡ number → (d ≡ dir) × (e.time ≡ time)

-- `Away caller dir time`: the directory left the time, and does not get it back while the caller's listing goes on
module _ (trees : List Tree) where
  -- the names that a listing may be sealed with are those of the directory, in each tree that has it with this time
  abbrev pub AreNamesOf : Listing → FileTime → Type 0
  AreNamesOf l time = (tree : Tree) → Contains trees tree → time_of tree l.dir ≡ Some time → (x : Name) → IsTrue (is_dot x) → has_name tree l.dir x ≡ list_any (same_name x) l.names

  abbrev pub PlaceOk : (ℕ → Names → FileTime → Type 0) → State → ℕ → Place → Type 0
  PlaceOk Away s c Idle = Unit {0}
  PlaceOk Away s c (Asked dir name) = Unit {0}
  PlaceOk Away s c (Peeked dir name number time) = Holds s dir number time
  PlaceOk Away s c (Passed dir name number time) = Holds s dir number time
  PlaceOk Away s c (Failed dir) = Unit {0}
  PlaceOk Away s c (Begun dir) = Unit {0}
  PlaceOk Away s c (Lists l) =
      l.whole ≡ true → (time : FileTime) → l.before ≡ Some time → ((time_of s.tree l.dir ≡ Some time) × HasUpTo l s.tree) ⊎ Away c l.dir time
  PlaceOk Away s c (Ended l after) = (time : FileTime) → settled l after ≡ Some time → AreNamesOf l time
  PlaceOk Away s c (Finding path) = Unit {0}
  PlaceOk Away s c (Got asked path) = Unit {0}
  PlaceOk Away s c (Missed asked) = Unit {0}

  -- what holds of the tree and the entries
  pub record Data (s : State) : Type 0 where
    pub known : Contains trees s.tree
    pub falling : Falling s.dots
    pub below : AllBelow s.next s.dots
    pub sound : (d : Names) → SoundAt trees s.dots d

  pub record Inv (Away : ℕ → Names → FileTime → Type 0) (s : State) : Type 0 where
    pub entries : Data s
    pub places : (c : ℕ) (p : Place) → slice_get s.places c ≡ Some p → PlaceOk Away s c p

-- numbers grow, and a directory's entry was there or has a new number
pub record Keeps (s s' : State) : Type 0 where
  pub more : s.next ≤ s'.next
  pub came : (d : Names) (e : DuEntry) → lookup (same_key (dir_key d)) s'.dots ≡ Some e
      → (lookup (same_key (dir_key d)) s.dots ≡ Some e) ⊎ (s.next ≤ e.number)

-- how what is said of the events to come passes from a state to the next
pub record Passing (A A' : ℕ → Names → FileTime → Type 0) (s s' : State) : Type 0 where
  pub gone : (c : ℕ) (d : Names) (t : FileTime) → A c d t → time_of s.tree d ≢ Some t
  pub carries : (c : ℕ) (d : Names) (t : FileTime) → A c d t → IsListing s' c d → A' c d t
  pub leaves : (c : ℕ) (d : Names) (t : FileTime) → IsListing s c d → IsListing s' c d → time_of s.tree d ≡ Some t → time_of s'.tree d ≢ Some t
      → A' c d t

pub time_is : (o : Option FileTime) (t : FileTime) → (o ≡ Some t) ⊎ (o ≢ Some t)
time_is None t = inr (λ h. cc)
time_is (Some u) t = elim (time_tells u t) [ inl is ↦ inl (ap Some is.1) | inr is ↦ inr (λ h. is.1 cc) ]

pub holds_on : (s s' : State) (dir : Names) (number : ℕ) (time : FileTime) → Keeps s s' → Holds s dir number time → Holds s' dir number time
holds_on s s' dir number time keeps h = record {
  given = let l = keeps.more in let g = h.given in omega arith;
  one = λ d e here same. elim (keeps.came d e here) [
    | inl was ↦ h.one d e was same
    | inr new ↦ let g = h.given in absurd (omega arith)
  ];
}

module _ (trees : List Tree) (same : SameNames trees) (A A' : ℕ → Names → FileTime → Type 0) where
  pub kept_place : (s s' : State) → Contains trees s.tree → Contains trees s'.tree → Keeps s s' → Passing A A' s s' → (c : ℕ) (p : Place)
      → slice_get s.places c ≡ Some p → slice_get s'.places c ≡ Some p → PlaceOk trees A s c p → PlaceOk trees A' s' c p
  kept_place s s' known known' keeps pass c Idle h h' ok = tt
  kept_place s s' known known' keeps pass c (Asked dir name) h h' ok = tt
  kept_place s s' known known' keeps pass c (Peeked dir name number time) h h' ok = holds_on s s' dir number time keeps ok
  kept_place s s' known known' keeps pass c (Passed dir name number time) h h' ok = holds_on s s' dir number time keeps ok
  kept_place s s' known known' keeps pass c (Failed dir) h h' ok = tt
  kept_place s s' known known' keeps pass c (Begun dir) h h' ok = tt
  kept_place s s' known known' keeps pass c (Lists l) h h' ok = λ whole time before. elim (ok whole time before) [
    | inl going ↦ elim (time_is (time_of s'.tree l.dir) time) [
      | inl still ↦ inl (still, λ x dot. going.1 x dot ∙ ap (λ b. b && (l.ended || not (is_after l.last x))) (same s.tree s'.tree known known' l.dir time going.0 still x))
      | inr left ↦ inr (pass.leaves c l.dir time (l, h, refl) (l, h', refl) going.0 left)
    ]
    | inr away ↦ inr (pass.carries c l.dir time away (l, h', refl))
  ]
  kept_place s s' known known' keeps pass c (Ended l after) h h' ok = ok
  kept_place s s' known known' keeps pass c (Finding path) h h' ok = tt
  kept_place s s' known known' keeps pass c (Got asked path) h h' ok = tt
  kept_place s s' known known' keeps pass c (Missed asked) h h' ok = tt

  -- an event keeps the invariant, if the entries are in order after it and each new place is
  pub next : (s s' : State) → Inv trees A s → Passing A A' s s' → Data trees s' → Keeps s s'
      → ((c : ℕ) (p : Place) → slice_get s'.places c ≡ Some p → (slice_get s.places c ≡ Some p) ⊎ PlaceOk trees A' s' c p) → Inv trees A' s'
  next s s' inv pass data_ keeps moved = record {
    entries = data_;
    places = λ c p h. elim (moved c p h) [
      | inl was ↦ kept_place s s' inv.entries.known data_.known keeps pass c p was h (inv.places c p was)
      | inr ok ↦ ok
    ];
  }
