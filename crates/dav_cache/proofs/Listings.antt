-- Whatever is done to the entries, a number belongs to one listing.
use Rattle.std.proofs.Common.{◌≡◌, ℕ, zero, suc, ◌<◌, ◌≤◌, ◌+◌, ◌-◌, Bool, true, false, List, [], ◌∷◌, length, take, None, refl, sym, subst, arith}
use Rattle.std.specs.List.{AllByRecursion}
use Rattle.dav_memory.specs.Trees.{Name}
use Rattle.dav_memory.specs.declared.key.DuEntry.{DuEntry}
use Rattle.dav_memory.specs.declared.key.DuKey.{DuKey}
use Rattle.dav_memory.specs.Entries.{Dots, Listed, AllBelow, without, put, dir_key, name_key, same_key, put_name, put_dir, put_names, some_put, sealed, is_rising}
use Rattle.dav_cache.specs.Listings.{AreKept, AreOfOne, OneListingEach}
use Rattle.dav_cache.proofs.DotLists.{counted-cut, counted-drop, counted-seal, sealed-short, sealed-all}

all_taken : (P : (DuKey × DuEntry) → Type 0) (n : ℕ) (es : Dots) → AllByRecursion P es → AllByRecursion P (take n es)
all_taken P zero es all = tt
all_taken P (suc n) [] all = tt
all_taken P (suc n) (e ∷ es) all = (all.0, all_taken P n es all.1)

all_left : (P : (DuKey × DuEntry) → Type 0) (test : DuKey → Bool) (es : Dots) → AllByRecursion P es → AllByRecursion P (without test es)
all_left P test [] all = tt
all_left P test (e ∷ es) all = (elim (test e.0) as (λ y. test e.0 ≡ y → AllByRecursion P (without test (e ∷ es))) [
  | true ↦ λ t. rw t (all_left P test es all.1)
  | false ↦ λ t. rw t (all.0, all_left P test es all.1)
]) refl

each_taken : (n : ℕ) (es : Dots) → OneListingEach es → OneListingEach (take n es)
each_taken zero es each = tt
each_taken (suc n) [] each = tt
each_taken (suc n) (e ∷ es) each = (all_taken (AreOfOne e) n es each.0, each_taken n es each.1)

each_left : (test : DuKey → Bool) (es : Dots) → OneListingEach es → OneListingEach (without test es)
each_left test [] each = tt
each_left test (e ∷ es) each = (elim (test e.0) as (λ y. test e.0 ≡ y → OneListingEach (without test (e ∷ es))) [
  | true ↦ λ t. rw t (each_left test es each.1)
  | false ↦ λ t. rw t (all_left (AreOfOne e) test es each.0, each_left test es each.1)
]) refl

-- an entry of the listing, whatever its key in the directory and its count
module _ (l : Listed) where
  abbrev IsOfIt : (DuKey × DuEntry) → Type 0
  IsOfIt e = l.number ≡ e.1.number → (l.dir ≡ e.0.dir) × (l.time ≡ e.1.time) × (l.moment ≡ e.1.moment)

  -- while it is put: the entries with its number are its own
  record Putting (es : Dots) : Type 0 where
    own : AllByRecursion IsOfIt es
    each : OneListingEach es

  fresh : (es : Dots) → AllBelow l.number es → AllByRecursion IsOfIt es
  fresh [] below = tt
  fresh (e ∷ es) below = (λ h. let lt : e.1.number < l.number = below.0 in absurd (omega arith), fresh es below.1)

  named_on : (size : ℕ) (name : Name) (es : Dots) → Putting es → Putting (put_name size l name es)
  named_on size name es so =
      let test = same_key (name_key l.dir name) in
      let mine = all_taken IsOfIt (size - 1) (without test es) (all_left IsOfIt test es so.own) in
      record { own = (λ h. (refl, refl, refl), mine); each = (mine, each_taken (size - 1) (without test es) (each_left test es so.each)) }

  begun : (size count : ℕ) (es : Dots) → Putting es → Putting (put_dir size l count es)
  begun size count es so =
      let test = same_key (dir_key l.dir) in
      let mine = all_taken IsOfIt (size - 1) (without test es) (all_left IsOfIt test es so.own) in
      record { own = (λ h. (refl, refl, refl), mine); each = (mine, each_taken (size - 1) (without test es) (each_left test es so.each)) }

  all_named : (size : ℕ) (names : List Name) (es : Dots) → Putting es → Putting (put_names size l names es)
  all_named size [] es so = so
  all_named size (name ∷ names) es so = all_named size names (put_name size l name es) (named_on size name es so)

  some_on : (size : ℕ) (names : List Name) (n : ℕ) (es : Dots) → AllBelow l.number es → OneListingEach es → OneListingEach (some_put size l names n es)
  some_on size names zero es below each = each
  some_on size names (suc n) es below each =
      Putting.each (all_named size (take n names) (put_dir size l (length names) es)
      (begun size (length names) es (record { own = fresh es below; each = each })))

-- ---- what every cache keeps

pub kept-cut : (next n : ℕ) (es : Dots) → AreKept next es → AreKept next (take n es)
kept-cut next n es all = record { counted = counted-cut next n es all.counted; listings = each_taken n es all.listings }

pub kept-drop : (next : ℕ) (key : DuKey) (es : Dots) → key.name ≡ None → AreKept next es → AreKept next (without (same_key key) es)
kept-drop next key es h all = record {
  counted = counted-drop next key es h all.counted;
  listings = each_left (same_key key) es all.listings;
}

-- where a put was not made, and the directory's entry is out
pub kept-short : (size : ℕ) (l : Listed) (names : List Name) (n : ℕ) (es : Dots) → n ≤ length names → is_rising None names ≡ true
    → AreKept l.number es → AreKept (l.number + 1) (without (same_key (dir_key l.dir)) (some_put size l names n es))
kept-short size l names n es short rise all = record {
  counted = rw (sealed-short size l names n es short) (counted-seal size l names n es rise all.counted);
  listings = each_left (same_key (dir_key l.dir)) (some_put size l names n es) (some_on l size names n es all.counted.below all.listings);
}

-- where all were made
pub kept-all : (size : ℕ) (l : Listed) (names : List Name) (n : ℕ) (es : Dots) → n ≡ length names + 1 → is_rising None names ≡ true
    → AreKept l.number es → AreKept (l.number + 1) (some_put size l names n es)
kept-all size l names n es whole rise all = record {
  counted = rw (sealed-all size l names n es whole) (counted-seal size l names n es rise all.counted);
  listings = some_on l size names n es all.counted.below all.listings;
}
