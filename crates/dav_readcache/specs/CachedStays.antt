-- What others do leaves the number and the place of an open file whose content may be held.
use Rattle.std.specs.Prelude.{◌≡◌, ℕ, None, Some, Option, refl}
use Rattle.std.proofs.Common.{sym, ap, subst, ◌∙◌}
use Rattle.std.specs.Prelude.{cond, Bool, true, false}
use Rattle.dav_core.specs.Disk.{DiskState, Live}
use Rattle.dav_store.specs.FileView.{FileView, SameFiles}
use Rattle.dav_store.specs.Files.{LeavesOpen, SameSeen}
use Rattle.dav_store.specs.Standing.{Seen, Standing}
use Rattle.dav_readcache.specs.declared.cached.Content.{Content}
use Rattle.dav_readcache.specs.declared.cached.Reading.{Reading}
use Rattle.dav_readcache.specs.declared.cached.CachedFile.{CachedFile}
use Rattle.dav_readcache.specs.Cached.{IsAtKnown, IsShut, cached_file, is_of, place_of, reads_by, seen_by, seen_reading, shown}

same_when : (on : Bool) (c : Content) (there : Standing) → (cond on (record there { bytes = c.bytes }) there).number ≡ there.number
same_when true c there = refl
same_when false c there = refl

same_number : (content : Option Content) (there : Standing) → (shown content there).number ≡ there.number
same_number None there = refl
same_number (Some c) there = same_when (is_of c there.kind there.tag) c there

place_on : (pending : Option ℕ) (p q : ℕ) → q ≡ p → place_of pending q ≡ place_of pending p
place_on None p q e = e
place_on (Some x) p q e = refl

stays_reading : (r : Option Reading) (a b : Option Seen) → SameSeen a b → SameSeen (seen_reading r a) (seen_reading r b)
stays_reading None a b same = same
stays_reading (Some r) None None same = tt
stays_reading (Some r) None (Some g) same = absurd same
stays_reading (Some r) (Some f) None same = absurd same
stays_reading (Some r) (Some f) (Some g) (number, place) =
    (same_number r.content g.stands ∙ (number ∙ sym (same_number r.content f.stands)), place_on r.pending f.place g.place place)

pub cached_stays : {F : Type 0} (view : FileView F) (f : CachedFile F) (s t : DiskState)
    → SameSeen (view.seen f.file s) (view.seen f.file t) → SameSeen (seen_by view f s) (seen_by view f t)
cached_stays view f s t same = stays_reading f.reading (view.seen f.file s) (view.seen f.file t) same

none_some : (g : Seen) → ◌≡◌ {A = Option Seen} None (Some g) → ⊥
none_some g e = cc

some_same : (f g : Seen) → ◌≡◌ {A = Option Seen} (Some f) (Some g) → f ≡ g
some_same f g e = cc

known_place : (at : ℕ) (a b : Option Seen) (g : Seen) → SameSeen a b → ((f : Seen) → a ≡ Some f → f.place ≡ at) → b ≡ Some g → g.place ≡ at
known_place at None None g same was e = (let never : ◌≡◌ {A = Option Seen} None (Some g) = e in absurd (none_some g never))
known_place at None (Some h) g same was e = absurd same
known_place at (Some f) None g same was e = absurd same
known_place at (Some f) (Some h) g (number, place) was e = ap (λ (x : Seen). x.place) (sym (some_same h g e)) ∙ (place ∙ was f refl)

known_on : (r : Option Reading) (a b : Option Seen) → SameSeen a b → IsAtKnown r a → IsAtKnown r b
known_on None a b same known = tt
known_on (Some r) a b same (has, known) = (has, λ at g is seen. known_place at a b g same (λ f. known at f is) seen)

shut_on : (r : Option Reading) (a b : Option Live) → b ≡ a → IsShut r a → IsShut r b
shut_on r a b e shut = subst (λ x. IsShut r x) (sym e) shut

pub cached_reads_on : {F : Type 0} (view : FileView F) (f : CachedFile F) (s t : DiskState)
    → LeavesOpen (view.handle f.file) s t → SameSeen (view.seen f.file s) (view.seen f.file t)
    → (view.reads_from f.file s → view.reads_from f.file t) → reads_by view f s → reads_by view f t
cached_reads_on view f s t leaves same on (reads, known, shut) = (
  on reads,
  known_on f.reading (view.seen f.file s) (view.seen f.file t) same known,
  shut_on f.reading (s.live (view.handle f.file)) (t.live (view.handle f.file)) leaves.live shut,
)

known_at : (r : Option Reading) (a b : Option Seen) → b ≡ a → IsAtKnown r a → IsAtKnown r b
known_at r a b e known = subst (λ x. IsAtKnown r x) (sym e) known

shut_at : (r : Option Reading) (s : DiskState) (h k : ℕ) → k ≡ h → IsShut r (s.live h) → IsShut r (s.live k)
shut_at r s h k e shut = subst (λ x. IsShut r (s.live x)) (sym e) shut

-- Of views that say the same the cached ones do.
pub cached_files : {F : Type 0} {one other : FileView F} → SameFiles one other
    → SameFiles (cached_file one) (cached_file other)
cached_files {one = one} {other = other} same = record {
  handle = λ f. same.handle f.file;
  seen = λ f s. ap (seen_reading f.reading) (same.seen f.file s);
  writes = λ f g s t bytes r wrote. (same.writes f.file g.file s t bytes r wrote.0, wrote.1);
  reads_from = λ f s reads. (
    same.reads_from f.file s reads.0,
    known_at f.reading (one.seen f.file s) (other.seen f.file s) (sym (same.seen f.file s)) reads.1,
    shut_at f.reading s (one.handle f.file) (other.handle f.file) (sym (same.handle f.file)) reads.2,
  );
  from_reads = λ f s reads. (
    same.from_reads f.file s reads.0,
    known_at f.reading (other.seen f.file s) (one.seen f.file s) (same.seen f.file s) reads.1,
    shut_at f.reading s (other.handle f.file) (one.handle f.file) (same.handle f.file) reads.2,
  );
  asks_once = λ o. o;
  becomes = λ f g b. (same.becomes f.file g.file b.0, b.1);
}
