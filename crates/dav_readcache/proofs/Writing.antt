-- A file that was opened for reading alone is left as it is where it is to be written.
use Rattle.std.specs.Prelude.{◌≡◌, ◌<◌, ◌&&◌, ◌||◌, ℕ, List, Bool, true, false, length, Option, None, Some, Result, Ok, Err, refl, if◌then◌else◌}
use Rattle.std.specs.Option.{option_map}
use Rattle.std.proofs.Common.{sym, ap, subst, ◌∙◌, inl, arith}
use Rattle.dav_io.specs.Told.{Both}
use Rattle.dav_core.specs.declared.error.FsError.{FsError}
use Rattle.dav_core.specs.declared.handle.OpenOptions.{OpenOptions}
use Rattle.dav_core.specs.Disk.{DiskState, Live}
use Rattle.dav_core.specs.Tree.{is_file}
use Rattle.dav_core.specs.Writing.{can_write, reading}
use Rattle.dav_store.specs.Files.{FileWrites, IsWritten, WritesIn, write_place}
use Rattle.dav_store.specs.FileView.{FileView}
use Rattle.dav_store.specs.Standing.{Seen}
use Rattle.dav_readcache.specs.declared.cached.CachedFile.{CachedFile}
use Rattle.dav_readcache.specs.declared.cached.Reading.{Reading}
use Rattle.dav_readcache.specs.Cached.{IsAtKnown, IsKnown, IsShut, reads_by, seen_as, seen_by, seen_reading}

and_no : (b : Bool) → (b && false) ≡ false
and_no true = refl
and_no false = refl

closed : (live : Option Live) → ((l : Live) → live ≡ Some l → l.how ≡ reading) → can_write live ≡ false
closed None shut = refl
closed (Some l) shut = ap (λ (how : OpenOptions). is_file l.kind && (how.write || how.append)) (shut l refl) ∙ and_no (is_file l.kind)

at_place : (live : Option Live) (f : Seen) → ((l : Live) → live ≡ Some l → l.how ≡ reading) → write_place live f ≡ f.place
at_place None f shut = refl
at_place (Some l) f shut = ap (λ (how : OpenOptions). if how.append then length f.stands.bytes else f.place) (shut l refl)

some_is : (f g : Seen) → ◌≡◌ {A = Option Seen} (Some g) (Some f) → g ≡ f
some_is f g e = cc

never_written : (live : Option Live) (from : List ℕ) (f g : Seen) → ((l : Live) → live ≡ Some l → l.how ≡ reading) → g ≡ f → 0 < length from → IsWritten (write_place live f) from f g → ⊥
never_written live from f g shut same some wrote =
    let here : g.place ≡ f.place = ap (λ (x : Seen). x.place) same in
    let there = at_place live f shut in
    omega (arith, here, there, some, wrote.placed)

writes_in : (q : Reading) (live : Option Live) (from : List ℕ) (result : Result Unit FsError) (f g : Seen) → ((l : Live) → live ≡ Some l → l.how ≡ reading) → g ≡ f → WritesIn live from result f g
    → WritesIn live from result (seen_as q f) (seen_as q g)
writes_in q live from (Ok x) f g shut same wrote = (λ none. ap (seen_as q) same, λ some. absurd (never_written live from f g shut same some (wrote.1 some)))
writes_in q live from (Err e) f g shut same wrote = inl (ap (seen_as q) same)

writes_told : (q : Reading) (live : Option Live) (from : List ℕ) (result : Result Unit FsError) (seen after : Option Seen) → ((l : Live) → live ≡ Some l → l.how ≡ reading) → after ≡ seen
    → Both seen after (WritesIn live from result) → Both (option_map (seen_as q) seen) (option_map (seen_as q) after) (WritesIn live from result)
writes_told q live from result None None shut same told = tt
writes_told q live from result None (Some g) shut same told = absurd told
writes_told q live from result (Some f) None shut same told = absurd told
writes_told q live from result (Some f) (Some g) shut same told = writes_in q live from result f g shut (some_is f g same) told

writes_shown : (r : Option Reading) (h : ℕ) (s t : DiskState) (seen after : Option Seen) (from : List ℕ) (result : Result Unit FsError) → IsShut r (s.live h)
    → FileWrites s h seen from result t after → FileWrites s h (seen_reading r seen) from result t (seen_reading r after)
writes_shown None h s t seen after from result shut wrote = wrote
writes_shown (Some q) h s t seen after from result shut wrote = record {
  keeps = wrote.keeps;
  live = wrote.live;
  world = wrote.world;
  refused = wrote.refused;
  shut = λ no. ap (option_map (seen_as q)) (wrote.shut no);
  told = writes_told q (s.live h) from result seen after shut (wrote.shut (closed (s.live h) shut)) wrote.told;
}

known_still : (r : Option Reading) (live : Option Live) (seen after : Option Seen) → IsShut r live → (can_write live ≡ false → after ≡ seen) → IsAtKnown r seen → IsAtKnown r after
known_still None live seen after shut same known = tt
known_still (Some q) live seen after shut same known = subst (λ x. IsKnown q x) (sym (same (closed live shut))) known

shut_still : (r : Option Reading) (live later : Option Live) → later ≡ live → IsShut r live → IsShut r later
shut_still r live later same shut = subst (λ x. IsShut r x) (sym same) shut

module _ {F : Type 0} (view : FileView F) where
  -- Written as the store's file is, a cached file is written.
  pub writes_by : (f g : CachedFile F) (s t : DiskState) (from : List ℕ) (result : Result Unit FsError) → g.reading ≡ f.reading → reads_by view f s
      → FileWrites s (view.handle f.file) (view.seen f.file s) from result t (view.seen g.file t)
      → FileWrites s (view.handle f.file) (seen_by view f s) from result t (seen_by view g t)
  writes_by f g s t from result same reads wrote =
      subst (λ r. FileWrites s (view.handle f.file) (seen_by view f s) from result t (seen_reading r (view.seen g.file t))) (sym same)
      (writes_shown f.reading (view.handle f.file) s t (view.seen f.file s) (view.seen g.file t) from result reads.2 wrote)

  -- And it may be moved, read and written again.
  pub reads_still : (f g : CachedFile F) (s t : DiskState) (from : List ℕ) (result : Result Unit FsError) → g.reading ≡ f.reading → view.handle g.file ≡ view.handle f.file → reads_by view f s
      → view.reads_from g.file t → FileWrites s (view.handle f.file) (view.seen f.file s) from result t (view.seen g.file t) → reads_by view g t
  reads_still f g s t from result same handle reads on wrote =
      let known = known_still f.reading (s.live (view.handle f.file)) (view.seen f.file s) (view.seen g.file t) reads.2 wrote.shut reads.1 in
      let shut = shut_still f.reading (s.live (view.handle f.file)) (t.live (view.handle g.file)) (ap t.live handle ∙ wrote.live) reads.2 in
      (on, subst (λ r. IsAtKnown r (view.seen g.file t)) (sym same) known, subst (λ r. IsShut r (t.live (view.handle g.file))) (sym same) shut)
