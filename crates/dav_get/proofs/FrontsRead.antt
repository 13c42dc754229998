-- What a read of the front of a slice makes of an open file.
use Rattle.std.proofs.Common.{◌≡◌, ◌≤◌, ◌<◌, ◌+◌, ◌++◌, ℕ, min, List, [], ◌∷◌, length, take, drop, replicate, true, Bool, Some, Ok, ap, subst, ◌∙◌, arith}
use Rattle.std.proofs.lemmas.Grind.{common_steps}
use Rattle.std.proofs.lemmas.List.{take-append-le}
use Rattle.dav_io.proofs.ToldLemmas.{both_map, told_after, told_before}
use Rattle.dav_core.specs.Disk.{DiskState, can_read}
use Rattle.dav_model.specs.declared.ranges.Slice.{Slice}
use Rattle.dav_model.specs.Bodies.{PieceOf, zeros_size}
use Rattle.dav_store.specs.FileView.{FileView}
use Rattle.dav_store.specs.Files.{AsksOnce, FileReads, ReadsIn}
use Rattle.dav_store.specs.Standing.{Seen}
use Rattle.dav_get.specs.declared.open_at.OpenAt.{OpenAt}
use Rattle.dav_get.specs.OpenFiles.{IsAt, Fills}

-- bytes that were read are a piece
read_piece : (whole : Bool) (most count n : ℕ) (buf rest : List ℕ) → 0 < n → n ≤ length buf → length buf ≡ min count most → n ≤ length rest → take n buf ≡ take n rest
    → (whole ≡ true → n ≡ min (length buf) (length rest)) → PieceOf whole most rest count (take n buf)
read_piece whole most count n buf [] some within size few same all = absurd (omega arith)
read_piece whole most count n buf (b ∷ bytes) some within size few same all =
    let long : length (take n buf) ≡ n = grind (arith, common_steps) in
    (rw long some, rw long (rw size at within), rw long same, λ w. rw long (rw size at (all w)))

-- zeros are one where no byte stands
zeros_piece : (whole : Bool) (most count n : ℕ) (zeros rest : List ℕ) → rest ≡ [] → n ≡ min count zeros_size → zeros ≡ replicate n 0 → PieceOf whole most rest count zeros
zeros_piece whole most count n zeros rest none size are = rw none (rw size at are)

module _ {F : Type 0} (files : FileView F) where
  -- bytes came
  pub read_fills : (s t : DiskState) (h : OpenAt F) (file : F) (slice : Slice) (most n : ℕ) (buf back : List ℕ) → IsAt files s h → h.place ≡ slice.start → 0 < n
      → length buf ≡ min slice.count most → FileReads s (files.handle h.file) (files.seen h.file s) buf (Ok n) t (files.seen file t) → files.handle file ≡ files.handle h.file
      → (files.asks_once → AsksOnce s t) → files.reads_from file t → files.becomes h.file file
      → Fills files s h slice most (buf ++ back) (Some n) t (record { file = file; place = slice.start + n })
  read_fills s t h file slice most n buf back at here some size reads same asked from becomes =
      let within : n ≤ length buf = reads.within in
      let front : take n (buf ++ back) ≡ take n buf = take-append-le n buf back within in
      let long : length (take n (buf ++ back)) ≡ n = grind (arith, common_steps) in
      record {
        keeps = reads.keeps;
        same = same;
        live = reads.live;
        stands = both_map (files.seen h.file s) (files.seen file t) (ReadsIn s.whole buf (Ok n)) (λ f g. g.stands ≡ f.stands) (λ f g read. ap (λ (k : Seen). k.stands) read.4) reads.told;
        becomes = becomes;
        asks = λ once. record { here = λ e. asked once; there = λ ne. absurd (ne here) };
        answer = (
          grind (arith, common_steps),
          omega arith,
          some,
          record {
            some = rw long some;
            within = rw long (omega arith);
            told = λ f is.
                let (g, after, read) = told_after (files.seen h.file s) (files.seen file t) (ReadsIn s.whole buf (Ok n)) f reads.told is in
                rw front
                (subst (λ p. PieceOf s.whole most (drop p f.stands.bytes) slice.count (take n buf)) (at.place f is ∙ here)
                (read_piece s.whole most slice.count n buf (drop f.place f.stands.bytes) some within size read.0 read.1 read.3));
          },
          record {
            live = ap can_read (ap t.live same ∙ reads.live) ∙ at.live;
            reads = from;
            place = λ g is.
                let (f, before, read) = told_before (files.seen h.file s) (files.seen file t) (ReadsIn s.whole buf (Ok n)) g reads.told is in
                ap (λ (k : Seen). k.place) read.4 ∙ ap (λ p. p + n) (at.place f before ∙ here);
          },
        );
      }

  -- no byte came, and zeros stand in their place
  pub zeros_fill : (s t : DiskState) (h : OpenAt F) (file : F) (slice : Slice) (most n m : ℕ) (buf filled : List ℕ) → IsAt files s h → h.place ≡ slice.start → 0 < slice.count
      → m ≡ 0 → FileReads s (files.handle h.file) (files.seen h.file s) buf (Ok m) t (files.seen file t) → files.handle file ≡ files.handle h.file
      → (files.asks_once → AsksOnce s t) → files.reads_from file t → files.becomes h.file file → n ≡ min slice.count zeros_size → n ≤ length filled → take n filled ≡ replicate n 0
      → Fills files s h slice most filled (Some n) t (record { file = file; place = h.place })
  zeros_fill s t h file slice most n m buf filled at here some none reads same asked from becomes size fits front =
      let long : length (take n filled) ≡ n = grind (arith, common_steps) in
      let more : 0 < n = omega arith in
      record {
        keeps = reads.keeps;
        same = same;
        live = reads.live;
        stands = both_map (files.seen h.file s) (files.seen file t) (ReadsIn s.whole buf (Ok m)) (λ f g. g.stands ≡ f.stands) (λ f g read. ap (λ (k : Seen). k.stands) read.4) reads.told;
        becomes = becomes;
        asks = λ once. record { here = λ e. asked once; there = λ ne. absurd (ne here) };
        answer = (
          fits,
          omega arith,
          more,
          record {
            some = rw long more;
            within = rw long (omega arith);
            told = λ f is.
                let (g, after, read) = told_after (files.seen h.file s) (files.seen file t) (ReadsIn s.whole buf (Ok m)) f reads.told is in
                subst (λ p. PieceOf s.whole most (drop p f.stands.bytes) slice.count (take n filled)) (at.place f is ∙ here)
                (zeros_piece s.whole most slice.count n (take n filled) (drop f.place f.stands.bytes) (read.2 none) size front);
          },
          record {
            live = ap can_read (ap t.live same ∙ reads.live) ∙ at.live;
            reads = from;
            place = λ g is.
                let (f, before, read) = told_before (files.seen h.file s) (files.seen file t) (ReadsIn s.whole buf (Ok m)) g reads.told is in
                let moved : g.place ≡ f.place + m = ap (λ (k : Seen). k.place) read.4 in
                let stood : f.place ≡ h.place = at.place f before in
                omega arith;
          },
        );
      }
