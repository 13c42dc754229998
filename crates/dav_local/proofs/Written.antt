-- What is written to a file by writes of the disk is what a store's file promises.
use Rattle.std.proofs.Common.{◌≡◌, ◌≢◌, ◌<◌, ◌≤◌, ◌⊎◌, ℕ, List, [], ◌++◌, length, take, drop, Bool, true, false, Option, Result, Ok, Err, OnErr, refl, sym, ap, subst, ◌∙◌, inl, inr, arith}
use Rattle.std.proofs.lemmas.List.{take-append-drop, take-append-le, length-take-le}
use Rattle.bytes.specs.Unread.{IsChunkOf}
use Rattle.dav_io.specs.Told.{Both}
use Rattle.dav_io.proofs.ToldLemmas.{both_map, both_same, both_then}
use Rattle.dav_io.proofs.Rising.{rose_before}
use Rattle.dav_core.specs.declared.error.FsError.{FsError}
use Rattle.dav_core.specs.declared.handle.DiskError.{DiskError}
use Rattle.dav_core.specs.declared.handle.DiskError.TheVariants.{NotFound, Exists, NotDir, IsDir, NotEmpty, Failed, NoMemory}
use Rattle.dav_core.specs.Disk.{DiskState, Live}
use Rattle.dav_core.specs.Edits.{SameOpens}
use Rattle.dav_core.specs.Errors.{fs_error_of}
use Rattle.dav_core.specs.Path.{Names}
use Rattle.dav_core.specs.Unchanged.{SameBesidesFiles, SameListing, SameOpen}
use Rattle.dav_core.specs.World.{OpenFile, SameBesidesOpens, World}
use Rattle.dav_core.specs.Writing.{Writes, WrittenIn, WroteIn, appends, can_write}
use Rattle.dav_core.proofs.FilesLemmas.{files_same, files_then, write_leaves}
use Rattle.dav_core.proofs.UnchangedLemmas.{put_other, same_listing_then, same_open_then}
use Rattle.dav_store.specs.Files.{FileWrites, IsWritten, Spoiled, WritesIn, write_place}
use Rattle.dav_store.specs.Frames.{KeepsOpenBut}
use Rattle.dav_store.specs.Standing.{Seen}
use Rattle.dav_local.specs.Standing.{seen_at}
use Rattle.dav_local.specs.Writing.{WritesAll}
use Rattle.dav_local.specs.Writing.WritesAll.{nothing, refused, more}
use Rattle.dav_local.proofs.WrittenFiles.{PartWritten, refused_told, shut_told, then_writes, wrote_told}

-- ---- what is kept

-- A write leaves the listings, and what other handles have open.
record Leaves (h : ℕ) (v w : World) : Type 0 where
  listings : w.listings ≡ v.listings
  opens : (k : ℕ) → k ≢ h → w.opens k ≡ v.opens k

leaves_same : (h : ℕ) (v w : World) → SameOpens v w → Leaves h v w
leaves_same h v w same = record { listings = same.listings; opens = λ k ne. ap (λ (f : ℕ → Option OpenFile). f k) same.opens }

leaves_wrote : (append : Bool) (h : ℕ) (from : List ℕ) (n : ℕ) (v w : World) → WroteIn append h from n v w → Leaves h v w
leaves_wrote append h from n v w (o, at, some, within, edited, opens, listings) = record {
  listings = listings;
  opens = λ k ne. ap (λ (f : ℕ → Option OpenFile). f k) opens ∙ put_other h k _ v.opens ne;
}

leaves_either : (l : Option Live) (h : ℕ) (from : List ℕ) (v w : World)
    → (SameBesidesOpens v w × SameOpens v w) ⊎ ((can_write l ≡ true) × (n : ℕ) × WroteIn (appends l) h from n v w) → Leaves h v w
leaves_either l h from v w (inl (same, opens)) = leaves_same h v w opens
leaves_either l h from v w (inr (can, n, wrote)) = leaves_wrote (appends l) h from n v w wrote

leaves : (l : Option Live) (h : ℕ) (from : List ℕ) (answer : Result ℕ DiskError) (v w : World) → WrittenIn l h from answer v w → Leaves h v w
leaves l h from (Ok n) v w (can, wrote) = leaves_wrote (appends l) h from n v w wrote
leaves l h from (Err IsDir) v w (can, same, opens) = leaves_same h v w opens
leaves l h from (Err NotFound) v w left = leaves_either l h from v w left
leaves l h from (Err Exists) v w left = leaves_either l h from v w left
leaves l h from (Err NotDir) v w left = leaves_either l h from v w left
leaves l h from (Err NotEmpty) v w left = leaves_either l h from v w left
leaves l h from (Err Failed) v w left = leaves_either l h from v w left
leaves l h from (Err NoMemory) v w left = leaves_either l h from v w left

leaves_told : (h : ℕ) (from : List ℕ) (answer : Result ℕ DiskError) (s t : DiskState) → Writes s h from answer t → Both s.told t.told (Leaves h)
leaves_told h from answer s t writes = both_map s.told t.told (WrittenIn (s.live h) h from answer) (Leaves h) (λ v w done. leaves (s.live h) h from answer v w done) writes.told

leaves_listing : (h n : ℕ) (v w : World) → Leaves h v w → SameListing n v w
leaves_listing h n v w left = ap (λ (f : ℕ → Option Names). f n) left.listings

leaves_open : (h k : ℕ) → k ≢ h → (v w : World) → Leaves h v w → SameOpen k v w
leaves_open h k ne v w left = left.opens k ne

write_keeps : (h : ℕ) (from : List ℕ) (answer : Result ℕ DiskError) (s t : DiskState) → Writes s h from answer t → KeepsOpenBut h s t
write_keeps h from answer s t writes =
    let told = leaves_told h from answer s t writes in
    record {
      counts = writes.asks.counts;
      asked = writes.asks.more;
      whole = writes.asks.whole;
      listers = writes.asks.listers;
      listings = λ n k e. both_map s.told t.told (Leaves h) (SameListing n) (leaves_listing h n) told;
      live = λ k ne. ap (λ (f : ℕ → Option Live). f k) writes.live;
      opens = λ k l ne e. both_map s.told t.told (Leaves h) (SameOpen k) (leaves_open h k ne) told;
    }

keeps_same : (h : ℕ) (s : DiskState) → KeepsOpenBut h s s
keeps_same h s = record {
  counts = omega arith;
  asked = omega arith;
  whole = λ w. w;
  listers = refl;
  listings = λ n k e. both_same s.told s.told (SameListing n) (λ w. refl) refl;
  live = λ k ne. refl;
  opens = λ k l ne e. both_same s.told s.told (SameOpen k) (λ w. refl) refl;
}

keeps_then : (h : ℕ) (s m t : DiskState) → KeepsOpenBut h s m → KeepsOpenBut h m t → KeepsOpenBut h s t
keeps_then h s m t p q = record {
  counts = omega (arith, p.counts, q.counts);
  asked = omega (arith, p.asked, q.asked);
  whole = λ w. q.whole (p.whole w);
  listers = q.listers ∙ p.listers;
  listings = λ n k e. both_then _ _ _ (SameListing n) (SameListing n) (SameListing n) (same_listing_then n) (p.listings n k e) (q.listings n k (ap (λ (f : ℕ → Option ℕ). f n) p.listers ∙ e));
  live = λ k ne. q.live k ne ∙ p.live k ne;
  opens = λ k l ne e. both_then _ _ _ (SameOpen k) (SameOpen k) (SameOpen k) (same_open_then k) (p.opens k l ne e) (q.opens k l ne (p.live k ne ∙ e));
}

all_keep : (h : ℕ) (s : DiskState) (from : List ℕ) (result : Result Unit FsError) (t : DiskState) → WritesAll h s from result t → KeepsOpenBut h s t
all_keep h s from result t (nothing a) = keeps_same h a
all_keep h s from result t (refused a b xs piece e chunk some writes) = write_keeps h piece (Err e) a b writes
all_keep h s from result t (more a m b xs piece n r chunk writes rest) =
    keeps_then h a m b (write_keeps h piece (Ok n) a m writes) (all_keep h m (drop n xs) r b rest)

all_leave : (h : ℕ) (s : DiskState) (from : List ℕ) (result : Result Unit FsError) (t : DiskState) → WritesAll h s from result t → Both s.told t.told SameBesidesFiles
all_leave h s from result t (nothing a) = both_same a.told a.told SameBesidesFiles files_same refl
all_leave h s from result t (refused a b xs piece e chunk some writes) = write_leaves h piece (Err e) a b writes
all_leave h s from result t (more a m b xs piece n r chunk writes rest) =
    both_then a.told m.told b.told SameBesidesFiles SameBesidesFiles SameBesidesFiles files_then (write_leaves h piece (Ok n) a m writes) (all_leave h m (drop n xs) r b rest)

all_live : (h : ℕ) (s : DiskState) (from : List ℕ) (result : Result Unit FsError) (t : DiskState) → WritesAll h s from result t → t.live h ≡ s.live h
all_live h s from result t (nothing a) = refl
all_live h s from result t (refused a b xs piece e chunk some writes) = ap (λ (f : ℕ → Option Live). f h) writes.live
all_live h s from result t (more a m b xs piece n r chunk writes rest) =
    all_live h m (drop n xs) r b rest ∙ ap (λ (f : ℕ → Option Live). f h) writes.live

-- ---- what it is refused for

spoiled_by : (h : ℕ) (piece : List ℕ) (answer : Result ℕ DiskError) (e : DiskError) (s t : DiskState) → answer ≡ Err e → Writes s h piece answer t
    → (answer ≡ Err Failed) ⊎ (answer ≡ Err NoMemory) → Spoiled {T = Unit {0}} s (Err (fs_error_of e)) t
spoiled_by h piece answer e s t is writes (inl failed) = let same : e ≡ Failed = cc in inl (ap (λ d. Err (fs_error_of d)) same, writes.asks.rose failed)
spoiled_by h piece answer e s t is writes (inr wanted) = let same : e ≡ NoMemory = cc in inr (ap (λ d. Err (fs_error_of d)) same)

spoiled_later : (s m t : DiskState) (result : Result Unit FsError) → s.faults ≤ m.faults → OnErr result (Spoiled m result t) → OnErr result (Spoiled s result t)
spoiled_later s m t (Ok x) lt spoiled = tt
spoiled_later s m t (Err e) lt (inl (is, rose)) = inl (is, rose_before s.faults m.faults t.faults lt rose)
spoiled_later s m t (Err e) lt (inr is) = inr is

all_refused : (h : ℕ) (s : DiskState) (from : List ℕ) (result : Result Unit FsError) (t : DiskState) → WritesAll h s from result t → can_write (s.live h) ≡ true
    → OnErr result (Spoiled s result t)
all_refused h s from result t (nothing a) can = tt
all_refused h s from result t (refused a b xs piece e chunk some writes) can = spoiled_by h piece (Err e) e a b refl writes (writes.refused can)
all_refused h s from result t (more a m b xs piece n r chunk writes rest) can =
    spoiled_later a m b r writes.asks.counts
    (all_refused h m (drop n xs) r b rest (ap can_write (ap (λ (f : ℕ → Option Live). f h) writes.live) ∙ can))

-- ---- what it shows

-- a front of a piece is a front of the bytes that it is a front of
pub front_of : (n : ℕ) (piece from : List ℕ) → IsChunkOf piece from → n ≤ length piece → take n piece ≡ take n from
front_of n piece from chunk within =
    let rest = drop (length piece) from in
    sym (take-append-le n piece rest within)
    ∙ ap (λ x. take n (x ++ rest)) (sym chunk.front)
    ∙ ap (take n) (take-append-drop (length piece) from)

part_of : (l : Option Live) (piece from : List ℕ) (e : FsError) → IsChunkOf piece from → (f g : Seen) → PartWritten l piece f g → WritesIn l from (Err e) f g
part_of l piece from e chunk f g (inl same) = inl same
part_of l piece from e chunk f g (inr (n, some, within, is)) =
    inr (n, some, omega (arith, within, chunk.fits), subst (λ (x : List ℕ). IsWritten (write_place l f) x f g) (front_of n piece from chunk within) is)

on_from : (l m : Option Live) (from piece : List ℕ) (n : ℕ) (result : Result Unit FsError) → m ≡ l → IsChunkOf piece from → 0 < n → n ≤ length piece → (f g k : Seen)
    → IsWritten (write_place l f) (take n piece) f g → WritesIn m (drop n from) result g k → WritesIn l from result f k
on_from l m from piece n result same chunk some within f g k first second =
    let front = front_of n piece from chunk within in
    let long : length (take n from) ≡ n = length-take-le n from (omega (arith, within, chunk.fits)) in
    subst (λ (x : List ℕ). WritesIn l x result f k) (take-append-drop n from)
    (then_writes l (take n from) (drop n from) result f g k (omega (arith, long, some))
    (subst (λ (x : List ℕ). IsWritten (write_place l f) x f g) front first)
    (subst (λ (x : Option Live). WritesIn x (drop n from) result g k) same second))

all_told : (h : ℕ) (s : DiskState) (from : List ℕ) (result : Result Unit FsError) (t : DiskState) → WritesAll h s from result t
    → Both (seen_at s h) (seen_at t h) (WritesIn (s.live h) from result)
all_told h s from result t (nothing a) = both_same (seen_at a h) (seen_at a h) (WritesIn (a.live h) [] (Ok tt)) (λ f. (λ e. refl, λ lt. absurd (omega arith))) refl
all_told h s from result t (refused a b xs piece e chunk some writes) =
    both_map (seen_at a h) (seen_at b h) (PartWritten (a.live h) piece) (WritesIn (a.live h) xs (Err (fs_error_of e))) (part_of (a.live h) piece xs (fs_error_of e) chunk)
    (refused_told a.told b.told (a.live h) (b.live h) h piece e (ap (λ (f : ℕ → Option Live). f h) writes.live) writes.told)
all_told h s from result t (more a m b xs piece n r chunk writes rest) =
    let same = ap (λ (f : ℕ → Option Live). f h) writes.live in
    both_then (seen_at a h) (seen_at m h) (seen_at b h) (λ f g. IsWritten (write_place (a.live h) f) (take n piece) f g) (WritesIn (m.live h) (drop n xs) r)
    (WritesIn (a.live h) xs r) (on_from (a.live h) (m.live h) xs piece n r same chunk writes.within.0 writes.within.1)
    (wrote_told a.told m.told (a.live h) (m.live h) h piece n same writes.told)
    (all_told h m (drop n xs) r b rest)

all_shut : (h : ℕ) (s : DiskState) (from : List ℕ) (result : Result Unit FsError) (t : DiskState) → WritesAll h s from result t → can_write (s.live h) ≡ false
    → seen_at t h ≡ seen_at s h
all_shut h s from result t (nothing a) shut = refl
all_shut h s from result t (refused a b xs piece e chunk some writes) shut =
    shut_told a.told b.told (a.live h) (b.live h) h piece (Err e) (ap (λ (f : ℕ → Option Live). f h) writes.live) shut writes.told
all_shut h s from result t (more a m b xs piece n r chunk writes rest) shut =
    let same = ap (λ (f : ℕ → Option Live). f h) writes.live in
    all_shut h m (drop n xs) r b rest (ap can_write same ∙ shut)
    ∙ shut_told a.told m.told (a.live h) (m.live h) h piece (Ok n) same shut writes.told

-- A file that is written so keeps what a store's file promises.
pub all_written : (h : ℕ) (s : DiskState) (from : List ℕ) (result : Result Unit FsError) (t : DiskState) → WritesAll h s from result t
    → FileWrites s h (seen_at s h) from result t (seen_at t h)
all_written h s from result t all = record {
  keeps = all_keep h s from result t all;
  live = all_live h s from result t all;
  world = all_leave h s from result t all;
  refused = all_refused h s from result t all;
  shut = all_shut h s from result t all;
  told = all_told h s from result t all;
}
