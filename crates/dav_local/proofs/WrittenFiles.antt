-- What a file that was written shows.
use Rattle.std.proofs.Common.{◌≡◌, ◌<◌, ◌≤◌, ◌+◌, ◌⊎◌, ℕ, List, [], ◌∷◌, ◌++◌, length, take, Bool, true, false, Option, None, Some, Result, Ok, Err, refl, sym, ap, subst, ◌∙◌, inl, inr, arith, append-nil, length-append, if◌then◌else◌}
use Rattle.std.proofs.Math.Seq.{take-append_seam, take-append-add}
use Rattle.std.proofs.lemmas.List.{length-take-le}
use Rattle.std.specs.Option.{option_map}
use Rattle.dav_io.specs.Told.{Both}
use Rattle.dav_io.proofs.ToldLemmas.{both_map}
use Rattle.dav_core.specs.declared.handle.DiskError.{DiskError}
use Rattle.dav_core.specs.declared.handle.DiskError.TheVariants.{NotFound, Exists, NotDir, IsDir, NotEmpty, Failed, NoMemory}
use Rattle.dav_core.specs.declared.error.FsError.{FsError}
use Rattle.dav_core.specs.declared.tree.Kind.{Kind}
use Rattle.dav_core.specs.Disk.{Live}
use Rattle.dav_core.specs.Edits.{Edited, SameOpens, fills}
use Rattle.dav_core.specs.World.{Holds, OpenFile, SameBesidesOpens, Stored, World, bytes_of, bytes_or_none}
use Rattle.dav_core.specs.Writing.{WrittenIn, WroteIn, appends, can_write, write_place as disk_place, written}
use Rattle.dav_core.proofs.UnchangedLemmas.{put_same}
use Rattle.dav_store.specs.Files.{IsWritten, WritesIn, write_place}
use Rattle.dav_store.specs.Standing.{Seen}
use Rattle.dav_local.specs.Standing.{seen_in, seen_with, standing_as}
use Rattle.dav_local.proofs.WrittenBytes.{written_end, written_on}

-- ---- what one write shows

abbrev number_open : Option OpenFile → Option ℕ
number_open o = option_map (λ x. x.number) o

pub held_open : (w : World) (h number : ℕ) (o : OpenFile) → w.opens h ≡ Some o → o.number ≡ number → Holds w number
held_open w h number o at same = inr (h, ap number_open at ∙ ap Some same)

-- a file that is held has the bytes that it was filled with
filled_bytes : (number : ℕ) (bytes : List ℕ) (v w : World) → Edited (fills number bytes) v w → Holds w number → bytes_of w number ≡ bytes
filled_bytes number bytes v w (inl (same, besides)) held = ap bytes_or_none (besides.files number held).1 ∙ sym same
filled_bytes number bytes v w (inr (differs, t, later, becomes)) held =
    let stored : Option Stored = Some (record { bytes = bytes; time = t }) in
    ap bytes_or_none ((becomes.files number held).1 ∙ put_same number stored v.files)

place_same : (append : Bool) (v : World) (kind : Kind) (o : OpenFile) (l : Live) → l.how.append ≡ append → write_place (Some l) (seen_in v kind o) ≡ disk_place append v o
place_same true v kind o l e = rw e refl
place_same false v kind o l e = rw e refl

shows_written : (v w : World) (h : ℕ) (l : Live) (from : List ℕ) (n : ℕ) (o : OpenFile) → n ≤ length from
    → Edited (fills o.number (written (disk_place l.how.append v o) (take n from) (bytes_of v o.number))) v w
    → w.opens h ≡ Some (record o { place = disk_place l.how.append v o + n })
    → IsWritten (write_place (Some l) (seen_in v l.kind o)) (take n from) (seen_in v l.kind o) (seen_in w l.kind (record o { place = disk_place l.how.append v o + n }))
shows_written v w h l from n o within edited now =
    let place = disk_place l.how.append v o in
    let now_open : OpenFile = record o { place = place + n } in
    let same : write_place (Some l) (seen_in v l.kind o) ≡ place = place_same l.how.append v l.kind o l refl in
    record {
      number = refl;
      kind = refl;
      bytes = filled_bytes o.number _ v w edited (held_open w h o.number now_open now refl) ∙ ap (λ p. written p (take n from) (bytes_of v o.number)) (sym same);
      len = refl;
      placed = ap (λ k. place + k) (sym (length-take-le n from within)) ∙ ap (λ p. p + length (take n from)) (sym same);
    }

abbrev shown : World → Live → Option OpenFile → Option Seen
shown v l o = option_map (seen_in v l.kind) o

both_at : (a b : Option Seen) (f g : Seen) (P : Seen → Seen → Type 0) → a ≡ Some f → b ≡ Some g → P f g → Both a b P
both_at a b f g P at to p = rw (at, to) p

wrote_shows : (v w : World) (h : ℕ) (l : Live) (from : List ℕ) (n : ℕ) → WroteIn l.how.append h from n v w
    → Both (seen_with (Some v) (Some l) h) (seen_with (Some w) (Some l) h) (λ f g. IsWritten (write_place (Some l) f) (take n from) f g)
wrote_shows v w h l from n (o, at, some, within, edited, opens, listings) =
    let place = disk_place l.how.append v o in
    let now_open : OpenFile = record o { place = place + n } in
    let now : w.opens h ≡ Some now_open = ap (λ (f : ℕ → Option OpenFile). f h) opens ∙ put_same h (Some now_open) v.opens in
    both_at _ _ (seen_in v l.kind o) (seen_in w l.kind now_open) _ (ap (shown v l) at) (ap (shown w l) now) (shows_written v w h l from n o within edited now)

-- ---- what a write leaves that wrote nothing

seen_same : (v w : World) (kind : Kind) (o : OpenFile) → w.files o.number ≡ v.files o.number → seen_in w kind o ≡ seen_in v kind o
seen_same v w kind o same = ap (λ (stored : Option Stored). record { stands = standing_as kind o.number (option_map (λ s. s.time) stored) (bytes_or_none stored); place = o.place }) same

left_open : (v w : World) (h : ℕ) (l : Live) (o : Option OpenFile) → SameBesidesOpens v w → v.opens h ≡ o → w.opens h ≡ o
    → Both (seen_with (Some v) (Some l) h) (seen_with (Some w) (Some l) h) (λ f g. g ≡ f)
left_open v w h l None same at now = rw (at, now) tt
left_open v w h l (Some o) same at now =
    both_at _ _ (seen_in v l.kind o) (seen_in w l.kind o) (λ f g. g ≡ f) (ap (shown v l) at) (ap (shown w l) now)
    (seen_same v w l.kind o (same.files o.number (held_open w h o.number o now refl)).1)

pub left_shows : (v w : World) (h : ℕ) (l : Live) → SameBesidesOpens v w → SameOpens v w
    → Both (seen_with (Some v) (Some l) h) (seen_with (Some w) (Some l) h) (λ f g. g ≡ f)
left_shows v w h l same opens = left_open v w h l (v.opens h) same refl (ap (λ (f : ℕ → Option OpenFile). f h) opens.opens)

-- ---- one write after the other

abbrev place_by : Bool → Seen → ℕ
place_by append f = if append then length f.stands.bytes else f.place

next_by : (append : Bool) (a : List ℕ) (f g : Seen) → IsWritten (place_by append f) a f g → place_by append g ≡ place_by append f + length a
next_by true a f g is = ap length is.bytes ∙ written_end a f.stands.bytes
next_by false a f g is = is.placed

next_place : (l : Option Live) (a : List ℕ) (f g : Seen) → IsWritten (write_place l f) a f g → write_place l g ≡ write_place l f + length a
next_place None a f g is = is.placed
next_place (Some l) a f g is = next_by l.how.append a f g is

joined : (p q : ℕ) (a b : List ℕ) (f g k : Seen) → q ≡ p + length a → IsWritten p a f g → IsWritten q b g k → IsWritten p (a ++ b) f k
joined p q a b f g k next first second = record {
  number = second.number ∙ first.number;
  kind = second.kind ∙ first.kind;
  bytes = second.bytes ∙ (ap (λ x. written q b x) first.bytes ∙ (ap (λ n. written n b (written p a f.stands.bytes)) next ∙ written_on p a b f.stands.bytes));
  len = second.len;
  placed = second.placed ∙ omega (arith, next, length-append a b);
}

on : (l : Option Live) (a b : List ℕ) (f g k : Seen) → IsWritten (write_place l f) a f g → IsWritten (write_place l g) b g k → IsWritten (write_place l f) (a ++ b) f k
on l a b f g k first second = joined (write_place l f) (write_place l g) a b f g k (next_place l a f g first) first second

last : (l : Option Live) (a b : List ℕ) (f g k : Seen) → IsWritten (write_place l f) a f g → WritesIn l b (Ok tt) g k → IsWritten (write_place l f) (a ++ b) f k
last l a [] f g k first (same, more) = subst (λ (x : List ℕ). IsWritten (write_place l f) x f k) (sym (append-nil a)) (subst (λ (x : Seen). IsWritten (write_place l f) a f x) (sym (same refl)) first)
last l a (b ∷ bs) f g k first (same, more) = on l a (b ∷ bs) f g k first (more (omega arith))

-- bytes in front of others were written before them
pub then_writes : (l : Option Live) (a b : List ℕ) (result : Result Unit FsError) (f g k : Seen) → 0 < length a → IsWritten (write_place l f) a f g → WritesIn l b result g k
    → WritesIn l (a ++ b) result f k
then_writes l a b (Ok x) f g k some first second = (
  λ e. absurd (omega (arith, ap length e, length-append a b)),
  λ lt. last l a b f g k first second,
)
then_writes l a b (Err e) f g k some first (inl same) =
    inr (
      length a,
      some,
      omega (arith, length-append a b),
      subst (λ (x : List ℕ). IsWritten (write_place l f) x f k) (sym (take-append_seam a b)) (subst (λ (x : Seen). IsWritten (write_place l f) a f x) (sym same) first),
    )
then_writes l a b (Err e) f g k some first (inr (n, lt, within, second)) =
    inr (
      length a + n,
      omega arith,
      omega (arith, length-append a b),
      subst (λ (x : List ℕ). IsWritten (write_place l f) x f k) (sym (take-append-add a b n)) (on l a (take n b) f g k first second),
    )

-- ---- worlds that are told

-- a front of the bytes was written, or nothing
abbrev pub PartWritten : Option Live → List ℕ → Seen → Seen → Type 0
PartWritten l from f g = (g ≡ f) ⊎ ((n : ℕ) × (0 < n) × (n ≤ length from) × IsWritten (write_place l f) (take n from) f g)

abbrev pub MayWrite : Option Live → ℕ → List ℕ → World → World → Type 0
MayWrite l h from v w = (SameBesidesOpens v w × SameOpens v w) ⊎ ((can_write l ≡ true) × (n : ℕ) × WroteIn (appends l) h from n v w)

pub refused_leaves : (l : Option Live) (h : ℕ) (from : List ℕ) (e : DiskError) (v w : World) → WrittenIn l h from (Err e) v w → MayWrite l h from v w
refused_leaves l h from IsDir v w (can, same, opens) = inl (same, opens)
refused_leaves l h from NotFound v w left = left
refused_leaves l h from Exists v w left = left
refused_leaves l h from NotDir v w left = left
refused_leaves l h from NotEmpty v w left = left
refused_leaves l h from Failed v w left = left
refused_leaves l h from NoMemory v w left = left

may_show : (v w : World) (h : ℕ) (l : Live) (from : List ℕ) → MayWrite (Some l) h from v w → Both (seen_with (Some v) (Some l) h) (seen_with (Some w) (Some l) h) (PartWritten (Some l) from)
may_show v w h l from (inl (same, opens)) =
    both_map (seen_with (Some v) (Some l) h) (seen_with (Some w) (Some l) h) (λ f g. g ≡ f) (PartWritten (Some l) from) (λ f g same. inl same) (left_shows v w h l same opens)
may_show v w h l from (inr (can, n, wrote)) =
    both_map (seen_with (Some v) (Some l) h) (seen_with (Some w) (Some l) h) (λ f g. IsWritten (write_place (Some l) f) (take n from) f g) (PartWritten (Some l) from)
    (λ f g is. inr (n, wrote.2, wrote.3, is)) (wrote_shows v w h l from n wrote)

-- what a write that was answered shows
pub wrote_told : (a b : Option World) (k l : Option Live) (h : ℕ) (from : List ℕ) (n : ℕ) → l ≡ k → Both a b (WrittenIn k h from (Ok n))
    → Both (seen_with a k h) (seen_with b l h) (λ f g. IsWritten (write_place k f) (take n from) f g)
wrote_told None None k l h from n same both = tt
wrote_told None (Some w) k l h from n same both = absurd both
wrote_told (Some v) None k l h from n same both = absurd both
wrote_told (Some v) (Some w) None l h from n same (can, wrote) = cc
wrote_told (Some v) (Some w) (Some k) l h from n same (can, wrote) = rw same (wrote_shows v w h k from n wrote)

-- what a write that was refused shows
pub refused_told : (a b : Option World) (k l : Option Live) (h : ℕ) (from : List ℕ) (e : DiskError) → l ≡ k → Both a b (WrittenIn k h from (Err e))
    → Both (seen_with a k h) (seen_with b l h) (PartWritten k from)
refused_told None None k l h from e same both = tt
refused_told None (Some w) k l h from e same both = absurd both
refused_told (Some v) None k l h from e same both = absurd both
refused_told (Some v) (Some w) None l h from e same left = rw same tt
refused_told (Some v) (Some w) (Some k) l h from e same left = rw same (may_show v w h k from (refused_leaves (Some k) h from e v w left))

-- What wasn't opened for writing shows what it did.
same_shown : (x y : Option Seen) → Both x y (λ f g. g ≡ f) → y ≡ x
same_shown None None both = refl
same_shown None (Some g) both = absurd both
same_shown (Some f) None both = absurd both
same_shown (Some f) (Some g) same = ap Some same

may_shut : (v w : World) (h : ℕ) (l : Live) (from : List ℕ) → can_write (Some l) ≡ false → MayWrite (Some l) h from v w → seen_with (Some w) (Some l) h ≡ seen_with (Some v) (Some l) h
may_shut v w h l from shut (inl (same, opens)) = same_shown (seen_with (Some v) (Some l) h) (seen_with (Some w) (Some l) h) (left_shows v w h l same opens)
may_shut v w h l from shut (inr (can, n, wrote)) = cc

pub shut_told : (a b : Option World) (k l : Option Live) (h : ℕ) (from : List ℕ) (r : Result ℕ DiskError) → l ≡ k → can_write k ≡ false → Both a b (WrittenIn k h from r)
    → seen_with b l h ≡ seen_with a k h
shut_told None None k l h from r same shut both = refl
shut_told None (Some w) k l h from r same shut both = absurd both
shut_told (Some v) None k l h from r same shut both = absurd both
shut_told (Some v) (Some w) None l h from r same shut both = rw same refl
shut_told (Some v) (Some w) (Some k) l h from (Ok n) same shut (can, wrote) = cc
shut_told (Some v) (Some w) (Some k) l h from (Err e) same shut left = rw same (may_shut v w h k from shut (refused_leaves (Some k) h from e v w left))
