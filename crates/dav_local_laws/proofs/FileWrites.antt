-- What writes of a local store's file make of the told world: one filling.
use Rattle.std.proofs.Common.{◌≡◌, ◌≤◌, ◌+◌, inl, inr, ℕ, false, List, [], ◌++◌, length, take, drop, Option, Some, Result, Ok, Err, refl, sym, ap, subst, ◌∙◌, arith, length-drop}
use Rattle.std.proofs.Math.Seq.{take-append-add}
use Rattle.std.proofs.lemmas.List.{length-take-le, take-append-drop}
use Rattle.std.specs.Option.{option_map}
use Rattle.bytes.specs.Unread.{IsChunkOf}
use Rattle.dav_io.specs.Told.{Both}
use Rattle.dav_io.proofs.ToldLemmas.{both_map, both_same, both_then}
use Rattle.dav_core.specs.declared.error.FsError.{FsError}
use Rattle.dav_core.specs.Disk.{DiskState, Live}
use Rattle.dav_core.specs.Edits.{Edited, fills}
use Rattle.dav_core.specs.Errors.{fs_error_of}
use Rattle.dav_core.specs.World.{Holds, OpenFile, World, bytes_of}
use Rattle.dav_core.specs.Writing.{WrittenIn, WroteIn, appends, written}
use Rattle.dav_core.proofs.UnchangedLemmas.{put_same, same_besides}
use Rattle.dav_local.specs.Writing.{WritesAll}
use Rattle.dav_local.specs.Writing.WritesAll.{more, nothing, refused}
use Rattle.dav_local.proofs.WrittenFiles.{MayWrite, held_open, refused_leaves}
use Rattle.dav_local.proofs.Written.{front_of}
use Rattle.dav_local_laws.proofs.Refilled.{nothing_written, written_behind, written_within}

abbrev number_open : Option OpenFile → Option ℕ
number_open o = option_map (λ x. x.number) o

-- These bytes were written from the file's place on, or a front of them.
abbrev WrittenBy : ℕ → List ℕ → Result Unit FsError → OpenFile → World → World → Type 0
WrittenBy h from (Ok x) o v w = Edited (fills o.number (written o.place from (bytes_of v o.number))) v w
    × (w.opens h ≡ Some (record o { place = o.place + length from }))
WrittenBy h from (Err e) o v w = (n : ℕ) × Edited (fills o.number (written o.place (take n from) (bytes_of v o.number))) v w

abbrev pub WrittenFrom : ℕ → List ℕ → Result Unit FsError → World → World → Type 0
WrittenFrom h from r v w = (o : OpenFile) → v.opens h ≡ Some o → o.place ≤ length (bytes_of v o.number) → WrittenBy h from r o v w

-- ---- no bytes, and a refusal

written_none : (h : ℕ) (w : World) → WrittenFrom h [] (Ok tt) w w
written_none h w o at le =
    let still : o.place + 0 ≡ o.place = omega arith in
    (inl (nothing_written o.place (bytes_of w o.number) le, same_besides w), at ∙ ap (λ n. Some (record o { place = n })) (sym still))

same_file : (a b : OpenFile) (o : Option OpenFile) → o ≡ Some a → o ≡ Some b → a ≡ b
same_file a b o e f = let g : Some a ≡ Some b = sym e ∙ f in cc

-- One write of the disk fills the file.
wrote_file : (h : ℕ) (piece : List ℕ) (n : ℕ) (o : OpenFile) (v w : World) → v.opens h ≡ Some o → WroteIn false h piece n v w
    → Edited (fills o.number (written o.place (take n piece) (bytes_of v o.number))) v w × (w.opens h ≡ Some (record o { place = o.place + n }))
wrote_file h piece n o v w at (p, there, some, within, edited, opens, listings) =
    let same : p ≡ o = same_file p o (v.opens h) there at in (
      subst (λ (x : OpenFile). Edited (fills x.number (written x.place (take n piece) (bytes_of v x.number))) v w) same edited,
      ap (λ (f : ℕ → Option OpenFile). f h) opens ∙ put_same h (Some (record p { place = p.place + n })) v.opens ∙ ap (λ (x : OpenFile). Some (record x { place = x.place + n })) same,
    )

part_written : (l : Option Live) (h : ℕ) (piece from : List ℕ) (e : FsError) (v w : World) → appends l ≡ false → IsChunkOf piece from → MayWrite l h piece v w → WrittenFrom h from (Err e) v w
part_written l h piece from e v w end chunk (inl (same, opens)) o at le = (0, inl (nothing_written o.place (bytes_of v o.number) le, same))
part_written l h piece from e v w end chunk (inr (can, n, wrote)) o at le =
    let first = wrote_file h piece n o v w at (subst (λ b. WroteIn b h piece n v w) end wrote) in
    (n, subst (λ (x : List ℕ). Edited (fills o.number (written o.place x (bytes_of v o.number))) v w) (front_of n piece from chunk wrote.3) first.0)

-- ---- a write, and others

-- the front of bytes by its parts
two_fronts : (n k : ℕ) (from : List ℕ) → n ≤ length from → take (n + k) from ≡ take n from ++ take k (drop n from)
two_fronts n k from le =
    ap (take (n + k)) (sym (take-append-drop n from))
    ∙ ap (λ i. take (i + k) (take n from ++ drop n from)) (sym (length-take-le n from le))
    ∙ take-append-add (take n from) (drop n from) k

module _ (h : ℕ) (from : List ℕ) (n : ℕ) (v m w : World) (o : OpenFile) (within : n ≤ length from) (le : o.place ≤ length (bytes_of v o.number))
    (first : Edited (fills o.number (written o.place (take n from) (bytes_of v o.number))) v m) (now : m.opens h ≡ Some (record o { place = o.place + n })) where
  held : Holds m o.number
  held = held_open m h o.number (record o { place = o.place + n }) now refl

  long : length (take n from) ≡ n
  long = length-take-le n from within

  still_within : o.place + n ≤ length (bytes_of m o.number)
  still_within = subst (λ k. o.place + k ≤ length (bytes_of m o.number)) long (written_within o.number o.place (take n from) v m held le first)

  behind : (b : List ℕ) → Edited (fills o.number (written (o.place + n) b (bytes_of m o.number))) m w → Edited (fills o.number (written o.place (take n from ++ b) (bytes_of v o.number))) v w
  behind b second =
      written_behind o.number o.place (take n from) b v m w held le first
      (subst (λ k. Edited (fills o.number (written (o.place + k) b (bytes_of m o.number))) m w) (sym long) second)

  all_behind : (r : Result Unit FsError) → WrittenBy h (drop n from) r (record o { place = o.place + n }) m w → WrittenBy h from r o v w
  all_behind (Ok x) (second, then_now) =
      let end : (o.place + n) + length (drop n from) ≡ o.place + length from = omega (arith, within, length-drop n from) in (
        subst (λ (z : List ℕ). Edited (fills o.number (written o.place z (bytes_of v o.number))) v w) (take-append-drop n from) (behind (drop n from) second),
        then_now ∙ ap (λ k. Some (record o { place = k })) end,
      )
  all_behind (Err e) (k, second) =
      (n + k, subst (λ (z : List ℕ). Edited (fills o.number (written o.place z (bytes_of v o.number))) v w) (sym (two_fronts n k from within)) (behind (take k (drop n from)) second))

then_written : (l : Option Live) (h : ℕ) (piece from : List ℕ) (n : ℕ) (r : Result Unit FsError) → appends l ≡ false → IsChunkOf piece from → n ≤ length piece → (v m w : World)
    → WrittenIn l h piece (Ok n) v m → WrittenFrom h (drop n from) r m w → WrittenFrom h from r v w
then_written l h piece from n r end chunk short v m w (can, wrote) rest o at le =
    let first = wrote_file h piece n o v m at (subst (λ b. WroteIn b h piece n v m) end wrote) in
    let within : n ≤ length from = omega (arith, short, chunk.fits) in
    let filled = subst (λ (x : List ℕ). Edited (fills o.number (written o.place x (bytes_of v o.number))) v m) (front_of n piece from chunk short) first.0 in
    all_behind h from n v m w o within le filled first.1 r
    (rest (record o { place = o.place + n }) first.1 (still_within h from n v m w o within le filled first.1))

-- All the writes make one filling of it.
pub writes_told : (h : ℕ) (s : DiskState) (from : List ℕ) (r : Result Unit FsError) (t : DiskState) → WritesAll h s from r t → appends (s.live h) ≡ false
    → Both s.told t.told (WrittenFrom h from r)
writes_told h s from r t (nothing a) end = both_same a.told a.told (WrittenFrom h [] (Ok tt)) (written_none h) refl
writes_told h s from r t (refused a b xs piece e chunk some writes) end =
    both_map a.told b.told (WrittenIn (a.live h) h piece (Err e)) (WrittenFrom h xs (Err (fs_error_of e)))
    (λ v w left. part_written (a.live h) h piece xs (fs_error_of e) v w end chunk (refused_leaves (a.live h) h piece e v w left)) writes.told
writes_told h s from r t (more a m b xs piece n result chunk writes rest) end =
    both_then a.told m.told b.told (WrittenIn (a.live h) h piece (Ok n)) (WrittenFrom h (drop n xs) result) (WrittenFrom h xs result)
    (then_written (a.live h) h piece xs n result end chunk writes.within.1) writes.told
    (writes_told h m (drop n xs) result b rest (ap appends (ap (λ (f : ℕ → Option Live). f h) writes.live) ∙ end))
