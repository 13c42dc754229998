-- What a look at a place finds in the told world.
use Rattle.std.proofs.Common.{◌≡◌, ◌⊎◌, inl, inr, ◌&&◌, Bool, true, false, cond, Option, None, Some, Result, Ok, Err, refl, ap}
use Rattle.dav_io.specs.Told.{Both}
use Rattle.dav_core.specs.declared.error.FsError.TheVariants as fs
use Rattle.dav_core.specs.declared.handle.DiskError.{DiskError}
use Rattle.dav_core.specs.declared.handle.DiskError.TheVariants.{NotFound, Exists, NotDir, IsDir, NotEmpty, Failed, NoMemory}
use Rattle.dav_core.specs.declared.handle.Meta.{Meta}
use Rattle.dav_core.specs.declared.tree.Kind.{Kind}
use Rattle.dav_core.specs.declared.tree.Kind.TheVariants.{Dir, File, Link}
use Rattle.dav_core.specs.declared.tree.Row.{Row}
use Rattle.dav_core.specs.Disk.{DiskState, IsCounted, IsMetaOf, MetaIn, Refused}
use Rattle.dav_core.specs.Errors.{fs_error_of}
use Rattle.dav_core.specs.Info.{Info, info_of, known}
use Rattle.dav_core.specs.Path.{Names}
use Rattle.dav_core.specs.Tree.{is_file, is_link, is_linked, look}
use Rattle.dav_core.specs.World.{World}
use Rattle.dav_store.specs.Files.{Spoiled}
use Rattle.dav_model.specs.Finding.{stood_at}
use Rattle.dav_model.specs.Head.{Stood, stood_in}
use Rattle.dav_model.proofs.PlainWalks.{unlinked_row}
use Rattle.dav_walks.specs.Follows.{Agrees, Finds}
use Rattle.dav_local.specs.Files.{looked_as}
use Rattle.dav_local.specs.Standing.{under_slash}

-- ---- what is told

-- where the told world stays
pub both_stays : {A : Type 0} (a b : Option A) (P : A → A → Type 0) → b ≡ a → ((w : A) → a ≡ Some w → P w w) → Both a b P
both_stays None b P e h = rw e tt
both_stays (Some w) b P e h = rw e (h w refl)

-- where something is told already
pub both_with : {A : Type 0} (a b : Option A) (P Q : A → A → Type 0) → Both a b P → ((v w : A) → a ≡ Some v → b ≡ Some w → P v w → Q v w) → Both a b Q
both_with None None P Q p h = tt
both_with None (Some w) P Q p h = absurd p
both_with (Some v) None P Q p h = absurd p
both_with (Some v) (Some w) P Q p h = h v w refl refl p

-- a refusal that the tree calls for, or a fault or want of memory
pub called_for : (T U V : Type 0) (e : DiskError) (found : Result U DiskError) (s t : DiskState) → Refused e found → IsCounted {T = T} (Err e) s t → (found ≡ Err e) ⊎ Spoiled {T = V} s (Err (fs_error_of e)) t
called_for T U V NotFound found s t r counted = inl r
called_for T U V NotDir found s t r counted = inl r
called_for T U V IsDir found s t r counted = inl r
called_for T U V Exists found s t r counted = inl r
called_for T U V NotEmpty found s t r counted = inl r
called_for T U V Failed found s t r counted = inr (inl (refl, counted.rose refl))
called_for T U V NoMemory found s t r counted = inr (inr refl)

-- ---- links

-- ---- what is found

agrees : (m : Meta) (w : World) (row : Row) → IsMetaOf w row m → Agrees (info_of m) (stood_in w row)
agrees m w row is = record {
  kind = is.kind;
  modified = ap known is.modified;
  tag = rw (is.kind, is.number, is.len, is.modified) refl;
}

-- a final slash forbids both, or neither
finds_by : (slash : Bool) (kind : Kind) (info : Info) (there : Stood) → is_link kind ≡ false → Agrees info there → Finds (cond (slash && is_file kind) (Err fs.Forbidden) (Ok there)) (under_slash slash kind info)
finds_by false kind info there clear is = is
finds_by true Dir info there clear is = is
finds_by true File info there clear is = refl
finds_by true Link info there clear is = cc

finds_kinds : (slash : Bool) (kind other : Kind) (info : Info) (there : Stood) → is_link kind ≡ false → other ≡ kind → Agrees info there
    → Finds (cond (slash && is_file kind) (Err fs.Forbidden) (Ok there)) (under_slash slash other info)
finds_kinds slash kind other info there clear e is = rw e (finds_by slash kind info there clear is)

-- A look at a place, of what stands there or of a link itself, finds what stands there.
pub finds_in : (slash : Bool) (w : World) (at : Names) (answer : Result Meta DiskError) (s t : DiskState) → MetaIn at answer w → is_linked w.tree at ≡ false → IsCounted answer s t
    → Finds (stood_at slash w (look w.tree at)) (looked_as slash answer) ⊎ Spoiled s (looked_as slash answer) t
finds_in slash w at (Ok m) s t (row, there, is) clear counted =
    inl (rw there (finds_kinds slash row.kind m.kind (info_of m) (stood_in w row) (unlinked_row w.tree at row there clear) is.kind (agrees m w row is)))
finds_in slash w at (Err e) s t r clear counted =
    elim (called_for Meta Row Info e (look w.tree at) s t r counted) [ inl f ↦ inl (rw f refl) | inr x ↦ inr x ]
