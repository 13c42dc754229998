-- What calls that change what stands make of the told world, of any store that hands them on to its disk.
use Rattle.std.proofs.Common.{◌≡◌, ◌≤◌, inl, inr, ℕ, Bool, false, List, Option, Some, Result, Ok, Err, refl, sym, ap, subst, ◌∙◌}
use Rattle.dav_core.specs.declared.error.FsError.{FsError}
use Rattle.dav_core.specs.declared.handle.DiskError.{DiskError}
use Rattle.dav_core.specs.declared.handle.Handle.{Handle}
use Rattle.dav_core.specs.Allowed.{Allowed, opening}
use Rattle.dav_core.specs.DavPath.{WebPath}
use Rattle.dav_core.specs.Disk.{DiskState, IsCounted, OpenedOver, at_start, kind_at, kind_opened}
use Rattle.dav_core.specs.Edits.{Edit}
use Rattle.dav_core.specs.Errors.{fs_error_of}
use Rattle.dav_core.specs.Path.{Names}
use Rattle.dav_core.specs.declared.tree.Row.{Row}
use Rattle.dav_core.specs.Tree.{is_linked, row_at}
use Rattle.dav_core.specs.World.{OpenFile, SameBesidesOpens, World}
use Rattle.dav_core.specs.Writing.{DoesIn, LeftBy}
use Rattle.dav_core.proofs.UnchangedLemmas.{put_same, same_besides_then}
use Rattle.dav_core.proofs.LeftLemmas.{left_more, left_refused}
use Rattle.dav_store.specs.Files.{Spoiled}
use Rattle.dav_store.specs.View.{Listings, View}
use Rattle.dav_store.proofs.Reading.{rose_from}
use Rattle.dav_model.specs.Finding.{resolved}
use Rattle.dav_model.specs.Plans.{put_options, putting}
use Rattle.dav_model.specs.Rules.{Rules}
use Rattle.dav_walks.specs.Follows.{Calls, CallsFor, OpensBy}
use Rattle.dav_walks.specs.Pouring.{Writes}
use Rattle.dav_local.specs.Files.{done_by}
use Rattle.dav_local_laws.proofs.CallsBefore.{edited_before, opening_numbered}
use Rattle.dav_local_laws.proofs.PlainLooks.{called_for}

pub calls_for : (allowed : Allowed) (d : DiskError) → allowed ≡ Err d → CallsFor allowed (fs_error_of d)
calls_for allowed d e = rw e refl

-- what was spoiled later was so from before
pub spoiled_from : (s m t : DiskState) (e : FsError) → s.faults ≤ m.faults → Spoiled {T = Unit {0}} m (Err e) t → Spoiled {T = Unit {0}} s (Err e) t
spoiled_from s m t e le (inl (is, rose)) = inl (is, rose_from s.faults m.faults t.faults le rose)
spoiled_from s m t e le (inr none) = inr none

module _ {S C F L E : Type 0} (view : View S C F) (lists : Listings S C L E) (writes : Writes F) (c : C) where
  -- A call that is handed on to the disk does what the disk does, also where others that changed nothing stand before it.
  pub calls_from : (may : Bool) (allowed : Allowed) (answer : Result Unit DiskError) (m n : S) (k : DiskState) (v w : World) → DoesIn may allowed answer v w → (view.state m).faults ≤ k.faults
      → IsCounted answer k (view.state n) → Calls view lists writes c allowed m (done_by answer) n v w
  calls_from may allowed (Ok x) m n k v w done le counted = done
  calls_from may allowed (Err d) m n k v w (refused, left) le counted =
      elim (called_for Unit (Option Edit) Unit d allowed k (view.state n) refused counted) [
        | inl called ↦ inl (calls_for allowed d called, left_refused may d v w (subst (λ a. LeftBy may a v w) called left))
        | inr spoiled ↦ inr (spoiled_from (view.state m) k (view.state n) (fs_error_of d) le spoiled, left_more may allowed v w left)
      ]

  -- ---- opening

  module _ (file : Handle → F) (own : (h : Handle) → view.file.handle (file h) ≡ h.0) where
    abbrev pub filed_as : Result Handle DiskError → Result F FsError
    filed_as (Ok h) = Ok (file h)
    filed_as (Err e) = Err (fs_error_of e)

    -- What is opened to be written is opened as the disk opens it, after looks.
    pub opened_as : (rules : Rules) (path : WebPath) (at : Names) (answer : Result Handle DiskError) (m n : S) (k : DiskState) (v u w : World) → at ≡ resolved rules v.tree path.names → SameBesidesOpens v u
        → OpenedOver at put_options answer (kind_opened answer (view.state n)) u w → (view.state m).faults ≤ k.faults → IsCounted answer k (view.state n) → is_linked u.tree at ≡ false
        → OpensBy view lists writes c rules path m (filed_as answer) n v w
    opened_as rules path at (Ok h) m n k v u w here same (number, opens, listings, held, rows) le counted clear =
        let (edit, row, allowed, edited, there, numbered, of) = rows clear in
        let before : opening v.tree at put_options ≡ Ok edit = subst (λ (tree : List Row). opening tree at put_options ≡ Ok edit) same.tree allowed in (
          edit,
          row,
          subst (λ names. opening v.tree names put_options ≡ Ok edit) here before,
          edited_before (opening u.tree at put_options) edit v u w (opening_numbered u.tree at put_options) allowed same edited,
          subst (λ names. row_at w.tree names ≡ Some row) here there,
          ap w.opens (own h) ∙ (ap (λ (f : ℕ → Option OpenFile). f h.0) opens
              ∙ (put_same h.0 (Some (at_start number)) u.opens ∙ ap (λ k. Some (at_start k)) (sym numbered))),
          ap (kind_at (view.state n)) (own h) ∙ of,
        )
    opened_as rules path at (Err d) m n k v u w here same (opens, rows) le counted clear =
        let (kept, refused) = rows clear in (
          same_besides_then v u w same kept,
          elim (called_for Handle (Option Edit) F d (opening u.tree at put_options) k (view.state n) refused counted) [
            | inl called ↦ inl (calls_for (putting rules v path) d (subst (λ names. opening v.tree names put_options ≡ Err d) here (subst (λ (tree : List Row). opening tree at put_options ≡ Err d) same.tree called)))
            | inr spoiled ↦ inr (spoiled_so spoiled)
          ],
        )
      where
        spoiled_so : Spoiled {T = F} k (Err (fs_error_of d)) (view.state n) → Spoiled {T = F} (view.state m) (Err (fs_error_of d)) (view.state n)
        spoiled_so (inl (is, rose)) = inl (is, rose_from (view.state m).faults k.faults (view.state n).faults le rose)
        spoiled_so (inr none) = inr none
