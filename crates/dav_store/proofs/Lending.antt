-- Calls on the disk inside a store, one after the other.
use Rattle.std.proofs.Common.{◌≡◌, ℕ, List, Option, Some, Result, sym, ap, subst, ◌∙◌}
use Rattle.std.specs.Borrow.{GName}
use Rattle.dav_core.specs.declared.error.FsError.{FsError}
use Rattle.dav_core.specs.Disk.{DiskState}
use Rattle.dav_core.specs.Info.{Info}
use Rattle.dav_core.specs.World.{World}
use Rattle.dav_store.specs.FileView.{FileView}
use Rattle.dav_store.specs.View.{Fits, Listings, View}

module _ {S C D F L E : Type 0} (view : View S C F) (lists : Listings S C L E) {inside : S → D} {with_disk : S → D → S}
    {state_of : D → DiskState} {loan_of : D → Option GName} {file_of : FileView F}
    {name_of : E → List ℕ} {says_of : E → DiskState → Result Info FsError → DiskState → Type 0}
    (fits : Fits view lists inside with_disk state_of loan_of file_of name_of says_of)
  where
    -- none at all
    pub lends_same : ((s : S) → with_disk s (inside s) ≡ s) → (s : S) → view.lends s s
    lends_same back s = subst (view.lends s) (back s) (fits.lends s (inside s))

    -- one after another
    pub lends_on : ((s : S) (d e : D) → with_disk (with_disk s d) e ≡ with_disk s e) → (a b c : S) → view.lends a b → view.lends b c
        → view.lends a c
    lends_on over a b c first next =
        let before = ap (λ s. with_disk s (inside c)) (fits.lent a b first) in
        subst (view.lends a) (sym (fits.lent b c next ∙ (before ∙ over a (inside b) (inside c)))) (fits.lends a (inside c))

    -- What holds of each world that a disk tells, holds of each that a store's disk tells.
    pub worlds_inside : (P : World → Type 0) → ((d : D) (w : World) → (state_of d).told ≡ Some w → P w) → (s : S) (w : World) → (view.state s).told ≡ Some w → P w
    worlds_inside P worlds s w told = worlds (inside s) w (ap (λ (x : DiskState). x.told) (sym (fits.state s)) ∙ told)
