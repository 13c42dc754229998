-- What calls that write nothing leave to uploads.
use Rattle.std.proofs.Common.{◌≡◌, ◌≢◌, ℕ, List, Bool, true, false, None, Some, sym, ap, ◌∙◌}
use Rattle.dav_core.specs.declared.tree.Row.{Row}
use Rattle.dav_core.specs.Disk.{DiskState, Live}
use Rattle.dav_core.specs.Path.{Names}
use Rattle.dav_core.specs.Tree.{row_at}
use Rattle.dav_core.specs.Unchanged.{Keeps, KeepsBut}
use Rattle.dav_core.specs.World.{IsWorld, OpenFile, World}
use Rattle.dav_core.specs.Writing.{reading}
use Rattle.dav_walks.proofs.calls.KeptOpen.{but_kept, open_kept}
use Rattle.dav_upload.specs.Others.{IsAny, IsOfShown, LeavesOthers}
use Rattle.dav_upload.specs.Shown.{SameShown}
use Rattle.dav_upload.specs.Standing.{OthersOpen, Pending, StandsIn}
use Rattle.dav_upload.proofs.Chains.{told_pair}
use Rattle.dav_upload.proofs.Kept.{unseen_same}
use Rattle.dav_upload.proofs.Leaves.{Leaves, leaves_same}
use Rattle.dav_upload.proofs.Making.{kept_unseen}
use Rattle.dav_upload.proofs.Others.{IsOfAny, body_left, frame_but, not_own, quiet_left, upload_left}
use Rattle.dav_io.proofs.Cases.{some_of}

module _ (counts : ℕ → Bool) (s t : DiskState) (v w : World) (was : s.told ≡ Some v) (now : t.told ≡ Some w) (is : IsWorld v) where
  pub keeps_leave : Keeps s t → SameShown v w × LeavesOthers counts None IsAny s.live t.live v w
  keeps_leave keeps =
      let same = told_pair s.told t.told _ v w keeps.world was now in
      (kept_unseen v w same, quiet_left counts IsAny s t v w was now is (open_kept s t keeps) same)

  module _ (h : ℕ) (keeps : KeepsBut h s t) where
    shown : SameShown v w
    shown = kept_unseen v w (told_pair s.told t.told _ v w keeps.world was now)

    leaves : Leaves IsOfAny IsAny v w
    leaves = leaves_same IsOfAny IsAny v w (told_pair s.told t.told _ v w keeps.world was now)

    frame : OthersOpen h s.live t.live v w
    frame = frame_but h s t v w was now (but_kept h s t keeps)

    of_row : (x : Names) (row : Row) → IsAny x → row_at v.tree x ≡ Some row → IsOfAny row.number
    of_row x row any at = tt

    upload_there : (u : Pending) → (other : StandsIn counts s.live v u) → u.handle ≢ h
        → ((l : Live) (o : OpenFile) → counts h ≡ true → t.live h ≡ Some l → w.opens h ≡ Some o → o.number ≢ other.held.number) → StandsIn counts t.live w u
    upload_there u other away fresh =
        upload_left counts s.live t.live v w is IsOfAny IsAny leaves of_row h frame u tt other away (unseen_same v w other.held.number shown other.unseen) fresh

    -- A file was opened, which is one that is shown where its handle counts.
    pub opened_leaves : s.live h ≡ None → (counts h ≡ true → IsOfShown v w h) → SameShown v w × LeavesOthers counts None IsAny s.live t.live v w
    opened_leaves none of_shown = (
      shown,
      record {
        files = λ x r any there holds. (leaves.bytes r.number tt holds).1;
        bodies = λ k l o ne alive opens. body_left counts s.live t.live v w is IsOfAny IsAny leaves of_row h frame k l o (dead k l alive) (λ is_counted. tt) alive opens;
        uploads = λ u any other.
            upload_there u other (λ e. (let (l, alive) = some_of (s.live u.handle) other.lives in dead u.handle l alive e))
            (λ l o is_counted is_live opens e. (let (path, row, at, shows, number) = of_shown is_counted in other.unseen path row at shows (sym (number o opens) ∙ e)));
      },
    )
      where
        dead : (k : ℕ) (l : Live) → s.live k ≡ Some l → k ≢ h
        dead k l alive e = let g : Some l ≡ None = sym alive ∙ (ap s.live e ∙ none) in cc

    -- A file that was opened for reading was moved, read or closed.
    pub read_leaves : (l : Live) → s.live h ≡ Some l → l.how ≡ reading
        → ((m : Live) (o : OpenFile) → t.live h ≡ Some m → w.opens h ≡ Some o → (p : OpenFile) × (v.opens h ≡ Some p) × (p.number ≡ o.number)) → SameShown v w × LeavesOthers counts (Some h) IsAny s.live t.live v w
    read_leaves l live how same = (
      shown,
      record {
        files = λ x r any there holds. (leaves.bytes r.number tt holds).1;
        bodies = λ k m o ne alive opens. body_left counts s.live t.live v w is IsOfAny IsAny leaves of_row h frame k m o (not_own h k ne) (λ is_counted. tt) alive opens;
        uploads = λ u any other.
            (let away : u.handle ≢ h = λ e. (let of = other.how l (ap s.live e ∙ live) in
            let reads : reading.read ≡ false = ap (λ o. o.read) (sym how ∙ of) in
            cc) in
            upload_there u other away
            (λ m o is_counted is_live opens e. (let (p, there, number) = same m o is_live opens in away (sym (other.apart h l p is_counted live there (number ∙ e))))));
      },
    )
