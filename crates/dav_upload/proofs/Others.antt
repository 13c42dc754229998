-- What the steps of an upload leave to those who read, and to other uploads.
use Rattle.std.proofs.Common.{◌≡◌, ◌≢◌, ◌≤◌, ◌+◌, inr, ℕ, List, Bool, true, Option, None, Some, refl, sym, ap, subst, ◌∙◌, arith}
use Rattle.std.specs.Option.{option_map}
use Rattle.dav_core.specs.declared.tree.Row.{Row}
use Rattle.dav_core.specs.Disk.{DiskState, Live}
use Rattle.dav_core.specs.Path.{Names}
use Rattle.dav_core.specs.Tree.{row_at}
use Rattle.dav_core.specs.World.{Holds, IsWorld, OpenFile, SameBesidesOpens, World, bytes_of}
use Rattle.dav_store.specs.Frames.{KeepsOpen, KeepsOpenBut}
use Rattle.dav_upload.specs.Names.{is_hidden_path}
use Rattle.dav_upload.specs.Others.{IsNot, LeavesOthers}
use Rattle.dav_upload.specs.Shown.{IsUnseen, SameShown}
use Rattle.dav_upload.specs.Standing.{OthersOpen, Pending, StandsIn}
use Rattle.dav_upload.proofs.Beside.{below_greatest}
use Rattle.dav_upload.proofs.Chains.{told_pair}
use Rattle.dav_upload.proofs.Kept.{unseen_same}
use Rattle.dav_upload.proofs.Leaves.{Leaves, leaves_same, one_path}
use Rattle.dav_upload.proofs.Making.{kept_unseen}
use Rattle.dav_upload.proofs.Stands.{other_stands}
use Rattle.dav_io.proofs.Cases.{some_of}

-- every number
abbrev pub IsOfAny : ℕ → Type 0
IsOfAny n = Unit {0}

-- another hidden path
abbrev pub IsHiddenBut : Names → Names → Type 0
IsHiddenBut path p = (p ≢ path) × (is_hidden_path p ≡ true)

-- ---- what is open

pub frame_but : (own : ℕ) (s t : DiskState) (v w : World) → s.told ≡ Some v → t.told ≡ Some w → KeepsOpenBut own s t → OthersOpen own s.live t.live v w
frame_but own s t v w was now k = record {
  lives = k.live;
  opens = λ h l ne alive. told_pair s.told t.told _ v w (k.opens h l ne alive) was now;
}

pub frame_open : (s t : DiskState) (v w : World) → s.told ≡ Some v → t.told ≡ Some w → KeepsOpen s t → (own : ℕ) → OthersOpen own s.live t.live v w
frame_open s t v w was now k own = record {
  lives = λ h ne. k.live h;
  opens = λ h l ne alive. told_pair s.told t.told _ v w (k.opens h l alive) was now;
}

-- ---- what is left, by what is open and what stays

module _ (shown : ℕ → Bool) (live then : ℕ → Option Live) (v w : World) (is : IsWorld v) (P : ℕ → Type 0) (other : Names → Type 0) (leaves : Leaves P other v w)
    (of_row : (path : Names) (row : Row) → other path → row_at v.tree path ≡ Some row → P row.number) where
  pub file_left : (path : Names) (row : Row) → other path → row_at v.tree path ≡ Some row → Holds w row.number → bytes_of w row.number ≡ bytes_of v row.number
  file_left path row is_other at holds = (leaves.bytes row.number (of_row path row is_other at) holds).1

  module _ (own : ℕ) (frame : OthersOpen own live then v w) where
    pub body_left : (k : ℕ) (l : Live) (o : OpenFile) → k ≢ own → (shown k ≡ true → P o.number) → live k ≡ Some l → v.opens k ≡ Some o → (then k ≡ Some l) × (w.opens k ≡ Some o) × (shown k ≡ true → bytes_of w o.number ≡ bytes_of v o.number)
    body_left k l o ne of alive opens =
        let still : w.opens k ≡ Some o = frame.opens k l ne alive ∙ opens in
        (frame.lives k ne ∙ alive, still, λ counts. (leaves.bytes o.number (of counts) (inr (k, ap (option_map (λ (x : OpenFile). x.number)) still))).1)

    pub upload_left : (u : Pending) → other u.hidden → (s : StandsIn shown live v u) → u.handle ≢ own → IsUnseen w s.held.number
        → ((l : Live) (o : OpenFile) → shown own ≡ true → then own ≡ Some l → w.opens own ≡ Some o → o.number ≢ s.held.number) → StandsIn shown then w u
    upload_left u is_other s ne unseen fresh =
        other_stands shown own live then v w frame u s ne (leaves.rows u.hidden is_other) (λ was. unseen)
        (λ holds. (leaves.bytes s.held.number (subst P s.number (of_row u.hidden s.row is_other s.at)) holds).1) fresh

    -- the upload of the step stands, so that no other has its number
    pub fresh_from : IsWorld w → (mine : Pending) → mine.handle ≡ own → StandsIn shown then w mine → (u : Pending) → other u.hidden → u.hidden ≢ mine.hidden
        → (s : StandsIn shown live v u) → (l : Live) (o : OpenFile) → shown own ≡ true → then own ≡ Some l → w.opens own ≡ Some o → o.number ≢ s.held.number
    fresh_from now mine owns n u is_other ne s l o counts is_live opens e =
        let (row, at, kind, number) = leaves.rows u.hidden is_other s.row s.at in
        let same : Some n.held ≡ Some o = sym n.opens ∙ (ap w.opens owns ∙ opens) in
        let here : n.held ≡ o = cc in
        ne (one_path w now u.hidden mine.hidden row n.row at n.at (number ∙ (s.number ∙ (sym e ∙ (ap (λ (x : OpenFile). x.number) (sym here) ∙ sym n.number)))))

  -- Nothing was opened or closed.
  pub all_left : ((own : ℕ) → OthersOpen own live then v w) → SameShown v w → ((k : ℕ) (l : Live) (o : OpenFile) → live k ≡ Some l → v.opens k ≡ Some o → P o.number) → LeavesOthers shown None other live then v w
  all_left frames same of_body = record {
    files = file_left;
    bodies = λ k l o ne alive opens. body_left (k + 1) (frames (k + 1)) k l o (λ e. omega (arith, e)) (λ counts. of_body k l o alive opens) alive opens;
    uploads = λ u is_other s.
        (let h = u.handle in
        upload_left (h + 1) (frames (h + 1)) u is_other s (λ e. omega (arith, e)) (unseen_same v w s.held.number same s.unseen)
        (λ l o counts is_live opens e.
        (let frame = frames (h + 2) in
        let ne : h + 1 ≢ h + 2 = λ f. omega (arith, f) in
        let was : live (h + 1) ≡ Some l = sym (frame.lives (h + 1) ne) ∙ is_live in
        let back : h + 1 ≡ h = s.apart (h + 1) l o counts was (sym (frame.opens (h + 1) l ne was) ∙ opens) e in
        omega (arith, back))));
  }

-- ---- calls that change nothing that stands

pub quiet_left : (shown : ℕ → Bool) (other : Names → Type 0) (s t : DiskState) (v w : World) → s.told ≡ Some v → t.told ≡ Some w → IsWorld v → KeepsOpen s t → SameBesidesOpens v w → LeavesOthers shown None other s.live t.live v w
quiet_left shown other s t v w was now is keeps same =
    all_left shown s.live t.live v w is (λ n. Unit {0}) other (leaves_same (λ n. Unit {0}) other v w same) (λ path row is_other at. tt) (frame_open s t v w was now keeps) (kept_unseen v w same) (λ k l o alive opens. tt)

-- what is left to all is left to all but one
pub left_but : (shown : ℕ → Bool) (own : ℕ) (other : Names → Type 0) (live then : ℕ → Option Live) (v w : World) → LeavesOthers shown None other live then v w → LeavesOthers shown (Some own) other live then v w
left_but shown own other live then v w left = record {
  files = left.files;
  bodies = λ k l o ne. left.bodies k l o (λ e. cc);
  uploads = left.uploads;
}

pub not_own : (own k : ℕ) → ◌≢◌ {A = Option ℕ} (Some own) (Some k) → k ≢ own
not_own own k ne e = ne (ap (λ n. Some n) (sym e))

-- an upload with another hidden path has another number, and another handle
pub other_number : (shown : ℕ → Bool) (v : World) → IsWorld v → (live : ℕ → Option Live) (a b : Pending) → (m : StandsIn shown live v a) → (n : StandsIn shown live v b) → b.hidden ≢ a.hidden → n.held.number ≢ m.held.number
other_number shown v is live a b m n ne e = ne (one_path v is b.hidden a.hidden n.row m.row n.at m.at (n.number ∙ (e ∙ sym m.number)))

pub other_handle : (shown : ℕ → Bool) (v : World) → IsWorld v → (live : ℕ → Option Live) (a b : Pending) → StandsIn shown live v a → StandsIn shown live v b → b.hidden ≢ a.hidden → b.handle ≢ a.handle
other_handle shown v is live a b m n ne e =
    let same : Some n.held ≡ Some m.held = sym n.opens ∙ (ap v.opens e ∙ m.opens) in
    let here : n.held ≡ m.held = cc in
    other_number shown v is live a b m n ne (ap (λ (o : OpenFile). o.number) here)

-- ---- the three ways of a step's own upload

module _ (shown : ℕ → Bool) (s t : DiskState) (v w : World) (was : s.told ≡ Some v) (now : t.told ≡ Some w) (is : IsWorld v) (own : Pending) (keeps : KeepsOpenBut own.handle s t) where
  frame : OthersOpen own.handle s.live t.live v w
  frame = frame_but own.handle s t v w was now keeps

  -- It began.
  pub new_left : Leaves (λ n. n ≤ v.greatest) (IsNot own.hidden) v w → s.live own.handle ≡ None → SameShown v w → IsWorld w → StandsIn shown t.live w own → LeavesOthers shown None (IsNot own.hidden) s.live t.live v w
  new_left leaves fresh same is_now stands = record {
    files = file_left shown s.live t.live v w is (λ n. n ≤ v.greatest) (IsNot own.hidden) leaves of_row;
    bodies = λ k l o ne alive opens.
        body_left shown s.live t.live v w is (λ n. n ≤ v.greatest) (IsNot own.hidden) leaves of_row own.handle frame k l o (dead k l alive) (λ counts. is.given.opens k o opens) alive opens;
    uploads = λ u ne other.
        (let away : u.handle ≢ own.handle = λ e. (let (l, alive) = some_of (s.live u.handle) other.lives in dead u.handle l alive e) in
        upload_left shown s.live t.live v w is (λ n. n ≤ v.greatest) (IsNot own.hidden) leaves of_row own.handle frame u ne other away (unseen_same v w other.held.number same other.unseen)
        (fresh_from shown s.live t.live v w is (λ n. n ≤ v.greatest) (IsNot own.hidden) leaves of_row own.handle frame is_now own refl stands u ne ne other));
  }
    where
      of_row : (x : Names) (row : Row) → IsNot own.hidden x → row_at v.tree x ≡ Some row → row.number ≤ v.greatest
      of_row x row ne at = below_greatest v is x row at

      dead : (k : ℕ) (l : Live) → s.live k ≡ Some l → k ≢ own.handle
      dead k l alive e = let g : Some l ≡ None = sym alive ∙ (ap s.live e ∙ fresh) in cc

  module _ (stood : StandsIn shown s.live v own) where
    -- Its file was written.
    pub written_left : (wrong : Bool) (all : List ℕ) → Leaves (λ n. n ≢ stood.held.number) (IsNot own.hidden) v w → SameShown v w → IsWorld w → StandsIn shown t.live w (record own { broken = wrong; pieces = all })
        → LeavesOthers shown (Some own.handle) (IsNot own.hidden) s.live t.live v w
    written_left wrong all leaves same is_now stands = record {
      files = file_left shown s.live t.live v w is (λ n. n ≢ stood.held.number) (IsNot own.hidden) leaves of_row;
      bodies = λ k l o ne alive opens.
          body_left shown s.live t.live v w is (λ n. n ≢ stood.held.number) (IsNot own.hidden) leaves of_row own.handle frame k l o (not_own own.handle k ne) (λ counts e. not_own own.handle k ne (stood.apart k l o counts alive opens e)) alive opens;
      uploads = λ u ne other.
          (let away : u.handle ≢ own.handle = other_handle shown v is s.live own u stood other ne in
          upload_left shown s.live t.live v w is (λ n. n ≢ stood.held.number) (IsNot own.hidden) leaves of_row own.handle frame u ne other away (unseen_same v w other.held.number same other.unseen)
          (fresh_from shown s.live t.live v w is (λ n. n ≢ stood.held.number) (IsNot own.hidden) leaves of_row own.handle frame is_now (record own { broken = wrong; pieces = all }) refl stands u ne ne other));
    }
      where
        of_row : (x : Names) (row : Row) → IsNot own.hidden x → row_at v.tree x ≡ Some row → row.number ≢ stood.held.number
        of_row x row ne at e = ne (one_path v is x own.hidden row stood.row at stood.at (e ∙ sym stood.number))

    -- Its file was closed, and taken or moved.
    pub ended_left : Leaves IsOfAny (IsHiddenBut own.hidden) v w → t.live own.handle ≡ None → ((n : ℕ) → n ≢ stood.held.number → IsUnseen v n → IsUnseen w n)
        → LeavesOthers shown (Some own.handle) (IsNot own.hidden) s.live t.live v w
    ended_left leaves gone unseen = record {
      files = λ x row ne at holds. (leaves.bytes row.number tt holds).1;
      bodies = λ k l o ne alive opens. body_left shown s.live t.live v w is IsOfAny (IsHiddenBut own.hidden) leaves of_row own.handle frame k l o (not_own own.handle k ne) (λ counts. tt) alive opens;
      uploads = λ u ne other.
          upload_left shown s.live t.live v w is IsOfAny (IsHiddenBut own.hidden) leaves of_row own.handle frame u (ne, other.hides) other (other_handle shown v is s.live own u stood other ne)
          (unseen other.held.number (other_number shown v is s.live own u stood other ne) other.unseen) (λ l o counts is_live opens e. none l is_live);
    }
      where
        of_row : (x : Names) (row : Row) → IsHiddenBut own.hidden x → row_at v.tree x ≡ Some row → IsOfAny row.number
        of_row x row other at = tt

        none : (l : Live) → t.live own.handle ≡ Some l → ⊥
        none l is_live = let g : None ≡ Some l = sym gone ∙ is_live in cc
