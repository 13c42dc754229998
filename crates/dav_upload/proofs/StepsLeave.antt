-- What each step of an upload leaves to others, over a store whose calls do what the tree allows.
use Rattle.std.proofs.Common.{◌≡◌, ◌≢◌, ◌⊎◌, ◌≤◌, ◌++◌, inl, inr, ℕ, List, [], length, Bool, true, false, None, Some, Result, Ok, Err, refl, sym, ap, subst, ◌∙◌, arith}
use Rattle.dav_core.specs.declared.error.FsError.{FsError}
use Rattle.dav_core.specs.declared.tree.Kind.TheVariants.{File}
use Rattle.dav_core.specs.DavPath.{WebPath}
use Rattle.dav_core.specs.Edits.{Edited, EditedBy, makes, moves}
use Rattle.dav_core.specs.Path.{Names, same_names}
use Rattle.dav_core.specs.Tree.{is_linked, row_at}
use Rattle.dav_core.specs.Unchanged.{Keeps}
use Rattle.dav_core.specs.World.{IsWorld, SameBesidesOpens, World, bytes_of}
use Rattle.dav_core.proofs.UnchangedLemmas.{same_besides, same_besides_then}
use Rattle.dav_store.specs.Frames.{KeepsOpen, KeepsOpenBut, OpensOne}
use Rattle.dav_store.specs.View.{Closes, View}
use Rattle.dav_walks.proofs.calls.KeptOpen.{but_kept, but_then, open_after, open_kept, open_same, open_then}
use Rattle.dav_methods.specs.Lines.{Given}
use Rattle.dav_walks.specs.Pouring.{Writes}
use Rattle.dav_methods.specs.Putting.{MayPut}
use Rattle.dav_model.specs.declared.outcome.Outcome.{Outcome}
use Rattle.dav_model.specs.Conditions.{Fields}
use Rattle.dav_upload.specs.declared.error.UploadError.{UploadError}
use Rattle.dav_upload.specs.declared.upload.Upload.{Upload}
use Rattle.dav_upload.specs.Ends.{WritesAt}
use Rattle.dav_upload.specs.Names.{hidden_beside, is_hidden_path, is_taken}
use Rattle.dav_upload.specs.Others.{IsNot, LeavesOthers}
use Rattle.dav_upload.specs.Pieces.{upload_options}
use Rattle.dav_upload.specs.Shown.{IsUnseen, StandsBeside}
use Rattle.dav_upload.specs.Standing.{StandsIn, pending}
use Rattle.dav_upload.specs.Steps.{IsBeside, IsClear, Pieced}
use Rattle.dav_upload.specs.Takes.{TakesUploads}
use Rattle.dav_upload.specs.Uploading.{AfterClose, AfterJudged, AfterJudging, AfterMove, Aborts, Begins, BeginsAs, Commits, Judges, PieceOn, WritesPiece, begun as upload_begun}
use Rattle.dav_upload.proofs.Beside.{file_beside, hidden_some}
use Rattle.dav_upload.proofs.Chains.{judged_plain, named_long, never_appends, new_at, one_told, opened_began, pieced, told_pair}
use Rattle.dav_upload.proofs.Closing.{but_open}
use Rattle.dav_upload.proofs.Ends.{may_move, moved_or_left, none_taken, unlinked_after}
use Rattle.dav_upload.proofs.Hiding.{taken_unseen}
use Rattle.dav_upload.proofs.Kept.{unseen_at, unseen_same}
use Rattle.dav_upload.proofs.Leaves.{Leaves, leaves_filled, leaves_made, leaves_moved, leaves_same, leaves_taken, leaves_then}
use Rattle.dav_upload.proofs.Making.{kept_unseen}
use Rattle.dav_upload.proofs.Moving.{moved_commits, moved_gone, moved_number, never}
use Rattle.dav_upload.proofs.Others.{IsHiddenBut, IsOfAny, ended_left, left_but, new_left, quiet_left, written_left}
use Rattle.dav_upload.proofs.Sweeps.{Took, hidden_took}
use Rattle.dav_io.proofs.ToldLemmas.{told_after}
use Rattle.dav_core.proofs.Paths.{names_equal, names_same}

pub equal_worlds : (v w : World) → v ≡ w → SameBesidesOpens v w
equal_worlds v w e = subst (SameBesidesOpens v) e (same_besides v)

module _ {S C F : Type 0} (view : View S C F) (writes : Writes F) (c : C) (test : S → Bool) (takes_all : TakesUploads view writes c test) where
  abbrev pub plain : S → Type 0
  plain s = test s ≡ true

  still_open : (s t : S) → t ≡ s → KeepsOpen (view.state s) (view.state t)
  still_open s t same = subst (λ x. KeepsOpen (view.state s) (view.state x)) (sym same) (open_same (view.state s))

  still_world : (s t : S) (v w : World) → t ≡ s → (view.state s).told ≡ Some v → (view.state t).told ≡ Some w → SameBesidesOpens v w
  still_world s t v w same was now = equal_worlds v w (one_told (view.state s).told v w was (sym (ap (λ x. (view.state x).told) same) ∙ now))

  -- ---- begin

  module _ (shown : ℕ → Bool) (s t : S) (v w : World) (was : (view.state s).told ≡ Some v) (now : (view.state t).told ≡ Some w) (target : WebPath) (token : ℕ) (p : plain s) (clear : is_linked v.tree (hidden_beside target token).names ≡ false) where
    abbrev pub Left : Type 0
    Left = LeavesOthers shown None (IsNot (hidden_beside target token).names) (view.state s).live (view.state t).live v w

    quiet : KeepsOpen (view.state s) (view.state t) → SameBesidesOpens v w → Left
    quiet = quiet_left shown (IsNot (hidden_beside target token).names) (view.state s) (view.state t) v w was now (takes_all.worlds s v was)

    module _ (m : S) (u : World) (keeps : Keeps (view.state s) (view.state m)) (here : (view.state m).told ≡ Some u) (same : SameBesidesOpens v u) (q : plain m) where
      abbrev path : Names
      path = (hidden_beside target token).names

      free : is_linked u.tree (hidden_beside target token).names ≡ false
      free = ap (λ tree. is_linked tree (hidden_beside target token).names) same.tree ∙ clear

      opened_left : (opened : Result F FsError) → view.opens m c (hidden_beside target token) upload_options opened t → OpensOne view.file upload_options (view.state m) opened (view.state t) → Left
      opened_left (Err e) opens one =
          let told = told_pair (view.state m).told (view.state t).told _ u w (takes_all.opens m t (hidden_beside target token) (Err e) q opens).1 here now in
          quiet (open_after (view.state s) (view.state m) (view.state t) keeps one.others) (same_besides_then v u w same (told free))
      opened_left (Ok f) opens one =
          let (edit, row, allowed, edited, at, open_at, of_kind) = told_pair (view.state m).told (view.state t).told _ u w (takes_all.opens m t (hidden_beside target token) (Ok f) q opens).1 here now free in
          let (none, made) = new_at u.tree path edit allowed in
          let did : Edited (makes path File []) u w = subst (λ e. EditedBy e u w) made edited in
          let (same_shown, links, stands) = opened_began view writes c test takes_all shown s t v w was now target token u m (Ok f) (Ok (upload_begun target token f)) here same free q opens one refl in
          let later : Leaves (λ n. n ≤ v.greatest) (IsNot path) u w = subst (λ g. Leaves (λ n. n ≤ g) (IsNot path) u w) same.greatest (leaves_made (IsNot path) u w path (λ x ne e. ne e) did) in
          new_left shown (view.state s) (view.state t) v w was now (takes_all.worlds s v was) (pending view.file.handle (upload_begun target token f) [])
          (but_then (view.file.handle f) (view.state s) (view.state m) (view.state t) (but_open (view.file.handle f) (view.state s) (view.state m) (open_kept (view.state s) (view.state m) keeps)) one.others)
          (leaves_then (λ n. n ≤ v.greatest) (IsNot path) v u w (leaves_same (λ n. n ≤ v.greatest) (IsNot path) v u same) later) (sym (keeps.live (view.file.handle f)) ∙ one.fresh) same_shown (takes_all.worlds t w now) stands

    judged_left : (fields : Fields) (r : Result (Upload F) UploadError) → Judges view c target fields token s r t → Left
    judged_left fields r j = by j.may j.opens
      where
        there : (u : World) × ((view.state j.judged).told ≡ Some u) × SameBesidesOpens v u
        there = told_after (view.state s).told (view.state j.judged).told SameBesidesOpens v j.keeps.world was

        by : (may : Given) → AfterJudging view c may target token j.judged r t → Left
        by (Err e) (same, is) =
            quiet (subst (λ x. KeepsOpen (view.state s) (view.state x)) (sym same) (open_kept (view.state s) (view.state j.judged) j.keeps))
            (same_besides_then v there.0 w there.2 (still_world j.judged t there.0 w same there.1 now))
        by (Ok outcome) (opened, opens, one, is) = opened_left j.judged there.0 j.keeps there.1 there.2 (judged_plain view writes c test takes_all target fields s j.may j.judged p j.judges) opened opens one

    pub begin_left : (fields : Fields) (r : Result (Upload F) UploadError) → Begins view c target fields token s r t → Left
    begin_left fields r begins = by (is_taken target) begins
      where
        by : (b : Bool) → BeginsAs view c b target fields token s r t → Left
        by true (same, is) = quiet (still_open s t same) (still_world s t v w same was now)
        by false (inl (same, is)) = quiet (still_open s t same) (still_world s t v w same was now)
        by false (inr j) = judged_left fields r j

  -- ---- a piece

  pub piece_left : (shown : ℕ → Bool) (u x : Upload F) (s t : S) (v w : World) (bytes pieces : List ℕ) (r : Result Unit UploadError) → (view.state s).told ≡ Some v → (view.state t).told ≡ Some w
      → StandsIn shown (view.state s).live v (pending view.file.handle u pieces) → WritesPiece view writes u bytes s r t x
      → LeavesOthers shown (Some (view.file.handle u.file)) (IsNot u.hidden.names) (view.state s).live (view.state t).live v w
  piece_left shown u x s t v w bytes pieces r was now stands piece_so = by u.broken refl piece_so
    where
      world : IsWorld v
      world = takes_all.worlds s v was

      after : Pieced shown (view.state t).live (pending view.file.handle x (pieces ++ bytes)) v w
      after = pieced view writes c test takes_all shown u x s t v w bytes pieces r was now stands piece_so

      filled : (y : Result Unit FsError) → WritesAt (view.file.handle u.file) bytes y stands.held v w → Leaves (λ n. n ≢ stands.held.number) (IsNot u.hidden.names) v w
      filled (Ok z) (edited, opens) = leaves_filled (IsNot u.hidden.names) v w stands.held.number _ edited
      filled (Err e) (n, open_now, edited, opens, number) = leaves_filled (IsNot u.hidden.names) v w stands.held.number _ edited

      by : (b : Bool) → u.broken ≡ b → PieceOn view writes b u bytes s r t x → LeavesOthers shown (Some (view.file.handle u.file)) (IsNot u.hidden.names) (view.state s).live (view.state t).live v w
      by true e (same, is, refused) =
          left_but shown (view.file.handle u.file) (IsNot u.hidden.names) (view.state s).live (view.state t).live v w
          (quiet_left shown (IsNot u.hidden.names) (view.state s) (view.state t) v w was now world (still_open s t same) (still_world s t v w same was now))
      by false e (y, file, writes_so, is, answer) =
          let within : stands.held.place ≤ length (bytes_of v stands.held.number) = (let (a, b) = stands.whole e in let long = ap length a in omega (arith, long, b)) in
          let did = told_pair (view.state s).told (view.state t).told _ v w
          (takes_all.writes_file s t u.file file bytes y writes_so (never_appends view writes c test takes_all ((view.state s).live (view.file.handle u.file)) stands.how)) was now stands.held stands.opens within in
          let own : view.file.handle x.file ≡ view.file.handle u.file = ap (λ (z : Upload F). view.file.handle z.file) is ∙ writes_so.handle in
          let hidden : x.hidden.names ≡ u.hidden.names = ap (λ (z : Upload F). z.hidden.names) is in
          let now_stands : StandsIn shown (view.state t).live w (record { hidden = u.hidden.names; handle = view.file.handle u.file; broken = x.broken; pieces = pieces ++ bytes }) =
          subst (λ k. StandsIn shown (view.state t).live w (record { hidden = u.hidden.names; handle = k; broken = x.broken; pieces = pieces ++ bytes })) own
          (subst (λ p. StandsIn shown (view.state t).live w (record { hidden = p; handle = view.file.handle x.file; broken = x.broken; pieces = pieces ++ bytes })) hidden after.2) in
          written_left shown (view.state s) (view.state t) v w was now world (pending view.file.handle u pieces) writes_so.told.keeps stands x.broken (pieces ++ bytes) (filled y did) after.0 (takes_all.worlds t w now) now_stands

  -- ---- the end of an upload

  module _ (shown : ℕ → Bool) (u : Upload F) (s t : S) (v w : World) (pieces : List ℕ) (was : (view.state s).told ≡ Some v) (now : (view.state t).told ≡ Some w)
      (stands : StandsIn shown (view.state s).live v (pending view.file.handle u pieces)) (p : plain s) where
    abbrev pub h : ℕ
    h = view.file.handle u.file

    abbrev pub hidden : Names
    hidden = u.hidden.names

    abbrev pub LeftEnded : Type 0
    LeftEnded = LeavesOthers shown (Some h) (IsNot hidden) (view.state s).live (view.state t).live v w

    -- What the end made of the world: the hidden file was taken or left, or moved.
    data Did : Type 0 where
      stayed : (x : World) → SameBesidesOpens v x → Took hidden x w → Did
      went : (x y : World) → SameBesidesOpens v x → StandsBeside x hidden u.target.names stands.row → Edited (moves hidden u.target.names) x y → SameBesidesOpens y w → Did

    unseen_went : (x y : World) (n : ℕ) → StandsBeside x hidden u.target.names stands.row → Edited (moves hidden u.target.names) x y → n ≢ stands.row.number → IsUnseen x n → IsUnseen y n
    unseen_went x y n beside edited ne unseen path r at shows = by (same_names path u.target.names) refl
      where
        by : (b : Bool) → same_names path u.target.names ≡ b → r.number ≢ n
        by true e f =
            let here : path ≡ u.target.names = names_same path u.target.names e in
            ne (sym f ∙ moved_number x y hidden u.target.names stands.row beside edited r (ap (row_at y.tree) (sym here) ∙ at))
        by false e f =
            unseen_at x y n path ((moved_commits x y hidden u.target.names stands.row beside edited).others path (λ g. never (same_names path u.target.names) (names_equal path u.target.names g) e)) unseen r at shows f

    did_left : KeepsOpenBut h (view.state s) (view.state t) → (view.state t).live h ≡ None → Did → LeftEnded
    did_left keeps gone did = ended_left shown (view.state s) (view.state t) v w was now (takes_all.worlds s v was) (pending view.file.handle u pieces) keeps stands (leaves did) gone (unseen did)
      where
        leaves : Did → Leaves IsOfAny (IsHiddenBut hidden) v w
        leaves (stayed x same took) = leaves_then IsOfAny (IsHiddenBut hidden) v x w (leaves_same IsOfAny (IsHiddenBut hidden) v x same) (elim took [
          | inl (there, edited) ↦ leaves_taken IsOfAny (IsHiddenBut hidden) x w hidden there.alone (λ q (ne, hides) e. ne e) edited
          | inr kept ↦ leaves_same IsOfAny (IsHiddenBut hidden) x w kept
        ])
        leaves (went x y same beside edited kept) =
            leaves_then IsOfAny (IsHiddenBut hidden) v y w
            (leaves_then IsOfAny (IsHiddenBut hidden) v x y (leaves_same IsOfAny (IsHiddenBut hidden) v x same)
            (leaves_moved IsOfAny (IsHiddenBut hidden) x y hidden u.target.names beside.alone beside.over (λ q (ne, hides). (λ e. ne e, λ e. never (is_hidden_path q) hides (ap is_hidden_path e ∙ beside.shows))) edited))
            (leaves_same IsOfAny (IsHiddenBut hidden) y w kept)

        unseen : Did → (n : ℕ) → n ≢ stands.held.number → IsUnseen v n → IsUnseen w n
        unseen (stayed x same took) n ne was_unseen =
            unseen_same x w n (elim took [ inl (there, edited) ↦ taken_unseen x w hidden there edited | inr kept ↦ kept_unseen x w kept ]) (unseen_same v x n (kept_unseen v x same) was_unseen)
        unseen (went x y same beside edited kept) n ne was_unseen =
            unseen_same y w n (kept_unseen y w kept) (unseen_went x y n beside edited (λ e. ne (e ∙ stands.number)) (unseen_same v x n (kept_unseen v x same) was_unseen))

    -- ---- the worlds on the way

    record Waits (m : S) : Type 0 where
      world : World
      here : (view.state m).told ≡ Some world
      same : SameBesidesOpens v world
      plainly : plain m

    closed_waits : (closed : S) → Closes view s u.file closed → Waits closed
    closed_waits closed closes =
        let (x, here, same) = told_after (view.state s).told (view.state closed).told SameBesidesOpens v closes.done.keeps.world was in
        record { world = x; here = here; same = same; plainly = takes_all.lends s closed p closes.lent.store }

    row_waits : (m : S) (x : Waits m) → row_at x.world.tree hidden ≡ Some stands.row
    row_waits m x = ap (λ tree. row_at tree hidden) x.same.tree ∙ stands.at

    removed_did : (m : S) (x : Waits m) (r : Result Unit FsError) → is_linked v.tree hidden ≡ false → view.removes_file m c u.hidden r t → Did
    removed_did m x r clear removes =
        stayed x.world x.same (hidden_took x.world w hidden r (takes_all.worlds m x.world x.here) stands.hides (ap (λ tree. is_linked tree hidden) x.same.tree ∙ clear)
        (told_pair (view.state m).told (view.state t).told _ x.world w (takes_all.removes m t u.hidden r x.plainly removes).1 x.here now (ap (λ tree. is_linked tree hidden) x.same.tree ∙ clear)))

    ended_keeps : (closed : S) → Closes view s u.file closed → KeepsOpen (view.state closed) (view.state t) → KeepsOpenBut h (view.state s) (view.state t) × ((view.state t).live h ≡ None)
    ended_keeps closed closes keeps = (
      but_then h (view.state s) (view.state closed) (view.state t) (but_kept h (view.state s) (view.state closed) closes.done.keeps) (but_open h (view.state closed) (view.state t) keeps),
      keeps.live h ∙ closes.done.live,
    )

    pub abort_left : (r : Result Unit UploadError) → is_linked v.tree hidden ≡ false → Aborts view c u s r t → LeftEnded
    abort_left r clear aborts =
        let (keeps, gone) = ended_keeps aborts.closed aborts.closes aborts.keeps in
        did_left keeps gone (removed_did aborts.closed (closed_waits aborts.closed aborts.closes) aborts.answer clear aborts.removes)

    -- ---- commit

    after_move_keeps : (k : S) (r : Result Unit FsError) (outcome : Outcome) (result : Result Outcome UploadError) → AfterMove view c r outcome u.hidden k result t → KeepsOpen (view.state k) (view.state t)
    after_move_keeps k (Ok x) outcome result (same, is) = still_open k t same
    after_move_keeps k (Err e) outcome result ((r, removes, keeps), is) = keeps

    after_judged_keeps : (m : S) (may : Given) (result : Result Outcome UploadError) → AfterJudged view c may u.target u.hidden m result t → KeepsOpen (view.state m) (view.state t)
    after_judged_keeps m (Err e) result ((r, removes, keeps), is) = keeps
    after_judged_keeps m (Ok outcome) result (r, k, renames, keeps, after) = open_then (view.state m) (view.state k) (view.state t) keeps (after_move_keeps k r outcome result after)

    after_close_keeps : (closed : S) (b : Bool) (fields : Fields) (result : Result Outcome UploadError) → AfterClose view c b u.target u.hidden fields closed result t → KeepsOpen (view.state closed) (view.state t)
    after_close_keeps closed true fields result ((r, removes, keeps), is) = keeps
    after_close_keeps closed false fields result (may, m, judges, keeps, after) = open_after (view.state closed) (view.state m) (view.state t) keeps (after_judged_keeps m may result after)

    module _ (beside : IsBeside u.target.names u.hidden.names) (clear : IsClear v u.target.names u.hidden.names) where
      differ : hidden ≡ u.target.names → ⊥
      differ e = never (is_hidden_path u.target.names) (ap is_hidden_path (sym e) ∙ stands.hides) beside.shows

      -- The move was made, or changed nothing.
      abbrev Moved : World → World → Type 0
      Moved x z = (StandsBeside x hidden u.target.names stands.row × Edited (moves hidden u.target.names) x z) ⊎ SameBesidesOpens x z

      moved : (m k : S) (x : Waits m) (z : World) → (view.state k).told ≡ Some z → (r : Result Unit FsError) → view.renames m c u.hidden u.target r k → Moved x.world z
      moved m k x z there r renames =
          let world = takes_all.worlds m x.world x.here in
          let at = row_waits m x in
          let free = ap (λ tree. is_linked tree hidden) x.same.tree ∙ clear.to_hidden in
          let open_way = ap (λ tree. is_linked tree u.target.names) x.same.tree ∙ clear.to_target in
          let ends = told_pair (view.state m).told (view.state k).told _ x.world z (takes_all.moves m k u.hidden u.target r x.plainly renames).1 x.here there free open_way stands.row at stands.kind in
          let long = named_long u.target.names beside.named in
          let may = may_move x.world hidden u.target.names stands.row world at stands.kind (hidden_some hidden stands.hides) long differ in
          elim (moved_or_left x.world z hidden u.target.names r may ends) [
            | inl (edited, no_dir, done) ↦ inl (file_beside x.world hidden u.target.names stands.row world stands.hides beside.shows beside.beside long at stands.kind no_dir, edited)
            | inr (same, never_ok) ↦ inr same
          ]

      did_moved : (m k : S) (x : Waits m) (z : World) → (view.state k).told ≡ Some z → plain k → Moved x.world z → (r : Result Unit FsError) (outcome : Outcome) (result : Result Outcome UploadError)
          → AfterMove view c r outcome u.hidden k result t → Did
      did_moved m k x z there q (inl (so, edited)) (Ok y) outcome result (same, is) = went x.world z x.same so edited (still_world k t z w same there now)
      did_moved m k x z there q (inr kept) (Ok y) outcome result (same, is) = stayed z (same_besides_then v x.world z x.same kept) (inr (still_world k t z w same there now))
      did_moved m k x z there q (inl (so, edited)) (Err e) outcome result ((r, removes, keeps), is) =
          let free = ap (λ tree. is_linked tree hidden) x.same.tree ∙ clear.to_hidden in
          let none = moved_gone x.world z hidden u.target.names stands.row so differ edited in
          let open_now = unlinked_after x.world z hidden u.target.names stands.row so free edited in
          went x.world z x.same so edited (none_taken z w hidden r none (told_pair (view.state k).told (view.state t).told _ z w (takes_all.removes k t u.hidden r q removes).1 there now open_now))
      did_moved m k x z there q (inr kept) (Err e) outcome result ((r, removes, keeps), is) =
          removed_did k (record { world = z; here = there; same = same_besides_then v x.world z x.same kept; plainly = q }) r clear.to_hidden removes

      did_judged : (m : S) (x : Waits m) (may : Given) (result : Result Outcome UploadError) → AfterJudged view c may u.target u.hidden m result t → Did
      did_judged m x (Err e) result ((r, removes, keeps), is) = removed_did m x r clear.to_hidden removes
      did_judged m x (Ok outcome) result (r, k, renames, keeps, after) =
          let moves_told = takes_all.moves m k u.hidden u.target r x.plainly renames in
          let (z, there, so) = told_after (view.state m).told (view.state k).told _ x.world moves_told.1 x.here in
          did_moved m k x z there moves_told.0 (moved m k x z there r renames) r outcome result after

      judged_waits : (m k : S) (x : Waits m) (fields : Fields) (may : Given) → MayPut view c u.target fields m may k → Keeps (view.state m) (view.state k) → Waits k
      judged_waits m k x fields may judges keeps =
          let (y, here, same) = told_after (view.state m).told (view.state k).told SameBesidesOpens x.world keeps.world x.here in
          record { world = y; here = here; same = same_besides_then v x.world y x.same same; plainly = judged_plain view writes c test takes_all u.target fields m may k x.plainly judges }

      pub commit_left : (fields : Fields) (result : Result Outcome UploadError) → Commits view c u fields s result t → LeftEnded
      commit_left fields result commits =
          let (keeps, gone) = ended_keeps commits.closed commits.closes (after_close_keeps commits.closed u.broken fields result commits.ends) in
          did_left keeps gone (by u.broken commits.ends)
        where
          x : Waits commits.closed
          x = closed_waits commits.closed commits.closes

          by : (b : Bool) → AfterClose view c b u.target u.hidden fields commits.closed result t → Did
          by true ((r, removes, keeps), is) = removed_did commits.closed x r clear.to_hidden removes
          by false (may, m, judges, keeps, after) = did_judged m (judged_waits commits.closed m x fields may judges keeps) may result after
