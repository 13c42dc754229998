-- The steps of an upload over a store whose calls do what the tree allows.
use Rattle.std.proofs.Common.{◌≡◌, ◌≢◌, ◌⊎◌, ◌≤◌, ◌<◌, ◌+◌, ◌++◌, inl, inr, ℕ, List, [], ◌∷◌, length, Bool, true, false, Option, None, Some, Result, Ok, Err, refl, sym, ap, subst, ◌∙◌, arith, length-append}
use Rattle.dav_io.specs.Told.{Both}
use Rattle.dav_core.specs.declared.error.FsError.{FsError}
use Rattle.dav_core.specs.declared.error.FsError.TheVariants as fs
use Rattle.dav_core.specs.declared.handle.DiskError.{DiskError}
use Rattle.dav_core.specs.declared.tree.Kind.TheVariants.{File}
use Rattle.dav_core.specs.declared.tree.Row.{Row}
use Rattle.dav_core.specs.Allowed.{opening, opening_at, place}
use Rattle.dav_core.specs.DavPath.{WebPath}
use Rattle.dav_core.specs.Disk.{Live}
use Rattle.dav_core.specs.Edits.{Edit, EditedBy, Edited, makes}
use Rattle.dav_core.specs.Info.{Info}
use Rattle.dav_core.specs.Path.{Names}
use Rattle.dav_core.specs.Tree.{is_linked, row_at}
use Rattle.dav_core.specs.Unchanged.{Keeps}
use Rattle.dav_core.specs.World.{Holds, SameBesidesOpens, World, bytes_of}
use Rattle.dav_core.specs.Writing.{appends, written}
use Rattle.dav_core.proofs.UnchangedLemmas.{same_besides_then}
use Rattle.dav_store.specs.Frames.{OpensOne}
use Rattle.dav_store.specs.View.{Closes, View}
use Rattle.dav_model.specs.declared.outcome.Outcome.{Outcome}
use Rattle.dav_model.specs.Conditions.{Fields}
use Rattle.dav_walks.specs.Lines.{Line, fails_when}
use Rattle.dav_methods.specs.Lines.{Given, done_over, may_put, no_parent, unless}
use Rattle.dav_walks.specs.Pouring.{Writes, WritesFile}
use Rattle.dav_methods.specs.Putting.{MayPut, MayReplace}
use Rattle.dav_methods.specs.Table.{Below, Ends, Looks, Next, Run, Unless}
use Rattle.dav_upload.specs.declared.error.UploadError.{UploadError}
use Rattle.dav_upload.specs.declared.upload.Upload.{Upload}
use Rattle.dav_upload.specs.Ends.{WritesAt, is_spoiled}
use Rattle.dav_upload.specs.Names.{hidden_beside, is_hidden_path, is_taken}
use Rattle.dav_upload.specs.Pieces.{upload_options}
use Rattle.dav_upload.specs.Shown.{IsCommitted, IsHiddenIn, SameShown, StandsBeside}
use Rattle.dav_upload.specs.Standing.{OthersOpen, StandsIn, pending}
use Rattle.dav_upload.specs.Steps.{Began, Committed, IsBeside, IsClear, Pieced, SameLinks, is_fault}
use Rattle.dav_upload.specs.Takes.{TakesUploads}
use Rattle.dav_upload.specs.Uploading.{AfterClose, AfterJudged, AfterJudging, AfterMove, Aborts, Begins, BeginsAs, Commits, Judges, PieceOn, WritesPiece, done_as, is_refused, opened_as, refused_by}
use Rattle.dav_upload.proofs.Beside.{below_greatest, file_beside, file_hidden, none_hidden, placed_above, hidden_some}
use Rattle.dav_upload.proofs.Ends.{MayBeDone, may_move, moved_or_left, none_taken, surely_taken, taken_gone, taken_or_left, unlinked_after, edit_of}
use Rattle.dav_upload.proofs.Hiding.{taken_unseen}
use Rattle.dav_upload.proofs.Making.{filled_unseen, kept_unseen, made_unseen, written_behind}
use Rattle.dav_upload.proofs.Kept.{same_keep}
use Rattle.dav_upload.proofs.Links.{links_filled, links_kept, links_made, links_same, links_then}
use Rattle.dav_upload.proofs.Moving.{moved_commits, moved_gone, never, numbered}
use Rattle.dav_upload.proofs.Stands.{made_stands, written_stands}
use Rattle.dav_upload.proofs.Tokens.{beside_hides}
use Rattle.dav_io.proofs.ToldLemmas.{told_after}
use Rattle.dav_core.proofs.PlaceLemmas.{placed_row}

-- ---- what is told

pub told_pair : {A : Type 0} (a b : Option A) (P : A → A → Type 0) (v w : A) → Both a b P → a ≡ Some v → b ≡ Some w → P v w
told_pair None b P v w both e f = cc
told_pair (Some x) None P v w both e f = cc
told_pair (Some x) (Some y) P v w both e f = let g : x ≡ v = cc in let h : y ≡ w = cc in subst (λ z. P z w) g (subst (λ z. P x z) h both)

pub one_told : {A : Type 0} (o : Option A) (v w : A) → o ≡ Some v → o ≡ Some w → v ≡ w
one_told o v w e f = let g : Some v ≡ Some w = sym e ∙ f in cc

-- ---- what is shown

pub shown_then : (u v w : World) → SameShown u v → SameShown v w → SameShown u w
shown_then u v w a b p = b p ∙ a p

pub shown_same : (v w : World) → v ≡ w → SameShown v w
shown_same v w e = subst (SameShown v) e (λ p. refl)

-- a commit between worlds that are shown alike
pub commit_between : (u v w x : World) (target : Names) (pieces : List ℕ) → SameShown u v → IsCommitted v target pieces w → SameShown w x → IsCommitted u target pieces x
commit_between u v w x target pieces a is b = record {
  others = λ p ne. b p ∙ (is.others p ne ∙ a p);
  row = is.row;
  shown = b target ∙ is.shown;
  kind = is.kind;
  bytes = is.bytes;
}

-- a fault of the store is one of the upload
spoiled_fault : (e : FsError) → is_spoiled e ≡ true → is_fault (refused_by e) ≡ true
spoiled_fault fs.GeneralFailure f = refl
spoiled_fault fs.NoMemory f = refl
spoiled_fault other f = cc

-- ---- an opening of the hidden name

pub new_at : (tree : List Row) (path : Names) (edit : Option Edit) → opening tree path upload_options ≡ Ok edit → (place tree path ≡ Ok None) × (edit ≡ Some (makes path File []))
new_at tree path edit e = by (place tree path) refl e
  where
    by : (o : Result (Option Row) DiskError) → place tree path ≡ o → opening_at upload_options path o ≡ Ok edit → (place tree path ≡ Ok None) × (edit ≡ Some (makes path File []))
    by (Err d) f g = cc
    by (Ok (Some row)) f g = cc
    by (Ok None) f g = (f, sym (edit_of (Some (makes path File [])) edit g))

pub named_long : (p : Names) → p ≢ [] → 0 < length p
named_long [] ne = absurd (ne refl)
named_long (x ∷ p) ne = omega arith

module _ {S C F : Type 0} (view : View S C F) (writes : Writes F) (c : C) (test : S → Bool) (takes_all : TakesUploads view writes c test) where
  abbrev plain : S → Type 0
  plain s = test s ≡ true

  -- ---- judging keeps how paths are found

  unless_plain : (line : Line) (run : Run S) (s : S) (r : Given) (t : S) → (run s r t → plain t) → plain s → Unless line run s r t → plain t
  unless_plain (Ok x) run s r t goes p h = goes h
  unless_plain (Err e) run s r t goes p (same, is) = subst plain (sym same) p

  next_plain : (run : Run S) (s : S) (r : Given) (t : S) → (run s r t → plain t) → plain s → Next run s r t → plain t
  next_plain run s r t goes p (inl (same, is)) = subst plain (sym same) p
  next_plain run s r t goes p (inr h) = goes h

  looks_plain : (path : WebPath) (run : Result Info FsError → Run S) (s : S) (r : Given) (t : S) → ((found : Result Info FsError) (m : S) → plain m → run found m r t → plain t) → plain s → Looks view c path run s r t → plain t
  looks_plain path run s r t goes p (found, m, looks, after) =
      let q = takes_all.looks s m path found p looks in
      next_plain (run found) m r t (goes found m q) q after

  ends_plain : (given : Given) (s : S) (r : Given) (t : S) → plain s → Ends given s r t → plain t
  ends_plain given s r t p (same, is) = subst plain (sym same) p

  pub judged_plain : (path : WebPath) (fields : Fields) (s : S) (r : Given) (t : S) → plain s → MayPut view c path fields s r t → plain t
  judged_plain path fields s r t p may =
      unless_plain (fails_when path.slash 405) (Next (Below view c path (MayReplace view c path fields))) s r t
      (next_plain (Below view c path (MayReplace view c path fields)) s r t
      (looks_plain _ (λ up. Unless (no_parent up) (MayReplace view c path fields)) s r t
      (λ up m q. unless_plain (no_parent up) (MayReplace view c path fields) m r t
      (looks_plain path (λ found. Ends (unless (may_put fields found) (done_over found))) m r t (λ found n x ends. ends_plain (unless (may_put fields found) (done_over found)) n r t x ends) q) q) p) p) p may

  -- ---- begin

  module _ (shown : ℕ → Bool) (s t : S) (v w : World) (was : (view.state s).told ≡ Some v) (now : (view.state t).told ≡ Some w) where
    pub opened_began : (target : WebPath) (token : ℕ) (u : World) (m : S) (opened : Result F FsError) (r : Result (Upload F) UploadError) → (view.state m).told ≡ Some u → SameBesidesOpens v u
        → is_linked u.tree (hidden_beside target token).names ≡ false → plain m → view.opens m c (hidden_beside target token) upload_options opened t
        → OpensOne view.file upload_options (view.state m) opened (view.state t) → r ≡ opened_as target token opened → Began shown view.file.handle (view.state t).live r v w
    opened_began target token u m (Err e) r here same clear p opens one is =
        let told = told_pair (view.state m).told (view.state t).told _ u w (takes_all.opens m t (hidden_beside target token) (Err e) p opens).1 here now in
        subst (λ x. Began shown view.file.handle (view.state t).live x v w) (sym is) (shown_then v u w (kept_unseen v u same) (kept_unseen u w (told clear)))
    opened_began target token u m (Ok f) r here same clear p opens one is =
        let path = (hidden_beside target token).names in
        let (edit, row, allowed, edited, at, open_at, of_kind) = told_pair (view.state m).told (view.state t).told _ u w (takes_all.opens m t (hidden_beside target token) (Ok f) p opens).1 here now clear in
        let (free, made) = new_at u.tree path edit allowed in
        let did : Edited (makes path File []) u w = subst (λ e. EditedBy e u w) made edited in
        let world = takes_all.worlds m u here in
        let hides = beside_hides target token in
        let none = placed_row u.tree path None free in
        let hidden : IsHiddenIn u path = none_hidden u path world hides none (placed_above u.tree path None (hidden_some path hides) free) in
        let unseen : SameShown u w = made_unseen u w path [] hidden (below_greatest u world) did in
        let others : OthersOpen (view.file.handle f) (view.state m).live (view.state t).live u w = record {
          lives = one.others.live;
          opens = λ k l ne alive. told_pair (view.state m).told (view.state t).told _ u w (one.others.opens k l ne alive) here now;
        } in
        subst (λ x. Began shown view.file.handle (view.state t).live x v w) (sym is) (
          shown_then v u w (kept_unseen v u same) unseen,
          links_then v u w (links_kept v u same) (links_made u w path [] did),
          made_stands shown (view.file.handle f) (view.state m).live (view.state t).live u w others path (view.file.handle f) row world hides none did unseen at refl one.live one.options of_kind open_at,
        )

    refused_began : (r : Result (Upload F) UploadError) (e : UploadError) → r ≡ Err e → SameShown v w → Began shown view.file.handle (view.state t).live r v w
    refused_began r e is same = subst (λ x. Began shown view.file.handle (view.state t).live x v w) (sym is) same

    stays_told : (m : S) → t ≡ m → (u : World) → (view.state m).told ≡ Some u → u ≡ w
    stays_told m same u here = one_told (view.state m).told u w here (sym (ap (λ x. (view.state x).told) same) ∙ now)

    pub began : (target : WebPath) (fields : Fields) (token : ℕ) (r : Result (Upload F) UploadError) → plain s → is_linked v.tree (hidden_beside target token).names ≡ false
        → Begins view c target fields token s r t → Began shown view.file.handle (view.state t).live r v w
    began target fields token r p clear begins = by (is_taken target) begins
      where
        judged : Judges view c target fields token s r t → Began shown view.file.handle (view.state t).live r v w
        judged j = by_may j.may j.opens
          where
            there : (u : World) × ((view.state j.judged).told ≡ Some u) × SameBesidesOpens v u
            there = told_after (view.state s).told (view.state j.judged).told SameBesidesOpens v j.keeps.world was

            by_may : (may : Given) → AfterJudging view c may target token j.judged r t → Began shown view.file.handle (view.state t).live r v w
            by_may (Err e) (same, is) = refused_began r _ is (shown_then v there.0 w (kept_unseen v there.0 there.2) (shown_same there.0 w (stays_told j.judged same there.0 there.1)))
            by_may (Ok outcome) (opened, opens, one, is) =
                opened_began target token there.0 j.judged opened r there.1 there.2
                (ap (λ tree. is_linked tree (hidden_beside target token).names) there.2.tree ∙ clear) (judged_plain target fields s j.may j.judged p j.judges) opens one is

        by : (b : Bool) → BeginsAs view c b target fields token s r t → Began shown view.file.handle (view.state t).live r v w
        by true (same, is) = refused_began r _ is (shown_same v w (stays_told s same v was))
        by false (inl (same, is)) = refused_began r _ is (shown_same v w (stays_told s same v was))
        by false (inr j) = judged j

  -- ---- a piece

  pub never_appends : (o : Option Live) → ((l : Live) → o ≡ Some l → l.how ≡ upload_options) → appends o ≡ false
  never_appends None how = refl
  never_appends (Some l) how = rw (how l refl) refl

  pub pieced : (shown : ℕ → Bool) (u x : Upload F) (s t : S) (v w : World) (bytes pieces : List ℕ) (r : Result Unit UploadError) → (view.state s).told ≡ Some v → (view.state t).told ≡ Some w
      → StandsIn shown (view.state s).live v (pending view.file.handle u pieces) → WritesPiece view writes u bytes s r t x → Pieced shown (view.state t).live (pending view.file.handle x (pieces ++ bytes)) v w
  pieced shown u x s t v w bytes pieces r was now stands writes_piece = by u.broken refl writes_piece
    where
      any_pieces : (broken : Bool) → u.broken ≡ broken → broken ≡ true → StandsIn shown (view.state s).live v (pending view.file.handle u (pieces ++ bytes))
      any_pieces broken e f = record {
        lives = stands.lives;
        how = stands.how;
        file = stands.file;
        held = stands.held;
        opens = stands.opens;
        row = stands.row;
        at = stands.at;
        kind = stands.kind;
        number = stands.number;
        hides = stands.hides;
        unseen = stands.unseen;
        apart = stands.apart;
        whole = λ g. never u.broken (e ∙ f) g;
      }

      by_result : (y : Result Unit FsError) (file : F) → u.broken ≡ false → WritesFile view writes s u.file bytes y t file → x ≡ record u { file = file; broken = is_refused y }
          → Pieced shown (view.state t).live (pending view.file.handle x (pieces ++ bytes)) v w
      by_result y file whole writes_so is = by_answer y writes_so is
        where
          h : ℕ
          h = view.file.handle u.file

          others : (y : Result Unit FsError) → WritesFile view writes s u.file bytes y t file → OthersOpen h (view.state s).live (view.state t).live v w
          others y so = record {
            lives = so.told.keeps.live;
            opens = λ k l ne alive. told_pair (view.state s).told (view.state t).told _ v w (so.told.keeps.opens k l ne alive) was now;
          }

          within : stands.held.place ≤ length (bytes_of v stands.held.number)
          within = let (a, b) = stands.whole whole in let long = ap length a in omega (arith, long, b)

          did : (y : Result Unit FsError) → WritesFile view writes s u.file bytes y t file → WritesAt h bytes y stands.held v w
          did y so =
              told_pair (view.state s).told (view.state t).told _ v w (takes_all.writes_file s t u.file file bytes y so (never_appends ((view.state s).live h) stands.how)) was now stands.held stands.opens within

          there : (y : Result Unit FsError) (wrong : Bool) → WritesFile view writes s u.file bytes y t file → is_refused y ≡ wrong → x ≡ record u { file = file; broken = is_refused y } → SameShown v w → SameLinks v w
              → StandsIn shown (view.state t).live w (record { hidden = u.hidden.names; handle = h; broken = wrong; pieces = pieces ++ bytes }) → Pieced shown (view.state t).live (pending view.file.handle x (pieces ++ bytes)) v w
          there y wrong so e is same links stands_now =
              subst (λ z. Pieced shown (view.state t).live (pending view.file.handle z (pieces ++ bytes)) v w) (sym is) (
                same,
                links,
                subst (λ b. StandsIn shown (view.state t).live w (record { hidden = u.hidden.names; handle = view.file.handle file; broken = b; pieces = pieces ++ bytes })) (sym e)
                    (subst (λ k. StandsIn shown (view.state t).live w (record { hidden = u.hidden.names; handle = k; broken = wrong; pieces = pieces ++ bytes })) (sym so.handle) stands_now),
              )

          by_answer : (y : Result Unit FsError) → WritesFile view writes s u.file bytes y t file → x ≡ record u { file = file; broken = is_refused y } → Pieced shown (view.state t).live (pending view.file.handle x (pieces ++ bytes)) v w
          by_answer (Ok z) so is =
              let (edited, opens) = did (Ok z) so in
              let (all, place) = stands.whole whole in
              let text : written stands.held.place bytes (bytes_of v stands.held.number) ≡ pieces ++ bytes =
              ap (λ p. written p bytes (bytes_of v stands.held.number)) place ∙ (ap (written (length pieces) bytes) all ∙ written_behind bytes pieces) in
              there (Ok z) false so refl is (filled_unseen v w stands.held.number _ stands.unseen edited) (links_filled v w stands.held.number _ edited)
              (written_stands shown h (view.state s).live (view.state t).live v w (others (Ok z) so) (pending view.file.handle u pieces) false (pieces ++ bytes) stands
              (record stands.held { place = stands.held.place + length bytes }) _ refl edited so.told.live opens refl
              (λ e. (text, ap (λ p. p + length bytes) place ∙ sym (length-append pieces bytes))))
          by_answer (Err e) so is =
              let (n, open_now, edited, opens, number) = did (Err e) so in
              there (Err e) true so refl is (filled_unseen v w stands.held.number _ stands.unseen edited) (links_filled v w stands.held.number _ edited)
              (written_stands shown h (view.state s).live (view.state t).live v w (others (Err e) so) (pending view.file.handle u pieces) true (pieces ++ bytes) stands open_now _ refl edited so.told.live opens number (λ f. cc))

      by : (b : Bool) → u.broken ≡ b → PieceOn view writes b u bytes s r t x → Pieced shown (view.state t).live (pending view.file.handle x (pieces ++ bytes)) v w
      by true e (same, is, refused) =
          let world : v ≡ w = one_told (view.state s).told v w was (sym (ap (λ y. (view.state y).told) same) ∙ now) in
          subst (λ z. Pieced shown (view.state t).live (pending view.file.handle z (pieces ++ bytes)) v w) (sym is) (
            shown_same v w world,
            links_same v w world,
            subst (λ y. StandsIn shown (view.state y).live w (pending view.file.handle u (pieces ++ bytes))) (sym same)
                (subst (λ z. StandsIn shown (view.state s).live z (pending view.file.handle u (pieces ++ bytes))) world (any_pieces true e refl)),
          )
      by false e (y, file, writes_so, is, answer) = by_result y file e writes_so is

  -- ---- the end of an upload

  -- the hidden file is taken, where that isn't refused
  pub removed : (hidden : WebPath) (m t : S) (y w : World) (row : Row) (r : Result Unit FsError) → (view.state m).told ≡ Some y → (view.state t).told ≡ Some w → plain m → is_hidden_path hidden.names ≡ true
      → row_at y.tree hidden.names ≡ Some row → row.kind ≡ File → is_linked y.tree hidden.names ≡ false → view.removes_file m c hidden r t → SameShown y w
  removed hidden m t y w row r here now p hides at kind clear removes =
      let world = takes_all.worlds m y here in
      let ends = told_pair (view.state m).told (view.state t).told _ y w (takes_all.removes m t hidden r p removes).1 here now clear in
      elim (taken_or_left y w hidden.names row r world at kind ends) [
        | inl edited ↦ taken_unseen y w hidden.names (file_hidden y hidden.names row world hides at kind) edited
        | inr same ↦ kept_unseen y w same
      ]

  module _ (shown : ℕ → Bool) (u : Upload F) (s t : S) (v w : World) (pieces : List ℕ) (was : (view.state s).told ≡ Some v) (now : (view.state t).told ≡ Some w)
      (stands : StandsIn shown (view.state s).live v (pending view.file.handle u pieces)) (p : plain s) where
    -- the world where the file was closed, or later, before anything was changed
    record Waits (m : S) : Type 0 where
      pub world : World
      pub here : (view.state m).told ≡ Some world
      pub same : SameBesidesOpens v world
      pub plainly : plain m

    closed_waits : (closed : S) → Closes view s u.file closed → Waits closed
    closed_waits closed closes =
        let (x, here, same) = told_after (view.state s).told (view.state closed).told SameBesidesOpens v closes.done.keeps.world was in
        record { world = x; here = here; same = same; plainly = takes_all.lends s closed p closes.lent.store }

    row_waits : (m : S) (x : Waits m) → row_at x.world.tree u.hidden.names ≡ Some stands.row
    row_waits m x = ap (λ tree. row_at tree u.hidden.names) x.same.tree ∙ stands.at

    removed_after : (m : S) (x : Waits m) (r : Result Unit FsError) → is_linked v.tree u.hidden.names ≡ false → view.removes_file m c u.hidden r t → SameShown v w
    removed_after m x r clear removes =
        shown_then v x.world w (kept_unseen v x.world x.same)
        (removed u.hidden m t x.world w stands.row r x.here now x.plainly stands.hides (row_waits m x) stands.kind (ap (λ tree. is_linked tree u.hidden.names) x.same.tree ∙ clear) removes)

    pub aborted : (r : Result Unit UploadError) → is_linked v.tree u.hidden.names ≡ false → Aborts view c u s r t → SameShown v w
    aborted r clear aborts = removed_after aborts.closed (closed_waits aborts.closed aborts.closes) aborts.answer clear aborts.removes

    bytes_wait : (m : S) (x : Waits m) → u.broken ≡ false → bytes_of x.world stands.row.number ≡ pieces
    bytes_wait m x whole =
        let holds : Holds x.world stands.row.number = inl (numbered x.world.tree u.hidden.names stands.row (row_waits m x)) in
        same_keep v x.world stands.row.number x.same holds ∙ (ap (bytes_of v) stands.number ∙ (stands.whole whole).0)

    module _ (beside : IsBeside u.target.names u.hidden.names) (clear : IsClear v u.target.names u.hidden.names) (whole : u.broken ≡ false) where
      differ : u.hidden.names ≡ u.target.names → ⊥
      differ e = never (is_hidden_path u.target.names) (ap is_hidden_path (sym e) ∙ stands.hides) beside.shows

      moved : (m k : S) (x : Waits m) (z : World) → (view.state k).told ≡ Some z → (r : Result Unit FsError) → view.renames m c u.hidden u.target r k
          → (IsCommitted x.world u.target.names pieces z × (row_at z.tree u.hidden.names ≡ None) × (is_linked z.tree u.hidden.names ≡ false) × MayBeDone r) ⊎ (SameBesidesOpens x.world z × (r ≡ Ok tt → ⊥))
      moved m k x z there r renames =
          let world = takes_all.worlds m x.world x.here in
          let at = row_waits m x in
          let free = ap (λ tree. is_linked tree u.hidden.names) x.same.tree ∙ clear.to_hidden in
          let open_way = ap (λ tree. is_linked tree u.target.names) x.same.tree ∙ clear.to_target in
          let ends = told_pair (view.state m).told (view.state k).told _ x.world z (takes_all.moves m k u.hidden u.target r x.plainly renames).1 x.here there free open_way stands.row at stands.kind in
          let long = named_long u.target.names beside.named in
          let may = may_move x.world u.hidden.names u.target.names stands.row world at stands.kind (hidden_some u.hidden.names stands.hides) long differ in
          elim (moved_or_left x.world z u.hidden.names u.target.names r may ends) [
            | inl (edited, no_dir, done) ↦
                let so : StandsBeside x.world u.hidden.names u.target.names stands.row =
                file_beside x.world u.hidden.names u.target.names stands.row world stands.hides beside.shows beside.beside long at stands.kind no_dir in
                inl (
                  subst (λ all. IsCommitted x.world u.target.names all z) (bytes_wait m x whole) (moved_commits x.world z u.hidden.names u.target.names stands.row so edited),
                  moved_gone x.world z u.hidden.names u.target.names stands.row so differ edited,
                  unlinked_after x.world z u.hidden.names u.target.names stands.row so free edited,
                  done,
                )
            | inr left ↦ inr left
          ]

      ends_moved : (m k : S) (x : Waits m) (z : World) → (view.state k).told ≡ Some z → plain k → (r : Result Unit FsError) → view.renames m c u.hidden u.target r k → (outcome : Outcome)
          (result : Result Outcome UploadError) → AfterMove view c r outcome u.hidden k result t → Committed u.target.names false pieces result v w
      ends_moved m k x z there q (Ok y) renames outcome result (same, is) =
          elim (moved m k x z there (Ok y) renames) [
            | inl (commits, none, free, done) ↦
                let end : z ≡ w = one_told (view.state k).told z w there (sym (ap (λ a. (view.state a).told) same) ∙ now) in
                subst (λ o. Committed u.target.names false pieces o v w) (sym is)
                (refl, commit_between v x.world z w u.target.names pieces (kept_unseen v x.world x.same) commits (shown_same z w end))
            | inr (same, never_ok) ↦ absurd (never_ok refl)
          ]
      ends_moved m k x z there q (Err e) renames outcome result ((r, removes, keeps), is) =
          subst (λ o. Committed u.target.names false pieces o v w) (sym is)
          (elim (moved m k x z there (Err e) renames) [
            | inl (commits, none, free, done) ↦
                let rest = none_taken z w u.hidden.names r none (told_pair (view.state k).told (view.state t).told _ z w (takes_all.removes k t u.hidden r q removes).1 there now free) in
                inr (spoiled_fault e done, commit_between v x.world z w u.target.names pieces (kept_unseen v x.world x.same) commits (kept_unseen z w rest))
            | inr (same, never_ok) ↦
                let y : Waits k = record { world = z; here = there; same = same_besides_then v x.world z x.same same; plainly = q } in
                inl (removed_after k y r clear.to_hidden removes)
          ])

      ends_judged : (m : S) (x : Waits m) (may : Given) (result : Result Outcome UploadError) → AfterJudged view c may u.target u.hidden m result t → Committed u.target.names false pieces result v w
      ends_judged m x (Err e) result ((r, removes, keeps), is) = subst (λ o. Committed u.target.names false pieces o v w) (sym is) (inl (removed_after m x r clear.to_hidden removes))
      ends_judged m x (Ok outcome) result (r, k, renames, keeps, after) =
          let moves_told = takes_all.moves m k u.hidden u.target r x.plainly renames in
          let (z, there, so) = told_after (view.state m).told (view.state k).told _ x.world moves_told.1 x.here in
          ends_moved m k x z there moves_told.0 r renames outcome result after

    judged_waits : (m k : S) (x : Waits m) (fields : Fields) (may : Given) → MayPut view c u.target fields m may k → Keeps (view.state m) (view.state k) → Waits k
    judged_waits m k x fields may judges keeps =
        let (y, here, same) = told_after (view.state m).told (view.state k).told SameBesidesOpens x.world keeps.world x.here in
        record { world = y; here = here; same = same_besides_then v x.world y x.same same; plainly = judged_plain u.target fields m may k x.plainly judges }

    pub committed : (fields : Fields) (result : Result Outcome UploadError) → IsBeside u.target.names u.hidden.names → IsClear v u.target.names u.hidden.names → Commits view c u fields s result t
        → Committed u.target.names u.broken pieces result v w
    committed fields result beside clear commits = by u.broken refl commits.ends
      where
        x : Waits commits.closed
        x = closed_waits commits.closed commits.closes

        by : (b : Bool) → u.broken ≡ b → AfterClose view c b u.target u.hidden fields commits.closed result t → Committed u.target.names u.broken pieces result v w
        by true e ((r, removes, keeps), is) =
            subst (λ b. Committed u.target.names b pieces result v w) (sym e)
            (subst (λ o. Committed u.target.names true pieces o v w) (sym is) (removed_after commits.closed x r clear.to_hidden removes))
        by false e (may, m, judges, keeps, after) =
            subst (λ b. Committed u.target.names b pieces result v w) (sym e)
            (ends_judged beside clear e m (judged_waits commits.closed m x fields may judges keeps) may result after)

    -- ---- the hidden name is gone

    module _ (outcome : Outcome) (beside : IsBeside u.target.names u.hidden.names) (clear : IsClear v u.target.names u.hidden.names) (whole : u.broken ≡ false) where
      gone_moved : (m k : S) (x : Waits m) (z : World) → (view.state k).told ≡ Some z → (r : Result Unit FsError) → view.renames m c u.hidden u.target r k → (given : Outcome)
          → AfterMove view c r given u.hidden k (Ok outcome) t → row_at w.tree u.hidden.names ≡ None
      gone_moved m k x z there (Ok y) renames given (same, is) =
          elim (moved beside clear whole m k x z there (Ok y) renames) [
            | inl (commits, none, free, done) ↦
                let end : z ≡ w = one_told (view.state k).told z w there (sym (ap (λ a. (view.state a).told) same) ∙ now) in
                subst (λ a. row_at a.tree u.hidden.names ≡ None) end none
            | inr (same, never_ok) ↦ absurd (never_ok refl)
          ]
      gone_moved m k x z there (Err e) renames given (removes, is) = absurd (no_ok is)
        where
          no_ok : {a : Outcome} {b : UploadError} → ◌≡◌ {A = Result Outcome UploadError} (Ok a) (Err b) → ⊥
          no_ok f = cc

      gone_judged : (m : S) (x : Waits m) (may : Given) → AfterJudged view c may u.target u.hidden m (Ok outcome) t → row_at w.tree u.hidden.names ≡ None
      gone_judged m x (Err e) (removes, is) = absurd (no_ok is)
        where
          no_ok : {a : Outcome} {b : UploadError} → ◌≡◌ {A = Result Outcome UploadError} (Ok a) (Err b) → ⊥
          no_ok f = cc
      gone_judged m x (Ok given) (r, k, renames, keeps, after) =
          let moves_told = takes_all.moves m k u.hidden u.target r x.plainly renames in
          let (z, there, so) = told_after (view.state m).told (view.state k).told _ x.world moves_told.1 x.here in
          gone_moved m k x z there r renames given after

    pub commit_gone : (fields : Fields) (outcome : Outcome) → IsBeside u.target.names u.hidden.names → IsClear v u.target.names u.hidden.names → Commits view c u fields s (Ok outcome) t
        → row_at w.tree u.hidden.names ≡ None
    commit_gone fields outcome beside clear commits = by u.broken refl commits.ends
      where
        x : Waits commits.closed
        x = closed_waits commits.closed commits.closes

        no_ok : {a : Outcome} {b : UploadError} → ◌≡◌ {A = Result Outcome UploadError} (Ok a) (Err b) → ⊥
        no_ok f = cc

        by : (b : Bool) → u.broken ≡ b → AfterClose view c b u.target u.hidden fields commits.closed (Ok outcome) t → row_at w.tree u.hidden.names ≡ None
        by true e (removes, is) = absurd (no_ok is)
        by false e (may, m, judges, keeps, after) = gone_judged outcome beside clear e m (judged_waits commits.closed m x fields may judges keeps) may after

    pub abort_gone : is_linked v.tree u.hidden.names ≡ false → Aborts view c u s (Ok tt) t → row_at w.tree u.hidden.names ≡ None
    abort_gone clear aborts = by aborts.answer aborts.is aborts.removes
      where
        x : Waits aborts.closed
        x = closed_waits aborts.closed aborts.closes

        no_err : {a : Unit {0}} {b : UploadError} → ◌≡◌ {A = Result Unit UploadError} (Ok a) (Err b) → ⊥
        no_err f = cc

        by : (answer : Result Unit FsError) → Ok tt ≡ done_as answer → view.removes_file aborts.closed c u.hidden answer t → row_at w.tree u.hidden.names ≡ None
        by (Err e) is removes = absurd (no_err is)
        by (Ok y) is removes =
            let ends = told_pair (view.state aborts.closed).told (view.state t).told _ x.world w (takes_all.removes aborts.closed t u.hidden (Ok y) x.plainly removes).1 x.here now
            (ap (λ tree. is_linked tree u.hidden.names) x.same.tree ∙ clear) in
            taken_gone x.world w u.hidden.names
            (surely_taken x.world w u.hidden.names stands.row (takes_all.worlds aborts.closed x.world x.here) (row_waits aborts.closed x) stands.kind ends)
