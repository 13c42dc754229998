-- What is stored by an upload is stored whole, or not at all.
use Rattle.std.proofs.Common.{◌≡◌, ◌≢◌, ◌++◌, ◌&&◌, ◌==◌, inl, inr, ℕ, List, [], ◌∷◌, length, drop, Bool, true, false, Some, Result, Ok, Err, refl, sym, ap, subst, ◌∙◌, append-nil, append_assoc}
use Rattle.std.specs.List.{list_all}
use Rattle.dav_io.specs.Outside.{Stream}
use Rattle.dav_core.specs.DavPath.{WebPath, last_name}
use Rattle.dav_core.specs.Listing.{or_empty}
use Rattle.dav_core.specs.Path.{Names, parent_of}
use Rattle.dav_core.specs.Tree.{is_linked}
use Rattle.dav_core.specs.World.{SameBesidesOpens, World}
use Rattle.dav_core.proofs.UnchangedLemmas.{same_besides, same_besides_then}
use Rattle.dav_store.specs.View.{View}
use Rattle.dav_model.specs.declared.outcome.Outcome.{Outcome}
use Rattle.dav_model.specs.Conditions.{Fields}
use Rattle.dav_model.proofs.LooseWalks.{parent_pushed}
use Rattle.dav_methods.specs.Lines.{Given}
use Rattle.dav_walks.specs.Pouring.{Writes}
use Rattle.dav_upload.specs.declared.error.UploadError.{UploadError}
use Rattle.dav_upload.specs.declared.error.UploadError.TheVariants.{Busy}
use Rattle.dav_upload.specs.declared.upload.Upload.{Upload}
use Rattle.dav_upload.specs.Names.{begins_hidden, hidden_beside, hidden_name, is_digit, is_hidden, is_hidden_path, is_taken}
use Rattle.dav_upload.specs.Shown.{IsCommitted, SameShown}
use Rattle.dav_upload.specs.Standing.{StandsIn, pending}
use Rattle.dav_upload.specs.Steps.{Committed, IsBeside, IsClear, SameLinks}
use Rattle.dav_upload.specs.Takes.{TakesUploads}
use Rattle.dav_upload.specs.Uploading.{Aborts, AfterJudging, Begins, BeginsAs, Commits, Judges, PieceOn, WritesPiece, begun as upload_begun}
use Rattle.dav_upload.proofs.Chains.{aborted, began, commit_between, committed, judged_plain, never_appends, one_told, pieced, shown_then}
use Rattle.dav_upload.proofs.Links.{links_kept, links_then}
use Rattle.dav_upload.proofs.Making.{kept_unseen}
use Rattle.dav_upload.proofs.Tokens.{token_hides}
use Rattle.dav_put.specs.declared.storing.Stop.{Stop}
use Rattle.dav_put.specs.declared.storing.Stop.TheVariants.{Refused, SourceFailed, TooMuch}
use Rattle.dav_put.specs.Storing.{Aim, Ends, Fed, Feed, Gives, IsOver, Pours, Stops, Stores, Tried, token_after}
use Rattle.dav_put.specs.Storing.Fed.{begun, goes}
use Rattle.dav_put.specs.Storing.Tried.{more, none}
use Rattle.dav_put.specs.Whole.{IsOpenTo, StoredWhole}
use Rattle.dav_io.proofs.ToldLemmas.{told_after}

-- ---- the paths of an upload

not_hidden : (name : List ℕ) → begins_hidden name ≡ false → is_hidden name ≡ false
not_hidden name e = by (length name == 24)
  where
    by : (b : Bool) → (b && (begins_hidden name && list_all is_digit (drop 8 name))) ≡ false
    by true = rw e refl
    by false = refl

clear_beside : (w : World) (target : WebPath) (token : ℕ) → IsOpenTo w target.names → is_linked w.tree (hidden_beside target token).names ≡ false
clear_beside w target token clear = clear.names (hidden_name token) (token_hides token)

open_still : (v w : World) (target : Names) → SameLinks v w → IsOpenTo v target → IsOpenTo w target
open_still v w target links clear = record {
  way = links target ∙ clear.way;
  names = λ name hides. links (parent_of target ++ name ∷ []) ∙ clear.names name hides;
}

-- ---- what a source gave

-- the bytes that are told of it are those that were taken, and those that are left
gave : (i j : Stream) (taken bytes : List ℕ) → i.bytes ≡ Some bytes → Gives i taken j → (rest : List ℕ) × (j.bytes ≡ Some rest) × (bytes ≡ taken ++ rest)
gave i j taken bytes told (buffer, n, takes, some, is) =
    let (rest, left, old) = told_after i.bytes j.bytes _ bytes takes.told told in
    (rest, left, old.0 ∙ ap (λ (k : List ℕ). k ++ rest) (sym is))

was_over : (i j : Stream) (bytes : List ℕ) → i.bytes ≡ Some bytes → IsOver i j → bytes ≡ []
was_over i j bytes told (buffer, takes) = let (rest, left, old) = told_after i.bytes j.bytes _ bytes takes.told told in old.1 refl

-- each handle counts as that of a body of a file that is shown
abbrev each_counts : ℕ → Bool
each_counts h = true

module _ {S C F : Type 0} (view : View S C F) (writes : Writes F) (c : C) (test : S → Bool) (takes_all : TakesUploads view writes c test) where
  -- a world behind calls that changed nothing of what is shown
  record Waits (v : World) (m : S) : Type 0 where
    pub world : World
    pub here : (view.state m).told ≡ Some world
    pub plain : test m ≡ true
    pub same : SameBesidesOpens v world

  waits_at : (v : World) (s : S) → (view.state s).told ≡ Some v → test s ≡ true → Waits v s
  waits_at v s was plain = record { world = v; here = was; plain = plain; same = same_besides v }

  waits_same : (v : World) (s t : S) → t ≡ s → Waits v s → Waits v t
  waits_same v s t same x = subst (Waits v) (sym same) x

  -- ---- how an upload begins

  -- the store where a PUT of the target was judged
  judged_waits : (v : World) (target : WebPath) (fields : Fields) (token : ℕ) (s t : S) (r : Result (Upload F) UploadError) → Waits v s → (j : Judges view c target fields token s r t) → Waits v j.judged
  judged_waits v target fields token s t r x j =
      let (u, here, same) = told_after (view.state s).told (view.state j.judged).told SameBesidesOpens x.world j.keeps.world x.here in
      record { world = u; here = here; plain = judged_plain view writes c test takes_all target fields s j.may j.judged x.plain j.judges; same = same_besides_then v x.world u x.same same }

  waits_clear : (v : World) (m : S) (target : WebPath) (token : ℕ) → IsOpenTo v target.names → (x : Waits v m) → is_linked x.world.tree (hidden_beside target token).names ≡ false
  waits_clear v m target token clear x = links_kept v x.world x.same (hidden_beside target token).names ∙ clear_beside v target token clear

  -- An upload that doesn't begin changes nothing.
  refused_waits : (v : World) (target : WebPath) (fields : Fields) (token : ℕ) (s t : S) (e : UploadError) → IsOpenTo v target.names → Waits v s → Begins view c target fields token s (Err e) t → Waits v t
  refused_waits v target fields token s t e clear x begins = by (is_taken target) begins
    where
      by_may : (m : S) → Waits v m → (may : Given) → AfterJudging view c may target token m (Err e) t → Waits v t
      by_may m y (Err f) (same, is) = waits_same v m t same y
      by_may m y (Ok outcome) (Ok file, opens, one, is) = cc
      by_may m y (Ok outcome) (Err f, opens, one, is) =
          let call = takes_all.opens m t (hidden_beside target token) (Err f) y.plain opens in
          let (w, here, made) = told_after (view.state m).told (view.state t).told _ y.world call.1 y.here in
          record { world = w; here = here; plain = call.0; same = same_besides_then v y.world w y.same (made (waits_clear v m target token clear y)) }

      by : (b : Bool) → BeginsAs view c b target fields token s (Err e) t → Waits v t
      by true (same, is) = waits_same v s t same x
      by false (inl (same, is)) = waits_same v s t same x
      by false (inr j) = by_may j.judged (judged_waits v target fields token s t (Err e) x j) j.may j.opens

  tried_waits : (v : World) (aim : Aim) (s : S) (tries : ℕ) (t : S) → IsOpenTo v aim.target.names → Waits v s → Tried view writes c aim s tries t → Waits v t
  tried_waits v aim s tries t clear x none = x
  tried_waits v aim s tries t clear x (more count name m n before begins) =
      refused_waits v aim.target aim.fields (token_after aim.token count) m t (Busy name) clear (tried_waits v aim s count m clear x before) begins

  -- What is known where an upload began and pieces were written.
  record Going (v : World) (target : WebPath) (pieces : List ℕ) (m : S) (u : Upload F) : Type 0 where
    pub world : World
    pub here : (view.state m).told ≡ Some world
    pub plain : test m ≡ true
    pub shown : SameShown v world
    pub links : SameLinks v world
    pub at_target : u.target ≡ target
    pub token : ℕ
    pub at_hidden : u.hidden ≡ hidden_beside target token
    pub stands : StandsIn each_counts (view.state m).live world (pending view.file.handle u pieces)
    pub free : is_taken target ≡ false

  begun_going : (v : World) (target : WebPath) (fields : Fields) (token : ℕ) (s t : S) (u : Upload F) → IsOpenTo v target.names → Waits v s → Begins view c target fields token s (Ok u) t
      → Going v target [] t u × (u.broken ≡ false)
  begun_going v target fields token s t u clear x begins = by (is_taken target) refl begins
    where
      by_may : (m : S) → Waits v m → is_taken target ≡ false → (may : Given) → AfterJudging view c may target token m (Ok u) t → Going v target [] t u × (u.broken ≡ false)
      by_may m y free (Err f) (same, is) = cc
      by_may m y free (Ok outcome) (Err f, opens, one, is) = cc
      by_may m y free (Ok outcome) (Ok file, opens, one, is) =
          let call = takes_all.opens m t (hidden_beside target token) (Ok file) y.plain opens in
          let (w, here, made) = told_after (view.state m).told (view.state t).told _ y.world call.1 y.here in
          let same : u ≡ upload_begun target token file = cc in
          let did = began view writes c test takes_all each_counts s t x.world w x.here here target fields token (Ok u) x.plain (waits_clear v s target token clear x) begins in (
            record {
              world = w;
              here = here;
              plain = call.0;
              shown = shown_then v x.world w (kept_unseen v x.world x.same) did.0;
              links = links_then v x.world w (links_kept v x.world x.same) did.1;
              at_target = ap (λ (z : Upload F). z.target) same;
              token = token;
              at_hidden = ap (λ (z : Upload F). z.hidden) same;
              stands = did.2;
              free = free;
            },
            ap (λ (z : Upload F). z.broken) same,
          )

      by : (b : Bool) → is_taken target ≡ b → BeginsAs view c b target fields token s (Ok u) t → Going v target [] t u × (u.broken ≡ false)
      by true e (same, is) = cc
      by false e (inl (same, is)) = cc
      by false e (inr j) = by_may j.judged (judged_waits v target fields token s t (Ok u) x j) e j.may j.opens

  -- ---- pieces

  -- a piece, whatever it answers
  piece_going : (v : World) (target : WebPath) (pieces bytes : List ℕ) (m t : S) (u x : Upload F) (r : Result Unit UploadError) → u.broken ≡ false → Going v target pieces m u
      → WritesPiece view writes u bytes m r t x → Going v target (pieces ++ bytes) t x
  piece_going v target pieces bytes m t u x r whole g piece_so = by u.broken whole piece_so
    where
      by : (b : Bool) → b ≡ false → PieceOn view writes b u bytes m r t x → Going v target (pieces ++ bytes) t x
      by true e on = cc
      by false e (y, file, writes_so, is, answer) =
          let told = takes_all.writes_file m t u.file file bytes y writes_so (never_appends view writes c test takes_all ((view.state m).live (view.file.handle u.file)) g.stands.how) in
          let (w, here, wrote) = told_after (view.state m).told (view.state t).told _ g.world told g.here in
          let (shown, links, stands) = pieced view writes c test takes_all each_counts u x m t g.world w bytes pieces r g.here here g.stands piece_so in
          record {
            world = w;
            here = here;
            plain = takes_all.lends m t g.plain writes_so.lent.store;
            shown = shown_then v g.world w g.shown shown;
            links = links_then v g.world w g.links links;
            at_target = ap (λ (z : Upload F). z.target) is ∙ g.at_target;
            token = g.token;
            at_hidden = ap (λ (z : Upload F). z.hidden) is ∙ g.at_hidden;
            stands = stands;
            free = g.free;
          }

  -- a piece that was written leaves its upload whole
  still_whole : (bytes : List ℕ) (m t : S) (u x : Upload F) → u.broken ≡ false → WritesPiece view writes u bytes m (Ok tt) t x → x.broken ≡ false
  still_whole bytes m t u x whole piece_so = by u.broken whole piece_so
    where
      by : (b : Bool) → b ≡ false → PieceOn view writes b u bytes m (Ok tt) t x → x.broken ≡ false
      by true e on = cc
      by false e (Ok y, file, writes_so, is, answer) = ap (λ (z : Upload F). z.broken) is
      by false e (Err y, file, writes_so, is, answer) = cc

  fed_going : (v : World) (target : WebPath) (p : Feed S F) → p.upload.broken ≡ false → Going v target [] p.store p.upload → (count : ℕ) (bytes : List ℕ) (q : Feed S F) → Fed view writes p count bytes q
      → Going v target bytes q.store q.upload × (q.upload.broken ≡ false)
  fed_going v target p whole g count bytes q begun = (g, whole)
  fed_going v target p whole g count bytes q (goes before_count front piece m n before gives piece_so) =
      let (here, still) = fed_going v target p whole g before_count front m before in
      (piece_going v target front piece m.store n.store m.upload n.upload (Ok tt) still here piece_so, still_whole piece m.store n.store m.upload n.upload still piece_so)

  fed_gave : (p : Feed S F) (all : List ℕ) → p.source.bytes ≡ Some all → (count : ℕ) (bytes : List ℕ) (q : Feed S F) → Fed view writes p count bytes q
      → (rest : List ℕ) × (q.source.bytes ≡ Some rest) × (all ≡ bytes ++ rest)
  fed_gave p all told count bytes q begun = (all, told, refl)
  fed_gave p all told count bytes q (goes before_count front piece m n before gives piece_so) =
      let (mid, there, is) = fed_gave p all told before_count front m before in
      let (rest, end, more_is) = gave m.source n.source piece mid there gives in
      (rest, end, is ∙ (ap (λ k. front ++ k) more_is ∙ sym (append_assoc front piece rest)))

  -- ---- the end

  given_up : (v : World) (target : WebPath) (pieces : List ℕ) (m t : S) (w : World) (u : Upload F) (answer : Result Unit UploadError) → (view.state t).told ≡ Some w → IsOpenTo v target.names → Going v target pieces m u
      → Aborts view c u m answer t → SameShown v w
  given_up v target pieces m t w u answer now clear g aborts =
      let free : is_linked g.world.tree u.hidden.names ≡ false =
      ap (λ (p : WebPath). is_linked g.world.tree p.names) g.at_hidden ∙ clear_beside g.world target g.token (open_still v g.world target.names g.links clear) in
      shown_then v g.world w g.shown (aborted view writes c test takes_all each_counts u m t g.world w pieces g.here now g.stands g.plain answer free aborts)

  committed_so : (v : World) (target : WebPath) (fields : Fields) (pieces : List ℕ) (m t : S) (w : World) (u : Upload F) (r : Result Outcome UploadError) → target.names ≢ [] → (view.state t).told ≡ Some w → IsOpenTo v target.names
      → u.broken ≡ false → (g : Going v target pieces m u) → Commits view c u fields m r t → Committed target.names false pieces r g.world w
  committed_so v target fields pieces m t w u r named now clear whole g commits =
      let here : u.target.names ≡ target.names = ap (λ (p : WebPath). p.names) g.at_target in
      let hid : u.hidden.names ≡ (hidden_beside target g.token).names = ap (λ (p : WebPath). p.names) g.at_hidden in
      let still = open_still v g.world target.names g.links clear in
      let beside : IsBeside u.target.names u.hidden.names = record {
        shows = ap is_hidden_path here ∙ not_hidden (or_empty (last_name target.names)) g.free;
        beside = ap parent_of hid ∙ (parent_pushed (parent_of target.names) (hidden_name g.token) ∙ ap parent_of (sym here));
        named = λ e. named (sym here ∙ e);
      } in
      let free : IsClear g.world u.target.names u.hidden.names = record {
        to_target = ap (is_linked g.world.tree) here ∙ still.way;
        to_hidden = ap (is_linked g.world.tree) hid ∙ clear_beside g.world target g.token still;
      } in
      subst (λ p. Committed p false pieces r g.world w) here
      (subst (λ b. Committed u.target.names b pieces r g.world w) whole
      (committed view writes c test takes_all each_counts u m t g.world w pieces g.here now g.stands g.plain fields r beside free commits))

  commit_from : (v u w : World) (target : Names) (pieces : List ℕ) → SameShown v u → IsCommitted u target pieces w → IsCommitted v target pieces w
  commit_from v u w target pieces same is = commit_between v u w w target pieces same is (λ p. refl)

  module _ (target : WebPath) (fields : Fields) (named : target.names ≢ []) (v : World) (clear : IsOpenTo v target.names) (t : S) (w : World) (now : (view.state t).told ≡ Some w) where
    committed_whole : (pieces : List ℕ) (m : S) (u : Upload F) (result : Result Outcome Stop) → u.broken ≡ false → Going v target pieces m u → Ends view writes c (Ok tt) u fields m result t
        → StoredWhole target.names pieces result v w
    committed_whole pieces m u (Ok outcome) whole g commits =
        commit_from v g.world w target.names pieces g.shown (committed_so v target fields pieces m t w u (Ok outcome) named now clear whole g commits).1
    committed_whole pieces m u (Err (Refused e)) whole g commits = elim (committed_so v target fields pieces m t w u (Err e) named now clear whole g commits) [
      | inl same ↦ inl (shown_then v g.world w g.shown same)
      | inr (fault, is) ↦ inr (fault, commit_from v g.world w target.names pieces g.shown is)
    ]
    committed_whole pieces m u (Err SourceFailed) whole g commits = absurd commits
    committed_whole pieces m u (Err TooMuch) whole g commits = absurd commits

    stopped_whole : (bytes : List ℕ) (stop : Stop) → SameShown v w → StoredWhole target.names bytes (Err stop) v w
    stopped_whole bytes (Refused e) same = inl same
    stopped_whole bytes SourceFailed same = same
    stopped_whole bytes TooMuch same = same

    refused_whole : (bytes pieces : List ℕ) (m : S) (u : Upload F) (stop : Stop) (result : Result Outcome Stop) → Going v target pieces m u → (answer : Result Unit UploadError) → Aborts view c u m answer t → result ≡ Err stop
        → StoredWhole target.names bytes result v w
    refused_whole bytes pieces m u stop result g answer aborts is =
        subst (λ z. StoredWhole target.names bytes z v w) (sym is) (stopped_whole bytes stop (given_up v target pieces m t w u answer now clear g aborts))

    module _ (p : Feed S F) (bytes : List ℕ) (told : p.source.bytes ≡ Some bytes) (result : Result Outcome Stop) where
      poured_whole : (q : Feed S F) (r : Result Unit Stop) → p.upload.broken ≡ false → Going v target [] p.store p.upload → (k : Pours view writes p r q) → Ends view writes c r q.upload fields q.store result t
          → StoredWhole target.names bytes result v w
      poured_whole q r whole g k ends = by r k.stops ends
        where
          far : Going v target k.bytes k.middle.store k.middle.upload × (k.middle.upload.broken ≡ false)
          far = fed_going v target p whole g k.count k.bytes k.middle k.fed

          moved : (m : S) (y : Upload F) → m ≡ k.middle.store → y ≡ k.middle.upload → Going v target k.bytes m y
          moved m y same like = subst (λ a. Going v target k.bytes a y) (sym same) (subst (λ b. Going v target k.bytes k.middle.store b) (sym like) far.0)

          by : (r : Result Unit Stop) → Stops view writes k.count k.middle r q → Ends view writes c r q.upload fields q.store result t → StoredWhole target.names bytes result v w
          by (Ok y) (over, same, like) ends =
              let (rest, left, is) = fed_gave p bytes told k.count k.bytes k.middle k.fed in
              let all : bytes ≡ k.bytes = is ∙ (ap (λ x. k.bytes ++ x) (was_over k.middle.source q.source rest left over) ∙ append-nil k.bytes) in
              subst (λ b. StoredWhole target.names b result v w) (sym all)
              (committed_whole k.bytes q.store q.upload result (ap (λ (z : Upload F). z.broken) like ∙ far.1) (moved q.store q.upload same like) ends)
          by (Err SourceFailed) (fails, same, like) (answer, aborts, is) = refused_whole bytes k.bytes q.store q.upload SourceFailed result (moved q.store q.upload same like) answer aborts is
          by (Err TooMuch) (full, same) (answer, aborts, is) =
              refused_whole bytes k.bytes q.store q.upload TooMuch result (moved q.store q.upload (ap (λ (x : Feed S F). x.store) same) (ap (λ (x : Feed S F). x.upload) same)) answer aborts is
          by (Err (Refused e)) (piece, gives, piece_so) (answer, aborts, is) =
              refused_whole bytes (k.bytes ++ piece) q.store q.upload (Refused e) result (piece_going v target k.bytes piece k.middle.store q.store k.middle.upload q.upload (Err e) far.1 far.0 piece_so) answer aborts is

  pub stored_whole : (aim : Aim) (s t : S) (i j : Stream) (result : Result Outcome Stop) (v w : World) (bytes : List ℕ) → aim.target.names ≢ [] → (view.state s).told ≡ Some v → (view.state t).told ≡ Some w
      → i.bytes ≡ Some bytes → IsOpenTo v aim.target.names → test s ≡ true → Stores view writes c aim s i result t j → StoredWhole aim.target.names bytes result v w
  stored_whole aim s t i j result v w bytes named was now told clear plain (inl (e, b, is, unasked)) =
      let x = refused_waits v aim.target aim.fields (token_after aim.token b.tries) b.middle t e clear (tried_waits v aim s b.tries b.middle clear (waits_at v s was plain) b.tried) b.begins in
      let same : x.world ≡ w = one_told (view.state t).told x.world w x.here now in
      subst (λ z. StoredWhole aim.target.names bytes z v w) (sym is) (inl (subst (SameShown v) same (kept_unseen v x.world x.same)))
  stored_whole aim s t i j result v w bytes named was now told clear plain (inr k) =
      let b = k.begins in
      let begun_so = begun_going v aim.target aim.fields (token_after aim.token b.tries) b.middle k.begun k.upload clear (tried_waits v aim s b.tries b.middle clear (waits_at v s was plain) b.tried) b.begins in
      poured_whole aim.target aim.fields named v clear t w now (record { store = k.begun; upload = k.upload; source = i }) bytes told result (record { store = k.full; upload = k.left; source = j }) k.poured begun_so.1 begun_so.0 k.pours k.ends
