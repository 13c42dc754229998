-- Over a store that refuses few things the program ends as one whose disk failed only where the disk's count of faults rose.
use Rattle.std.proofs.Common.{◌≡◌, ◌≤◌, ◌+◌, inl, inr, ℕ, List, [], Bool, true, false, cond, Result, Ok, Err, refl, sym, ap, subst, ◌∙◌, arith}
use Rattle.dav_io.specs.Counts.{Rose}
use Rattle.dav_io.specs.Outside.{Stream}
use Rattle.dav_io.proofs.AppendingLemmas.{rose_after, rose_before}
use Rattle.dav_core.specs.declared.dav_error.DavError.{DavError}
use Rattle.dav_core.specs.declared.dav_error.DavError.TheVariants as dav
use Rattle.dav_core.specs.declared.error.FsError.{FsError}
use Rattle.dav_core.specs.declared.error.FsError.TheVariants as fs
use Rattle.dav_core.specs.declared.method.DavMethod.TheVariants.{Put}
use Rattle.dav_core.specs.declared.time.FileTime.{FileTime}
use Rattle.dav_core.specs.DavPath.{WebPath}
use Rattle.dav_core.specs.Statuses.{lacks_memory, status_of}
use Rattle.dav_store.specs.declared.entry.ReadDirMeta.TheVariants.{Data}
use Rattle.dav_store.specs.View.{Closes, Listings, View}
use Rattle.dav_model.specs.declared.outcome.Outcome.{Outcome}
use Rattle.dav_model.specs.Conditions.{Fields}
use Rattle.dav_methods.specs.Answers.{RefusesUsually, Usual}
use Rattle.dav_methods.specs.Lines.{Given}
use Rattle.dav_walks.specs.Pouring.{Writes}
use Rattle.dav_methods.specs.Putting.{MayPut}
use Rattle.dav_methods.proofs.tables.AnswersListed.{put_listed}
use Rattle.dav_methods.proofs.tables.LinesListed.{IsListed}
use Rattle.dav_upload.specs.declared.error.UploadError.{UploadError}
use Rattle.dav_upload.specs.declared.error.UploadError.TheVariants as upload
use Rattle.dav_upload.specs.declared.error.UploadError.TheVariants.{Busy, Dav}
use Rattle.dav_upload.specs.declared.upload.Upload.{Upload}
use Rattle.dav_upload.specs.Names.{hidden_beside, hidden_name, is_taken}
use Rattle.dav_upload.specs.Pieces.{upload_options}
use Rattle.dav_upload.specs.Uploading.{Aborts, AfterClose, AfterJudged, AfterJudging, Begins, BeginsAs, Commits, PieceOn, TriesToRemove, WritesPiece, refusal_of, refused_by, refused_opening}
use Rattle.dav_upload.specs.Sweeping.{ChosenAs, SweepsBefore, TakesEach}
use Rattle.dav_upload.specs.Sweeping.TakesEach.{done as all_taken, goes as taken_on, gone as passed_over, stops as taking_stops}
use Rattle.dav_put.specs.declared.ending.Ending.{Ending}
use Rattle.dav_put.specs.declared.ending.Ending.TheVariants as ends
use Rattle.dav_put.specs.declared.storing.Stop.{Stop}
use Rattle.dav_put.specs.declared.storing.Stop.TheVariants.{Refused, SourceFailed, TooMuch}
use Rattle.dav_put.specs.Ending.{ending_by, ending_for, ending_of, ending_swept, is_failure}
use Rattle.dav_put.specs.Performs.{StoresAt, SweepsAt}
use Rattle.dav_put.specs.Storing.{Aim, BeginsSome, Ends, Fed, Feed, Pours, Stops, Stores, Tried, token_after}
use Rattle.dav_put.specs.Storing.Fed.{begun, goes}
use Rattle.dav_put.specs.Storing.Tried.{more, none}

-- ---- the errors

-- a store's fault, as an upload tells it
abbrev Failure : UploadError
Failure = Dav (dav.Fs fs.GeneralFailure)

failure_of : (d : DavError) → is_failure d ≡ true → d ≡ dav.Fs fs.GeneralFailure
failure_of (dav.Status code) e = cc
failure_of (dav.StatusClose code) e = cc
failure_of (dav.Path fault) e = cc
failure_of (dav.Fs fs.GeneralFailure) e = refl
failure_of dav.Body e = cc
failure_of dav.UnknownDavMethod e = cc
failure_of dav.NoMemory e = cc
failure_of (dav.Fs other) e = cc

ended_failed : (d : DavError) → ending_by d ≡ ends.DiskFailed → is_failure d ≡ true
ended_failed d is = by (lacks_memory d) (is_failure d) refl is
  where
    by : (a b : Bool) → is_failure d ≡ b → cond a ends.NoMemory (cond b ends.DiskFailed (ends.Refused (status_of d))) ≡ ends.DiskFailed → is_failure d ≡ true
    by true b e f = cc
    by false true e f = e
    by false false e f = cc

failed_end : (e : UploadError) → ending_of e ≡ ends.DiskFailed → e ≡ Failure
failed_end (Dav d) is = ap Dav (failure_of d (ended_failed d is))
failed_end (Busy name) is = cc
failed_end upload.Hidden is = cc
failed_end upload.NoMemory is = cc

failed_put : (d : DavError) → refusal_of d ≡ Failure → d ≡ dav.Fs fs.GeneralFailure
failed_put d is = by (lacks_memory d) is
  where
    by : (b : Bool) → cond b upload.NoMemory (Dav d) ≡ Failure → d ≡ dav.Fs fs.GeneralFailure
    by true e = cc
    by false e = cc

failed_call : (e : FsError) → refused_by e ≡ Failure → e ≡ fs.GeneralFailure
failed_call fs.GeneralFailure is = refl
failed_call other is = cc

failed_opening : (name : List ℕ) (e : FsError) → refused_opening name e ≡ Failure → e ≡ fs.GeneralFailure
failed_opening name fs.GeneralFailure is = refl
failed_opening name other is = cc

module _ {S C F L E : Type 0} (view : View S C F) (lists : Listings S C L E) (writes : Writes F) (c : C) (few : RefusesUsually view lists writes c) where
  abbrev Counts : S → S → Type 0
  Counts s t = (view.state s).faults ≤ (view.state t).faults

  abbrev pub Rises : S → S → Type 0
  Rises s t = Rose (view.state s).faults (view.state t).faults

  same_count : (s t : S) → t ≡ s → Counts s t
  same_count s t same = let e = ap (λ (x : S). (view.state x).faults) same in omega (arith, e)

  counts_then : (s m t : S) → Counts s m → Counts m t → Counts s t
  counts_then s m t p q = omega (arith, p, q)

  later : (s m t : S) → Counts s m → Rises m t → Rises s t
  later s m t le rose = rose_before (view.state s).faults (view.state m).faults (view.state t).faults le rose

  sooner : (s m t : S) → Rises s m → Counts m t → Rises s t
  sooner s m t rose le = rose_after (view.state s).faults (view.state m).faults (view.state t).faults rose le

  closed_count : (s t : S) (f : F) → Closes view s f t → Counts s t
  closed_count s t f closes = let e = closes.done.counts in omega (arith, e)

  -- a call that was refused so
  call_rose : (T : Type 0) (s t : S) (e : FsError) → Usual {T = T} (view.state s) (Err e) (view.state t) → refused_by e ≡ Failure → Rises s t
  call_rose T s t e usual is = usual.refused.1 (failed_call e is)

  -- an answer of a table that is a fault
  listed_rose : (s t : S) (fields : Fields) (d : DavError) → IsListed Put [] fields (Rises s t) d → d ≡ dav.Fs fs.GeneralFailure → Rises s t
  listed_rose s t fields d listed is = elim (subst (IsListed Put [] fields (Rises s t)) is listed) [
    | inl short ↦ cc
    | inr (among, failed, close, due) ↦ failed refl
  ]

  -- a PUT that was judged
  judged_rose : (target : WebPath) (fields : Fields) (s : S) (d : DavError) (t : S) → MayPut view c target fields s (Err d) t → refusal_of d ≡ Failure → Rises s t
  judged_rose target fields s d t may is =
      listed_rose s t fields d (put_listed Put [] fields view lists writes c few refl refl refl refl target [] s (Err d) t (Err d, t, may, (refl, refl))).answers (failed_put d is)

  -- ---- beginnings

  judging_count : (target : WebPath) (token : ℕ) (m : S) (r : Result (Upload F) UploadError) (t : S) (may : Given) → AfterJudging view c may target token m r t → Counts m t
  judging_count target token m r t (Err d) (same, is) = same_count m t same
  judging_count target token m r t (Ok outcome) (opened, opens, one, is) = (few.opens m t (hidden_beside target token) upload_options opened opens).counts

  begins_count : (target : WebPath) (fields : Fields) (token : ℕ) (s : S) (r : Result (Upload F) UploadError) (t : S) → Begins view c target fields token s r t → Counts s t
  begins_count target fields token s r t begins = by (is_taken target) begins
    where
      by : (b : Bool) → BeginsAs view c b target fields token s r t → Counts s t
      by true (same, is) = same_count s t same
      by false (inl (same, is)) = same_count s t same
      by false (inr j) = counts_then s j.judged t j.keeps.counts (judging_count target token j.judged r t j.may j.opens)

  begins_rose : (target : WebPath) (fields : Fields) (token : ℕ) (s : S) (e : UploadError) (t : S) → e ≡ Failure → Begins view c target fields token s (Err e) t → Rises s t
  begins_rose target fields token s e t failed begins = by (is_taken target) begins
    where
      by_may : (m : S) → Counts s m → (may : Given) → MayPut view c target fields s may m → AfterJudging view c may target token m (Err e) t → Rises s t
      by_may m le (Err d) judges (same, is) =
          let why : refusal_of d ≡ Failure = (let f : e ≡ refusal_of d = cc in sym f ∙ failed) in
          sooner s m t (judged_rose target fields s d m judges why) (same_count m t same)
      by_may m le (Ok outcome) judges (Ok file, opens, one, is) = cc
      by_may m le (Ok outcome) judges (Err f, opens, one, is) =
          let why : refused_opening (hidden_name token) f ≡ Failure = (let g : e ≡ refused_opening (hidden_name token) f = cc in sym g ∙ failed) in
          later s m t le ((few.opens m t (hidden_beside target token) upload_options (Err f) opens).refused.1 (failed_opening (hidden_name token) f why))

      by : (b : Bool) → BeginsAs view c b target fields token s (Err e) t → Rises s t
      by true (same, is) = cc
      by false (inl (same, is)) = cc
      by false (inr j) = by_may j.judged j.keeps.counts j.may j.judges j.opens

  tried_count : (aim : Aim) (s : S) (tries : ℕ) (m : S) → Tried view writes c aim s tries m → Counts s m
  tried_count aim s tries m none = omega arith
  tried_count aim s tries m (more count name n k before begins) =
      counts_then s n k (tried_count aim s count n before) (begins_count aim.target aim.fields (token_after aim.token count) n (Err (Busy name)) k begins)

  some_count : (aim : Aim) (s : S) (r : Result (Upload F) UploadError) (t : S) → BeginsSome view writes c aim s r t → Counts s t
  some_count aim s r t b =
      counts_then s b.middle t (tried_count aim s b.tries b.middle b.tried) (begins_count aim.target aim.fields (token_after aim.token b.tries) b.middle r t b.begins)

  some_rose : (aim : Aim) (s : S) (e : UploadError) (t : S) → e ≡ Failure → BeginsSome view writes c aim s (Err e) t → Rises s t
  some_rose aim s e t failed b =
      later s b.middle t (tried_count aim s b.tries b.middle b.tried) (begins_rose aim.target aim.fields (token_after aim.token b.tries) b.middle e t failed b.begins)

  -- ---- pieces

  piece_count : (u x : Upload F) (bytes : List ℕ) (s t : S) (r : Result Unit UploadError) → WritesPiece view writes u bytes s r t x → Counts s t
  piece_count u x bytes s t r wrote = by u.broken wrote
    where
      by : (b : Bool) → PieceOn view writes b u bytes s r t x → Counts s t
      by true (same, still, is) = same_count s t same
      by false (answer, file, written, behind, is) = (few.writes_file s t u.file file bytes answer written).counts

  piece_rose : (u x : Upload F) (bytes : List ℕ) (s t : S) (e : UploadError) → e ≡ Failure → WritesPiece view writes u bytes s (Err e) t x → Rises s t
  piece_rose u x bytes s t e failed wrote = by u.broken wrote
    where
      by : (b : Bool) → PieceOn view writes b u bytes s (Err e) t x → Rises s t
      by true (same, still, is) = cc
      by false (Ok y, file, written, behind, is) = cc
      by false (Err f, file, written, behind, is) =
          let why : refused_by f ≡ Failure = (let g : e ≡ refused_by f = cc in sym g ∙ failed) in
          call_rose Unit s t f (few.writes_file s t u.file file bytes (Err f) written) why

  fed_count : (p : Feed S F) (count : ℕ) (bytes : List ℕ) (q : Feed S F) → Fed view writes p count bytes q → Counts p.store q.store
  fed_count p count bytes q begun = omega arith
  fed_count p count bytes q (goes before front piece m n fed gives wrote) = counts_then p.store m.store n.store (fed_count p before front m fed) (piece_count m.upload n.upload piece m.store n.store (Ok tt) wrote)

  stops_count : (count : ℕ) (p : Feed S F) (r : Result Unit Stop) (q : Feed S F) → Stops view writes count p r q → Counts p.store q.store
  stops_count count p (Ok x) q (over, same, still) = same_count p.store q.store same
  stops_count count p (Err SourceFailed) q (fails, same, still) = same_count p.store q.store same
  stops_count count p (Err TooMuch) q (all, same) = same_count p.store q.store (ap (λ (x : Feed S F). x.store) same)
  stops_count count p (Err (Refused e)) q (piece, gives, wrote) = piece_count p.upload q.upload piece p.store q.store (Err e) wrote

  pours_count : (p : Feed S F) (r : Result Unit Stop) (q : Feed S F) → Pours view writes p r q → Counts p.store q.store
  pours_count p r q k = counts_then p.store k.middle.store q.store (fed_count p k.count k.bytes k.middle k.fed) (stops_count k.count k.middle r q k.stops)

  pours_rose : (p : Feed S F) (e : UploadError) (q : Feed S F) → e ≡ Failure → Pours view writes p (Err (Refused e)) q → Rises p.store q.store
  pours_rose p e q failed k =
      let (piece, gives, wrote) = k.stops in
      later p.store k.middle.store q.store (fed_count p k.count k.bytes k.middle k.fed) (piece_rose k.middle.upload q.upload piece k.middle.store q.store e failed wrote)

  -- ---- ends

  tries_count : (hidden : WebPath) (s t : S) → TriesToRemove view c hidden s t → Counts s t
  tries_count hidden s t (answer, call, keeps) = keeps.counts

  commits_rose : (u : Upload F) (fields : Fields) (s : S) (e : UploadError) (t : S) → e ≡ Failure → Commits view c u fields s (Err e) t → Rises s t
  commits_rose u fields s e t failed k = later s k.closed t (closed_count s k.closed u.file k.closes) (by u.broken k.ends)
    where
      by_may : (m : S) → (may : Given) → MayPut view c u.target fields k.closed may m → Counts k.closed m → AfterJudged view c may u.target u.hidden m (Err e) t → Rises k.closed t
      by_may m (Err d) judges le (tries, is) =
          let why : refusal_of d ≡ Failure = (let f : e ≡ refusal_of d = cc in sym f ∙ failed) in
          sooner k.closed m t (judged_rose u.target fields k.closed d m judges why) (tries_count u.hidden m t tries)
      by_may m (Ok outcome) judges le (Ok x, n, moves, kept, (same, is)) = cc
      by_may m (Ok outcome) judges le (Err f, n, moves, kept, (tries, is)) =
          let why : refused_by f ≡ Failure = (let g : e ≡ refused_by f = cc in sym g ∙ failed) in
          later k.closed m t le (sooner m n t (call_rose Unit m n f (few.renames m n u.hidden u.target (Err f) moves) why) (tries_count u.hidden n t tries))

      by : (b : Bool) → AfterClose view c b u.target u.hidden fields k.closed (Err e) t → Rises k.closed t
      by true (tries, is) = cc
      by false (may, m, judges, keeps, after) = by_may m may judges keeps.counts after

  aborts_count : (u : Upload F) (s : S) (r : Result Unit UploadError) (t : S) → Aborts view c u s r t → Counts s t
  aborts_count u s r t a = counts_then s a.closed t (closed_count s a.closed u.file a.closes) a.keeps.counts

  -- an upload that began, from where the input goes into it to where it did
  fed_rose : (fields : Fields) (p q : Feed S F) (r : Result Unit Stop) (e : UploadError) (t : S) → e ≡ Failure → Pours view writes p r q → Ends view writes c r q.upload fields q.store (Err (Refused e)) t → Rises p.store t
  fed_rose fields p q (Ok x) e t failed poured commits = later p.store q.store t (pours_count p (Ok x) q poured) (commits_rose q.upload fields q.store e t failed commits)
  fed_rose fields p q (Err stop) e t failed poured (answer, aborts, is) =
      let why : stop ≡ Refused e = cc in
      sooner p.store q.store t (pours_rose p e q failed (subst (λ x. Pours view writes p (Err x) q) why poured)) (aborts_count q.upload q.store answer t aborts)

  stores_rose : (aim : Aim) (s : S) (i : Stream) (e : UploadError) (t : S) (j : Stream) → e ≡ Failure → Stores view writes c aim s i (Err (Refused e)) t j → Rises s t
  stores_rose aim s i e t j failed (inl (f, begins, is, unasked)) =
      let why : f ≡ Failure = (let g : e ≡ f = cc in sym g ∙ failed) in
      some_rose aim s f t why begins
  stores_rose aim s i e t j failed (inr k) =
      later s k.begun t (some_count aim s (Ok k.upload) k.begun k.begins)
      (fed_rose aim.fields (record { store = k.begun; upload = k.upload; source = i }) (record { store = k.full; upload = k.left; source = j }) k.poured e t failed k.pours k.ends)

  -- ---- sweeps

  takes_rose : (paths : List WebPath) (count : ℕ) (s : S) (r : Result ℕ UploadError) (t : S) → TakesEach view c paths count s r t → r ≡ Err Failure → Rises s t
  takes_rose paths count s r t (all_taken n a) is = cc
  takes_rose paths count s r t (taken_on path others n a m b end call keeps rest) is = later a m b keeps.counts (takes_rose others (n + 1) m end b rest is)
  takes_rose paths count s r t (passed_over path others n a m b end call keeps rest) is = later a m b keeps.counts (takes_rose others n m end b rest is)
  takes_rose paths count s r t (taking_stops path others n a b e other call keeps) is =
      let why : refused_by e ≡ Failure = cc in
      call_rose Unit a b e (few.removes_file a b path (Err e) call) why

  chosen_rose : (dir : WebPath) (limit : FileTime) (s : S) (e : UploadError) (t : S) → e ≡ Failure → ChosenAs view lists c dir limit s (Err e) t → Rises s t
  chosen_rose dir limit s e t failed (inl is) = cc
  chosen_rose dir limit s e t failed (inr (f, refused, is)) =
      let why : refused_by f ≡ Failure = sym is ∙ failed in
      call_rose _ s t f (few.begins s t dir Data (Err f) refused) why

  sweeps_rose : (dir : WebPath) (limit : FileTime) (s : S) (e : UploadError) (t : S) → e ≡ Failure → SweepsBefore view lists c dir limit s (Err e) t → Rises s t
  sweeps_rose dir limit s e t failed (Err f, m, chooses, (same, is)) =
      let why : f ≡ Failure = (let g : e ≡ f = cc in sym g ∙ failed) in
      sooner s m t (chosen_rose dir limit s f m why chooses.chosen_as) (same_count m t same)
  sweeps_rose dir limit s e t failed (Ok paths, m, chooses, takes) = later s m t chooses.keeps.counts (takes_rose paths 0 m (Err e) t takes (ap Err failed))

  -- ---- a run

  pub stored_rose : (target : WebPath) (first : ℕ) (s : S) (i : Stream) (ending : Ending) (t : S) (j : Stream) → ending ≡ ends.DiskFailed → StoresAt view lists writes c target first s i ending t j → Rises s t
  stored_rose target first s i ending t j failed (inl (root, is, same, left)) = cc
  stored_rose target first s i ending t j failed (inr (named, result, stores, is)) = by result stores (sym is ∙ failed)
    where
      by : (result : Result Outcome Stop) → Stores view writes c (record { target = target; fields = []; token = first }) s i result t j → ending_for result ≡ ends.DiskFailed → Rises s t
      by (Ok outcome) run e = cc
      by (Err SourceFailed) run e = cc
      by (Err TooMuch) run e = cc
      by (Err (Refused error)) run e = stores_rose (record { target = target; fields = []; token = first }) s i error t j (failed_end error e) run

  pub swept_rose : (dir : WebPath) (limit : FileTime) (s : S) (ending : Ending) (t : S) → ending ≡ ends.DiskFailed → SweepsAt view lists writes c dir limit s ending t → Rises s t
  swept_rose dir limit s ending t failed (result, sweeps, is) = by result sweeps (sym is ∙ failed)
    where
      by : (result : Result ℕ UploadError) → SweepsBefore view lists c dir limit s result t → ending_swept result ≡ ends.DiskFailed → Rises s t
      by (Ok count) run e = cc
      by (Err error) run e = sweeps_rose dir limit s error t (failed_end error e) run
