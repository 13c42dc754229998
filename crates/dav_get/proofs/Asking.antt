-- How often a GET asks the disk, by its table.
use Rattle.std.proofs.Common.{◌≡◌, ◌≢◌, ◌≤◌, ◌<◌, ◌+◌, ℕ, Bool, true, false, cond, List, [], ◌∷◌, Option, None, Some, Result, Ok, Err, refl, sym, ap, subst, ◌∙◌, arith, ◌⊎◌, inl, inr, true≢false}
use Rattle.std.specs.Prelude.{codes}
use Rattle.dav_io.specs.Counts.{one_more}
use Rattle.dav_core.specs.declared.dav_error.DavError.{DavError}
use Rattle.dav_core.specs.declared.dav_error.DavError.TheVariants.{NoMemory, Status}
use Rattle.dav_core.specs.declared.error.FsError.{FsError}
use Rattle.dav_core.specs.declared.error.FsError.TheVariants as fs
use Rattle.dav_core.specs.declared.member.Member.{Member}
use Rattle.dav_core.specs.declared.tree.Kind.{Kind}
use Rattle.dav_core.specs.Info.{Info}
use Rattle.dav_core.specs.Statuses.{of_fs, status_of}
use Rattle.dav_core.specs.DavPath.{WebPath}
use Rattle.dav_core.specs.Disk.{DiskState}
use Rattle.dav_core.specs.Tree.{is_file}
use Rattle.dav_core.specs.Unchanged.{Keeps}
use Rattle.dav_core.specs.Writing.{reading}
use Rattle.dav_store.specs.Files.{AsksOnce, AsksToGive}
use Rattle.dav_store.specs.Frames.{OpensOne}
use Rattle.dav_store.specs.View.{View, Listings, Closes}
use Rattle.dav_model.specs.declared.outcome.Outcome.{Outcome}
use Rattle.dav_model.specs.declared.ranges.Ranges.{Ranges}
use Rattle.dav_model.specs.declared.ranges.Ranges.TheVariants.{Whole, Unsatisfiable, Parts}
use Rattle.dav_model.specs.declared.ranges.Slice.{Slice}
use Rattle.dav_model.specs.declared.sent.Sent.{Sent}
use Rattle.dav_model.specs.declared.sent.Sent.TheVariants.{Unsatisfied}
use Rattle.dav_model.specs.Calls.{AsksAtMost, AsksToGet, AsksUnlessKnown, AsksUnlessPage, is_of_page, more_by}
use Rattle.dav_model.specs.Conditions.{condition, first_bytes, ranges_are_heard, strong}
use Rattle.dav_model.specs.Due.{Course, Query, course, directing, listing, opening, refusing}
use Rattle.dav_model.specs.Head.{is_get, is_set, is_well_known, sent_by, sent_parts_of, sent_ranges, sent_status}
use Rattle.dav_model.specs.Slices.{ranges}
use Rattle.dav_model.proofs.Courses.{course_holds}
use Rattle.dav_model.proofs.RightReplies.{Where, condition_where}
use Rattle.dav_get.specs.declared.open_at.OpenAt.{OpenAt}
use Rattle.dav_get.specs.declared.part.BodyPart.{BodyPart}
use Rattle.dav_get.specs.declared.body.GetBody.{GetBody}
use Rattle.dav_get.specs.Calls.{AsksFor, AsksToOpen, fields_given, status_given}
use Rattle.dav_get.specs.Lives.{OpenOnlyHeld, OpensOnly}
use Rattle.dav_get.specs.Table.{AfterListing, AfterLook, AfterMeta, AfterOpen, AfterRedirect, Answer, ByCourse, ByFile, ByRedirect, ByWellKnown, Directs, Gets, Given, Holds, IfMoved, IsListing, Sends, SendsAway, SendsFile, asked_at, first_place, refused_as, sent_after, sent_for}
use Rattle.dav_get.proofs.Sending.{some_start}

-- ---- counts

more_one : (calls before : ℕ) → one_more (more_by calls before) ≡ more_by (calls + 1) before
more_one calls before = omega arith

more_so : (m calls before : ℕ) → more_by m (more_by calls before) ≡ more_by (calls + m) before
more_so m calls before = omega arith

-- where clients are sent nowhere the same calls are asked of each file before it is sent
exactly : (o : ℕ) (r : Bool) (n : ℕ) → r ≡ false → o + 2 ≤ n → n ≤ o + cond r 3 2 → n ≡ o + 2
exactly o true n = λ no some most. absurd (true≢false no)
exactly o false n = λ no some most. omega (arith, some, most)

within : (o : ℕ) (r : Bool) (n : ℕ) → n ≤ o + 3 → n ≤ o + cond r 4 3
within o true n most = omega (arith, most)
within o false n most = omega (arith, most)

within_file : (o : ℕ) (r : Bool) (n : ℕ) → n ≤ o + cond r 3 2 → n + 1 ≤ o + cond r 4 3
within_file o true n most = omega (arith, most)
within_file o false n most = omega (arith, most)

before_move : (o : ℕ) (r : Bool) (n : ℕ) → n ≤ o + cond r 3 2 → n ≤ o + cond r 4 3
before_move o true n most = omega (arith, most)
before_move o false n most = omega (arith, most)

-- ---- statuses

-- a status of no file that is sent, and of no redirect
abbrev IsOther : ℕ → Type 0
IsOther status = (status ≢ 200) × (status ≢ 206) × (status ≢ 302)

no_success : (e : FsError) → IsOther (status_of (of_fs e))
no_success fs.NotFound = (λ e. omega arith, λ e. omega arith, λ e. omega arith)
no_success other = (λ e. omega arith, λ e. omega arith, λ e. omega arith)

-- What is answered 206 has a first part.
abbrev IsPlaced : Sent → Type 0
IsPlaced sent = sent_status sent ≡ 206 → (start : ℕ) × (first_place sent ≡ Some start)

parts_placed : (parts : List Slice) → IsPlaced (sent_parts_of parts)
parts_placed [] e = let no : ⊥ = omega (arith, e) in absurd no
parts_placed (a ∷ []) e = (a.start, refl)
parts_placed (a ∷ b ∷ parts) e = (a.start, refl)

ranges_placed : (r : Ranges) → IsPlaced (sent_ranges r)
ranges_placed Whole e = let no : ⊥ = omega (arith, e) in absurd no
ranges_placed Unsatisfiable e = let no : ⊥ = omega (arith, e) in absurd no
ranges_placed (Parts parts) e = parts_placed parts e

sent_placed : (status : Option ℕ) (on : Bool) (range : Option (List ℕ)) (len : ℕ) → Where (λ n. n ≢ 206) status → IsPlaced (sent_by status on range len)
sent_placed (Some status) on range len ne e = absurd (ne e)
sent_placed None false range len ne e = let no : ⊥ = omega (arith, e) in absurd no
sent_placed None true range len ne e = ranges_placed (ranges range len) e

for_placed : (q : Query) (info : Info) → IsPlaced (sent_for q info)
for_placed q info =
    sent_placed (condition q.method q.fields true (strong info.tag) info.modified) (ranges_are_heard q.fields (strong info.tag) info.modified) (first_bytes q.fields (codes "range")) info.len
    (condition_where (λ n. n ≢ 206) (λ e. omega arith) (λ e. omega arith) q.method q.fields (strong info.tag) info.modified)

-- What is sent of a file is no redirect.
parts_stay : (parts : List Slice) → sent_status (sent_parts_of parts) ≢ 302
parts_stay [] e = omega (arith, e)
parts_stay (a ∷ []) e = omega (arith, e)
parts_stay (a ∷ b ∷ parts) e = omega (arith, e)

ranges_stay : (r : Ranges) → sent_status (sent_ranges r) ≢ 302
ranges_stay Whole e = omega (arith, e)
ranges_stay Unsatisfiable e = omega (arith, e)
ranges_stay (Parts parts) e = parts_stay parts e

sent_stays : (status : Option ℕ) (on : Bool) (range : Option (List ℕ)) (len : ℕ) → Where (λ n. n ≢ 302) status → sent_status (sent_by status on range len) ≢ 302
sent_stays (Some status) on range len ne e = ne e
sent_stays None false range len ne e = omega (arith, e)
sent_stays None true range len ne e = ranges_stay (ranges range len) e

for_stays : (q : Query) (info : Info) → sent_status (sent_for q info) ≢ 302
for_stays q info =
    sent_stays (condition q.method q.fields true (strong info.tag) info.modified) (ranges_are_heard q.fields (strong info.tag) info.modified) (first_bytes q.fields (codes "range")) info.len
    (condition_where (λ n. n ≢ 302) (λ e. omega arith) (λ e. omega arith) q.method q.fields (strong info.tag) info.modified)

-- ---- the table

module _ {S C F : Type 0} (view : View S C F) (q : Query) (b o : ℕ) (some_o : 0 < o) (files : view.file.asks_once) where
  -- So many calls were asked.
  abbrev Asked : ℕ → S → Type 0
  Asked n s = (view.state s).asked ≡ more_by n b

  once : (n : ℕ) (s t : S) → Asked n s → AsksOnce (view.state s) (view.state t) → Asked (n + 1) t
  once n s t was is = is ∙ ap one_more was ∙ more_one n b

  abbrev Done : Bool → Given F → S → Type 0
  Done r result t = (result ≡ Err NoMemory) ⊎ AsksToGet o r (status_given result) b (view.state t).asked

  -- no file is sent
  unsent : (r : Bool) (n status : ℕ) (t : S) → Asked n t → 0 < n → n ≤ o + 3 → status ≢ 200 → status ≢ 206 → (r ≡ false → status ≢ 302) → AsksToGet o r status b (view.state t).asked
  unsent r n status t was some most whole part other = record {
    calls = n;
    are = was;
    some = some;
    most = within o r n most;
    whole = λ no is. absurd (whole is);
    partial = λ no is. absurd (part is);
    directed = λ no is. absurd (other no is);
  }

  error : (r : Bool) (n : ℕ) (e : DavError) (result : Given F) (t : S) → Asked n t → 0 < n → n ≤ o + 3 → IsOther (status_of e) → result ≡ Err e → Done r result t
  error r n e result t was some most (whole, part, other) is =
      inr (subst (λ x. AsksToGet o r (status_given {F = F} x) b (view.state t).asked) (sym is) (unsent r n (status_of e) t was some most whole part (λ no. other)))

  refused : (r : Bool) (n : ℕ) (e : FsError) (result : Given F) (t : S) → Asked n t → 0 < n → n ≤ o + 3 → result ≡ Err (of_fs e) → Done r result t
  refused r n e result t was some most is = error r n (of_fs e) result t was some most (no_success e) is

  closed_asks : (n : ℕ) (s : S) (file : F) (t : S) → Asked n s → Closes view s file t → Asked n t
  closed_asks n s file t was closed = closed.done.asked ∙ was

  holds_asks : (parts : List BodyPart) (held : OpenAt F) (s : S) (body : GetBody F) (t : S) → Holds view parts held s body t → (view.state t).asked ≡ (view.state s).asked
  holds_asks [] held s body t (closed, empty) = closed.done.asked
  holds_asks (part ∷ parts) held s body t (same, left, some) = ap (λ (x : S). (view.state x).asked) same

  sends_status : (info : Info) (sent : Sent) (held : OpenAt F) (s : S) (answer : Answer F) (t : S) → Sends view q info sent held s answer t → answer.0.status ≡ sent_status sent
  sends_status info sent held s answer t row = let (date, dated, is) = row.outcome_is in ap (λ (o : Outcome). o.status) is

  -- a file that was moved to its first part, or couldn't be
  moved_asks : (r : Bool) (n : ℕ) (info : Info) (sent : Sent) (sought : Result ℕ FsError) (held : OpenAt F) (s : S) (answer : Answer F) (t : S) → sent_status sent ≡ 206 → Asked (n + 1) s → o + 2 ≤ n → n ≤ o + cond r 3 2
      → Sends view q info (sent_after sought sent) held s answer t → AsksToGet o r answer.0.status b (view.state t).asked
  moved_asks r n info sent (Ok place) held s answer t part was some most row =
      let status : answer.0.status ≡ 206 = sends_status info sent held s answer t row ∙ part in
      record {
        calls = n + 1;
        are = holds_asks row.parts held s answer.1 t row.holds ∙ was;
        some = omega (arith, some);
        most = within_file o r n most;
        whole = λ no is. (let e : 200 ≡ 206 = sym is ∙ status in let never : ⊥ = omega (arith, e) in absurd never);
        partial = λ no is. (let three : n ≡ o + 2 = exactly o r n no some most in omega (arith, three));
        directed = λ no is. (let e : 302 ≡ 206 = sym is ∙ status in let never : ⊥ = omega (arith, e) in absurd never);
      }
  moved_asks r n info sent (Err e) held s answer t part was some most row =
      let status : answer.0.status ≡ 416 = sends_status info Unsatisfied held s answer t row in
      record {
        calls = n + 1;
        are = holds_asks row.parts held s answer.1 t row.holds ∙ was;
        some = omega (arith, some);
        most = within_file o r n most;
        whole = λ no is. (let f : 200 ≡ 416 = sym is ∙ status in let never : ⊥ = omega (arith, f) in absurd never);
        partial = λ no is. (let f : 206 ≡ 416 = sym is ∙ status in let never : ⊥ = omega (arith, f) in absurd never);
        directed = λ no is. (let f : 302 ≡ 416 = sym is ∙ status in let never : ⊥ = omega (arith, f) in absurd never);
      }

  no_place : (start : ℕ) → ◌≡◌ {A = Option ℕ} None (Some start) → ⊥
  no_place start e = cc

  sends_asks : (r : Bool) (n : ℕ) (info : Info) (sent : Sent) (place : Option ℕ) (file : F) (s : S) (answer : Answer F) (t : S) → IsPlaced sent → sent_status sent ≢ 302 → first_place sent ≡ place → Asked n s → o + 2 ≤ n → n ≤ o + cond r 3 2
      → IfMoved view place file s (λ sought held m. Sends view q info (sent_after sought sent) held m answer t) → AsksToGet o r answer.0.status b (view.state t).asked
  sends_asks r n info sent None file s answer t placed stays at was some most row = record {
    calls = n;
    are = holds_asks row.parts (record { file = file; place = 0 }) s answer.1 t row.holds ∙ was;
    some = omega (arith, some);
    most = before_move o r n most;
    whole = λ no is. exactly o r n no some most;
    partial = λ no is. (
        let (start, first) = placed (sym (sends_status info sent (record { file = file; place = 0 }) s answer t row) ∙ is) in
        absurd (no_place start (sym at ∙ first))
        );
    directed = λ no is. absurd (stays (sym (sends_status info sent (record { file = file; place = 0 }) s answer t row) ∙ is));
  }
  sends_asks r n info sent (Some start) file s answer t placed stays at was some most (sought, g, m, seeks, row) =
      moved_asks r n info sent sought (record { file = g; place = start }) m answer t (some_start sent start at) (once n s m was (seeks.asks files)) some most row

  file_asks : (r : Bool) (n : ℕ) (info : Info) (file : F) (s : S) (result : Given F) (t : S) → Asked n s → o + 2 ≤ n → n ≤ o + cond r 3 2 → SendsFile view q info file s result t → Done r result t
  file_asks r n info file s (Err e) t was some most row = absurd row
  file_asks r n info file s (Ok answer) t was some most row = inr (sends_asks r n info (sent_for q info) (first_place (sent_for q info)) file s answer t (for_placed q info) (for_stays q info) refl was some most row)

  away_asks : (n : ℕ) (info : Info) (address : List ℕ) (file : F) (s : S) (result : Given F) (t : S) → Asked n s → o + 2 ≤ n → n ≤ o + 3 → SendsAway view info address file s result t → Done true result t
  away_asks n info address file s (Err e) t was some most row = absurd row
  away_asks n info address file s (Ok answer) t was some most ((date, dated, is), closed, empty) =
      let status : answer.0.status ≡ 302 = ap (λ (o : Outcome). o.status) is in
      inr (subst (λ x. AsksToGet o true x b (view.state t).asked) (sym status) (unsent true n 302 t (closed_asks n s file t was closed) (omega arith) most (λ e. omega arith) (λ e. omega arith) (λ no. absurd (true≢false no))))

  addressed : (said : Result (Option (List ℕ)) FsError) (n : ℕ) (info : Info) (file : F) (s : S) (result : Given F) (t : S) → Asked n s → o + 2 ≤ n → n ≤ o + 3 → AfterRedirect view said q info file s result t → Done true result t
  addressed (Err e) n info file s result t was some most (closed, is) = refused true n e result t (closed_asks n s file t was closed) (omega arith) most is
  addressed (Ok (Some address)) n info file s result t was some most row = away_asks n info address file s result t was some most row
  addressed (Ok None) n info file s result t was some most row = file_asks true n info file s result t was some most row

  redirect_asks : (r : Bool) (info : Info) (file : F) (s : S) (result : Given F) (t : S) → Asked (o + 2) s → ByRedirect view r q info file s result t → Done r result t
  redirect_asks false info file s result t was row = file_asks false (o + 2) info file s result t was (omega arith) (omega arith) row
  redirect_asks true info file s result t was (said, g, m, asked, row) = elim asked.done.asked [
    | inl none ↦ addressed said (o + 2) info g m result t (none ∙ was) (omega arith) (omega arith) row
    | inr one ↦ addressed said (o + 2 + 1) info g m result t (once (o + 2) s m was one) (omega arith) (omega arith) row
  ]

  kind_asks : (regular : Bool) (info : Info) (file : F) (s : S) (result : Given F) (t : S) → Asked (o + 2) s → ByFile view regular q info file s result t → Done (is_set q.settings.redirect) result t
  kind_asks true info file s result t was row = redirect_asks (is_set q.settings.redirect) info file s result t was row
  kind_asks false info file s result t was (closed, is) =
      error (is_set q.settings.redirect) (o + 2) (Status 405) result t (closed_asks (o + 2) s file t was closed) (omega arith) (omega arith) (λ e. omega arith, λ e. omega arith, λ e. omega arith) is

  meta_asks : (said : Result Info FsError) (file : F) (s : S) (result : Given F) (t : S) → Asked (o + 2) s → AfterMeta view said q file s result t → Done (is_set q.settings.redirect) result t
  meta_asks (Err e) file s result t was (closed, is) = refused (is_set q.settings.redirect) (o + 2) e result t (closed_asks (o + 2) s file t was closed) (omega arith) (omega arith) is
  meta_asks (Ok info) file s result t was row = kind_asks (is_file info.kind) info file s result t was row

  -- at most so many calls more
  few_more : (n m : ℕ) (s t : S) → Asked n s → AsksAtMost m (view.state s).asked (view.state t).asked → (k : ℕ) × (n ≤ k) × (k ≤ n + m) × Asked k t
  few_more n m s t was (inl same) = (n, omega arith, omega arith, same ∙ was)
  few_more n m s t was (inr (k, le, is)) = (n + k, omega arith, omega (arith, le), is ∙ ap (more_by k) was ∙ more_so k n b)

  open_asks : (opened : Result F FsError) (s m : S) (result : Given F) (t : S) → Asked 1 s → AsksToOpen o opened (view.state s) (view.state m) → AfterOpen view opened q m result t → Done (is_set q.settings.redirect) result t
  open_asks (Err e) s m result t was asked (same, is) =
      let (k, some, most, now) = few_more 1 o s m was asked in
      refused (is_set q.settings.redirect) k e result t (ap (λ (x : S). (view.state x).asked) same ∙ now) (omega (arith, some)) (omega (arith, most)) is
  open_asks (Ok file) s m result t was so (inr none) = inl none
  open_asks (Ok file) s m result t was so (inl (said, g, k, says, could, row)) =
      let opened : Asked (1 + o) m = so ∙ ap (more_by o) was ∙ more_so o 1 b in
      meta_asks said g k result t (once (1 + o) m k opened says.done.asked ∙ ap (λ n. more_by n b) (two_more o)) row
    where
      two_more : (o : ℕ) → 1 + o + 1 ≡ o + 2
      two_more o = omega arith

-- ---- faults, whose count doesn't fall

module _ {S C F : Type 0} (view : View S C F) (q : Query) where
  -- Memory was refused, or no fault was taken back.
  abbrev Counts : Given F → S → S → Type 0
  Counts result s t = (result ≡ Err NoMemory) ⊎ ((view.state s).faults ≤ (view.state t).faults)

  closed_counts : (s : S) (file : F) (t : S) → Closes view s file t → (view.state s).faults ≤ (view.state t).faults
  closed_counts s file t closed = let same = closed.done.counts in omega (arith, same)

  holds_counts : (parts : List BodyPart) (held : OpenAt F) (s : S) (body : GetBody F) (t : S) → Holds view parts held s body t → (view.state s).faults ≤ (view.state t).faults
  holds_counts [] held s body t (closed, empty) = closed_counts s held.file t closed
  holds_counts (part ∷ parts) held s body t (same, left, some) = let e = ap (λ (x : S). (view.state x).faults) same in omega (arith, e)

  sends_counts : (info : Info) (sent : Sent) (place : Option ℕ) (file : F) (s : S) (answer : Answer F) (t : S)
      → IfMoved view place file s (λ sought held m. Sends view q info (sent_after sought sent) held m answer t) → (view.state s).faults ≤ (view.state t).faults
  sends_counts info sent None file s answer t row = holds_counts row.parts (record { file = file; place = 0 }) s answer.1 t row.holds
  sends_counts info sent (Some start) file s answer t (sought, g, m, seeks, row) =
      let first = seeks.done.keeps.counts in
      let then = holds_counts row.parts (record { file = g; place = start }) m answer.1 t row.holds in
      omega (arith, first, then)

  file_counts : (info : Info) (file : F) (s : S) (result : Given F) (t : S) → SendsFile view q info file s result t → (view.state s).faults ≤ (view.state t).faults
  file_counts info file s (Err e) t row = absurd row
  file_counts info file s (Ok answer) t row = sends_counts info (sent_for q info) (first_place (sent_for q info)) file s answer t row

  away_counts : (info : Info) (address : List ℕ) (file : F) (s : S) (result : Given F) (t : S) → SendsAway view info address file s result t → (view.state s).faults ≤ (view.state t).faults
  away_counts info address file s (Err e) t row = absurd row
  away_counts info address file s (Ok answer) t (redirected, closed, empty) = closed_counts s file t closed

  addressed_counts : (said : Result (Option (List ℕ)) FsError) (info : Info) (file : F) (s : S) (result : Given F) (t : S) → AfterRedirect view said q info file s result t
      → (view.state s).faults ≤ (view.state t).faults
  addressed_counts (Err e) info file s result t (closed, is) = closed_counts s file t closed
  addressed_counts (Ok (Some address)) info file s result t row = away_counts info address file s result t row
  addressed_counts (Ok None) info file s result t row = file_counts info file s result t row

  redirect_counts : (r : Bool) (info : Info) (file : F) (s : S) (result : Given F) (t : S) → ByRedirect view r q info file s result t → (view.state s).faults ≤ (view.state t).faults
  redirect_counts false info file s result t row = file_counts info file s result t row
  redirect_counts true info file s result t (said, g, m, asked, row) =
      let first = asked.done.keeps.counts in
      let then = addressed_counts said info g m result t row in
      omega (arith, first, then)

  kind_counts : (regular : Bool) (info : Info) (file : F) (s : S) (result : Given F) (t : S) → ByFile view regular q info file s result t → (view.state s).faults ≤ (view.state t).faults
  kind_counts true info file s result t row = redirect_counts (is_set q.settings.redirect) info file s result t row
  kind_counts false info file s result t (closed, is) = closed_counts s file t closed

  meta_counts : (said : Result Info FsError) (file : F) (s : S) (result : Given F) (t : S) → AfterMeta view said q file s result t → (view.state s).faults ≤ (view.state t).faults
  meta_counts (Err e) file s result t (closed, is) = closed_counts s file t closed
  meta_counts (Ok info) file s result t row = kind_counts (is_file info.kind) info file s result t row

  opened_counts : (opened : Result F FsError) (s : S) (result : Given F) (t : S) → AfterOpen view opened q s result t → Counts result s t
  opened_counts (Err e) s result t (same, is) = inr (let e = ap (λ (x : S). (view.state x).faults) same in omega (arith, e))
  opened_counts (Ok file) s result t (inr none) = inl none
  opened_counts (Ok file) s result t (inl (said, g, m, says, could, row)) =
      inr (let first = says.done.keeps.counts in let then = meta_counts said g m result t row in omega (arith, first, then))

-- one call of the disk
pub asked_once : {A : Type 0} (r : Result A FsError) (s t : DiskState) → AsksOnce s t → AsksToGive r s t
asked_once (Ok x) s t one = one
asked_once (Err fs.NoMemory) s t one = inr one
asked_once (Err other) s t one = one

-- One call was asked, or memory was refused.
given_once : {A : Type 0} (r : Result A FsError) (s t : DiskState) → AsksToGive r s t → (r ≡ Err fs.NoMemory) ⊎ AsksOnce s t
given_once (Ok x) s t one = inr one
given_once (Err fs.NoMemory) s t asked = inl refl
given_once (Err other) s t one = inr one

module _ {S C F L E : Type 0} (view : View S C F) (lists : Listings S C L E) (q : Query) (calls most : ℕ) (some_o : 0 < calls) (a : S) (few : AsksFor view lists q calls most a) where
  -- the status of each refusal without a store's error
  abbrev IsRefusing : Course → Type 0
  IsRefusing (refusing status close) = IsOther status
  IsRefusing directing = Unit {0}
  IsRefusing (opening path) = Unit {0}
  IsRefusing listing = Unit {0}

  refusing_other : (info : Info) → IsRefusing (course q info.kind)
  refusing_other info = course_holds q IsRefusing (record {
    directs = tt;
    lists = tt;
    unlisted = (λ e. omega arith, λ e. omega arith, λ e. omega arith);
    unnamed = (λ e. omega arith, λ e. omega arith, λ e. omega arith);
    opens = record { path = tt; index = λ slash name set. tt };
  }) info.kind

  refused_status : (status : ℕ) (close : Bool) → status_of (refused_as status close) ≡ status
  refused_status status true = refl
  refused_status status false = refl

  -- the client is sent to a path with a final slash
  directed_asks : (r : Bool) (b : ℕ) (path : WebPath) (result : Given F) (t : S) → Asked view q b calls some_o few.files 1 t → Directs path result → Done view q b calls some_o few.files r result t
  directed_asks r b path (Err e) t was directs = absurd directs
  directed_asks r b path (Ok answer) t was (is, empty) =
      let status : answer.0.status ≡ 302 = ap (λ (o : Outcome). o.status) is in
      inr (subst (λ x. AsksToGet calls r x b (view.state t).asked) (sym status) (record {
        calls = 1;
        are = was;
        some = omega arith;
        most = within calls r 1 (omega arith);
        whole = λ no e. (let never : ⊥ = omega (arith, e) in absurd never);
        partial = λ no e. (let never : ⊥ = omega (arith, e) in absurd never);
        directed = λ no e. refl;
      }))

  -- how often it asks, where it may give the page of a directory
  abbrev Told : ℕ → Given F → S → Type 0
  Told b result t = (result ≡ Err NoMemory) ⊎ AsksUnlessPage calls (is_of_page (fields_given q.fields result)) (is_set q.settings.redirect) (status_given result) b (view.state t).asked

  unless_page : (p r : Bool) (status before after : ℕ) → before ≤ after → AsksToGet calls r status before after → AsksUnlessPage calls p r status before after
  unless_page true r status before after le asks = le
  unless_page false r status before after le asks = asks

  told : (b : ℕ) (result : Given F) (t : S) → b ≤ (view.state t).asked → Done view q b calls some_o few.files (is_set q.settings.redirect) result t → Told b result t
  told b result t le (inl none) = inl none
  told b result t le (inr asks) = inr (unless_page (is_of_page (fields_given q.fields result)) (is_set q.settings.redirect) (status_given result) b (view.state t).asked le asks)

  -- what the look was that led here
  record Looked (s : S) : Type 0 where
    look : Result Info FsError
    c : C
    looks : view.looks a c q.path look s
    keeps : Keeps (view.state a) (view.state s)

  further : (i j k : ℕ) → i ≤ j → j ≤ k → i ≤ k
  further i j k p q = omega (arith, p, q)

  listing_asks : (b : ℕ) (answer : Result (List Member) FsError) (c : C) (s : S) (result : Given F) (t : S) → (l : Looked s) → l.c ≡ c → (view.state s).faults ≤ (view.state t).faults
      → (view.state t).faults ≤ most → b ≤ (view.state t).asked → Asked view q b calls some_o few.files 1 s → IsListing view lists (is_get q.method) c q.path s answer t → AfterListing answer q result
      → Told b result t
  listing_asks b (Err e) c s result t l same counts end le was refuses is =
      let asked = few.refuses_list s t c l.look e (subst (λ c. view.looks a c q.path l.look s) same l.looks) refuses l.keeps counts end in
      let (k, some, within, now) = few_more view q b calls some_o few.files 1 3 s t was asked in
      told b result t le (refused view q b calls some_o few.files (is_set q.settings.redirect) k e result t now (omega (arith, some)) (omega (arith, within, some_o)) is)
  listing_asks b (Ok members) c s (Err e) t l same counts end le was read row = absurd row
  listing_asks b (Ok members) c s (Ok r) t l same counts end le was read (is, body) =
      inr (subst (λ (o : Outcome). AsksUnlessPage calls (is_of_page o.fields) (is_set q.settings.redirect) o.status b (view.state t).asked) (sym is) le)

  course_asks : (b : ℕ) (kind : Kind) (co : Course) (c : C) (s : S) (result : Given F) (t : S) → course q kind ≡ co → (l : Looked s) → l.c ≡ c → (view.state t).faults ≤ most
      → b ≤ (view.state t).asked → IsRefusing co → Asked view q b calls some_o few.files 1 s → ByCourse view lists co q c s result t → Told b result t
  course_asks b kind (refusing status close) c s result t on l by end le other was (same, is) =
      told b result t le (error view q b calls some_o few.files (is_set q.settings.redirect) 1 (refused_as status close) result t (ap (λ (x : S). (view.state x).asked) same ∙ was) (omega arith) (omega arith)
      (subst IsOther (sym (refused_status status close)) other) is)
  course_asks b kind directing c s result t on l by end le other was (same, directs) =
      told b result t le (directed_asks (is_set q.settings.redirect) b q.path result t (ap (λ (x : S). (view.state x).asked) same ∙ was) directs)
  course_asks b kind listing c s result t on l by end le other was (answer, listed, keeps, row) = listing_asks b answer c s result t l by keeps.counts end le was listed row
  course_asks b kind (opening path) c s result t on l by end le other was (opened, m, opens, one, row) = elim (opened_counts view (asked_at q path) opened m result t row) [
    | inl none ↦ inl none
    | inr counts ↦ (
        let asked = few.opens s m c l.look kind path opened (subst (λ c. view.looks a c q.path l.look s) by l.looks) on opens l.keeps (one_counts opened s m one)
        (further (view.state m).faults (view.state t).faults most counts end) in
        told b result t le (open_asks view (asked_at q path) b calls some_o few.files opened s m result t was asked row)
        )
  ]
    where
      one_counts : (opened : Result F FsError) (s m : S) → OpensOne view.file reading (view.state s) opened (view.state m) → (view.state s).faults ≤ (view.state m).faults
      one_counts (Ok file) s m one = one.others.counts
      one_counts (Err e) s m one = one.others.counts

  look_asks : (b : ℕ) (look : Result Info FsError) (c : C) (s : S) (result : Given F) (t : S) → view.looks a c q.path look s → Keeps (view.state a) (view.state s)
      → (view.state t).faults ≤ most → b ≤ (view.state t).asked → Asked view q b calls some_o few.files 1 s → AfterLook view lists look q c s result t → Told b result t
  look_asks b (Err e) c s result t looks keeps end le was (same, is) =
      told b result t le (refused view q b calls some_o few.files (is_set q.settings.redirect) 1 e result t (ap (λ (x : S). (view.state x).asked) same ∙ was) (omega arith) (omega arith) is)
  look_asks b (Ok info) c s result t looks keeps end le was row =
      course_asks b info.kind (course q info.kind) c s result t refl (record { look = Ok info; c = c; looks = looks; keeps = keeps }) refl end le (refusing_other info) was row

  -- what follows a look takes no fault back
  course_counts : (co : Course) (c : C) (s : S) (result : Given F) (t : S) → ByCourse view lists co q c s result t → Counts view q result s t
  course_counts (refusing status close) c s result t (same, is) = inr (let e = ap (λ (x : S). (view.state x).faults) same in omega (arith, e))
  course_counts directing c s result t (same, directs) = inr (let e = ap (λ (x : S). (view.state x).faults) same in omega (arith, e))
  course_counts listing c s result t (answer, listed, keeps, row) = inr keeps.counts
  course_counts (opening path) c s result t (opened, m, opens, one, row) = elim (opened_counts view (asked_at q path) opened m result t row) [
    | inl none ↦ inl none
    | inr counts ↦ inr (further (view.state s).faults (view.state m).faults (view.state t).faults (one_counts opened s m one) counts)
  ]
    where
      one_counts : (opened : Result F FsError) (s m : S) → OpensOne view.file reading (view.state s) opened (view.state m) → (view.state s).faults ≤ (view.state m).faults
      one_counts (Ok file) s m one = one.others.counts
      one_counts (Err e) s m one = one.others.counts

  look_counts : (look : Result Info FsError) (c : C) (s : S) (result : Given F) (t : S) → AfterLook view lists look q c s result t → Counts view q result s t
  look_counts (Err e) c s result t (same, is) = inr (let e = ap (λ (x : S). (view.state x).faults) same in omega (arith, e))
  look_counts (Ok info) c s result t row = course_counts (course q info.kind) c s result t row

  pub looked_asks : (c : C) (result : Given F) (t : S) → (view.state a).asked ≤ (view.state t).asked → (view.state t).faults ≤ most → ByWellKnown view lists false q c a result t
      → (result ≡ Err NoMemory) ⊎ AsksUnlessKnown calls false (is_set q.settings.redirect) (status_given result) (fields_given q.fields result) (view.state a).asked (view.state t).asked
  looked_asks c result t le end (look, m, looks, keeps, row) = elim (look_counts look c m result t row) [
    | inl none ↦ inl none
    | inr counts ↦ elim (given_once look (view.state a) (view.state m) (few.looks m c look looks keeps (further (view.state m).faults (view.state t).faults most counts end))) [
      | inl none ↦ (let refused = subst (λ x. AfterLook view lists x q c m result t) none row in inl refused.1)
      | inr one ↦ look_asks (view.state a).asked look c m result t looks keeps end le one row
    ]
  ]

module _ {S C F L E : Type 0} (view : View S C F) (lists : Listings S C L E) (q : Query) (calls : ℕ) (some_o : 0 < calls) where
  pub only_asked : (s t : S) (result : Given F) → OpenOnlyHeld view s result t → (view.state s).asked ≤ (view.state t).asked
  only_asked s t (Err e) keeps = keeps.asked
  only_asked s t (Ok r) life = by r.1.file life.1
    where
      by : (file : Option (OpenAt F)) → OpensOnly view.file.handle (view.state s) file (view.state t) → (view.state s).asked ≤ (view.state t).asked
      by None keeps = keeps.asked
      by (Some h) opens = opens.0.asked

  known_asks : (known : Bool) (c : C) (s : S) (result : Given F) (t : S) → (known ≡ false → AsksFor view lists q calls (view.state t).faults s) → (view.state s).asked ≤ (view.state t).asked
      → ByWellKnown view lists known q c s result t
      → (result ≡ Err NoMemory) ⊎ AsksUnlessKnown calls known (is_set q.settings.redirect) (status_given result) (fields_given q.fields result) (view.state s).asked (view.state t).asked
  known_asks true c s result t few le (same, row) = inr (ap (λ (x : S). (view.state x).asked) same)
  known_asks false c s result t few le row = looked_asks view lists q calls (view.state t).faults some_o s (few refl) c result t le (omega arith) row

  -- What the table answers asks few calls, unless it is a page.
  pub gets_asks : (c : C) (s : S) (result : Given F) (t : S) → (is_well_known q.settings q.method q.path ≡ false → AsksFor view lists q calls (view.state t).faults s)
      → OpenOnlyHeld view s result t → Gets view lists q c s result t ⊎ (result ≡ Err NoMemory)
      → (result ≡ Err NoMemory) ⊎ AsksUnlessKnown calls (is_well_known q.settings q.method q.path) (is_set q.settings.redirect) (status_given result) (fields_given q.fields result) (view.state s).asked (view.state t).asked
  gets_asks c s result t few life (inl row) = known_asks (is_well_known q.settings q.method q.path) c s result t few (only_asked s t result life) row
  gets_asks c s result t few life (inr none) = inl none
