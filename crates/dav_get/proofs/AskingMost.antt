-- How often a GET asks the disk at most, by its table.
use Rattle.std.proofs.Common.{◌≡◌, ◌≤◌, ◌+◌, ◌⊎◌, inl, inr, ℕ, Bool, true, false, cond, List, [], ◌∷◌, Option, None, Some, Result, Ok, Err, refl, sym, ap, subst, ◌∙◌, arith}
use Rattle.dav_core.specs.declared.dav_error.DavError.TheVariants.{NoMemory}
use Rattle.dav_core.specs.declared.error.FsError.{FsError}
use Rattle.dav_core.specs.declared.member.Member.{Member}
use Rattle.dav_core.specs.declared.tree.Kind.{Kind}
use Rattle.dav_core.specs.Info.{Info}
use Rattle.dav_core.specs.Tree.{is_file}
use Rattle.dav_core.specs.Unchanged.{Keeps}
use Rattle.dav_store.specs.Files.{AsksOnce}
use Rattle.dav_store.specs.View.{View, Listings, Closes}
use Rattle.dav_model.specs.declared.outcome.Outcome.{Outcome}
use Rattle.dav_model.specs.declared.sent.Sent.{Sent}
use Rattle.dav_model.specs.Calls.{AsksAtMost, AtMostUnlessKnown, AtMostUnlessPage, calls_to_send, is_of_page, more_by}
use Rattle.dav_model.specs.Due.{Course, Query, course, directing, listing, opening, refusing}
use Rattle.dav_model.specs.Head.{is_get, is_set, is_well_known}
use Rattle.dav_get.specs.declared.open_at.OpenAt.{OpenAt}
use Rattle.dav_get.specs.declared.part.BodyPart.{BodyPart}
use Rattle.dav_get.specs.declared.body.GetBody.{GetBody}
use Rattle.dav_get.specs.Calls.{AsksAtMostFor, fields_given}
use Rattle.dav_get.specs.Lives.{OpenOnlyHeld}
use Rattle.dav_get.specs.Table.{AfterListing, AfterLook, AfterMeta, AfterOpen, AfterRedirect, Answer, ByCourse, ByFile, ByRedirect, ByWellKnown, Gets, Given, Holds, IfMoved, IsListing, Sends, SendsFile, asked_at, first_place, sent_after, sent_for}
use Rattle.dav_get.proofs.Asking.{only_asked}

-- ---- counts

most_more : (m n a b : ℕ) → m ≤ n → AsksAtMost m a b → AsksAtMost n a b
most_more m n a b le (inl same) = inl same
most_more m n a b le (inr (k, within, is)) = inr (k, omega (arith, le, within), is)

most_then : (m n a b c : ℕ) → AsksAtMost m a b → AsksAtMost n b c → AsksAtMost (m + n) a c
most_then m n a b c (inl same) (inl still) = inl (still ∙ same)
most_then m n a b c (inl same) (inr (k, within, is)) = inr (k, omega (arith, within), is ∙ ap (more_by k) same)
most_then m n a b c (inr (j, within, is)) (inl still) = inr (j, omega (arith, within), still ∙ is)
most_then m n a b c (inr (j, here, first)) (inr (k, there, then)) = inr (j + k, omega (arith, here, there), omega (arith, first, then))

-- ---- the table

module _ {S C F : Type 0} (view : View S C F) (q : Query) (b : ℕ) (files : view.file.asks_once) where
  -- So many calls were asked at most.
  abbrev Within : ℕ → S → Type 0
  Within n s = AsksAtMost n b (view.state s).asked

  stays : (n : ℕ) (s t : S) → (view.state t).asked ≡ (view.state s).asked → Within n s → Within n t
  stays n s t same few = subst (AsksAtMost n b) (sym same) few

  same_state : (s t : S) → t ≡ s → (view.state t).asked ≡ (view.state s).asked
  same_state s t same = ap (λ (x : S). (view.state x).asked) same

  once : (n : ℕ) (s t : S) → Within n s → AsksOnce (view.state s) (view.state t) → Within (n + 1) t
  once n s t few one = most_then n 1 b (view.state s).asked (view.state t).asked few (inr (1, omega arith, one))

  more : (m n : ℕ) (s : S) → m ≤ n → Within m s → Within n s
  more m n s le few = most_more m n b (view.state s).asked le few

  closed_most : (n : ℕ) (s : S) (file : F) (t : S) → Within n s → Closes view s file t → Within n t
  closed_most n s file t few closed = stays n s t closed.done.asked few

  holds_most : (n : ℕ) (parts : List BodyPart) (held : OpenAt F) (s : S) (body : GetBody F) (t : S) → Within n s → Holds view parts held s body t → Within n t
  holds_most n [] held s body t few (closed, empty) = closed_most n s held.file t few closed
  holds_most n (part ∷ parts) held s body t few (same, left, some) = stays n s t (same_state s t same) few

  sends_most : (n : ℕ) (info : Info) (sent : Sent) (place : Option ℕ) (file : F) (s : S) (answer : Answer F) (t : S) → Within n s
      → IfMoved view place file s (λ sought held m. Sends view q info (sent_after sought sent) held m answer t) → Within (n + 1) t
  sends_most n info sent None file s answer t few row = more n (n + 1) t (omega arith) (holds_most n row.parts (record { file = file; place = 0 }) s answer.1 t few row.holds)
  sends_most n info sent (Some start) file s answer t few (sought, g, m, seeks, row) =
      holds_most (n + 1) row.parts (record { file = g; place = start }) m answer.1 t (once n s m few (seeks.asks files)) row.holds

  file_most : (n : ℕ) (info : Info) (file : F) (s : S) (result : Given F) (t : S) → Within n s → SendsFile view q info file s result t → Within (n + 1) t
  file_most n info file s (Err e) t few row = absurd row
  file_most n info file s (Ok answer) t few row = sends_most n info (sent_for q info) (first_place (sent_for q info)) file s answer t few row

  addressed_most : (n : ℕ) (said : Result (Option (List ℕ)) FsError) (info : Info) (file : F) (s : S) (result : Given F) (t : S) → Within n s → AfterRedirect view said q info file s result t → Within (n + 1) t
  addressed_most n (Err e) info file s result t few (closed, is) = more n (n + 1) t (omega arith) (closed_most n s file t few closed)
  addressed_most n (Ok (Some address)) info file s (Err e) t few row = absurd row
  addressed_most n (Ok (Some address)) info file s (Ok answer) t few (redirected, closed, empty) = more n (n + 1) t (omega arith) (closed_most n s file t few closed)
  addressed_most n (Ok None) info file s result t few row = file_most n info file s result t few row

  redirect_most : (n : ℕ) (r : Bool) (info : Info) (file : F) (s : S) (result : Given F) (t : S) → Within n s → ByRedirect view r q info file s result t → Within (n + cond r 2 1) t
  redirect_most n false info file s result t few row = file_most n info file s result t few row
  redirect_most n true info file s result t few (said, g, m, asked, row) = elim asked.done.asked [
    | inl none ↦ more (n + 1) (n + 2) t (omega arith) (addressed_most n said info g m result t (stays n s m none few) row)
    | inr one ↦ more (n + 1 + 1) (n + 2) t (omega arith) (addressed_most (n + 1) said info g m result t (once n s m few one) row)
  ]

  kind_most : (n : ℕ) (regular : Bool) (info : Info) (file : F) (s : S) (result : Given F) (t : S) → Within n s → ByFile view regular q info file s result t → Within (n + cond (is_set q.settings.redirect) 2 1) t
  kind_most n true info file s result t few row = redirect_most n (is_set q.settings.redirect) info file s result t few row
  kind_most n false info file s result t few (closed, is) = more n (n + cond (is_set q.settings.redirect) 2 1) t (omega arith) (closed_most n s file t few closed)

  meta_most : (n : ℕ) (said : Result Info FsError) (file : F) (s : S) (result : Given F) (t : S) → Within n s → AfterMeta view said q file s result t → Within (n + cond (is_set q.settings.redirect) 2 1) t
  meta_most n (Err e) file s result t few (closed, is) = more n (n + cond (is_set q.settings.redirect) 2 1) t (omega arith) (closed_most n s file t few closed)
  meta_most n (Ok info) file s result t few row = kind_most n (is_file info.kind) info file s result t few row

  behind : (n : ℕ) (r : Bool) → n + 1 + cond r 2 1 ≤ n + cond r 3 2
  behind n true = omega arith
  behind n false = omega arith

  open_most : (n : ℕ) (opened : Result F FsError) (m : S) (result : Given F) (t : S) → Within n m → AfterOpen view opened q m result t
      → (result ≡ Err NoMemory) ⊎ Within (n + cond (is_set q.settings.redirect) 3 2) t
  open_most n (Err e) m result t few (same, is) = inr (more n (n + cond (is_set q.settings.redirect) 3 2) t (omega arith) (stays n m t (same_state m t same) few))
  open_most n (Ok file) m result t few (inr none) = inl none
  open_most n (Ok file) m result t few (inl (said, g, k, says, could, row)) =
      inr (more (n + 1 + cond (is_set q.settings.redirect) 2 1) (n + cond (is_set q.settings.redirect) 3 2) t (behind n (is_set q.settings.redirect))
      (meta_most (n + 1) said g k result t (once n m k few says.done.asked) row))

module _ {S C F L E : Type 0} (view : View S C F) (lists : Listings S C L E) (q : Query) (each : ℕ) (a : S) (few : AsksAtMostFor view lists q each a) where
  abbrev b : ℕ
  b = (view.state a).asked

  abbrev so_many : ℕ
  so_many = calls_to_send each (is_set q.settings.redirect)

  abbrev Told : Given F → S → Type 0
  Told result t = (result ≡ Err NoMemory) ⊎ AtMostUnlessPage so_many (is_of_page (fields_given q.fields result)) b (view.state t).asked

  unless_page : (p : Bool) (n before after : ℕ) → before ≤ after → AsksAtMost n before after → AtMostUnlessPage n p before after
  unless_page true n before after le asks = le
  unless_page false n before after le asks = asks

  told : (n : ℕ) (result : Given F) (t : S) → b ≤ (view.state t).asked → n ≤ so_many → AsksAtMost n b (view.state t).asked → Told result t
  told n result t le within asks = inr (unless_page (is_of_page (fields_given q.fields result)) so_many b (view.state t).asked le (most_more n so_many b (view.state t).asked within asks))

  told_file : (result : Given F) (t : S) → b ≤ (view.state t).asked → (result ≡ Err NoMemory) ⊎ AsksAtMost (each + each + cond (is_set q.settings.redirect) 3 2) b (view.state t).asked → Told result t
  told_file result t le (inl none) = inl none
  told_file result t le (inr asks) = told (each + each + cond (is_set q.settings.redirect) 3 2) result t le (omega arith) asks

  listing_most : (answer : Result (List Member) FsError) (look : Result Info FsError) (c : C) (s : S) (result : Given F) (t : S) → view.looks a c q.path look s → Keeps (view.state a) (view.state s)
      → AsksAtMost each b (view.state s).asked → b ≤ (view.state t).asked → IsListing view lists (is_get q.method) c q.path s answer t → AfterListing answer q result → Told result t
  listing_most (Err e) look c s result t looks keeps was le refuses is =
      told (each + each) result t le (omega arith) (most_then each each b (view.state s).asked (view.state t).asked was (few.refuses_list s t c look e looks refuses keeps))
  listing_most (Ok members) look c s (Err e) t looks keeps was le read row = absurd row
  listing_most (Ok members) look c s (Ok r) t looks keeps was le read (is, body) =
      inr (subst (λ (o : Outcome). AtMostUnlessPage so_many (is_of_page o.fields) b (view.state t).asked) (sym is) le)

  course_most : (kind : Kind) (co : Course) (look : Result Info FsError) (c : C) (s : S) (result : Given F) (t : S) → course q kind ≡ co → view.looks a c q.path look s → Keeps (view.state a) (view.state s)
      → AsksAtMost each b (view.state s).asked → b ≤ (view.state t).asked → ByCourse view lists co q c s result t → Told result t
  course_most kind (refusing status close) look c s result t on looks keeps was le (same, is) =
      told each result t le (omega arith) (subst (AsksAtMost each b) (sym (ap (λ (x : S). (view.state x).asked) same)) was)
  course_most kind directing look c s result t on looks keeps was le (same, directs) =
      told each result t le (omega arith) (subst (AsksAtMost each b) (sym (ap (λ (x : S). (view.state x).asked) same)) was)
  course_most kind listing look c s result t on looks keeps was le (answer, listed, kept, row) = listing_most answer look c s result t looks keeps was le listed row
  course_most kind (opening path) look c s result t on looks keeps was le (opened, m, opens, one, row) =
      told_file result t le (open_most view (asked_at q path) b few.files (each + each) opened m result t
      (most_then each each b (view.state s).asked (view.state m).asked was (few.opens s m c look kind path opened looks on opens keeps)) row)

  look_most : (look : Result Info FsError) (c : C) (s : S) (result : Given F) (t : S) → view.looks a c q.path look s → Keeps (view.state a) (view.state s)
      → b ≤ (view.state t).asked → AfterLook view lists look q c s result t → Told result t
  look_most (Err e) c s result t looks keeps le (same, is) =
      told each result t le (omega arith) (subst (AsksAtMost each b) (sym (ap (λ (x : S). (view.state x).asked) same)) (few.looks s c (Err e) looks))
  look_most (Ok info) c s result t looks keeps le row = course_most info.kind (course q info.kind) (Ok info) c s result t refl looks keeps (few.looks s c (Ok info) looks) le row

module _ {S C F L E : Type 0} (view : View S C F) (lists : Listings S C L E) (q : Query) (each : ℕ) where
  known_most : (known : Bool) (c : C) (s : S) (result : Given F) (t : S) → (known ≡ false → AsksAtMostFor view lists q each s) → (view.state s).asked ≤ (view.state t).asked
      → ByWellKnown view lists known q c s result t
      → (result ≡ Err NoMemory) ⊎ AtMostUnlessKnown (calls_to_send each (is_set q.settings.redirect)) known (fields_given q.fields result) (view.state s).asked (view.state t).asked
  known_most true c s result t few le (same, row) = inr (ap (λ (x : S). (view.state x).asked) same)
  known_most false c s result t few le (look, m, looks, keeps, row) = look_most view lists q each s (few refl) look c m result t looks keeps le row

  -- What the table answers asks so many calls at most, unless it is a page.
  pub gets_most : (c : C) (s : S) (result : Given F) (t : S) → (is_well_known q.settings q.method q.path ≡ false → AsksAtMostFor view lists q each s)
      → OpenOnlyHeld view s result t → Gets view lists q c s result t ⊎ (result ≡ Err NoMemory)
      → (result ≡ Err NoMemory) ⊎ AtMostUnlessKnown (calls_to_send each (is_set q.settings.redirect)) (is_well_known q.settings q.method q.path) (fields_given q.fields result) (view.state s).asked (view.state t).asked
  gets_most c s result t few life (inl row) = known_most (is_well_known q.settings q.method q.path) c s result t few (only_asked view lists q 1 (omega arith) s t result life) row
  gets_most c s result t few life (inr none) = inl none
