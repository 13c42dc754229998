-- What the table of a GET answers is framed, whatever the store tells: its `content-length` is that of its body. And no part of
-- its body is empty.
use Rattle.std.proofs.Common.{◌≡◌, ℕ, Bool, true, false, List, [], Option, None, Some, Result, Ok, Err, refl, sym, ap, subst, ◌∙◌, ◌⊎◌, inl, inr}
use Rattle.dav_core.specs.declared.dav_error.DavError.{DavError}
use Rattle.dav_core.specs.declared.dav_error.DavError.TheVariants.{Status, NoMemory}
use Rattle.dav_core.specs.declared.error.FsError.{FsError}
use Rattle.dav_core.specs.declared.member.Member.{Member}
use Rattle.dav_core.specs.declared.method.DavMethod.{DavMethod}
use Rattle.dav_core.specs.DavPath.{WebPath}
use Rattle.dav_core.specs.Info.{Info}
use Rattle.dav_core.specs.Statuses.{closes, of_fs, status_of}
use Rattle.dav_core.specs.Tree.{is_file}
use Rattle.dav_page.specs.Listed.{AreRows}
use Rattle.dav_store.specs.View.{View, Listings}
use Rattle.dav_model.specs.Conditions.{Fields}
use Rattle.dav_model.specs.declared.outcome.Outcome.{Outcome}
use Rattle.dav_model.specs.declared.sent.Sent.{Sent}
use Rattle.dav_model.specs.declared.target.Target.TheVariants.{At}
use Rattle.dav_model.specs.Announced.{HasSoundBody, IsFramed, length_is_own}
use Rattle.dav_model.specs.Due.{Course, Query, course, directing, listing, opening, refusing}
use Rattle.dav_model.specs.Indexes.{IsIndexReply}
use Rattle.dav_model.specs.Head.{IsSent, Reply, Stood, directed, is_get, is_set, is_well_known, redirected, refusal, well_known}
use Rattle.dav_model.proofs.Framing.{directed_framed, framed_redirect, framed_well_known, index_framed, refused_framed, sent_framed}
use Rattle.dav_model.proofs.Nonempty.{HasSlices, index_sound, sent_has, sent_sound, sound_empty}
use Rattle.dav_get.specs.declared.open_at.OpenAt.{OpenAt}
use Rattle.dav_get.specs.Heard.{stood_heard}
use Rattle.dav_get.specs.Bodies.{parts_of}
use Rattle.dav_get.specs.Right.{reply_at}
use Rattle.dav_get.specs.Table.{AfterListing, AfterLook, AfterMeta, AfterOpen, AfterRedirect, Answer, ByCourse, ByFile, ByRedirect, ByWellKnown, Gets, Given, IfMoved, IsEmpty, Sends, SendsFile, asked_at, first_place, outcome_of, refused_as, sent_after, sent_for, stood_by}
use Rattle.dav_get.proofs.Pages.{page_given}
use Rattle.dav_get.proofs.Sending.{sends_right}

-- what holds of all that the table may answer: of a refusal, a redirect, the page of a well-known server, and of what is sent
record HoldsOfAll (method : DavMethod) (P : Reply → Type 0) : Type 0 where
  refusals : (fields : Fields) (status : ℕ) (close : Bool) → P (refusal fields status close)
  redirects : (address : List ℕ) (tag date : Option (List ℕ)) → P (redirected address tag date)
  slashes : (path : WebPath) → P (directed path)
  page : P well_known
  pages : (dir : WebPath) (members : List Member) (reply : Reply) → IsIndexReply (is_get method) dir (AreRows dir members) reply → P reply
  files : (path : WebPath) (stood : Stood) (sent : Sent) (reply : Reply) → HasSlices sent → IsSent method path stood sent reply → P reply

module _ {S C F : Type 0} (view : View S C F) (q : Query) (c : C) (number : ℕ) (P : Reply → Type 0) (all : HoldsOfAll q.method P) where
  -- the reply, with slices of the file of any number
  abbrev Holding : Given F → Type 0
  Holding result = P (reply_at {F = F} q.fields number result)

  refused : (e : DavError) (result : Given F) → result ≡ Err e → Holding result
  refused e result is = subst P (sym (ap (reply_at {F = F} q.fields number) is)) (all.refusals q.fields (status_of e) (closes e))

  sends : (info : Info) (sent : Sent) (held : OpenAt F) (s : S) (answer : Answer F) (t : S) → HasSlices sent
      → Sends view q info sent held s answer t → Holding (Ok answer)
  sends info sent held s answer t some row =
      all.files q.path (stood_heard (Some number) info None) sent _ some (sends_right view q info (Some number) sent held s answer t row)

  slices_after : (sought : Result ℕ FsError) (sent : Sent) → HasSlices sent → HasSlices (sent_after sought sent)
  slices_after (Ok n) sent some = some
  slices_after (Err e) sent some = tt

  if_moved : (first : Option ℕ) (info : Info) (sent : Sent) (file : F) (s : S) (answer : Answer F) (t : S) → HasSlices sent
      → IfMoved view first file s (λ sought held m. Sends view q info (sent_after sought sent) held m answer t) → Holding (Ok answer)
  if_moved None info sent file s answer t some row = sends info sent (record { file = file; place = 0 }) s answer t some row
  if_moved (Some start) info sent file s answer t some (sought, g, m, seeks, row) =
      sends info (sent_after sought sent) (record { file = g; place = start }) m answer t (slices_after sought sent some) row

  sends_file : (info : Info) (file : F) (s : S) (result : Given F) (t : S) → SendsFile view q info file s result t → Holding result
  sends_file info file s (Ok r) t row =
      if_moved (first_place (sent_for q info)) info (sent_for q info) file s r t (sent_has q.method q.fields (stood_by info None)) row
  sends_file info file s (Err e) t row = absurd row

  after_redirect : (said : Result (Option (List ℕ)) FsError) (info : Info) (file : F) (s : S) (result : Given F) (t : S) → AfterRedirect view said q info file s result t → Holding result
  after_redirect (Err e) info file s result t (closed, is) = refused (of_fs e) result is
  after_redirect (Ok None) info file s result t row = sends_file info file s result t row
  after_redirect (Ok (Some address)) info file s (Err e) t row = absurd row
  after_redirect (Ok (Some address)) info file s (Ok r) t ((date, dated, is), closed, (left, none)) =
      let reply : reply_at {F = F} q.fields number (Ok r) ≡ redirected address info.tag date =
      λ i. record { status = ap (λ (o : Outcome). o.status) is i; fields = ap (λ (o : Outcome). o.fields) is i; parts = ap (parts_of number) left i } in
      subst P (sym reply) (all.redirects address info.tag date)

  by_redirect : (on : Bool) (info : Info) (file : F) (s : S) (result : Given F) (t : S) → ByRedirect view on q info file s result t → Holding result
  by_redirect false info file s result t row = sends_file info file s result t row
  by_redirect true info file s result t (said, g, m, asked, row) = after_redirect said info g m result t row

  by_file : (regular : Bool) (info : Info) (file : F) (s : S) (result : Given F) (t : S) → ByFile view regular q info file s result t → Holding result
  by_file true info file s result t row = by_redirect (is_set q.settings.redirect) info file s result t row
  by_file false info file s result t (closed, is) = refused (Status 405) result is

  after_meta : (said : Result Info FsError) (file : F) (s : S) (result : Given F) (t : S) → AfterMeta view said q file s result t → Holding result
  after_meta (Err e) file s result t (closed, is) = refused (of_fs e) result is
  after_meta (Ok info) file s result t row = by_file (is_file info.kind) info file s result t row

  after_open : (opened : Result F FsError) (s : S) (result : Given F) (t : S) → AfterOpen view opened q s result t → Holding result
  after_open (Err e) s result t (same, is) = refused (of_fs e) result is
  after_open (Ok file) s result t (inl (said, g, m, says, could, row)) = after_meta said g m result t row
  after_open (Ok file) s result t (inr is) = refused NoMemory result is

module _ {S C F L E : Type 0} (view : View S C F) (lists : Listings S C L E) (q : Query) (c : C) (number : ℕ) (P : Reply → Type 0) (all : HoldsOfAll q.method P) where
  -- an answer without a file
  alone : (r : Answer F) (reply : Reply) → r.0 ≡ outcome_of reply → IsEmpty r.1 → reply.parts ≡ [] → P reply → P (reply_at {F = F} q.fields number (Ok r))
  alone r reply is (left, none) empty holds =
      let same : reply_at {F = F} q.fields number (Ok r) ≡ reply =
      λ i. record { status = ap (λ (o : Outcome). o.status) is i; fields = ap (λ (o : Outcome). o.fields) is i; parts = (ap (parts_of number) left ∙ sym empty) i } in
      subst P (sym same) holds

  by_listing : (answer : Result (List Member) FsError) (result : Given F) → AfterListing answer q result → P (reply_at {F = F} q.fields number result)
  by_listing (Err e) result is = refused view q c number P all (of_fs e) result is
  by_listing (Ok members) result row = all.pages q.path members (reply_at {F = F} q.fields number result) (page_given q members number result row)

  by_course : (co : Course) (s : S) (result : Given F) (t : S) → ByCourse view lists co q c s result t → P (reply_at {F = F} q.fields number result)
  by_course (refusing status close) s result t (same, is) = refused view q c number P all (refused_as status close) result is
  by_course directing s (Err e) t (same, directs) = absurd directs
  by_course directing s (Ok r) t (same, (is, empty)) = alone r (directed q.path) is empty refl (all.slashes q.path)
  by_course listing s result t (answer, listed, keeps, row) = by_listing answer result row
  by_course (opening path) s result t (opened, m, opens, one, row) = after_open view (asked_at q path) c number P all opened m result t row

  after_look : (looked : Result Info FsError) (s : S) (result : Given F) (t : S) → AfterLook view lists looked q c s result t → P (reply_at {F = F} q.fields number result)
  after_look (Err e) s result t (same, is) = refused view q c number P all (of_fs e) result is
  after_look (Ok info) s result t row = by_course (course q info.kind) s result t row

  by_well_known : (known : Bool) (s : S) (result : Given F) (t : S) → ByWellKnown view lists known q c s result t → P (reply_at {F = F} q.fields number result)
  by_well_known true s (Err e) t (same, row) = absurd row
  by_well_known true s (Ok r) t (same, (is, empty)) = alone r well_known is empty refl all.page
  by_well_known false s result t (looked, m, looks, keeps, row) = after_look looked m result t row

  -- what the table answers, or want of memory
  gets_hold : (s : S) (result : Given F) (t : S) → Gets view lists q c s result t ⊎ (result ≡ Err NoMemory) → P (reply_at {F = F} q.fields number result)
  gets_hold s result t (inl row) = by_well_known (is_well_known q.settings q.method q.path) s result t row
  gets_hold s result t (inr is) = refused view q c number P all NoMemory result is

-- `content-length` is that of the body, whichever path is asked.
framed_all : (method : DavMethod) (path : WebPath) → HoldsOfAll method (λ (x : Reply). IsFramed (At method path) x)
framed_all method path = record {
  refusals = λ fields status close. refused_framed (At method path) (refusal fields status close) fields status close refl;
  redirects = framed_redirect (length_is_own (At method path) 302);
  slashes = directed_framed (At method path);
  page = framed_well_known (length_is_own (At method path) 200);
  pages = λ dir members reply is. index_framed method path dir (AreRows dir members) reply is;
  files = λ at stood sent reply some is. sent_framed method at stood sent reply is;
}

sound_all : (method : DavMethod) → HoldsOfAll method HasSoundBody
sound_all method = record {
  refusals = λ fields status close. sound_empty (refusal fields status close) refl;
  redirects = λ address tag date. sound_empty (redirected address tag date) refl;
  slashes = λ path. sound_empty (directed path) refl;
  page = sound_empty well_known refl;
  pages = λ dir members reply is. index_sound (is_get method) dir (AreRows dir members) reply is;
  files = sent_sound method;
}

module _ {S C F L E : Type 0} (view : View S C F) (lists : Listings S C L E) (q : Query) (c : C) (number : ℕ) where
  pub gets_framed : (s : S) (result : Given F) (t : S) → Gets view lists q c s result t ⊎ (result ≡ Err NoMemory)
      → IsFramed (At q.method q.path) (reply_at {F = F} q.fields number result)
  gets_framed = gets_hold view lists q c number (λ (x : Reply). IsFramed (At q.method q.path) x) (framed_all q.method q.path)

  pub gets_sound : (s : S) (result : Given F) (t : S) → Gets view lists q c s result t ⊎ (result ≡ Err NoMemory) → HasSoundBody (reply_at {F = F} q.fields number result)
  gets_sound = gets_hold view lists q c number HasSoundBody (sound_all q.method)
