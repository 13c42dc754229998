-- A fetch of a still tree within the limits, with a request for each visible row and one more, comes to its end.
use Rattle.std.proofs.Common.{◌≡◌, inl, inr, ◌<◌, ◌≤◌, ◌+◌, ◌^◌, ◌++◌, ℕ, List, [], ◌∷◌, length, Result, Ok, Err, refl, sym, ap, subst, ◌∙◌, arith}
use Rattle.std.specs.List.{flat_map}
use Rattle.std.proofs.lemmas.List.{length-append}
use Rattle.dav_io.specs.Counts.{RefusedNothing, Rose, greatest}
use Rattle.dav_io.proofs.Rising.{no_rise}
use Rattle.dav_core.specs.declared.tree.Kind.TheVariants.{File}
use Rattle.dav_core.specs.DavPath.{WebPath}
use Rattle.dav_core.specs.Path.{Names}
use Rattle.dav_core.specs.Tree.{is_dir, is_file, look}
use Rattle.dav_core.specs.World.{World}
use Rattle.dav_core.proofs.Rows.{other_kind}
use Rattle.dav_fetch.specs.declared.copied.Copied.{Copied}
use Rattle.dav_fetch.specs.declared.copied.Kept.{Kept}
use Rattle.dav_fetch.specs.declared.error.MirrorError.{MirrorError}
use Rattle.dav_fetch.specs.declared.error.MirrorError.TheVariants.{Peer as PeerFailed, Refused, NotAPage, BadReply, Short, TooLong, Budget, NoMemory}
use Rattle.dav_fetch.specs.Asking.{dir_path, file_path}
use Rattle.dav_fetch.specs.Copy.{IsOf}
use Rattle.dav_fetch.specs.Fetching.{AtFile, AtPage, Fetched, FileEnds, FilesKept, Goes, IsFileVisit, NotAsked, PageEnds, Requests, Stretch, Visited, kept_at, link_is_short, visits_of}
use Rattle.dav_fetch.specs.Judging.{Use, gives, keeps, refuses, spoils}
use Rattle.dav_fetch.specs.Mirroring.{IsLinkless, IsOverOne, IsWithinLimits, Mirrors, TellsOne, visible_rows}
use Rattle.dav_fetch.specs.Peer.{PeerState, RepliesOf}
use Rattle.dav_fetch.specs.Reading.{IsOver}
use Rattle.dav_fetch.specs.Walk.{Visit, Way, page_most}
use Rattle.dav_fetch.proofs.Counted.{file_allowed, files_left, no_link, page_allowed}
use Rattle.dav_fetch.proofs.FileWhole.{bytes_there, goods_there}
use Rattle.dav_fetch.proofs.Judged.{IsWorth, worth}
use Rattle.dav_fetch.proofs.Mirrored.{mirrored, old_good, told_parts}
use Rattle.dav_fetch.proofs.Orders.{of_append}
use Rattle.dav_fetch.proofs.PageNames.{page_found}
use Rattle.dav_fetch.proofs.PagesWalked.{page_given, pages_walked}
use Rattle.dav_fetch.proofs.Quiet.{IsToldOf, came_left, came_over, quiet_first, risen, told_reply, visit_counts, visits_count}
use Rattle.dav_fetch.proofs.TreeRows.{looked_is}
use Rattle.dav_fetch.proofs.Walks.{IsDirAt, IsOtherAt, Walked}
use Rattle.dav_fetch.proofs.Ways.{whole_visits}

-- an error other than want of memory
abbrev pub IsOther : MirrorError → Type 0
IsOther NoMemory = ⊥
IsOther PeerFailed = Unit {0}
IsOther (Refused p status) = Unit {0}
IsOther (NotAPage p) = Unit {0}
IsOther (BadReply p) = Unit {0}
IsOther (Short p got announced) = Unit {0}
IsOther (TooLong p) = Unit {0}
IsOther (Budget m) = Unit {0}

other_lacks : (e : MirrorError) → IsOther e → ◌≡◌ {A = Result Unit MirrorError} (Err e) (Err NoMemory) → ⊥
other_lacks e other lacks = let is : e ≡ NoMemory = cc in subst IsOther is other

none_other : (w : World) (e : MirrorError) (new : Copied) → (IsOther e → ⊥) → Mirrors w (Err e) new
none_other w NoMemory new never = tt
none_other w PeerFailed new never = never tt
none_other w (Refused p status) new never = never tt
none_other w (Short p got announced) new never = never tt
none_other w (Budget m) new never = never tt
none_other w other new never = never tt

pub same_count : (s t : PeerState) → t ≡ s → s.faults ≤ t.faults
same_count s t e = let f : t.faults ≡ s.faults = ap (λ (x : PeerState). x.faults) e in omega (arith, f)

rose_behind : (a b c : ℕ) → a ≤ b → RefusedNothing a c → Rose b c → ⊥
rose_behind a b c ab nothing (inl more) = let same = nothing.same in omega (arith, same, ab, more)
rose_behind a b c ab nothing (inr full) = let room = nothing.room in omega (arith, room, full)

-- ---- counts at the end

not_asked_counts : (path : WebPath) (made most : ℕ) (e : MirrorError) (s t : PeerState) → t.faults < greatest → IsOther e → NotAsked path made most e s t → s.faults ≤ t.faults
not_asked_counts path made most (TooLong p) s t room other h = same_count s t h.3
not_asked_counts path made most (Budget m) s t room other h = same_count s t h.2
not_asked_counts path made most PeerFailed s t room other h = risen s.faults t.faults room h.2
not_asked_counts path made most NoMemory s t room other h = absurd other
not_asked_counts path made most (Refused p status) s t room other h = absurd h
not_asked_counts path made most (NotAPage p) s t room other h = absurd h
not_asked_counts path made most (BadReply p) s t room other h = absurd h
not_asked_counts path made most (Short p got announced) s t room other h = absurd h

page_ends_counts : (dir : Names) (visit : Visit) (e : MirrorError) (s t : PeerState) → t.faults < greatest → IsOther e → PageEnds dir visit e s t → s.faults ≤ t.faults
page_ends_counts dir visit (Refused p status) s t room other h = same_count s t h.3
page_ends_counts dir visit (TooLong p) s t room other h = same_count s t h.3
page_ends_counts dir visit (NotAPage p) s t room other h = same_count s t h.5
page_ends_counts dir visit PeerFailed s t room other h = risen s.faults t.faults room h.1
page_ends_counts dir visit NoMemory s t room other h = absurd other
page_ends_counts dir visit (Budget m) s t room other h = absurd h
page_ends_counts dir visit (BadReply p) s t room other h = absurd h
page_ends_counts dir visit (Short p got announced) s t room other h = absurd h

gives_ends_counts : (path : Names) (f : Kept) (n : ℕ) (visit : Visit) (e : MirrorError) (s t : PeerState) → t.faults < greatest → IsOther e → FileEnds path (gives f n) visit e s t → s.faults ≤ t.faults
gives_ends_counts path f n visit (Short p got announced) s t room other h = same_count s t h.5
gives_ends_counts path f n visit PeerFailed s t room other h = risen s.faults t.faults room h.1
gives_ends_counts path f n visit NoMemory s t room other h = absurd other
gives_ends_counts path f n visit (Refused p status) s t room other h = absurd h
gives_ends_counts path f n visit (Budget m) s t room other h = absurd h
gives_ends_counts path f n visit any s t room other h = absurd h

refuses_ends_counts : (path : Names) (visit : Visit) (e : MirrorError) (s t : PeerState) → IsOther e → FileEnds path refuses visit e s t → s.faults ≤ t.faults
refuses_ends_counts path visit (Refused p status) s t other h = same_count s t h.2
refuses_ends_counts path visit PeerFailed s t other h = absurd h
refuses_ends_counts path visit NoMemory s t other h = absurd other
refuses_ends_counts path visit (Short p got announced) s t other h = absurd h
refuses_ends_counts path visit (Budget m) s t other h = absurd h
refuses_ends_counts path visit any s t other h = absurd h

spoils_ends_counts : (path : Names) (visit : Visit) (e : MirrorError) (s t : PeerState) → IsOther e → FileEnds path spoils visit e s t → s.faults ≤ t.faults
spoils_ends_counts path visit (BadReply p) s t other h = same_count s t h.1
spoils_ends_counts path visit PeerFailed s t other h = absurd h
spoils_ends_counts path visit NoMemory s t other h = absurd other
spoils_ends_counts path visit (NotAPage p) s t other h = absurd h
spoils_ends_counts path visit (Refused p status) s t other h = absurd h
spoils_ends_counts path visit (Short p got announced) s t other h = absurd h
spoils_ends_counts path visit (TooLong p) s t other h = absurd h
spoils_ends_counts path visit (Budget m) s t other h = absurd h

keeps_ends_never : (path : Names) (visit : Visit) (e : MirrorError) (s t : PeerState) → IsOther e → FileEnds path keeps visit e s t → ⊥
keeps_ends_never path visit NoMemory s t other h = other
keeps_ends_never path visit PeerFailed s t other h = h
keeps_ends_never path visit (Refused p status) s t other h = h
keeps_ends_never path visit (Short p got announced) s t other h = h
keeps_ends_never path visit (Budget m) s t other h = h
keeps_ends_never path visit any s t other h = h

file_ends_counts : (path : Names) (worth : Use) (visit : Visit) (e : MirrorError) (s t : PeerState) → t.faults < greatest → IsOther e → FileEnds path worth visit e s t → s.faults ≤ t.faults
file_ends_counts path (gives f n) visit e s t room other h = gives_ends_counts path f n visit e s t room other h
file_ends_counts path refuses visit e s t room other h = refuses_ends_counts path visit e s t other h
file_ends_counts path spoils visit e s t room other h = spoils_ends_counts path visit e s t other h
file_ends_counts path keeps visit e s t room other h = absurd (keeps_ends_never path visit e s t other h)

at_page_counts : (dir : Names) (count : Requests) (e : MirrorError) (last : Stretch) → last.after.faults < greatest → IsOther e → AtPage dir count e last → last.before.faults ≤ last.after.faults
at_page_counts dir count e last room other (inl not) = not_asked_counts (dir_path dir) count.made count.most e last.before last.after room other not.1
at_page_counts dir count e last room other (inr (visit, m, one, visited, is, ends)) =
    let first = visit_counts last.before m visit visited in let second = page_ends_counts dir visit e m last.after room other ends in omega (arith, first, second)

at_file_counts : (left : List Names) (files : FilesKept) (count : Requests) (e : MirrorError) (last : Stretch) → last.after.faults < greatest → IsOther e
    → AtFile left files count e last → last.before.faults ≤ last.after.faults
at_file_counts [] files count e last room other h = absurd h
at_file_counts (path ∷ more) files count e last room other (inl not) = not_asked_counts (file_path path) count.made count.most e last.before last.after room other not.not
at_file_counts (path ∷ more) files count e last room other (inr asked) =
    let first = visit_counts last.before asked.at asked.visit asked.visited in
    let second = file_ends_counts path asked.worth asked.visit e asked.at last.after room other asked.ends in
    omega (arith, first, second)

pub goes_counts : (due : List Names) (way : Way) (count : Requests) (old new : Copied) (asks : Stretch) (e : MirrorError) → asks.after.faults < greatest → IsOther e
    → Goes due way count old asks (Err e) new → asks.before.faults ≤ asks.after.faults
goes_counts [] way count old new asks e room other (inr un) = absurd (other_lacks e other un.lacks)
goes_counts [] way count old new asks e room other (inl takes) =
    let chain = visits_count asks.before takes.mid takes.visits takes.chain in
    let ends : takes.mid.faults ≤ asks.after.faults = at_file_counts takes.left _ _ e (record { before = takes.mid; visits = takes.last; after = asks.after }) room other takes.ends in
    omega (arith, chain, ends)
goes_counts (dir ∷ due) way count old new asks e room other goes = at_page_counts dir count e asks room other goes.0

-- ---- none of the errors comes

not_asked_never : (path : WebPath) (made most : ℕ) (e : MirrorError) (a : ℕ) (s t : PeerState) → IsOther e → a ≤ s.faults → RefusedNothing a t.faults → made < most → link_is_short path
    → NotAsked path made most e s t → ⊥
not_asked_never path made most (TooLong p) a s t other before nothing few short h = h.2 short
not_asked_never path made most (Budget m) a s t other before nothing few short h = let full = h.0 in omega (arith, full, few)
not_asked_never path made most PeerFailed a s t other before nothing few short h = rose_behind a s.faults t.faults before nothing h.2
not_asked_never path made most NoMemory a s t other before nothing few short h = other
not_asked_never path made most (Refused p status) a s t other before nothing few short h = h
not_asked_never path made most (NotAPage p) a s t other before nothing few short h = h
not_asked_never path made most (BadReply p) a s t other before nothing few short h = h
not_asked_never path made most (Short p got announced) a s t other before nothing few short h = h

module _ (w : World) (s t : PeerState) (old new : Copied) (all : List Visit) (over : IsOverOne w s old all t) (linkless : IsLinkless w) (limits : IsWithinLimits w) where
  -- what was read of a page is no longer than the page
  page_fits : (dir : Names) (a m : PeerState) (visit : Visit) → IsDirAt w dir → IsToldOf w visit → (visited : Visited a visit m) → RefusedNothing a.faults m.faults → visit.path ≡ dir_path dir
      → length visit.came ≤ page_most
  page_fits dir a m visit at told visited nothing path =
      let given = page_given w dir a m visit at told visited nothing path in
      let (more, left, none) = came_left visited.at m given.now visit.came given.told visited.read in
      let fits = limits.pages dir at.row at.at (ap is_dir at.kind) given.texts given.index in
      let long : length (flat_map (λ text. text) given.texts) ≡ length visit.came + length more = sym (ap length given.left) ∙ ap length left ∙ length-append visit.came more in
      omega (arith, fits, long)

  page_ends_never : (dir : Names) (a m : PeerState) (visit : Visit) (e : MirrorError) → IsOther e → s.faults ≤ a.faults → IsDirAt w dir → IsToldOf w visit → Visited a visit m → visit.path ≡ dir_path dir
      → visit.asked ≡ [] → PageEnds dir visit e m t → ⊥
  page_ends_never dir a m visit e other before at told visited path asked ends = by e other ends
    where
      here : s.faults ≤ m.faults
      here = let counts = visit_counts a m visit visited in omega (arith, before, counts)

      quiet : t ≡ m → RefusedNothing a.faults m.faults
      quiet e =
          let counts = visit_counts a m visit visited in
          let ends : t.faults ≡ m.faults = ap (λ (x : PeerState). x.faults) e in
          let same = over.nothing.same in
          let room = over.nothing.room in
          record { same = omega (arith, same, ends, before, counts); room = omega (arith, room, ends) }

      by : (e : MirrorError) → IsOther e → PageEnds dir visit e m t → ⊥
      by (Refused p status) other h = h.2 (h.1 ∙ (page_given w dir a m visit at told visited (quiet h.3) path).status)
      by (TooLong p) other h = let fits = page_fits dir a m visit at told visited (quiet h.3) path in let long = h.2 in omega (arith, fits, long)
      by (NotAPage p) other h =
          let given = page_given w dir a m visit at told visited (quiet h.5) path in
          let is = came_over visited.at m given.now visit.came given.told visited.read (subst IsOver h.5 h.2) ∙ given.left in
          let (found, names) = page_found w dir given.texts visit.came over.world is given.index in
          h.4 found (record { path = path; asked = asked; status = h.1; fits = h.3; found = names })
      by PeerFailed other h = rose_behind s.faults m.faults t.faults here over.nothing h.1
      by NoMemory other h = other
      by (Budget m) other h = h
      by (BadReply p) other h = h
      by (Short p got announced) other h = h

  at_page_never : (dir : Names) (count : Requests) (e : MirrorError) (a : PeerState) (last : List Visit) → IsOther e → s.faults ≤ a.faults → IsDirAt w dir → count.made < count.most → TellsOne w last
      → AtPage dir count e (record { before = a; visits = last; after = t }) → ⊥
  at_page_never dir count e a last other before at few told (inl not) =
      not_asked_never (dir_path dir) count.made count.most e s.faults a t other before over.nothing few
      (subst (λ d. link_is_short (record { prefix = []; names = dir; slash = d })) (ap is_dir at.kind) (limits.links dir at.row at.at)) not.1
  at_page_never dir count e a last other before at few told (inr (visit, m, one, visited, is, ends)) =
      page_ends_never dir a m visit e other before at (subst (TellsOne w) one told).0 visited is.path is.asked ends

  -- a file that is shown
  file_row : (path : Names) (at : IsOtherAt w path) → at.row.kind ≡ File
  file_row path at = other_kind at.row.kind at.kind (let (of, named) = looked_is w.tree path at.row at.at.there in no_link w.tree path at.row (linkless.shown path at.row at.at) of named)

  file_worth : (path : Names) (a m : PeerState) (visit : Visit) (use_is : Use) → IsOtherAt w path → IsToldOf w visit → (visited : Visited a visit m) → RefusedNothing a.faults visited.at.faults
      → IsFileVisit path (kept_at path old.files) visit use_is → (left : List ℕ) × IsWorth left use_is × (IsOver m → visit.came ≡ left)
  file_worth path a m visit use_is at told visited nothing file =
      let r = told_reply w a m visit told visited in
      let reply = subst (λ x. RepliesOf r.world (file_path path) x (Rose a.faults visited.at.faults) visit.got r.now.left) file.asked
      (subst (λ p. RepliesOf r.world p visit.asked (Rose a.faults visited.at.faults) visit.got r.now.left) file.path_is r.reply) in
      let kind = file_row path at in
      let there = ap (λ tree. look tree path) r.same.tree ∙ at.at.there in
      let bytes = bytes_there w r.world path at.row r.same at.at.there in
      let small = subst (λ (b : List ℕ). length b < 10 ^ 19) (sym bytes) (limits.lengths path at.row at.at (ap is_file kind)) in
      let good = goods_there w r.world path (kept_at path old.files) r.same (old_good w s t old all path over (kept_at path old.files) refl) in
      let is : IsWorth r.now.left use_is =
      subst (IsWorth r.now.left) file.judged (worth r.world path at.row (kept_at path old.files) (Rose a.faults visited.at.faults) visit.got r.now.left (record { there = there; file = ap is_file kind }) kind small
      (no_rise a.faults visited.at.faults nothing) good reply) in
      (r.now.left, is, λ ended. came_over visited.at m r.now visit.came r.told visited.read ended)

  file_ends_never : (path : Names) (use_is : Use) (a m : PeerState) (visit : Visit) (e : MirrorError) → IsOther e → s.faults ≤ a.faults → IsOtherAt w path → IsToldOf w visit → Visited a visit m
      → IsFileVisit path (kept_at path old.files) visit use_is → FileEnds path use_is visit e m t → ⊥
  file_ends_never path use_is a m visit e other before at told visited file ends =
      let counts = visited.counts in
      let read = visited.read.counts in
      let behind = file_ends_counts path use_is visit e m t over.nothing.room other ends in
      let nothing_same = over.nothing.same in
      let nothing_room = over.nothing.room in
      let quiet : RefusedNothing a.faults visited.at.faults = record { same = omega (arith, counts, read, behind, before, nothing_same); room = omega (arith, read, behind, nothing_room) } in
      let (left, worthy, came) = file_worth path a m visit use_is at told visited quiet file in
      by use_is e other worthy came ends (omega (arith, before, counts, read))
    where
      gives_never : (f : Kept) (n : ℕ) (left : List ℕ) (e : MirrorError) → IsOther e → n ≡ length left → (IsOver m → visit.came ≡ left) → FileEnds path (gives f n) visit e m t → s.faults ≤ m.faults → ⊥
      gives_never f n left (Short p got announced) other is came h here =
          let all : length visit.came ≡ length left = ap length (came (subst IsOver h.5 h.4)) in
          let less = h.3 in
          let got_is = h.1 in
          omega (arith, all, less, got_is, is)
      gives_never f n left PeerFailed other is came h here = rose_behind s.faults m.faults t.faults here over.nothing h.1
      gives_never f n left NoMemory other is came h here = other
      gives_never f n left (Refused p status) other is came h here = h
      gives_never f n left (NotAPage p) other is came h here = h
      gives_never f n left (BadReply p) other is came h here = h
      gives_never f n left (TooLong p) other is came h here = h
      gives_never f n left (Budget k) other is came h here = h

      by : {left : List ℕ} (use_is : Use) (e : MirrorError) → IsOther e → IsWorth left use_is → (IsOver m → visit.came ≡ left) → FileEnds path use_is visit e m t → s.faults ≤ m.faults → ⊥
      by {left} (gives f n) e other is came h here = gives_never f n left e other is came h here
      by keeps e other is came h here = keeps_ends_never path visit e m t other h
      by refuses e other is came h here = is
      by spoils e other is came h here = is

  at_file_never : (left : List Names) (got : List Kept) (count : Requests) (e : MirrorError) (a : PeerState) (last : List Visit) → IsOther e → s.faults ≤ a.faults
      → ((path : Names) → IsOf path left → IsOtherAt w path) → ((path : Names) (more : List Names) → left ≡ path ∷ more → count.made < count.most) → TellsOne w last
      → AtFile left (record { old = old.files; got = got; new = new.files }) count e (record { before = a; visits = last; after = t }) → ⊥
  at_file_never [] got count e a last other before at few told h = h
  at_file_never (path ∷ more) got count e a last other before at few told (inl not) =
      let here = at path (inl refl) in
      not_asked_never (file_path path) count.made count.most e s.faults a t other before over.nothing (few path more refl)
      (subst (λ d. link_is_short (record { prefix = []; names = path; slash = d })) here.kind (limits.links path here.row here.at)) not.not
  at_file_never (path ∷ more) got count e a last other before at few told (inr asked) =
      file_ends_never path asked.worth a asked.at asked.visit e other before (at path (inl refl)) (subst (TellsOne w) asked.one told).0 asked.visited asked.is asked.ends

  goes_never : (due : List Names) (read : List Names) (way : Way) (count : Requests) (mid : PeerState) (rest : List Visit) (e : MirrorError) → IsOther e → s.faults ≤ mid.faults → Walked w read way → way.due ≡ due
      → length read ≡ count.made → length (visible_rows w) < count.most → TellsOne w rest → Goes due way count old (record { before = mid; visits = rest; after = t }) (Err e) new → ⊥
  goes_never [] read way count mid rest e other before walk is many few told (inr un) = other_lacks e other un.lacks
  goes_never [] read way count mid rest e other before walk is many few told (inl takes) =
      let chain : mid.faults ≤ takes.mid.faults = visits_count mid takes.mid takes.visits takes.chain in
      at_file_never takes.left takes.got (record { made = count.made + length takes.visits; most = count.most }) e takes.mid takes.last other (omega (arith, before, chain))
      (λ path o. walk.files path (takes.ordered.from path (files_left old.files takes.paths takes.visits takes.got takes.left path takes.took o)))
      (λ path more left. file_allowed w read way takes.paths old.files takes.visits takes.got takes.left path more count.made count.most walk is many takes.ordered.order takes.ordered.from takes.took left few)
      (told_parts w takes.visits takes.last (subst (TellsOne w) takes.parts told)).1 takes.ends
  goes_never (dir ∷ due) read way count mid rest e other before walk is many few told goes =
      at_page_never dir count e mid rest other before
      (walk.dirs dir (subst (IsOf dir) (sym (walk.parts ∙ ap (λ z. read ++ z) is)) (of_append dir read (dir ∷ due) (inr (inl refl)))))
      (page_allowed w read way dir due count.made count.most walk is many few) told goes.0

-- The answer is Ok, or memory is refused.
pub reached : (s t : PeerState) (old new : Copied) (most : ℕ) (result : Result Unit MirrorError) (f : Fetched s old most result t new) (w : World) → IsOverOne w s old (visits_of f) t → IsLinkless w → IsWithinLimits w
    → length (visible_rows w) < most → Mirrors w result new
reached s t old new most (Ok x) f w over linkless limits few = mirrored s t old new most f w over
reached s t old new most (Err e) f w over linkless limits few = none_other w e new (λ other.
    (let (pages, rest) = told_parts w f.pages f.rest over.tells in
    let first = visits_count s f.mid f.pages (whole_visits s f.mid f.pages f.chain) in
    let second = goes_counts f.way.due f.way _ old new (record { before = f.mid; visits = f.rest; after = t }) e over.nothing.room other f.goes in
    let on = pages_walked w s f.mid f.pages f.way over.world pages (quiet_first s.faults f.mid.faults t.faults first second over.nothing) f.chain f.read in
    goes_never w s t old new (visits_of f) over linkless limits f.way.due on.read f.way (record { made = length f.pages; most = most }) f.mid f.rest e other first on.walk refl on.many few rest f.goes))
