-- The reply to a GET or HEAD over a store whose calls are those of the rules is right for something that the rules may show, in every run.
use Rattle.std.proofs.Common.{◌≡◌, ◌≤◌, ◌⊎◌, ◌&&◌, ℕ, Bool, true, false, not, cond, List, [], ◌∷◌, map, length, Option, None, Some, Result, Ok, Err, refl, sym, ap, subst, ◌∙◌, inl, inr, arith}
use Rattle.std.specs.List.{AllByRecursion, filter, list_all}
use Rattle.dav_io.specs.Counts.{Rose}
use Rattle.dav_io.proofs.ToldLemmas.{told_after}
use Rattle.dav_core.specs.declared.error.FsError.{FsError}
use Rattle.dav_core.specs.declared.error.FsError.TheVariants as fs
use Rattle.dav_core.specs.declared.handle.DiskError.{DiskError}
use Rattle.dav_core.specs.declared.member.Member.{Member}
use Rattle.dav_core.specs.declared.tree.Row.{Row}
use Rattle.dav_core.specs.DavPath.{WebPath}
use Rattle.dav_core.specs.Disk.{DiskState}
use Rattle.dav_core.specs.Errors.{CouldRefuse}
use Rattle.dav_core.specs.Info.{Info}
use Rattle.dav_core.specs.Listing.{listable, stands_in}
use Rattle.dav_core.specs.Members.{member_of, members}
use Rattle.dav_core.specs.Writing.{reading}
use Rattle.dav_core.specs.Path.{Names}
use Rattle.dav_core.specs.Statuses.{fs_status}
use Rattle.dav_core.specs.Tree.{is_linked, look}
use Rattle.dav_core.specs.Unchanged.{Keeps}
use Rattle.dav_core.specs.World.{IsWorld, SameBesidesOpens, World, bytes_or_none, is_numbered}
use Rattle.dav_core.proofs.UnchangedLemmas.{keeps_then}
use Rattle.dav_page.specs.Listed.{HasPlainName}
use Rattle.dav_store.specs.declared.entry.ReadDirMeta.TheVariants.{Data}
use Rattle.dav_store.specs.Files.{Spoiled}
use Rattle.dav_store.specs.Frames.{OpensOne}
use Rattle.dav_store.specs.Members.{BeginsThere, ReadsThere, WasListed}
use Rattle.dav_store.specs.Shows.{LooksThere}
use Rattle.dav_store.specs.Standing.{Standing}
use Rattle.dav_store.specs.View.{Listings, View}
use Rattle.dav_store.proofs.Reading.{rose_from, rose_on}
use Rattle.dav_model.specs.Due.{Course, Due, Query, IsRight, course, directing, due, due_course, due_listed, due_looked, due_opened, known, listing, opening, page, refused, refusing, to_slash}
use Rattle.dav_model.specs.Finding.{Denies, EndsLoosely, Finding, MayShow, is_clear, listed_in, looked_at, members_or, opened_at, resolved}
use Rattle.dav_model.specs.Head.{Reply, Stood, is_get, is_well_known}
use Rattle.dav_model.specs.Play.{Reads}
use Rattle.dav_model.specs.Rules.{Knowledge, Rules}
use Rattle.dav_model.specs.Shown.{Could, CouldShow, CouldStand, Shown}
use Rattle.dav_model.proofs.LooseWalks.{exactly_may}
use Rattle.dav_model.proofs.WorldsCouldShow.{world_could}
use Rattle.dav_get.specs.Heard.{Heard, HearsCourse, HearsFile, HearsLook, IsPlacedOr, WasHad, looked_of, looked_stood, shown_alike, shown_heard}
use Rattle.dav_get.specs.Lives.{OpenOnlyHeld}
use Rattle.dav_get.specs.Right.{IsOfNumber, or_zero, reply_at}
use Rattle.dav_get.specs.Table.{Given, IsListing, ReadsMembers, asked_at}
use Rattle.dav_get.specs.Told.{found_as}
use Rattle.dav_get.proofs.HeardCouldStand.{heard_could, looked_could}
use Rattle.dav_get.proofs.HeardEach.{CouldList, Fits, bare_fits, failed_fits, heard_fits, known_fits, listed_could, look_fits, opened_could, opened_fits, page_fits, refused_fits, unlisted_fits}
use Rattle.dav_memory.specs.Memory.{MemoryState}
use Rattle.dav_local.specs.declared.entry.LocalFsDirEntry.{LocalFsDirEntry}
use Rattle.dav_local.specs.declared.ways.Ways.{Ways}
use Rattle.dav_local.specs.Calls.{is_shut}
use Rattle.dav_local.specs.declared.gathering.LocalFsReadDir.{LocalFsReadDir}
use Rattle.dav_local.specs.Shown.{ListsByRules, LooksByRules, as_stood, finding_of, found_at, knowledge_of, looked_by, opened_by, shown_where, stood_of}
use Rattle.dav_local.specs.Standing.{HasNoLinks, found}
use Rattle.dav_local.specs.Ways.{rules_with}
use Rattle.dav_local.proofs.Allowed.{listed_here, looked_here, looked_same, may_find, may_show, opened_here, opened_same}
use Rattle.dav_local.proofs.ByRules.{begun_by}
use Rattle.dav_local.proofs.Showing.{each_numbered, same_found}
use Rattle.dav_local_laws.specs.ReadsByRules.{OpensLoosely, ReadsByRules}

-- ---- what is shown

as_found : (x : Result Standing FsError) → as_stood x ≡ found_as x
as_found (Ok there) = refl
as_found (Err e) = refl

either_could : {A : Type 0} (P : A → Type 0) (b : Bool) (x y : Result A FsError) → Could P x → Could P y → Could P (cond b x y)
either_could P true x y p q = p
either_could P false x y p q = q

shown_could : (rules : Rules) (w : World) (f : Finding) (looked opened : Result Stood FsError) (listed : Result (List Member) FsError) → IsWorld w
    → Could CouldStand looked → Could CouldStand opened → Could (AllByRecursion HasPlainName) listed → CouldShow (shown_where rules w f looked opened listed)
shown_could rules w f looked opened listed is p q r =
    let all = world_could rules w f is in
    record {
      looked = λ path. either_could CouldStand (is_linked w.tree (f.looks path.names)) looked _ p (all.looked path);
      opened = λ path. either_could CouldStand (is_linked w.tree (f.opens path.names)) opened _ q (all.opened path);
      listed = λ path. either_could (AllByRecursion HasPlainName) (is_clear w.tree (f.lists path.names)) _ listed (all.listed path) r;
    }

-- ---- worlds that differ in what is open

pub opened_still : (ways : Ways) (w v : World) (end : Names) (path : WebPath) → SameBesidesOpens w v → opened_by ways v end path ≡ opened_by ways w end path
opened_still ways w v end path same = ap (λ x. cond (is_shut ways path) (Err fs.Forbidden) x) (same_found w v false end same)

member_still : (w v : World) (row : Row) → SameBesidesOpens w v → is_numbered v.tree row.number ≡ true → member_of v row ≡ member_of w row
member_still w v row same numbered =
    ap (λ f. record { name = (member_of w row).name; kind = row.kind; len = length (bytes_or_none f); modified = (member_of w row).modified }) (same.files row.number (inl numbered)).1

members_of_still : (w v : World) (p : Row → Bool) (rows : List Row) → SameBesidesOpens w v → AllByRecursion (λ (r : Row). is_numbered v.tree r.number ≡ true) rows
    → map (member_of v) (filter p rows) ≡ map (member_of w) (filter p rows)
members_of_still w v p [] same all = refl
members_of_still w v p (row ∷ rows) same all = by (p row) (members_of_still w v p rows same all.1)
  where
    by : (b : Bool) → map (member_of v) (filter p rows) ≡ map (member_of w) (filter p rows)
        → map (member_of v) (cond b (row ∷ filter p rows) (filter p rows)) ≡ map (member_of w) (cond b (row ∷ filter p rows) (filter p rows))
    by true rest = ap (λ m. m ∷ map (member_of v) (filter p rows)) (member_still w v row same all.0) ∙ ap (λ ms. member_of w row ∷ ms) rest
    by false rest = rest

pub members_still : (w v : World) (dir : Names) → SameBesidesOpens w v → members v dir ≡ members w dir
members_still w v dir same =
    members_of_still w v (stands_in dir) v.tree same (each_numbered v.tree v.tree (λ n e. e))
    ∙ ap (λ rows. map (member_of w) (filter (stands_in dir) rows)) same.tree

pub begins_still : (w v : World) (dir : Names) (r : Result LocalFsReadDir FsError) → SameBesidesOpens w v → BeginsThere (listed_in v dir) r → BeginsThere (listed_in w dir) r
begins_still w v dir r same there =
    subst (λ rows. BeginsThere (members_or w dir (listable (look rows dir))) r) same.tree (begun_by w v dir (listable (look v.tree dir)) r there)

-- what was begun stands there
begun_there : (w : World) (dir : Names) (stands : Result Row DiskError) (l : LocalFsReadDir) → BeginsThere (members_or w dir stands) (Ok l) → members_or w dir stands ≡ Ok (members w dir)
begun_there w dir (Ok row) l there = refl
begun_there w dir (Err e) l there = absurd there

-- ---- a directory in which no link stands

clear_parts : (linked rows : Bool) → (not linked && rows) ≡ true → (linked ≡ false) × (rows ≡ true)
clear_parts false true e = (refl, refl)
clear_parts false false e = cc
clear_parts true rows e = cc

unlinked_rows : (tree rows : List Row) → list_all (λ row. not (is_linked tree row.path)) rows ≡ true → AllByRecursion (λ row. is_linked tree row.path ≡ false) rows
unlinked_rows tree [] e = tt
unlinked_rows tree (row ∷ rows) e = let parts = clear_parts (is_linked tree row.path) (list_all (λ row. not (is_linked tree row.path)) rows) e in (parts.0, unlinked_rows tree rows parts.1)

pub no_links : (w : World) (dir : Names) → is_clear w.tree dir ≡ true → HasNoLinks w dir
no_links w dir e =
    let parts = clear_parts (is_linked w.tree dir) (list_all (λ row. not (is_linked w.tree row.path)) (filter (stands_in dir) w.tree)) e in
    record { way = parts.0; rows = unlinked_rows w.tree (filter (stands_in dir) w.tree) parts.1 }

module _ {S C F : Type 0} (view : View S C F) (lists : Listings S C LocalFsReadDir LocalFsDirEntry) (ways : S → Ways) (memory : S → MemoryState) (rule : ReadsByRules view lists ways memory) where
  module _ (q : Query) (c : C) (s : S) (result : Given F) (t : S) (life : OpenOnlyHeld view s result t) (reply : Reply)
      (same : (number : Option ℕ) → IsOfNumber view number t result → reply_at q.fields (or_zero number) result ≡ reply) (h : Heard view lists q c s result t) where
    abbrev rules : Rules
    rules = rules_with q.settings (ways s)

    abbrev knows : Knowledge
    knows = knowledge_of (memory s)

    abbrev TheReads : Type 0
    TheReads = Reads rules knows (view.state s) (view.state t) q reply

    abbrev FitsTo : Due → Type 0
    FitsTo d = Fits view lists q s result t life reply same d

    abbrev HeardTo : Due → Type 0
    HeardTo d = IsPlacedOr q d (Rose (view.state s).faults (view.state t).faults) (reply_at {F = F} q.fields (or_zero h.number) result)

    -- over a disk that tells nothing: what was heard
    untold : (view.state s).told ≡ None → TheReads
    untold none =
        let some = heard_could view lists q s result t rule.few c h in
        record {
          shown = shown_alike some.looked some.opened some.listed;
          could = record { looked = λ path. some.looked_could; opened = λ path. some.opened_could; listed = λ path. some.listed_could };
          may = subst (λ o. MayShow rules knows o (shown_alike some.looked some.opened some.listed)) (sym none) tt;
          right = subst (λ r. IsRight q (shown_alike some.looked some.opened some.listed) (Rose (view.state s).faults (view.state t).faults) r) (same some.number some.file) some.right;
        }

    module _ (w : World) (told : (view.state s).told ≡ Some w) where
      abbrev EndsAt : Names × Names → Type 0
      EndsAt a = EndsLoosely rules.alone rules.folds w.tree a.0 a.1

      -- what is shown by where each call found its path, and what was heard where a link was met
      abbrev shows : Names × Names → Names × Names → Names × Names → Bool → Result Stood FsError → Result Stood FsError → Result (List Member) FsError → Shown
      shows a b d denies lk op li = shown_where rules w (finding_of rules w a b d denies) lk op li

      read : (a b d : Names × Names) (denies : Bool) (lk op : Result Stood FsError) (li : Result (List Member) FsError) → EndsAt a → EndsAt b → EndsAt d
          → (denies ≡ true → ((ways s).macos ≡ true) × Denies knows w.tree a.1) → Could CouldStand lk → Could CouldStand op → Could (AllByRecursion HasPlainName) li
          → FitsTo (due (shows a b d denies lk op li) q) → TheReads
      read a b d denies lk op li ea eb ed denied lc oc pc fits = record {
        shown = shows a b d denies lk op li;
        could = shown_could rules w (finding_of rules w a b d denies) lk op li (rule.worlds s w told) lc oc pc;
        may = subst (λ o. MayShow rules knows o (shows a b d denies lk op li)) (sym told)
            (may_show rules knows w (finding_of rules w a b d denies) lk op li (may_find rules knows w a b d denies ea eb ed denied));
        right = fits;
      }

      abbrev nothing : Result Stood FsError
      nothing = Err fs.NotFound

      abbrev none_listed : Result (List Member) FsError
      none_listed = Err fs.NotFound

      -- the page of a well-known server
      by_known : is_well_known q.settings q.method q.path ≡ true → HeardTo known → TheReads
      by_known known_page heard =
          let end = resolved rules w.tree q.path.names in
          let ends : EndsAt (q.path.names, end) = (exactly_may rules knows w.tree).looks q.path.names in
          read (q.path.names, end) (q.path.names, end) (q.path.names, end) false nothing nothing none_listed ends ends ends (λ e. cc) (inl refl) (inl refl) (inl refl)
          (known_fits view lists q s result t life reply same (shows (q.path.names, end) (q.path.names, end) (q.path.names, end) false nothing nothing none_listed) h.number known_page h.file heard)

      module _ (plain : is_well_known q.settings q.method q.path ≡ false) (m : S) (keeps : Keeps (view.state s) (view.state m)) (stays : ways m ≡ ways s) where
        -- ---- a look that was refused

        module _ (e : FsError) (l : LooksByRules (ways s) knows w q.path (view.state s) (Err e) (view.state m)) (counts : (view.state m).faults ≤ (view.state t).faults)
            (heard : HeardTo (refused (fs_status e) false)) (had : WasHad {A = Info} (Err e)) where
          abbrev here : Names × Names
          here = (q.path.names, l.end)

          refused_as : (lk : Result Stood FsError) → Could CouldStand lk → FitsTo (due (shows here here here l.denies lk nothing none_listed) q) → TheReads
          refused_as lk could fits = read here here here l.denies lk nothing none_listed l.loosely l.loosely l.loosely l.denied could (inl refl) (inl refl) fits

          failed_at : (x y : DiskState) (lk : Result Stood FsError) → Could CouldStand lk → (view.state s).faults ≤ x.faults → y.faults ≤ (view.state t).faults → Spoiled {T = Info} x (Err e) y → TheReads
          failed_at x y lk could before after (inl (is, rose)) =
              refused_as lk could (failed_fits view lists q s result t life reply same (shows here here here l.denies lk nothing none_listed) e h.number plain
              (let general : e ≡ fs.GeneralFailure = cc in general) (rose_on (view.state s).faults y.faults (view.state t).faults (rose_from (view.state s).faults x.faults y.faults before rose) after) h.file heard)
          failed_at x y lk could before after (inr none) = absurd (had (let is : e ≡ fs.NoMemory = cc in ap Err is))

          refused_at : (lk : Result Stood FsError) → Could CouldStand lk → (shows here here here l.denies lk nothing none_listed).looked q.path ≡ Err e → TheReads
          refused_at lk could is = refused_as lk could (refused_fits view lists q s result t life reply same (shows here here here l.denies lk nothing none_listed) e h.number plain is h.file heard)

          looked_is : (lk : Result Stood FsError) → (shows here here here l.denies lk nothing none_listed).looked q.path ≡ cond (is_linked w.tree l.end) lk (looked_at rules w (found_at l.end l.denies) q.path)
          looked_is lk = looked_here rules w here here here l.denies lk nothing none_listed q.path refl

          there_refused : is_linked w.tree l.end ≡ false → (there : Result Standing FsError) → looked_by (ways s) w l.end l.denies q.path ≡ there → LooksThere there (Err e) → TheReads
          there_refused clear (Ok there) is never = absurd never
          there_refused clear (Err f) is same_error = refused_at nothing (inl refl)
              (looked_is nothing ∙ (ap (λ b. cond b nothing (looked_at rules w (found_at l.end l.denies) q.path)) clear
              ∙ (sym (looked_same q.settings (ways s) w l.end l.denies q.path clear) ∙ (ap as_stood is ∙ ap Err (sym same_error)))))

          by_link : (b : Bool) → is_linked w.tree l.end ≡ b → CouldRefuse e ⊎ Spoiled {T = Info} (view.state s) (Err e) (view.state m) → TheReads
          by_link true linked (inl could) = refused_at (Err e) could (looked_is (Err e) ∙ ap (λ b. cond b (Err e) (looked_at rules w (found_at l.end l.denies) q.path)) linked)
          by_link true linked (inr spoiled) = failed_at (view.state s) (view.state m) nothing (inl refl) (omega arith) counts spoiled
          by_link false clear few = elim (l.shows clear) [
            | inl there ↦ there_refused clear (looked_by (ways s) w l.end l.denies q.path) refl there
            | inr spoiled ↦ failed_at (view.state s) (view.state m) nothing (inl refl) (omega arith) counts spoiled
          ]

        -- ---- a look that found something

        module _ (info : Info) (l : LooksByRules (ways s) knows w q.path (view.state s) (Ok info) (view.state m)) where
          abbrev there : Names × Names
          there = (q.path.names, l.end)

          -- what is shown where it was looked
          record Found : Type 0 where
            lk : Result Stood FsError
            could : Could CouldStand lk
            stood : Stood
            kind : info.kind ≡ stood.kind
            is : (b d : Names × Names) (op : Result Stood FsError) (li : Result (List Member) FsError) → (shows there b d l.denies lk op li).looked q.path ≡ Ok stood

          found_told : is_linked w.tree l.end ≡ false → (at_end : Result Standing FsError) → looked_by (ways s) w l.end l.denies q.path ≡ at_end → LooksThere at_end (Ok info) → Found
          found_told clear (Err f) is never = absurd never
          found_told clear (Ok x) is agrees = record {
            lk = nothing;
            could = inl refl;
            stood = stood_of x;
            kind = agrees.kind;
            is = λ b d op li.
                looked_here rules w there b d l.denies nothing op li q.path refl ∙ (ap (λ linked. cond linked nothing (looked_at rules w (found_at l.end l.denies) q.path)) clear
                ∙ (sym (looked_same q.settings (ways s) w l.end l.denies q.path clear) ∙ ap as_stood is));
          }

          found_by : (b : Bool) → is_linked w.tree l.end ≡ b → Found
          found_by true linked = record {
            lk = Ok (looked_stood info);
            could = looked_could info;
            stood = looked_stood info;
            kind = refl;
            is = λ b d op li.
                looked_here rules w there b d l.denies (Ok (looked_stood info)) op li q.path refl
                ∙ ap (λ linked. cond linked (Ok (looked_stood info)) (looked_at rules w (found_at l.end l.denies) q.path)) linked;
          }
          found_by false clear = elim (l.shows clear) [
            | inl agrees ↦ found_told clear (looked_by (ways s) w l.end l.denies q.path) refl agrees
            | inr (inl (is, rose)) ↦ cc
            | inr (inr none) ↦ cc
          ]

          abbrev found_here : Found
          found_here = found_by (is_linked w.tree l.end) refl

          -- by where the opening and the listing found their paths
          reads_by : (b d : Names × Names) (op : Result Stood FsError) (li : Result (List Member) FsError) → EndsAt b → EndsAt d → Could CouldStand op → Could (AllByRecursion HasPlainName) li
              → FitsTo (due_course (shows there b d l.denies found_here.lk op li) q.path (course q info.kind)) → TheReads
          reads_by b d op li eb ed oc pc fits =
              read there b d l.denies found_here.lk op li l.loosely eb ed l.denied found_here.could oc pc
              (look_fits view lists q s result t life reply same (shows there b d l.denies found_here.lk op li) found_here.stood info plain (found_here.is b d op li) found_here.kind fits)

          -- the world where the look led
          record Later : Type 0 where
            now : World
            told_now : (view.state m).told ≡ Some now
            besides : SameBesidesOpens w now
            is_world : IsWorld now

          later_world : Later
          later_world =
              let (v, now, same_world) = told_after (view.state s).told (view.state m).told SameBesidesOpens w keeps.world told in
              record { now = v; told_now = now; besides = same_world; is_world = rule.worlds m v now }

          -- ---- a path that is opened

          module _ (path : WebPath) (answer : Result F FsError) (x : S) (opens : view.opens m c path reading answer x)
              (one : OpensOne view.file reading (view.state m) answer (view.state x)) (hears : HearsFile view (asked_at q path) answer h.number x h.opened t)
              (heard : HeardTo (due_opened path h.opened)) (is : course q info.kind ≡ opening path) where
            abbrev v : Later
            v = later_world

            by_rules : OpensLoosely view.file.seen (ways s) later_world.now path (view.state m) answer (view.state x)
            by_rules = subst (λ ws. OpensLoosely view.file.seen ws later_world.now path (view.state m) answer (view.state x)) stays
                (rule.opens m x c path answer later_world.now later_world.told_now opens)

            abbrev opened_at_end : Names × Names
            opened_at_end = (path.names, by_rules.end)

            opened_loosely : EndsAt opened_at_end
            opened_loosely = subst (λ tree. EndsLoosely rules.alone rules.folds tree path.names by_rules.end) later_world.besides.tree by_rules.loosely

            opened_is : (op : Result Stood FsError) → (shows there opened_at_end there l.denies found_here.lk op none_listed).opened path
                ≡ cond (is_linked w.tree by_rules.end) op (opened_at rules w (found_at by_rules.end false) path)
            opened_is op = opened_here rules w there opened_at_end there l.denies found_here.lk op none_listed path refl

            opened_reads : (op : Result Stood FsError) (o : Result Stood FsError) → Could CouldStand op → (shows there opened_at_end there l.denies found_here.lk op none_listed).opened path ≡ o
                → FitsTo (due_opened path o) → TheReads
            opened_reads op o could is_shown fits = reads_by opened_at_end there op none_listed opened_loosely l.loosely could (inl refl)
                (subst (λ co. FitsTo (due_course (shows there opened_at_end there l.denies found_here.lk op none_listed) q.path co)) (sym is)
                (subst (λ o. FitsTo (due_opened path o)) (sym is_shown) fits))

            by_opened : (b : Bool) → is_linked w.tree by_rules.end ≡ b → TheReads
            by_opened true linked =
                let found = opened_could view lists q s result t life reply same rule.few c path answer h.number h.opened m x opens keeps.counts one h.opened_had h.file heard hears in
                opened_reads found.opened found.opened found.could
                (opened_is found.opened ∙ ap (λ b. cond b found.opened (opened_at rules w (found_at by_rules.end false) path)) linked) found.fits
            by_opened false clear =
                let found = by_rules.shows (ap (λ rows. is_linked rows by_rules.end) later_world.besides.tree ∙ clear) in
                let fits = opened_fits view lists q s result t life reply same path found.stands answer h.number h.opened m x found.there keeps.counts one h.opened_had h.file heard hears in
                opened_reads nothing (found_as found.stands) (inl refl)
                (opened_is nothing ∙ (ap (λ b. cond b nothing (opened_at rules w (found_at by_rules.end false) path)) clear
                ∙ (sym (opened_same q.settings (ways s) w by_rules.end path clear) ∙ (as_found (opened_by (ways s) w by_rules.end path)
                ∙ (ap found_as (sym (opened_still (ways s) w later_world.now by_rules.end path later_world.besides)) ∙ sym found.alike))))) fits

            pub open_reads : TheReads
            open_reads = by_opened (is_linked w.tree by_rules.end) refl

          -- ---- a directory that is listed

          module _ (kept : Keeps (view.state m) (view.state t)) (is : course q info.kind ≡ listing) where
            kept_all : Keeps (view.state s) (view.state t)
            kept_all = keeps_then (view.state s) (view.state m) (view.state t) keeps kept

            module _ (begun : Result LocalFsReadDir FsError) (x : S) (begins : lists.lists m c q.path Data begun x) where
              lists_so : ListsByRules (ways s) later_world.now q.path (view.state m) begun (view.state x)
              lists_so = subst (λ ws. ListsByRules ws later_world.now q.path (view.state m) begun (view.state x)) stays
                  (rule.begins m x c q.path begun later_world.now later_world.told_now begins)

              abbrev listed_at_end : Names × Names
              listed_at_end = (q.path.names, lists_so.end)

              listed_loosely : EndsAt listed_at_end
              listed_loosely = subst (λ tree. EndsLoosely rules.alone rules.folds tree q.path.names lists_so.end) later_world.besides.tree lists_so.loosely

              listed_is : (li : Result (List Member) FsError) → (shows there there listed_at_end l.denies found_here.lk nothing li).listed q.path
                  ≡ cond (is_clear w.tree lists_so.end) (listed_in w lists_so.end) li
              listed_is li = listed_here rules w there there listed_at_end l.denies found_here.lk nothing li q.path refl

              listed_reads : (li o : Result (List Member) FsError) → Could (AllByRecursion HasPlainName) li → (shows there there listed_at_end l.denies found_here.lk nothing li).listed q.path ≡ o
                  → FitsTo (due_listed q.path o) → TheReads
              listed_reads li o plain_names is_shown fits = reads_by there listed_at_end nothing li l.loosely listed_loosely (inl refl) plain_names
                  (subst (λ co. FitsTo (due_course (shows there there listed_at_end l.denies found_here.lk nothing li) q.path co)) (sym is)
                  (subst (λ o. FitsTo (due_listed q.path o)) (sym is_shown) fits))

              -- where a link is met: what was heard
              unclear_reads : is_clear w.tree lists_so.end ≡ false → CouldList view lists q s result t life reply same → TheReads
              unclear_reads unclear found = listed_reads found.listed found.listed found.plain
                  (listed_is found.listed ∙ ap (λ b. cond b (listed_in w lists_so.end) found.listed) unclear) found.fits

              clear_reads : is_clear w.tree lists_so.end ≡ true → FitsTo (due_listed q.path (listed_in w lists_so.end)) → TheReads
              clear_reads clear fits = listed_reads none_listed (listed_in w lists_so.end) (inl refl)
                  (listed_is none_listed ∙ ap (λ b. cond b (listed_in w lists_so.end) none_listed) clear) fits

              begins_there : is_clear w.tree lists_so.end ≡ true → BeginsThere (listed_in w lists_so.end) begun ⊎ Spoiled (view.state m) begun (view.state x)
              begins_there clear =
                  elim (lists_so.shows (ap (λ rows. is_linked rows lists_so.end) later_world.besides.tree ∙ (no_links w lists_so.end clear).way)) [
                    | inl begun_so ↦ inl (begins_still w later_world.now lists_so.end begun later_world.besides begun_so)
                    | inr spoiled ↦ inr spoiled
                  ]

            -- what was listed could be
            could_list : HeardTo (due_listed q.path h.listed) → IsListing view lists (is_get q.method) c q.path m h.listed t → CouldList view lists q s result t life reply same
            could_list heard hears = listed_could view lists q s result t life reply same rule.few c h.number h.listed m h.listed_had keeps.counts h.file heard hears kept

            refused_listing : (e : FsError) (begins : lists.lists m c q.path Data (Err e) t) → WasHad {A = List Member} (Err e) → HeardTo (refused (fs_status e) false)
                → CouldList view lists q s result t life reply same → TheReads
            refused_listing e begins had heard could = by (is_clear w.tree (lists_so (Err e) t begins).end) refl
              where
                by : (b : Bool) → is_clear w.tree (lists_so (Err e) t begins).end ≡ b → TheReads
                by false unclear = unclear_reads (Err e) t begins unclear could
                by true clear = clear_reads (Err e) t begins clear
                    (unlisted_fits view lists q s result t life reply same (listed_in w (lists_so (Err e) t begins).end) e h.number m (begins_there (Err e) t begins clear) keeps.counts had heard)

            bare_listing : (lister : LocalFsReadDir) (members_read : List Member) (x : S) (begins : lists.lists m c q.path Data (Ok lister) x) → is_get q.method ≡ false
                → HeardTo (page q.path members_read) → CouldList view lists q s result t life reply same → TheReads
            bare_listing lister members_read x begins get heard could = by (is_clear w.tree (lists_so (Ok lister) x begins).end) refl
              where
                by : (b : Bool) → is_clear w.tree (lists_so (Ok lister) x begins).end ≡ b → TheReads
                by false unclear = unclear_reads (Ok lister) x begins unclear could
                by true clear = clear_reads (Ok lister) x begins clear
                    (bare_fits view lists q s result t life reply same (listed_in w (lists_so (Ok lister) x begins).end) lister members_read h.number m x get (begins_there (Ok lister) x begins clear) kept_all heard)

            module _ (members_read : List Member) (was : WasListed view lists m c q.path members_read t) where
              abbrev end : Names
              end = (lists_so (Ok was.listing) was.begin was.begins).end

              page_listing : is_get q.method ≡ true → HeardTo (page q.path members_read) → CouldList view lists q s result t life reply same → TheReads
              page_listing get heard could = by (is_clear w.tree end) refl
                where
                  by : (b : Bool) → is_clear w.tree end ≡ b → TheReads
                  by false unclear = unclear_reads (Ok was.listing) was.begin was.begins unclear could
                  by true clear =
                      let l_so = lists_so (Ok was.listing) was.begin was.begins in
                      let clear_now : is_clear later_world.now.tree end ≡ true = ap (λ rows. is_clear rows end) later_world.besides.tree ∙ clear in
                      let at_end : was.listing.reading.path ≡ end = l_so.at_end was.listing refl (no_links later_world.now end clear_now).way in
                      let links = subst (HasNoLinks later_world.now) (sym at_end) (no_links later_world.now end clear_now) in
                      let all = members later_world.now was.listing.reading.path in
                      let same_all : all ≡ members w end = ap (members later_world.now) at_end ∙ members_still w later_world.now end later_world.besides in
                      let reads_here : ReadsThere (Ok (members w end)) (view.state m).faults members_read (view.state t).faults =
                      subst (λ z. ReadsThere (Ok z) (view.state m).faults members_read (view.state t).faults) same_all (rule.pages m t c q.path members_read later_world.now later_world.told_now was links) in
                      let fits = page_fits view lists q s result t life reply same (members w end) members_read h.number (view.state m).faults get reads_here keeps.counts kept_all heard in
                      let listed : listed_in w end ≡ Ok (members w end) = elim (begins_there (Ok was.listing) was.begin was.begins clear) [
                        | inl begun_so ↦ begun_there w end (listable (look w.tree end)) was.listing begun_so
                        | inr (inl (is, rose)) ↦ cc
                        | inr (inr none) ↦ cc
                      ] in
                      clear_reads (Ok was.listing) was.begin was.begins clear (subst (λ o. FitsTo (due_listed q.path o)) (sym listed) fits)

            by_gives : (gives : Bool) (members_read : List Member) → is_get q.method ≡ gives → ReadsMembers view lists gives c q.path m members_read t → HeardTo (page q.path members_read)
                → CouldList view lists q s result t life reply same → TheReads
            by_gives true members_read get (was, reads) heard could = page_listing members_read was get heard could
            by_gives false members_read get (none, (lister, x, begins, ends)) heard could = bare_listing lister members_read x begins get heard could

            pub list_reads : (li : Result (List Member) FsError) → IsListing view lists (is_get q.method) c q.path m li t → HeardTo (due_listed q.path li) → WasHad li
                → CouldList view lists q s result t life reply same → TheReads
            list_reads (Err e) hears heard had could = refused_listing e hears had heard could
            list_reads (Ok members_read) (reads, plain_names) heard had could = by_gives (is_get q.method) members_read refl reads heard could

          by_course : (co : Course) → course q info.kind ≡ co → HearsCourse view lists q co c h.number m h.opened h.listed t
              → HeardTo (due_course (shown_heard (Ok info) h.opened h.listed) q.path co) → TheReads
          by_course (refusing status close) is counts heard = reads_by there there nothing none_listed l.loosely l.loosely (inl refl) (inl refl)
              (subst (λ co. FitsTo (due_course (shows there there there l.denies found_here.lk nothing none_listed) q.path co)) (sym is)
              (heard_fits view lists q s result t life reply same (refused status close) h.number h.file heard))
          by_course directing is counts heard = reads_by there there nothing none_listed l.loosely l.loosely (inl refl) (inl refl)
              (subst (λ co. FitsTo (due_course (shows there there there l.denies found_here.lk nothing none_listed) q.path co)) (sym is)
              (heard_fits view lists q s result t life reply same (to_slash q.path) h.number h.file heard))
          by_course (opening path) is (answer, x, opens, one, hears) heard = open_reads path answer x opens one hears heard is
          by_course listing is (hears, kept) heard = list_reads kept is h.listed hears heard h.listed_had (could_list kept is heard hears)

        -- ---- the look

        by_look : (found_so : Result Info FsError) → LooksByRules (ways s) knows w q.path (view.state s) found_so (view.state m) → view.looks s c q.path found_so m
            → HearsLook view lists q found_so c h.number m h.opened h.listed t → HeardTo (due_looked (shown_heard found_so h.opened h.listed) q (looked_of found_so)) → WasHad found_so → TheReads
        by_look (Err e) l looks counts heard had = by_link e l counts heard had (is_linked w.tree l.end) refl (rule.few.looks s m c q.path e looks)
        by_look (Ok info) l looks hears heard had = by_course info l (course q info.kind) refl hears heard

      by_well_known : (b : Bool) → is_well_known q.settings q.method q.path ≡ b → TheReads
      by_well_known true known_page =
          by_known known_page (subst (λ b. HeardTo (cond b known (due_looked (shown_heard h.looked h.opened h.listed) q (looked_of h.looked)))) known_page h.right)
      by_well_known false plain =
          let (m, looks, keeps, hears) = h.hears plain in
          by_look plain m keeps (rule.ways_stay s m c q.path h.looked looks) h.looked (rule.looks s m c q.path h.looked w told looks) looks hears
          (subst (λ b. HeardTo (cond b known (due_looked (shown_heard h.looked h.opened h.listed) q (looked_of h.looked)))) plain h.right) h.looked_had

    by_told : (told : Option World) → (view.state s).told ≡ told → TheReads
    by_told None is = untold is
    by_told (Some w) is = by_well_known w is (is_well_known q.settings q.method q.path) refl

    -- The reply is right for what the store may show.
    pub ruled_reads : TheReads
    ruled_reads = by_told (view.state s).told refl
