-- A world of which nothing is to change is told at each visit, where no link is met on the way through what is shown.
use Rattle.std.proofs.Common.{◌≡◌, inl, inr, ◌⊎◌, ◌<◌, ◌≤◌, ◌+◌, ◌++◌, ℕ, List, [], ◌∷◌, length, Option, None, Some, Result, Ok, Err, true≢false, refl, sym, ap, subst, ◌∙◌, arith}
use Rattle.dav_io.specs.Counts.{RefusedNothing, Rose, greatest}
use Rattle.dav_io.proofs.ToldLemmas.{told_after}
use Rattle.dav_core.specs.DavPath.{WebPath}
use Rattle.dav_core.specs.Path.{Names}
use Rattle.dav_core.specs.Tree.{is_dir}
use Rattle.dav_core.specs.World.{Holds, IsWorld, SameBesidesOpens, World, bytes_or_none, is_numbered}
use Rattle.dav_core.proofs.Rows.{tree_parts}
use Rattle.dav_core.proofs.UnchangedLemmas.{same_besides_then}
use Rattle.dav_fetch.specs.declared.copied.Copied.{Copied}
use Rattle.dav_fetch.specs.declared.copied.Kept.{Kept}
use Rattle.dav_fetch.specs.declared.error.MirrorError.{MirrorError}
use Rattle.dav_fetch.specs.declared.error.MirrorError.TheVariants.{Peer as PeerFailed, Refused, NotAPage, BadReply, Short, TooLong, Budget, NoMemory}
use Rattle.dav_fetch.specs.Asking.{dir_path, file_path}
use Rattle.dav_fetch.specs.Copy.{IsOf}
use Rattle.dav_fetch.specs.Fetching.{AtFile, AtPage, Fetched, FileEnds, Files, FilesEnd, FilesKept, Goes, NotAsked, Requests, Stretch, Visited, Visits, WholeVisits, visits_of}
use Rattle.dav_fetch.specs.Judging.{Use, gives, keeps, refuses, spoils}
use Rattle.dav_fetch.specs.Mirroring.{IsLinkless, ShowsSame, TellsOne, TellsStill}
use Rattle.dav_fetch.specs.Peer.{Came, MeetsNone, PeerState, RepliesIn, Seen, StaysStill}
use Rattle.dav_fetch.specs.Walk.{Pages, Visit, Way, start, with_all}
use Rattle.dav_fetch.proofs.Counted.{files_left}
use Rattle.dav_fetch.proofs.Mirrored.{goes_count}
use Rattle.dav_fetch.proofs.Orders.{of_append}
use Rattle.dav_fetch.proofs.PagesWalked.{WalkedOn, on_pages, pages_walked}
use Rattle.dav_fetch.proofs.Quiet.{IsToldOf, quiet_first, quiet_rest, visit_counts, visits_count}
use Rattle.dav_fetch.proofs.Reached.{IsOther, goes_counts, same_count}
use Rattle.dav_fetch.proofs.Walks.{IsDirAt, IsOtherAt, Walked, at_start}
use Rattle.dav_fetch.proofs.Ways.{whole_visits}

still_then : (w : World) (path : WebPath) (s t : PeerState) → StaysStill path s t → MeetsNone w.tree path → TellsStill w s → TellsStill w t
still_then w path s t stays none still =
    let (v, told, same) = stays still.now still.told (still.same.script ∙ still.script) (subst (λ tree. MeetsNone tree path) (sym still.same.tree) none) in
    record { now = v; told = told; same = same_besides_then w still.now.world v.world still.same same; script = still.script }

-- Two worlds that are the same as a third but for what is open there show the same.
meet : (w u n : World) → SameBesidesOpens w n → SameBesidesOpens u n → ShowsSame w u
meet w u n a b = record {
  tree = sym b.tree ∙ a.tree;
  bytes = λ number is.
      let held : Holds n number = inl (ap (λ tree. is_numbered tree number) a.tree ∙ is) in
      ap bytes_or_none (sym (b.files number held).1 ∙ (a.files number held).1);
}

-- where it tells the world behind the request
pub told_at : (w : World) (s t : PeerState) (visit : Visit) (visited : Visited s visit t) → TellsStill w visited.at → IsToldOf w visit × TellsStill w t
told_at w s t visit visited at = (by visit.world refl visited.is, after)
  where
    after : TellsStill w t
    after =
        let (v, told, came) = told_after visited.at.told t.told (Came visit.came) at.now visited.read.told at.told in
        record { now = v; told = told; same = same_besides_then w at.now.world v.world at.same came.0; script = at.script }

    by : (o : Option World) → visit.world ≡ o → RepliesIn o visit.path visit.asked (Rose s.faults visited.at.faults) visit.got visited.at.told → IsToldOf w visit
    by None e none = let clash : (◌≡◌ {A = Option Seen} (Some at.now) None) = sym at.told ∙ none in cc
    by (Some u) e (now, told, same, reply) =
        let both : Some at.now ≡ Some now = sym at.told ∙ told in
        let one : at.now ≡ now = cc in
        (u, e, meet w u now.world (subst (λ (x : Seen). SameBesidesOpens w x.world) one at.same) same)

pub visit_told : (w : World) (s t : PeerState) (visit : Visit) → TellsStill w s → MeetsNone w.tree visit.path → Visited s visit t → IsToldOf w visit × TellsStill w t
visit_told w s t visit still none visited = told_at w s t visit visited (still_then w visit.path s visited.at visited.stays none still)

-- ---- what is met

dir_meets : (w : World) (dir : Names) → IsLinkless w → IsDirAt w dir → MeetsNone w.tree (dir_path dir)
dir_meets w dir linkless at = record { way = linkless.shown dir at.row at.at; members = λ slash. linkless.listed dir at.row at.at (ap is_dir at.kind) }

file_meets : (w : World) (path : Names) → IsLinkless w → IsOtherAt w path → MeetsNone w.tree (file_path path)
file_meets w path linkless at = record { way = linkless.shown path at.row at.at; members = λ slash. absurd (true≢false (sym slash)) }

-- ---- lists of visits

told_join : (w : World) (a b : List Visit) → TellsOne w a → TellsOne w b → TellsOne w (a ++ b)
told_join w [] b p q = q
told_join w (v ∷ a) b p q = (p.0, told_join w a b p.1 q)

none_told : (w : World) (visits : List Visit) → visits ≡ [] → TellsOne w visits
none_told w visits e = subst (TellsOne w) (sym e) tt

one_told : (w : World) (s t : PeerState) (visit : Visit) (visits : List Visit) → visits ≡ visit ∷ [] → TellsStill w s → MeetsNone w.tree visit.path → Visited s visit t → TellsOne w visits
one_told w s t visit visits e still none visited = subst (TellsOne w) (sym e) ((visit_told w s t visit still none visited).0, tt)

-- the pages, in the order of finding
pages_told : (w : World) (s t : PeerState) (visits : List Visit) (way end : Way) (count : ℕ) → IsWorld w → IsLinkless w → TellsStill w s → RefusedNothing s.faults t.faults → WholeVisits s visits t
    → Pages way visits end → WalkedOn w count way → TellsOne w visits × TellsStill w t
pages_told w s t [] way end count world linkless still nothing chain same on = (tt, subst (TellsStill w) (sym chain) still)
pages_told w s t (v ∷ vs) way end count world linkless still nothing (m, visited, over, chain) (dir, rest, found, due, page, more) on =
    let first = visit_counts s m v visited in
    let second = visits_count m t vs (whole_visits m t vs chain) in
    let at = on.walk.dirs dir (subst (IsOf dir) (sym (on.walk.parts ∙ ap (λ z. on.read ++ z) due)) (of_append dir on.read (dir ∷ rest) (inr (inl refl)))) in
    let (told, here) = visit_told w s m v still (subst (MeetsNone w.tree) (sym page.path) (dir_meets w dir linkless at)) visited in
    let next = on_pages w s m (v ∷ []) way (with_all dir found (record way { due = rest })) count world (told, tt) (quiet_first s.faults m.faults t.faults first second nothing) (m, visited, over, refl)
    (dir, rest, found, due, page, refl) on in
    let (others, there) = pages_told w m t vs (with_all dir found (record way { due = rest })) end (count + length (v ∷ [])) world linkless here (quiet_rest s.faults m.faults t.faults first second nothing) chain more next in
    ((told, others), there)

-- the files, in the order of paths
chain_told : (w : World) (old : List Kept) (paths : List Names) (visits : List Visit) (got : List Kept) (left : List Names) (s t : PeerState) → IsLinkless w → TellsStill w s
    → ((path : Names) → IsOf path paths → IsOtherAt w path) → Files old paths visits got left → Visits s visits t → TellsOne w visits × TellsStill w t
chain_told w old paths [] got left s t linkless still at took chain = (tt, subst (TellsStill w) (sym chain) still)
chain_told w old [] (v ∷ vs) got left s t linkless still at took chain = absurd took
chain_told w old (path ∷ paths) (v ∷ vs) got left s t linkless still at (worth, rest, is, whole, got_is, took) (m, visited, chain) =
    let (told, here) = visit_told w s m v still (subst (MeetsNone w.tree) (sym is.path_is) (file_meets w path linkless (at path (inl refl)))) visited in
    let (others, there) = chain_told w old paths vs rest left m t linkless here (λ p o. at p (inr o)) took chain in
    ((told, others), there)

at_page_told : (w : World) (dir : Names) (count : Requests) (e : MirrorError) (last : Stretch) → IsLinkless w → IsDirAt w dir → TellsStill w last.before → AtPage dir count e last → TellsOne w last.visits
at_page_told w dir count e last linkless at still (inl not) = none_told w last.visits not.0
at_page_told w dir count e last linkless at still (inr (visit, m, one, visited, is, ends)) =
    one_told w last.before m visit last.visits one still (subst (MeetsNone w.tree) (sym is.path) (dir_meets w dir linkless at)) visited

at_file_told : (w : World) (left : List Names) (files : FilesKept) (count : Requests) (e : MirrorError) (last : Stretch) → IsLinkless w
    → ((path : Names) → IsOf path left → IsOtherAt w path) → TellsStill w last.before → AtFile left files count e last → TellsOne w last.visits
at_file_told w [] files count e last linkless at still h = absurd h
at_file_told w (path ∷ more) files count e last linkless at still (inl not) = none_told w last.visits not.none
at_file_told w (path ∷ more) files count e last linkless at still (inr asked) =
    one_told w last.before asked.at asked.visit last.visits asked.one still (subst (MeetsNone w.tree) (sym asked.is.path_is) (file_meets w path linkless (at path (inl refl)))) asked.visited

files_told : (w : World) (left : List Names) (files : FilesKept) (count : Requests) (result : Result Unit MirrorError) (last : Stretch) → IsLinkless w
    → ((path : Names) → IsOf path left → IsOtherAt w path) → TellsStill w last.before → FilesEnd left files count result last → TellsOne w last.visits
files_told w left files count (Ok x) last linkless at still h = none_told w last.visits h.1
files_told w left files count (Err e) last linkless at still h = at_file_told w left files count e last linkless at still h

goes_told : (w : World) (due read : List Names) (way : Way) (count : Requests) (old : Copied) (asks : Stretch) (result : Result Unit MirrorError) (new : Copied)
    → IsLinkless w → Walked w read way → way.due ≡ due → TellsStill w asks.before → Goes due way count old asks result new → TellsOne w asks.visits
goes_told w [] read way count old asks result new linkless walk is still (inr un) = none_told w asks.visits un.none
goes_told w [] read way count old asks result new linkless walk is still (inl takes) =
    let at : (path : Names) → IsOf path takes.paths → IsOtherAt w path = λ path o. walk.files path (takes.ordered.from path o) in
    let (visits, there) = chain_told w old.files takes.paths takes.visits takes.got takes.left asks.before takes.mid linkless still at takes.took takes.chain in
    subst (TellsOne w) (sym takes.parts)
    (told_join w takes.visits takes.last visits
    (files_told w takes.left (record { old = old.files; got = takes.got; new = new.files }) (record { made = count.made + length takes.visits; most = count.most }) result
    (record { before = takes.mid; visits = takes.last; after = asks.after }) linkless
    (λ path o. at path (files_left old.files takes.paths takes.visits takes.got takes.left path takes.took o)) there takes.ends))
goes_told w (dir ∷ due) read way count old asks (Ok x) new linkless walk is still h = absurd h
goes_told w (dir ∷ due) read way count old asks (Err e) new linkless walk is still h =
    at_page_told w dir count e asks linkless
    (walk.dirs dir (subst (IsOf dir) (sym (walk.parts ∙ ap (λ z. read ++ z) is)) (of_append dir read (dir ∷ due) (inr (inl refl))))) still h.0

-- ---- counts, where memory was refused

lacking_asked : (path : WebPath) (made most : ℕ) (s t : PeerState) → NotAsked path made most NoMemory s t → s.faults ≤ t.faults
lacking_asked path made most s t (inl same) = same_count s t same
lacking_asked path made most s t (inr more) = more.2

lacking_use : (path : Names) (worth : Use) (visit : Visit) (s t : PeerState) → FileEnds path worth visit NoMemory s t → s.faults ≤ t.faults
lacking_use path (gives f n) visit s t h = h
lacking_use path keeps visit s t h = h
lacking_use path refuses visit s t h = h
lacking_use path spoils visit s t h = h

lacking_page : (dir : Names) (count : Requests) (last : Stretch) → AtPage dir count NoMemory last → last.before.faults ≤ last.after.faults
lacking_page dir count last (inl not) = lacking_asked (dir_path dir) count.made count.most last.before last.after not.1
lacking_page dir count last (inr (visit, m, one, visited, is, ends)) =
    let first = visit_counts last.before m visit visited in
    let second : m.faults ≤ last.after.faults = ends in
    omega (arith, first, second)

lacking_file : (left : List Names) (files : FilesKept) (count : Requests) (last : Stretch) → AtFile left files count NoMemory last → last.before.faults ≤ last.after.faults
lacking_file [] files count last h = absurd h
lacking_file (path ∷ more) files count last (inl not) = lacking_asked (file_path path) count.made count.most last.before last.after not.not
lacking_file (path ∷ more) files count last (inr asked) =
    let first = visit_counts last.before asked.at asked.visit asked.visited in
    let second = lacking_use path asked.worth asked.visit asked.at last.after asked.ends in
    omega (arith, first, second)

lacking_goes : (due : List Names) (way : Way) (count : Requests) (old new : Copied) (asks : Stretch) → Goes due way count old asks (Err NoMemory) new → asks.before.faults ≤ asks.after.faults
lacking_goes [] way count old new asks (inr un) = same_count asks.before asks.after un.stays
lacking_goes [] way count old new asks (inl takes) =
    let chain = visits_count asks.before takes.mid takes.visits takes.chain in
    let ends : takes.mid.faults ≤ asks.after.faults = lacking_file takes.left _ _ _ takes.ends in
    omega (arith, chain, ends)
lacking_goes (dir ∷ due) way count old new asks goes = lacking_page dir count asks goes.0

is_other : (e : MirrorError) → IsOther e ⊎ (e ≡ NoMemory)
is_other NoMemory = inr refl
is_other PeerFailed = inl tt
is_other (Refused p status) = inl tt
is_other (NotAPage p) = inl tt
is_other (BadReply p) = inl tt
is_other (Short p got announced) = inl tt
is_other (TooLong p) = inl tt
is_other (Budget m) = inl tt

all_counts : (due : List Names) (way : Way) (count : Requests) (old new : Copied) (asks : Stretch) (result : Result Unit MirrorError) → asks.after.faults < greatest
    → Goes due way count old asks result new → asks.before.faults ≤ asks.after.faults
all_counts due way count old new asks (Ok x) room goes = goes_count due way count old new asks goes
all_counts due way count old new asks (Err e) room goes = by (is_other e)
  where
    by : IsOther e ⊎ (e ≡ NoMemory) → asks.before.faults ≤ asks.after.faults
    by (inl other) = goes_counts due way count old new asks e room other goes
    by (inr lacks) = lacking_goes due way count old new asks (subst (λ x. Goes due way count old asks (Err x) new) lacks goes)

pub still_told : (s t : PeerState) (old new : Copied) (most : ℕ) (result : Result Unit MirrorError) (f : Fetched s old most result t new) → (w : World) → IsWorld w → IsLinkless w
    → RefusedNothing s.faults t.faults → TellsStill w s → TellsOne w (visits_of f)
still_told s t old new most result f w world linkless nothing still =
    let first = visits_count s f.mid f.pages (whole_visits s f.mid f.pages f.chain) in
    let second = all_counts f.way.due f.way _ old new (record { before = f.mid; visits = f.rest; after = t }) result nothing.room f.goes in
    let quiet = quiet_first s.faults f.mid.faults t.faults first second nothing in
    let (pages, there) = pages_told w s f.mid f.pages start f.way 0 world linkless still quiet f.chain f.read (record { read = []; walk = at_start w (tree_parts w.tree world.tree); many = refl }) in
    let on = pages_walked w s f.mid f.pages f.way world pages quiet f.chain f.read in
    told_join w f.pages f.rest pages (goes_told w f.way.due on.read f.way _ old (record { before = f.mid; visits = f.rest; after = t }) result new linkless on.walk refl there f.goes)
