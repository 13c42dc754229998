-- What `fetch` does: the visits that it made, one after the other, what the copy is by them, and why it ended.
use Rattle.std.specs.Prelude.{◌≡◌, ◌≢◌, ◌+◌, ◌<◌, ◌≤◌, ◌⊎◌, ℕ, List, [], ◌∷◌, ◌++◌, length, Bool, true, false, Option, None, Some, Result, Ok, Err}
use Rattle.std.specs.Option.{ForSome, option_to_list}
use Rattle.std.specs.List.{find}
use Rattle.std.specs.List.Sorted.{IsStrictlySortedBy}
use Rattle.dav_io.specs.Counts.{Rose}
use Rattle.dav_io.specs.Told.{Both}
use Rattle.dav_core.specs.DavPath.{WebPath, link_of, shown}
use Rattle.dav_core.specs.Path.{Names, same_names}
use Rattle.dav_fetch.specs.declared.copied.Copied.{Copied}
use Rattle.dav_fetch.specs.declared.copied.Kept.{Kept}
use Rattle.dav_fetch.specs.declared.error.MirrorError.{MirrorError}
use Rattle.dav_fetch.specs.declared.error.MirrorError.TheVariants.{Peer as PeerFailed, Refused, NotAPage, BadReply, Short, TooLong, Budget, NoMemory}
use Rattle.dav_fetch.specs.declared.found.Found.{Found}
use Rattle.dav_fetch.specs.Asking.{awaits, asked_for, dir_path, file_path}
use Rattle.dav_fetch.specs.Copy.{IsOf, path_cmp}
use Rattle.dav_fetch.specs.Judging.{Use, gives, keeps, refuses, spoils, use_of, grown}
use Rattle.dav_fetch.specs.Peer.{GoesOn, PeerState, RepliesIn, StaysStill, TellsOwn, TurnsOnce, links_most}
use Rattle.dav_fetch.specs.Reading.{IsOver, ReadOn}
use Rattle.dav_fetch.specs.Walk.{Visit, IsPageOf, Way, Pages, page_most, start}

-- ---- visits over a peer

pub record Visited (s : PeerState) (visit : Visit) (t : PeerState) : Type 0 where
  pub at : PeerState
  pub counts : s.faults ≤ at.faults
  pub is : RepliesIn visit.world visit.path visit.asked (Rose s.faults at.faults) visit.got at.told
  pub stays : StaysStill visit.path s at
  pub turns : TurnsOnce s at
  pub owns : TellsOwn at
  pub goes : Both s.world at.world GoesOn
  pub names : ForSome at.path (λ path. path ≡ visit.path)
  pub read : ReadOn at visit.came t

abbrev pub Visits : PeerState → List Visit → PeerState → Type 0
Visits s [] t = t ≡ s
Visits s (visit ∷ visits) t = (m : PeerState) × Visited s visit m × Visits m visits t

-- the same, and each body was read to its end
abbrev pub WholeVisits : PeerState → List Visit → PeerState → Type 0
WholeVisits s [] t = t ≡ s
WholeVisits s (visit ∷ visits) t = (m : PeerState) × Visited s visit m × IsOver m × WholeVisits m visits t

-- ---- files

abbrev pub kept_at : Names → List Kept → Option Kept
kept_at path files = find (λ (f : Kept). same_names path f.path) files

-- what is kept of the files at these paths
abbrev pub kept_of : List Names → List Kept → List Kept
kept_of [] files = []
kept_of (path ∷ paths) files = option_to_list (kept_at path files) ++ kept_of paths files

-- what is kept of a file behind its visit
abbrev pub taken : Option Kept → Use → List ℕ → Option Kept
taken old (gives f n) came = Some (grown f n came)
taken old keeps came = old
taken old refuses came = old
taken old spoils came = old

-- The request for a file was made, by what is kept of it, and this is what its answer is good for.
pub record IsFileVisit (path : Names) (old : Option Kept) (visit : Visit) (worth : Use) : Type 0 where
  pub path_is : visit.path ≡ file_path path
  pub asked : visit.asked ≡ asked_for (awaits old)
  pub judged : use_of path (awaits old) visit.got.status visit.got.headers ≡ worth

-- no fewer bytes came than were announced
abbrev pub IsWhole : Use → List ℕ → Type 0
IsWhole (gives f n) came = n ≤ length came
IsWhole keeps came = Unit {0}
IsWhole refuses came = ⊥
IsWhole spoils came = ⊥

-- Files were asked in this order, and each came whole or was kept. `got` is what is kept of these, and `left` are the
-- paths that are still due.
abbrev pub Files : List Kept → List Names → List Visit → List Kept → List Names → Type 0
Files old paths [] got left = (got ≡ []) × (left ≡ paths)
Files old [] (visit ∷ visits) got left = ⊥
Files old (path ∷ paths) (visit ∷ visits) got left = (worth : Use) × (rest : List Kept)
    × IsFileVisit path (kept_at path old) visit worth × IsWhole worth visit.came
    × (got ≡ option_to_list (taken (kept_at path old) worth visit.came) ++ rest) × Files old paths visits rest left

-- ---- why it ended

abbrev pub link_is_short : WebPath → Type 0
link_is_short path = length (link_of (shown path)) ≤ links_most

-- The request for this path is due. It isn't made, or gets no answer. Where memory is refused, it is either.
abbrev pub NotAsked : WebPath → ℕ → ℕ → MirrorError → PeerState → PeerState → Type 0
NotAsked path made most (TooLong p) s t = (p ≡ path) × (made < most) × (link_is_short path → ⊥) × (t ≡ s)
NotAsked path made most (Budget m) s t = (made ≡ most) × (m ≡ made) × (t ≡ s)
NotAsked path made most PeerFailed s t = link_is_short path × (made < most) × Rose s.faults t.faults × (t.path ≡ None)
NotAsked path made most NoMemory s t = (t ≡ s) ⊎ ((made < most) × link_is_short path × (s.faults ≤ t.faults))
NotAsked path made most (Refused p status) s t = ⊥
NotAsked path made most (NotAPage p) s t = ⊥
NotAsked path made most (BadReply p) s t = ⊥
NotAsked path made most (Short p got announced) s t = ⊥

-- The page of this directory was asked for.
pub record IsPageVisit (dir : Names) (visit : Visit) : Type 0 where
  pub path : visit.path ≡ dir_path dir
  pub asked : visit.asked ≡ []

-- A page was asked for, and isn't good for anything.
abbrev pub PageEnds : Names → Visit → MirrorError → PeerState → PeerState → Type 0
PageEnds dir visit (Refused p status) s t = (p ≡ dir_path dir) × (status ≡ visit.got.status) × (status ≢ 200) × (t ≡ s)
PageEnds dir visit (TooLong p) s t = (p ≡ dir_path dir) × (visit.got.status ≡ 200) × (page_most < length visit.came) × (t ≡ s)
PageEnds dir visit (NotAPage p) s t = (p ≡ dir_path dir) × (visit.got.status ≡ 200) × IsOver t
    × (length visit.came ≤ page_most) × ((found : List Found) → IsPageOf dir visit found → ⊥) × (t ≡ s)
PageEnds dir visit PeerFailed s t = (visit.got.status ≡ 200) × Rose s.faults t.faults × (t.path ≡ s.path)
PageEnds dir visit NoMemory s t = s.faults ≤ t.faults
PageEnds dir visit (Budget m) s t = ⊥
PageEnds dir visit (BadReply p) s t = ⊥
PageEnds dir visit (Short p got announced) s t = ⊥

-- A file was asked for, and didn't come whole.
abbrev pub FileEnds : Names → Use → Visit → MirrorError → PeerState → PeerState → Type 0
FileEnds path refuses visit (Refused p status) s t = (p ≡ file_path path) × (status ≡ visit.got.status) × (t ≡ s)
FileEnds path spoils visit (BadReply p) s t = (p ≡ file_path path) × (t ≡ s)
FileEnds path (gives f n) visit (Short p got announced) s t = (p ≡ file_path path) × (got ≡ length visit.came)
    × (announced ≡ n) × (got < n) × IsOver t × (t ≡ s)
FileEnds path (gives f n) visit PeerFailed s t = (length visit.came < n) × Rose s.faults t.faults × (t.path ≡ s.path)
FileEnds path worth visit NoMemory s t = s.faults ≤ t.faults
FileEnds path worth visit e s t = ⊥

-- the paths in order, each once
pub record IsOrdered (found paths : List Names) : Type 0 where
  pub from : (path : Names) → IsOf path paths → IsOf path found
  pub all : (path : Names) → IsOf path found → IsOf path paths
  pub order : IsStrictlySortedBy path_cmp paths

-- ---- the whole of it

-- how many requests are made, of how many that are allowed
pub record Requests : Type 0 where
  pub made : ℕ
  pub most : ℕ

-- A part of a fetch: the peer before it, the visits that it made, and the peer behind it.
pub record Stretch : Type 0 where
  pub before : PeerState
  pub visits : List Visit
  pub after : PeerState

-- What is kept of files: before a fetch, of those that came so far, and behind it.
pub record FilesKept : Type 0 where
  pub old : List Kept
  pub got : List Kept
  pub new : List Kept

-- A page was due. After an error in the pages the copy is as it was.
abbrev pub AtPage : Names → Requests → MirrorError → Stretch → Type 0
AtPage dir count e last = ((last.visits ≡ []) × NotAsked (dir_path dir) count.made count.most e last.before last.after)
    ⊎ ((visit : Visit) × (m : PeerState) × (last.visits ≡ visit ∷ []) × Visited last.before visit m × IsPageVisit dir visit
    × PageEnds dir visit e m last.after)

-- A file was due, and its request wasn't made or got no answer: what is kept of it stays.
pub record FileNotAsked (path : Names) (more : List Names) (files : FilesKept) (count : Requests) (e : MirrorError) (last : Stretch) : Type 0 where
  pub none : last.visits ≡ []
  pub not : NotAsked (file_path path) count.made count.most e last.before last.after
  pub kept : files.new ≡ files.got ++ kept_of (path ∷ more) files.old

-- Its answer ended it: it keeps the bytes that came.
pub record FileAsked (path : Names) (more : List Names) (files : FilesKept) (e : MirrorError) (last : Stretch) : Type 0 where
  pub visit : Visit
  pub worth : Use
  pub at : PeerState
  pub one : last.visits ≡ visit ∷ []
  pub visited : Visited last.before visit at
  pub is : IsFileVisit path (kept_at path files.old) visit worth
  pub ends : FileEnds path worth visit e at last.after
  pub kept : files.new ≡ files.got ++ (option_to_list (taken (kept_at path files.old) worth visit.came) ++ kept_of more files.old)

-- These files were still due, and the first of them ended it.
abbrev pub AtFile : List Names → FilesKept → Requests → MirrorError → Stretch → Type 0
AtFile [] files count e last = ⊥
AtFile (path ∷ more) files count e last = FileNotAsked path more files count e last ⊎ FileAsked path more files e last

-- How the asking for files ended: at Ok none is due any more; an error is that of the first that is.
abbrev pub FilesEnd : List Names → FilesKept → Requests → Result Unit MirrorError → Stretch → Type 0
FilesEnd left files count (Ok x) last = (left ≡ []) × (last.visits ≡ []) × (last.after ≡ last.before) × (files.new ≡ files.got)
FilesEnd left files count (Err e) last = AtFile left files count e last

-- All pages are read: the files are asked in order of their paths. Kept files that no page names are gone.
pub record Takes (way : Way) (count : Requests) (old : Copied) (asks : Stretch) (result : Result Unit MirrorError) (new : Copied) : Type 0 where
  pub dirs : IsOrdered way.dirs new.dirs
  pub paths : List Names
  pub ordered : IsOrdered way.files paths
  pub visits : List Visit
  pub last : List Visit
  pub parts : asks.visits ≡ visits ++ last
  pub got : List Kept
  pub left : List Names
  pub took : Files old.files paths visits got left
  pub mid : PeerState
  pub chain : Visits asks.before visits mid
  pub within : count.made + length visits ≤ count.most
  pub ends : FilesEnd left (record { old = old.files; got = got; new = new.files })
      (record count { made = count.made + length visits }) result (record { before = mid; visits = last; after = asks.after })

-- All pages are read, and memory is refused to what they name: no file is asked, and the copy is as it was.
pub record Unplanned (old : Copied) (asks : Stretch) (result : Result Unit MirrorError) (new : Copied) : Type 0 where
  pub lacks : result ≡ Err NoMemory
  pub none : asks.visits ≡ []
  pub stays : asks.after ≡ asks.before
  pub same : new ≡ old

-- What came behind the pages that were read: where one more was due, the error of that page; else the files.
abbrev pub Goes : List Names → Way → Requests → Copied → Stretch → Result Unit MirrorError → Copied → Type 0
Goes [] way count old asks result new = Takes way count old asks result new ⊎ Unplanned old asks result new
Goes (dir ∷ due) way count old asks (Ok x) new = ⊥
Goes (dir ∷ due) way count old asks (Err e) new = AtPage dir count e asks × (new ≡ old)

-- The clause of `fetch`: the pages that were read, and the visits behind them.
pub record Fetched (s : PeerState) (old : Copied) (most : ℕ) (result : Result Unit MirrorError) (t : PeerState) (new : Copied) : Type 0 where
  pub pages : List Visit
  pub way : Way
  pub read : Pages start pages way
  pub mid : PeerState
  pub chain : WholeVisits s pages mid
  pub within : length pages ≤ most
  -- the visits behind the pages: to files, and the one that ended it
  pub rest : List Visit
  pub goes : Goes way.due way (record { made = length pages; most = most }) old (record { before = mid; visits = rest; after = t }) result new

-- all visits of it
abbrev pub visits_of : {s : PeerState} {old : Copied} {most : ℕ} {result : Result Unit MirrorError} {t : PeerState} {new : Copied}
    → Fetched s old most result t new → List Visit
visits_of f = f.pages ++ f.rest

-- ---- calls of the peer

abbrev pub is_peer_error : MirrorError → Bool
is_peer_error PeerFailed = true
is_peer_error NoMemory = false
is_peer_error (Refused p status) = false
is_peer_error (NotAPage p) = false
is_peer_error (BadReply p) = false
is_peer_error (Short p got announced) = false
is_peer_error (TooLong p) = false
is_peer_error (Budget m) = false

abbrev pub is_peer_failure : {A : Type 0} → Result A MirrorError → Bool
is_peer_failure (Ok a) = false
is_peer_failure (Err e) = is_peer_error e
