-- The visit of a file, from the calls that made it.
use Rattle.std.proofs.Common.{◌≡◌, ◌⊎◌, inl, inr, ◌<◌, ℕ, List, [], ◌∷◌, Option, Result, Ok, Err, IfErr, refl, sym, ap, subst, arith}
use Rattle.dav_io.specs.declared.fields.Field.{Field}
use Rattle.dav_core.specs.DavPath.{WebPath}
use Rattle.dav_core.specs.Path.{Names}
use Rattle.dav_fetch.specs.declared.copied.Kept.{Kept}
use Rattle.dav_fetch.specs.declared.error.MirrorError.{MirrorError}
use Rattle.dav_fetch.specs.declared.error.MirrorError.TheVariants.{Peer as PeerFailed, Refused, BadReply, Short, Budget, NoMemory}
use Rattle.dav_fetch.specs.declared.peer.Got.{Got}
use Rattle.dav_fetch.specs.declared.taking.Taken.{Taken}
use Rattle.dav_fetch.specs.Asking.{asked_for, awaits, dir_path, file_path}
use Rattle.dav_fetch.specs.Fetching.{AtPage, FileEnds, Requests, link_is_short, taken}
use Rattle.dav_fetch.specs.Judging.{Use, gives, refuses, spoils, use_of}
use Rattle.dav_fetch.specs.Peer.{Gets, IsAskable, PeerState}
use Rattle.dav_fetch.specs.Reading.{ReadOn}
use Rattle.dav_fetch.specs.Steps.{PageFails}
use Rattle.dav_fetch.specs.Taking.{BytesEnd, VisitEnds, VisitsFile}
use Rattle.dav_fetch.specs.Walk.{Visit}
use Rattle.dav_fetch.proofs.Made.{visit_of, visited}
use Rattle.dav_fetch.proofs.NotAskedLaws.{not_got}

pub file_visit : (names : Names) (old : Option Kept) (s m at t : PeerState) (path : WebPath) (asked : List Field) (got : Got) (g : Gets s path asked (Ok got) m) (came : List ℕ) (worth : Use) (result : Taken)
    → IsAskable path asked → ReadOn m came at → path ≡ file_path names → asked ≡ asked_for (awaits old) → use_of names (awaits old) got.status got.headers ≡ worth
    → result.kept ≡ taken old worth came → VisitEnds names worth (visit_of s m path asked got g came) result.ended at t → VisitsFile names old s result t
file_visit names old s m at t path asked got g came worth result askable r path_is asked_is judged kept ends = record {
  visit = visit_of s m path asked got g came;
  worth = worth;
  at = at;
  visited = visited s m at path asked got g came askable r;
  is = record { path_is = path_is; asked = asked_is; judged = judged };
  kept = kept;
  ends = ends;
}

pub bytes_visit : (path : WebPath) (names : Names) (f : Kept) (n : ℕ) (visit : Visit) (ended : Result Unit MirrorError) (s t : PeerState) → path ≡ file_path names → BytesEnd path n visit.came ended s t → VisitEnds names (gives f n) visit ended s t
bytes_visit path names f n visit (Ok x) s t is h = h
bytes_visit path names f n visit (Err (Short p got announced)) s t is (at, b, c, d, over, stays) = (subst (λ q. p ≡ q) is at, b, c, d, over, stays)
bytes_visit path names f n visit (Err PeerFailed) s t is h = h
bytes_visit path names f n visit (Err NoMemory) s t is h = h
bytes_visit path names f n visit (Err (Refused p status)) s t is h = absurd h
bytes_visit path names f n visit (Err (Budget m)) s t is h = absurd h
bytes_visit path names f n visit (Err other) s t is h = absurd h

pub refused_visit : (path : WebPath) (names : Names) (visit : Visit) (e : MirrorError) (s : PeerState) → path ≡ file_path names → (e ≡ Refused path visit.got.status) ⊎ (e ≡ NoMemory) → FileEnds names refuses visit e s s
refused_visit path names visit e s is (inl so) = subst (λ x. FileEnds names refuses visit x s s) (sym so) (is, refl, refl)
refused_visit path names visit e s is (inr so) = subst (λ x. FileEnds names refuses visit x s s) (sym so) (omega arith)

pub spoiled_visit : (path : WebPath) (names : Names) (visit : Visit) (e : MirrorError) (s : PeerState) → path ≡ file_path names → (e ≡ BadReply path) ⊎ (e ≡ NoMemory) → FileEnds names spoils visit e s s
spoiled_visit path names visit e s is (inl so) = subst (λ x. FileEnds names spoils visit x s s) (sym so) (is, refl)
spoiled_visit path names visit e s is (inr so) = subst (λ x. FileEnds names spoils visit x s s) (sym so) (omega arith)

page_due : (dir : Names) (count : Requests) (s t : PeerState) (e : MirrorError) → count.made < count.most → link_is_short (dir_path dir) → PageFails dir s e t
    → (last : List Visit) × AtPage dir count e (record { before = s; visits = last; after = t })
page_due dir count s t e few short (inl not) = ([], inl (refl, not_got (dir_path dir) count.made count.most e s t few short not))
page_due dir count s t e few short (inr (visit, m, visited, is, ends)) = (visit ∷ [], inr (visit, m, refl, visited, is, ends))

pub pages_due : {A : Type 0} (dir : Names) (path : WebPath) (count : Requests) (s t : PeerState) (r : Result A MirrorError) → path ≡ dir_path dir → count.made < count.most → link_is_short path
    → IfErr r (λ e. PageFails path.names s e t) → IfErr r (λ e. (last : List Visit) × AtPage dir count e (record { before = s; visits = last; after = t }))
pages_due dir path count s t (Ok x) is few short h = tt
pages_due dir path count s t (Err e) is few short h =
    page_due dir count s t e few (subst link_is_short is short) (subst (λ n. PageFails n s e t) (ap (λ (p : WebPath). p.names) is) h)
