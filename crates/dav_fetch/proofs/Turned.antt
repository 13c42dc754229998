-- The worlds of a fetch, one batch of the outside's changes after the other.
use Rattle.std.proofs.Common.{◌≡◌, inl, inr, ℕ, zero, suc, List, [], ◌∷◌, true, is_some, Option, None, Some, Result, Ok, Err, refl, sym, ap, subst, ◌∙◌}
use Rattle.dav_io.specs.Counts.{Rose}
use Rattle.dav_io.proofs.ToldLemmas.{told_after}
use Rattle.dav_core.specs.Changes.{turned, turned_by}
use Rattle.dav_core.specs.Path.{Names}
use Rattle.dav_core.specs.World.{SameBesidesOpens, World}
use Rattle.dav_core.proofs.UnchangedLemmas.{same_besides, same_besides_then}
use Rattle.dav_fetch.specs.declared.copied.Copied.{Copied}
use Rattle.dav_fetch.specs.declared.error.MirrorError.{MirrorError}
use Rattle.dav_fetch.specs.Fetching.{AtFile, AtPage, Fetched, FilesEnd, FilesKept, Goes, Requests, Stretch, Visited, Visits, visits_of}
use Rattle.dav_fetch.specs.Mirroring.{AllTold}
use Rattle.dav_fetch.specs.Peer.{Came, GoesOn, PeerState, RepliesIn, Seen}
use Rattle.dav_fetch.specs.Turning.{AreTurned, MetAfter, TurnedTimes}
use Rattle.dav_fetch.specs.Walk.{Visit, Way}
use Rattle.dav_fetch.proofs.Ways.{visits_then, whole_visits}

pub turned_left : (n : ℕ) (u v w : World) → TurnedTimes n u v → SameBesidesOpens v w → TurnedTimes n u w
turned_left zero u v w came same = same_besides_then u v w came same
turned_left (suc n) u v w (m, came, turn) same = (m, came, same_besides_then (turned m) v w turn same)

pub turned_none : (v : World) → v.script ≡ [] → turned v ≡ v
turned_none v none = ap (turned_by v) none

-- ---- all visits, one after the other

pub record Chain (s : PeerState) (visits : List Visit) : Type 0 where
  pub end : PeerState
  pub all : Visits s visits end

no_visit : (s : PeerState) (visits : List Visit) → visits ≡ [] → Chain s visits
no_visit s visits e = record { end = s; all = subst (λ v. Visits s v s) (sym e) refl }

one_visit : (s t : PeerState) (visit : Visit) (visits : List Visit) → visits ≡ visit ∷ [] → Visited s visit t → Chain s visits
one_visit s t visit visits e visited = record { end = t; all = subst (λ v. Visits s v t) (sym e) (t, visited, refl) }

at_page : (dir : Names) (count : Requests) (e : MirrorError) (last : Stretch) → AtPage dir count e last → Chain last.before last.visits
at_page dir count e last (inl not) = no_visit last.before last.visits not.0
at_page dir count e last (inr (visit, m, one, visited, is, ends)) = one_visit last.before m visit last.visits one visited

at_file : (left : List Names) (files : FilesKept) (count : Requests) (e : MirrorError) (last : Stretch) → AtFile left files count e last → Chain last.before last.visits
at_file [] files count e last h = absurd h
at_file (path ∷ more) files count e last (inl not) = no_visit last.before last.visits not.none
at_file (path ∷ more) files count e last (inr asked) = one_visit last.before asked.at asked.visit last.visits asked.one asked.visited

files_end : (left : List Names) (files : FilesKept) (count : Requests) (result : Result Unit MirrorError) (last : Stretch) → FilesEnd left files count result last → Chain last.before last.visits
files_end left files count (Ok x) last h = no_visit last.before last.visits h.1
files_end left files count (Err e) last h = at_file left files count e last h

goes_on : (due : List Names) (way : Way) (count : Requests) (old : Copied) (asks : Stretch) (result : Result Unit MirrorError) (new : Copied) → Goes due way count old asks result new → Chain asks.before asks.visits
goes_on [] way count old asks result new (inr un) = no_visit asks.before asks.visits un.none
goes_on [] way count old asks result new (inl takes) =
    let last : Chain takes.mid takes.last = files_end takes.left _ _ result _ takes.ends in
    record { end = last.end; all = subst (λ v. Visits asks.before v last.end) (sym takes.parts) (visits_then asks.before takes.mid last.end takes.visits takes.last takes.chain last.all) }
goes_on (dir ∷ due) way count old asks (Ok x) new h = absurd h
goes_on (dir ∷ due) way count old asks (Err e) new h = at_page dir count e asks h.0

pub fetched_chain : (s t : PeerState) (old new : Copied) (most : ℕ) (result : Result Unit MirrorError) (f : Fetched s old most result t new) → Chain s (visits_of f)
fetched_chain s t old new most result f =
    let rest : Chain f.mid f.rest = goes_on f.way.due f.way _ old _ result new f.goes in
    record { end = rest.end; all = visits_then s f.mid rest.end f.pages f.rest (whole_visits s f.mid f.pages f.chain) rest.all }

-- ---- their worlds

pub some_world : (o : Option World) → is_some o ≡ true → (w : World) × (o ≡ Some w)
some_world None e = cc
some_world (Some w) e = (w, refl)

all_turned : (v : World) (n : ℕ) (s t : PeerState) (visits : List Visit) → Visits s visits t → AllTold visits → (now : Seen) → s.told ≡ Some now → TurnedTimes n v now.world → AreTurned v n visits
all_turned v n s t [] chain told now is came = tt
all_turned v n s t (x ∷ xs) (m, visited, chain) told now is came =
    let (w, of) = some_world x.world told.0 in
    let (here, tells, same, reply) = subst (λ o. RepliesIn o x.path x.asked (Rose s.faults visited.at.faults) x.got visited.at.told) of visited.is in
    let (u, before, turn) = visited.turns now here is tells in
    let further : TurnedTimes (suc n) v here.world = (u, turned_left n v now.world u came before, turn) in
    let (next, tells_next, read) = told_after visited.at.told m.told (Came x.came) here visited.read.told tells in (
      λ other is_other. met w other (one w other (x.world) of is_other) here.world same further,
      all_turned v (suc n) m t xs chain told.1 next tells_next (turned_left (suc n) v here.world next.world further read.0),
    )
  where
    one : (a b : World) (o : Option World) → o ≡ Some a → o ≡ Some b → a ≡ b
    one a b o e f = cc

    met : (a b : World) → a ≡ b → (here : World) → SameBesidesOpens a here → TurnedTimes (suc n) v here → MetAfter (suc n) v b
    met a b e here same came = (here, subst (λ x. SameBesidesOpens x here) e same, came)

-- the same of the world that the peer stands on
all_gone_on : (v : World) (n : ℕ) (s t : PeerState) (visits : List Visit) → Visits s visits t → (here : World) → s.world ≡ Some here → TurnedTimes n v here → AreTurned v n visits
all_gone_on v n s t [] chain here is came = tt
all_gone_on v n s t (x ∷ xs) (m, visited, chain) here is came =
    let (next, next_is, (u, before, turn)) = told_after s.world visited.at.world GoesOn here visited.goes is in
    let further : TurnedTimes (suc n) v next = (u, turned_left n v here u came before, turn) in
    let (later, later_is, same) = told_after visited.at.world m.world SameBesidesOpens next visited.read.stands next_is in (
      λ w of. met w next further next_is of,
      all_gone_on v (suc n) m t xs chain later later_is (turned_left (suc n) v next later further same),
    )
  where
    one : (a b : World) → Some a ≡ Some b → a ≡ b
    one a b e = cc

    met : (w next : World) → TurnedTimes (suc n) v next → visited.at.world ≡ Some next → x.world ≡ Some w → MetAfter (suc n) v w
    met w next further next_is of =
        let (now, tells, same, reply) = subst (λ o. RepliesIn o x.path x.asked (Rose s.faults visited.at.faults) x.got visited.at.told) of visited.is in
        (next, subst (SameBesidesOpens w) (one now.world next (sym (visited.owns now tells) ∙ next_is)) same, further)

pub fetched_gone_on : (s t : PeerState) (old new : Copied) (most : ℕ) (result : Result Unit MirrorError) (f : Fetched s old most result t new) → (v : World) → s.world ≡ Some v
    → AreTurned v 0 (visits_of f)
fetched_gone_on s t old new most result f v is =
    let chain = fetched_chain s t old new most result f in
    all_gone_on v 0 s chain.end (visits_of f) chain.all v is (same_besides v)

pub fetched_turned : (s t : PeerState) (old new : Copied) (most : ℕ) (result : Result Unit MirrorError) (f : Fetched s old most result t new) → AllTold (visits_of f)
    → (now : Seen) → s.told ≡ Some now → AreTurned now.world 0 (visits_of f)
fetched_turned s t old new most result f told now is =
    let chain = fetched_chain s t old new most result f in
    all_turned now.world 0 s chain.end (visits_of f) chain.all told now is (same_besides now.world)
