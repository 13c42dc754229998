-- A world of which nothing is to change is told at each visit at which the peer tells, or no link is met.
use Rattle.std.proofs.Common.{◌≡◌, ◌⊎◌, inl, inr, ◌&&◌, ◌||◌, ℕ, List, [], ◌∷◌, true, false, not, is_some, Result, refl, ap, subst, ◌∙◌}
use Rattle.std.specs.List.{filter, list_all, list_any}
use Rattle.std.proofs.lemmas.Bool.{and_from, or_parts}
use Rattle.dav_io.specs.Counts.{Rose}
use Rattle.dav_core.specs.declared.tree.Row.{Row}
use Rattle.dav_core.specs.Listing.{stands_in}
use Rattle.dav_core.specs.Path.{Names, is_front}
use Rattle.dav_core.specs.Tree.{is_link, is_linked}
use Rattle.dav_core.specs.World.{SameBesidesOpens, World}
use Rattle.dav_core.proofs.UnchangedLemmas.{same_besides_then}
use Rattle.dav_fetch.specs.declared.copied.Copied.{Copied}
use Rattle.dav_fetch.specs.declared.error.MirrorError.{MirrorError}
use Rattle.dav_fetch.specs.Fetching.{Fetched, Visited, Visits, visits_of}
use Rattle.dav_fetch.specs.Mirroring.{AreClear, TellsOne, TellsStill}
use Rattle.dav_fetch.specs.Peer.{MeetsNone, PeerState, RepliesIn}
use Rattle.dav_fetch.specs.Walk.{Visit}
use Rattle.dav_fetch.proofs.Quiet.{IsToldOf}
use Rattle.dav_fetch.proofs.StillTold.{told_at, visit_told}
use Rattle.dav_fetch.proofs.Turned.{fetched_chain, some_world, turned_none}

-- It tells before and behind a request: the batch of changes between was empty.
told_behind : (w : World) (s t : PeerState) (visit : Visit) → TellsStill w s → is_some visit.world ≡ true → (visited : Visited s visit t) → TellsStill w visited.at
told_behind w s t visit still on visited =
    let (v, of) = some_world visit.world on in
    let (now, told, same, reply) = subst (λ o. RepliesIn o visit.path visit.asked (Rose s.faults visited.at.faults) visit.got visited.at.told) of visited.is in
    let (u, before, turn) = visited.turns still.now now still.told told in
    let none = before.script ∙ still.same.script ∙ still.script in
    record {
      now = now;
      told = told;
      same = same_besides_then w u now.world (same_besides_then w still.now.world u still.same before) (subst (λ x. SameBesidesOpens x now.world) (turned_none u none) turn);
      script = still.script;
    }

clear_told : (w : World) (s t : PeerState) (visit : Visit) → TellsStill w s → (is_some visit.world ≡ true) ⊎ MeetsNone w.tree visit.path → Visited s visit t → IsToldOf w visit × TellsStill w t
clear_told w s t visit still (inl on) visited = told_at w s t visit visited (told_behind w s t visit still on visited)
clear_told w s t visit still (inr none) visited = visit_told w s t visit still none visited

all_clear : (w : World) (s t : PeerState) (visits : List Visit) → Visits s visits t → TellsStill w s → AreClear w visits → TellsOne w visits
all_clear w s t [] chain still clear = tt
all_clear w s t (x ∷ xs) (m, visited, chain) still clear =
    let (told, then) = clear_told w s m x still clear.0 visited in
    (told, all_clear w m t xs chain then clear.1)

pub fetched_clear : (s t : PeerState) (old new : Copied) (most : ℕ) (result : Result Unit MirrorError) (f : Fetched s old most result t new) → (w : World) → TellsStill w s
    → AreClear w (visits_of f) → TellsOne w (visits_of f)
fetched_clear s t old new most result f w still clear =
    let chain = fetched_chain s t old new most result f in
    all_clear w s chain.end (visits_of f) chain.all still clear

-- ---- trees without links

unlinked : (rows : List Row) (path : Names) → list_any (λ row. is_link row.kind) rows ≡ false → list_any (λ row. is_link row.kind && is_front row.path path) rows ≡ false
unlinked [] path e = refl
unlinked (r ∷ rows) path e =
    let parts = or_parts (is_link r.kind) (list_any (λ row. is_link row.kind) rows) e in
    ap (λ b. (b && is_front r.path path) || list_any (λ row. is_link row.kind && is_front row.path path) rows) parts.0 ∙ unlinked rows path parts.1

each_unlinked : (tree rows : List Row) → list_any (λ row. is_link row.kind) tree ≡ false → list_all (λ row. not (is_linked tree row.path)) rows ≡ true
each_unlinked tree [] e = refl
each_unlinked tree (r ∷ rows) e = and_from _ _ (ap not (unlinked tree r.path e)) (each_unlinked tree rows e)

pub unlinked_clear : (w : World) (visits : List Visit) → list_any (λ row. is_link row.kind) w.tree ≡ false → AreClear w visits
unlinked_clear w [] e = tt
unlinked_clear w (x ∷ xs) e = (
  inr (record { way = unlinked w.tree x.path.names e; members = λ slash. and_from _ _ (ap not (unlinked w.tree x.path.names e)) (each_unlinked w.tree (filter (stands_in x.path.names) w.tree) e) }),
  unlinked_clear w xs e,
)
