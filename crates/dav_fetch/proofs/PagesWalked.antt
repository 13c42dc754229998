-- The pages of a still world, one after another, are a walk of its tree.
use Rattle.std.proofs.Common.{◌≡◌, inl, inr, ◌+◌, ◌++◌, suc, ℕ, List, [], ◌∷◌, length, Some, refl, sym, ap, subst, ◌∙◌, arith}
use Rattle.std.specs.List.{flat_map}
use Rattle.std.proofs.lemmas.List.{length-append}
use Rattle.dav_io.specs.Counts.{RefusedNothing, Rose}
use Rattle.dav_io.proofs.Rising.{no_rise}
use Rattle.dav_core.specs.Members.{members}
use Rattle.dav_core.specs.Path.{Names}
use Rattle.dav_core.specs.Tree.{look}
use Rattle.dav_core.specs.World.{IsWorld, World}
use Rattle.dav_core.proofs.Rows.{tree_parts}
use Rattle.dav_page.specs.Index.{IsIndex}
use Rattle.dav_page.specs.Listed.{AreRows}
use Rattle.dav_fetch.specs.Asking.{dir_path}
use Rattle.dav_fetch.specs.Copy.{IsOf}
use Rattle.dav_fetch.specs.Fetching.{Visited, WholeVisits}
use Rattle.dav_fetch.specs.Mirroring.{TellsOne}
use Rattle.dav_fetch.specs.Peer.{PeerState, RepliesOf, Seen}
use Rattle.dav_fetch.specs.Walk.{Pages, Visit, Way, start, with_all}
use Rattle.dav_fetch.proofs.DirServed.{page_sent}
use Rattle.dav_fetch.proofs.Orders.{of_append}
use Rattle.dav_fetch.proofs.PageNames.{IsListing, members_same, page_listing}
use Rattle.dav_fetch.proofs.Quiet.{IsToldOf, came_over, quiet_first, quiet_rest, told_reply, visit_counts, visits_count}
use Rattle.dav_fetch.proofs.Walks.{IsDirAt, Walked, at_start, one_more}
use Rattle.dav_fetch.proofs.Ways.{whole_visits}

-- The page of a directory of this world is the body of a reply.
pub record PageGiven (w : World) (dir : Names) (visit : Visit) (at : PeerState) : Type 0 where
  pub status : visit.got.status ≡ 200
  pub texts : List (List ℕ)
  pub index : IsIndex (dir_path dir) (AreRows (dir_path dir) (members w dir)) texts
  pub now : Seen
  pub told : at.told ≡ Some now
  pub left : now.left ≡ flat_map (λ text. text) texts

pub page_given : (w : World) (dir : Names) (s t : PeerState) (visit : Visit) → IsDirAt w dir → IsToldOf w visit → (visited : Visited s visit t) → RefusedNothing s.faults t.faults
    → visit.path ≡ dir_path dir → PageGiven w dir visit visited.at
page_given w dir s t visit at told visited nothing path =
    let r = told_reply w s t visit told visited in
    let reply : RepliesOf r.world (dir_path dir) visit.asked (Rose s.faults visited.at.faults) visit.got r.now.left =
    subst (λ p. RepliesOf r.world p visit.asked (Rose s.faults visited.at.faults) visit.got r.now.left) path r.reply in
    let quiet = no_rise s.faults visited.at.faults (quiet_first s.faults visited.at.faults t.faults visited.counts visited.read.counts nothing) in
    let sent = page_sent r.world reply.fields dir at.row (Rose s.faults visited.at.faults) reply.reply (ap (λ tree. look tree dir) r.same.tree ∙ at.at.there) at.kind quiet reply.right in
    record {
      status = reply.status ∙ sent.status;
      texts = sent.texts;
      index = subst (λ ms. IsIndex (dir_path dir) (AreRows (dir_path dir) ms) sent.texts) (members_same w r.world dir r.same) sent.index;
      now = r.now;
      told = r.told;
      left = reply.body ∙ sent.body;
    }

-- How far the pages are read.
pub record WalkedOn (w : World) (count : ℕ) (way : Way) : Type 0 where
  pub read : List Names
  pub walk : Walked w read way
  pub many : length read ≡ count

pub on_pages : (w : World) (s t : PeerState) (visits : List Visit) (way end : Way) (count : ℕ) → IsWorld w → TellsOne w visits → RefusedNothing s.faults t.faults → WholeVisits s visits t
    → Pages way visits end → WalkedOn w count way → WalkedOn w (count + length visits) end
on_pages w s t [] way end count world told nothing chain same on =
    subst (WalkedOn w (count + 0)) (sym same) (subst (λ n. WalkedOn w n way) (plus_none count) on)
  where
    plus_none : (n : ℕ) → n ≡ n + 0
    plus_none n = omega arith
on_pages w s t (v ∷ vs) way end count world told nothing (m, visited, over, chain) (dir, rest, found, due, page, more) on =
    let first = visit_counts s m v visited in
    let second = visits_count m t vs (whole_visits m t vs chain) in
    let at = on.walk.dirs dir (subst (IsOf dir) (sym (on.walk.parts ∙ ap (λ z. on.read ++ z) due)) (of_append dir on.read (dir ∷ rest) (inr (inl refl)))) in
    let given = page_given w dir s m v at told.0 visited (quiet_first s.faults m.faults t.faults first second nothing) page.path in
    let listing : IsListing w.tree dir found =
    page_listing w dir given.texts v.came found world (came_over visited.at m given.now v.came given.told visited.read over ∙ given.left) given.index page.found in
    subst (λ n. WalkedOn w n end) (one_further count (length vs))
    (on_pages w m t vs (with_all dir found (record way { due = rest })) end (count + 1) world told.1 (quiet_rest s.faults m.faults t.faults first second nothing) chain more
    (record {
      read = on.read ++ dir ∷ [];
      walk = one_more w (tree_parts w.tree world.tree) on.read way on.walk dir rest due found listing;
      many = length-append on.read (dir ∷ []) ∙ ap (λ n. n + 1) on.many;
    }))
  where
    one_further : (n k : ℕ) → n + 1 + k ≡ n + suc k
    one_further n k = omega arith

-- The pages that were read, from the root on.
pub pages_walked : (w : World) (s t : PeerState) (visits : List Visit) (way : Way) → IsWorld w → TellsOne w visits → RefusedNothing s.faults t.faults → WholeVisits s visits t → Pages start visits way
    → WalkedOn w (length visits) way
pages_walked w s t visits way world told nothing chain pages =
    subst (λ n. WalkedOn w n way) (none_before (length visits))
    (on_pages w s t visits start way 0 world told nothing chain pages (record { read = []; walk = at_start w (tree_parts w.tree world.tree); many = refl }))
  where
    none_before : (n : ℕ) → 0 + n ≡ n
    none_before n = omega arith
