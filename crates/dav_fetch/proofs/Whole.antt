-- The clause of `fetch`, from its parts.
use Rattle.std.proofs.Common.{inl, inr, ◌<◌, ◌≤◌, ◌+◌, ◌++◌, ◌∷◌, [], ℕ, List, Bool, true, false, cond, Ok, Err, drop, length, refl, sym, subst, arith}
use Rattle.std.specs.List.{AllByRecursion}
use Rattle.std.proofs.lemmas.List.{length-append}
use Rattle.dav_core.specs.Path.{Names}
use Rattle.dav_fetch.specs.declared.copied.Copied.{Copied}
use Rattle.dav_fetch.specs.declared.error.MirrorError.TheVariants.{NoMemory}
use Rattle.dav_fetch.specs.declared.fetching.Gathered.{Gathered}
use Rattle.dav_fetch.specs.declared.found.Found.{Found}
use Rattle.dav_fetch.specs.declared.walking.Walked.{Walked}
use Rattle.dav_fetch.specs.Copy.{IsOf}
use Rattle.dav_fetch.specs.Fetching.{Fetched, FilesEnd, IsOrdered}
use Rattle.dav_fetch.specs.Gathering.{Gathers}
use Rattle.dav_fetch.specs.Peer.{PeerState}
use Rattle.dav_fetch.specs.Steps.{StopsAt, WalksTo}
use Rattle.dav_fetch.specs.Walk.{Pages, Visit, Way, files_on, start, with_all}

pub unplanned_fetched : (s t : PeerState) (old : Copied) (most : ℕ) (w : Walked) → WalksTo s most (Ok w) t → Fetched s old most (Err NoMemory) t old
unplanned_fetched s t old most w (visits, chain, read, made, within) = record {
  pages = visits;
  way = record { due = []; dirs = drop 1 w.dirs.items; files = w.files.items };
  read = read;
  mid = t;
  chain = chain;
  within = subst (λ k. k ≤ most) made within;
  rest = [];
  goes = inr (record { lacks = refl; none = refl; stays = refl; same = refl });
}

pub gathered_fetched : (s m t : PeerState) (old : Copied) (most : ℕ) (w : Walked) (dirs paths : List Names) (g : Gathered) → WalksTo s most (Ok w) m → IsOrdered (drop 1 w.dirs.items) dirs → IsOrdered w.files.items paths
    → Gathers old.files paths w.made most m g t → Fetched s old most g.ended t (record { dirs = dirs; files = g.files.items })
gathered_fetched s m t old most w dirs paths g (visits, chain, read, made, within) dirs_are paths_are gathers = record {
  pages = visits;
  way = record { due = []; dirs = drop 1 w.dirs.items; files = w.files.items };
  read = read;
  mid = m;
  chain = chain;
  within = subst (λ k. k ≤ most) made within;
  rest = gathers.visits ++ gathers.last;
  goes = inl (record {
    dirs = dirs_are;
    paths = paths;
    ordered = paths_are;
    visits = gathers.visits;
    last = gathers.last;
    parts = refl;
    got = gathers.got;
    left = gathers.left;
    took = gathers.took;
    mid = gathers.mid;
    chain = gathers.chain;
    within = subst (λ k. k + length gathers.visits ≤ most) made gathers.within;
    ends = subst (λ k. FilesEnd gathers.left (record { old = old.files; got = gathers.got; new = g.files.items }) (record { made = k + length gathers.visits; most = most }) g.ended
        (record { before = gathers.mid; visits = gathers.last; after = t })) made gathers.ends;
  });
}

-- ---- files have names

abbrev AreNamed : List Names → Type 0
AreNamed paths = AllByRecursion (λ (path : Names). 0 < length path) paths

named_both : (a b : List Names) → AreNamed a → AreNamed b → AreNamed (a ++ b)
named_both [] b p q = q
named_both (x ∷ a) b p q = (p.0, named_both a b p.1 q)

named_on : (dir : Names) (found : List Found) → AreNamed (files_on dir found)
named_on dir [] = tt
named_on dir (f ∷ more) = by f.is_dir (named_on dir more)
  where
    by : (t : Bool) → AreNamed (files_on dir more) → AreNamed (cond t (files_on dir more) ((dir ++ f.name ∷ []) ∷ files_on dir more))
    by true rest = rest
    by false rest = (omega (arith, length-append dir (f.name ∷ [])), rest)

pages_named : (way end : Way) (visits : List Visit) → Pages way visits end → AreNamed way.files → AreNamed end.files
pages_named way end [] same named = subst (λ (w : Way). AreNamed w.files) (sym same) named
pages_named way end (v ∷ vs) (dir, rest, found, due, page, more) named = pages_named (with_all dir found (record way { due = rest })) end vs more (named_both way.files (files_on dir found) named (named_on dir found))

of_named : (paths : List Names) (q : Names) → AreNamed paths → IsOf q paths → 0 < length q
of_named [] q named is = absurd is
of_named (p ∷ ps) q named (inl here) = subst (λ (x : Names). 0 < length x) (sym here) named.0
of_named (p ∷ ps) q named (inr more) = of_named ps q named.1 more

each_named : (paths : List Names) → ((q : Names) → IsOf q paths → 0 < length q) → AreNamed paths
each_named [] h = tt
each_named (p ∷ ps) h = (h p (inl refl), each_named ps (λ q is. h q (inr is)))

pub walked_named : (s m : PeerState) (most : ℕ) (w : Walked) (paths : List Names) → WalksTo s most (Ok w) m → IsOrdered w.files.items paths → AllByRecursion (λ (path : Names). 0 < length path) paths
walked_named s m most w paths (visits, chain, read, made, within) ordered =
    let named = pages_named start (record { due = []; dirs = drop 1 w.dirs.items; files = w.files.items }) visits read tt in
    each_named paths (λ q is. of_named w.files.items q named (ordered.from q is))

pub lacks_stop : (s : PeerState) (most : ℕ) → StopsAt s most NoMemory s
lacks_stop s most = record { visits = []; way = start; dir = []; due = []; mid = s; last = []; chain = refl; read = refl; is_due = refl; within = omega arith; at = inl (refl, inl refl) }
