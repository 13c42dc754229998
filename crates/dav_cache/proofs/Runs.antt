-- The invariant holds along every run under the premises.
use Rattle.std.proofs.Common.{◌≡◌, ◌≢◌, ℕ, zero, suc, ◌<◌, ◌≤◌, List, [], ◌∷◌, ◌++◌, length, Some, refl, inl, inr, subst, arith, Contains}
use Rattle.dav_memory.specs.Trees.{Names, FileTime, Tree, time_of}
use Rattle.dav_cache.specs.Core.{Event, State, step, run, start}
use Rattle.dav_cache.specs.declared.event.Event.TheVariants.{Change}
use Rattle.dav_cache.specs.declared.place.Place.TheVariants.{Idle, Lists}
use Rattle.dav_cache.specs.Transparency.{SameNames, IsListing, NoReturn, IsFair, EntriesAreSound, ListingsAreRight, moment, changes, trees_of}
use Rattle.dav_cache.proofs.Invariant.{PlaceOk, Inv}
use Rattle.dav_cache.proofs.Places.{get-replicate}
use Rattle.dav_cache.proofs.Steps.{KnowsTree, step_inv}

-- ---- a time that was left, event by event

-- the directory hasn't the time, and doesn't get it back while the caller's listing goes on
abbrev pub StaysAway : List Event → State → ℕ → Names → FileTime → Type 0
StaysAway [] s c d t = time_of s.tree d ≢ Some t
StaysAway (e ∷ es) s c d t = (time_of s.tree d ≢ Some t) × (IsListing (step s e) c d → StaysAway es (step s e) c d t)

at_zero : (es : List Event) (s : State) (c : ℕ) (d : Names) → IsListing s c d → (m : ℕ) → m ≤ 0 → IsListing (moment es s m) c d
at_zero es s c d l zero le = l
at_zero es s c d l (suc m) le = absurd (omega arith)

stays : (es : List Event) (s : State) (c : ℕ) (d : Names) (t : FileTime)
    → ((k : ℕ) → k ≤ length es → ((m : ℕ) → m ≤ k → IsListing (moment es s m) c d) → time_of (moment es s k).tree d ≢ Some t)
    → IsListing s c d → StaysAway es s c d t
stays [] s c d t never l = never 0 (omega arith) (at_zero [] s c d l)
stays (e ∷ es) s c d t never l =
    (never 0 (omega arith) (at_zero (e ∷ es) s c d l), λ l'. stays es (step s e) c d t (λ k le all. never (suc k) (omega arith) (both k all)) l')
  where
    both : (k : ℕ) → ((m : ℕ) → m ≤ k → IsListing (moment es (step s e) m) c d) → (m : ℕ) → m ≤ suc k → IsListing (moment (e ∷ es) s m) c d
    both k all zero le = l
    both k all (suc m) le = all m (omega arith)

pub leaves : (e : Event) (es : List Event) (s : State) → NoReturn (e ∷ es) s → (c : ℕ) (d : Names) (t : FileTime) → IsListing s c d
    → IsListing (step s e) c d
    → time_of s.tree d ≡ Some t → time_of (step s e).tree d ≢ Some t → StaysAway es (step s e) c d t
leaves e es s fair c d t l l' was left =
    stays es (step s e) c d t (λ k le all back. left (fair c d t 0 1 (suc k) (omega arith) (omega arith) (omega arith) (listing k all) was back)) l'
  where
    listing : (k : ℕ) → ((m : ℕ) → m ≤ k → IsListing (moment es (step s e) m) c d) → (m : ℕ) → 0 ≤ m → m ≤ suc k → IsListing (moment (e ∷ es) s m) c d
    listing k all zero ge le = l
    listing k all (suc m) ge le = all m (omega arith)

pub later : (e : Event) (es : List Event) (s : State) → NoReturn (e ∷ es) s → NoReturn es (step s e)
later e es s fair c d t i j k ij jk kl all at_i at_k = fair c d t (suc i) (suc j) (suc k) (omega arith) (omega arith) (omega arith) listing at_i at_k
  where
    listing : (m : ℕ) → suc i ≤ m → m ≤ suc k → IsListing (moment (e ∷ es) s m) c d
    listing zero ge le = absurd (omega arith)
    listing (suc m) ge le = all m (omega arith) (omega arith)

-- ---- the trees of a run

pub contains_here : {X : Type 0} (x : X) (xs : List X) → Contains (x ∷ xs) x
contains_here x xs = (0, omega arith, refl)

pub contains_there : {X : Type 0} (x y : X) (xs : List X) → Contains xs y → Contains (x ∷ xs) y
contains_there x y xs c = let l : c.0 < length xs = c.1 in (suc c.0, omega arith, c.2)

changes_later : (e : Event) (es : List Event) (tree : Tree) → Contains (changes es) tree → Contains (changes (e ∷ es)) tree
changes_later (Change other) es tree c = contains_there other tree (changes es) c
changes_later _ es tree c = c

changes_now : (trees : List Tree) (e : Event) (es : List Event) → ((tree : Tree) → Contains (changes (e ∷ es)) tree → Contains trees tree)
    → KnowsTree trees e
changes_now trees (Change tree) es known = known tree (contains_here tree (changes es))
changes_now trees _ es known = tt

-- ---- runs

module _ (trees : List Tree) (same : SameNames trees) where
  pub run_inv : (bs after : List Event) (s : State) → ((tree : Tree) → Contains (changes (bs ++ after)) tree → Contains trees tree)
      → NoReturn (bs ++ after) s
      → Inv trees (StaysAway (bs ++ after) s) s → Inv trees (StaysAway after (run s bs)) (run s bs)
  run_inv [] after s known fair inv = inv
  run_inv (e ∷ bs) after s known fair inv =
      let es = bs ++ after in
      run_inv bs after (step s e) (λ tree c. known tree (changes_later e es tree c)) (later e es s fair)
      (step_inv trees same (StaysAway (e ∷ es) s) (StaysAway es (step s e)) s e (changes_now trees e es known) inv
      (record {
        gone = λ c d t away. away.0;
        carries = λ c d t away l. away.1 l;
        leaves = leaves e es s fair;
      }))

pub start_inv : (trees : List Tree) (Away : ℕ → Names → FileTime → Type 0) (tree : Tree) (callers paths dots : ℕ) → Contains trees tree
    → Inv trees Away (start tree callers paths dots)
start_inv trees Away tree callers paths dots known = record {
  entries = record { known = known; falling = tt; below = tt; sound = λ d e h. cc };
  places = λ c p h. subst (λ w. PlaceOk trees Away (start tree callers paths dots) c w) (get-replicate callers c Idle p h) tt;
}

-- at each moment of a run
pub at_moment : (tree : Tree) (callers paths dots : ℕ) (bs after : List Event) → IsFair (bs ++ after) (start tree callers paths dots)
    → Inv (trees_of (start tree callers paths dots) (bs ++ after)) (StaysAway after (run (start tree callers paths dots) bs)) (run (start tree callers paths dots) bs)
at_moment tree callers paths dots bs after fair =
    let s = start tree callers paths dots in
    let trees = trees_of s (bs ++ after) in
    run_inv trees fair.same_names bs after s (λ other c. contains_there tree other (changes (bs ++ after)) c) fair.no_return
    (start_inv trees (StaysAway (bs ++ after) s) tree callers paths dots (contains_here tree (changes (bs ++ after))))

pub entries_sound : (tree : Tree) (callers paths dots : ℕ) → EntriesAreSound (start tree callers paths dots)
entries_sound tree callers paths dots before after fair dir = (at_moment tree callers paths dots before after fair).entries.sound dir

stays_now : (es : List Event) (s : State) (c : ℕ) (d : Names) (t : FileTime) → StaysAway es s c d t → time_of s.tree d ≢ Some t
stays_now [] s c d t away = away
stays_now (e ∷ es) s c d t away = away.0

pub listings_right : (tree : Tree) (callers paths dots : ℕ) → ListingsAreRight (start tree callers paths dots)
listings_right tree callers paths dots before after fair c l time place whole was now =
    let s = run (start tree callers paths dots) before in
    elim ((at_moment tree callers paths dots before after fair).places c (Lists l) place whole time was) [
      | inl going ↦ going.1
      | inr away ↦ absurd (stays_now after s c l.dir time away now)
    ]
