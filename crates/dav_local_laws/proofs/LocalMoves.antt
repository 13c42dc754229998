-- What a move of a local store makes of the told world: what one call of the disk makes. Where a directory is to take the place of a
-- file, the file may go first, and the move is asked again.
use Rattle.std.proofs.Common.{◌≡◌, ◌≤◌, ◌⊎◌, inl, inr, ◌||◌, Bool, true, false, cond, List, Option, None, Some, Result, Ok, Err, refl, sym, ap, subst, ◌∙◌, arith}
use Rattle.dav_io.specs.Told.{Both}
use Rattle.dav_io.proofs.ToldLemmas.{both_known, both_map, both_same, both_then}
use Rattle.dav_io.specs.declared.clock.Moment.{Moment}
use Rattle.dav_core.specs.declared.error.FsError.{FsError}
use Rattle.dav_core.specs.declared.error.FsError.TheVariants as fs
use Rattle.dav_core.specs.declared.handle.DiskError.{DiskError}
use Rattle.dav_core.specs.declared.handle.DiskError.TheVariants.{NotFound, Exists, NotDir, IsDir, NotEmpty, Failed, NoMemory}
use Rattle.dav_core.specs.declared.handle.Meta.{Meta}
use Rattle.dav_core.specs.declared.tree.Row.{Row}
use Rattle.dav_core.specs.Allowed.{Allowed, found_then, moving, taking_file, taking_file_row}
use Rattle.dav_core.specs.DavPath.{WebPath}
use Rattle.dav_core.specs.Disk.{DiskState, IsCounted, Metas, Refused}
use Rattle.dav_core.specs.Edits.{Edit, EditedBy, takes}
use Rattle.dav_core.specs.Errors.{fs_error_of}
use Rattle.dav_core.specs.Path.{Names}
use Rattle.dav_core.specs.Tree.{is_dir, is_linked, look}
use Rattle.dav_core.specs.World.{SameBesidesOpens, World}
use Rattle.dav_core.specs.Writing.{DoesIn, LeftBy, RemovesFile, Renames}
use Rattle.dav_core.proofs.UnchangedLemmas.{same_besides, same_besides_then}
use Rattle.dav_core.proofs.LeftLemmas.{left_refused}
use Rattle.dav_store.specs.Files.{Spoiled}
use Rattle.dav_store.specs.View.{Listings, View}
use Rattle.dav_store.proofs.Reading.{rose_from, rose_on}
use Rattle.dav_model.specs.declared.settings.Settings.{Settings}
use Rattle.dav_model.specs.Finding.{is_forbidden, resolved}
use Rattle.dav_model.specs.Rules.{Rules}
use Rattle.dav_walks.specs.Follows.{Calls, IfBothFound, MeetsFile, MovesBy, Told, UnlessShut}
use Rattle.dav_walks.specs.Pouring.{Writes}
use Rattle.dav_walks.proofs.trees.OthersStay.{unlinked_from}
use Rattle.dav_walks.proofs.removals.RemovalsAllowed.{back_taken}
use Rattle.dav_memory.specs.Memory.{MemoryState}
use Rattle.dav_local.specs.declared.entry.LocalFsDirEntry.{LocalFsDirEntry}
use Rattle.dav_local.specs.declared.file.LocalFsFile.{LocalFsFile}
use Rattle.dav_local.specs.declared.ways.Ways.{Ways}
use Rattle.dav_local.specs.Calls.{AfterMove, AfterNotDir, MovesAgain, MovesAt, Place, again_by, blocked_by}
use Rattle.dav_local.specs.Files.{done_by}
use Rattle.dav_local.specs.Ways.{rules_of, rules_with}
use Rattle.dav_local.specs.declared.gathering.LocalFsReadDir.{LocalFsReadDir}
use Rattle.dav_local.proofs.ByRules.{spoiled_by}
use Rattle.dav_local_laws.proofs.CallsBefore.{calls_before, moving_numbered, taking_file_numbered}
use Rattle.dav_local_laws.proofs.CallsDone.{calls_from, spoiled_from}
use Rattle.dav_local_laws.proofs.LocalCalls.{LedToBoth, calls_spoiled, found_both, unless_told}
use Rattle.dav_local_laws.proofs.LocalLooks.{found_there}
use Rattle.dav_local_laws.proofs.PlainLooks.{called_for}
use Rattle.dav_local_laws.specs.LocalStore.{IsLocalStore, place}

-- ---- a removal

-- What was refused left the world.
kept_false : (allowed : Allowed) (u x : World) → LeftBy false allowed u x → SameBesidesOpens u x
kept_false (Ok (Some e)) u x left = left
kept_false (Ok None) u x left = left
kept_false (Err d) u x left = left

-- what is taken as a file
taken_edit : (tree : List Row) (path : Names) (edit : Option Edit) → taking_file tree path ≡ Ok edit → (p : Names) × (edit ≡ Some (takes p))
taken_edit tree path edit is = by (look tree path) is
  where
    one : (row : Row) (dir : Bool) → cond dir (Err IsDir) (Ok (Some (takes row.path))) ≡ Ok edit → (p : Names) × (edit ≡ Some (takes p))
    one row true e = cc
    one row false e = (row.path, cc)

    by : (found : Result Row DiskError) → found_then taking_file_row found ≡ Ok edit → (p : Names) × (edit ≡ Some (takes p))
    by (Ok row) e = one row (is_dir row.kind) e
    by (Err d) e = cc

-- No link is met after it that was met before.
unlinked_still : (u x : World) (path q : Names) (edit : Option Edit) → taking_file u.tree path ≡ Ok edit → EditedBy edit u x → is_linked u.tree q ≡ false → is_linked x.tree q ≡ false
unlinked_still u x path q edit is edited clear =
    let (p, took) = taken_edit u.tree path edit is in
    unlinked_from u.tree x.tree q (λ r i link. back_taken p u x (subst (λ e. EditedBy e u x) took edited) r i) clear

-- ---- what a refusal comes of

-- A call behind a refused move was refused as the tree calls for it, and the move is forbidden; or a fault or want of memory was met,
-- which is the answer.
blocked_for : (T U : Type 0) (e : DiskError) (found : Result U DiskError) (s k i t : DiskState) → Refused e found → s.faults ≤ k.faults → IsCounted {T = T} (Err e) k i → i.faults ≤ t.faults
    → ((found ≡ Err e) × (blocked_by e ≡ fs.Forbidden)) ⊎ Spoiled {T = Unit} s (Err (blocked_by e)) t
blocked_for T U NotFound found s k i t refused le counted more = inl (refused, refl)
blocked_for T U Exists found s k i t refused le counted more = inl (refused, refl)
blocked_for T U NotDir found s k i t refused le counted more = inl (refused, refl)
blocked_for T U IsDir found s k i t refused le counted more = inl (refused, refl)
blocked_for T U NotEmpty found s k i t refused le counted more = inl (refused, refl)
blocked_for T U Failed found s k i t refused le counted more =
    inr (inl (refl, rose_on s.faults i.faults t.faults (rose_from s.faults k.faults i.faults le (counted.rose refl)) more))
blocked_for T U NoMemory found s k i t refused le counted more = inr (inr refl)

-- Behind a removal that was refused the second move's answer stands, but where it is refused as the first.
again_parts : (e : DiskError) (again : Result Unit DiskError)
    → ((again ≡ Err NotDir) × (again_by (Err e) again ≡ Err (blocked_by e))) ⊎ ((again_by (Err e) again ≡ done_by again) × (again ≡ Err NotDir → ⊥))
again_parts e (Ok x) = inr (refl, λ f. cc)
again_parts e (Err NotDir) = inl (refl, refl)
again_parts e (Err NotFound) = inr (refl, λ f. cc)
again_parts e (Err Exists) = inr (refl, λ f. cc)
again_parts e (Err IsDir) = inr (refl, λ f. cc)
again_parts e (Err NotEmpty) = inr (refl, λ f. cc)
again_parts e (Err Failed) = inr (refl, λ f. cc)
again_parts e (Err NoMemory) = inr (refl, λ f. cc)

-- A move that is to be refused so, and wasn't, met a fault or want of memory.
spoiled_only : (answer : Result Unit DiskError) (allowed : Allowed) (s k t : DiskState) (v w : World) → allowed ≡ Err NotDir → (answer ≡ Err NotDir → ⊥) → DoesIn true allowed answer v w → s.faults ≤ k.faults
    → IsCounted answer k t → Spoiled {T = Unit} s (done_by answer) t
spoiled_only (Ok x) allowed s k t v w is other (edit, may, edited) le counted = absurd (let f : ◌≡◌ {A = Allowed} (Err NotDir) (Ok edit) = sym is ∙ may in cc)
spoiled_only (Err d) allowed s k t v w is other (refused, left) le counted = elim (called_for Unit (Option Edit) Unit d allowed k t refused counted) [
  | inl called ↦ absurd (other (let f : ◌≡◌ {A = Allowed} (Err d) (Err NotDir) = sym called ∙ is in cc))
  | inr spoiled ↦ spoiled_from s k t (fs_error_of d) le spoiled
]

module _ {S C : Type 0} (view : View S C LocalFsFile) (lists : Listings S C LocalFsReadDir LocalFsDirEntry) (writes : Writes LocalFsFile) (c : C) (ways : S → Ways) (memory : S → MemoryState) (moment : S → Moment)
    (local : IsLocalStore view lists writes ways memory moment) (settings : Settings) where
  abbrev at : S → Place
  at s = place view lists writes ways memory moment s

  -- from the state of the disk in which both places were found
  module _ (m n : S) (d : DiskState) (within : (view.state m).faults ≤ d.faults) (r : Result Unit FsError) (from into : Names) where
    -- no link stands on either way
    abbrev IfClear : World → Type 0 → Type 0
    IfClear v P = is_linked v.tree from ≡ false → is_linked v.tree into ≡ false → P

    abbrev Moved : World → World → Type 0
    Moved v w = IfClear v (MovesBy view lists writes c from into m r n v w)

    -- what the disk's move does
    abbrev Renamed : Result Unit DiskError → World → World → Type 0
    Renamed answer v w = is_linked v.tree from ≡ false → is_linked v.tree into ≡ false → DoesIn true (moving v.tree from into) answer v w

    -- what follows where the first move was refused: it is again, or a file went
    abbrev RefusedAs : World → World → Type 0
    RefusedAs u w = Calls view lists writes c (Err NotDir) m r n u w

    abbrev FileWent : World → World → Type 0
    FileWent u w = MeetsFile u.tree from into × (x : World) × Calls view lists writes c (taking_file u.tree into) m (Ok tt) n u x × Calls view lists writes c (moving x.tree from into) m r n x w

    -- It is refused for a file that is met only where a fault or want of memory is met as well.
    abbrev Held : World → Type 0
    Held u = MeetsFile u.tree from into → Spoiled {T = Unit} (view.state m) r (view.state n)

    abbrev Again : World → World → Type 0
    Again u w = IfClear u (moving u.tree from into ≡ Err NotDir → (RefusedAs u w × Held u) ⊎ FileWent u w)

    -- the same from a world that only calls lie behind that changed nothing
    refused_before : (r : Result Unit FsError) (v u w : World) → SameBesidesOpens v u → Calls view lists writes c (Err NotDir) m r n u w → Calls view lists writes c (Err NotDir) m r n v w
    refused_before (Ok x) v u w same (edit, is, edited) = cc
    refused_before (Err e) v u w same (inl (called, left)) = inl (called, same_besides_then v u w same left)
    refused_before (Err e) v u w same (inr (spoiled, left)) = inr (spoiled, same_besides_then v u w same left)

    went_before : (v u x : World) → SameBesidesOpens v u → Calls view lists writes c (taking_file u.tree into) m (Ok tt) n u x → Calls view lists writes c (taking_file v.tree into) m (Ok tt) n v x
    went_before v u x same gone =
        subst (λ (tree : List Row). Calls view lists writes c (taking_file tree into) m (Ok tt) n v x) same.tree
        (calls_before view lists writes c (taking_file u.tree into) m n (Ok tt) v u x (taking_file_numbered u.tree into) same gone)

    -- ---- the second move

    -- the move stays refused, since the call behind it was
    blocked_ends : (T U : Type 0) (e : DiskError) (found : Result U DiskError) (k i : DiskState) (u w : World) → Refused e found → (view.state m).faults ≤ k.faults → IsCounted {T = T} (Err e) k i
        → i.faults ≤ (view.state n).faults → r ≡ Err (blocked_by e) → SameBesidesOpens u w → (MeetsFile u.tree from into → found ≡ Err e → ⊥) → RefusedAs u w × Held u
    blocked_ends T U e found k i u w refused le counted more is same never = elim (blocked_for T U e found (view.state m) k i (view.state n) refused le counted more) [
      | inl (called, forbidden) ↦
          (subst (λ z. Calls view lists writes c (Err NotDir) m z n u w) (sym (is ∙ ap (λ (f : FsError). Err f) forbidden)) (inl (refl, same)), λ meets. absurd (never meets called))
      | inr spoiled ↦
          (subst (λ z. Calls view lists writes c (Err NotDir) m z n u w) (sym is) (inr (spoiled, same)), λ meets. subst (λ z. Spoiled {T = Unit} (view.state m) z (view.state n)) (sym is) spoiled)
    ]

    -- a look found a directory
    abbrev FoundDir : World → Type 0
    FoundDir u = is_linked u.tree from ≡ false → (row : Row) × (look u.tree from ≡ Ok row) × (is_dir row.kind ≡ true)

    abbrev Gone : Result Unit DiskError → World → World → Type 0
    Gone removal u x = is_linked u.tree into ≡ false → DoesIn false (taking_file u.tree into) removal u x

    moved_again : (removal again : Result Unit DiskError) (k i : DiskState) → (view.state m).faults ≤ k.faults → RemovesFile k into removal i → Renames i from into again (view.state n) → r ≡ again_by removal again
        → (u x w : World) → FoundDir u × Gone removal u x → Renamed again x w → Again u w
    moved_again (Ok y) again k i le removes renames is u x w (found, gone) moves clear free refused =
        let (edit, allowed, edited) = gone free in
        let (row, looked, dir) = found clear in
        let still : (q : Names) → is_linked u.tree q ≡ false → is_linked x.tree q ≡ false = λ q e. unlinked_still u x into q edit allowed edited e in
        let within : (view.state m).faults ≤ i.faults = omega (arith, le, removes.asks.counts) in
        inr ((refused, row, looked, dir, edit, allowed), x, (edit, allowed, edited), rw is (calls_from view lists writes c true (moving x.tree from into) again m n i x w (moves (still from clear) (still into free)) within renames.asks.counted))
    moved_again (Err e) again k i le removes renames is u x w (found, gone) moves clear free refused =
        let (called, left) = gone free in
        let same = kept_false (taking_file u.tree into) u x left in
        let does = subst (λ a. DoesIn true a again x w) (ap (λ t. moving t from into) same.tree ∙ refused)
        (moves (ap (λ t. is_linked t from) same.tree ∙ clear) (ap (λ t. is_linked t into) same.tree ∙ free)) in
        let within : (view.state m).faults ≤ i.faults = omega (arith, le, removes.asks.counts) in
        inl (elim (again_parts e again) [
          | inl (still, answer) ↦
              blocked_ends Unit (Option Edit) e (taking_file u.tree into) k i u w called le removes.asks.counted renames.asks.counts (is ∙ answer)
              (same_besides_then u x w same (subst (λ a. DoesIn true (Err NotDir) a x w) still does).1)
              (λ (first, row, looked, dir, edit, taken) no. (let never : ◌≡◌ {A = Allowed} (Ok edit) (Err e) = sym taken ∙ no in cc))
          | inr (answer, other) ↦ (
            refused_before r u x w same (rw (is ∙ answer) (calls_from view lists writes c true (Err NotDir) again m n i x w does within renames.asks.counted)),
            λ meets. rw (is ∙ answer) (spoiled_only again (Err NotDir) (view.state m) i (view.state n) x w refl other does within renames.asks.counted),
          )
        ])

    -- what follows a look that found something
    dir_told : (meta : Meta) (b : Bool) (k j : DiskState) → is_dir meta.kind ≡ b → (view.state m).faults ≤ k.faults → Metas k from (Ok meta) j → MovesAgain b from into j r (view.state n) → Both k.told (view.state n).told Again
    dir_told meta false k j kind le metas (is, same) =
        both_known k.told (view.state n).told SameBesidesOpens Again
        (λ u w told kept clear free refused. inl (
          subst (λ z. Calls view lists writes c (Err NotDir) m z n u w) (sym is) (inl (refl, kept)),
          λ (first, row, looked, dir, edit, taken). absurd (let (found, stands, of) = metas.told u told clear in
              let here : found ≡ row = (let f : ◌≡◌ {A = Result Row DiskError} (Ok found) (Ok row) = sym stands ∙ looked in cc) in
              let never : false ≡ true = sym kind ∙ (ap is_dir of.kind ∙ (ap (λ (x : Row). is_dir x.kind) here ∙ dir)) in cc),
        ))
        (both_same k.told (view.state n).told SameBesidesOpens same_besides (ap (λ (d : DiskState). d.told) same ∙ metas.world))
    dir_told meta true k j kind le metas (removal, i, removes, again, renames, is) =
        let within : (view.state m).faults ≤ j.faults = omega (arith, le, metas.asks.counts) in
        subst (λ told. Both told (view.state n).told Again) metas.world
        (both_then j.told i.told (view.state n).told (λ u x. FoundDir u × Gone removal u x) (Renamed again) Again
        (moved_again removal again j i within removes renames is)
        (both_known j.told i.told (Gone removal) (λ u x. FoundDir u × Gone removal u x)
        (λ u x told gone. (λ clear. (let (found, stands, of) = metas.told u (sym metas.world ∙ told) clear in (found, stands, ap is_dir (sym of.kind) ∙ kind)), gone))
        removes.told)
        renames.told)

    again_told : (found : Result Meta DiskError) (k j : DiskState) → (view.state m).faults ≤ k.faults → Metas k from found j → AfterNotDir found from into j r (view.state n) → Both k.told (view.state n).told Again
    again_told (Ok meta) k j le metas after = dir_told meta (is_dir meta.kind) k j refl le metas after
    again_told (Err e) k j le metas (is, same) =
        both_known k.told (view.state n).told SameBesidesOpens Again
        (λ u w told kept clear free refused. inl (blocked_ends Meta Row e (look u.tree from) k j u w (metas.told u told clear) le metas.asks.counted (rw same (omega arith)) is kept
        (λ (first, row, looked, dir, edit, taken) no. (let never : ◌≡◌ {A = Result Row DiskError} (Ok row) (Err e) = sym looked ∙ no in cc))))
        (both_same k.told (view.state n).told SameBesidesOpens same_besides (ap (λ (d : DiskState). d.told) same ∙ metas.world))

    -- ---- the first

    -- a first move that was refused, and what follows
    then_moved : (v u w : World) → Renamed (Err NotDir) v u → Again u w → Moved v w
    then_moved v u w does again clear free =
        let (refused, left) = does clear free in
        let same : SameBesidesOpens v u = left_refused true NotDir v u (subst (λ a. LeftBy true a v u) refused left) in
        by refused same (again (ap (λ t. is_linked t from) same.tree ∙ clear) (ap (λ t. is_linked t into) same.tree ∙ free) (ap (λ t. moving t from into) same.tree ∙ refused))
      where
        by : moving v.tree from into ≡ Err NotDir → SameBesidesOpens v u → (RefusedAs u w × Held u) ⊎ FileWent u w → MovesBy view lists writes c from into m r n v w
        by refused same (inl (after, held)) = inl (
          subst (λ a. Calls view lists writes c a m r n v w) (sym refused) (refused_before r v u w same after),
          λ meets. held (subst (λ (tree : List Row). MeetsFile tree from into) (sym same.tree) meets),
        )
        by refused same (inr (meets, x, gone, after)) = inr (subst (λ (tree : List Row). MeetsFile tree from into) same.tree meets, x, went_before v u x same gone, after)

    -- a move that stands
    moved_once : (answer : Result Unit DiskError) (k : DiskState) → (answer ≡ Err NotDir → ⊥) → Renames d from into answer k → r ≡ done_by answer → view.state n ≡ k → Both d.told (view.state n).told Moved
    moved_once answer k other renames is same =
        let all = subst (Renames d from into answer) (sym same) renames in
        both_map d.told (view.state n).told (Renamed answer) Moved
        (λ v w does clear free. inl (
          rw is (calls_from view lists writes c true (moving v.tree from into) answer m n d v w (does clear free) within all.asks.counted),
          λ meets. rw is (spoiled_only answer (moving v.tree from into) (view.state m) d (view.state n) v w meets.0 other (does clear free) within all.asks.counted),
        ))
        all.told

    pub moved_by : (answer : Result Unit DiskError) (k : DiskState) → Renames d from into answer k → AfterMove answer from into k r (view.state n) → Both d.told (view.state n).told Moved
    moved_by (Ok x) k renames (is, same) = moved_once (Ok x) k (λ f. cc) renames is same
    moved_by (Err NotDir) k renames (look, j, metas, again) =
        both_then d.told k.told (view.state n).told (Renamed (Err NotDir)) Again Moved then_moved renames.told
        (again_told look k j (omega (arith, within, renames.asks.counts)) metas again)
    moved_by (Err NotFound) k renames (is, same) = moved_once (Err NotFound) k (λ f. cc) renames is same
    moved_by (Err Exists) k renames (is, same) = moved_once (Err Exists) k (λ f. cc) renames is same
    moved_by (Err IsDir) k renames (is, same) = moved_once (Err IsDir) k (λ f. cc) renames is same
    moved_by (Err NotEmpty) k renames (is, same) = moved_once (Err NotEmpty) k (λ f. cc) renames is same
    moved_by (Err Failed) k renames (is, same) = moved_once (Err Failed) k (λ f. cc) renames is same
    moved_by (Err NoMemory) k renames (is, same) = moved_once (Err NoMemory) k (λ f. cc) renames is same

  -- What a move does behind calls that changed nothing, it does before them.
  pub moves_before : (from into : Names) (m n : S) (r : Result Unit FsError) (v u w : World) → SameBesidesOpens v u → MovesBy view lists writes c from into m r n u w → MovesBy view lists writes c from into m r n v w
  moves_before from into m n r v u w same (inl (calls, held)) = inl (
    subst (λ (tree : List Row). Calls view lists writes c (moving tree from into) m r n v w) same.tree
        (calls_before view lists writes c (moving u.tree from into) m n r v u w (moving_numbered u.tree from into) same calls),
    λ meets. held (subst (λ (tree : List Row). MeetsFile tree from into) (sym same.tree) meets),
  )
  moves_before from into m n r v u w same (inr (meets, x, gone, after)) = inr (
    subst (λ (tree : List Row). MeetsFile tree from into) same.tree meets,
    x,
    subst (λ (tree : List Row). Calls view lists writes c (taking_file tree into) m (Ok tt) n v x) same.tree
        (calls_before view lists writes c (taking_file u.tree into) m n (Ok tt) v u x (taking_file_numbered u.tree into) same gone),
    after,
  )

  -- one of the two paths wasn't found
  pub moves_spoiled : (from into : Names) (m n : S) (e : FsError) (r : Result Unit FsError) (k q : DiskState) (v w : World) → (view.state m).faults ≤ k.faults → Spoiled {T = Names} k (Err e) q → r ≡ Err e → view.state n ≡ q
      → SameBesidesOpens v w → MovesBy view lists writes c from into m r n v w
  moves_spoiled from into m n e r k q v w le spoiled is ends same = inl (
    calls_spoiled view lists writes c ways memory moment local settings m n (moving v.tree from into) e r k q v w le spoiled is ends same,
    λ meets. subst (λ z. Spoiled {T = Unit} (view.state m) z (view.state n)) (sym is)
        (subst (λ d. Spoiled {T = Unit} (view.state m) (Err e) d) (sym ends) (spoiled_by {U = Unit} (view.state m) k q e (Err e) le refl spoiled)),
  )

  -- ---- over the store

  abbrev rules : S → Rules
  rules m = rules_with settings (ways m)

  -- the move is one where both paths are found, and no link is met on either way
  abbrev pub MovedBetween : S → S → WebPath → WebPath → Result Unit FsError → World → World → Type 0
  MovedBetween m n from to r v w = IfBothFound view lists writes c (rules m) v from to
      (MovesBy view lists writes c (resolved (rules m) v.tree from.names) (resolved (rules m) v.tree to.names) m r n v w)

  moved_at : (m n : S) (from to : WebPath) (r : Result Unit FsError) (one other : Names) (q : Place)
      → Both (view.state m).told q.disk.told (LedToBoth view lists writes c ways memory moment local settings m from to one other) → (view.state m).faults ≤ q.disk.faults
      → MovesAt one other q r (at n) → Told view lists writes c m n (MovedBetween m n from to r)
  moved_at m n from to r one other q led le (answer, k, renames, t, after, ends) =
      let same : view.state n ≡ t = ap (λ (x : Place). x.disk) ends in
      both_then (view.state m).told q.disk.told (view.state n).told (LedToBoth view lists writes c ways memory moment local settings m from to one other) (Moved m n q.disk le r one other) (MovedBetween m n from to r)
      (λ v u w p moved apart free beyond.
      let here = found_there settings (ways m) v from.names one apart free p.first in
      let into = found_there settings (ways m) v to.names other apart beyond p.second in
      subst (λ (z : Names). MovesBy view lists writes c z (resolved (rules m) v.tree to.names) m r n v w) here
      (subst (λ (z : Names). MovesBy view lists writes c one z m r n v w) into
      (moves_before one other m n r v u w p.same
      (moved (ap (λ (tree : List Row). is_linked tree one) p.same.tree ∙ (ap (is_linked v.tree) here ∙ free))
      (ap (λ (tree : List Row). is_linked tree other) p.same.tree ∙ (ap (is_linked v.tree) into ∙ beyond))))))
      led
      (moved_by m n q.disk le r one other answer k renames (subst (AfterMove answer one other k r) (sym same) after))

  pub move_told : (m n : S) (from to : WebPath) (r : Result Unit FsError) → view.renames m c from to r n
      → Told view lists writes c m n (λ v w. UnlessShut view lists writes c (is_forbidden (rules m) from || is_forbidden (rules m) to) r v w (MovedBetween m n from to r v w))
  move_told m n from to r h =
      unless_told view lists writes c ways memory moment local settings (is_forbidden (rules_of (ways m)) from || is_forbidden (rules_of (ways m)) to) m n _ r (MovedBetween m n from to r) (local.renames m n c from to r h).0
      (found_both view lists writes c ways memory moment local settings m n from to r MovesAt (MovedBetween m n from to r)
      (λ e k q v w le spoiled is ends same apart free beyond.
      moves_spoiled (resolved (rules m) v.tree from.names) (resolved (rules m) v.tree to.names) m n e r k q v w le spoiled is ends same)
      (λ one other q led le moves. moved_at m n from to r one other q led le moves))
