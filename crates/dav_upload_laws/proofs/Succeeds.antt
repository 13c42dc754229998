-- Over a disk that refused nothing an upload that the table allows is refused only for want of memory.
use Rattle.std.proofs.Common.{◌≡◌, ◌⊎◌, ◌≤◌, ◌&&◌, ◌||◌, inl, inr, ℕ, List, [], ◌∷◌, codes, Bool, true, false, not, cond, Option, None, Some, IsSome, Result, Ok, Err, refl, sym, ap, subst, ◌∙◌, arith}
use Rattle.std.specs.Str.{bytes_eq}
use Rattle.std.proofs.lemmas.Slice.Eq.{bytes_eq-Decides}
use Rattle.dav_io.specs.Counts.{RefusedNothing, Rose}
use Rattle.dav_io.specs.declared.clock.Moment.{Moment}
use Rattle.dav_core.specs.declared.dav_error.DavError.{DavError}
use Rattle.dav_core.specs.declared.dav_error.DavError.TheVariants as dav
use Rattle.dav_core.specs.declared.error.FsError.{FsError}
use Rattle.dav_core.specs.declared.error.FsError.TheVariants as fs
use Rattle.dav_core.specs.declared.handle.DiskError.{DiskError}
use Rattle.dav_core.specs.declared.handle.OpenOptions.{OpenOptions}
use Rattle.dav_core.specs.declared.handle.DiskError.TheVariants as disk
use Rattle.dav_core.specs.declared.method.DavMethod.TheVariants.{Put}
use Rattle.dav_core.specs.declared.tree.Kind.TheVariants.{Dir, File, Link}
use Rattle.dav_core.specs.declared.tree.Kind.{Kind}
use Rattle.dav_core.specs.declared.tree.Row.{Row}
use Rattle.dav_core.specs.Allowed.{Allowed, moving, opening, taking_file}
use Rattle.dav_core.specs.DavPath.{WebPath, last_name}
use Rattle.dav_core.specs.Disk.{DiskState, Live}
use Rattle.dav_core.specs.Edits.{Edit, makes, moves, takes}
use Rattle.dav_core.specs.Info.{Info}
use Rattle.dav_core.specs.Listing.{or_empty}
use Rattle.dav_core.specs.Path.{Names, parent_of, same_names}
use Rattle.dav_core.specs.Statuses.{lacks_memory, of_fs}
use Rattle.dav_core.specs.Tree.{is_dir, is_file, is_linked, look, row_at}
use Rattle.dav_core.specs.Unchanged.{Keeps}
use Rattle.dav_core.specs.World.{IsWorld, SameBesidesOpens, World}
use Rattle.dav_core.specs.Writing.{can_write}
use Rattle.dav_core.proofs.UnchangedLemmas.{same_besides_then}
use Rattle.dav_store.specs.Files.{Spoiled}
use Rattle.dav_store.specs.View.{Closes, Listings, View}
use Rattle.dav_memory.specs.Memory.{MemoryState}
use Rattle.dav_model.specs.declared.outcome.Outcome.{Outcome}
use Rattle.dav_model.specs.declared.settings.Settings.{Settings}
use Rattle.dav_model.specs.Conditions.{Fields, condition, strong}
use Rattle.dav_model.specs.Finding.{empty_file, has_slash, is_forbidden, is_localized, is_named, is_virtual, or_walk, resolved, resolved_from, stood_at}
use Rattle.dav_model.specs.Head.{Stood, stood_in}
use Rattle.dav_model.specs.Plans.{Halt, above as the_above, failing, first, has_parent, is_dir_found, refused_there, stands, unmet as the_unmet, when}
use Rattle.dav_model.specs.Rules.{Rules}
use Rattle.dav_model.specs.Valid.{IsRegular, TellsApart}
use Rattle.dav_model.proofs.LooseWalks.{parent_pushed}
use Rattle.dav_model.proofs.PlainWalks.{plain_resolved}
use Rattle.dav_walks.specs.Follows.{Calls, CallsFor, Finds, Follows, LooksBy, MovesBy, Reached}
use Rattle.dav_walks.specs.Follows.Reached.{copies as copies_to, ends_file as ends_to, here, listed as listed_to, looks as looks_to, looks_at_link as links_to, makes_dir as makes_to, opens as opens_to, removes_dir as dir_to, removes_file as removes_to, renames as renames_to, unlisted as unlisted_to, writes_file as writes_to}
use Rattle.dav_walks.specs.Lines.{Line, above, fails_when}
use Rattle.dav_methods.specs.Lines.{Given, done_over, first_of, may_put, no_parent, unless, unmet, with_status}
use Rattle.dav_walks.specs.Pouring.{Writes, WritesFile}
use Rattle.dav_methods.specs.Putting.{MayPut, MayReplace}
use Rattle.dav_methods.specs.Table.{Below, Ends, Next, Unless}
use Rattle.dav_walks.proofs.trees.StandsAsBefore.{regular_same, stands_same}
use Rattle.dav_local.specs.declared.entry.LocalFsDirEntry.{LocalFsDirEntry}
use Rattle.dav_local.specs.declared.file.LocalFsFile.{LocalFsFile}
use Rattle.dav_local.specs.declared.gathering.LocalFsReadDir.{LocalFsReadDir}
use Rattle.dav_local.specs.declared.ways.Ways.{Ways}
use Rattle.dav_local.specs.Calls.{Place, is_shut}
use Rattle.dav_local.specs.Shown.{knowledge_of}
use Rattle.dav_local.specs.Ways.{rules_of, rules_with}
use Rattle.dav_local_laws.proofs.LocalFollows.{local_follows}
use Rattle.dav_local_laws.proofs.LocalLeads.{calls_remain}
use Rattle.dav_local_laws.specs.LocalStore.{IsLocalStore}
use Rattle.dav_upload.specs.declared.error.UploadError.{UploadError}
use Rattle.dav_upload.specs.declared.error.UploadError.TheVariants.{Dav, NoMemory}
use Rattle.dav_upload.specs.declared.upload.Upload.{Upload}
use Rattle.dav_upload.specs.Names.{hidden_beside, hidden_name, is_hidden, is_hidden_path, is_taken}
use Rattle.dav_upload.specs.Pieces.{upload_options}
use Rattle.dav_upload.specs.Standing.{StandsIn, pending}
use Rattle.dav_upload.specs.Steps.{IsBeside, IsClear}
use Rattle.dav_upload.specs.Uploading.{AfterClose, AfterJudged, AfterJudging, AfterMove, Aborts, Begins, BeginsAs, Commits, Judges, PieceOn, WritesPiece, done_as, opened_as, refusal_of, refused_by}
use Rattle.dav_upload.proofs.Beside.{looked_at, hidden_some}
use Rattle.dav_upload.proofs.Chains.{named_long}
use Rattle.dav_upload.proofs.Moving.{never}
use Rattle.dav_upload.proofs.Tokens.{beside_hides}
use Rattle.dav_methods.proofs.plans.CarryLooks.{missing_only}
use Rattle.dav_methods.proofs.plans.LinesMatch.{none_when}
use Rattle.dav_upload_laws.specs.Passing.{PassesTable, Succeeds}
use Rattle.dav_upload_laws.specs.Written.{finds_as_written}
use Rattle.dav_upload_laws.proofs.LocalTakes.{local_opens_only, written_parts}
use Rattle.dav_upload_laws.proofs.Places.{clear_above, may_go, may_make, may_take, placed_below}
use Rattle.dav_io.proofs.ToldLemmas.{told_after}
use Rattle.dav_core.proofs.Paths.{names_same}
use Rattle.std.proofs.lemmas.Bool.{not-false, or_from}

-- ---- counts

not_risen : {P : Type 0} (a b : ℕ) → RefusedNothing a b → Rose a b → P
not_risen a b none (inl less) = absurd (let same = none.same in omega (arith, same, less))
not_risen a b none (inr full) = absurd (let room = none.room in omega (arith, room, full))

within : (a b c d : ℕ) → RefusedNothing a d → a ≤ b → b ≤ c → c ≤ d → RefusedNothing b c
within a b c d none p q r = record { same = (let same = none.same in omega (arith, same, p, q, r)); room = (let room = none.room in omega (arith, room, r)) }

-- a refusal that was spoiled, where no fault was met, is want of memory
only_memory : {T : Type 0} (s t : DiskState) (e : FsError) → RefusedNothing s.faults t.faults → Spoiled {T = T} s (Err e) t → e ≡ fs.NoMemory
only_memory s t e none (inl fault) = not_risen s.faults t.faults none fault.1
only_memory {T} s t e none (inr is) = let f : ◌≡◌ {A = Result T FsError} (Err e) (Err fs.NoMemory) = is in cc

-- ---- the lines of the table

first_none : (a : Option Halt) (rest : List (Option Halt)) → first (a ∷ rest) ≡ None → (a ≡ None) × (first rest ≡ None)
first_none None rest e = (refl, e)
first_none (Some l) rest e = cc

failing_none : (o : Option ℕ) → failing o ≡ None → o ≡ None
failing_none None e = refl
failing_none (Some n) e = cc

pub record Passed (rules : Rules) (w : World) (path : WebPath) (fields : Fields) : Type 0 where
  pub slash : path.slash ≡ false
  pub parent : has_parent rules w path ≡ true
  pub there : refused_there (stands rules w path) ≡ None
  pub no_dir : is_dir_found (stands rules w path) ≡ false
  pub met : the_unmet Put fields (stands rules w path) ≡ None

pub passed : (rules : Rules) (w : World) (path : WebPath) (fields : Fields) → PassesTable rules w path fields → Passed rules w path fields
passed rules w path fields e =
    let a = first_none _ _ e in
    let b = first_none _ _ a.1 in
    let c = first_none _ _ b.1 in
    let d = first_none _ _ c.1 in
    let f = first_none _ _ d.1 in record {
      slash = none_when path.slash 405 a.0;
      parent = not-false (has_parent rules w path) (none_when (not (has_parent rules w path)) 409 b.0);
      there = c.0;
      no_dir = none_when (is_dir_found (stands rules w path)) 405 d.0;
      met = f.0;
    }

-- a directory was found above
parent_line : (y : Result Stood FsError) (found : Result Info FsError) → is_dir_found y ≡ true → Finds y found → no_parent found ≡ Ok tt
parent_line (Ok there) (Ok info) dir agrees = ap (λ k. fails_when (not (is_dir k)) 409) agrees.kind ∙ ap (λ b. fails_when (not b) 409) dir
parent_line (Ok there) (Err e) dir finds = absurd finds
parent_line (Err e) found dir finds = cc

-- the target lets a PUT go on
put_line : (fields : Fields) (y : Result Stood FsError) (found : Result Info FsError) → refused_there y ≡ None → is_dir_found y ≡ false → the_unmet Put fields y ≡ None → Finds y found → may_put fields found ≡ Ok tt
put_line fields (Ok there) (Ok info) fine no_dir met agrees =
    let dir : is_dir info.kind ≡ false = ap is_dir agrees.kind ∙ no_dir in
    let cond_met : condition Put fields true (strong info.tag) info.modified ≡ None =
    ap (λ t. condition Put fields true (strong t) info.modified) agrees.tag ∙ (ap (condition Put fields true (strong there.tag)) agrees.modified ∙ failing_none _ met) in
    ap (λ b. first_of (fails_when b 405 ∷ unmet Put fields (Ok info) ∷ [])) dir ∙ ap (λ o. first_of (with_status o ∷ [])) cond_met
put_line fields (Ok there) (Err e) fine no_dir met finds = absurd finds
put_line fields (Err e) (Ok info) fine no_dir met finds = absurd finds
put_line fields (Err e) (Err f) fine no_dir met finds =
    let is : f ≡ fs.NotFound = finds ∙ missing_only e fine in
    ap (λ z. may_put fields (Err z)) is ∙ ap (λ o. first_of (with_status o ∷ [])) (failing_none _ met)

-- ---- hidden names are no names that the rules for macOS forbid

hidden_unforbidden : (rules : Rules) (path : WebPath) → is_hidden_path path.names ≡ true → is_forbidden rules path ≡ false
hidden_unforbidden rules path hides = by rules.macos refl
  where
    -- another name than these
    other : (name : List ℕ) → is_hidden name ≡ false → same_names path.names (name ∷ []) ≡ false
    other name shows = by (same_names path.names (name ∷ [])) refl
      where
        by : (b : Bool) → same_names path.names (name ∷ []) ≡ b → b ≡ false
        by false e = refl
        by true e = never (is_hidden name) (ap is_hidden_path (sym (names_same path.names (name ∷ []) e)) ∙ hides) shows

    virtual : is_virtual rules path ≡ false
    virtual =
        ap (λ b. rules.macos && (not path.slash && (b || same_names path.names (codes ".ql_disablethumbnails" ∷ [])))) (other (codes ".metadata_never_index") refl)
        ∙ (ap (λ b. rules.macos && (not path.slash && b)) (other (codes ".ql_disablethumbnails") refl) ∙ none rules.macos (not path.slash))
      where
        none : (a b : Bool) → (a && (b && false)) ≡ false
        none true true = refl
        none true false = refl
        none false b = refl

    local : (o : Option (List ℕ)) → is_hidden (or_empty o) ≡ true → is_named (codes ".localized") o ≡ false
    local None shows = refl
    local (Some last) shows = by (bytes_eq last (codes ".localized")) refl
      where
        by : (b : Bool) → bytes_eq last (codes ".localized") ≡ b → b ≡ false
        by false e = refl
        by true e = let same : last ≡ codes ".localized" = (bytes_eq-Decides last (codes ".localized")).0 e in let no : false ≡ true = ap is_hidden (sym same) ∙ shows in cc

    by : (b : Bool) → rules.macos ≡ b → is_forbidden rules path ≡ false
    by b e = ap (λ x. x || (rules.macos && is_localized path.names)) virtual ∙ (ap (λ x. rules.macos && x) (local (last_name path.names) hides) ∙ off rules.macos)
      where
        off : (a : Bool) → (a && false) ≡ false
        off true = refl
        off false = refl

-- ---- where a path is found, and what stands above a target

pub written_resolved : (settings : Settings) (ways : Ways) → finds_as_written ways ≡ true → (tree : List Row) (names : Names) → resolved (rules_with settings ways) tree names ≡ names
written_resolved settings ways plain tree names =
    let (alone, folds) = written_parts ways plain in
    ap (λ o. or_walk o (resolved_from ways.folds tree [] names)) alone ∙ (ap (λ b. resolved_from b tree [] names) folds ∙ plain_resolved settings tree names)

no_slash_at : (ways : Ways) (path : WebPath) → finds_as_written ways ≡ true → path.slash ≡ false → has_slash ways.alone path ≡ false
no_slash_at ways path plain flat = ap (λ o. has_slash o path) (written_parts ways plain).0 ∙ flat

-- what a look finds that finds a directory
dir_of : (w : World) (slash : Bool) (found : Result Row DiskError) → is_dir_found (stood_at slash w found) ≡ true → (row : Row) × (found ≡ Ok row) × (row.kind ≡ Dir)
dir_of w slash (Err e) dir = cc
dir_of w slash (Ok row) dir = by (slash && is_file row.kind) dir
  where
    kinds : (k : Kind) → is_dir k ≡ true → k ≡ Dir
    kinds Dir e = refl
    kinds File e = cc
    kinds Link e = cc

    by : (b : Bool) → is_dir_found (cond b (Err fs.Forbidden) (Ok (stood_in w row))) ≡ true → (r : Row) × (◌≡◌ {A = Result Row DiskError} (Ok row) (Ok r)) × (r.kind ≡ Dir)
    by true e = cc
    by false e = (row, refl, kinds row.kind e)

module _ (settings : Settings) (ways : Ways) (plain : finds_as_written ways ≡ true) (w : World) where
  -- A directory stands above a target that passes.
  dir_stands : (path : WebPath) → has_parent (rules_with settings ways) w path ≡ true → (row : Row) × (look w.tree (parent_of path.names) ≡ Ok row) × (row.kind ≡ Dir)
  dir_stands path parent = by (is_virtual (rules_with settings ways) (the_above path)) (ways.macos && is_localized (resolved (rules_with settings ways) w.tree (parent_of path.names))) refl refl
    where
      no_file : (m : Bool) → is_virtual (record (rules_with settings ways) { macos = m }) (the_above path) ≡ false
      no_file true = refl
      no_file false = refl

      by : (a b : Bool) → is_virtual (rules_with settings ways) (the_above path) ≡ a → (ways.macos && is_localized (resolved (rules_with settings ways) w.tree (parent_of path.names))) ≡ b
          → (row : Row) × (look w.tree (parent_of path.names) ≡ Ok row) × (row.kind ≡ Dir)
      by true b e f = let no : true ≡ false = sym e ∙ no_file ways.macos in cc
      by false true e f =
          let lost : stands (rules_with settings ways) w (the_above path) ≡ Err fs.NotFound =
          ap (λ x. cond x (Ok empty_file) (cond ((ways.macos && is_localized (resolved (rules_with settings ways) w.tree (parent_of path.names))) || false) (Err fs.NotFound)
          (stood_at (has_slash ways.alone (the_above path)) w (look w.tree (resolved (rules_with settings ways) w.tree (parent_of path.names)))))) e
          ∙ ap (λ x. cond (x || false) (Err fs.NotFound) (stood_at (has_slash ways.alone (the_above path)) w (look w.tree (resolved (rules_with settings ways) w.tree (parent_of path.names))))) f in
          let no : false ≡ true = sym (ap is_dir_found lost) ∙ parent in cc
      by false false e f =
          let here : stands (rules_with settings ways) w (the_above path) ≡ stood_at (has_slash ways.alone (the_above path)) w (look w.tree (resolved (rules_with settings ways) w.tree (parent_of path.names))) =
          ap (λ x. cond x (Ok empty_file) (cond ((ways.macos && is_localized (resolved (rules_with settings ways) w.tree (parent_of path.names))) || false) (Err fs.NotFound)
          (stood_at (has_slash ways.alone (the_above path)) w (look w.tree (resolved (rules_with settings ways) w.tree (parent_of path.names)))))) e
          ∙ ap (λ x. cond (x || false) (Err fs.NotFound) (stood_at (has_slash ways.alone (the_above path)) w (look w.tree (resolved (rules_with settings ways) w.tree (parent_of path.names))))) f in
          let (row, found, kind) = dir_of w (has_slash ways.alone (the_above path)) (look w.tree (resolved (rules_with settings ways) w.tree (parent_of path.names))) (sym (ap is_dir_found here) ∙ parent) in
          (row, ap (look w.tree) (sym (written_resolved settings ways plain w.tree (parent_of path.names))) ∙ found, kind)

  -- No directory stands at a target that passes, where its name isn't one that the rules for macOS forbid.
  no_dir_stands : (path : WebPath) (row : Row) → IsWorld w → path.slash ≡ false → is_forbidden (rules_with settings ways) path ≡ false → is_dir_found (stands (rules_with settings ways) w path) ≡ false → row_at w.tree path.names ≡ Some row
      → is_dir row.kind ≡ false
  no_dir_stands path row is flat shut no_dir at =
      let (a, b) = or_none (is_virtual (rules_with settings ways) path) (ways.macos && is_localized path.names) shut in
      let same = written_resolved settings ways plain w.tree path.names in
      let found : look w.tree (resolved (rules_with settings ways) w.tree path.names) ≡ Ok row = ap (look w.tree) same ∙ looked_at w path.names row is at in
      let here : stands (rules_with settings ways) w path ≡ Ok (stood_in w row) =
      ap (λ x. cond x (Ok empty_file) (cond ((ways.macos && is_localized (resolved (rules_with settings ways) w.tree path.names)) || false) (Err fs.NotFound)
      (stood_at (has_slash ways.alone path) w (look w.tree (resolved (rules_with settings ways) w.tree path.names))))) a
      ∙ (ap (λ x. cond ((ways.macos && is_localized x) || false) (Err fs.NotFound) (stood_at (has_slash ways.alone path) w (look w.tree (resolved (rules_with settings ways) w.tree path.names)))) same
      ∙ (ap (λ x. cond (x || false) (Err fs.NotFound) (stood_at (has_slash ways.alone path) w (look w.tree (resolved (rules_with settings ways) w.tree path.names)))) b
      ∙ (ap (λ x. stood_at x w (look w.tree (resolved (rules_with settings ways) w.tree path.names))) (no_slash_at ways path plain flat) ∙ ap (stood_at false w) found))) in
      sym (ap is_dir_found here) ∙ no_dir
    where
      or_none : (a b : Bool) → (a || b) ≡ false → (a ≡ false) × (b ≡ false)
      or_none true b e = cc
      or_none false b e = (refl, e)

-- ---- the judging

spoiled_line : (found : Result Info FsError) (s t : DiskState) → RefusedNothing s.faults t.faults → Spoiled s found t → no_parent found ≡ Err dav.NoMemory
spoiled_line found s t none (inl fault) = not_risen s.faults t.faults none fault.1
spoiled_line found s t none (inr is) = ap no_parent is

spoiled_put : (fields : Fields) (found : Result Info FsError) (s t : DiskState) → RefusedNothing s.faults t.faults → Spoiled s found t → may_put fields found ≡ Err (of_fs fs.NoMemory)
spoiled_put fields found s t none (inl fault) = not_risen s.faults t.faults none fault.1
spoiled_put fields found s t none (inr is) = ap (may_put fields) is

-- what a judging may give: that a PUT may be made, or want of memory
abbrev pub Judged : Given → Type 0
Judged (Ok outcome) = Unit {0}
Judged (Err e) = lacks_memory e ≡ true

judged_as : (a b : Given) → a ≡ b → Judged b → Judged a
judged_as a b e = subst Judged (sym e)

module _ {S C : Type 0} (view : View S C LocalFsFile) (lists : Listings S C LocalFsReadDir LocalFsDirEntry) (writes : Writes LocalFsFile) (c : C) (ways : S → Ways) (memory : S → MemoryState) (moment : S → Moment)
    (local : IsLocalStore view lists writes ways memory moment) (settings : Settings) where
  abbrev pub rules : S → Rules
  rules s = rules_with settings (ways s)

  follows : (s : S) → Follows view lists writes c (rules s) (knowledge_of (memory s)) s
  follows s = local_follows view lists writes c ways memory moment local settings s

  pub judged_well : (s : S) (v : World) (path : WebPath) (fields : Fields) (may : Given) (t : S) → (view.state s).told ≡ Some v → finds_as_written (ways s) ≡ true → IsRegular (rules s) (knowledge_of (memory s)) v
      → is_linked v.tree path.names ≡ false → Passed (rules s) v path fields → RefusedNothing (view.state s).faults (view.state t).faults → MayPut view c path fields s may t → Judged may
  judged_well s v path fields may t was plain regular clear p none may_put_so =
      below (subst (λ b. Unless (fails_when b 405) (Next (Below view c path (MayReplace view c path fields))) s may t) p.slash may_put_so)
    where
      counts : (m : S) → Reached view lists writes c s m → (view.state s).faults ≤ (view.state m).faults
      counts m reached = (follows s).counts m reached

      linked_at : (u : World) (names : Names) → u.tree ≡ v.tree → is_linked v.tree names ≡ false → is_linked u.tree (resolved (rules s) u.tree names) ≡ false
      linked_at u names same free = ap (is_linked u.tree) (written_resolved settings (ways s) plain u.tree names) ∙ (ap (λ tree. is_linked tree names) same ∙ free)

      replaced : (n : S) (u : World) → Reached view lists writes c s n → (view.state n).told ≡ Some u → SameBesidesOpens v u → MayReplace view c path fields n may t → Judged may
      replaced n u reached there same (found, m, look, goes) = by goes
        where
          looked : S → World → Type 0
          looked m w = Finds (stands (rules s) v path) found ⊎ Spoiled (view.state n) found (view.state m)

          what : Finds (stands (rules s) v path) found ⊎ Spoiled (view.state n) found (view.state m)
          what =
              let (w, now, says) = told_after (view.state n).told (view.state m).told _ u ((follows s).looks n m path found reached look) there in
              elim (says.1 (regular_same (rules s) (knowledge_of (memory s)) v u same.tree regular) (linked_at u path.names same.tree clear)) [
                | inl finds ↦ inl (subst (λ y. Finds y found) (stands_same (rules s) v u path same) finds)
                | inr spoiled ↦ inr spoiled
              ]

          by : Next (Ends (unless (may_put fields found) (done_over found))) m may t → Judged may
          by (inl (same, is)) = judged_as may (Err dav.NoMemory) is refl
          by (inr (same, is)) = elim what [
            | inl finds ↦ judged_as may (Ok (done_over found)) (is ∙ ap (λ l. unless l (done_over found)) (put_line fields (stands (rules s) v path) found p.there p.no_dir p.met finds)) tt
            | inr spoiled ↦
                let quiet : RefusedNothing (view.state n).faults (view.state m).faults =
                within (view.state s).faults (view.state n).faults (view.state m).faults (view.state t).faults none (counts n reached)
                ((follows n).counts m (looks_to n m path found here look)) (omega (arith, ap (λ x. (view.state x).faults) same)) in
                judged_as may (Err (of_fs fs.NoMemory)) (is ∙ ap (λ l. unless l (done_over found)) (spoiled_put fields found (view.state n) (view.state m) quiet spoiled)) refl
          ]

      below : Next (Below view c path (MayReplace view c path fields)) s may t → Judged may
      below (inl (same, is)) = judged_as may (Err dav.NoMemory) is refl
      below (inr (up, n, look, goes)) = by goes
        where
          there : (u : World) × ((view.state n).told ≡ Some u) × LooksBy view lists writes c (rules s) (knowledge_of (memory s)) (above path) s up n v u
          there = told_after (view.state s).told (view.state n).told _ v ((follows s).looks s n (above path) up here look) was

          after : Unless (no_parent up) (MayReplace view c path fields) n may t → Judged may
          after goes = elim (there.2.1 regular (linked_at v (parent_of path.names) refl (clear_above v.tree path.names clear))) [
            | inl finds ↦
                replaced n there.0 (looks_to s n (above path) up here look) there.1 there.2.0
                (subst (λ l. Unless l (MayReplace view c path fields) n may t) (parent_line (stands (rules s) v (above path)) up p.parent finds) goes)
            | inr spoiled ↦
                let quiet : RefusedNothing (view.state s).faults (view.state n).faults =
                within (view.state s).faults (view.state s).faults (view.state n).faults (view.state t).faults none (omega arith) (counts n (looks_to s n (above path) up here look)) (later n goes) in
                let ends : Ends (Err dav.NoMemory) n may t = subst (λ l. Unless l (MayReplace view c path fields) n may t) (spoiled_line up (view.state s) (view.state n) quiet spoiled) goes in
                judged_as may (Err dav.NoMemory) ends.1 refl
          ]
            where
              later : (n : S) → Unless (no_parent up) (MayReplace view c path fields) n may t → (view.state n).faults ≤ (view.state t).faults
              later n goes = by_line (no_parent up) goes
                where
                  by_next : (found : Result Info FsError) (m : S) → Next (Ends (unless (may_put fields found) (done_over found))) m may t → t ≡ m
                  by_next found m (inl (same, is)) = same
                  by_next found m (inr (same, is)) = same

                  by_line : (l : Line) → Unless l (MayReplace view c path fields) n may t → (view.state n).faults ≤ (view.state t).faults
                  by_line (Err e) (same, is) = omega (arith, ap (λ x. (view.state x).faults) same)
                  by_line (Ok x) (found, m, look, goes) =
                      let on = (follows n).counts m (looks_to n m path found here look) in
                      let same = ap (λ x. (view.state x).faults) (by_next found m goes) in
                      omega (arith, on, same)

          by : Next (Unless (no_parent up) (MayReplace view c path fields)) n may t → Judged may
          by (inl (same, is)) = judged_as may (Err dav.NoMemory) is refl
          by (inr goes) = after goes

  -- the store where a judging ends
  judged_reached : (s t : S) (path : WebPath) (fields : Fields) (may : Given) → MayPut view c path fields s may t → Reached view lists writes c s t
  judged_reached s t path fields may goes = by_slash (fails_when path.slash 405) goes
    where
      stays : (m : S) → Reached view lists writes c s m → t ≡ m → Reached view lists writes c s t
      stays m reached same = subst (Reached view lists writes c s) (sym same) reached

      by_found : (found : Result Info FsError) (m : S) → Reached view lists writes c s m → Next (Ends (unless (may_put fields found) (done_over found))) m may t → Reached view lists writes c s t
      by_found found m reached (inl (same, is)) = stays m reached same
      by_found found m reached (inr (same, is)) = stays m reached same

      by_parent : (l : Line) (n : S) → Reached view lists writes c s n → Unless l (MayReplace view c path fields) n may t → Reached view lists writes c s t
      by_parent (Err e) n reached (same, is) = stays n reached same
      by_parent (Ok x) n reached (found, m, look, goes) = by_found found m (looks_to n m path found reached look) goes

      by_up : (up : Result Info FsError) (n : S) → Reached view lists writes c s n → Next (Unless (no_parent up) (MayReplace view c path fields)) n may t → Reached view lists writes c s t
      by_up up n reached (inl (same, is)) = stays n reached same
      by_up up n reached (inr goes) = by_parent (no_parent up) n reached goes

      by_slash : (l : Line) → Unless l (Next (Below view c path (MayReplace view c path fields))) s may t → Reached view lists writes c s t
      by_slash (Err e) (same, is) = stays s here same
      by_slash (Ok x) (inl (same, is)) = stays s here same
      by_slash (Ok x) (inr (up, n, look, goes)) = by_up up n (looks_to s n (above path) up here look) goes

  reached_then : (s m t : S) → Reached view lists writes c s m → Reached view lists writes c m t → Reached view lists writes c s t
  reached_then s m t first here = first
  reached_then s m t first (looks_to a b path r on h) = looks_to a b path r (reached_then s m a first on) h
  reached_then s m t first (links_to a b path r on h) = links_to a b path r (reached_then s m a first on) h
  reached_then s m t first (opens_to a b path how r on h) = opens_to a b path how r (reached_then s m a first on) h
  reached_then s m t first (writes_to a b f g bytes r on h) = writes_to a b f g bytes r (reached_then s m a first on) h
  reached_then s m t first (ends_to a b f on h) = ends_to a b f (reached_then s m a first on) h
  reached_then s m t first (makes_to a b path r on h) = makes_to a b path r (reached_then s m a first on) h
  reached_then s m t first (dir_to a b path r on h) = dir_to a b path r (reached_then s m a first on) h
  reached_then s m t first (removes_to a b path r on h) = removes_to a b path r (reached_then s m a first on) h
  reached_then s m t first (renames_to a b from to r on h) = renames_to a b from to r (reached_then s m a first on) h
  reached_then s m t first (copies_to a b from to r on h) = copies_to a b from to r (reached_then s m a first on) h
  reached_then s m t first (unlisted_to a b path e on h) = unlisted_to a b path e (reached_then s m a first on) h
  reached_then s m t first (listed_to a b path on h) = listed_to a b path (reached_then s m a first on) h

  ways_on : (s m : S) → Reached view lists writes c s m → ways m ≡ ways s
  ways_on s m reached = (calls_remain view lists writes ways memory moment local c s m reached).0

  -- what a judging gives is told so
  judged_refusal : (e : DavError) → lacks_memory e ≡ true → refusal_of e ≡ NoMemory
  judged_refusal e lacks = ap (λ b. cond b NoMemory (Dav e)) lacks

  -- ---- begin

  pub begin_succeeds : (s t : S) (v : World) (target : WebPath) (fields : Fields) (token : ℕ) (r : Result (Upload LocalFsFile) UploadError) → (view.state s).told ≡ Some v → finds_as_written (ways s) ≡ true
      → IsRegular (rules s) (knowledge_of (memory s)) v → is_taken target ≡ false → is_linked v.tree target.names ≡ false → is_linked v.tree (hidden_beside target token).names ≡ false
      → row_at v.tree (hidden_beside target token).names ≡ None → PassesTable (rules s) v target fields → RefusedNothing (view.state s).faults (view.state t).faults → Begins view c target fields token s r t → Succeeds r
  begin_succeeds s t v target fields token r was plain regular free clear open_way none_there passes none begins = by (subst (λ b. BeginsAs view c b target fields token s r t) free begins)
    where
      p : Passed (rules s) v target fields
      p = passed (rules s) v target fields passes

      ended : (e : UploadError) → r ≡ Err e → e ≡ NoMemory → Succeeds r
      ended e is memory = subst Succeeds (sym (is ∙ ap (λ z. Err z) memory)) refl

      opened : (m : S) → Keeps (view.state s) (view.state m) → finds_as_written (ways m) ≡ true → (opened : Result LocalFsFile FsError) → view.opens m c (hidden_beside target token) upload_options opened t
          → r ≡ opened_as target token opened → Succeeds r
      opened m keeps q (Ok f) opens is = subst Succeeds (sym is) tt
      opened m keeps q (Err e) opens is =
          let (u, there, kept) = told_after (view.state s).told (view.state m).told SameBesidesOpens v keeps.world was in
          let (row, looks, kind) = dir_stands settings (ways s) plain v target p.parent in
          let above_hidden : parent_of (hidden_beside target token).names ≡ parent_of target.names = parent_pushed (parent_of target.names) (hidden_name token) in
          let placed_there = placed_below v.tree (hidden_beside target token).names row (hidden_some (hidden_beside target token).names (beside_hides target token)) (ap (look v.tree) above_hidden ∙ looks) kind in
          let may = may_make v.tree (hidden_beside target token).names placed_there none_there in
          let shut : is_shut (ways m) (hidden_beside target token) ≡ false =
          or_from (is_forbidden (rules_of (ways m)) (hidden_beside target token)) (has_slash (ways m).alone (hidden_beside target token)) (hidden_unforbidden (rules_of (ways m)) (hidden_beside target token) (beside_hides target token))
          (no_slash_at (ways m) (hidden_beside target token) q refl) in
          let spoiled = local_opens_only view lists writes c ways memory moment local m t (hidden_beside target token) e q shut opens u there
          (ap (λ tree. is_linked tree (hidden_beside target token).names) kept.tree ∙ open_way) (Some (makes (hidden_beside target token).names File []))
          (ap (λ tree. opening tree (hidden_beside target token).names upload_options) kept.tree ∙ may) in
          let quiet : RefusedNothing (view.state m).faults (view.state t).faults =
          within (view.state s).faults (view.state m).faults (view.state t).faults (view.state t).faults none keeps.counts ((follows m).counts t (opens_to m t (hidden_beside target token) upload_options (Err e) here opens)) (omega arith) in
          let memory : e ≡ fs.NoMemory = only_memory {T = LocalFsFile} (view.state m) (view.state t) e quiet spoiled in
          subst Succeeds (sym (is ∙ ap (λ z. opened_as target token (Err z)) memory)) refl

      judged : (j : Judges view c target fields token s r t) → Succeeds r
      judged j = by_may j.may j.opens (judged_well s v target fields j.may j.judged was plain regular clear p (quiet j.may j.opens) j.judges)
        where
          quiet : (may : Given) → AfterJudging view c may target token j.judged r t → RefusedNothing (view.state s).faults (view.state j.judged).faults
          quiet may after = within (view.state s).faults (view.state s).faults (view.state j.judged).faults (view.state t).faults none (omega arith) j.keeps.counts (rest may after)
            where
              rest : (may : Given) → AfterJudging view c may target token j.judged r t → (view.state j.judged).faults ≤ (view.state t).faults
              rest (Err e) (same, is) = omega (arith, ap (λ x. (view.state x).faults) same)
              rest (Ok outcome) (opened, opens, one, is) = (follows j.judged).counts t (opens_to j.judged t (hidden_beside target token) upload_options opened here opens)

          by_may : (may : Given) → AfterJudging view c may target token j.judged r t → Judged may → Succeeds r
          by_may (Err e) (same, is) lacks = ended (refusal_of e) is (judged_refusal e lacks)
          by_may (Ok outcome) (opened_so, opens, one, is) fine = opened j.judged j.keeps (ap finds_as_written (ways_on s j.judged (judged_reached s j.judged target fields j.may j.judges)) ∙ plain) opened_so opens is

      by : BeginsAs view c false target fields token s r t → Succeeds r
      by (inl (same, is)) = ended NoMemory is refl
      by (inr j) = judged j

  -- ---- a piece

  pub piece_succeeds : (shown : ℕ → Bool) (u x : Upload LocalFsFile) (s t : S) (v : World) (bytes pieces : List ℕ) (r : Result Unit UploadError) → StandsIn shown (view.state s).live v (pending view.file.handle u pieces) → u.broken ≡ false
      → RefusedNothing (view.state s).faults (view.state t).faults → WritesPiece view writes u bytes s r t x → Succeeds r
  piece_succeeds shown u x s t v bytes pieces r stands whole none piece_so = by (subst (λ b. PieceOn view writes b u bytes s r t x) whole piece_so)
    where
      may : (o : Option Live) → (view.state s).live (view.file.handle u.file) ≡ o → IsSome o → can_write o ≡ true
      may None e some = cc
      may (Some l) e some = ap (λ k. is_file k && (l.how.write || l.how.append)) (stands.file l e) ∙ ap (λ (o : OpenOptions). o.write || o.append) (stands.how l e)

      by_answer : (y : Result Unit FsError) (file : LocalFsFile) → WritesFile view writes s u.file bytes y t file → r ≡ done_as y → Succeeds r
      by_answer (Ok z) file so is = subst Succeeds (sym is) tt
      by_answer (Err e) file so is =
          let memory : e ≡ fs.NoMemory = only_memory {T = Unit} (view.state s) (view.state t) e none (so.told.refused (may ((view.state s).live (view.file.handle u.file)) refl stands.lives)) in
          subst Succeeds (sym (is ∙ ap (λ z. done_as (Err z)) memory)) refl

      by : PieceOn view writes false u bytes s r t x → Succeeds r
      by (y, file, so, is, answer) = by_answer y file so answer

  -- ---- the end

  -- what the tree allows is refused only by a fault or want of memory
  calls_only : (m k : S) (y z : World) (allowed : Allowed) (edit : Option Edit) (e : FsError) → allowed ≡ Ok edit → Calls view lists writes c allowed m (Err e) k y z → Spoiled {T = Unit} (view.state m) (Err e) (view.state k)
  calls_only m k y z allowed edit e is (inl (calls, same)) = absurd (subst (λ a. CallsFor a e) is calls)
  calls_only m k y z allowed edit e is (inr (spoiled, left)) = spoiled

  -- A move that is allowed is one change.
  one_change : (m k : S) (v w : World) (from to : Names) (edit : Option Edit) (answer : Result Unit FsError) → moving v.tree from to ≡ Ok edit → MovesBy view lists writes c from to m answer k v w
      → Calls view lists writes c (moving v.tree from to) m answer k v w
  one_change m k v w from to edit answer is (inl (calls, held)) = calls
  one_change m k v w from to edit answer is (inr (meets, x, taken, moved)) = absurd (let f : Ok edit ≡ Err disk.NotDir = sym is ∙ meets.0 in cc)

  passes_same : (x : Rules) (v u : World) (path : WebPath) (fields : Fields) → SameBesidesOpens v u → PassesTable x v path fields → PassesTable x u path fields
  passes_same x v u path fields same passes =
      ap (λ a. first (when path.slash 405 ∷ when (not (is_dir_found a)) 409 ∷ refused_there (stands x u path) ∷ when (is_dir_found (stands x u path)) 405 ∷ the_unmet Put fields (stands x u path) ∷ [])) (stands_same x v u (the_above path) same)
      ∙ (ap (λ b. first (when path.slash 405 ∷ when (not (has_parent x v path)) 409 ∷ refused_there b ∷ when (is_dir_found b) 405 ∷ the_unmet Put fields b ∷ [])) (stands_same x v u path same) ∙ passes)

  module _ (shown : ℕ → Bool) (u : Upload LocalFsFile) (s t : S) (v : World) (pieces : List ℕ) (was : (view.state s).told ≡ Some v) (stands_so : StandsIn shown (view.state s).live v (pending view.file.handle u pieces))
      (plain : finds_as_written (ways s) ≡ true) (none : RefusedNothing (view.state s).faults (view.state t).faults) where
    -- a store on the way to the end, before the hidden file was moved or taken
    record Waits (m : S) : Type 0 where
      world : World
      here : (view.state m).told ≡ Some world
      same : SameBesidesOpens v world
      reached : Reached view lists writes c s m

    closed_waits : (closed : S) → Closes view s u.file closed → Waits closed
    closed_waits closed closes =
        let (x, here_so, same) = told_after (view.state s).told (view.state closed).told SameBesidesOpens v closes.done.keeps.world was in
        record { world = x; here = here_so; same = same; reached = ends_to s closed u.file here closes }

    row_waits : (m : S) (x : Waits m) → row_at x.world.tree u.hidden.names ≡ Some stands_so.row
    row_waits m x = ap (λ tree. row_at tree u.hidden.names) x.same.tree ∙ stands_so.at

    found_at : (m : S) (x : Waits m) (names : Names) → is_linked v.tree names ≡ false → is_linked x.world.tree (resolved (rules s) x.world.tree names) ≡ false
    found_at m x names free = ap (is_linked x.world.tree) (written_resolved settings (ways s) plain x.world.tree names) ∙ (ap (λ tree. is_linked tree names) x.same.tree ∙ free)

    apart : (m : S) (x : Waits m) → TellsApart (rules s) x.world
    apart m x folds = let no : true ≡ false = sym folds ∙ (written_parts (ways s) plain).1 in cc

    pub abort_succeeds : (r : Result Unit UploadError) → u.hidden.slash ≡ false → is_linked v.tree u.hidden.names ≡ false → Aborts view c u s r t → Succeeds r
    abort_succeeds r flat clear aborts = by aborts.answer aborts.removes aborts.is
      where
        m : S
        m = aborts.closed

        x : Waits aborts.closed
        x = closed_waits aborts.closed aborts.closes

        quiet : RefusedNothing (view.state aborts.closed).faults (view.state t).faults
        quiet =
            within (view.state s).faults (view.state aborts.closed).faults (view.state t).faults (view.state t).faults none (let c = aborts.closes.done.counts in omega (arith, c)) aborts.keeps.counts (omega arith)

        shut : (is_forbidden (rules s) u.hidden || has_slash (ways s).alone u.hidden) ≡ false
        shut = or_from (is_forbidden (rules s) u.hidden) (has_slash (ways s).alone u.hidden) (hidden_unforbidden (rules s) u.hidden stands_so.hides) (no_slash_at (ways s) u.hidden plain flat)

        by : (answer : Result Unit FsError) → view.removes_file aborts.closed c u.hidden answer t → r ≡ done_as answer → Succeeds r
        by (Ok z) removes is = subst Succeeds (sym is) tt
        by (Err e) removes is =
            let (w, now, unless_so) = told_after (view.state aborts.closed).told (view.state t).told _ x.world ((follows s).removes_file aborts.closed t u.hidden (Err e) x.reached removes) x.here in
            let calls = unless_so.called shut (apart aborts.closed x) (found_at aborts.closed x u.hidden.names clear) in
            let allowed : taking_file x.world.tree (resolved (rules s) x.world.tree u.hidden.names) ≡ Ok (Some (takes stands_so.row.path)) =
            ap (taking_file x.world.tree) (written_resolved settings (ways s) plain x.world.tree u.hidden.names)
            ∙ may_take x.world u.hidden.names stands_so.row (local.worlds aborts.closed x.world x.here) (row_waits aborts.closed x) stands_so.kind in
            let spoiled = calls_only aborts.closed t x.world w _ _ e allowed calls in
            let memory : e ≡ fs.NoMemory = only_memory {T = Unit} (view.state aborts.closed) (view.state t) e quiet spoiled in
            subst Succeeds (sym (is ∙ ap (λ z. done_as (Err z)) memory)) refl

    module _ (fields : Fields) (r : Result Outcome UploadError) (beside : IsBeside u.target.names u.hidden.names) (clear : IsClear v u.target.names u.hidden.names) (regular : IsRegular (rules s) (knowledge_of (memory s)) v)
        (open_at : is_forbidden (rules s) u.target ≡ false) (passes : PassesTable (rules s) v u.target fields) where
      ended : (e : UploadError) → r ≡ Err e → e ≡ NoMemory → Succeeds r
      ended e is memory = subst Succeeds (sym (is ∙ ap (λ z. Err z) memory)) refl

      moved : (m k : S) (x : Waits m) (answer : Result Unit FsError) (outcome : Outcome) → RefusedNothing (view.state m).faults (view.state k).faults → view.renames m c u.hidden u.target answer k
          → AfterMove view c answer outcome u.hidden k r t → Succeeds r
      moved m k x (Ok z) outcome quiet renames (same, is) = subst Succeeds (sym is) tt
      moved m k x (Err e) outcome quiet renames (tries, is) =
          let (w, now, unless_so) = told_after (view.state m).told (view.state k).told _ x.world ((follows s).renames m k u.hidden u.target (Err e) x.reached renames) x.here in
          let shut : (is_forbidden (rules s) u.hidden || is_forbidden (rules s) u.target) ≡ false =
          or_from (is_forbidden (rules s) u.hidden) (is_forbidden (rules s) u.target) (hidden_unforbidden (rules s) u.hidden stands_so.hides) open_at in
          let world = local.worlds m x.world x.here in
          let p : Passed (rules s) x.world u.target fields = passed (rules s) x.world u.target fields (passes_same (rules s) v x.world u.target fields x.same passes) in
          let (row, looks_so, kind) = dir_stands settings (ways s) plain x.world u.target p.parent in
          let long = named_long u.target.names beside.named in
          let there = placed_below x.world.tree u.target.names row long looks_so kind in
          let may = may_go x.world u.hidden.names u.target.names stands_so.row world (row_waits m x) stands_so.kind (hidden_some u.hidden.names stands_so.hides) long beside.beside
          (λ f. never (is_hidden_path u.target.names) (ap is_hidden_path (sym f) ∙ stands_so.hides) beside.shows) there
          (λ q at. no_dir_stands settings (ways s) plain x.world u.target q world p.slash open_at p.no_dir at) in
          let allowed : moving x.world.tree (resolved (rules s) x.world.tree u.hidden.names) (resolved (rules s) x.world.tree u.target.names) ≡ Ok (Some (moves stands_so.row.path u.target.names)) =
          ap (λ a. moving x.world.tree a (resolved (rules s) x.world.tree u.target.names)) (written_resolved settings (ways s) plain x.world.tree u.hidden.names)
          ∙ (ap (moving x.world.tree u.hidden.names) (written_resolved settings (ways s) plain x.world.tree u.target.names) ∙ may) in
          let calls = unless_so.called shut (apart m x) (found_at m x u.hidden.names clear.to_hidden) (found_at m x u.target.names clear.to_target) in
          let memory : e ≡ fs.NoMemory = only_memory {T = Unit} (view.state m) (view.state k) e quiet (calls_only m k x.world w _ _ e allowed (one_change m k x.world w _ _ _ (Err e) allowed calls)) in
          ended (refused_by e) is (ap refused_by memory)

      after_counts : (k : S) (answer : Result Unit FsError) (outcome : Outcome) → AfterMove view c answer outcome u.hidden k r t → (view.state k).faults ≤ (view.state t).faults
      after_counts k (Ok x) outcome (same, is) = omega (arith, ap (λ y. (view.state y).faults) same)
      after_counts k (Err e) outcome ((answer, removes, keeps), is) = keeps.counts

      judged_counts : (m : S) (may : Given) → AfterJudged view c may u.target u.hidden m r t → (view.state m).faults ≤ (view.state t).faults
      judged_counts m (Err e) ((answer, removes, keeps), is) = keeps.counts
      judged_counts m (Ok outcome) (answer, k, renames, keeps, after) = let a = keeps.counts in let b = after_counts k answer outcome after in omega (arith, a, b)

      judged_ends : (m : S) (x : Waits m) (may : Given) → (view.state s).faults ≤ (view.state m).faults → Judged may → AfterJudged view c may u.target u.hidden m r t → Succeeds r
      judged_ends m x (Err e) le lacks (tries, is) = ended (refusal_of e) is (judged_refusal e lacks)
      judged_ends m x (Ok outcome) le fine (answer, k, renames, keeps, after) =
          moved m k x answer outcome (within (view.state s).faults (view.state m).faults (view.state k).faults (view.state t).faults none le keeps.counts (after_counts k answer outcome after)) renames after

      pub commit_succeeds : u.broken ≡ false → Commits view c u fields s r t → Succeeds r
      commit_succeeds whole commits = by (subst (λ b. AfterClose view c b u.target u.hidden fields commits.closed r t) whole commits.ends)
        where
          by : AfterClose view c false u.target u.hidden fields commits.closed r t → Succeeds r
          by (may, m, judges, keeps, after) =
              let closed_counts = commits.closes.done.counts in
              let a = keeps.counts in
              let b = judged_counts m may after in
              let x = closed_waits commits.closed commits.closes in
              let (y, there, same) = told_after (view.state commits.closed).told (view.state m).told SameBesidesOpens x.world keeps.world x.here in
              let placed_so = local.lends s commits.closed commits.closes.lent.store in
              let regular_there : IsRegular (rules commits.closed) (knowledge_of (memory commits.closed)) x.world =
              subst (λ (q : Place). IsRegular (rules_with settings q.ways) (knowledge_of q.memory) x.world) (sym placed_so) (regular_same (rules s) (knowledge_of (memory s)) v x.world x.same.tree regular) in
              let ways_same : ways commits.closed ≡ ways s = ap (λ (q : Place). q.ways) placed_so in
              let passed_there : Passed (rules commits.closed) x.world u.target fields =
              subst (λ w. Passed (rules_with settings w) x.world u.target fields) (sym ways_same) (passed (rules s) x.world u.target fields (passes_same (rules s) v x.world u.target fields x.same passes)) in
              let quiet : RefusedNothing (view.state commits.closed).faults (view.state m).faults =
              within (view.state s).faults (view.state commits.closed).faults (view.state m).faults (view.state t).faults none (omega (arith, closed_counts)) a b in
              let judged = judged_well commits.closed x.world u.target fields may m x.here (ap finds_as_written ways_same ∙ plain) regular_there (ap (λ tree. is_linked tree u.target.names) x.same.tree ∙ clear.to_target) passed_there quiet judges in
              judged_ends m (record {
                world = y;
                here = there;
                same = same_besides_then v x.world y x.same same;
                reached = reached_then s commits.closed m x.reached (judged_reached commits.closed m u.target fields may judges);
              }) may (omega (arith, closed_counts, a)) judged after
