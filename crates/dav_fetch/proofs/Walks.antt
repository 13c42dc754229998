-- The walk over the pages of a tree: what it has found, and that in the end it has found all that is shown.
use Rattle.std.proofs.Common.{◌≡◌, ◌<◌, ◌+◌, inl, inr, ℕ, Bool, true, false, not, List, [], ◌∷◌, ◌++◌, length, Ok, refl, sym, ap, subst, ◌∙◌, append_assoc, append-nil, arith}
use Rattle.std.proofs.lemmas.Bool.{and_from, and_parts, not-true}
use Rattle.std.proofs.lemmas.List.{length-append}
use Rattle.std.proofs.lemmas.List.Folds.{list_all-append}
use Rattle.dav_core.specs.declared.tree.Kind.TheVariants.{Dir}
use Rattle.dav_core.specs.declared.tree.Row.{Row}
use Rattle.dav_core.specs.Path.{Names, parent_of}
use Rattle.dav_core.specs.Tree.{is_dir, look_from}
use Rattle.dav_core.specs.World.{World}
use Rattle.dav_core.proofs.Rows.{dir_kind, IsTree}
use Rattle.dav_core.proofs.Paths.{parent_pushed}
use Rattle.dav_core.proofs.Elements.{in_either}
use Rattle.dav_page.specs.Listed.{begins_with_dot}
use Rattle.dav_fetch.specs.declared.found.Found.{Found}
use Rattle.dav_fetch.specs.Copy.{IsOf}
use Rattle.dav_fetch.specs.Mirroring.{IsShownAt, is_shown}
use Rattle.dav_fetch.specs.Walk.{Way, dirs_on, each_once, files_on, start, with_all}
use Rattle.dav_fetch.proofs.Among.{Apart, IsNamed, apart_behind, apart_both, apart_once, of_dirs, of_files, of_once, to_dirs, to_files, to_once}
use Rattle.dav_fetch.proofs.Orders.{of_append}
use Rattle.dav_fetch.proofs.PageNames.{IsListing}
use Rattle.dav_fetch.proofs.TreeRows.{dir_here, next_found, root_stands, row_here, stands_below}

-- a directory that is shown, or the root
pub record IsDirAt (w : World) (path : Names) : Type 0 where
  pub row : Row
  pub at : IsShownAt w path row
  pub kind : row.kind ≡ Dir

-- what else is shown, below a directory
pub record IsOtherAt (w : World) (path : Names) : Type 0 where
  pub row : Row
  pub at : IsShownAt w path row
  pub kind : is_dir row.kind ≡ false
  pub named : 0 < length path

-- How far a walk is: the directories that were read, and what was found in them.
pub record Walked (w : World) (read : List Names) (way : Way) : Type 0 where
  pub parts : [] ∷ way.dirs ≡ read ++ way.due
  pub dirs : (path : Names) → IsOf path ([] ∷ way.dirs) → IsDirAt w path
  pub files : (path : Names) → IsOf path way.files → IsOtherAt w path
  pub named : (path : Names) → IsOf path way.dirs → 0 < length path
  pub parents : (path : Names) → IsOf path way.dirs → IsOf (parent_of path) read
  pub apart : Apart ([] ∷ way.dirs)
  pub all_dirs : (dir : Names) → IsOf dir read → (row : Row) (name : List ℕ) → IsOf row w.tree → row.path ≡ dir ++ name ∷ [] → begins_with_dot name ≡ false
      → is_dir row.kind ≡ true → IsOf (dir ++ name ∷ []) way.dirs
  pub all_files : (dir : Names) → IsOf dir read → (row : Row) (name : List ℕ) → IsOf row w.tree → row.path ≡ dir ++ name ∷ [] → begins_with_dot name ≡ false
      → is_dir row.kind ≡ false → IsOf (dir ++ name ∷ []) way.files

pub at_start : (w : World) → IsTree w.tree → Walked w [] start
at_start w is = record {
  parts = refl;
  dirs = root;
  files = λ path none. absurd none;
  named = λ path none. absurd none;
  parents = λ path none. absurd none;
  apart = ((λ none. none), tt);
  all_dirs = λ dir none. absurd none;
  all_files = λ dir none. absurd none;
}
  where
    root : (path : Names) → IsOf path ([] ∷ []) → IsDirAt w path
    root path (inl same) = let (d, there, kind) = root_stands w.tree is in
        subst (IsDirAt w) (sym same) (record { row = d; at = record { there = there; shown = refl }; kind = kind })
    root path (inr none) = absurd none

-- ---- one more page

longer : (dir : Names) (name : List ℕ) → 0 < length (dir ++ name ∷ [])
longer dir name = omega (arith, length-append dir (name ∷ []))

shown_below : (dir : Names) (name : List ℕ) → is_shown dir ≡ true → begins_with_dot name ≡ false → is_shown (dir ++ name ∷ []) ≡ true
shown_below dir name shown visible =
    list_all-append (λ n. not (begins_with_dot n)) dir (name ∷ []) ∙ and_from (is_shown dir) (is_shown (name ∷ [])) shown (and_from (not (begins_with_dot name)) true (ap not visible) refl)

-- what a page names stands there
found_at : (w : World) (dir : Names) (found : List Found) (d : Bool) (path : Names) → IsTree w.tree → IsDirAt w dir → IsListing w.tree dir found → IsNamed dir found d path
    → (row : Row) × IsShownAt w path row × (is_dir row.kind ≡ d) × (0 < length path)
found_at w dir found d path tree at listing named =
    let r = listing.from named.one named.of in (
      r.row,
      subst (λ p. IsShownAt w p r.row) (sym named.spells) (record {
        there = stands_below w.tree dir named.one.name at.row r.row tree at.at.there at.kind r.of r.path;
        shown = shown_below dir named.one.name at.at.shown r.visible;
      }),
      sym r.kind ∙ named.kind,
      subst (λ p. 0 < length p) (sym named.spells) (longer dir named.one.name),
    )

module _ (w : World) (tree : IsTree w.tree) (read : List Names) (way : Way) (walk : Walked w read way) (dir : Names) (rest : List Names) (due : way.due ≡ dir ∷ rest)
    (found : List Found) (listing : IsListing w.tree dir found) where
  new : List Names
  new = each_once (dirs_on dir found)

  here : IsDirAt w dir
  here = walk.dirs dir (subst (IsOf dir) (sym (walk.parts ∙ ap (λ z. read ++ z) due)) (of_append dir read (dir ∷ rest) (inr (inl refl))))

  new_at : (path : Names) → IsOf path new → IsDirAt w path × (0 < length path) × (parent_of path ≡ dir)
  unfolding new
  new_at path is =
      let named = of_dirs path dir found (of_once path (dirs_on dir found) is) in
      let (row, at, kind, long) = found_at w dir found true path tree here listing named in
      (record { row = row; at = at; kind = dir_kind row.kind kind }, long, ap parent_of named.spells ∙ parent_pushed dir named.one.name)

  step_parts : [] ∷ (way.dirs ++ new) ≡ (read ++ dir ∷ []) ++ (rest ++ new)
  step_parts =
      ap (λ z. z ++ new) (walk.parts ∙ ap (λ z. read ++ z) due) ∙ append_assoc read (dir ∷ rest) new ∙ sym (append_assoc read (dir ∷ []) (rest ++ new))

  step_dirs : (path : Names) → IsOf path ([] ∷ (way.dirs ++ new)) → IsDirAt w path
  step_dirs path is = elim (in_either path ([] ∷ way.dirs) new is) [ inl old ↦ walk.dirs path old | inr fresh ↦ (new_at path fresh).0 ]

  step_files : (path : Names) → IsOf path (way.files ++ files_on dir found) → IsOtherAt w path
  step_files path is = elim (in_either path way.files (files_on dir found) is) [
    | inl old ↦ walk.files path old
    | inr fresh ↦ let (row, at, kind, long) = found_at w dir found false path tree here listing (of_files path dir found fresh) in
        record { row = row; at = at; kind = kind; named = long }
  ]

  step_named : (path : Names) → IsOf path (way.dirs ++ new) → 0 < length path
  step_named path is = elim (in_either path way.dirs new is) [ inl old ↦ walk.named path old | inr fresh ↦ (new_at path fresh).1 ]

  step_parents : (path : Names) → IsOf path (way.dirs ++ new) → IsOf (parent_of path) (read ++ dir ∷ [])
  step_parents path is = elim (in_either path way.dirs new is) [
    | inl old ↦ of_append (parent_of path) read (dir ∷ []) (inl (walk.parents path old))
    | inr fresh ↦ of_append (parent_of path) read (dir ∷ []) (inr (inl (new_at path fresh).2))
  ]

  unread : IsOf dir read → ⊥
  unread is = apart_behind read rest dir (subst Apart (walk.parts ∙ ap (λ z. read ++ z) due) walk.apart) is

  never_before : (path : Names) → IsOf path ([] ∷ way.dirs) → IsOf path new → ⊥
  never_before path (inl root) fresh = none path root (new_at path fresh).1
    where
      none : (path : Names) → path ≡ [] → 0 < length path → ⊥
      none path e h = let zero_long : length path ≡ 0 = ap length e in omega (arith, zero_long, h)
  never_before path (inr old) fresh = unread (subst (λ p. IsOf p read) (new_at path fresh).2 (walk.parents path old))

  step_apart : Apart ([] ∷ (way.dirs ++ new))
  unfolding new
  step_apart = apart_both ([] ∷ way.dirs) new walk.apart (apart_once (dirs_on dir found)) never_before

  step_all_dirs : (d : Names) → IsOf d (read ++ dir ∷ []) → (row : Row) (name : List ℕ) → IsOf row w.tree → row.path ≡ d ++ name ∷ [] → begins_with_dot name ≡ false
      → is_dir row.kind ≡ true → IsOf (d ++ name ∷ []) (way.dirs ++ new)
  unfolding new
  step_all_dirs d is row name of path visible kind = elim (in_either d read (dir ∷ []) is) [
    | inl old ↦ of_append (d ++ name ∷ []) way.dirs new (inl (walk.all_dirs d old row name of path visible kind))
    | inr last ↦ fresh last
  ]
    where
      fresh : IsOf d (dir ∷ []) → IsOf (d ++ name ∷ []) (way.dirs ++ new)
      fresh (inl same) =
          let (f, among, named, is_kind) = listing.all row name of (path ∙ ap (λ p. p ++ name ∷ []) same) visible in
          of_append (d ++ name ∷ []) way.dirs new
          (inr (to_once (d ++ name ∷ []) (dirs_on dir found) (subst (λ p. IsOf p (dirs_on dir found)) (ap (λ n. dir ++ n ∷ []) named ∙ ap (λ p. p ++ name ∷ []) (sym same)) (to_dirs dir f found among (is_kind ∙ kind)))))
      fresh (inr none) = absurd none

  step_all_files : (d : Names) → IsOf d (read ++ dir ∷ []) → (row : Row) (name : List ℕ) → IsOf row w.tree → row.path ≡ d ++ name ∷ [] → begins_with_dot name ≡ false
      → is_dir row.kind ≡ false → IsOf (d ++ name ∷ []) (way.files ++ files_on dir found)
  step_all_files d is row name of path visible kind = elim (in_either d read (dir ∷ []) is) [
    | inl old ↦ of_append (d ++ name ∷ []) way.files (files_on dir found) (inl (walk.all_files d old row name of path visible kind))
    | inr last ↦ fresh last
  ]
    where
      fresh : IsOf d (dir ∷ []) → IsOf (d ++ name ∷ []) (way.files ++ files_on dir found)
      fresh (inl same) =
          let (f, among, named, is_kind) = listing.all row name of (path ∙ ap (λ p. p ++ name ∷ []) same) visible in
          of_append (d ++ name ∷ []) way.files (files_on dir found)
          (inr (subst (λ p. IsOf p (files_on dir found)) (ap (λ n. dir ++ n ∷ []) named ∙ ap (λ p. p ++ name ∷ []) (sym same)) (to_files dir f found among (is_kind ∙ kind))))
      fresh (inr none) = absurd none

  -- The page that is due was read.
  pub one_more : Walked w (read ++ dir ∷ []) (with_all dir found (record way { due = rest }))
  unfolding new
  one_more = record {
    parts = step_parts;
    dirs = step_dirs;
    files = step_files;
    named = step_named;
    parents = step_parents;
    apart = step_apart;
    all_dirs = step_all_dirs;
    all_files = step_all_files;
  }

-- ---- in the end

none_due : (w : World) (read : List Names) (way : Way) → Walked w read way → way.due ≡ [] → read ≡ [] ∷ way.dirs
none_due w read way walk none = sym (walk.parts ∙ ap (λ z. read ++ z) none ∙ append-nil read)

-- whatever is shown was found
record WasFound (way : Way) (row : Row) (path : Names) : Type 0 where
  pub dir : is_dir row.kind ≡ true → IsOf path way.dirs
  pub file : is_dir row.kind ≡ false → IsOf path way.files

on_from : (w : World) (read : List Names) (way : Way) → Walked w read way → read ≡ [] ∷ way.dirs → (at : Names) (name : List ℕ) (names : Names) (row : Row) → IsOf at read
    → look_from w.tree at (name ∷ names) ≡ Ok row → is_shown (name ∷ names) ≡ true → WasFound way row (at ++ name ∷ names)
on_from w read way walk all at name [] row is looked shown =
    let (of, path) = row_here w.tree (at ++ name ∷ []) row (next_found w.tree at name [] row looked) in
    let visible = not-true (begins_with_dot name) (and_parts (not (begins_with_dot name)) true shown).0 in
    record { dir = λ kind. walk.all_dirs at is row name of path visible kind; file = λ kind. walk.all_files at is row name of path visible kind }
on_from w read way walk all at name (next ∷ names) row is looked shown =
    let both = and_parts (not (begins_with_dot name)) (is_shown (next ∷ names)) shown in
    let further = next_found w.tree at name (next ∷ names) row looked in
    let (d, of, path, kind) = dir_here w.tree (at ++ name ∷ []) next names row further in
    let there = walk.all_dirs at is d name of path (not-true (begins_with_dot name) both.0) (ap is_dir kind) in
    subst (WasFound way row) (append_assoc at (name ∷ []) (next ∷ names))
    (on_from w read way walk all (at ++ name ∷ []) next names row (subst (IsOf (at ++ name ∷ [])) (sym all) (inr there)) further both.1)

all_found : (w : World) (read : List Names) (way : Way) (path : Names) (row : Row) → Walked w read way → way.due ≡ [] → 0 < length path → IsShownAt w path row → WasFound way row path
all_found w read way [] row walk none some at = absurd (omega (arith, some))
all_found w read way (name ∷ names) row walk none some at =
    let all = none_due w read way walk none in
    on_from w read way walk all [] name names row (subst (IsOf []) (sym all) (inl refl)) at.there at.shown

pub dir_found : (w : World) (read : List Names) (way : Way) (path : Names) (row : Row) → Walked w read way → way.due ≡ [] → 0 < length path → IsShownAt w path row → is_dir row.kind ≡ true → IsOf path way.dirs
dir_found w read way path row walk none some at kind = (all_found w read way path row walk none some at).dir kind

pub file_found : (w : World) (read : List Names) (way : Way) (path : Names) (row : Row) → Walked w read way → way.due ≡ [] → 0 < length path → IsShownAt w path row → is_dir row.kind ≡ false → IsOf path way.files
file_found w read way path row walk none some at kind = (all_found w read way path row walk none some at).file kind

-- as many were read as were found, and the root
pub read_long : (w : World) (read : List Names) (way : Way) → Walked w read way → length read + length way.due ≡ length way.dirs + 1
read_long w read way walk = let long : length ([] ∷ way.dirs) ≡ length (read ++ way.due) = ap length walk.parts in omega (arith, long, length-append read way.due)
