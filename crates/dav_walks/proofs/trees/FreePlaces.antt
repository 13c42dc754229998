-- Where nothing stands at a path, and a directory above it, something may be made or moved there.
-- Headlines: `making_free`, `copying_free` and `moving_free`.
use Rattle.std.proofs.Common.{◌≡◌, ◌<◌, ◌++◌, List, [], ◌∷◌, ℕ, length, true, false, Option, None, Some, Result, Ok, refl, sym, ap, subst, ◌∙◌, append_assoc, append-nil}
use Rattle.std.proofs.lemmas.Bool.{false_from_ne_true}
use Rattle.dav_core.specs.declared.handle.DiskError.{DiskError}
use Rattle.dav_core.specs.declared.tree.Kind.TheVariants.{Dir, File}
use Rattle.dav_core.specs.declared.tree.Row.{Row}
use Rattle.dav_core.specs.Allowed.{copying, copying_to, found_then, making_at, making_dir, moving, moving_to, place, place_from, through, through_kind}
use Rattle.dav_core.specs.Edits.{makes, moves}
use Rattle.dav_core.specs.Path.{Names, is_front, parent_of, same_names}
use Rattle.dav_core.specs.Tree.{is_dir, row_at}
use Rattle.dav_core.specs.World.{World, bytes_of}
use Rattle.dav_core.proofs.Paths.{front_itself, names_same, not_root, parent_and_last}
use Rattle.dav_core.proofs.Rows.{dir_kind, row_at_in}
use Rattle.dav_core.proofs.Elements.{In}
use Rattle.dav_walks.proofs.trees.OthersStay.{Apart}
use Rattle.dav_walks.proofs.trees.TreeRows.{DirAt, Parts, above, at_row, front_of, look_row, longer, not_both}

-- nothing stands at a path or below it
abbrev pub Free : Names → List Row → Type 0
Free to rows = (r : Row) → In r rows → is_front to r.path ≡ false

through_dir : (o : Option Row) (d : Row) (found : Result (Option Row) DiskError) → o ≡ Some d → is_dir d.kind ≡ true → through o found ≡ found
through_dir o d found e dir = ap (λ x. through x found) e ∙ ap (λ k. through_kind k found) (dir_kind d.kind dir)

places : (rows : List Row) (d : Row) (at names : Names) (last : List ℕ) → Parts rows → In d rows → is_dir d.kind ≡ true → d.path ≡ at ++ names
    → place_from rows at (names ++ last ∷ []) ≡ Ok (row_at rows (at ++ (names ++ last ∷ [])))
places rows d at [] last parts i dir e =
    let here : row_at rows at ≡ Some d = ap (row_at rows) (sym (e ∙ append-nil at)) ∙ at_row rows d parts.once i in
    through_dir (row_at rows at) d (place_from rows (at ++ last ∷ []) []) here dir
places rows d at (name ∷ names) last parts i dir e =
    let a = above rows d at parts i (front_of at d.path (name ∷ names) e) (λ f. longer at names name (f ∙ e)) in
    let here : row_at rows at ≡ Some a.row = ap (row_at rows) (sym a.at) ∙ at_row rows a.row parts.once a.in_tree in
    through_dir (row_at rows at) a.row (place_from rows (at ++ name ∷ []) (names ++ last ∷ [])) here a.dir
    ∙ (places rows d (at ++ name ∷ []) names last parts i dir (e ∙ sym (append_assoc at (name ∷ []) names))
    ∙ ap (λ p. Ok (row_at rows p)) (append_assoc at (name ∷ []) (names ++ last ∷ [])))

pub none_at : (rows : List Row) (p : Names) → ((r : Row) → In r rows → r.path ≡ p → ⊥) → row_at rows p ≡ None
none_at rows p none = by (row_at rows p) refl
  where
    by : (o : Option Row) → row_at rows p ≡ o → o ≡ None
    by None e = refl
    by (Some r) e = let (i, at) = row_at_in rows p r e in absurd (none r i at)

-- below a directory what is found is the row
pub row_place : (rows : List Row) (to : Names) → Parts rows → 0 < length to → DirAt rows (parent_of to) → place rows to ≡ Ok (row_at rows to)
row_place rows to parts some d =
    let (last, is) = parent_and_last to some in
    ap (place_from rows []) is ∙ (places rows d.row [] (parent_of to) last parts d.in_tree d.dir d.at ∙ ap (λ p. Ok (row_at rows p)) (sym is))

pub free_place : (rows : List Row) (to : Names) → Parts rows → 0 < length to → DirAt rows (parent_of to) → ((r : Row) → In r rows → r.path ≡ to → ⊥) → place rows to ≡ Ok None
free_place rows to parts some d none = row_place rows to parts some d ∙ ap Ok (none_at rows to none)

pub none_of_free : (to : Names) (rows : List Row) → Free to rows → (r : Row) → In r rows → r.path ≡ to → ⊥
none_of_free to rows free r i at = not_both (is_front to r.path) (subst (λ p. is_front to p ≡ true) (sym at) (front_itself to)) (free r i)

-- What stands beside may be moved there.
pub moving_free : (rows : List Row) (o : Row) (to : Names) → Parts rows → In o rows → 0 < length o.path → 0 < length to → Apart o.path to → DirAt rows (parent_of to) → Free to rows
    → moving rows o.path to ≡ Ok (Some (moves o.path to))
moving_free rows o to parts i some long apart d free =
    ap (found_then (λ row. moving_to rows row to (place rows to))) (look_row rows o parts i)
    ∙ (ap (moving_to rows o to) (free_place rows to parts long d (none_of_free to rows free)) ∙ judged)
  where
    other : same_names o.path to ≡ false
    other = false_from_ne_true (same_names o.path to) (λ e. not_both (is_front o.path to) (subst (λ p. is_front o.path p ≡ true) (names_same o.path to e) (front_itself o.path)) apart.one)

    judged : moving_to rows o to (Ok None) ≡ Ok (Some (moves o.path to))
    judged = rw (not_root o.path some, not_root to long, other, apart.one) refl

-- A directory may be made there.
pub making_free : (rows : List Row) (to : Names) → Parts rows → 0 < length to → DirAt rows (parent_of to) → ((r : Row) → In r rows → r.path ≡ to → ⊥)
    → making_dir rows to ≡ Ok (Some (makes to Dir []))
making_free rows to parts some d none = ap (λ found. making_at found to) (free_place rows to parts some d none)

-- A file may be copied there.
pub copying_free : (w : World) (o : Row) (to : Names) → Parts w.tree → In o w.tree → is_dir o.kind ≡ false → 0 < length to → DirAt w.tree (parent_of to)
    → ((r : Row) → In r w.tree → r.path ≡ to → ⊥) → copying w o.path to ≡ Ok (Some (makes to File (bytes_of w o.number)))
copying_free w o to parts i file some d none =
    ap (found_then (λ row. copying_to w row to (place w.tree to))) (look_row w.tree o parts i)
    ∙ (ap (copying_to w o to) (free_place w.tree to parts some d none) ∙ judged)
  where
    judged : copying_to w o to (Ok None) ≡ Ok (Some (makes to File (bytes_of w o.number)))
    judged = rw file refl
