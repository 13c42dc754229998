-- What a tree says of a file with a hidden name: nothing lies below it, and a directory stands above.
use Rattle.std.proofs.Common.{◌≡◌, ◌≤◌, ◌<◌, ◌||◌, ◌-◌, ◌++◌, inl, inr, ℕ, List, [], ◌∷◌, length, drop, Bool, true, false, not, Option, None, Some, Ok, refl, sym, ap, subst, ◌∙◌, arith, append-nil, append_assoc, take-append-drop}
use Rattle.std.specs.List.{AllByRecursion}
use Rattle.std.proofs.lemmas.List.Elements.{recursion_from_All}
use Rattle.dav_core.specs.declared.tree.Row.{Row}
use Rattle.dav_core.specs.declared.tree.Kind.{Kind}
use Rattle.dav_core.specs.declared.tree.Kind.TheVariants.{Dir, File}
use Rattle.dav_core.specs.Allowed.{place, place_from}
use Rattle.dav_core.specs.Changes.{is_leaf}
use Rattle.dav_core.specs.Path.{Names, is_front, parent_of, same_names}
use Rattle.dav_core.specs.Tree.{look, row_at}
use Rattle.dav_core.specs.World.{IsGiven, IsWorld, World}
use Rattle.dav_core.proofs.Paths.{names_equal, parent_length}
use Rattle.dav_core.proofs.Elements.{In, all_in}
use Rattle.dav_core.proofs.Rows.{dir_kind, row_at_in}
use Rattle.dav_upload.specs.Names.{is_hidden_path}
use Rattle.dav_upload.specs.Shown.{AreBelow, IsHiddenIn, StandsBeside}
use Rattle.dav_upload.proofs.Moving.{never}
use Rattle.dav_walks.proofs.trees.TreeRows.{DirAt, Parts, above, at_row, front_equal, front_of, look_row, not_both, only_row, parts_of}
use Rattle.dav_core.proofs.PlaceLemmas.{row_passed}
use Rattle.dav_core.proofs.Paths.{parent_cons}

module _ (tree : List Row) (parts : Parts tree) where
  dir_there : (p : Names) → DirAt tree p → (r : Row) → row_at tree p ≡ Some r → r.kind ≡ Dir
  dir_there p d r at =
      let t = row_at_in tree p r at in
      let same : r ≡ d.row = only_row tree r d.row parts t.0 d.in_tree (t.1 ∙ sym d.at) in
      ap (λ (x : Row). x.kind) same ∙ dir_kind d.row.kind d.dir

  leaf_by : (p : Names) → ((r : Row) → row_at tree p ≡ Some r → r.kind ≡ Dir → ⊥) → (r : Row) → In r tree → (a b : Bool) → is_front p r.path ≡ a → same_names p r.path ≡ b
      → (not a || b) ≡ true
  leaf_by p no_dir r i false b e f = refl
  leaf_by p no_dir r i true true e f = refl
  leaf_by p no_dir r i true false e f =
      let d = above tree r p parts i e (λ g. not_both (same_names p r.path) (names_equal p r.path g) f) in
      absurd (no_dir d.row (ap (row_at tree) (sym d.at) ∙ at_row tree d.row parts.once d.in_tree) (dir_kind d.row.kind d.dir))

  -- nothing lies below what is no directory
  leaf_at : (p : Names) → ((r : Row) → row_at tree p ≡ Some r → r.kind ≡ Dir → ⊥) → is_leaf p tree ≡ true
  leaf_at p no_dir = all_in (λ row. not (is_front p row.path) || same_names p row.path) tree (λ r i. leaf_by p no_dir r i (is_front p r.path) (same_names p r.path) refl refl)

  front_up : (p : Names) → is_front (parent_of p) p ≡ true
  front_up p = front_of (parent_of p) p (drop (length p - 1) p) (sym (take-append-drop (length p - 1) p))

  -- a directory stands above a row
  dir_above : (p : Names) (r : Row) → row_at tree p ≡ Some r → 0 < length p → (q : Row) → row_at tree (parent_of p) ≡ Some q → q.kind ≡ Dir
  dir_above p r at some q there =
      let t = row_at_in tree p r at in
      let long = parent_length p in
      let d = above tree r (parent_of p) parts t.0 (subst (λ x. is_front (parent_of p) x ≡ true) (sym t.1) (front_up p))
      (λ e. (let same : length (parent_of p) ≡ length p = ap length (e ∙ t.1) in omega (arith, some, long, same))) in
      dir_there (parent_of p) d q there

parts_in : (w : World) → IsWorld w → Parts w.tree
parts_in w is = parts_of w.tree is.tree

file_no_dir : (k : Kind) → k ≡ File → k ≡ Dir → ⊥
file_no_dir k e f = let g : File ≡ Dir = sym e ∙ f in cc

some_row : (r s : Row) (o : Option Row) → o ≡ Some r → o ≡ Some s → s ≡ r
some_row r s o e f = let g : Some r ≡ Some s = sym e ∙ f in cc

no_row : {P : Type 0} (r : Row) (o : Option Row) → o ≡ None → o ≡ Some r → P
no_row r o e f = let g : None ≡ Some r = sym e ∙ f in cc

-- the root has no hidden name
pub hidden_some : (p : Names) → is_hidden_path p ≡ true → 0 < length p
hidden_some [] e = cc
hidden_some (x ∷ p) e = omega arith

-- a file with a hidden name
pub file_hidden : (w : World) (hidden : Names) (row : Row) → IsWorld w → is_hidden_path hidden ≡ true → row_at w.tree hidden ≡ Some row → row.kind ≡ File → IsHiddenIn w hidden
file_hidden w hidden row is hides at kind = record {
  hides = hides;
  alone = leaf_at w.tree (parts_in w is) hidden (λ r there dir. file_no_dir row.kind kind (ap (λ (x : Row). x.kind) (sym (some_row row r (row_at w.tree hidden) at there)) ∙ dir));
  above = dir_above w.tree (parts_in w is) hidden row at (hidden_some hidden hides);
}

-- nothing with a hidden name, in a directory
pub none_hidden : (w : World) (hidden : Names) → IsWorld w → is_hidden_path hidden ≡ true → row_at w.tree hidden ≡ None
    → ((r : Row) → row_at w.tree (parent_of hidden) ≡ Some r → r.kind ≡ Dir) → IsHiddenIn w hidden
none_hidden w hidden is hides none up = record {
  hides = hides;
  alone = leaf_at w.tree (parts_in w is) hidden (λ r there dir. no_row r (row_at w.tree hidden) none there);
  above = up;
}

-- a hidden file beside a target at which no directory stands
pub file_beside : (w : World) (hidden target : Names) (row : Row) → IsWorld w → is_hidden_path hidden ≡ true → is_hidden_path target ≡ false → parent_of hidden ≡ parent_of target → 0 < length target
    → row_at w.tree hidden ≡ Some row → row.kind ≡ File → ((r : Row) → row_at w.tree target ≡ Some r → r.kind ≡ Dir → ⊥) → StandsBeside w hidden target row
file_beside w hidden target row is hides shows beside some at kind no_dir =
    let stands = file_hidden w hidden row is hides at kind in record {
      at = at;
      file = kind;
      hides = hides;
      shows = shows;
      alone = stands.alone;
      over = leaf_at w.tree (parts_in w is) target no_dir;
      named = some;
      apart = by (is_front target hidden) refl;
      above_hidden = stands.above;
      above_target = subst (λ p. (r : Row) → row_at w.tree p ≡ Some r → r.kind ≡ Dir) beside stands.above;
    }
  where
    long : length hidden ≡ length target
    long = let a = parent_length hidden in let b = parent_length target in let c = ap length beside in let d = hidden_some hidden hides in omega (arith, a, b, c, d, some)

    by : (b : Bool) → is_front target hidden ≡ b → is_front target hidden ≡ false
    by false e = e
    by true e =
        let same : target ≡ hidden = front_equal target hidden e (omega (arith, long)) in
        never (is_hidden_path target) (ap is_hidden_path same ∙ hides) shows

numbers_by : (rows : List Row) (greatest : ℕ) → AllByRecursion (λ (r : Row). r.number ≤ greatest) rows → (p : Names) (r : Row) → In r rows → r.number ≤ greatest
numbers_by [] greatest all p r i = absurd i
numbers_by (x ∷ rows) greatest all p r i = elim i [ inl e ↦ subst (λ (y : Row). y.number ≤ greatest) (sym e) all.0 | inr j ↦ numbers_by rows greatest all.1 p r j ]

given_numbers : (w : World) (rows : List Row) → AllByRecursion (λ (r : Row). IsGiven w.greatest w.latest r.number r.time) rows → AllByRecursion (λ (r : Row). r.number ≤ w.greatest) rows
given_numbers w [] all = tt
given_numbers w (r ∷ rows) all = (all.0.within, given_numbers w rows all.1)

-- no number of a row is above the greatest
pub below_greatest : (w : World) → IsWorld w → AreBelow w
below_greatest w is p r at =
    numbers_by w.tree w.greatest (given_numbers w w.tree (recursion_from_All (λ (r : Row). IsGiven w.greatest w.latest r.number r.time) w.tree is.given.rows)) p r (row_at_in w.tree p r at).0

-- ---- a path on which nothing stands, and which can be made

place_above : (tree : List Row) (at names : Names) (o : Option Row) → 0 < length names → place_from tree at names ≡ Ok o → (r : Row) → row_at tree (at ++ parent_of names) ≡ Some r → r.kind ≡ Dir
place_above tree at [] o some e = absurd (omega (arith, some))
place_above tree at (name ∷ []) o some e = λ r there.
    (row_passed (row_at tree at) (place_from tree (at ++ name ∷ []) []) o e).0 r (ap (row_at tree) (sym (append-nil at)) ∙ there)
place_above tree at (name ∷ next ∷ names) o some e = λ r there.
    (let more : (at ++ name ∷ []) ++ parent_of (next ∷ names) ≡ at ++ parent_of (name ∷ next ∷ names) =
    append_assoc at (name ∷ []) (parent_of (next ∷ names)) ∙ ap (λ x. at ++ x) (sym (parent_cons name next names)) in
    place_above tree (at ++ name ∷ []) (next ∷ names) o (omega arith) (row_passed (row_at tree at) (place_from tree (at ++ name ∷ []) (next ∷ names)) o e).1 r (ap (row_at tree) more ∙ there))

pub placed_above : (tree : List Row) (path : Names) (o : Option Row) → 0 < length path → place tree path ≡ Ok o → (r : Row) → row_at tree (parent_of path) ≡ Some r → r.kind ≡ Dir
placed_above tree path o some e = place_above tree [] path o some e

-- a look finds a row
pub looked_at : (w : World) (path : Names) (row : Row) → IsWorld w → row_at w.tree path ≡ Some row → look w.tree path ≡ Ok row
looked_at w path row is at =
    let t = row_at_in w.tree path row at in
    ap (look w.tree) (sym t.1) ∙ look_row w.tree row (parts_in w is) t.0
