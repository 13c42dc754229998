-- The acts of a copy, row by row, and its work as it is asked for beside the same work at its places.
use Rattle.std.proofs.Common.{◌≡◌, ◌<◌, ◌&&◌, ◌||◌, ◌++◌, ℕ, List, [], ◌∷◌, length, drop, map, Bool, true, false, not, cond, Option, None, Some, refl, sym, ap, subst, ◌∙◌, inr, append_assoc}
use Rattle.std.proofs.Math.Seq.{drop-append_seam}
use Rattle.dav_core.specs.declared.tree.Kind.{Kind}
use Rattle.dav_core.specs.declared.tree.Row.{Row}
use Rattle.dav_core.specs.DavPath.{WebPath}
use Rattle.dav_core.specs.Edits.{makes}
use Rattle.dav_core.specs.Listing.{name_of}
use Rattle.dav_core.specs.Path.{Names, is_front, parent_of}
use Rattle.dav_core.specs.Tree.{is_dir, row_at}
use Rattle.dav_core.specs.World.{World, bytes_of}
use Rattle.dav_core.proofs.Elements.{In}
use Rattle.dav_model.specs.CarryPlans.{bytes_in, copy_act, path_below, slash_below}
use Rattle.dav_model.specs.Plans.{Act, does, halts, line}
use Rattle.dav_model.specs.Rules.{Rules}
use Rattle.dav_walks.specs.declared.transfer.Transfer.{Transfer}
use Rattle.dav_walks.specs.Copying.{transfer_of, transfers_in}
use Rattle.dav_walks.specs.Follows.{child_of}
use Rattle.dav_walks.specs.Reading.{child_named}
use Rattle.dav_walks.proofs.calls.ActsJoined.{FillsNone}
use Rattle.dav_walks.proofs.trees.OthersStay.{front_up}
use Rattle.dav_walks.proofs.copies.CopyPlaces.{Base}
use Rattle.dav_walks.proofs.copies.CopyCovers.{CoversAll, dir_walk, file_walk, walk_of, walks_of}
use Rattle.dav_walks.proofs.copies.WhileCopied.{Coming, shorter}
use Rattle.dav_walks.proofs.removals.RemovalsAllowed.{StandsAs}
use Rattle.dav_walks.proofs.trees.TreeRows.{Parts, above, not_both, only_row}
use Rattle.dav_walks.proofs.removals.RemovalOrder.{in_paths}
use Rattle.dav_walks.proofs.removals.WorkCovers.{members}

-- ---- acts

-- the act for a row that stands
abbrev pub act_for : (rules : Rules) (source into : WebPath) → Base rules source into → Option Row → Act
act_for rules source into b None = halts (line 403)
act_for rules source into b (Some row) = copy_act rules b.v source into b.from b.to row

abbrev pub acts_at : (rules : Rules) (source into : WebPath) → Base rules source into → List Names → List Act
acts_at rules source into b left = map (λ p. act_for rules source into b (row_at b.v.tree p)) left

-- what decides on a row: a directory's depth, and names that clients of macOS may not use
abbrev pub Judged : Bool → Bool → Bool → Bool → Act → Act → Act
Judged dir deep shut_to shut_from stop go = cond ((dir && deep) || (shut_to || (not dir && shut_from))) stop go

pub dir_go : (dir deep to from : Bool) (stop go : Act) → dir ≡ true → deep ≡ false → to ≡ false → Judged dir deep to from stop go ≡ go
dir_go false deep to from stop go e f g = cc
dir_go true true to from stop go e f g = cc
dir_go true false true from stop go e f g = cc
dir_go true false false from stop go e f g = refl

pub dir_deep : (dir deep to from : Bool) (stop go : Act) → dir ≡ true → deep ≡ true → Judged dir deep to from stop go ≡ stop
dir_deep false deep to from stop go e f = cc
dir_deep true false to from stop go e f = cc
dir_deep true true to from stop go e f = refl

pub any_shut : (dir deep to from : Bool) (stop go : Act) → to ≡ true → Judged dir deep to from stop go ≡ stop
any_shut dir deep false from stop go e = cc
any_shut dir deep true from stop go e = by (dir && deep)
  where
    by : (b : Bool) → cond (b || true) stop go ≡ stop
    by true = refl
    by false = refl

pub file_go : (dir deep to from : Bool) (stop go : Act) → dir ≡ false → (from || to) ≡ false → Judged dir deep to from stop go ≡ go
file_go true deep to from stop go e f = cc
file_go false deep to true stop go e f = cc
file_go false deep true false stop go e f = cc
file_go false deep false false stop go e f = refl

pub file_shut : (dir deep to from : Bool) (stop go : Act) → dir ≡ false → (from || to) ≡ true → Judged dir deep to from stop go ≡ stop
file_shut true deep to from stop go e f = cc
file_shut false deep true from stop go e f = refl
file_shut false deep false true stop go e f = refl
file_shut false deep false false stop go e f = cc

-- Of no file the bytes are others.
pub row_none : (b : Bool) (path : Names) (kind : Kind) (bytes : List ℕ) (acts : List Act) → FillsNone acts → FillsNone (cond b (halts (line 403)) (does (makes path kind bytes)) ∷ acts)
row_none true path kind bytes acts none = none
row_none false path kind bytes acts none = none

pub first_none : (rules : Rules) (source into : WebPath) (b : Base rules source into) (o : Option Row) (acts : List Act) → FillsNone acts → FillsNone (act_for rules source into b o ∷ acts)
first_none rules source into b None acts none = none
first_none rules source into b (Some row) acts none = row_none _ _ _ _ acts none

pub copies_none : (rules : Rules) (source into : WebPath) (b : Base rules source into) (left : List Names) → FillsNone (acts_at rules source into b left)
copies_none rules source into b [] = tt
copies_none rules source into b (p ∷ left) = first_none rules source into b (row_at b.v.tree p) (acts_at rules source into b left) (copies_none rules source into b left)

pub file_bytes : (w : World) (row : Row) → is_dir row.kind ≡ false → bytes_in w row ≡ bytes_of w row.number
file_bytes w row e = ap (λ b. cond b [] (bytes_of w row.number)) e

pub dir_bytes : (w : World) (row : Row) → is_dir row.kind ≡ true → bytes_in w row ≡ []
dir_bytes w row e = ap (λ b. cond b [] (bytes_of w row.number)) e

-- ---- the first of the work

pub first_alone : (v : World) (x : Transfer) (works : List Transfer) (left : List Names) → CoversAll true v.tree (x ∷ works) left
    → (more : List Names) × (left ≡ x.from.names ∷ more) × CoversAll true v.tree works more
first_alone v x works left (more, cut, covers) = (more, cut, covers)

-- a file
pub first_file : (bare : Bool) (v : World) (x : Transfer) (works : List Transfer) (left : List Names) → Parts v.tree → StandsAs v.tree x.from.names false → CoversAll bare v.tree (x ∷ works) left
    → (more : List Names) × (left ≡ x.from.names ∷ more) × CoversAll bare v.tree works more
first_file true v x works left parts s (more, cut, covers) = (more, cut, covers)
first_file false v x works left parts s (more, cut, covers) = (more, cut ∙ ap (λ z. z ++ more) (file_walk v.tree x.from.names parts s), covers)

-- a directory with its members
pub first_dir : (v : World) (x : Transfer) (works : List Transfer) (left : List Names) → Parts v.tree → StandsAs v.tree x.from.names true → CoversAll false v.tree (x ∷ works) left
    → (more : List Names) × (left ≡ x.from.names ∷ (walks_of v.tree (members x.from.names v.tree) ++ more)) × CoversAll false v.tree works more
first_dir v x works left parts s (more, cut, covers) =
    let walk : walk_of v.tree x.from.names ≡ x.from.names ∷ walks_of v.tree (members x.from.names v.tree) =
    subst (λ p. walk_of v.tree p ≡ p ∷ walks_of v.tree (members p v.tree)) s.at (dir_walk v.tree s.row parts s.in_tree) in
    (more, cut ∙ ap (λ z. z ++ more) walk, covers)

-- in each case
pub first_any : (bare : Bool) (v : World) (x : Transfer) (works : List Transfer) (left : List Names) (dir : Bool) → Parts v.tree → StandsAs v.tree x.from.names dir → CoversAll bare v.tree (x ∷ works) left
    → (tail : List Names) × (left ≡ x.from.names ∷ tail)
first_any true v x works left dir parts s covers = let f = first_alone v x works left covers in (f.0, f.1)
first_any false v x works left true parts s covers = let f = first_dir v x works left parts s covers in (walks_of v.tree (members x.from.names v.tree) ++ f.0, f.1)
first_any false v x works left false parts s covers = let f = first_file false v x works left parts s covers in (f.0, f.1)

-- what lies below a file's place isn't to come
pub file_rest : (from to : Names) (v u : World) (p : Names) (left : List Names) → 0 < length from → Parts v.tree → StandsAs v.tree p false → Coming from to v u (p ∷ left)
    → (q : Names) → In q left → parent_of q ≡ p → ⊥
file_rest from to v u p left some parts s c q i e =
    let (r, j, at) = in_paths q v.tree (c.come q (inr i)).0 in
    let front : is_front p q ≡ true = subst (λ z. is_front z q ≡ true) e (front_up q) in
    let d = above v.tree r p parts j (subst (λ z. is_front p z ≡ true) (sym at) front)
    (λ f. shorter from q some (c.come q (inr i)).1 (e ∙ (f ∙ at))) in
    let one : d.row ≡ s.row = only_row v.tree d.row s.row parts d.in_tree s.in_tree (d.at ∙ sym s.at) in
    not_both (is_dir d.row.kind) d.dir (ap (λ (y : Row). is_dir y.kind) one ∙ s.kind)

-- ---- what is asked for, and where it stands

abbrev pub slash_at : WebPath → Names → Bool → Bool
slash_at path [] dir = path.slash
slash_at path (name ∷ rest) dir = dir

-- a path that is asked for so far below another
abbrev pub asks_at : WebPath → Names → Bool → WebPath
asks_at path rest dir = record path { names = path.names ++ rest; slash = slash_at path rest dir }

pub slash_child : (path : WebPath) (rest : Names) (name : List ℕ) (dir : Bool) → slash_at path (rest ++ name ∷ []) dir ≡ dir
slash_child path [] name dir = refl
slash_child path (other ∷ rest) name dir = refl

pub slash_row : (path : WebPath) (rest : Names) (row : Row) → slash_below path rest row ≡ slash_at path rest (is_dir row.kind)
slash_row path [] row = refl
slash_row path (name ∷ rest) row = refl

pub below_is : (path : WebPath) (at rest : Names) (row : Row) → row.path ≡ at ++ rest → path_below path at row ≡ asks_at path rest (is_dir row.kind)
below_is path at rest row e =
    let d : drop (length at) row.path ≡ rest = ap (drop (length at)) e ∙ drop-append_seam at rest in
    ap (λ (z : Names). (let q : WebPath = record path { names = path.names ++ z; slash = slash_below path z row } in q)) d
    ∙ ap (λ (b : Bool). (let q : WebPath = record path { names = path.names ++ rest; slash = b } in q)) (slash_row path rest row)

pub child_asks : (path x : WebPath) (rest : Names) (dir : Bool) (name : List ℕ) (d : Bool) → x ≡ asks_at path rest dir → (child_named x name d).path ≡ asks_at path (rest ++ name ∷ []) d
child_asks path x rest dir name d e =
    ap (λ (z : WebPath). (child_named z name d).path) e
    ∙ (ap (λ (z : Names). (let q : WebPath = record path { names = z; slash = d } in q)) (append_assoc path.names rest (name ∷ []))
    ∙ ap (λ (b : Bool). (let q : WebPath = record path { names = path.names ++ (rest ++ name ∷ []); slash = b } in q)) (sym (slash_child path rest name d)))

pub child_at : (x y : WebPath) (at rest : Names) (name : List ℕ) (d : Bool) → y ≡ record x { names = at ++ rest } → (child_named y name d).path ≡ record (child_named x name d).path { names = at ++ (rest ++ name ∷ []) }
child_at x y at rest name d e =
    ap (λ (z : WebPath). (child_named z name d).path) e
    ∙ ap (λ (z : Names). (let q : WebPath = record x { names = z; slash = d } in q)) (append_assoc at rest (name ∷ []))

module _ (rules : Rules) (source into : WebPath) where
  -- a piece of work as it is asked for, and the same piece at its places
  pub record Shadow (b : Base rules source into) (x y : Transfer) : Type 0 where
    pub rest : Names
    pub asks_from : x.from ≡ asks_at source rest x.dir
    pub asks_to : x.to ≡ asks_at into rest x.dir
    pub at_from : y.from ≡ record x.from { names = b.from ++ rest }
    pub at_to : y.to ≡ record x.to { names = b.to ++ rest }
    pub dir : y.dir ≡ x.dir

  abbrev pub Shadows : Base rules source into → List Transfer → List Transfer → Type 0
  Shadows b [] [] = Unit {0}
  Shadows b [] (y ∷ others) = ⊥
  Shadows b (x ∷ works) [] = ⊥
  Shadows b (x ∷ works) (y ∷ others) = Shadow b x y × Shadows b works others

  pub child_shadow : (b : Base rules source into) (x y : Transfer) (row : Row) → Shadow b x y → Shadow b (transfer_of x.to (child_of x.from row)) (transfer_of y.to (child_of y.from row))
  child_shadow b x y row s = record {
    rest = s.rest ++ name_of row ∷ [];
    asks_from = child_asks source x.from s.rest x.dir (name_of row) (is_dir row.kind) s.asks_from;
    asks_to = child_asks into x.to s.rest x.dir (name_of row) (is_dir row.kind) s.asks_to;
    at_from = child_at x.from y.from b.from s.rest (name_of row) (is_dir row.kind) s.at_from;
    at_to = child_at x.to y.to b.to s.rest (name_of row) (is_dir row.kind) s.at_to;
    dir = refl;
  }

  pub children_shadow : (b : Base rules source into) (x y : Transfer) (rows : List Row) (works others : List Transfer) → Shadow b x y → Shadows b works others
      → Shadows b (transfers_in x.to (map (child_of x.from) rows) works) (transfers_in y.to (map (child_of y.from) rows) others)
  children_shadow b x y [] works others s rest = rest
  children_shadow b x y (row ∷ rows) works others s rest = (child_shadow b x y row s, children_shadow b x y rows works others s rest)
