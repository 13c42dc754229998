-- What a walk from the root keeps.
use Rattle.std.proofs.Common.{◌≡◌, ◌≢◌, ◌&&◌, inl, inr, ℕ, zero, suc, Bool, true, false, List, [], ◌∷◌, ◌++◌, take, length, Option, None, Some, Result, Ok, Err, IfOk, OnErr, refl, sym, ap, subst, ◌∙◌, append_assoc, append-nil, arith}
use Rattle.std.proofs.lemmas.Bool.{and_parts}
use Rattle.std.proofs.lemmas.List.{map-append}
use Rattle.dav_core.specs.declared.error.FsError.{FsError}
use Rattle.dav_core.specs.declared.tree.Kind.{Kind}
use Rattle.dav_core.specs.declared.tree.Kind.TheVariants.{Dir, File, Link}
use Rattle.dav_core.specs.declared.tree.Row.{Row}
use Rattle.dav_core.specs.Path.{Names, all_plain, is_front, is_plain}
use Rattle.dav_core.specs.Tree.{is_dir, is_dir_row, is_link, is_linked, is_tree, look, row_at, standing}
use Rattle.dav_core.specs.World.{World}
use Rattle.dav_core.proofs.Plain.{names_same}
use Rattle.dav_core.proofs.Rows.{IsTree, dir_row, tree_parts}
use Rattle.dav_model.specs.Finding.{IsLoose, IsOf, is_alike}
use Rattle.dav_model.specs.Folds.{Name, fold_name, fold_path}
use Rattle.dav_model.proofs.PlainWalks.{linked_below}
use Rattle.dav_local.specs.Places.{Place}
use Rattle.dav_local.specs.Remembering.{HasFirst, IsFoundIn, StandsElsewhere}
use Rattle.dav_local.specs.Walking.{BringsAbove, Comes, EndsAt, IsAlikeIn, IsClearAt, KeepsPlace, Remembers, RemembersIn, StandsAt, StepsOn, StepsTo, Walks}
use Rattle.dav_local.proofs.Above.{dir_below, dir_same, first_next, folds_apart, next_alike, no_root}
use Rattle.dav_local.proofs.Memories.{alike_folds, error_of, first_alike, place_same, place_then, rows_same, rows_then, same_tree, spoiled_after, stands_still}
use Rattle.dav_local.proofs.Rows.{alike_splits, behind_link, clear_above, found_of, link_at, none_of, not_both, nothing_below, stands_below, unlinked_above}

-- ---- the root

no_front : (p : Names) (n : ℕ) → p ≡ take n [] → p ≡ []
no_front p zero e = e
no_front p (suc n) e = e

no_both : (k : Kind) → is_dir k ≡ true → is_link k ≡ true → ⊥
no_both Dir e f = cc
no_both File e f = cc
no_both Link e f = cc

link_apart : (d l : Row) → is_dir d.kind ≡ true → is_link l.kind ≡ true → ◌≡◌ {A = Option Row} (Some l) (Some d) → ⊥
link_apart d l dir link e = let same : l ≡ d = cc in no_both d.kind dir (ap (λ (r : Row). is_link r.kind) (sym same) ∙ link)

pub root_clear : (tree : List Row) → IsTree tree → IsClearAt tree []
root_clear tree is =
    let (d, there, dir) = dir_row (row_at tree []) is.root in
    record {
      row = d;
      stands = ap standing there;
      clear = none_of (λ row. is_link row.kind && is_front row.path []) tree (λ l o both.
          let (link, front) = and_parts (is_link l.kind) (is_front l.path []) both in
          let path : l.path ≡ [] = no_front l.path (length l.path) (names_same l.path (take (length l.path) []) front) in
          link_apart d l (ap is_dir_row (sym there) ∙ is.root) link (sym (subst (λ p. row_at tree p ≡ Some l) path (found_of tree l is.apart o)) ∙ there));
    }

-- ---- one name further

pub comes_on : (tree : List Row) (names at : Names) (name : Name) (more next : Names) → IsTree tree → (IsClearAt tree at → StepsTo tree at name (Some next))
    → Comes tree names at (name ∷ more) → Comes tree names next more
comes_on tree names at name more next is steps (inr lost) = inr lost
comes_on tree names at name more next is steps (inl (here, on)) =
    let (row, o, path, alike) = steps here in
    let (x, below, folds) = alike_splits at name row alike in
    by_link row o path alike x below (is_linked tree next) refl
  where
    by_link : (row : Row) → IsOf row tree → row.path ≡ next → is_alike true at name row ≡ true → (x : Name) → row.path ≡ at ++ x ∷ [] → (b : Bool) → is_linked tree next ≡ b
        → Comes tree names next more
    by_link row o path alike x below true e =
        let place : next ≡ at ++ x ∷ [] = sym path ∙ below in
        let (l, ol, link, at_link) = link_at tree at x here.clear (ap (is_linked tree) (sym place) ∙ e) in
        let same : l.path ≡ next = at_link ∙ sym place in
        inr (
          next ++ more,
          on (next ++ more) (inl (row, o, alike, subst (λ z. IsLoose true tree z more (next ++ more)) (same ∙ sym path) (subst (λ z. IsLoose true tree l.path more (z ++ more)) same (behind_link tree l more is ol link)))),
          linked_below tree next more e,
        )
    by_link row o path alike x below false e =
        let place : next ≡ at ++ x ∷ [] = sym path ∙ below in
        inl (
          record { row = row; stands = ap (look tree) place ∙ stands_below tree at x here.row row is here.stands o below; clear = e },
          λ end loose. on end (inl (row, o, alike, subst (λ z. IsLoose true tree z more end) (sym path) loose)),
        )

pub comes_none : (tree : List Row) (names at : Names) (name : Name) (more : Names) → (IsClearAt tree at → StepsTo tree at name None) → Comes tree names at (name ∷ more)
    → EndsAt tree names (at ++ name ∷ more)
comes_none tree names at name more steps (inr (end, loose, link)) = (end, loose, λ clear. not_both (is_linked tree end) link clear)
comes_none tree names at name more steps (inl (here, on)) = (at ++ name ∷ more, on (at ++ name ∷ more) (inr (steps here, refl)), λ clear. refl)

pub comes_out : (tree : List Row) (names at : Names) → Comes tree names at [] → EndsAt tree names at
comes_out tree names at (inr (end, loose, link)) = (end, loose, λ clear. not_both (is_linked tree end) link clear)
comes_out tree names at (inl (here, on)) = (at, on at refl, λ clear. refl)

-- ---- the walk

pub record Going (p : Place) (names : Names) (q : Place) (at rest : Names) : Type 0 where
  pub keeps : KeepsPlace p q
  pub alike : fold_path (at ++ rest) ≡ fold_path names
  pub plain : all_plain rest ≡ true
  pub rows : RemembersIn p q
  pub stands : StandsAt p.disk at
  -- at the end the directory above is the first that is remembered
  pub above : rest ≡ [] → (dir : Names) (x : Name) → at ≡ dir ++ x ∷ [] → HasFirst dir dir q.memory
  pub told : (w : World) → p.disk.told ≡ Some w → is_tree w.tree ≡ true → Comes w.tree names at rest

pub going_first : (p : Place) (names at rest : Names) → all_plain names ≡ true → at ≡ [] → rest ≡ names → Going p names p at rest
going_first p names at rest plain root all = rw (root, all) (record {
  keeps = place_same p;
  alike = refl;
  plain = plain;
  rows = rows_same p p refl;
  above = λ ended dir x path. no_root dir x path;
  stands = λ w told is clear. (let here = root_clear w.tree (tree_parts w.tree is) in (here.row, here.stands));
  told = λ w told is. inl (root_clear w.tree (tree_parts w.tree is), λ end loose. loose);
})

steps_in : (p m q : Place) (w : World) (at : Names) (name : Name) (found : Option Names) → KeepsPlace p m → p.disk.told ≡ Some w → is_tree w.tree ≡ true → StepsOn m at name (Ok found) q
    → IsClearAt w.tree at → StepsTo w.tree at name found
steps_in p m q w at name found keeps told is steps here =
    let (v, now, tree) = same_tree p m w keeps told in
    subst (λ z. StepsTo z at name found) tree (steps.told v now (ap is_tree tree ∙ is) (subst (λ z. IsClearAt z at) (sym tree) here))

-- A walk is at a row, where no link is met.
going_stands : (p m : Place) (names at rest : Names) → Going p names m at rest → StandsAt m.disk at
going_stands p m names at rest going = stands_still p m at going.keeps going.stands

-- a step further remembers what stands
going_rows : (p m q : Place) (names at rest : Names) → Going p names m at rest → (StandsAt m.disk at → RemembersIn m q) → RemembersIn p q
going_rows p m q names at rest going rows = rows_then p m q going.keeps going.rows (rows (going_stands p m names at rest going))

fold_on : (at : Names) (name : Name) (more next : Names) → fold_path next ≡ fold_path (at ++ name ∷ []) → fold_path (next ++ more) ≡ fold_path (at ++ name ∷ more)
fold_on at name more next e =
    map-append fold_name next more ∙ ap (λ z. z ++ fold_path more) e ∙ sym (map-append fold_name (at ++ name ∷ []) more) ∙ ap fold_path (append_assoc at (name ∷ []) more)

-- What a step takes stands there, where no link is met.
stands_next : (p m q : Place) (at : Names) (name : Name) (next : Names) → KeepsPlace p m → StandsAt p.disk at → StepsOn m at name (Ok (Some next)) q → StandsAt p.disk next
stands_next p m q at name next keeps stands steps = λ w told is clear. there w told is clear steps.alike
  where
    there : (w : World) → p.disk.told ≡ Some w → is_tree w.tree ≡ true → is_linked w.tree next ≡ false → IsAlikeIn at name next → (row : Row) × (look w.tree next ≡ Ok row)
    there w told is clear (x, below, folds) =
        let free : is_linked w.tree at ≡ false = unlinked_above w.tree at (x ∷ []) (ap (is_linked w.tree) (sym below) ∙ clear) in
        let (d, above) = stands w told is free in
        let (row, o, path, alike) = steps_in p m q w at name (Some next) keeps told is steps (record { row = d; stands = above; clear = free }) in
        (row, ap (look w.tree) below ∙ stands_below w.tree at x d row (tree_parts w.tree is) above o (path ∙ below))

pub going_on : (p m q : Place) (names at rest : Names) (name : Name) (more next : Names) (found : Option Names) → Going p names m at rest → rest ≡ name ∷ more → StepsOn m at name (Ok found) q
    → (more ≡ [] → HasFirst at at q.memory) → found ≡ Some next → Going p names q next more
going_on p m q names at rest name more next found going is steps last is_found =
    on (subst (Going p names m at) is going) (subst (λ f. StepsOn m at name (Ok f) q) is_found steps)
  where
    on : Going p names m at (name ∷ more) → StepsOn m at name (Ok (Some next)) q → Going p names q next more
    on going steps = record {
      keeps = place_then p m q going.keeps steps.keeps;
      alike = fold_on at name more next (alike_folds at name next steps.alike) ∙ going.alike;
      plain = (and_parts (is_plain name) (all_plain more) going.plain).1;
      rows = going_rows p m q names at (name ∷ more) going steps.rows;
      stands = stands_next p m q at name next going.keeps going.stands steps;
      above = λ ended dir x path. (let dirs : at ≡ dir = dir_same at dir steps.alike.0 x (sym steps.alike.1 ∙ path) in subst (λ d. HasFirst d d q.memory) dirs (last ended));
      told = λ w told is. comes_on w.tree names at name more next (tree_parts w.tree is) (steps_in p m q w at name (Some next) going.keeps told is steps) (going.told w told is);
    }

-- a place that wasn't found isn't one where something stands elsewhere than it was asked
none_elsewhere : (p : Place) (names at : Names) (name : Name) (more : Names) (e : StandsElsewhere p names (at ++ name ∷ more)) → is_tree e.world.tree ≡ true
    → (IsClearAt e.world.tree at → StepsTo e.world.tree at name None) → ⊥
none_elsewhere p names at name more e is steps =
    nothing_below e.world.tree at name more e.row (tree_parts e.world.tree is) (steps (clear_above e.world.tree at (name ∷ more) e.row e.stands e.clear)) e.stands

walk_none : (p m q : Place) (names at : Names) (name : Name) (more : Names) → Going p names m at (name ∷ more) → StepsOn m at name (Ok None) q → Walks p names (Ok (at ++ name ∷ more)) q
walk_none p m q names at name more going steps = record {
  keeps = place_then p m q going.keeps steps.keeps;
  refused = tt;
  alike = going.alike;
  told = λ w told is. comes_none w.tree names at name more (steps_in p m q w at name None going.keeps told is steps) (going.told w told is);
  first = λ e is. absurd (none_elsewhere p names at name more e is (steps_in p m q e.world at name None going.keeps e.told is steps));
  rows = going_rows p m q names at (name ∷ more) going steps.rows;
}

pub walk_over : (p m q : Place) (names at rest : Names) → Going p names m at rest → length rest ≡ 0 → Remembers m at (Ok tt) q → Walks p names (Ok at) q
walk_over p m q names at [] going none remembers = record {
  keeps = place_then p m q going.keeps remembers.keeps;
  refused = tt;
  alike = same;
  told = λ w told is. comes_out w.tree names at (going.told w told is);
  first = λ e is. first_alike at names q.memory same remembers.first;
  rows = going_rows p m q names at [] going remembers.rows;
}
  where
    same : fold_path at ≡ fold_path names
    same = ap fold_path (sym (append-nil at)) ∙ going.alike
walk_over p m q names at (x ∷ rest) going none remembers = absurd (omega arith)

-- What the walk came to has its directory next to it.
pub walk_over_above : (p m q : Place) (names at rest : Names) → Going p names m at rest → length rest ≡ 0 → Remembers m at (Ok tt) q → BringsAbove p names (Ok at) q
walk_over_above p m q names at [] going none remembers = λ dir e is.
    next_alike dir at names q.memory (ap fold_path (sym (append-nil at)) ∙ going.alike)
    (remembers.next dir (going.above refl dir e.name e.place) (subst (λ z. fold_path z ≢ fold_path dir) (sym e.place) (folds_apart dir e.name)))
walk_over_above p m q names at (x ∷ rest) going none remembers = absurd (omega arith)

none_above : (p m q : Place) (names at : Names) (name : Name) (more : Names) → Going p names m at (name ∷ more) → StepsOn m at name (Ok None) q → (more ≡ [] → HasFirst at at q.memory)
    → BringsAbove p names (Ok (at ++ name ∷ more)) q
none_above p m q names at name [] going steps last = λ dir e is.
    let dirs : at ≡ dir = dir_same at dir name e.name e.place in first_next dir names q.memory (subst (λ d. HasFirst d d q.memory) dirs (last refl))
none_above p m q names at name (y ∷ ys) going steps last = λ dir e is. absurd (lone dir e is (dir_below dir at e.name name y ys (sym e.place)))
  where
    lone : (dir : Names) (e : IsFoundIn p names (at ++ name ∷ y ∷ ys) dir) → is_tree e.world.tree ≡ true → (zs : Names) × (dir ≡ at ++ name ∷ zs) → ⊥
    lone dir e is (zs, path) =
        let there = ap (look e.world.tree) (sym path) ∙ e.stands in
        let free = ap (is_linked e.world.tree) (sym path) ∙ e.clear in
        nothing_below e.world.tree at name zs e.row (tree_parts e.world.tree is)
        (steps_in p m q e.world at name None going.keeps e.told is steps (clear_above e.world.tree at (name ∷ zs) e.row there free)) there

below_above : (p q : Place) (names end : Names) (r : Result Names FsError) → IfOk r (λ path. path ≡ end) → BringsAbove p names (Ok end) q → BringsAbove p names r q
below_above p q names end (Ok path) is above = rw is above
below_above p q names end (Err e) is above = tt

pub walk_none_above : (p m q : Place) (names at rest : Names) (name : Name) (more : Names) (found : Option Names) (r : Result Names FsError) → Going p names m at rest → rest ≡ name ∷ more
    → StepsOn m at name (Ok found) q → (more ≡ [] → HasFirst at at q.memory) → found ≡ None → (record { ok : IfOk r (λ path. path ≡ at ++ rest); err : OnErr r (r ≡ Err FsError.NoMemory) })
    → BringsAbove p names r q
walk_none_above p m q names at rest name more found r going is steps last is_found below =
    below_above p q names (at ++ rest) r below.ok
    (subst (λ z. BringsAbove p names (Ok (at ++ z)) q) (sym is)
    (none_above p m q names at name more (subst (Going p names m at) is going) (subst (λ f. StepsOn m at name (Ok f) q) is_found steps) last))

pub walk_refused : (p m q : Place) (names at rest : Names) (name : Name) (e : FsError) → Going p names m at rest → StepsOn m at name (Err e) q → Walks p names (Err e) q
walk_refused p m q names at rest name e going steps = record {
  keeps = place_then p m q going.keeps steps.keeps;
  refused = spoiled_after p m q e going.keeps steps.refused;
  alike = tt;
  told = tt;
  first = tt;
  rows = going_rows p m q names at rest going steps.rows;
}

pub walk_starved : (p q : Place) (names : Names) → KeepsPlace p q → RemembersIn p q → Walks p names (Err FsError.NoMemory) q
walk_starved p q names keeps rows = record { keeps = keeps; refused = inr refl; alike = tt; told = tt; first = tt; rows = rows }

pub walk_forgotten : (p m q : Place) (names at rest : Names) (e : FsError) → Going p names m at rest → Remembers m at (Err e) q → Walks p names (Err e) q
walk_forgotten p m q names at rest e going remembers =
    let is : e ≡ FsError.NoMemory = error_of e remembers.starved in
    rw is (walk_starved p q names (place_then p m q going.keeps remembers.keeps) (going_rows p m q names at rest going remembers.rows))

below_walk : (p q : Place) (names end : Names) (r : Result Names FsError) → IfOk r (λ path. path ≡ end) → OnErr r (r ≡ Err FsError.NoMemory) → Walks p names (Ok end) q → Walks p names r q
below_walk p q names end (Ok path) is none walks = rw is walks
below_walk p q names end (Err e) is none walks = let same : e ≡ FsError.NoMemory = error_of e none in rw same (walk_starved p q names walks.keeps walks.rows)

pub walk_none_by : (p m q : Place) (names at rest : Names) (name : Name) (more : Names) (found : Option Names) (r : Result Names FsError) → Going p names m at rest → rest ≡ name ∷ more
    → StepsOn m at name (Ok found) q → found ≡ None → (record { ok : IfOk r (λ path. path ≡ at ++ rest); err : OnErr r (r ≡ Err FsError.NoMemory) }) → Walks p names r q
walk_none_by p m q names at rest name more found r going is steps is_found below =
    below_walk p q names (at ++ rest) r below.ok below.err
    (subst (λ z. Walks p names (Ok (at ++ z)) q) (sym is) (walk_none p m q names at name more (subst (Going p names m at) is going) (subst (λ f. StepsOn m at name (Ok f) q) is_found steps)))
