-- A path that is found where the memory has it, as it stands, or in the directory above it.
use Rattle.std.proofs.Common.{◌≡◌, ◌≢◌, ◌⊎◌, inl, inr, Bool, true, false, List, [], ◌∷◌, ◌++◌, length, Option, None, Some, IfSome, IfOk, Result, Ok, Err, refl, sym, ap, subst, ◌∙◌, arith}
use Rattle.std.specs.List.{list_any}
use Rattle.std.specs.Option.{is_some}
use Rattle.dav_io.specs.Counts.{RefusedNothing, Rose}
use Rattle.dav_core.specs.declared.error.FsError.{FsError}
use Rattle.dav_core.specs.declared.handle.Meta.{Meta}
use Rattle.dav_core.specs.declared.tree.Row.{Row}
use Rattle.dav_core.specs.Disk.{DiskState, Metas}
use Rattle.dav_core.specs.Path.{Names}
use Rattle.dav_core.specs.Tree.{is_linked, is_tree, look}
use Rattle.dav_core.specs.Unchanged.{Keeps}
use Rattle.dav_core.specs.World.{IsWorld, World}
use Rattle.dav_core.proofs.Rows.{IsTree, tree_parts}
use Rattle.dav_memory.specs.Entries.{PathCache}
use Rattle.dav_model.specs.Finding.{IsLoose, is_alike}
use Rattle.dav_model.specs.Folds.{Name, fold_name, fold_path}
use Rattle.dav_model.proofs.PlainWalks.{linked_below}
use Rattle.std.proofs.lemmas.List.{map-append}
use Rattle.dav_local.specs.Places.{Place}
use Rattle.dav_local.specs.Remembering.{HasFirst, HasNext, IsFirst, KeepsAbove, KeepsWork, SavesCalls, StandsElsewhere}
use Rattle.dav_local.specs.Walking.{BringsAbove, BringsUnheld, EndsAt, FindsParent, IsAlikeIn, IsClearAt, KeepsPlace, Recalls, Remembers, RemembersIn, StandsAt, Steps, StepsTo, TakesIn, TakesMember, Walks}
use Rattle.dav_local.proofs.Above.{dir_same, first_itself, first_next, folds_apart, found_in_on, next_alike, no_folds, no_names, no_root}
use Rattle.dav_local.proofs.Coming.{root_clear}
use Rattle.dav_local.proofs.Memories.{alike_folds, error_of, first_alike, place_disk, place_same, place_then, rows_same, rows_then, same_tree, spoiled_after, stands_still}
use Rattle.dav_local.proofs.Rows.{clear_above, linked_alike, not_both, nothing_below, stands_below, stood_loosely, stood_then, unlinked_above}

-- ---- where a walk ends

-- What stands and folds alike is where a loose walk ends, or it ends behind a link.
pub alike_ends : (tree : List Row) (names at : Names) → IsTree tree → fold_path at ≡ fold_path names → (is_linked tree at ≡ false → (row : Row) × (look tree at ≡ Ok row)) → EndsAt tree names at
alike_ends tree names at is folds stands = by_link (is_linked tree at) refl
  where
    by_link : (b : Bool) → is_linked tree at ≡ b → EndsAt tree names at
    by_link true e = let (end, loose, link) = linked_alike tree [] at names is (root_clear tree is) e folds in (end, loose, λ clear. not_both (is_linked tree end) link clear)
    by_link false e = let (row, stood) = stands e in (at, stood_loosely tree [] at names row stood folds, λ clear. refl)

taken_ends : (tree : List Row) (names above dir : Names) (name : Name) (at : Names) → IsTree tree → names ≡ above ++ name ∷ [] → fold_path dir ≡ fold_path above
    → fold_path at ≡ fold_path names → IsAlikeIn dir name at → (is_linked tree dir ≡ false → (row : Row) × (look tree dir ≡ Ok row))
    → (IsClearAt tree dir → ((row : Row) × (look tree at ≡ Ok row)) ⊎ ((at ≡ dir ++ name ∷ []) × (list_any (is_alike true dir name) tree ≡ false))) → EndsAt tree names at
taken_ends tree names above dir name at is path folds all (x, below, alike) stood told = by_link (is_linked tree dir) refl
  where
    by_link : (b : Bool) → is_linked tree dir ≡ b → EndsAt tree names at
    by_link true e =
        let linked : is_linked tree at ≡ true = ap (is_linked tree) below ∙ linked_below tree dir (x ∷ []) e in
        alike_ends tree names at is all (λ clear. not_both (is_linked tree at) linked clear)
    by_link false e =
        let (d, stands) = stood e in
        elim (told (record { row = d; stands = stands; clear = e })) [
          | inl there ↦ alike_ends tree names at is all (λ clear. there)
          | inr (place, lone) ↦ (
            dir ++ name ∷ [],
            subst (λ z. IsLoose true tree [] z (dir ++ name ∷ [])) (sym path) (stood_then tree [] dir above (name ∷ []) (dir ++ name ∷ []) d stands folds (inr (lone, refl))),
            λ clear. place,
          )
        ]

-- ---- one after the other

elsewhere_on : (p m : Place) (names at : Names) → KeepsPlace p m → (e : StandsElsewhere p names at) → (f : StandsElsewhere m names at) × (f.world.tree ≡ e.world.tree)
elsewhere_on p m names at keeps e =
    let (v, now, tree) = same_tree p m e.world keeps e.told in (
      record {
        world = v;
        told = now;
        error = e.error;
        missing = ap (λ z. look z names) tree ∙ e.missing;
        row = e.row;
        stands = ap (λ z. look z at) tree ∙ e.stands;
        clear = ap (λ z. is_linked z at) tree ∙ e.clear;
      },
      tree,
    )

-- A path is found after all but the cache of paths was kept.
pub walks_after : (p m q : Place) (names : Names) (r : Result Names FsError) → KeepsPlace p m → RemembersIn p m → Walks m names r q → Walks p names r q
walks_after p m q names (Err e) keeps rows walks = record {
  keeps = place_then p m q keeps walks.keeps;
  refused = spoiled_after p m q e keeps walks.refused;
  alike = tt;
  told = tt;
  first = tt;
  rows = rows_then p m q keeps rows walks.rows;
}
walks_after p m q names (Ok at) keeps rows walks = record {
  keeps = place_then p m q keeps walks.keeps;
  refused = tt;
  alike = walks.alike;
  told = λ w told is.
      let (v, now, tree) = same_tree p m w keeps told in subst (λ z. EndsAt z names at) tree (walks.told v now (ap is_tree tree ∙ is));
  first = λ e is. let (f, tree) = elsewhere_on p m names at keeps e in walks.first f (ap is_tree tree ∙ is);
  rows = rows_then p m q keeps rows walks.rows;
}

-- ---- where the memory has it

pub walks_recalled : (p q : Place) (names at : Names) (found : Option Names) → Recalls p names (Ok found) q → found ≡ Some at → Walks p names (Ok at) q
walks_recalled p q names at found recalls is = walks (subst (λ f. Recalls p names (Ok f) q) is recalls)
  where
    walks : Recalls p names (Ok (Some at)) q → Walks p names (Ok at) q
    walks recalls = record {
      keeps = recalls.keeps;
      refused = tt;
      alike = recalls.alike;
      told = λ w told is. alike_ends w.tree names at (tree_parts w.tree is) recalls.alike (λ clear. recalls.stood w told is clear);
      first = λ e is. recalls.first;
      rows = recalls.rows;
    }

pub walks_unknown : (p m q : Place) (names : Names) (found : Option Names) (r : Result Names FsError) → Recalls p names (Ok found) m → found ≡ None → Walks m names r q → Walks p names r q
walks_unknown p m q names found r recalls is walks = walks_after p m q names r recalls.keeps recalls.rows walks

some_same : {A : Type 0} (x y : A) → ◌≡◌ {A = Option A} (Some x) (Some y) → x ≡ y
some_same x y e = cc

none_some : {A B : Type 0} (x : A) → ◌≡◌ {A = Option A} None (Some x) → B
none_some x e = cc

pub saves_recalled : (p q : Place) (names at : Names) (found : Option Names) (r : Result Names FsError) → Recalls p names (Ok found) q → found ≡ Some at → r ≡ Ok at → SavesCalls p names r q
saves_recalled p q names at found r recalls is stands = λ nothing other held.
    let (same, once) = recalls.saved nothing other held in inl (stands ∙ ap (λ z. Ok z) (some_same at other (sym is ∙ same)), once)

-- A path that the memory hasn't isn't remembered.
pub saves_unknown : (p m q : Place) (names : Names) (found : Option Names) (s r : Result Names FsError) → Recalls p names (Ok found) m → found ≡ None → Walks m names s q → SavesCalls p names r q
saves_unknown p m q names found s r recalls is walks = λ nothing other held.
    let so_far : RefusedNothing p.disk.faults m.disk.faults = record {
      same = omega (arith, nothing.same, recalls.keeps.keeps.counts, walks.keeps.keeps.counts);
      room = omega (arith, nothing.room, walks.keeps.keeps.counts);
    } in
    let (same, once) = recalls.saved so_far other held in none_some other (sym is ∙ same)

pub saves_starved : (p q : Place) (names : Names) (e : FsError) (r : Result Names FsError) → Recalls p names (Err e) q → r ≡ Err e → SavesCalls p names r q
saves_starved p q names e r recalls stands = λ nothing other held. let (is, same) = recalls.starved in inr (stands ∙ ap (λ x. Err x) (error_of e is), same)

-- ---- as it stands

ok_error : {A B C : Type 0} (x : A) (e : B) → ◌≡◌ {A = Result A B} (Ok x) (Err e) → C
ok_error x e is = cc

-- What stands as it is asked is found there.
pub walk_whole : (p : Place) (t : DiskState) (names : Names) (m : Meta) → Metas p.disk names (Ok m) t → Keeps p.disk t → Walks p names (Ok names) (record p { disk = t })
walk_whole p t names m metas keeps = record {
  keeps = place_disk p t keeps;
  refused = tt;
  alike = refl;
  told = λ w told is. alike_ends w.tree names names (tree_parts w.tree is) refl (λ clear. let (row, stands, meta) = metas.told w told clear in (row, stands));
  first = λ e is. ok_error e.row e.error (sym e.stands ∙ e.missing);
  rows = rows_same p (record p { disk = t }) refl;
}

pub walks_missing : (p q : Place) (t : DiskState) (names : Names) (r : Result Names FsError) → Keeps p.disk t → Walks (record p { disk = t }) names r q → Walks p names r q
walks_missing p q t names r keeps walks = walks_after p (record p { disk = t }) q names r (place_disk p t keeps) (rows_same p (record p { disk = t }) refl) walks

-- ---- the directory above

pub parent_root : (p : Place) (dir others : Names) → length others ≡ 0 → others ≡ dir → FindsParent p dir (Ok (Some dir)) p
parent_root p dir others none same = record {
  keeps = place_same p;
  refused = tt;
  alike = refl;
  stood = λ w told is clear. (let here = root_clear w.tree (tree_parts w.tree is) in (here.row, ap (look w.tree) (sym same ∙ no_names others none) ∙ here.stands));
  first = inl (sym same ∙ no_names others none);
  rows = rows_same p p refl;
}

stands_on : (p m : Place) (at : Names) → KeepsPlace p m → StandsAt m.disk at → StandsAt p.disk at
stands_on p m at keeps stands = λ w told is clear.
    let (v, now, tree) = same_tree p m w keeps told in
    let (row, there) = stands v now (ap is_tree tree ∙ is) (ap (λ z. is_linked z at) tree ∙ clear) in
    (row, ap (λ z. look z at) (sym tree) ∙ there)

pub parent_unknown : (p m q : Place) (dir : Names) (found : Option Names) (r : Result (Option Names) FsError) → Recalls p dir (Ok found) m → found ≡ None → FindsParent m dir r q → FindsParent p dir r q
parent_unknown p m q dir found (Err e) recalls is finds = record {
  keeps = place_then p m q recalls.keeps finds.keeps;
  refused = spoiled_after p m q e recalls.keeps finds.refused;
  alike = tt;
  stood = tt;
  first = tt;
  rows = rows_then p m q recalls.keeps recalls.rows finds.rows;
}
parent_unknown p m q dir found (Ok None) recalls is finds =
    record { keeps = place_then p m q recalls.keeps finds.keeps; refused = tt; alike = tt; stood = tt; first = tt; rows = rows_then p m q recalls.keeps recalls.rows finds.rows }
parent_unknown p m q dir found (Ok (Some at)) recalls is finds = record {
  keeps = place_then p m q recalls.keeps finds.keeps;
  refused = tt;
  alike = finds.alike;
  stood = stands_on p m at recalls.keeps finds.stood;
  first = finds.first;
  rows = rows_then p m q recalls.keeps recalls.rows finds.rows;
}

-- What is recalled of it comes to the front.
pub parent_recalled : (p q : Place) (dir at : Names) (found : Option Names) → Recalls p dir (Ok found) q → found ≡ Some at → FindsParent p dir (Ok (Some at)) q
parent_recalled p q dir at found recalls is = finds (subst (λ f. Recalls p dir (Ok f) q) is recalls)
  where
    finds : Recalls p dir (Ok (Some at)) q → FindsParent p dir (Ok (Some at)) q
    finds recalls =
        record { keeps = recalls.keeps; refused = tt; alike = recalls.alike; stood = recalls.stood; first = inr recalls.first; rows = recalls.rows }

-- What stands is remembered after the disk was asked.
rows_on : (p : Place) (t : DiskState) (at : Names) (q : Place) → Keeps p.disk t → KeepsPlace (record p { disk = t }) q → StandsAt p.disk at → (StandsAt t at → RemembersIn (record p { disk = t }) q)
    → RemembersIn p q
rows_on p t at q keeps kept stands rows =
    rows_then p (record p { disk = t }) q (place_disk p t keeps) (rows_same p (record p { disk = t }) refl) (rows (stands_still p (record p { disk = t }) at (place_disk p t keeps) stands))

pub parent_stands : (p q : Place) (t : DiskState) (dir : Names) (m : Meta) → Metas p.disk dir (Ok m) t → Keeps p.disk t → Remembers (record p { disk = t }) dir (Ok tt) q
    → FindsParent p dir (Ok (Some dir)) q
parent_stands p q t dir m metas keeps remembers = record {
  keeps = place_then p (record p { disk = t }) q (place_disk p t keeps) remembers.keeps;
  refused = tt;
  alike = refl;
  stood = there;
  first = inr remembers.first;
  rows = rows_on p t dir q keeps remembers.keeps there remembers.rows;
}
  where
    there : StandsAt p.disk dir
    there = λ w told is clear. (let (row, stands, meta) = metas.told w told clear in (row, stands))

pub parent_starved : (p q : Place) (t : DiskState) (dir : Names) (m : Meta) (e : FsError) → Metas p.disk dir (Ok m) t → Keeps p.disk t → Remembers (record p { disk = t }) dir (Err e) q
    → FindsParent p dir (Err e) q
parent_starved p q t dir m e metas keeps remembers = record {
  keeps = place_then p (record p { disk = t }) q (place_disk p t keeps) remembers.keeps;
  refused = inr (ap (λ x. Err x) (error_of e remembers.starved));
  alike = tt;
  stood = tt;
  first = tt;
  rows = rows_on p t dir q keeps remembers.keeps (λ w told is clear. (let (row, stands, meta) = metas.told w told clear in (row, stands))) remembers.rows;
}

pub parent_failed : (p : Place) (t : DiskState) (dir : Names) → Keeps p.disk t → Rose p.disk.faults t.faults → FindsParent p dir (Err FsError.GeneralFailure) (record p { disk = t })
parent_failed p t dir keeps rose =
    record { keeps = place_disk p t keeps; refused = inl (refl, rose); alike = tt; stood = tt; first = tt; rows = rows_same p (record p { disk = t }) refl }

pub parent_missing : (p : Place) (t : DiskState) (dir : Names) → Keeps p.disk t → FindsParent p dir (Ok None) (record p { disk = t })
parent_missing p t dir keeps = record { keeps = place_disk p t keeps; refused = tt; alike = tt; stood = tt; first = tt; rows = rows_same p (record p { disk = t }) refl }

-- ---- a member of the directory

dir_unlinked : (tree : List Row) (dir : Names) (name : Name) (at : Names) → IsAlikeIn dir name at → is_linked tree at ≡ false → is_linked tree dir ≡ false
dir_unlinked tree dir name at (x, below, folds) clear = unlinked_above tree dir (x ∷ []) (ap (is_linked tree) (sym below) ∙ clear)

dir_clear : (tree : List Row) (dir : Names) (name : Name) (at : Names) (row : Row) → IsAlikeIn dir name at → look tree at ≡ Ok row → is_linked tree at ≡ false → IsClearAt tree dir
dir_clear tree dir name at row (x, below, folds) stands clear =
    clear_above tree dir (x ∷ []) row (ap (look tree) (sym below) ∙ stands) (ap (is_linked tree) (sym below) ∙ clear)

-- what a step in a directory takes
taken_row : (p : Place) (t : DiskState) (dir : Names) (name : Name) (at : Names) → ((w : World) → p.disk.told ≡ Some w → IsWorld w) → Steps p.disk dir name (Ok (Some at)) t
    → (w : World) → p.disk.told ≡ Some w → is_tree w.tree ≡ true → IsClearAt w.tree dir → (row : Row) × (look w.tree at ≡ Ok row)
taken_row p t dir name at worlds steps w told tree here = there steps.alike (steps.told w told (worlds w told) here)
  where
    there : IsAlikeIn dir name at → StepsTo w.tree dir name (Some at) → (row : Row) × (look w.tree at ≡ Ok row)
    there (x, below, folds) (row, o, path, alike) = (row, ap (look w.tree) below ∙ stands_below w.tree dir x here.row row (tree_parts w.tree tree) here.stands o (path ∙ below))

-- it stands where the directory does, where no link is met
taken_stands : (p : Place) (t : DiskState) (dir : Names) (name : Name) (at : Names) → ((w : World) → p.disk.told ≡ Some w → IsWorld w) → Steps p.disk dir name (Ok (Some at)) t → StandsAt p.disk dir
    → StandsAt p.disk at
taken_stands p t dir name at worlds steps stands = λ w told is clear.
    let free : is_linked w.tree dir ≡ false = dir_unlinked w.tree dir name at steps.alike clear in
    let (d, there) = stands w told is free in taken_row p t dir name at worlds steps w told is (record { row = d; stands = there; clear = free })

pub takes_found : (p q : Place) (t : DiskState) (dir : Names) (name : Name) (at : Names) (found : Option Names) → ((w : World) → p.disk.told ≡ Some w → IsWorld w) → Steps p.disk dir name (Ok found) t
    → found ≡ Some at → Remembers (record p { disk = t }) at (Ok tt) q → TakesMember p dir name (Ok at) q
takes_found p q t dir name at found worlds steps is remembers = takes (subst (λ f. Steps p.disk dir name (Ok f) t) is steps)
  where
    takes : Steps p.disk dir name (Ok (Some at)) t → TakesMember p dir name (Ok at) q
    takes steps = record {
      keeps = place_then p (record p { disk = t }) q (place_disk p t steps.keeps) remembers.keeps;
      refused = tt;
      alike = steps.alike;
      told = λ w told tree here. inl (let (row, there) = taken_row p t dir name at worlds steps w told tree here in (row, there, remembers.first));
      rows = λ stands. rows_on p t at q steps.keeps remembers.keeps (taken_stands p t dir name at worlds steps stands) remembers.rows;
    }

pub takes_forgotten : (p q : Place) (t : DiskState) (dir : Names) (name : Name) (at : Names) (found : Option Names) (e : FsError) → ((w : World) → p.disk.told ≡ Some w → IsWorld w)
    → Steps p.disk dir name (Ok found) t → found ≡ Some at → Remembers (record p { disk = t }) at (Err e) q → TakesMember p dir name (Err e) q
takes_forgotten p q t dir name at found e worlds steps is remembers = takes (subst (λ f. Steps p.disk dir name (Ok f) t) is steps)
  where
    takes : Steps p.disk dir name (Ok (Some at)) t → TakesMember p dir name (Err e) q
    takes steps = record {
      keeps = place_then p (record p { disk = t }) q (place_disk p t steps.keeps) remembers.keeps;
      refused = inr (ap (λ x. Err x) (error_of e remembers.starved));
      alike = tt;
      told = tt;
      rows = λ stands. rows_on p t at q steps.keeps remembers.keeps (taken_stands p t dir name at worlds steps stands) remembers.rows;
    }

folds_below : (names above dir : Names) (name : Name) (at : Names) → names ≡ above ++ name ∷ [] → fold_path dir ≡ fold_path above → IsAlikeIn dir name at → fold_path at ≡ fold_path names
folds_below names above dir name at path folds alike =
    alike_folds dir name at alike ∙ map-append fold_name dir (name ∷ []) ∙ ap (λ z. z ++ fold_name name ∷ []) folds ∙ sym (map-append fold_name above (name ∷ [])) ∙ ap fold_path (sym path)

-- A path is found in the directory above it.
pub member_walks : (p m q : Place) (names asked above dir : Names) (name : Name) (found : Option Names) (r : Result Names FsError) → names ≡ above ++ name ∷ [] → asked ≡ above
    → FindsParent p asked (Ok found) m → found ≡ Some dir → TakesMember m dir name r q → Walks p names r q
member_walks p m q names asked above dir name found r path same finds is takes =
    walks (subst (λ z. FindsParent p z (Ok (Some dir)) m) same (subst (λ f. FindsParent p asked (Ok f) m) is finds)) r takes
  where
    found_stands : FindsParent p above (Ok (Some dir)) m → StandsAt m.disk dir
    found_stands finds = stands_still p m dir finds.keeps finds.stood

    walks : FindsParent p above (Ok (Some dir)) m → (r : Result Names FsError) → TakesMember m dir name r q → Walks p names r q
    walks finds (Err e) takes = record {
      keeps = place_then p m q finds.keeps takes.keeps;
      refused = spoiled_after p m q e finds.keeps takes.refused;
      alike = tt;
      told = tt;
      first = tt;
      rows = rows_then p m q finds.keeps finds.rows (takes.rows (found_stands finds));
    }
    walks finds (Ok at) takes = record {
      keeps = place_then p m q finds.keeps takes.keeps;
      refused = tt;
      alike = all;
      told = λ w told is.
          taken_ends w.tree names above dir name at (tree_parts w.tree is) path finds.alike all takes.alike (finds.stood w told is)
          (λ here. without_first w.tree (taken w told is here));
      first = first;
      rows = rows_then p m q finds.keeps finds.rows (takes.rows (found_stands finds));
    }
      where
        without_first : (tree : List Row) → TakesIn tree dir name at q.memory
            → ((row : Row) × (look tree at ≡ Ok row)) ⊎ ((at ≡ dir ++ name ∷ []) × (list_any (is_alike true dir name) tree ≡ false))
        without_first tree (inl (row, there, kept)) = inl (row, there)
        without_first tree (inr lone) = inr lone

        all : fold_path at ≡ fold_path names
        all = folds_below names above dir name at path finds.alike takes.alike

        taken : (w : World) → p.disk.told ≡ Some w → is_tree w.tree ≡ true → IsClearAt w.tree dir → TakesIn w.tree dir name at q.memory
        taken w told is =
            let (v, now, tree) = same_tree p m w finds.keeps told in
            subst (λ z. IsClearAt z dir → TakesIn z dir name at q.memory) tree (takes.told v now (ap is_tree tree ∙ is))

        first : (e : StandsElsewhere p names at) → is_tree e.world.tree ≡ true → HasFirst names at q.memory
        first e is = elim (taken e.world e.told is (dir_clear e.world.tree dir name at e.row takes.alike e.stands e.clear)) [
          | inl (row, there, kept) ↦ first_alike at names q.memory all kept
          | inr (place, lone) ↦ absurd (nothing_below e.world.tree dir name [] e.row (tree_parts e.world.tree is) lone (ap (look e.world.tree) (sym place) ∙ e.stands))
        ]

pub walks_lost : (p m q : Place) (names above : Names) (found : Option Names) (r : Result Names FsError) → FindsParent p above (Ok found) m → found ≡ None → Walks m names r q → Walks p names r q
walks_lost p m q names above found r finds is walks = walks_after p m q names r finds.keeps finds.rows walks

-- ---- the directory above is next

pub above_after : (p m q : Place) (names : Names) (r : Result Names FsError) → KeepsPlace p m → BringsAbove m names r q → BringsAbove p names r q
above_after p m q names (Err e) keeps above = tt
above_after p m q names (Ok at) keeps above = λ dir e is. let (f, tree) = found_in_on p m names at dir keeps e in above dir f (ap is_tree tree ∙ is)

-- What stands as it is asked isn't found in a directory.
pub whole_above : (p q : Place) (t : DiskState) (names : Names) (m : Meta) → Metas p.disk names (Ok m) t → BringsAbove p names (Ok names) q
whole_above p q t names m metas = λ dir e is. let (row, stands, meta) = metas.told e.world e.told e.way in ok_error row e.error (sym stands ∙ e.missing)

pub missing_above : (p q : Place) (t : DiskState) (names : Names) (r : Result Names FsError) → Keeps p.disk t → BringsAbove (record p { disk = t }) names r q → BringsAbove p names r q
missing_above p q t names r keeps above = above_after p (record p { disk = t }) q names r (place_disk p t keeps) above

-- The root has no directory above it.
pub root_above : (p q : Place) (names : Names) (r : Result Names FsError) → names ≡ [] → IfOk r (λ at. at ≡ names) → BringsAbove p names r q
root_above p q names (Err e) none same = tt
root_above p q names (Ok at) none same = λ dir e is. no_root dir e.name (sym none ∙ sym same ∙ e.place)

pub lost_above : (p m q : Place) (names above : Names) (found : Option Names) (r : Result Names FsError) → FindsParent p above (Ok found) m → BringsAbove m names r q → BringsAbove p names r q
lost_above p m q names above found r finds brings = above_after p m q names r finds.keeps brings

pub member_above : (p m q : Place) (names asked above dir : Names) (name : Name) (found : Option Names) (r : Result Names FsError) → names ≡ above ++ name ∷ [] → asked ≡ above
    → FindsParent p asked (Ok found) m → found ≡ Some dir → TakesMember m dir name r q → (HasFirst dir dir m.memory → IfOk r (λ at. HasNext dir at q.memory)) → BringsAbove p names r q
member_above p m q names asked above dir name found (Err e) path same finds is takes next = tt
member_above p m q names asked above dir name found (Ok at) path same finds is takes next =
    by_parent (subst (λ z. FindsParent p z (Ok (Some dir)) m) same (subst (λ f. FindsParent p asked (Ok f) m) is finds))
  where
    by_parent : FindsParent p above (Ok (Some dir)) m → BringsAbove p names (Ok at) q
    by_parent finds = λ other e tree.
        let dirs : dir ≡ other = dir_same dir other takes.alike.0 e.name (sym takes.alike.1 ∙ e.place) in
        subst (λ d. HasNext d names q.memory) dirs (elim finds.first [
          | inl root ↦ absurd (e.deep (sym dirs ∙ no_folds dir (finds.alike ∙ ap fold_path root)))
          | inr first ↦ next_alike dir at names q.memory (folds_below names above dir name at path finds.alike takes.alike) (next (first_itself above dir m.memory finds.alike first))
        ])

-- The member of a directory that came first has it next to it.
pub takes_next : (p m : Place) (t : DiskState) (dir : Names) (name : Name) (at : Names) (found : Option Names) → Steps p.disk dir name (Ok found) t → found ≡ Some at → Remembers (record p { disk = t }) at (Ok tt) m
    → HasFirst dir dir p.memory → HasNext dir at m.memory
takes_next p m t dir name at found steps is remembers first =
    let alike : IsAlikeIn dir name at = (subst (λ f. Steps p.disk dir name (Ok f) t) is steps).alike in
    remembers.next dir first (subst (λ z. fold_path z ≢ fold_path dir) (sym alike.1) (folds_apart dir alike.0))

pub appends_next : (p : Place) (dir : Names) (r : Result Names FsError) → HasFirst dir dir p.memory → IfOk r (λ at. HasNext dir at p.memory)
appends_next p dir (Err e) first = tt
appends_next p dir (Ok at) first = first_next dir at p.memory first

pub unheld_recalled : (p q : Place) (names at : Names) (found : Option Names) → Recalls p names (Ok found) q → found ≡ Some at → BringsUnheld p names (Ok at) q
unheld_recalled p q names at found recalls is = λ dir e tree unheld. (subst (λ f. Recalls p names (Ok f) q) is recalls).had unheld dir

pub unheld_unknown : (p m q : Place) (names : Names) (found : Option Names) (r : Result Names FsError) → Recalls p names (Ok found) m → BringsAbove m names r q → BringsUnheld p names r q
unheld_unknown p m q names found (Err e) recalls above = tt
unheld_unknown p m q names found (Ok at) recalls above = λ dir e tree unheld.
    above_after p m q names (Ok at) recalls.keeps above dir e tree

pub keeps_above : (p q : Place) (names : Names) (r : Result Names FsError) → ((w : World) → p.disk.told ≡ Some w → IsWorld w) → BringsUnheld p names r q → KeepsAbove p names r q
keeps_above p q names (Err e) worlds brings = λ folds none. tt
keeps_above p q names (Ok at) worlds brings = λ folds none dir e unheld. brings dir e (worlds e.world e.told).tree unheld

-- ---- what is saved and kept

told_then : (old new : Option PathCache) (c : PathCache) (P : PathCache → Type 0) → is_some new ≡ is_some old → old ≡ Some c → IfSome new P → (d : PathCache) × (new ≡ Some d) × P d
told_then old None c P tells told first = never_some (tells ∙ ap is_some told)
  where
    never_some : {A : Type 0} → false ≡ true → A
    never_some e = cc
told_then old (Some d) c P tells told first = (d, refl, first)

pub keeps_walked : (p q : Place) (names : Names) (r : Result Names FsError) → ((w : World) → p.disk.told ≡ Some w → IsWorld w) → Walks p names r q → KeepsWork p names r q
keeps_walked p q names (Err e) worlds walks = λ folds none c told. tt
keeps_walked p q names (Ok at) worlds walks = λ folds none c told e.
    told_then p.memory.paths q.memory.paths c (λ d. IsFirst names at d.entries) walks.keeps.tells told (walks.first e (worlds e.world e.told).tree)
