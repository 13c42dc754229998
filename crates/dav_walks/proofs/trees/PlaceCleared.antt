-- Where what stood at a path is gone, a path that led there is found as it was asked, below the directory above it, and nothing stands
-- there; a path that led elsewhere is found where it was.
-- Headlines: `source_found` and `place_now`.
use Rattle.std.proofs.Common.{◌≡◌, ◌≤◌, ◌&&◌, ◌||◌, ◌+◌, ◌++◌, ◌<◌, inl, inr, Bool, true, false, not, None, List, [], ◌∷◌, drop, length, refl, sym, ap, subst, ◌∙◌, append_assoc, length-append, arith}
use Rattle.std.proofs.lemmas.Bool.{false_from_ne_true, not-true, not_from_false}
use Rattle.std.specs.List.{list_any}
use Rattle.dav_core.specs.declared.tree.Row.{Row}
use Rattle.dav_core.specs.Changes.{without}
use Rattle.dav_core.specs.Path.{Names, is_front, parent_of, same_names}
use Rattle.dav_core.specs.Tree.{is_dir, is_link, is_linked}
use Rattle.dav_core.specs.World.{World}
use Rattle.dav_core.proofs.Paths.{front_itself, front_rest, names_equal}
use Rattle.dav_core.proofs.Elements.{In, filter_in, in_filter}
use Rattle.dav_core.proofs.Rows.{row_at_in}
use Rattle.dav_model.specs.Finding.{IsLoose, IsOf, is_alike, resolved, resolved_from}
use Rattle.dav_model.specs.Folds.{Name, fold_path, folds_like}
use Rattle.dav_model.specs.Overlap.{overlap, told_apart}
use Rattle.dav_model.specs.Rules.{Rules}
use Rattle.dav_model.specs.Valid.{TellsApart, no_twins}
use Rattle.dav_model.proofs.LooseWalks.{loose_is_walk, parent_pushed, walk_is_loose}
use Rattle.dav_model.proofs.PlainWalks.{plain_resolved}
use Rattle.dav_walks.proofs.calls.ActsJoined.{AllDone, act_by, acts_by}
use Rattle.dav_walks.proofs.trees.StillApart.{apart_fewer}
use Rattle.dav_walks.proofs.trees.FoundBeneath.{row_on_way, taken_apart, walks}
use Rattle.dav_walks.proofs.trees.OthersStay.{Apart, Beside, parts_without}
use Rattle.dav_walks.proofs.trees.FoundStill.{fold_append, found_folds, found_length, loose_below}
use Rattle.dav_walks.proofs.trees.FreePlaces.{Free}
use Rattle.dav_walks.proofs.removals.RemovalsAllowed.{none_any}
use Rattle.dav_walks.proofs.trees.TreeRows.{DirAt, Parts, any_none, front_length, front_of, front_parent, front_then, not_both}

-- ---- loose walks over rows that stand at the same paths

pub of_in : (rows : List Row) (r : Row) → In r rows → IsOf r rows
of_in [] r i = i
of_in (x ∷ rows) r (inl same) = inl same
of_in (x ∷ rows) r (inr i) = inr (of_in rows r i)

pub in_of : (rows : List Row) (r : Row) → IsOf r rows → In r rows
in_of [] r i = i
in_of (x ∷ rows) r (inl same) = inl same
in_of (x ∷ rows) r (inr i) = inr (in_of rows r i)

alike_same : (folds : Bool) (at : Names) (name : Name) (r s : Row) → r.path ≡ s.path → is_alike folds at name r ≡ is_alike folds at name s
alike_same folds at name r s e = ap (λ (p : Names). same_names (at ++ name ∷ []) p || (folds && (same_names (parent_of p) at && folds_like p (at ++ name ∷ [])))) e

pub alike_exact : (folds : Bool) (at : Names) (name : Name) (r : Row) → r.path ≡ at ++ name ∷ [] → is_alike folds at name r ≡ true
alike_exact folds at name r e =
    ap (λ b. b || (folds && (same_names (parent_of r.path) at && folds_like r.path (at ++ name ∷ [])))) (names_equal (at ++ name ∷ []) r.path (sym e))

loose_now : (folds : Bool) (old now : List Row) (at names end : Names) → ((r : Row) → In r old → is_front r.path end ≡ true → (s : Row) × In s now × (s.path ≡ r.path))
    → ((r : Row) → In r now → (o : Row) × In o old × (o.path ≡ r.path)) → IsLoose folds old at names end → IsLoose folds now at names end
loose_now folds old now at [] end on back walk = walk
loose_now folds old now at (name ∷ names) end on back (inl (next, of, alike, walk)) =
    let p = loose_below folds old next.path names end walk in
    let (s, i, here) = on next (in_of old next of) (front_of next.path end p.0 p.1) in
    inl (s, of_in now s i, alike_same folds at name s next here ∙ alike, subst (λ z. IsLoose folds now z names end) (sym here) (loose_now folds old now next.path names end on back walk))
loose_now folds old now at (name ∷ names) end on back (inr (none, e)) =
    inr (any_none (is_alike folds at name) now (λ r i. (let (o, j, here) = back r i in alike_same folds at name r o (sym here) ∙ none_any (is_alike folds at name) old o none j)), e)

-- A walk to what stands goes on from there.
pub loose_then : (folds : Bool) (tree : List Row) (parts : Parts tree) (at names mid rest end : Names) (d : Row) → In d tree → d.path ≡ mid → IsLoose folds tree at names mid → IsLoose folds tree mid rest end
    → IsLoose folds tree at (names ++ rest) end
loose_then folds tree parts at [] mid rest end d i here walk more = subst (λ z. IsLoose folds tree z rest end) walk more
loose_then folds tree parts at (name ∷ names) mid rest end d i here (inl (next, of, alike, walk)) more =
    inl (next, of, alike, loose_then folds tree parts next.path names mid rest end d i here walk more)
loose_then folds tree parts at (name ∷ names) mid rest end d i here (inr (none, e)) more =
    let on : d.path ≡ (at ++ name ∷ []) ++ names = here ∙ (e ∙ sym (append_assoc at (name ∷ []) names)) in
    let (s, there) = row_on_way tree parts (at ++ name ∷ []) d i (front_of (at ++ name ∷ []) d.path names on) in
    let (j, same) = row_at_in tree (at ++ name ∷ []) s there in
    not_both (is_alike folds at name s) (alike_exact folds at name s same) (none_any (is_alike folds at name) tree s none j)

-- ---- places of paths that don't overlap

told_walk : (rules : Rules) (folds : Bool) (tree : List Row) (names : Names) → told_apart folds (resolved_from folds tree [] names) ≡ told_apart folds names
told_walk rules true tree names = found_folds true tree [] names
told_walk rules false tree names = plain_resolved rules.settings tree names

told_front : (folds : Bool) (a b : Names) → is_front a b ≡ true → is_front (told_apart folds a) (told_apart folds b) ≡ true
told_front true a b e = front_of (fold_path a) (fold_path b) (fold_path (drop (length a) b)) (ap fold_path (front_rest a b e) ∙ fold_append a (drop (length a) b))
told_front false a b e = e

module _ (rules : Rules) (alone : rules.alone ≡ None) where
  told_place : (tree : List Row) (names : Names) → told_apart rules.folds (resolved rules tree names) ≡ told_apart rules.folds names
  told_place tree names = ap (told_apart rules.folds) (walks rules alone tree names) ∙ told_walk rules rules.folds tree names

  pub apart_places : (tree : List Row) (from to : Names) → overlap rules.folds from to ≡ false → Apart (resolved rules tree from) (resolved rules tree to)
  apart_places tree from to e = by (is_front (told_apart rules.folds from) (told_apart rules.folds to)) (is_front (told_apart rules.folds to) (told_apart rules.folds from)) refl refl e
    where
      never : (a b : Names) → is_front (told_apart rules.folds a) (told_apart rules.folds b) ≡ false → is_front (resolved rules tree a) (resolved rules tree b) ≡ false
      never a b f = false_from_ne_true (is_front (resolved rules tree a) (resolved rules tree b))
          (λ g. not_both (is_front (told_apart rules.folds a) (told_apart rules.folds b))
          (subst (λ z. is_front z (told_apart rules.folds b) ≡ true) (told_place tree a)
          (subst (λ z. is_front (told_apart rules.folds (resolved rules tree a)) z ≡ true) (told_place tree b) (told_front rules.folds (resolved rules tree a) (resolved rules tree b) g))) f)

      by : (a b : Bool) → is_front (told_apart rules.folds from) (told_apart rules.folds to) ≡ a → is_front (told_apart rules.folds to) (told_apart rules.folds from) ≡ b → (a || b) ≡ false
          → Apart (resolved rules tree from) (resolved rules tree to)
      by true b p q f = cc
      by false true p q f = cc
      by false false p q f = record { one = never from to p; two = never to from q }

  pub place_length : (tree : List Row) (names : Names) → length (resolved rules tree names) ≡ length names
  place_length tree names = ap length (walks rules alone tree names) ∙ found_length rules.folds tree names

  -- ---- what stood at a path is gone

  -- All stands that stood, but for what was at a path and below it.
  pub record Lacks (top : Names) (old now : List Row) : Type 0 where
    pub parts : Parts now
    pub apart : rules.folds ≡ true → no_twins now ≡ true
    pub up : (r : Row) → In r old → is_front top r.path ≡ false → (s : Row) × In s now × (s.path ≡ r.path) × (s.kind ≡ r.kind)
    pub back : (r : Row) → In r now → (is_front top r.path ≡ false) × (o : Row) × In o old × (o.path ≡ r.path) × (o.kind ≡ r.kind)

  pub lacks_without : (top : Names) (v : World) → 0 < length top → Parts v.tree → TellsApart rules v → Lacks top v.tree (without top v.tree)
  lacks_without top v some parts apart = record {
    parts = parts_without top v.tree some parts;
    apart = λ folds. apart_fewer (λ (row : Row). not (is_front top row.path)) v.tree (apart folds);
    up = λ r i other. (r, filter_in (λ row. not (is_front top row.path)) v.tree r (not_from_false (is_front top r.path) other) i, refl, refl);
    back = λ r i. (let (j, kept) = in_filter (λ row. not (is_front top row.path)) v.tree r i in (not-true (is_front top r.path) kept, r, j, refl, refl));
  }

  pub lacks_beside : (from top : Names) (v u : World) → Beside from top v u → Parts u.tree → TellsApart rules u → Free top u.tree → Lacks top v.tree u.tree
  lacks_beside from top v u beside parts apart free =
      record { parts = parts; apart = apart; up = λ r i other. beside.up r i other; back = λ r i. (let (o, j, at, kind) = beside.back r i (free r i) in (free r i, o, j, at, kind)) }

  -- Removals leave no two names that fold alike where there were none.
  pub removed_apart : (deep : Names → Bool) (all : List Names) (v u : World) → TellsApart rules v → AllDone (acts_by deep all) v u → TellsApart rules u
  removed_apart deep [] v u apart same = λ folds. ap no_twins same.tree ∙ apart folds
  removed_apart deep (p ∷ all) v u apart done = by (deep p) done (λ m now rest. removed_apart deep all m u now rest)
    where
      by : (b : Bool) → AllDone (act_by b p ∷ acts_by deep all) v u → ((m : World) → TellsApart rules m → AllDone (acts_by deep all) m u → TellsApart rules u) → TellsApart rules u
      by true done more = absurd done
      by false (m, edited, rest) more = more m (taken_apart rules alone p v m apart edited) rest

  -- What lies beside is found where it was.
  pub source_found : (top : Names) (old now : List Row) (names : Names) → Lacks top old now → is_front top (resolved rules old names) ≡ false → resolved rules now names ≡ resolved rules old names
  source_found top old now names l other =
      let at : Names = resolved_from rules.folds old [] names in
      let here : resolved rules old names ≡ at = walks rules alone old names in
      walks rules alone now names
      ∙ (sym (loose_is_walk rules.folds now [] names at l.apart
      (loose_now rules.folds old now [] names at
      (λ r i front. (let (s, j, same, kind) = l.up r i (false_from_ne_true (is_front top r.path)
      (λ e. not_both (is_front top (resolved rules old names)) (front_then top r.path (resolved rules old names) e (subst (λ z. is_front r.path z ≡ true) (sym here) front)) other)) in (s, j, same)))
      (λ r i. (let (out, o, j, same, kind) = l.back r i in (o, j, same))) (walk_is_loose rules.folds old [] names)))
      ∙ sym here)

  -- a path that led to what is gone, and the directory above it
  pub record Gone (old now : List Row) (names : Names) : Type 0 where
    pub up : Names
    pub last : Name
    pub is : names ≡ up ++ last ∷ []
    pub lacks : Lacks (resolved rules old names) old now
    pub parts : Parts old
    pub apart : rules.folds ≡ true → no_twins old ≡ true
    pub dir : DirAt old (resolved rules old up)

  module _ (old now : List Row) (names : Names) (g : Gone old now names) where
    abbrev pub top : Names
    top = resolved rules old names

    abbrev pub above_at : Names
    above_at = resolved rules old g.up

    -- where it is found now
    abbrev pub new_place : Names
    new_place = above_at ++ g.last ∷ []

    not_above : is_front top above_at ≡ false
    not_above = false_from_ne_true (is_front top above_at) (λ e. (let le : length top ≤ length above_at = front_length top above_at e in
        let long : length top ≡ length g.up + 1 = place_length old names ∙ (ap length g.is ∙ length-append g.up (g.last ∷ [])) in
        let short : length above_at ≡ length g.up = place_length old g.up in
        omega (arith, le, long, short)))

    pub dir_now : DirAt now above_at
    dir_now =
        let (s, i, here, kind) = g.lacks.up g.dir.row g.dir.in_tree (subst (λ z. is_front top z ≡ false) (sym g.dir.at) not_above) in
        record { row = s; in_tree = i; at = here ∙ g.dir.at; dir = ap is_dir kind ∙ g.dir.dir }

    -- no name there is like it
    pub none_alike : list_any (is_alike rules.folds above_at g.last) now ≡ false
    none_alike = any_none (is_alike rules.folds above_at g.last) now (λ r i. false_from_ne_true (is_alike rules.folds above_at g.last r) (λ e. never r i e))
      where
        up_walk : IsLoose rules.folds old [] g.up above_at
        up_walk = subst (IsLoose rules.folds old [] g.up) (sym (walks rules alone old g.up)) (walk_is_loose rules.folds old [] g.up)

        never : (r : Row) → In r now → is_alike rules.folds above_at g.last r ≡ true → ⊥
        never r i e =
            let (out, o, j, same, kind) = g.lacks.back r i in
            let walk : IsLoose rules.folds old [] (g.up ++ g.last ∷ []) o.path =
            loose_then rules.folds old g.parts [] g.up above_at (g.last ∷ []) o.path g.dir.row g.dir.in_tree g.dir.at up_walk
            (inl (o, of_in old o j, alike_same rules.folds above_at g.last o r same ∙ e, refl)) in
            let is : o.path ≡ top = loose_is_walk rules.folds old [] (g.up ++ g.last ∷ []) o.path g.apart walk
            ∙ (ap (resolved_from rules.folds old []) (sym g.is) ∙ sym (walks rules alone old names)) in
            not_both (is_front top r.path) (subst (λ z. is_front top z ≡ true) (sym is ∙ same) (front_itself top)) out

    pub place_now : resolved rules now names ≡ new_place
    place_now =
        let up_now : IsLoose rules.folds now [] g.up above_at =
        subst (IsLoose rules.folds now [] g.up) (sym (walks rules alone now g.up) ∙ source_found top old now g.up g.lacks not_above) (walk_is_loose rules.folds now [] g.up) in
        walks rules alone now names ∙ (ap (resolved_from rules.folds now []) g.is
        ∙ sym (loose_is_walk rules.folds now [] (g.up ++ g.last ∷ []) new_place g.lacks.apart
        (loose_then rules.folds now g.lacks.parts [] g.up above_at (g.last ∷ []) new_place dir_now.row dir_now.in_tree dir_now.at up_now (inr (none_alike, refl)))))

    pub free_now : Free new_place now
    free_now r i = false_from_ne_true (is_front new_place r.path) (λ e. (let (s, there) = row_on_way now g.lacks.parts new_place r i e in
        let (j, same) = row_at_in now new_place s there in
        not_both (is_alike rules.folds above_at g.last s) (alike_exact rules.folds above_at g.last s same) (none_any (is_alike rules.folds above_at g.last) now s none_alike j)))

    -- no link is met on the way
    pub link_now : is_linked now above_at ≡ false → is_linked now new_place ≡ false
    link_now clear = any_none (λ row. is_link row.kind && is_front row.path new_place) now (λ r i. by r i (is_link r.kind) (is_front r.path new_place) refl refl)
      where
        parent : parent_of new_place ≡ above_at
        parent = parent_pushed above_at g.last

        by : (r : Row) → In r now → (a b : Bool) → is_link r.kind ≡ a → is_front r.path new_place ≡ b → (is_link r.kind && is_front r.path new_place) ≡ false
        by r i false b e f = ap (λ z. z && is_front r.path new_place) e
        by r i true false e f = ap (λ z. is_link r.kind && z) f ∙ ap (λ z. z && false) e
        by r i true true e f =
            let up : is_front r.path above_at ≡ true = subst (λ z. is_front r.path z ≡ true) parent
            (front_parent r.path new_place f (λ same. not_both (is_front new_place r.path) (subst (λ z. is_front new_place z ≡ true) (sym same) (front_itself new_place)) (free_now r i))) in
            not_both (is_link r.kind && is_front r.path above_at) (ap (λ z. z && is_front r.path above_at) e ∙ up)
            (none_any (λ row. is_link row.kind && is_front row.path above_at) now r clear i)
