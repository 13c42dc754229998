-- While a tree is copied, the source is found where it was, and each path below the destination where it is asked: nothing stands there
-- whose name folds like it.
-- Headlines: `source_found` and `into_found`.
use Rattle.std.proofs.Common.{◌≡◌, ◌<◌, ◌⊎◌, ◌&&◌, ◌||◌, ◌+◌, ◌++◌, List, [], ◌∷◌, length, drop, Bool, true, false, not, None, refl, sym, ap, subst, ◌∙◌, arith, inl, inr, append_assoc, append-nil, length-append}
use Rattle.std.specs.List.{list_any, list_all}
use Rattle.std.proofs.Math.Seq.{drop-append_seam}
use Rattle.std.proofs.lemmas.Bool.{and_from, and_parts, false_from_ne_true, or_cases, or_parts}
use Rattle.std.proofs.lemmas.List.{length-map}
use Rattle.dav_core.specs.declared.tree.Kind.{Kind}
use Rattle.dav_core.specs.declared.tree.Row.{Row}
use Rattle.dav_core.specs.Changes.{timed_row}
use Rattle.dav_core.specs.DavPath.{WebPath}
use Rattle.dav_core.specs.Edits.{Edited, makes}
use Rattle.dav_core.specs.Path.{Names, is_front, parent_of, same_names}
use Rattle.dav_core.specs.Tree.{is_linked}
use Rattle.dav_core.specs.World.{IsWorld, World}
use Rattle.dav_core.proofs.Paths.{front_rest, names_equal, names_same, parent_and_last}
use Rattle.dav_core.proofs.Elements.{In, all_at, all_in, in_either}
use Rattle.dav_core.proofs.Rows.{row_at_in}
use Rattle.dav_model.specs.Finding.{IsLoose, is_alike, resolved, resolved_from}
use Rattle.dav_model.specs.Folds.{Name, fold_name, fold_path, folds_like}
use Rattle.dav_model.specs.Plans.{has_link_below}
use Rattle.dav_model.specs.Rules.{Rules}
use Rattle.dav_model.specs.Valid.{TellsApart, are_twins, no_twins}
use Rattle.dav_model.proofs.LooseWalks.{loose_is_walk, parent_pushed, walk_is_loose}
use Rattle.dav_walks.proofs.trees.NoLinkAbove.{parted}
use Rattle.dav_walks.proofs.trees.StillApart.{apart_timed}
use Rattle.dav_walks.proofs.trees.FoundBeneath.{found_below, row_on_way, walks}
use Rattle.dav_walks.proofs.trees.OthersStay.{Apart, front_up}
use Rattle.dav_walks.proofs.copies.CopyCovers.{dest, dest_below, dest_from, dest_parent}
use Rattle.dav_walks.proofs.copies.WhileCopied.{older}
use Rattle.dav_walks.proofs.trees.FoundStill.{alike_folds, fold_append, found_timed}
use Rattle.dav_walks.proofs.trees.FreePlaces.{Free}
use Rattle.dav_walks.proofs.trees.PlaceCleared.{alike_exact, in_of, loose_then, of_in}
use Rattle.dav_walks.proofs.removals.RemovalsAllowed.{none_any, timed_path}
use Rattle.dav_walks.proofs.trees.TreeRows.{DirAt, Parts, any_none, front_equal, front_length, front_of, front_parent, front_then, not_both, parts_of}
use Rattle.dav_walks.proofs.removals.RemovalOrder.{in_left, in_paths, in_right, paths}

-- ---- paths that fold alike

-- a path is another, or lies in its directory and folds like it
abbrev pub is_like : Bool → Names → Names → Bool
is_like folds path other = same_names path other || (folds && (same_names (parent_of other) (parent_of path) && folds_like other path))

pub like_alike : (folds : Bool) (at : Names) (name : Name) (r : Row) → is_alike folds at name r ≡ is_like folds (at ++ name ∷ []) r.path
like_alike folds at name r = ap (λ z. same_names (at ++ name ∷ []) r.path || (folds && (same_names (parent_of r.path) z && folds_like r.path (at ++ name ∷ [])))) (sym (parent_pushed at name))

-- Of rows of which no two fold alike one has such a path.
pub only_like : (folds : Bool) (rows : List Row) → (folds ≡ true → no_twins rows ≡ true) → (r s : Row) → In r rows → In s rows → 0 < length s.path → is_like folds s.path r.path ≡ true → r.path ≡ s.path
only_like folds rows apart r s i j some like =
    let (last, is) = parent_and_last s.path some in
    let at = parent_of s.path in
    let alike : is_alike folds at last r ≡ true = like_alike folds at last r ∙ (ap (λ z. is_like folds z r.path) (sym is) ∙ like) in
    loose_is_walk folds rows at (last ∷ []) r.path apart (inl (r, of_in rows r i, alike, refl))
    ∙ sym (loose_is_walk folds rows at (last ∷ []) s.path apart (inl (s, of_in rows s j, alike_exact folds at last s is, refl)))

-- ---- a row more

apart_more : (row : Row) (rows : List Row) → no_twins rows ≡ true → ((r : Row) → In r rows → are_twins r row ≡ false) → no_twins (rows ++ row ∷ []) ≡ true
apart_more row [] apart none = refl
apart_more row (r ∷ rows) apart none =
    let p = and_parts (list_all (λ other. not (are_twins r other)) rows) (no_twins rows) apart in
    and_from (list_all (λ other. not (are_twins r other)) (rows ++ row ∷ [])) (no_twins (rows ++ row ∷ []))
    (all_in (λ other. not (are_twins r other)) (rows ++ row ∷ []) (λ s i. by s p.0 (in_either s rows (row ∷ []) i)))
    (apart_more row rows p.1 (λ s i. none s (inr i)))
  where
    by : (s : Row) → list_all (λ other. not (are_twins r other)) rows ≡ true → In s rows ⊎ In s (row ∷ []) → not (are_twins r s) ≡ true
    by s all (inl j) = all_at (λ other. not (are_twins r other)) rows s all j
    by s all (inr (inl same)) = ap (λ (z : Row). not (are_twins r z)) same ∙ ap not (none r (inl refl))
    by s all (inr (inr never)) = absurd never

-- the row lies where a walk ends or below, or a row stands where it ends
abbrev Meets : List Row → Names → Names → Type 0
Meets tree end path = (is_front end path ≡ true) ⊎ ((d : Row) × In d tree × (d.path ≡ end))

alike_length : (folds : Bool) (at : Names) (name : Name) (row : Row) → is_alike folds at name row ≡ true → length row.path ≡ length at + 1
alike_length folds at name row e =
    sym (length-map row.path fold_name) ∙ (ap length (alike_folds folds at name row e) ∙ (length-map (at ++ name ∷ []) fold_name ∙ length-append at (name ∷ [])))

loose_more : (folds : Bool) (tree : List Row) → Parts tree → (row : Row) (at names end : Names) → Meets tree end row.path → IsLoose folds tree at names end → IsLoose folds (tree ++ row ∷ []) at names end
loose_more folds tree parts row at [] end meets walk = walk
loose_more folds tree parts row at (name ∷ names) end meets (inl (next, of, alike, walk)) =
    inl (next, of_in (tree ++ row ∷ []) next (in_left next tree (row ∷ []) (in_of tree next of)), alike, loose_more folds tree parts row next.path names end meets walk)
loose_more folds tree parts row at (name ∷ names) end (inr (d, i, here)) (inr (none, e)) =
    let on : d.path ≡ (at ++ name ∷ []) ++ names = here ∙ (e ∙ sym (append_assoc at (name ∷ []) names)) in
    let (s, there) = row_on_way tree parts (at ++ name ∷ []) d i (front_of (at ++ name ∷ []) d.path names on) in
    let (j, same) = row_at_in tree (at ++ name ∷ []) s there in
    not_both (is_alike folds at name s) (alike_exact folds at name s same) (none_any (is_alike folds at name) tree s none j)
loose_more folds tree parts row at (name ∷ names) end (inl front) (inr (none, e)) = by (is_alike folds at name row) refl
  where
    others : is_alike folds at name row ≡ false → (r : Row) → In r tree ⊎ In r (row ∷ []) → is_alike folds at name r ≡ false
    others other r (inl j) = none_any (is_alike folds at name) tree r none j
    others other r (inr (inl same)) = ap (is_alike folds at name) same ∙ other
    others other r (inr (inr never)) = absurd never

    ended : (names : Names) → end ≡ at ++ name ∷ names → length row.path ≡ length at + 1 → is_alike folds at name row ≡ true → IsLoose folds (tree ++ row ∷ []) at (name ∷ names) end
    ended [] is long alike =
        let short : length end ≡ length at + 1 = ap length is ∙ length-append at (name ∷ []) in
        inl (row, of_in (tree ++ row ∷ []) row (in_right row tree (row ∷ []) (inl refl)), alike, front_equal end row.path front (omega (arith, long, short)))
    ended (other ∷ rest) is long alike =
        let more : length end ≡ length at + length (name ∷ other ∷ rest) = ap length is ∙ length-append at (name ∷ other ∷ rest) in
        absurd (omega (arith, long, more, front_length end row.path front))

    by : (b : Bool) → is_alike folds at name row ≡ b → IsLoose folds (tree ++ row ∷ []) at (name ∷ names) end
    by false other = inr (any_none (is_alike folds at name) (tree ++ row ∷ []) (λ r i. others other r (in_either r tree (row ∷ []) i)), e)
    by true alike = ended names e (alike_length folds at name row alike) alike

-- ---- where paths are copied to

dest_same : (from to p q : Names) → is_front from p ≡ true → is_front from q ≡ true → dest from to p ≡ dest from to q → p ≡ q
dest_same from to p q below_p below_q e =
    let dp = drop (length from) p in
    let dq = drop (length from) q in
    let rest : dp ≡ dq = sym (drop-append_seam to dp) ∙ (ap (drop (length to)) e ∙ drop-append_seam to dq) in
    front_rest from p below_p ∙ (ap (λ z. from ++ z) rest ∙ sym (front_rest from q below_q))

dest_folds : (from to p q : Names) → is_front from p ≡ true → is_front from q ≡ true → fold_path (dest from to p) ≡ fold_path (dest from to q) → fold_path p ≡ fold_path q
dest_folds from to p q below_p below_q e =
    let dp = drop (length from) p in
    let dq = drop (length from) q in
    let rest : fold_path dp ≡ fold_path dq =
    sym (drop-append_seam (fold_path to) (fold_path dp))
    ∙ (ap (drop (length (fold_path to))) (sym (fold_append to dp) ∙ (e ∙ fold_append to dq)) ∙ drop-append_seam (fold_path to) (fold_path dq)) in
    ap fold_path (front_rest from p below_p)
    ∙ (fold_append from dp ∙ (ap (λ z. fold_path from ++ z) rest ∙ (sym (fold_append from dq) ∙ ap fold_path (sym (front_rest from q below_q)))))

folds_length : (p q : Names) → fold_path p ≡ fold_path q → length p ≡ length q
folds_length p q e = sym (length-map p fold_name) ∙ (ap length e ∙ length-map q fold_name)

-- Two paths of a tree aren't copied to where one folds like the other.
apart_dests : (folds : Bool) (from to : Names) (rows : List Row) → (folds ≡ true → no_twins rows ≡ true) → 0 < length from → (p q : Names) → In p (paths rows) → In q (paths rows)
    → is_front from p ≡ true → is_front from q ≡ true → (p ≡ q → ⊥) → is_like folds (dest from to q) (dest from to p) ≡ false
apart_dests folds from to rows apart some p q i j below_p below_q other =
    false_from_ne_true (is_like folds (dest from to q) (dest from to p))
    (λ e. by (or_cases (same_names (dest from to q) (dest from to p)) (folds && (same_names (parent_of (dest from to p)) (parent_of (dest from to q)) && folds_like (dest from to p) (dest from to q))) e))
  where
    long_q : 0 < length q
    long_q = omega (arith, some, front_length from q below_q)

    long_p : 0 < length p
    long_p = omega (arith, some, front_length from p below_p)

    same_or : (a b c d : Bool) → b ≡ true → c ≡ true → d ≡ true → (a || (b && (c && d))) ≡ true
    same_or true b c d e f g = refl
    same_or false b c d e f g = rw (e, f, g) refl

    never : folds ≡ true → parent_of p ≡ parent_of q → fold_path p ≡ fold_path q → ⊥
    never e up f =
        let (r, k, here) = in_paths p rows i in
        let (s, l, there) = in_paths q rows j in
        let like : is_like folds q p ≡ true =
        same_or (same_names q p) folds (same_names (parent_of p) (parent_of q)) (folds_like p q) e (names_equal (parent_of p) (parent_of q) up) (names_equal (fold_path p) (fold_path q) f) in
        let likely : is_like folds s.path r.path ≡ true = ap (λ z. is_like folds z r.path) there ∙ (ap (is_like folds q) here ∙ like) in
        other (sym here ∙ (only_like folds rows apart r s k l (subst (λ z. 0 < length z) (sym there) long_q) likely ∙ there))

    fold_parts : same_names (parent_of (dest from to p)) (parent_of (dest from to q)) ≡ true → fold_path (dest from to p) ≡ fold_path (dest from to q) → folds ≡ true → ⊥
    fold_parts up f e = at_top (same_names from p) refl (same_names from q) refl
      where
        alike : fold_path p ≡ fold_path q
        alike = dest_folds from to p q below_p below_q f

        long : length p ≡ length q
        long = folds_length p q alike

        at_top : (a : Bool) → same_names from p ≡ a → (b : Bool) → same_names from q ≡ b → ⊥
        at_top true g b h =
            let here : from ≡ p = names_same from p g in
            let there : from ≡ q = front_equal from q below_q (omega (arith, long, ap length here)) in
            other (sym here ∙ there)
        at_top false g true h =
            let there : from ≡ q = names_same from q h in
            let here : from ≡ p = front_equal from p below_p (omega (arith, long, ap length there)) in
            other (sym here ∙ there)
        at_top false g false h =
            let up_p : is_front from (parent_of p) ≡ true = front_parent from p below_p (λ k. not_both (same_names from p) (names_equal from p k) g) in
            let up_q : is_front from (parent_of q) ≡ true = front_parent from q below_q (λ k. not_both (same_names from q) (names_equal from q k) h) in
            never e
            (dest_same from to (parent_of p) (parent_of q) up_p up_q
            (sym (dest_parent from to p up_p long_p) ∙ (names_same (parent_of (dest from to p)) (parent_of (dest from to q)) up ∙ dest_parent from to q up_q long_q))) alike

    by : (same_names (dest from to q) (dest from to p) ≡ true) ⊎ ((folds && (same_names (parent_of (dest from to p)) (parent_of (dest from to q)) && folds_like (dest from to p) (dest from to q))) ≡ true) → ⊥
    by (inl same) = other (sym (dest_same from to q p below_q below_p (names_same (dest from to q) (dest from to p) same)))
    by (inr all) =
        let (e, rest) = and_parts folds (same_names (parent_of (dest from to p)) (parent_of (dest from to q)) && folds_like (dest from to p) (dest from to q)) all in
        let (up, f) = and_parts (same_names (parent_of (dest from to p)) (parent_of (dest from to q))) (folds_like (dest from to p) (dest from to q)) rest in
        fold_parts up (names_same (fold_path (dest from to p)) (fold_path (dest from to q)) f) e

-- ---- what a copy began with

-- The world in which a copy begins: the source stands at its place, and nothing at the place of the destination or below, nor a name
-- that folds like it; the directory above that stands; and no link is met.
pub record Base (rules : Rules) (source into : WebPath) : Type 0 where
  pub v : World
  pub from : Names
  pub to : Names
  pub world : IsWorld v
  pub regular : TellsApart rules v
  pub source_found : resolved rules v.tree source.names ≡ from
  pub into_found : resolved rules v.tree into.names ≡ to
  pub long : length source.names ≡ length from
  pub row : Row
  pub in_tree : In row v.tree
  pub at : row.path ≡ from
  pub apart : Apart from to
  pub up : DirAt v.tree (parent_of to)
  pub from_clear : is_linked v.tree from ≡ false
  pub from_below : has_link_below v.tree from ≡ false
  pub up_clear : is_linked v.tree (parent_of to) ≡ false
  pub free : Free to v.tree
  pub lone : (r : Row) → In r v.tree → is_like rules.folds to r.path ≡ false

module _ (rules : Rules) (alone : rules.alone ≡ None) where
  found_more : (tree : List Row) → Parts tree → (row : Row) (asked end : Names) → (rules.folds ≡ true → no_twins (tree ++ row ∷ []) ≡ true) → Meets tree end row.path → resolved rules tree asked ≡ end
      → resolved rules (tree ++ row ∷ []) asked ≡ end
  found_more tree parts row asked end apart meets is =
      walks rules alone (tree ++ row ∷ []) asked
      ∙ sym (loose_is_walk rules.folds (tree ++ row ∷ []) [] asked end apart
      (loose_more rules.folds tree parts row [] asked end meets (subst (IsLoose rules.folds tree [] asked) (sym (walks rules alone tree asked) ∙ is) (walk_is_loose rules.folds tree [] asked))))

  -- Where a row is made that folds like none, no two fold alike.
  twinless_more : (row : Row) (rows : List Row) → (rules.folds ≡ true → no_twins rows ≡ true) → ((r : Row) → In r rows → is_like rules.folds row.path r.path ≡ false)
      → rules.folds ≡ true → no_twins (rows ++ row ∷ []) ≡ true
  twinless_more row rows apart none folds = apart_more row rows (apart folds) (λ r i. by rules.folds folds (or_parts (same_names row.path r.path) (rules.folds && are_twins r row) (none r i)).1)
    where
      by : (f : Bool) → f ≡ true → {b : Bool} → (f && b) ≡ false → b ≡ false
      by true e n = n
      by false e n = cc

  pub made_apart : (path : Names) (kind : Kind) (bytes : List _) (u w : World) → TellsApart rules u → ((r : Row) → In r u.tree → is_like rules.folds path r.path ≡ false) → Edited (makes path kind bytes) u w
      → TellsApart rules w
  made_apart path kind bytes u w apart none (number, s, t, next, new, dir, e) folds =
      let row : Row = record { path = path; kind = kind; number = number; time = s } in
      ap no_twins e.tree
      ∙ (apart_timed (timed_row (parent_of path) t) (λ r. timed_path (same_names (parent_of path) r.path) (parent_of path) t r refl) (u.tree ++ row ∷ []) ∙ twinless_more row u.tree apart none folds)

  -- What was made changes no other place.
  made_found : (path asked end : Names) (kind : Kind) (bytes : List _) (u w : World) → Parts u.tree → TellsApart rules u → ((r : Row) → In r u.tree → is_like rules.folds path r.path ≡ false)
      → Meets u.tree end path → Edited (makes path kind bytes) u w → resolved rules u.tree asked ≡ end → resolved rules w.tree asked ≡ end
  made_found path asked end kind bytes u w parts apart none meets (number, s, t, next, new, dir, e) is =
      let row : Row = record { path = path; kind = kind; number = number; time = s } in
      walks rules alone w.tree asked
      ∙ (ap (λ (rows : List Row). resolved_from rules.folds rows [] asked) e.tree
      ∙ (found_timed (timed_row (parent_of path) t) (λ r. timed_path (same_names (parent_of path) r.path) (parent_of path) t r refl) rules.folds (u.tree ++ row ∷ []) [] asked
      ∙ (sym (walks rules alone (u.tree ++ row ∷ []) asked) ∙ found_more u.tree parts row asked end (twinless_more row u.tree apart none) meets is)))

  -- a name that is asked below a directory, where none folds like it
  pub found_new : (tree : List Row) → Parts tree → (rules.folds ≡ true → no_twins tree ≡ true) → (asked top rest : Names) → resolved rules tree asked ≡ top → DirAt tree (parent_of (top ++ rest))
      → ((r : Row) → In r tree → is_like rules.folds (top ++ rest) r.path ≡ false) → resolved rules tree (asked ++ rest) ≡ top ++ rest
  found_new tree parts apart asked top rest base d none = by (parted rest)
    where
      by : (rest ≡ []) ⊎ ((init : Names) × (last : Name) × (rest ≡ init ++ last ∷ [])) → resolved rules tree (asked ++ rest) ≡ top ++ rest
      by (inl e) = ap (λ z. resolved rules tree (asked ++ z)) e ∙ (ap (resolved rules tree) (append-nil asked) ∙ (base ∙ (sym (append-nil top) ∙ ap (λ z. top ++ z) (sym e))))
      by (inr (init, last, e)) =
          let mid = top ++ init in
          let whole : top ++ rest ≡ mid ++ last ∷ [] = ap (λ z. top ++ z) e ∙ sym (append_assoc top init (last ∷ [])) in
          let up : DirAt tree mid = subst (DirAt tree) (ap parent_of whole ∙ parent_pushed mid last) d in
          let walk : IsLoose rules.folds tree [] (asked ++ init) mid =
          subst (IsLoose rules.folds tree [] (asked ++ init)) (sym (walks rules alone tree (asked ++ init)) ∙ found_below rules alone tree parts asked top init base up.row up.in_tree up.at)
          (walk_is_loose rules.folds tree [] (asked ++ init)) in
          let free : list_any (is_alike rules.folds mid last) tree ≡ false =
          any_none (is_alike rules.folds mid last) tree (λ r i. like_alike rules.folds mid last r ∙ (ap (λ z. is_like rules.folds z r.path) (sym whole) ∙ none r i)) in
          let names : asked ++ rest ≡ (asked ++ init) ++ last ∷ [] = ap (λ z. asked ++ z) e ∙ sym (append_assoc asked init (last ∷ [])) in
          ap (resolved rules tree) names
          ∙ (walks rules alone tree ((asked ++ init) ++ last ∷ [])
          ∙ (sym (loose_is_walk rules.folds tree [] ((asked ++ init) ++ last ∷ []) (mid ++ last ∷ []) apart
          (loose_then rules.folds tree parts [] (asked ++ init) mid (last ∷ []) (mid ++ last ∷ []) up.row up.in_tree up.at walk (inr (free, refl)))) ∙ sym whole))

  module _ (source into : WebPath) where
    -- Of a world in which some of it was copied: paths are found where they were, and no name is like one that is to come.
    pub record Kept (b : Base rules source into) (u : World) (left : List Names) : Type 0 where
      pub apart : TellsApart rules u
      pub source_found : resolved rules u.tree source.names ≡ b.from
      pub into_found : resolved rules u.tree into.names ≡ b.to
      pub lone : (q : Names) → In q left → (r : Row) → In r u.tree → is_like rules.folds (dest b.from b.to q) r.path ≡ false

    pub kept_same : (b : Base rules source into) (u w : World) (left : List Names) → w.tree ≡ u.tree → Kept b u left → Kept b w left
    kept_same b u w left same kept = record {
      apart = λ folds. ap no_twins same ∙ kept.apart folds;
      source_found = ap (λ (rows : List Row). resolved rules rows source.names) same ∙ kept.source_found;
      into_found = ap (λ (rows : List Row). resolved rules rows into.names) same ∙ kept.into_found;
      lone = λ q j r i. kept.lone q j r (subst (In r) same i);
    }

    -- the first that was to come was made
    pub kept_made : (b : Base rules source into) (u w : World) (p : Names) (kind : Kind) (bytes : List _) (left : List Names) → IsWorld u → In b.row u.tree
        → ((q : Names) → In q (p ∷ left) → In q (paths b.v.tree) × (is_front b.from q ≡ true)) → ((q : Names) → In q left → p ≡ q → ⊥) → 0 < length b.from
        → Edited (makes (dest b.from b.to p) kind bytes) u w → Kept b u (p ∷ left) → Kept b w left
    kept_made b u w p kind bytes left world row come other some edited kept =
        let parts = parts_of u.tree world.tree in
        let none : (r : Row) → In r u.tree → is_like rules.folds (dest b.from b.to p) r.path ≡ false = λ r i. kept.lone p (inl refl) r i in
        record {
          apart = made_apart (dest b.from b.to p) kind bytes u w kept.apart none edited;
          source_found = made_found (dest b.from b.to p) source.names b.from kind bytes u w parts kept.apart none (inr (b.row, row, b.at)) edited kept.source_found;
          into_found = made_found (dest b.from b.to p) into.names b.to kind bytes u w parts kept.apart none (inl (dest_below b.from b.to p)) edited kept.into_found;
          lone = λ q j r i. by q j r (older (dest b.from b.to p) kind bytes u w edited r i);
        }
      where
        by : (q : Names) → In q left → (r : Row) → ((x : Row) × In x u.tree × (x.path ≡ r.path) × (x.kind ≡ r.kind)) ⊎ ((dest b.from b.to p ≡ r.path) × (kind ≡ r.kind))
            → is_like rules.folds (dest b.from b.to q) r.path ≡ false
        by q j r (inl (x, i, at, own)) = ap (is_like rules.folds (dest b.from b.to q)) (sym at) ∙ kept.lone q (inr j) x i
        by q j r (inr (at, own)) =
            let (stands_p, below_p) = come p (inl refl) in
            let (stands_q, below_q) = come q (inr j) in
            ap (is_like rules.folds (dest b.from b.to q)) (sym at)
            ∙ apart_dests rules.folds b.from b.to b.v.tree b.regular some p q stands_p stands_q below_p below_q (other q j)

    -- what is known at first
    pub kept_first : (b : Base rules source into) (left : List Names) → ((q : Names) → In q left → In q (paths b.v.tree) × (is_front b.from q ≡ true)) → 0 < length b.from → Kept b b.v left
    kept_first b left come some = record {
      apart = b.regular;
      source_found = b.source_found;
      into_found = b.into_found;
      lone = λ q j r i. by q (come q j).1 r i (same_names b.from q) refl;
    }
      where
        above_free : (q : Names) → is_front b.to q ≡ true → (r : Row) → In r b.v.tree → is_front q r.path ≡ true → ⊥
        above_free q below r i e = not_both (is_front b.to r.path) (front_then b.to q r.path below e) (b.free r i)

        never : (q : Names) (r : Row) → In r b.v.tree → is_front b.to (parent_of (dest b.from b.to q)) ≡ true
            → (same_names (dest b.from b.to q) r.path ≡ true) ⊎ ((rules.folds && (same_names (parent_of r.path) (parent_of (dest b.from b.to q)) && folds_like r.path (dest b.from b.to q))) ≡ true) → ⊥
        never q r i below (inl same) =
            not_both (is_front b.to r.path) (subst (λ z. is_front b.to z ≡ true) (names_same (dest b.from b.to q) r.path same) (dest_below b.from b.to q)) (b.free r i)
        never q r i below (inr all) =
            let (e, rest) = and_parts rules.folds (same_names (parent_of r.path) (parent_of (dest b.from b.to q)) && folds_like r.path (dest b.from b.to q)) all in
            let (up, f) = and_parts (same_names (parent_of r.path) (parent_of (dest b.from b.to q))) (folds_like r.path (dest b.from b.to q)) rest in
            above_free (parent_of r.path) (subst (λ z. is_front b.to z ≡ true) (sym (names_same (parent_of r.path) (parent_of (dest b.from b.to q)) up)) below) r i (front_up r.path)

        by : (q : Names) → is_front b.from q ≡ true → (r : Row) → In r b.v.tree → (a : Bool) → same_names b.from q ≡ a → is_like rules.folds (dest b.from b.to q) r.path ≡ false
        by q front r i true same =
            ap (λ z. is_like rules.folds z r.path) (ap (dest b.from b.to) (sym (names_same b.from q same)) ∙ dest_from b.from b.to) ∙ b.lone r i
        by q front r i false other =
            let up : is_front b.from (parent_of q) ≡ true = front_parent b.from q front (λ e. not_both (same_names b.from q) (names_equal b.from q e) other) in
            let below : is_front b.to (parent_of (dest b.from b.to q)) ≡ true =
            subst (λ z. is_front b.to z ≡ true) (sym (dest_parent b.from b.to q up (omega (arith, some, front_length b.from q front)))) (dest_below b.from b.to (parent_of q)) in
            false_from_ne_true (is_like rules.folds (dest b.from b.to q) r.path)
            (λ e. never q r i below (or_cases (same_names (dest b.from b.to q) r.path) (rules.folds && (same_names (parent_of r.path) (parent_of (dest b.from b.to q)) && folds_like r.path (dest b.from b.to q))) e))
