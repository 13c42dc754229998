-- How many calls a walk from the root asks at most, and a look, an opening and a listing of what is found by it.
use Rattle.std.proofs.Common.{◌≡◌, ◌≤◌, ◌+◌, ◌*◌, ◌&&◌, ◌++◌, inl, ℕ, nat_le, nat_lt, List, [], ◌∷◌, length, cond, drop, Bool, true, false, Option, Some, IfSome, Result, refl, sym, ap, subst, ◌∙◌, append_assoc, arith}
use Rattle.std.specs.List.{count_by, filter}
use Rattle.std.proofs.lemmas.Bool.{and_from, and_parts, le-leb, le-ltb, lt-ltb, ltb-true}
use Rattle.std.proofs.lemmas.List.{length-append, length-map, map-append}
use Rattle.std.proofs.lemmas.List.Sums.{length-filter, sum_by-cons}
use Rattle.dav_io.proofs.ToldLemmas.{told_after}
use Rattle.dav_core.specs.declared.handle.DiskError.{DiskError}
use Rattle.dav_core.specs.declared.handle.Meta.{Meta}
use Rattle.dav_core.specs.declared.tree.Row.{Row}
use Rattle.dav_core.specs.Disk.{DiskState, Metas}
use Rattle.dav_core.specs.Listing.{name_of, names_in, stands_in}
use Rattle.dav_core.specs.Path.{Names, is_front, parent_of}
use Rattle.dav_core.specs.Tree.{is_link, is_linked}
use Rattle.dav_core.specs.Unchanged.{Keeps, SameBesidesOpens}
use Rattle.dav_core.specs.World.{World}
use Rattle.dav_core.proofs.Paths.{front_join, front_rest, parent_pushed}
use Rattle.dav_core.proofs.Rows.{path_in}
use Rattle.dav_model.specs.Calls.{calls_from_root, is_link_on_way, is_on_way}
use Rattle.dav_model.specs.Folds.{Name, fold_name, fold_path}
use Rattle.dav_local.specs.FromRoot.{CostsAtMost, CostsBy, StepsFew}
use Rattle.dav_local.specs.Near.{CallsAtMost, SearchesFew, members_at}
use Rattle.dav_local.specs.Places.{Place}
use Rattle.dav_local.specs.Walking.{IsAlikeIn}
use Rattle.dav_local.proofs.Counted.{few_called, few_more, few_then, unasked}
use Rattle.dav_local.proofs.Rows.{any_of, none_of, not_both}

-- ---- rows that are counted

-- Nothing passes both of the first tests, and what passes either passes the third.
parts_count : {X : Type 0} (p q r : X → Bool) → ((x : X) → p x ≡ true → (q x ≡ false) × (r x ≡ true)) → ((x : X) → q x ≡ true → r x ≡ true) → (xs : List X) → count_by p xs + count_by q xs ≤ count_by r xs
parts_count p q r first then [] = omega arith
parts_count p q r first then (x ∷ xs) =
    let a : count_by p (x ∷ xs) ≡ cond (p x) 1 0 + count_by p xs = sum_by-cons (λ y. cond (p y) 1 0) x xs in
    let b : count_by q (x ∷ xs) ≡ cond (q x) 1 0 + count_by q xs = sum_by-cons (λ y. cond (q y) 1 0) x xs in
    let c : count_by r (x ∷ xs) ≡ cond (r x) 1 0 + count_by r xs = sum_by-cons (λ y. cond (r y) 1 0) x xs in
    let one = by (p x) (q x) (r x) (first x) (then x) in
    let more = parts_count p q r first then xs in
    omega (arith, a, b, c, one, more)
  where
    by : (k l m : Bool) → (k ≡ true → (l ≡ false) × (m ≡ true)) → (l ≡ true → m ≡ true) → cond k 1 0 + cond l 1 0 ≤ cond m 1 0
    by true l m f g = let (apart, passes) = f refl in rw (apart, passes) (omega arith)
    by false true m f g = rw (g refl) (omega arith)
    by false false m f g = omega arith

-- The row stands in a directory on the way to the path, and deeper than so many names.
abbrev pub deeper : ℕ → Names → Row → Bool
deeper k names row = nat_lt k (length row.path)
    && (nat_le (length row.path) (length names) && is_front (fold_path (parent_of row.path)) (fold_path names))

folds_long : (a b : Names) → fold_path a ≡ fold_path b → length a ≡ length b
folds_long a b same = sym (length-map a fold_name) ∙ ap length same ∙ length-map b fold_name

folds_before : (at rest names : Names) → fold_path (at ++ rest) ≡ fold_path names → is_front (fold_path at) (fold_path names) ≡ true
folds_before at rest names same = ap (is_front (fold_path at)) (sym same ∙ map-append fold_name at rest) ∙ front_join (fold_path at) (fold_path rest)

-- The names in a directory on the way, and the rows that are deeper.
pub members_counted : (k : ℕ) (tree : List Row) (names at : Names) (name : Name) (more : Names) → k ≤ length at → fold_path (at ++ name ∷ more) ≡ fold_path names
    → length (names_in tree at) + count_by (deeper (length at + 1) names) tree ≤ count_by (deeper k names) tree
members_counted k tree names at name more le same =
    let counted : length (names_in tree at) ≡ count_by (stands_in at) tree = length-map (filter (stands_in at) tree) name_of ∙ length-filter (stands_in at) tree in
    let parts = parts_count (stands_in at) (deeper (length at + 1) names) (deeper k names) stands further tree in
    omega (arith, counted, parts)
  where
    stands : (row : Row) → stands_in at row ≡ true → (deeper (length at + 1) names row ≡ false) × (deeper k names row ≡ true)
    stands row is =
        let path = path_in at row is in
        let long : length row.path ≡ length at + 1 = ap length path ∙ length-append at (name_of row ∷ []) in
        let whole : length names ≡ length at + length (name ∷ more) = folds_long names (at ++ name ∷ more) (sym same) ∙ length-append at (name ∷ more) in
        let above : parent_of row.path ≡ at = ap parent_of path ∙ parent_pushed at (name_of row) in
        let front : is_front (fold_path (parent_of row.path)) (fold_path names) ≡ true = ap (λ d. is_front (fold_path d) (fold_path names)) above ∙ folds_before at (name ∷ more) names same in (
          ap (λ b. b && (nat_le (length row.path) (length names) && is_front (fold_path (parent_of row.path)) (fold_path names))) (le-ltb (length at + 1) (length row.path) (omega (arith, long))),
          and_from _ _ (lt-ltb k (length row.path) (omega (arith, le, long))) (and_from _ _ (le-leb (length row.path) (length names) (omega (arith, long, whole))) front),
        )

    further : (row : Row) → deeper (length at + 1) names row ≡ true → deeper k names row ≡ true
    further row is =
        let (less, rest) = and_parts (nat_lt (length at + 1) (length row.path)) _ is in
        let deep = ltb-true (length at + 1) (length row.path) less in
        and_from _ _ (lt-ltb k (length row.path) (omega (arith, le, deep))) rest

-- ---- no link on the way

-- A place that folds like a front of the path is behind no link.
pub way_clear : (tree : List Row) (names at rest : Names) → is_link_on_way tree names ≡ false → fold_path (at ++ rest) ≡ fold_path names → is_linked tree at ≡ false
way_clear tree names at rest clear same = none_of (λ row. is_link row.kind && is_front row.path at) tree (λ row o both.
    let (link, front) = and_parts (is_link row.kind) (is_front row.path at) both in
    let begins : is_front (fold_path row.path) (fold_path names) ≡ true = folds_before row.path (drop (length row.path) at ++ rest) names
    (ap fold_path (sym (append_assoc row.path (drop (length row.path) at) rest) ∙ ap (λ z. z ++ rest) (sym (front_rest row.path at front))) ∙ same) in
    not_both (is_link_on_way tree names) (any_of (λ r. is_link r.kind && is_front (fold_path r.path) (fold_path names)) tree row o (and_from _ _ link begins)) clear)

-- ---- the walk

-- So many calls were asked, and so many more may follow.
pub record Spent (p q : Place) (names at rest : Names) (w : World) : Type 0 where
  pub calls : ℕ
  pub few : CallsAtMost calls p.disk q.disk
  pub left : calls + (3 * length rest + count_by (deeper (length at) names) w.tree) ≤ calls_from_root w names

abbrev pub Spending : Place → Names → Place → Names → Names → Type 0
Spending p names q at rest = (w : World) → p.disk.told ≡ Some w → is_link_on_way w.tree names ≡ false → Spent p q names at rest w

pub spent_first : (p : Place) (names at rest : Names) → at ≡ [] → rest ≡ names → Spending p names p at rest
spent_first p names at rest root all = rw (root, all) (λ w told clear. record {
  calls = 0;
  few = inl refl;
  left = omega arith;
})

same_world : (s t : DiskState) (w : World) → Keeps s t → s.told ≡ Some w → (v : World) × (t.told ≡ Some v) × (v.tree ≡ w.tree)
same_world s t w keeps told = let (v, now, same) = told_after s.told t.told SameBesidesOpens w keeps.world told in (v, now, same.tree)

-- A step behind so many calls, whatever it answered: before so many names.
record Stepped (p q : Place) (names at more : Names) (w : World) : Type 0 where
  calls : ℕ
  few : CallsAtMost calls p.disk q.disk
  left : calls + (3 * length more + count_by (deeper (length at + 1) names) w.tree) ≤ calls_from_root w names

stepped : (p m q : Place) (names at rest : Names) (name : Name) (more : Names) (w : World) → Keeps p.disk m.disk → fold_path (at ++ rest) ≡ fold_path names → rest ≡ name ∷ more
    → Spending p names m at rest → StepsFew m.disk at q.disk → p.disk.told ≡ Some w → is_link_on_way w.tree names ≡ false → Stepped p q names at more w
stepped p m q names at rest name more w keeps alike is spending steps told clear =
    let s = spending w told clear in
    let (v, now, tree) = same_world p.disk m.disk w keeps told in
    let here = steps v now (ap (λ z. is_linked z at) tree ∙ way_clear w.tree names at rest clear alike) in
    let counted : members_at v at ≡ length (names_in w.tree at) = ap (λ z. length (names_in z at)) tree in
    let members = members_counted (length at) w.tree names at name more (omega arith) (ap (λ z. fold_path (at ++ z)) (sym is) ∙ alike) in
    let long : length rest ≡ length more + 1 = ap length is ∙ omega arith in
    let left = s.left in
    record {
      calls = s.calls + (members_at v at + 3);
      few = few_then s.calls (members_at v at + 3) p.disk m.disk q.disk s.few here;
      left = omega (arith, left, members, counted, long);
    }

pub spent_on : (p m q : Place) (names at rest : Names) (name : Name) (more next : Names) (found : Option Names) → Keeps p.disk m.disk → fold_path (at ++ rest) ≡ fold_path names → rest ≡ name ∷ more
    → Spending p names m at rest → StepsFew m.disk at q.disk → found ≡ Some next → IfSome found (λ n. IsAlikeIn at name n) → Spending p names q next more
spent_on p m q names at rest name more next found keeps alike is spending steps is_found alike_in = λ w told clear.
    let s = stepped p m q names at rest name more w keeps alike is spending steps told clear in
    let (x, place, folds) = subst (λ f. IfSome f (λ n. IsAlikeIn at name n)) is_found alike_in in
    let long : length next ≡ length at + 1 = ap length place ∙ length-append at (x ∷ []) in
    let left = s.left in
    let deep : count_by (deeper (length next) names) w.tree ≡ count_by (deeper (length at + 1) names) w.tree = ap (λ n. count_by (deeper n names) w.tree) long in
    record { calls = s.calls; few = s.few; left = omega (arith, left, deep) }

-- The walk ended at a step.
pub walked_few : (p m q : Place) (names at rest : Names) (name : Name) (more : Names) → Keeps p.disk m.disk → fold_path (at ++ rest) ≡ fold_path names → rest ≡ name ∷ more
    → Spending p names m at rest → StepsFew m.disk at q.disk → CostsAtMost 0 p names q
walked_few p m q names at rest name more keeps alike is spending steps = λ w told clear.
    let s = stepped p m q names at rest name more w keeps alike is spending steps told clear in
    let left = s.left in
    few_more s.calls (calls_from_root w names + 0) p.disk q.disk (omega (arith, left)) s.few

-- It came to its end.
pub walked_over : (p m q : Place) (names at rest : Names) → Spending p names m at rest → q.disk ≡ m.disk → CostsAtMost 0 p names q
walked_over p m q names at rest spending same = λ w told clear.
    let s = spending w told clear in
    let left = s.left in
    few_more s.calls (calls_from_root w names + 0) p.disk q.disk (omega (arith, left)) (subst (λ d. CallsAtMost s.calls p.disk d) (sym same) s.few)

-- ---- calls before and behind

pub costs_few : (a c : ℕ) (p q : Place) (names : Names) → a ≤ c → CallsAtMost a p.disk q.disk → CostsAtMost c p names q
costs_few a c p q names le few = λ w told clear. few_more a (calls_from_root w names + c) p.disk q.disk (omega (arith, le)) few

pub costs_then : (a b c : ℕ) (p m q : Place) (names : Names) → a + b ≤ c → CallsAtMost a p.disk m.disk → Keeps p.disk m.disk → CostsAtMost b m names q → CostsAtMost c p names q
costs_then a b c p m q names le few keeps costs = λ w told clear.
    let (v, now, tree) = same_world p.disk m.disk w keeps told in
    let later = costs v now (ap (λ z. is_link_on_way z names) tree ∙ clear) in
    let counted : calls_from_root v names ≡ calls_from_root w names = ap (λ z. 3 * length names + count_by (is_on_way names) z) tree in
    few_more (a + (calls_from_root v names + b)) (calls_from_root w names + c) p.disk q.disk (omega (arith, le, counted)) (few_then a (calls_from_root v names + b) p.disk m.disk q.disk few later)

pub costs_before : (a b c : ℕ) (p m q : Place) (names : Names) → b + a ≤ c → CostsAtMost b p names m → CallsAtMost a m.disk q.disk → CostsAtMost c p names q
costs_before a b c p m q names le costs few = λ w told clear.
    few_more (calls_from_root w names + b + a) (calls_from_root w names + c) p.disk q.disk (omega (arith, le))
    (few_then (calls_from_root w names + b) a p.disk m.disk q.disk (costs w told clear) few)

-- ---- by whether a path is found without the disk

pub costs_known : (few more : ℕ) (known : Bool) (p q : Place) (names : Names) → known ≡ true → CallsAtMost few p.disk q.disk → CostsBy known few more p names q
costs_known few more true p q names is calls = calls
costs_known few more false p q names is calls = cc

pub costs_unknown : (few more : ℕ) (known : Bool) (p q : Place) (names : Names) → known ≡ false → CostsAtMost more p names q → CostsBy known few more p names q
costs_unknown few more true p q names is costs = cc
costs_unknown few more false p q names is costs = costs

pub known_costs : (few more : ℕ) (known : Bool) (p q : Place) (names : Names) → known ≡ true → CostsBy known few more p names q → CallsAtMost few p.disk q.disk
known_costs few more true p q names is costs = costs
known_costs few more false p q names is costs = cc

pub unknown_costs : (few more : ℕ) (known : Bool) (p q : Place) (names : Names) → known ≡ false → CostsBy known few more p names q → CostsAtMost more p names q
unknown_costs few more true p q names is costs = cc
unknown_costs few more false p q names is costs = costs

-- nothing is asked
pub costs_none : (few more : ℕ) (known : Bool) (p q : Place) (names : Names) → q.disk ≡ p.disk → CostsBy known few more p names q
costs_none few more true p q names same = unasked few p.disk q.disk same
costs_none few more false p q names same = costs_few 0 more p q names (omega arith) (unasked 0 p.disk q.disk same)

-- so many calls behind it
pub costs_behind : (a few more few_now more_now : ℕ) (known : Bool) (p m q : Place) (names : Names) → few + a ≤ few_now → more + a ≤ more_now → CostsBy known few more p names m → CallsAtMost a m.disk q.disk
    → CostsBy known few_now more_now p names q
costs_behind a few more few_now more_now true p m q names le none costs calls = few_more (few + a) few_now p.disk q.disk le (few_then few a p.disk m.disk q.disk costs calls)
costs_behind a few more few_now more_now false p m q names none le costs calls = costs_before a more more_now p m q names le costs calls

-- ---- members

-- A member of a directory that folds like the one above the path.
taken_few : (p q : Place) (names above there : Names) (name : Name) → names ≡ above ++ name ∷ [] → fold_path there ≡ fold_path above → SearchesFew p.disk there q.disk → CostsAtMost 0 p names q
taken_few p q names above there name path folds few = λ w told clear.
    let alike : fold_path (there ++ name ∷ []) ≡ fold_path names =
    map-append fold_name there (name ∷ []) ∙ ap (λ z. z ++ fold_path (name ∷ [])) folds ∙ sym (map-append fold_name above (name ∷ [])) ∙ ap fold_path (sym path) in
    let read = few w told (way_clear w.tree names there (name ∷ []) clear alike) in
    let members = members_counted 0 w.tree names there name [] (omega arith) alike in
    let long : length names ≡ length there + 1 = folds_long names (there ++ name ∷ []) (sym alike) ∙ length-append there (name ∷ []) in
    few_more (members_at w there + 2) (calls_from_root w names + 0) p.disk q.disk (omega (arith, members, long)) read

-- The directory was found before it by two calls at most.
pub taken_most : (p m q : Place) (names above dir there : Names) (name : Name) (found : Option Names) → names ≡ above ++ name ∷ [] → dir ≡ above → IfSome found (λ at. fold_path at ≡ fold_path dir)
    → found ≡ Some there → CallsAtMost 2 p.disk m.disk → Keeps p.disk m.disk → SearchesFew m.disk there q.disk → CostsAtMost 2 p names q
taken_most p m q names above dir there name found path same alike is first keeps few =
    let folds : fold_path there ≡ fold_path above = subst (λ f. IfSome f (λ at. fold_path at ≡ fold_path dir)) is alike ∙ ap fold_path same in
    costs_then 2 0 2 p m q names (omega arith) first keeps (taken_few m q names above there name path folds few)

-- ---- a step

pub step_stays : (s : DiskState) (at : Names) → StepsFew s at s
step_stays s at = λ w told clear. inl refl

pub step_looked : (s t : DiskState) (at path : Names) (r : Result Meta DiskError) → Metas s path r t → StepsFew s at t
step_looked s t at path r metas = λ w told clear. few_called (members_at w at + 3) s t (omega arith) metas.asks.asked

pub step_sought : (s m t : DiskState) (at path : Names) (r : Result Meta DiskError) → Metas s path r m → SearchesFew m at t → StepsFew s at t
step_sought s m t at path r metas few = λ w told clear.
    few_more (1 + (members_at w at + 2)) (members_at w at + 3) s t (omega arith)
    (few_then 1 (members_at w at + 2) s m t (few_called 1 s m (omega arith) metas.asks.asked) (few w (metas.world ∙ told) clear))
