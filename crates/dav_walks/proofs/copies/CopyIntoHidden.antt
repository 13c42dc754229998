-- A COPY to a path where something stands that no look shows: into a file goes what a file holds, and nothing else is made.
-- Headline: `over_comes`.
use Rattle.std.proofs.Common.{◌≡◌, ◌⊎◌, ◌&&◌, ◌||◌, ℕ, List, [], ◌∷◌, take, Bool, true, false, not, cond, Option, None, Some, Result, Ok, Err, refl, sym, ap, subst, ◌∙◌, inl, inr}
use Rattle.dav_io.specs.Counts.{Rose}
use Rattle.dav_io.specs.Told.{Both}
use Rattle.dav_io.proofs.ToldLemmas.{both_and, both_map, both_same}
use Rattle.dav_core.specs.declared.dav_error.DavError.{DavError}
use Rattle.dav_core.specs.declared.dav_error.DavError.TheVariants as dav
use Rattle.dav_core.specs.declared.error.FsError.{FsError}
use Rattle.dav_core.specs.declared.error.FsError.TheVariants as fs
use Rattle.dav_core.specs.declared.handle.DiskError.TheVariants.{Exists, IsDir}
use Rattle.dav_core.specs.declared.tree.Row.{Row}
use Rattle.dav_core.specs.Allowed.{Allowed, copying, copying_to, found_then, making_at, making_dir, place}
use Rattle.dav_core.specs.Edits.{Edited, fills}
use Rattle.dav_core.specs.Path.{Names, same_names}
use Rattle.dav_core.specs.Statuses.{closes, of_fs, status_of}
use Rattle.dav_core.specs.Tree.{is_dir, is_linked}
use Rattle.dav_core.specs.World.{Holds, SameBesidesOpens, World, bytes_of}
use Rattle.dav_core.proofs.UnchangedLemmas.{same_besides, same_besides_then}
use Rattle.dav_core.proofs.Elements.{In}
use Rattle.dav_store.specs.View.{Listings, View}
use Rattle.dav_model.specs.CarryPlans.{act_of}
use Rattle.dav_model.specs.Conditions.{Fields}
use Rattle.dav_model.specs.Due.{failure}
use Rattle.dav_model.specs.Finding.{is_forbidden, resolved}
use Rattle.dav_model.specs.Head.{refusal}
use Rattle.dav_model.specs.Plans.{Act, does, halts, line, making}
use Rattle.dav_model.specs.Rules.{Knowledge, Rules}
use Rattle.dav_model.specs.Valid.{TellsApart}
use Rattle.dav_model.specs.Written.{PartOf}
use Rattle.dav_walks.specs.declared.transfer.Transfer.{Transfer}
use Rattle.dav_walks.specs.Copying.{AfterMaking, Copies, CopiesBy, CopiesDir, goes, stops, done as no_work, short as cut_short}
use Rattle.dav_walks.specs.Follows.{Calls, Follows, IfBothFound, IfFound, Reached, Told, UnlessShut}
use Rattle.dav_walks.specs.Lines.{Line}
use Rattle.dav_walks.specs.Pouring.{Writes}
use Rattle.dav_walks.specs.Removing.{is_deep, line_of}
use Rattle.dav_walks.proofs.calls.ActsJoined.{AllDone, Comes, Halted, comes_after, halted_comes, short_comes}
use Rattle.dav_walks.proofs.calls.CallsDoActs.{allowed_comes}
use Rattle.dav_walks.proofs.trees.EditsJoined.{filled_after}
use Rattle.dav_walks.proofs.trees.TreeRows.{Parts, look_row}

-- what is told of a later store, where more is known of an earlier one
both_first : {A : Type 0} (old mid new : Option A) (P Q : A → A → Type 0) → Both old new Q → Both old mid P → Both old new (λ a b. Q a b × (i : A) × P a i)
both_first None mid None P Q q p = tt
both_first None mid (Some b) P Q q p = absurd q
both_first (Some a) mid None P Q q p = absurd q
both_first (Some a) None (Some b) P Q q p = absurd p
both_first (Some a) (Some i) (Some b) P Q q p = (q, i, p)

-- ---- a file that is filled, behind what changes nothing

part_filled : (n : ℕ) (bytes : List ℕ) (v u w : World) → Holds u n → SameBesidesOpens v u → PartOf (does (fills n bytes) ∷ []) u w → PartOf (does (fills n bytes) ∷ []) v w
part_filled n bytes v u w held same (inl none) = inl (same_besides_then v u w same none)
part_filled n bytes v u w held same (inr (inl (part, (k, is), edited))) = inr (inl (fills n (take k bytes), (k, refl), filled_after n (take k bytes) v u w held same (subst (λ e. Edited e u w) is edited)))
part_filled n bytes v u w held same (inr (inr (m, edited, rest))) = inr (inr (m, filled_after n bytes v u m held same edited, rest))

part_all : (acts : List Act) (v w : World) → AllDone acts v w → PartOf acts v w
part_all [] v w same = same
part_all (halts l ∷ acts) v w h = absurd h
part_all (does e ∷ acts) v w (m, edited, rest) = inr (inr (m, edited, part_all acts m w rest))

-- ---- what is allowed where something stands

pub make_over : (tree : List Row) (to : Names) (there : Row) → place tree to ≡ Ok (Some there) → making_dir tree to ≡ Err Exists
make_over tree to there e = ap (λ found. making_at found to) e

-- whether it is a directory, and whether it is the source
abbrev pub Over : Bool → Bool → ℕ → List ℕ → Allowed
Over dir same n bytes = cond dir (Err IsDir) (cond same (Ok None) (Ok (Some (fills n bytes))))

pub copy_over : (w : World) (from : Row) (to : Names) (there : Row) → Parts w.tree → In from w.tree → is_dir from.kind ≡ false → place w.tree to ≡ Ok (Some there)
    → copying w from.path to ≡ Over (is_dir there.kind) (same_names from.path to) there.number (bytes_of w from.number)
copy_over w from to there parts i file e =
    ap (found_then (λ row. copying_to w row to (place w.tree to))) (look_row w.tree from parts i)
    ∙ (ap (copying_to w from to) e ∙ ap (λ b. cond b (Err IsDir) (Over (is_dir there.kind) (same_names from.path to) there.number (bytes_of w from.number))) file)

module _ {S C F : Type 0} (view : View S C F) (fields : Fields) (start : S) where
  filled_comes : (n : ℕ) (bytes : List ℕ) (r : Line) (t : S) (v u w : World) → Holds u n → SameBesidesOpens v u → Comes view fields start r (does (fills n bytes) ∷ []) t u w
      → Comes view fields start r (does (fills n bytes) ∷ []) t v w
  filled_comes n bytes (Ok y) t v u w held same (m, edited, rest) = (m, filled_after n bytes v u m held same edited, rest)
  filled_comes n bytes (Err e) t v u w held same h = record {
    short = λ lacks. part_filled n bytes v u w held same (h.short lacks);
    said = λ has. by (h.said has);
  }
    where
      by : Halted fields (refusal fields (status_of e) (closes e)) (does (fills n bytes) ∷ []) u w
          ⊎ ((refusal fields (status_of e) (closes e) ≡ failure) × Rose (view.state start).faults (view.state t).faults × PartOf (does (fills n bytes) ∷ []) u w)
          → Halted fields (refusal fields (status_of e) (closes e)) (does (fills n bytes) ∷ []) v w
          ⊎ ((refusal fields (status_of e) (closes e) ≡ failure) × Rose (view.state start).faults (view.state t).faults × PartOf (does (fills n bytes) ∷ []) v w)
      by (inl (m, edited, never)) = absurd never
      by (inr (is, rose, part)) = inr (is, rose, part_filled n bytes v u w held same part)

  pub over_comes : (dir same_place : Bool) (n : ℕ) (bytes : List ℕ) (r : Line) (t : S) (v u w : World) → Holds u n → SameBesidesOpens v u
      → Comes view fields start r (act_of (Over dir same_place n bytes)) t u w → Comes view fields start r (act_of (Over dir same_place n bytes)) t v w
  over_comes true same_place n bytes r t v u w held same came = comes_after view fields start r (act_of (Err IsDir)) t v u w tt same came
  over_comes false true n bytes r t v u w held same came = comes_after view fields start r [] t v u w tt same came
  over_comes false false n bytes r t v u w held same came = filled_comes n bytes r t v u w held same came

  -- all was done, and then memory was refused
  short_behind : (all : List Act) (t : S) (u w : World) → AllDone all u w → Comes view fields start (Err dav.NoMemory) all t u w
  short_behind all t u w done = record { short = λ lacks. part_all all u w done; said = λ has. cc }

-- ---- the call

module _ {S C F L E : Type 0} (view : View S C F) (lists : Listings S C L E) (writes : Writes F) (c : C) (rules : Rules) (fields : Fields) (start : S)
    (knows : Knowledge) (follows : Follows view lists writes c rules knows start) (bare : Bool) (work : Transfer) where
  abbrev ToldIn : S → S → (World → World → Type 0) → Type 0
  ToldIn m n P = Told view lists writes c m n P

  abbrev from_in : World → Names
  from_in u = resolved rules u.tree work.from.names

  abbrev to_in : World → Names
  to_in u = resolved rules u.tree work.to.names

  abbrev pub acts_over : World → List Act
  acts_over u = cond ((work.dir && is_deep work.from) || (is_forbidden rules work.to || (not work.dir && is_forbidden rules work.from))) (halts (line 403) ∷ [])
      (act_of (cond work.dir (making_dir u.tree (resolved rules u.tree work.to.names)) (copying u (resolved rules u.tree work.from.names) (resolved rules u.tree work.to.names))))

  -- Something stands at the destination, and no link is met.
  pub record Stands (u : World) : Type 0 where
    pub apart : TellsApart rules u
    pub there : Row
    pub at : place u.tree (resolved rules u.tree work.to.names) ≡ Ok (Some there)
    pub from_clear : is_linked u.tree (resolved rules u.tree work.from.names) ≡ false
    pub to_clear : is_linked u.tree (resolved rules u.tree work.to.names) ≡ false

  abbrev pub Fills : Line → S → World → World → Type 0
  Fills r t u w = Stands u → Comes view fields start r (acts_over u) t u w

  abbrev Made : Result Unit FsError → S → S → World → World → Type 0
  Made made m n u w = UnlessShut view lists writes c (is_forbidden rules work.to) made u w
      (IfFound view lists writes c rules u work.to (Calls view lists writes c (making rules u work.to) m made n u w))

  abbrev Copied : Result Unit FsError → S → S → World → World → Type 0
  Copied copied m n u w = UnlessShut view lists writes c (is_forbidden rules work.from || is_forbidden rules work.to) copied u w
      (IfBothFound view lists writes c rules u work.from work.to
      (Calls view lists writes c (copying u (resolved rules u.tree work.from.names) (resolved rules u.tree work.to.names)) m copied n u w))

  -- by what it comes to
  acts_are : (dir deep to from : Bool) (u : World) → work.dir ≡ dir → is_deep work.from ≡ deep → is_forbidden rules work.to ≡ to → is_forbidden rules work.from ≡ from
      → acts_over u ≡ cond ((dir && deep) || (to || (not dir && from))) (halts (line 403) ∷ [])
      (act_of (cond dir (making_dir u.tree (resolved rules u.tree work.to.names)) (copying u (resolved rules u.tree work.from.names) (resolved rules u.tree work.to.names))))
  acts_are dir deep to from u e f g h =
      let making_it = making_dir u.tree (resolved rules u.tree work.to.names) in
      let copying_it = copying u (resolved rules u.tree work.from.names) (resolved rules u.tree work.to.names) in
      ap (λ d. cond ((d && is_deep work.from) || (is_forbidden rules work.to || (not d && is_forbidden rules work.from))) (halts (line 403) ∷ []) (act_of (cond d making_it copying_it))) e
      ∙ (ap (λ b. cond ((dir && b) || (is_forbidden rules work.to || (not dir && is_forbidden rules work.from))) (halts (line 403) ∷ []) (act_of (cond dir making_it copying_it))) f
      ∙ (ap (λ b. cond ((dir && deep) || (b || (not dir && is_forbidden rules work.from))) (halts (line 403) ∷ []) (act_of (cond dir making_it copying_it))) g
      ∙ ap (λ b. cond ((dir && deep) || (to || (not dir && b))) (halts (line 403) ∷ []) (act_of (cond dir making_it copying_it))) h))

  came_by : (r : Line) (t : S) (u w : World) (all : List Act) → acts_over u ≡ all → Comes view fields start r all t u w → Comes view fields start r (acts_over u) t u w
  came_by r t u w all e came = subst (λ a. Comes view fields start r a t u w) (sym e) came

  shut_comes : (e : DavError) (t : S) (u w : World) → acts_over u ≡ halts (line 403) ∷ [] → (e ≡ dav.Status 403) ⊎ (e ≡ of_fs fs.Forbidden) → SameBesidesOpens u w → Comes view fields start (Err e) (acts_over u) t u w
  shut_comes e t u w is (inl same) kept =
      came_by (Err e) t u w (halts (line 403) ∷ []) is (subst (λ z. Comes view fields start (Err z) (halts (line 403) ∷ []) t u w) (sym same) (halted_comes view fields start (dav.Status 403) (line 403) [] t u w refl refl kept))
  shut_comes e t u w is (inr same) kept =
      came_by (Err e) t u w (halts (line 403) ∷ []) is
      (subst (λ z. Comes view fields start (Err z) (halts (line 403) ∷ []) t u w) (sym same) (halted_comes view fields start (of_fs fs.Forbidden) (line 403) [] t u w refl refl kept))

  -- ---- a directory isn't made

  not_made : (m n : S) (y : Unit) (u w : World) → Made (Ok y) m n u w → Stands u → ⊥
  not_made m n y u w calls s = by (is_forbidden rules work.to) refl
    where
      by : (shut : Bool) → is_forbidden rules work.to ≡ shut → ⊥
      by true shut = let never : Ok y ≡ Err fs.Forbidden = (calls.refused shut).0 in cc
      by false open_at =
          let (edit, is, done) = calls.called open_at s.apart s.to_clear in
          let never : Err Exists ≡ Ok edit = sym (make_over u.tree (to_in u) s.there s.at) ∙ is in cc

  unmade : (f : FsError) (m n : S) (u w : World) → Reached view lists writes c start m → work.dir ≡ true → is_deep work.from ≡ false → Made (Err f) m n u w → Fills (Err (of_fs f)) n u w
  unmade f m n u w reached dir shallow calls s = by (is_forbidden rules work.to) refl
    where
      by : (shut : Bool) → is_forbidden rules work.to ≡ shut → Comes view fields start (Err (of_fs f)) (acts_over u) n u w
      by true shut =
          let (refused, same) = calls.refused shut in
          let own : f ≡ fs.Forbidden = cc in
          shut_comes (of_fs f) n u w (acts_are true false true (is_forbidden rules work.from) u dir shallow shut refl) (inr (ap of_fs own)) same
      by false open_at =
          came_by (Err (of_fs f)) n u w (act_of (making_dir u.tree (to_in u))) (acts_are true false false (is_forbidden rules work.from) u dir shallow open_at refl)
          (allowed_comes view lists writes c fields start (making_dir u.tree (to_in u)) m n (Err f) u w (follows.counts m reached) (calls.called open_at s.apart s.to_clear))

  -- ---- a file is filled

  copy_open : (to from : Bool) → (from || to) ≡ false → (to ≡ false) × (from ≡ false)
  copy_open true true e = cc
  copy_open true false e = cc
  copy_open false true e = cc
  copy_open false false e = (refl, refl)

  copy_stop : (deep to from : Bool) → (from || to) ≡ true → ((false && deep) || (to || (not false && from))) ≡ true
  copy_stop deep true from e = refl
  copy_stop deep false true e = refl
  copy_stop deep false false e = cc

  copied_comes : (copied : Result Unit FsError) (m n : S) (u w : World) → Reached view lists writes c start m → work.dir ≡ false → Copied copied m n u w → Fills (line_of copied) n u w
  copied_comes copied m n u w reached file calls s = by (is_forbidden rules work.from || is_forbidden rules work.to) refl
    where
      by : (shut : Bool) → (is_forbidden rules work.from || is_forbidden rules work.to) ≡ shut → Comes view fields start (line_of copied) (acts_over u) n u w
      by true shut =
          let (refused, same) = calls.refused shut in
          let is : acts_over u ≡ halts (line 403) ∷ [] =
          acts_are false (is_deep work.from) (is_forbidden rules work.to) (is_forbidden rules work.from) u file refl refl refl
          ∙ ap (λ b. cond b (halts (line 403) ∷ []) (act_of (copying u (from_in u) (to_in u)))) (copy_stop (is_deep work.from) (is_forbidden rules work.to) (is_forbidden rules work.from) shut) in
          subst (λ z. Comes view fields start (line_of z) (acts_over u) n u w) (sym refused) (shut_comes (of_fs fs.Forbidden) n u w is (inr refl) same)
      by false open_at =
          let (to, from) = copy_open (is_forbidden rules work.to) (is_forbidden rules work.from) open_at in
          came_by (line_of copied) n u w (act_of (copying u (from_in u) (to_in u))) (acts_are false (is_deep work.from) false false u file refl to from)
          (allowed_comes view lists writes c fields start (copying u (from_in u) (to_in u)) m n copied u w (follows.counts m reached) (calls.called open_at s.apart s.from_clear s.to_clear))

  -- ---- the work

  none_left : (works : List Transfer) (n t : S) (r : Line) → works ≡ [] → Copies view lists c bare works n r t → (t ≡ n) × ((r ≡ Ok tt) ⊎ (r ≡ Err dav.NoMemory))
  none_left works n t r e (no_work a) = (refl, inl refl)
  none_left works n t r e (cut_short others a) = (refl, inr refl)
  none_left works n t r e (goes x others rest a m z l one more) = cc
  none_left works n t r e (stops x others rest a z d one) = cc

  ended : (r : Line) (t : S) (u w : World) → (r ≡ Ok tt) ⊎ (r ≡ Err dav.NoMemory) → Comes view fields start (Ok tt) (acts_over u) t u w → Comes view fields start r (acts_over u) t u w
  ended r t u w (inl e) came = subst (λ z. Comes view fields start z (acts_over u) t u w) (sym e) came
  ended r t u w (inr e) came = subst (λ z. Comes view fields start z (acts_over u) t u w) (sym e) (short_behind view fields start (acts_over u) t u w came)

  -- What the whole run makes of worlds tells which worlds there are.
  pub filled : (Q : World → World → Type 0) (works : List Transfer) (m t : S) (r : Line) → works ≡ work ∷ [] → Told view lists writes c m t Q → Copies view lists c bare works m r t → Reached view lists writes c start m
      → Told view lists writes c m t (λ u w. Q u w × Fills r t u w)
  filled Q works m t r e whole (no_work a) reached = cc
  filled Q works m t r e whole (cut_short others a) reached =
      both_map (view.state a).told (view.state a).told _ _ (λ u w p. (p.0, λ s. short_comes view fields start (acts_over u) a u w p.1))
      (both_and (view.state a).told (view.state a).told Q SameBesidesOpens whole (both_same (view.state a).told (view.state a).told SameBesidesOpens (λ u. same_besides u) refl))
  filled Q works m t r e whole (goes z others rest a n q l one more) reached =
      let is : z ≡ work = cc in
      let none : others ≡ [] = cc in
      first work.dir refl none (subst (λ (y : Transfer). CopiesBy view lists c bare y.dir y others a (Ok tt) n rest) is one)
    where
      after_made : (made : Result Unit FsError) (k : S) → view.makes_dir a c work.to made k → AfterMaking view lists c bare made work others k (Ok tt) n rest → Told view lists writes c a q (λ u w. Q u w × Fills l q u w)
      after_made (Ok y) k call after =
          both_map (view.state a).told (view.state q).told _ _ (λ u w p. (p.0, λ s. absurd (not_made a k y u p.1 p.2 s)))
          (both_first (view.state a).told (view.state k).told (view.state q).told (Made (Ok y) a k) Q whole (follows.makes_dir a k work.to (Ok y) reached call))
      after_made (Err f) k call (same, never) = cc

      in_dir : (deep : Bool) → CopiesDir view lists c bare deep work others a (Ok tt) n rest → Told view lists writes c a q (λ u w. Q u w × Fills l q u w)
      in_dir true (same, never) = cc
      in_dir false (made, k, call, after) = after_made made k call after

      first : (dir : Bool) → work.dir ≡ dir → others ≡ [] → CopiesBy view lists c bare dir work others a (Ok tt) n rest → Told view lists writes c a q (λ u w. Q u w × Fills l q u w)
      first true dir none one = in_dir (is_deep work.from) one
      first false file none (copied, call, ok, is) =
          let (same, ends) = none_left rest n q l (is ∙ none) more in
          both_map (view.state a).told (view.state q).told _ _
          (λ u w p. (p.0, λ s. ended l q u w ends (subst (λ z. Comes view fields start z (acts_over u) q u w) (sym ok) (copied_comes copied a q u w reached file p.1 s))))
          (both_and (view.state a).told (view.state q).told Q (Copied copied a q) whole
          (subst (λ (z : S). Told view lists writes c a z (Copied copied a z)) (sym same) (follows.copies a n work.from work.to copied reached call)))
  filled Q works m t r e whole (stops z others rest a q d one) reached =
      let is : z ≡ work = cc in
      first work.dir refl (subst (λ (y : Transfer). CopiesBy view lists c bare y.dir y others a (Err d) q rest) is one)
    where
      after_made : (made : Result Unit FsError) (k : S) → work.dir ≡ true → is_deep work.from ≡ false → view.makes_dir a c work.to made k → AfterMaking view lists c bare made work others k (Err d) q rest
          → Told view lists writes c a q (λ u w. Q u w × Fills (Err d) q u w)
      after_made (Ok y) k dir shallow call after =
          both_map (view.state a).told (view.state q).told _ _ (λ u w p. (p.0, λ s. absurd (not_made a k y u p.1 p.2 s)))
          (both_first (view.state a).told (view.state k).told (view.state q).told (Made (Ok y) a k) Q whole (follows.makes_dir a k work.to (Ok y) reached call))
      after_made (Err f) k dir shallow call (same, is) =
          let own : d ≡ of_fs f = cc in
          both_map (view.state a).told (view.state q).told _ _
          (λ u w p. (p.0, λ s. subst (λ z. Comes view fields start (Err z) (acts_over u) q u w) (sym own) (unmade f a q u w reached dir shallow p.1 s)))
          (both_and (view.state a).told (view.state q).told Q (Made (Err f) a q) whole (subst (λ (z : S). Told view lists writes c a z (Made (Err f) a z)) (sym same) (follows.makes_dir a k work.to (Err f) reached call)))

      in_dir : (deep : Bool) → work.dir ≡ true → is_deep work.from ≡ deep → CopiesDir view lists c bare deep work others a (Err d) q rest → Told view lists writes c a q (λ u w. Q u w × Fills (Err d) q u w)
      in_dir true dir deep (same, is) =
          let own : d ≡ dav.Status 403 = cc in
          both_map (view.state a).told (view.state q).told _ _
          (λ u w p. (p.0, λ s. shut_comes d q u w (acts_are true true (is_forbidden rules work.to) (is_forbidden rules work.from) u dir deep refl refl) (inl own) p.1))
          (both_and (view.state a).told (view.state q).told Q SameBesidesOpens whole
          (both_same (view.state a).told (view.state q).told SameBesidesOpens (λ u. same_besides u) (ap (λ z. (view.state z).told) same)))
      in_dir false dir shallow (made, k, call, after) = after_made made k dir shallow call after

      first : (dir : Bool) → work.dir ≡ dir → CopiesBy view lists c bare dir work others a (Err d) q rest → Told view lists writes c a q (λ u w. Q u w × Fills (Err d) q u w)
      first true dir one = in_dir (is_deep work.from) dir refl one
      first false file (copied, call, said, is) =
          both_map (view.state a).told (view.state q).told _ _
          (λ u w p. (p.0, λ s. subst (λ z. Comes view fields start z (acts_over u) q u w) (sym said) (copied_comes copied a q u w reached file p.1 s)))
          (both_and (view.state a).told (view.state q).told Q (Copied copied a q) whole (follows.copies a q work.from work.to copied reached call))
