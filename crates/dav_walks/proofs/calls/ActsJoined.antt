-- Acts that are done one after the other, and what the request comes to that does them. What changes nothing counts for nothing
-- before them.
-- Headline: `comes_then`.
use Rattle.std.proofs.Common.{◌≡◌, ◌≤◌, ◌⊎◌, ◌++◌, ℕ, List, [], ◌∷◌, map, take, Bool, true, false, cond, Ok, Err, refl, sym, ap, subst, ◌∙◌, inl, inr}
use Rattle.dav_io.specs.Counts.{Rose}
use Rattle.dav_io.proofs.AppendingLemmas.{rose_before}
use Rattle.dav_core.specs.declared.dav_error.DavError.{DavError}
use Rattle.dav_core.specs.declared.dav_error.DavError.TheVariants as dav
use Rattle.dav_core.specs.declared.error.FsError.{FsError}
use Rattle.dav_core.specs.declared.error.FsError.TheVariants as fs
use Rattle.dav_core.specs.Edits.{Edit, Edited, IsPart, fills, makes, moves, takes}
use Rattle.dav_core.specs.Path.{Names}
use Rattle.dav_core.specs.Statuses.{closes, lacks_memory, of_fs, status_of}
use Rattle.dav_core.specs.World.{SameBesidesOpens, World}
use Rattle.dav_core.proofs.UnchangedLemmas.{same_besides_then}
use Rattle.dav_store.specs.Files.{Spoiled}
use Rattle.dav_store.specs.View.{View}
use Rattle.dav_model.specs.Conditions.{Fields}
use Rattle.dav_model.specs.Due.{failure}
use Rattle.dav_model.specs.Head.{Reply, refusal}
use Rattle.dav_model.specs.Plans.{Act, Halt, does, halts, line}
use Rattle.dav_model.specs.Written.{ByActs, PartOf, done_reply}
use Rattle.dav_model.proofs.JoiningLemmas.{part_none}
use Rattle.dav_walks.specs.Lines.{Line}
use Rattle.dav_walks.proofs.trees.EditsJoined.{made_after, moved_after, taken_after}

-- ---- all of them, or up to one that ends the request

abbrev pub AllDone : List Act → World → World → Type 0
AllDone [] v w = SameBesidesOpens v w
AllDone (halts l ∷ acts) v w = ⊥
AllDone (does e ∷ acts) v w = (m : World) × Edited e v m × AllDone acts m w

abbrev pub Halted : Fields → Reply → List Act → World → World → Type 0
Halted fields reply [] v w = ⊥
Halted fields reply (halts l ∷ acts) v w = (reply ≡ refusal fields l.status l.close) × SameBesidesOpens v w
Halted fields reply (does e ∷ acts) v w = (m : World) × Edited e v m × Halted fields reply acts m w

pub done_acts : (fields : Fields) (acts : List Act) (status : ℕ) (v w : World) → AllDone acts v w → ByActs fields acts status (done_reply status) v w
done_acts fields [] status v w same = (refl, same)
done_acts fields (halts l ∷ acts) status v w h = absurd h
done_acts fields (does e ∷ acts) status v w (m, edited, rest) = (m, edited, done_acts fields acts status m w rest)

pub halted_acts : (fields : Fields) (reply : Reply) (acts : List Act) (status : ℕ) (v w : World) → Halted fields reply acts v w → ByActs fields acts status reply v w
halted_acts fields reply [] status v w h = absurd h
halted_acts fields reply (halts l ∷ acts) status v w h = h
halted_acts fields reply (does e ∷ acts) status v w (m, edited, rest) = (m, edited, halted_acts fields reply acts status m w rest)

-- ---- what changes nothing, before them

-- No file is filled that stands there: an edit which tells the file by its number.
abbrev pub FillsNone : List Act → Type 0
FillsNone [] = Unit {0}
FillsNone (halts l ∷ acts) = FillsNone acts
FillsNone (does (fills number bytes) ∷ acts) = ⊥
FillsNone (does e ∷ acts) = FillsNone acts

edit_after : (e : Edit) (acts : List Act) (v u w : World) → FillsNone (does e ∷ acts) → SameBesidesOpens v u → Edited e u w → Edited e v w
edit_after (makes path kind bytes) acts v u w none same edited = made_after path kind bytes v u w same edited
edit_after (fills number bytes) acts v u w none same edited = absurd none
edit_after (takes path) acts v u w none same edited = taken_after path v u w same edited
edit_after (moves from to) acts v u w none same edited = moved_after from to v u w same edited

part_edit_after : (e part : Edit) (acts : List Act) (v u w : World) → FillsNone (does e ∷ acts) → SameBesidesOpens v u → IsPart e part → Edited part u w → Edited part v w
part_edit_after (makes path kind bytes) part acts v u w none same (n, is) edited =
    subst (λ x. Edited x v w) (sym is) (made_after path kind (take n bytes) v u w same (subst (λ x. Edited x u w) is edited))
part_edit_after (fills number bytes) part acts v u w none same is edited = absurd none
part_edit_after (takes path) part acts v u w none same is edited = absurd is
part_edit_after (moves from to) part acts v u w none same is edited =
    subst (λ x. Edited x v w) (sym is) (moved_after from to v u w same (subst (λ x. Edited x u w) is edited))

done_after : (acts : List Act) (v u w : World) → FillsNone acts → SameBesidesOpens v u → AllDone acts u w → AllDone acts v w
done_after [] v u w none same h = same_besides_then v u w same h
done_after (halts l ∷ acts) v u w none same h = h
done_after (does e ∷ acts) v u w none same (m, edited, rest) = (m, edit_after e acts v u m none same edited, rest)

halted_after : (fields : Fields) (reply : Reply) (acts : List Act) (v u w : World) → FillsNone acts → SameBesidesOpens v u → Halted fields reply acts u w → Halted fields reply acts v w
halted_after fields reply [] v u w none same h = h
halted_after fields reply (halts l ∷ acts) v u w none same (is, kept) = (is, same_besides_then v u w same kept)
halted_after fields reply (does e ∷ acts) v u w none same (m, edited, rest) = (m, edit_after e acts v u m none same edited, rest)

part_after : (acts : List Act) (v u w : World) → FillsNone acts → SameBesidesOpens v u → PartOf acts u w → PartOf acts v w
part_after [] v u w none same h = same_besides_then v u w same h
part_after (halts l ∷ acts) v u w none same h = same_besides_then v u w same h
part_after (does e ∷ acts) v u w none same (inl h) = inl (same_besides_then v u w same h)
part_after (does e ∷ acts) v u w none same (inr (inl (part, is, edited))) = inr (inl (part, is, part_edit_after e part acts v u w none same is edited))
part_after (does e ∷ acts) v u w none same (inr (inr (m, edited, rest))) = inr (inr (m, edit_after e acts v u m none same edited, rest))

-- ---- one list after another

done_then : (a b : List Act) (v u w : World) → FillsNone b → AllDone a v u → AllDone b u w → AllDone (a ++ b) v w
done_then [] b v u w none same h = done_after b v u w none same h
done_then (halts l ∷ a) b v u w none done h = absurd done
done_then (does e ∷ a) b v u w none (m, edited, rest) h = (m, edited, done_then a b m u w none rest h)

halted_then : (fields : Fields) (reply : Reply) (a b : List Act) (v u w : World) → FillsNone b → AllDone a v u → Halted fields reply b u w → Halted fields reply (a ++ b) v w
halted_then fields reply [] b v u w none same h = halted_after fields reply b v u w none same h
halted_then fields reply (halts l ∷ a) b v u w none done h = absurd done
halted_then fields reply (does e ∷ a) b v u w none (m, edited, rest) h = (m, edited, halted_then fields reply a b m u w none rest h)

part_then : (a b : List Act) (v u w : World) → FillsNone b → AllDone a v u → PartOf b u w → PartOf (a ++ b) v w
part_then [] b v u w none same h = part_after b v u w none same h
part_then (halts l ∷ a) b v u w none done h = absurd done
part_then (does e ∷ a) b v u w none (m, edited, rest) h = inr (inr (m, edited, part_then a b m u w none rest h))

halted_more : (fields : Fields) (reply : Reply) (a b : List Act) (v w : World) → Halted fields reply a v w → Halted fields reply (a ++ b) v w
halted_more fields reply [] b v w h = absurd h
halted_more fields reply (halts l ∷ a) b v w h = h
halted_more fields reply (does e ∷ a) b v w (m, edited, rest) = (m, edited, halted_more fields reply a b m w rest)

part_more : (a b : List Act) (v w : World) → PartOf a v w → PartOf (a ++ b) v w
part_more [] b v w same = part_none b v w same
part_more (halts l ∷ a) b v w same = same
part_more (does e ∷ a) b v w (inl same) = inl same
part_more (does e ∷ a) b v w (inr (inl part)) = inr (inl part)
part_more (does e ∷ a) b v w (inr (inr (m, edited, rest))) = inr (inr (m, edited, part_more a b m w rest))

-- ---- acts of a removal

-- a removal, or the refusal of a directory of too many names
abbrev pub act_by : Bool → Names → Act
act_by deep path = cond deep (halts (line 403)) (does (takes path))

abbrev pub acts_by : (Names → Bool) → List Names → List Act
acts_by deep paths = map (λ path. act_by (deep path) path) paths

first_none : (deep : Bool) (path : Names) (acts : List Act) → FillsNone acts → FillsNone (act_by deep path ∷ acts)
first_none true path acts none = none
first_none false path acts none = none

pub removals_none : (deep : Names → Bool) (paths : List Names) → FillsNone (acts_by deep paths)
removals_none deep [] = tt
removals_none deep (path ∷ paths) = first_none (deep path) path (acts_by deep paths) (removals_none deep paths)

-- ---- what acts and a line come to

module _ {S C F : Type 0} (view : View S C F) (fields : Fields) (start : S) where
  -- with an error
  pub record ComesTo (e : DavError) (all : List Act) (t : S) (v w : World) : Type 0 where
    pub short : lacks_memory e ≡ true → PartOf all v w
    pub said : lacks_memory e ≡ false → Halted fields (refusal fields (status_of e) (closes e)) all v w
        ⊎ ((refusal fields (status_of e) (closes e) ≡ failure) × Rose (view.state start).faults (view.state t).faults × PartOf all v w)

  abbrev pub Comes : Line → List Act → S → World → World → Type 0
  Comes (Ok x) all t v w = AllDone all v w
  Comes (Err e) all t v w = ComesTo e all t v w

  pub spoiled_comes : (f : FsError) (e : DavError) (all : List Act) (n t : S) (v w : World) → e ≡ of_fs f → (view.state start).faults ≤ (view.state n).faults
      → Spoiled {T = Unit} (view.state n) (Err f) (view.state t) → PartOf all v w → Comes (Err e) all t v w
  spoiled_comes f e all n t v w is le (inl (fault, rose)) part =
      let g : f ≡ fs.GeneralFailure = cc in
      let h : e ≡ dav.Fs fs.GeneralFailure = is ∙ ap of_fs g in
      subst (λ x. ComesTo x all t v w) (sym h) (record {
        short = λ z. cc;
        said = λ z. inr (refl, rose_before (view.state start).faults (view.state n).faults (view.state t).faults le rose, part);
      })
  spoiled_comes f e all n t v w is le (inr none) part =
      let g : f ≡ fs.NoMemory = cc in
      let h : e ≡ dav.NoMemory = is ∙ ap of_fs g in
      subst (λ x. ComesTo x all t v w) (sym h) (record { short = λ z. part; said = λ z. cc })

  pub short_comes : (all : List Act) (t : S) (v w : World) → SameBesidesOpens v w → Comes (Err dav.NoMemory) all t v w
  short_comes all t v w same = record { short = λ z. part_none all v w same; said = λ z. cc }

  -- The first of the acts ends the request.
  pub halted_comes : (e : DavError) (l : Halt) (all : List Act) (t : S) (v w : World) → status_of e ≡ l.status → closes e ≡ l.close → SameBesidesOpens v w
      → Comes (Err e) (halts l ∷ all) t v w
  halted_comes e l all t v w status close same =
      record { short = λ z. same; said = λ z. inl (ap (λ n. refusal fields n (closes e)) status ∙ ap (refusal fields l.status) close, same) }

  -- after what changes nothing
  pub comes_after : (r : Line) (all : List Act) (t : S) (v u w : World) → FillsNone all → SameBesidesOpens v u → Comes r all t u w → Comes r all t v w
  comes_after (Ok y) all t v u w none same h = done_after all v u w none same h
  comes_after (Err e) all t v u w none same h = record {
    short = λ z. part_after all v u w none same (h.short z);
    said = λ z. by (h.said z);
  }
    where
      by : Halted fields (refusal fields (status_of e) (closes e)) all u w
          ⊎ ((refusal fields (status_of e) (closes e) ≡ failure) × Rose (view.state start).faults (view.state t).faults × PartOf all u w)
          → Halted fields (refusal fields (status_of e) (closes e)) all v w
          ⊎ ((refusal fields (status_of e) (closes e) ≡ failure) × Rose (view.state start).faults (view.state t).faults × PartOf all v w)
      by (inl halted) = inl (halted_after fields (refusal fields (status_of e) (closes e)) all v u w none same halted)
      by (inr (is, rose, part)) = inr (is, rose, part_after all v u w none same part)

  -- after an edit
  pub comes_behind : (r : Line) (edit : Edit) (more : List Act) (t : S) (v u w : World) → Edited edit v u → Comes r more t u w → Comes r (does edit ∷ more) t v w
  comes_behind (Ok y) edit more t v u w edited h = (u, edited, h)
  comes_behind (Err e) edit more t v u w edited h = record {
    short = λ z. inr (inr (u, edited, h.short z));
    said = λ z. by (h.said z);
  }
    where
      by : Halted fields (refusal fields (status_of e) (closes e)) more u w
          ⊎ ((refusal fields (status_of e) (closes e) ≡ failure) × Rose (view.state start).faults (view.state t).faults × PartOf more u w)
          → Halted fields (refusal fields (status_of e) (closes e)) (does edit ∷ more) v w
          ⊎ ((refusal fields (status_of e) (closes e) ≡ failure) × Rose (view.state start).faults (view.state t).faults × PartOf (does edit ∷ more) v w)
      by (inl halted) = inl (u, edited, halted)
      by (inr (is, rose, part)) = inr (is, rose, inr (inr (u, edited, part)))

  -- after other acts
  pub comes_then : (r : Line) (a b : List Act) (t : S) (v u w : World) → FillsNone b → AllDone a v u → Comes r b t u w → Comes r (a ++ b) t v w
  comes_then (Ok y) a b t v u w none done h = done_then a b v u w none done h
  comes_then (Err e) a b t v u w none done h = record {
    short = λ z. part_then a b v u w none done (h.short z);
    said = λ z. by (h.said z);
  }
    where
      by : Halted fields (refusal fields (status_of e) (closes e)) b u w
          ⊎ ((refusal fields (status_of e) (closes e) ≡ failure) × Rose (view.state start).faults (view.state t).faults × PartOf b u w)
          → Halted fields (refusal fields (status_of e) (closes e)) (a ++ b) v w
          ⊎ ((refusal fields (status_of e) (closes e) ≡ failure) × Rose (view.state start).faults (view.state t).faults × PartOf (a ++ b) v w)
      by (inl halted) = inl (halted_then fields (refusal fields (status_of e) (closes e)) a b v u w none done halted)
      by (inr (is, rose, part)) = inr (is, rose, part_then a b v u w none done part)

  -- An error ends the request, whatever acts were to follow.
  pub comes_more : (e : DavError) (a b : List Act) (t : S) (v w : World) → Comes (Err e) a t v w → Comes (Err e) (a ++ b) t v w
  comes_more e a b t v w h = record {
    short = λ z. part_more a b v w (h.short z);
    said = λ z. by (h.said z);
  }
    where
      by : Halted fields (refusal fields (status_of e) (closes e)) a v w
          ⊎ ((refusal fields (status_of e) (closes e) ≡ failure) × Rose (view.state start).faults (view.state t).faults × PartOf a v w)
          → Halted fields (refusal fields (status_of e) (closes e)) (a ++ b) v w
          ⊎ ((refusal fields (status_of e) (closes e) ≡ failure) × Rose (view.state start).faults (view.state t).faults × PartOf (a ++ b) v w)
      by (inl halted) = inl (halted_more fields (refusal fields (status_of e) (closes e)) a b v w halted)
      by (inr (is, rose, part)) = inr (is, rose, part_more a b v w part)
