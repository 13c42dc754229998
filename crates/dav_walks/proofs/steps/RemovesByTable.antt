-- What a walk that removes does, step by step, is what the table of DELETE says of whole paths.
-- Headlines: `pending_goes` and `dir_all`.
use Rattle.std.proofs.Common.{◌≡◌, ◌<◌, List, [], ◌∷◌, length, Bool, true, false, Result, Ok, Err, refl, sym, ap, subst, ◌∙◌, arith, inl, inr}
use Rattle.std.proofs.lemmas.List.{length-map}
use Rattle.dav_core.specs.declared.dav_error.DavError.{DavError}
use Rattle.dav_core.specs.declared.error.FsError.{FsError}
use Rattle.dav_core.specs.DavPath.{WebPath}
use Rattle.dav_store.specs.View.{View, Listings}
use Rattle.dav_walks.specs.declared.member.Member.{Member}
use Rattle.dav_walks.specs.declared.pending.Pending.{Pending}
use Rattle.dav_walks.specs.declared.pending.Pending.TheVariants.{Below, Up}
use Rattle.dav_walks.specs.declared.work.Work.{Work}
use Rattle.dav_walks.specs.declared.work.Work.TheVariants.{Emptied, Whole}
use Rattle.dav_walks.specs.Lines.{Line, above, fails_when}
use Rattle.dav_walks.specs.Removing.{RefusesDir, Removes, RemovesOne, done, goes, is_deep, line_of, stops}
use Rattle.dav_walks.specs.Walking.{ReadsPending, RemovesOn, member_at, members_at, works_at}
use Rattle.dav_walks.specs.Weights.{weight}
use Rattle.dav_walks.proofs.steps.WorkGetsLighter.{members_lighter}
use Rattle.dav_walks.proofs.steps.PathsPending.{is_refused, is_shallow, same_again, slashed, works_joined}

module _ {S C F L E : Type 0} (view : View S C F) (lists : Listings S C L E) (c : C) where
  -- the first of the work
  step : (work : Work) (works rest : List Work) (s t : S) (r : Line) → RemovesOne view lists c work works s r t rest → RemovesOn view lists c (work ∷ works) s r t rest
  step work works rest s t (Ok tt) one = λ r u h. goes work works rest s t u r one h
  step work works rest s t (Err e) one = stops work works rest s t e one

  -- a call that removes what stands at a path, and its line
  abbrev pub FileGone : WebPath → S → Line → S → Type 0
  FileGone path s r t = (gone : Result Unit FsError) × view.removes_file s c path gone t × (r ≡ line_of gone)

  abbrev pub DirGone : WebPath → S → Line → S → Type 0
  DirGone path s r t = (gone : Result Unit FsError) × view.removes_dir s c path gone t × (r ≡ line_of gone)

  file_step : (path : WebPath) (dir : Bool) (works : List Work) (s t : S) (r : Line) → dir ≡ false → FileGone path s r t → RemovesOn view lists c (Whole path dir ∷ works) s r t works
  file_step path dir works s t r e gone =
      subst (λ b. RemovesOn view lists c (Whole path b ∷ works) s r t works) (sym e) (step (Whole path false) works works s t r (gone.0, gone.1, gone.2, refl))

  -- A file was removed, and the path went up again.
  pub file_done : (path below after : WebPath) (m : Member) (works : List Pending) (last : List Work) (s t : S) (r : Line) → path.slash ≡ true → m.dir ≡ false
      → below ≡ (member_at path m).path → after ≡ above below → FileGone below s r t → RemovesOn view lists c (works_at path (Below m ∷ works) last) s r t (works_at after works last)
  file_done path below after m works last s t r slash file down up gone =
      let back : after ≡ path = up ∙ (ap above down ∙ same_again path m slash) in
      let here = subst (λ p. FileGone p s r t) down gone in
      let done = file_step (member_at path m).path m.dir (works_at path works last) s t r file here in
      subst (λ p. RemovesOn view lists c (works_at path (Below m ∷ works) last) s r t (works_at p works last)) (sym back) done

  -- A directory was removed that has lost its members, and the path went up.
  pub dir_done : (path after : WebPath) (works : List Pending) (last : List Work) (s t : S) (r : Line) → after ≡ above path → DirGone path s r t
      → RemovesOn view lists c (works_at path (Up ∷ works) last) s r t (works_at after works last)
  dir_done path after works last s t r up gone =
      let done = step (Emptied path) (works_at (above path) works last) (works_at (above path) works last) s t r (gone.0, gone.1, gone.2, refl) in
      subst (λ p. RemovesOn view lists c (works_at path (Up ∷ works) last) s r t (works_at p works last)) (sym up) done

  -- The members of a directory come before what is pending, by whether it is too deep.
  abbrev pub OpensPending : WebPath → List Pending → S → Line → S → List Pending → Type 0
  OpensPending path works s (Ok x) t rest = (is_deep path ≡ false) × ReadsPending view lists c path works s (Ok x) t rest
  OpensPending path works s (Err e) t rest = RefusesDir view lists c path s e t

  pub shallow_opens : (path : WebPath) (works new : List Pending) (s t : S) (r : Line) → Ok tt ≡ fails_when (is_deep path) 403 → ReadsPending view lists c path works s r t new
      → OpensPending path works s r t new
  shallow_opens path works new s t (Ok x) passed reads = (is_shallow (is_deep path) passed, reads)
  shallow_opens path works new s t (Err e) passed (inl (refusal, none, is)) = inr (inl (is_shallow (is_deep path) passed, refusal, none, is))
  shallow_opens path works new s t (Err e) passed (inr (members, has, short)) = inr (inr (is_shallow (is_deep path) passed, members, has, short))

  pub deep_stays : (path : WebPath) (works new : List Pending) (s : S) (e : DavError) → Err e ≡ fails_when (is_deep path) 403 → OpensPending path works s (Err e) s new
  deep_stays path works new s e refused =
      let is = is_refused (is_deep path) e refused in
      inl (is.0, is.1, refl)

  -- A directory was opened, with the way up behind its members.
  opened : (path : WebPath) (works new : List Pending) (last : List Work) (s t : S) (r : Line) → OpensPending path (Up ∷ works) s r t new
      → RemovesOne view lists c (Whole path true) (works_at (above path) works last) s r t (works_at path new last)
  opened path works new last s t (Ok x) (near, (members, has, few, is)) =
      (near, members_at path members, has, ap (λ ws. works_at path ws last) is ∙ works_joined path members (Up ∷ works) last)
  opened path works new last s t (Err e) refused = refused

  pub member_opened : (path below : WebPath) (m : Member) (works pushed new : List Pending) (last : List Work) (s t : S) (r : Line) → path.slash ≡ true → m.dir ≡ true
      → below ≡ (member_at path m).path → pushed ≡ Up ∷ works → OpensPending below pushed s r t new
      → RemovesOn view lists c (works_at path (Below m ∷ works) last) s r t (works_at below new last)
  member_opened path below m works pushed new last s t r slash dir down put opens =
      let at : OpensPending below (Up ∷ works) s r t new = subst (λ ws. OpensPending below ws s r t new) put opens in
      let one = step (Whole below true) (works_at (above below) works last) (works_at below new last) s t r (opened below works new last s t r at) in
      let back : above below ≡ path = ap above down ∙ same_again path m slash in
      let here = subst (λ p. RemovesOn view lists c (Whole below true ∷ works_at p works last) s r t (works_at below new last)) back one in
      let named = subst (λ p. RemovesOn view lists c (Whole p true ∷ works_at path works last) s r t (works_at below new last)) down here in
      subst (λ b. RemovesOn view lists c (Whole (member_at path m).path b ∷ works_at path works last) s r t (works_at below new last)) (sym dir) named

  -- The first directory was opened: it is removed last.
  pub first_opened : (path below : WebPath) (works new : List Pending) (s t : S) (r : Line) → below ≡ slashed path → works ≡ [] → OpensPending path works s r t new
      → RemovesOn view lists c (Whole path true ∷ []) s r t (works_at below new (Emptied path ∷ []))
  first_opened path below works new s t r slash none opens =
      let at = subst (λ ws. OpensPending path ws s r t new) none opens in
      let one = step (Whole path true) [] (works_at (slashed path) new (Emptied path ∷ [])) s t r (first r at) in
      subst (λ p. RemovesOn view lists c (Whole path true ∷ []) s r t (works_at p new (Emptied path ∷ []))) (sym slash) one
    where
      first : (r : Line) → OpensPending path [] s r t new → RemovesOne view lists c (Whole path true) [] s r t (works_at (slashed path) new (Emptied path ∷ []))
      first (Ok x) (near, (members, has, few, is)) = (
        near,
        members_at path members,
        has,
        ap (λ ws. works_at (slashed path) ws (Emptied path ∷ [])) is ∙ works_joined (slashed path) members [] (Emptied path ∷ []),
      )
      first (Err e) refused = refused

  -- ---- one after the other

  pub then : (all more last : List Work) (s m t : S) (r : Line) → RemovesOn view lists c all s (Ok tt) m more → RemovesOn view lists c more m r t last
      → RemovesOn view lists c all s r t last
  then all more last s m t (Ok tt) one rest = λ r u h. one r u (rest r u h)
  then all more last s m t (Err e) one rest = one (Err e) t rest

  ends : (works : List Work) (s t : S) (r : Line) → RemovesOn view lists c works s r t [] → Removes view lists c works s r t
  ends works s t (Ok tt) on = on (Ok tt) t (done t)
  ends works s t (Err e) on = on

  -- A file is all that there is to remove.
  pub file_all : (path : WebPath) (dir : Bool) (s t : S) (r : Line) → dir ≡ false → FileGone path s r t → Removes view lists c (Whole path dir ∷ []) s r t
  file_all path dir s t r file gone = ends (Whole path dir ∷ []) s t r (file_step path dir [] s t r file gone)

  -- A directory lost all below it, and went.
  pub dir_all : (path : WebPath) (dir : Bool) (s m t : S) (r : Line) → dir ≡ true → RemovesOn view lists c (Whole path true ∷ []) s (Ok tt) m (Emptied path ∷ []) → DirGone path m r t
      → Removes view lists c (Whole path dir ∷ []) s r t
  dir_all path dir s m t r whole below gone =
      let last = step (Emptied path) [] [] m t r (gone.0, gone.1, gone.2, refl) in
      subst (λ b. Removes view lists c (Whole path b ∷ []) s r t) (sym whole)
      (ends (Whole path true ∷ []) s t r (then (Whole path true ∷ []) (Emptied path ∷ []) [] s m t r below last))

  -- the first that is pending was done
  pub pending_goes : (path after : WebPath) (all works rest : List Pending) (work : Pending) (last : List Work) (s m t : S) (r : Line) → all ≡ work ∷ works
      → RemovesOn view lists c (works_at path (work ∷ works) last) s (Ok tt) m (works_at after rest last) → Removes view lists c (works_at after rest last) m r t
      → Removes view lists c (works_at path all last) s r t
  pending_goes path after all works rest work last s m t r same one h = subst (λ ws. Removes view lists c (works_at path ws last) s r t) (sym same) (one r t h)

  -- the first that is pending was refused
  pub pending_stops : (path : WebPath) (all works : List Pending) (work : Pending) (last rest : List Work) (s t : S) (e : DavError) → all ≡ work ∷ works
      → RemovesOn view lists c (works_at path (work ∷ works) last) s (Err e) t rest → Removes view lists c (works_at path all last) s (Err e) t
  pending_stops path all works work last rest s t e same one = subst (λ ws. Removes view lists c (works_at path ws last) s (Err e) t) (sym same) one

  -- Nothing is pending.
  pub none_pending : (path : WebPath) (all : List Pending) (last : List Work) (s t : S) (r : Line) → length all ≡ 0 → Removes view lists c last s r t
      → Removes view lists c (works_at path all last) s r t
  none_pending path [] last s t r none h = h
  none_pending path (work ∷ works) last s t r none h = absurd (omega (arith, none))

  -- ---- what is pending gets lighter

  pub file_lighter : (path below after : WebPath) (m : Member) (works : List Pending) → path.slash ≡ true → m.dir ≡ false → below ≡ (member_at path m).path → after ≡ above below
      → weight (works_at after works []) < weight (works_at path (Below m ∷ works) [])
  file_lighter path below after m works slash file down up =
      let back : after ≡ path = up ∙ (ap above down ∙ same_again path m slash) in
      let same : weight (works_at after works []) ≡ weight (works_at path works []) = ap (λ p. weight (works_at p works [])) back in
      let one : weight (Whole (member_at path m).path m.dir ∷ works_at path works []) ≡ weight (Whole (member_at path m).path false ∷ works_at path works []) =
      ap (λ b. weight (Whole (member_at path m).path b ∷ works_at path works [])) file in
      omega (arith, same, one)

  pub opened_lighter : (path : WebPath) (works new : List Pending) (s t : S) → OpensPending path (Up ∷ works) s (Ok tt) t new
      → weight (works_at path new []) < weight (Whole path true ∷ works_at (above path) works [])
  opened_lighter path works new s t (near, (members, has, few, is)) =
      let count : length (members_at path members) ≡ length members = length-map members (member_at path) in
      members_lighter view lists s t c path (members_at path members) (works_at (above path) works []) (works_at (above path) works []) (works_at path new []) has near
      (omega (arith, few, count)) refl (ap (λ ws. works_at path ws []) is ∙ works_joined path members (Up ∷ works) [])

  pub member_lighter : (path below : WebPath) (m : Member) (works pushed new : List Pending) (s t : S) (r : Line) → path.slash ≡ true → m.dir ≡ true
      → below ≡ (member_at path m).path → pushed ≡ Up ∷ works → r ≡ Ok tt → OpensPending below pushed s r t new → weight (works_at below new []) < weight (works_at path (Below m ∷ works) [])
  member_lighter path below m works pushed new s t r slash dir down put ok opens =
      let told : OpensPending below pushed s (Ok tt) t new = subst (λ (x : Line). OpensPending below pushed s x t new) ok opens in
      let at : OpensPending below (Up ∷ works) s (Ok tt) t new = subst (λ ws. OpensPending below ws s (Ok tt) t new) put told in
      let less = opened_lighter below works new s t at in
      let back : above below ≡ path = ap above down ∙ same_again path m slash in
      let here : weight (Whole below true ∷ works_at (above below) works []) ≡ weight (Whole below true ∷ works_at path works []) =
      ap (λ p. weight (Whole below true ∷ works_at p works [])) back in
      let named : weight (Whole below true ∷ works_at path works []) ≡ weight (Whole (member_at path m).path true ∷ works_at path works []) =
      ap (λ p. weight (Whole p true ∷ works_at path works [])) down in
      let whole : weight (Whole (member_at path m).path m.dir ∷ works_at path works []) ≡ weight (Whole (member_at path m).path true ∷ works_at path works []) =
      ap (λ b. weight (Whole (member_at path m).path b ∷ works_at path works [])) dir in
      omega (arith, less, here, named, whole)
