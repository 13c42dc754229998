-- What a walk that copies does, step by step, is what the table of COPY says of whole paths.
-- Headlines: `pending_goes` and `file_all`.
use Rattle.std.proofs.Common.{◌≡◌, ◌<◌, ◌++◌, ℕ, List, [], ◌∷◌, map, length, Bool, true, false, Result, Ok, Err, refl, sym, ap, subst, ◌∙◌, arith}
use Rattle.std.proofs.lemmas.List.{length-map}
use Rattle.dav_core.specs.declared.dav_error.DavError.{DavError}
use Rattle.dav_core.specs.declared.error.FsError.{FsError}
use Rattle.dav_core.specs.DavPath.{WebPath}
use Rattle.dav_store.specs.View.{View, Listings}
use Rattle.dav_walks.specs.declared.ends.Ends.{Ends}
use Rattle.dav_walks.specs.declared.member.Member.{Member}
use Rattle.dav_walks.specs.declared.pending.Pending.{Pending}
use Rattle.dav_walks.specs.declared.pending.Pending.TheVariants.{Below, Up}
use Rattle.dav_walks.specs.declared.transfer.Transfer.{Transfer}
use Rattle.dav_walks.specs.declared.work.Work.TheVariants.{Whole}
use Rattle.dav_walks.specs.Copying.{AfterMaking, Copies, CopiesBy, CopiesDir, CopiesOne, Enters, ReadsInto, done, goes, stops, transfer_of}
use Rattle.dav_walks.specs.Lines.{Line, above, fails_when}
use Rattle.dav_walks.specs.Removing.{is_deep, line_of}
use Rattle.dav_walks.specs.Walking.{CopiesOn, ReadsPending, ends_above, ends_below, member_at, members_at, transfer_dir, transfers_at, works_at}
use Rattle.dav_walks.specs.Weights.{weight}
use Rattle.dav_walks.proofs.steps.WorkGetsLighter.{members_lighter, wide}
use Rattle.dav_walks.proofs.steps.PathsPending.{ends_again, is_refused, transfers_joined, transfers_slashed, up_again, weighs_slashed, works_joined}

-- Up again from a member, what is pending is the same.
same_transfers : (ends : Ends) (m : Member) (works : List Pending) → transfers_at (ends_above (ends_below ends m)) works ≡ transfers_at ends works
same_transfers ends m works = ap (λ (e : Ends). transfers_at e works) (ends_again ends m) ∙ transfers_slashed ends works

same_weight : (path : WebPath) (m : Member) (works : List Pending) → weight (works_at (above (member_at path m).path) works []) ≡ weight (works_at path works [])
same_weight path m works = ap (λ p. weight (works_at p works [])) (up_again path m) ∙ weighs_slashed path works

module _ {S C F L E : Type 0} (view : View S C F) (lists : Listings S C L E) (c : C) (alone : Bool) where
  -- the first of the work
  step : (x : Transfer) (works rest : List Transfer) (s t : S) (r : Line) → CopiesOne view lists c alone x works s r t rest → CopiesOn view lists c alone (x ∷ works) s r t rest
  step x works rest s t (Ok tt) one = λ r u h. goes x works rest s t u r one h
  step x works rest s t (Err e) one = stops x works rest s t e one

  -- a call that copies what stands at a path, and its line
  abbrev pub FileCopied : Ends → S → Line → S → Type 0
  FileCopied ends s r t = (copied : Result Unit FsError) × view.copies s c ends.from ends.to copied t × (r ≡ line_of copied)

  file_step : (x : Transfer) (works : List Transfer) (s t : S) (r : Line) → x.dir ≡ false → FileCopied (record { from = x.from; to = x.to }) s r t → CopiesOn view lists c alone (x ∷ works) s r t works
  file_step x works s t r file did =
      step x works works s t r (subst (λ b. CopiesBy view lists c alone b x works s r t works) (sym file) (did.0, did.1, did.2, refl))

  -- A file was copied, and the paths went up again.
  pub file_done : (ends below after : Ends) (m : Member) (works : List Pending) (s t : S) (r : Line) → m.dir ≡ false → below ≡ ends_below ends m → after ≡ ends_above below
      → FileCopied below s r t → CopiesOn view lists c alone (transfers_at ends (Below m ∷ works)) s r t (transfers_at after works)
  file_done ends below after m works s t r file down up did =
      let here = subst (λ (e : Ends). FileCopied e s r t) down did in
      let done = file_step (transfer_of ends.to (member_at ends.from m)) (transfers_at ends works) s t r file here in
      let back : transfers_at after works ≡ transfers_at ends works =
      ap (λ (e : Ends). transfers_at e works) (up ∙ ap ends_above down) ∙ same_transfers ends m works in
      subst (λ xs. CopiesOn view lists c alone (transfers_at ends (Below m ∷ works)) s r t xs) (sym back) done

  -- ---- a directory

  pub too_deep : (ends : Ends) (works new : List Pending) (s : S) (e : DavError) → Err e ≡ fails_when (is_deep ends.from) 403
      → CopiesOn view lists c alone (transfer_dir ends ∷ transfers_at (ends_above ends) works) s (Err e) s (transfers_at ends new)
  too_deep ends works new s e refused =
      let is = is_refused (is_deep ends.from) e refused in
      stops (transfer_dir ends) (transfers_at (ends_above ends) works) (transfers_at ends new) s s e
      (subst (λ b. CopiesDir view lists c alone b (transfer_dir ends) (transfers_at (ends_above ends) works) s (Err e) s (transfers_at ends new)) (sym is.0) (refl, ap Err is.1))

  -- A directory was made, or not.
  pub made : (ends : Ends) (works new : List Pending) (s m t : S) (r : Line) (told : Result Unit FsError) → is_deep ends.from ≡ false → view.makes_dir s c ends.to told m
      → AfterMaking view lists c alone told (transfer_dir ends) (transfers_at (ends_above ends) works) m r t (transfers_at ends new)
      → CopiesOn view lists c alone (transfer_dir ends ∷ transfers_at (ends_above ends) works) s r t (transfers_at ends new)
  made ends works new s m t r told near makes after =
      step (transfer_dir ends) (transfers_at (ends_above ends) works) (transfers_at ends new) s t r
      (subst (λ b. CopiesDir view lists c alone b (transfer_dir ends) (transfers_at (ends_above ends) works) s r t (transfers_at ends new)) (sym near) (told, m, makes, after))

  -- It goes without its members.
  pub without : (ends : Ends) (works new : List Pending) (s m : S) → is_deep ends.from ≡ false → alone ≡ true → new ≡ Up ∷ works → view.makes_dir s c ends.to (Ok tt) m
      → CopiesOn view lists c alone (transfer_dir ends ∷ transfers_at (ends_above ends) works) s (Ok tt) m (transfers_at ends new)
  without ends works new s m near lone put makes = made ends works new s m m (Ok tt) (Ok tt) near makes
      (subst (λ b. Enters view lists c alone b (transfer_dir ends) (transfers_at (ends_above ends) works) m (Ok tt) m (transfers_at ends new)) (sym lone)
      (refl, refl, ap (transfers_at ends) put))

  into : (ends : Ends) (works new : List Pending) (m t : S) (r : Line) → ReadsPending view lists c ends.from (Up ∷ works) m r t new
      → ReadsInto view lists c (transfer_dir ends) (transfers_at (ends_above ends) works) m r t (transfers_at ends new)
  into ends works new m t (Ok x) (members, has, few, is) = (members_at ends.from members, has, ap (transfers_at ends) is ∙ transfers_joined ends members (Up ∷ works))
  into ends works new m t (Err e) reads = reads

  -- Its members come before what is pending.
  pub within : (ends : Ends) (works pushed new : List Pending) (s m t : S) (r : Line) → is_deep ends.from ≡ false → alone ≡ false → pushed ≡ Up ∷ works
      → view.makes_dir s c ends.to (Ok tt) m → ReadsPending view lists c ends.from pushed m r t new
      → CopiesOn view lists c alone (transfer_dir ends ∷ transfers_at (ends_above ends) works) s r t (transfers_at ends new)
  within ends works pushed new s m t r near lone put makes reads =
      let at : ReadsPending view lists c ends.from (Up ∷ works) m r t new = subst (λ ws. ReadsPending view lists c ends.from ws m r t new) put reads in
      made ends works new s m t r (Ok tt) near makes
      (subst (λ b. Enters view lists c alone b (transfer_dir ends) (transfers_at (ends_above ends) works) m r t (transfers_at ends new)) (sym lone) (into ends works new m t r at))

  -- A member that is a directory was copied so.
  pub member_done : (ends below : Ends) (m : Member) (works : List Pending) (rest : List Transfer) (s t : S) (r : Line) → m.dir ≡ true → below ≡ ends_below ends m
      → CopiesOn view lists c alone (transfer_dir below ∷ transfers_at (ends_above below) works) s r t rest → CopiesOn view lists c alone (transfers_at ends (Below m ∷ works)) s r t rest
  member_done ends below m works rest s t r dir down did =
      let here = subst (λ (e : Ends). CopiesOn view lists c alone (transfer_dir e ∷ transfers_at (ends_above e) works) s r t rest) down did in
      let at = subst (λ xs. CopiesOn view lists c alone (transfer_dir (ends_below ends m) ∷ xs) s r t rest) (same_transfers ends m works) here in
      subst (λ b. CopiesOn view lists c alone (record { from = (member_at ends.from m).path; to = (member_at ends.to m).path; dir = b } ∷ transfers_at ends works) s r t rest) (sym dir) at

  -- ---- one after the other

  -- A file is all that there is to copy.
  pub file_all : (x : Transfer) (s t : S) (r : Line) → x.dir ≡ false → FileCopied (record { from = x.from; to = x.to }) s r t → Copies view lists c alone (x ∷ []) s r t
  file_all x s t r file did = ended r (file_step x [] s t r file did)
    where
      ended : (r : Line) → CopiesOn view lists c alone (x ∷ []) s r t [] → Copies view lists c alone (x ∷ []) s r t
      ended (Ok tt) on = on (Ok tt) t (done t)
      ended (Err e) on = on

  -- the first that is pending was done
  pub pending_goes : (ends : Ends) (all works : List Pending) (work : Pending) (rest : List Transfer) (s m t : S) (r : Line) → all ≡ work ∷ works
      → CopiesOn view lists c alone (transfers_at ends (work ∷ works)) s (Ok tt) m rest → Copies view lists c alone rest m r t → Copies view lists c alone (transfers_at ends all) s r t
  pending_goes ends all works work rest s m t r same one h = subst (λ ws. Copies view lists c alone (transfers_at ends ws) s r t) (sym same) (one r t h)

  -- the first that is pending was refused
  pub pending_stops : (ends : Ends) (all works : List Pending) (work : Pending) (rest : List Transfer) (s t : S) (e : DavError) → all ≡ work ∷ works
      → CopiesOn view lists c alone (transfers_at ends (work ∷ works)) s (Err e) t rest → Copies view lists c alone (transfers_at ends all) s (Err e) t
  pending_stops ends all works work rest s t e same one = subst (λ ws. Copies view lists c alone (transfers_at ends ws) s (Err e) t) (sym same) one

  -- Nothing is pending.
  pub none_pending : (ends : Ends) (all : List Pending) (s : S) → length all ≡ 0 → Copies view lists c alone (transfers_at ends all) s (Ok tt) s
  none_pending ends [] s none = done s
  none_pending ends (work ∷ works) s none = absurd (omega (arith, none))

  -- ---- what is pending gets lighter

  pub file_lighter : (ends below after : Ends) (m : Member) (works : List Pending) → m.dir ≡ false → below ≡ ends_below ends m → after ≡ ends_above below
      → weight (works_at after.from works []) < weight (works_at ends.from (Below m ∷ works) [])
  file_lighter ends below after m works file down up =
      let back : weight (works_at after.from works []) ≡ weight (works_at ends.from works []) =
      ap (λ (e : Ends). weight (works_at e.from works [])) (up ∙ ap ends_above down) ∙ same_weight ends.from m works in
      let one : weight (Whole (member_at ends.from m).path m.dir ∷ works_at ends.from works []) ≡ weight (Whole (member_at ends.from m).path false ∷ works_at ends.from works []) =
      ap (λ b. weight (Whole (member_at ends.from m).path b ∷ works_at ends.from works [])) file in
      omega (arith, back, one)

  pub without_lighter : (path : WebPath) (works new : List Pending) → is_deep path ≡ false → new ≡ Up ∷ works
      → weight (works_at path new []) < weight (Whole path true ∷ works_at (above path) works [])
  without_lighter path works new near put =
      let same : weight (works_at path new []) ≡ weight (works_at path (Up ∷ works) []) = ap (λ ws. weight (works_at path ws [])) put in
      omega (arith, same, wide path near)

  pub within_lighter : (path : WebPath) (works pushed new : List Pending) (s t : S) (r : Line) → is_deep path ≡ false → pushed ≡ Up ∷ works → r ≡ Ok tt
      → ReadsPending view lists c path pushed s r t new → weight (works_at path new []) < weight (Whole path true ∷ works_at (above path) works [])
  within_lighter path works pushed new s t r near put ok reads =
      let (members, has, few, is) = subst (λ (x : Line). ReadsPending view lists c path pushed s x t new) ok reads in
      let count : length (members_at path members) ≡ length members = length-map members (member_at path) in
      members_lighter view lists s t c path (members_at path members) (works_at (above path) works []) (works_at (above path) works []) (works_at path new []) has near
      (omega (arith, few, count)) refl (ap (λ ws. works_at path ws []) (is ∙ ap (λ ws. map Below members ++ ws) put) ∙ works_joined path members (Up ∷ works) [])

  pub member_lighter : (ends below : Ends) (m : Member) (works : List Pending) (left : ℕ) → m.dir ≡ true → below ≡ ends_below ends m
      → left < weight (Whole below.from true ∷ works_at (above below.from) works []) → left < weight (works_at ends.from (Below m ∷ works) [])
  member_lighter ends below m works left dir down less =
      let here : weight (Whole below.from true ∷ works_at (above below.from) works []) ≡ weight (Whole (member_at ends.from m).path true ∷ works_at (above (member_at ends.from m).path) works []) =
      ap (λ (e : Ends). weight (Whole e.from true ∷ works_at (above e.from) works [])) down in
      let back = same_weight ends.from m works in
      let whole : weight (Whole (member_at ends.from m).path m.dir ∷ works_at ends.from works []) ≡ weight (Whole (member_at ends.from m).path true ∷ works_at ends.from works []) =
      ap (λ b. weight (Whole (member_at ends.from m).path b ∷ works_at ends.from works [])) dir in
      omega (arith, less, here, back, whole)
