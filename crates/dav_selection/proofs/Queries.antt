-- The walk of a query, step by step.
use Rattle.std.proofs.Common.{◌≡◌, ◌<◌, ◌+◌, ◌++◌, ◌⊎◌, ℕ, List, [], ◌∷◌, length, get_or, Bool, false, IsTrue, Option, Result, Ok, Err, refl, sym, ap, subst, ◌∙◌, inl, inr, arith}
use Rattle.std.proofs.lemmas.List.{length_push}
use Rattle.dav_core.specs.declared.member.Member.{Member}
use Rattle.dav_core.specs.DavPath.{WebPath}
use Rattle.dav_store.specs.View.{View}
use Rattle.dav_report.specs.declared.answer.Record.{Record}
use Rattle.dav_report.specs.declared.error.ReportError.{ReportError}
use Rattle.dav_report.specs.declared.error.ReportError.TheVariants as error
use Rattle.dav_selection.specs.declared.resource.Resource.{Resource}
use Rattle.dav_selection.specs.declared.resource.Unread.{Unread}
use Rattle.dav_selection.specs.declared.resource.Unread.TheVariants.{Unsaid, Refused, NoMemory}
use Rattle.dav_selection.specs.Answered.{Answer, Wants, records}
use Rattle.dav_selection.specs.Reports.{IsPassable, Selects, Sought, Walks, member_path}
use Rattle.dav_selection.specs.Resources.{Fetches}
use Rattle.dav_selection.specs.Visits.{Adds, added, passed}
use Rattle.dav_selection.proofs.Walks.{asked_more, path_after, records_more}

-- a resource behind which a query goes on is passable
passable : (taken : List ℕ → Option (List ℕ)) (got : Result Resource Unread) (visited : Result Bool Unread) (u : Unit {0}) → visited ≡ added taken got
    → passed visited ≡ Ok u → IsPassable got
passable taken (Ok r) visited u is on = tt
passable taken (Err Refused) visited u is on = tt
passable taken (Err (Unsaid e)) visited u is on = let never : ◌≡◌ {A = Result (Unit {0}) ReportError} (Err (error.Fs e)) (Ok u) = sym (ap passed is) ∙ on in cc
passable taken (Err NoMemory) visited u is on = let never : ◌≡◌ {A = Result (Unit {0}) ReportError} (Err error.NoMemory) (Ok u) = sym (ap passed is) ∙ on in cc

module _ {S C F : Type 0} (view : View S C F) (c : C) (q : Sought) (members : List Member) (s : S) where
  -- how far a walk has come
  abbrev pub Walked : ℕ → List Record → S → Type 0
  Walked i given m = (answers : List Answer) × Walks view c q members s answers m × (length answers ≡ i) × (given ≡ records q.taken answers)

  -- what is done with the next resource
  abbrev pub Visited : S → WebPath → List Record → Result Bool Unread → List Record → S → Type 0
  Visited m path olds visited news t = ((got : Result Resource Unread) × Fetches view c path m got t × Adds q.taken (record { path = path; got = got }) olds visited news) ⊎ (visited ≡ Err NoMemory)

  pub walk_more : (i : ℕ) (m t : S) (path : WebPath) (d : Member) (olds news : List Record) (visited : Result Bool Unread) (u : Unit {0})
      → Walked i olds m → i < length members
      → path ≡ member_path q.dir d → d ≡ get_or members i d → Wants q.limit (length olds) → Visited m path olds visited news t → passed visited ≡ Ok u
      → Walked (i + 1) news t
  walk_more i m t path d olds news visited u (answers, walks, far, given) within at is wants (inl (got, fetched, adds)) on =
      let here : path ≡ member_path q.dir (get_or members (length answers) d) = at ∙ ap (member_path q.dir) (is ∙ ap (λ k. get_or members k d) (sym far)) in (
        answers ++ record { path = path; got = got } ∷ [],
        asked_more view c q members s m t answers path got d walks (omega arith) here fetched (passable q.taken got visited u adds.answer on) (subst (λ xs. Wants q.limit (length xs)) given wants),
        length_push answers (record { path = path; got = got }) ∙ ap (λ k. k + 1) far,
        records_more q.taken answers path got olds news given adds.records,
      )
  walk_more i m t path d olds news visited u walked within at is wants (inr memory) on = let never : ◌≡◌ {A = Result (Unit {0}) ReportError} (Err error.NoMemory) (Ok u) = sym (ap passed memory) ∙ on in cc

  -- the metadata of the next is refused, or memory
  refused_by : (i : ℕ) (m t : S) (path : WebPath) (d : Member) (olds news : List Record) (visited : Result Bool Unread) (e : ReportError) (got : Result Resource Unread) → Walked i olds m
      → i < length members → path ≡ member_path q.dir d → d ≡ get_or members i d → Wants q.limit (length olds) → Fetches view c path m got t
      → visited ≡ added q.taken got
      → passed visited ≡ Err e → Selects view c q members s (Err e) t ⊎ (e ≡ error.NoMemory)
  refused_by i m t path d olds news visited e (Ok r) walked within at is wants fetched added_is off = let never : ◌≡◌ {A = Result (Unit {0}) ReportError} (Ok tt) (Err e) = sym (ap passed added_is) ∙ off in cc
  refused_by i m t path d olds news visited e (Err Refused) walked within at is wants fetched added_is off =
      let never : ◌≡◌ {A = Result (Unit {0}) ReportError} (Ok tt) (Err e) = sym (ap passed added_is) ∙ off in cc
  refused_by i m t path d olds news visited e (Err NoMemory) walked within at is wants fetched added_is off =
      let same : ◌≡◌ {A = Result (Unit {0}) ReportError} (Err error.NoMemory) (Err e) = sym (ap passed added_is) ∙ off in inr cc
  refused_by i m t path d olds news visited e (Err (Unsaid fault)) (answers, walks, far, given) within at is wants fetched added_is off =
      let same : ◌≡◌ {A = Result (Unit {0}) ReportError} (Err (error.Fs fault)) (Err e) = sym (ap passed added_is) ∙ off in
      let named : e ≡ error.Fs fault = cc in
      let here : path ≡ member_path q.dir (get_or members (length answers) d) = at ∙ ap (member_path q.dir) (is ∙ ap (λ k. get_or members k d) (sym far)) in
      inl (answers, m, walks, (fault, path, named, fetched, path_after view c q members answers path d walks.paths (omega arith) here, subst (λ xs. Wants q.limit (length xs)) given wants))

  pub walk_refused : (i : ℕ) (m t : S) (path : WebPath) (d : Member) (olds news : List Record) (visited : Result Bool Unread) (e : ReportError)
      → Walked i olds m → i < length members
      → path ≡ member_path q.dir d → d ≡ get_or members i d → Wants q.limit (length olds) → Visited m path olds visited news t
      → passed visited ≡ Err e
      → Selects view c q members s (Err e) t ⊎ (◌≡◌ {A = Result (List Record) ReportError} (Err e) (Err error.NoMemory))
  walk_refused i m t path d olds news visited e walked within at is wants (inl (got, fetched, adds)) off =
      elim (refused_by i m t path d olds news visited e got walked within at is wants fetched adds.answer off) [ inl selects ↦ inl selects | inr memory ↦ inr (ap Err memory) ]
  walk_refused i m t path d olds news visited e walked within at is wants (inr memory) off =
      let same : ◌≡◌ {A = Result (Unit {0}) ReportError} (Err error.NoMemory) (Err e) = sym (ap passed memory) ∙ off in inr cc

  -- no more records are wanted, or all members were asked for
  pub walk_full : (i : ℕ) (m : S) (olds result slice : List Record) → Walked i olds m → slice ≡ olds → result ≡ olds
      → (Wants q.limit (length slice) → IsTrue false) → Selects view c q members s (Ok result) m
  walk_full i m olds result slice (answers, walks, far, given) same is full =
      (answers, m, walks, (refl, is ∙ given, inr (λ more. never (full (subst (λ xs. Wants q.limit (length xs)) (is ∙ sym same) more)))))
    where
      never : IsTrue false → ⊥
      never h = cc

  pub walk_over : (i : ℕ) (m : S) (olds result : List Record) → Walked i olds m → result ≡ olds → i ≡ length members
      → Selects view c q members s (Ok result) m
  walk_over i m olds result (answers, walks, far, given) is over = (answers, m, walks, (refl, is ∙ given, inl (far ∙ over)))
