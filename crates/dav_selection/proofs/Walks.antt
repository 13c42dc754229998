-- Resources that are asked for, one after the other.
use Rattle.std.proofs.Common.{◌≡◌, ◌<◌, ◌+◌, ◌++◌, ◌⊎◌, ℕ, suc, List, [], ◌∷◌, length, take, map, get_or, Bool, Option, None, Some, Result, Ok, Err, refl, sym, ap, subst, ◌∙◌, inl, inr, arith, add-one}
use Rattle.std.specs.List.{AllByRecursion, flat_map}
use Rattle.std.specs.Option.{is_some, option_map, option_to_list}
use Rattle.std.proofs.Math.Seq.{take-suc, take-append_seam}
use Rattle.std.proofs.lemmas.Bool.{cases_lt}
use Rattle.std.proofs.lemmas.Grind.{flat_map-append}
use Rattle.std.proofs.lemmas.List.{append-nil, length_push, map-append, take-append-le}
use Rattle.dav_core.specs.declared.member.Member.{Member}
use Rattle.dav_core.specs.DavPath.{WebPath}
use Rattle.dav_core.specs.Grammar.{parsed}
use Rattle.dav_store.specs.View.{View}
use Rattle.dav_report.specs.declared.answer.Record.{Record}
use Rattle.dav_selection.specs.declared.resource.Resource.{Resource}
use Rattle.dav_report.specs.declared.error.ReportError.{ReportError}
use Rattle.dav_report.specs.declared.error.ReportError.TheVariants as error
use Rattle.dav_selection.specs.declared.resource.Unread.{Unread}
use Rattle.dav_selection.specs.declared.resource.Unread.TheVariants.{Unsaid, Refused, NoMemory}
use Rattle.dav_selection.specs.Answered.{Answer, Link, Wants, answer_given, given, is_given, linked, record_of, missing, records, unless}
use Rattle.dav_selection.specs.Reports.{IsPassable, Leads, Sought, Walks, begun, goes, member_path}
use Rattle.dav_selection.specs.Resources.{Fetches}
use Rattle.dav_selection.specs.Visits.{Adds, followed_by}

-- one more of a list, and of what it is a list for
mapped_more : {A M W : Type 0} (f : A → W) (g : M → W) (done : List A) (a : A) (all : List M) (i : ℕ) (d : M) → map f done ≡ map g (take i all)
    → i < length all → f a ≡ g (get_or all i d)
    → map f (done ++ a ∷ []) ≡ map g (take (suc i) all)
mapped_more f g done a all i d before within here = map-append f done (a ∷ [])
    ∙ (ap (λ xs. xs ++ f a ∷ []) before ∙ (ap (λ w. map g (take i all) ++ w ∷ []) here
    ∙ (sym (map-append g (take i all) (get_or all i d ∷ [])) ∙ ap (map g) (sym (take-suc all i d within)))))

pub all_more : {A : Type 0} (P : A → Type 0) (xs : List A) (x : A) → AllByRecursion P xs → P x → AllByRecursion P (xs ++ x ∷ [])
all_more P [] x all here = (here, tt)
all_more P (y ∷ xs) x all here = (all.0, all_more P xs x all.1 here)

pub flat_more : {A B : Type 0} (f : A → List B) (xs : List A) (x : A) → flat_map f (xs ++ x ∷ []) ≡ flat_map f xs ++ f x
flat_more f xs x = flat_map-append f xs (x ∷ []) ∙ ap (λ ys. flat_map f xs ++ ys) (append-nil (f x))

pub records_more : (taken : List ℕ → Option (List ℕ)) (answers : List Answer) (path : WebPath) (got : Result Resource Unread) (old new : List Record)
    → old ≡ records taken answers
    → new ≡ old ++ given taken path got → new ≡ records taken (answers ++ record { path = path; got = got } ∷ [])
records_more taken answers path got old new before e =
    e ∙ (ap (λ xs. xs ++ given taken path got) before ∙ sym (flat_more (λ (a : Answer). given taken a.path a.got) answers (record { path = path; got = got })))

wanted_more : {A : Type 0} (P : List A → Type 0) (xs : List A) (x : A) → ((k : ℕ) → k < length xs → P (take k xs)) → P xs → (k : ℕ)
    → k < suc (length xs) → P (take k (xs ++ x ∷ []))
wanted_more P xs x before here k within = elim (cases_lt k (length xs)) [
  | inl less ↦ subst P (sym (take-append-le k xs (x ∷ []) (omega arith))) (before k less)
  | inr last ↦ let same : length xs ≡ k = omega arith in subst (λ n. P (take n (xs ++ x ∷ []))) same (subst P (sym (take-append_seam xs (x ∷ []))) here)
]

module _ {S C F : Type 0} (view : View S C F) (c : C) where
  pub nothing_asked : (q : Sought) (members : List Member) (s : S) → Walks view c q members s [] s
  nothing_asked q members s = record { asked = begun; paths = refl; passable = tt; wanted = λ k within. absurd (omega arith) }

  pub asked_more : (q : Sought) (members : List Member) (s m t : S) (answers : List Answer) (path : WebPath) (got : Result Resource Unread) (d : Member)
      → Walks view c q members s answers m → length answers < length members → path ≡ member_path q.dir (get_or members (length answers) d)
      → Fetches view c path m got t → IsPassable got → Wants q.limit (length (records q.taken answers))
      → Walks view c q members s (answers ++ record { path = path; got = got } ∷ []) t
  asked_more q members s m t answers path got d walks within here fetched passable more =
      let long : length (answers ++ record { path = path; got = got } ∷ []) ≡ suc (length answers) = length_push answers (record { path = path; got = got }) ∙ add-one (length answers) in
      record {
        asked = goes answers m t path got walks.asked fetched;
        paths = mapped_more (λ (a : Answer). a.path) (member_path q.dir) answers (record { path = path; got = got }) members (length answers) d walks.paths within here
            ∙ ap (λ n. map (member_path q.dir) (take n members)) (sym long);
        passable = all_more (λ (a : Answer). IsPassable a.got) answers (record { path = path; got = got }) walks.passable passable;
        wanted = λ k below. wanted_more (λ xs. Wants q.limit (length (records q.taken xs))) answers (record { path = path; got = got }) walks.wanted more k (subst (λ n. k < n) long below);
      }

  pub path_after : (q : Sought) (members : List Member) (answers : List Answer) (path : WebPath) (d : Member)
      → map (λ (a : Answer). a.path) answers ≡ map (member_path q.dir) (take (length answers) members)
      → length answers < length members → path ≡ member_path q.dir (get_or members (length answers) d)
      → map (λ (a : Answer). a.path) answers ++ path ∷ [] ≡ map (member_path q.dir) (take (length answers + 1) members)
  path_after q members answers path d before within here =
      let next : take (length answers) members ++ get_or members (length answers) d ∷ [] ≡ take (length answers + 1) members =
      sym (take-suc members (length answers) d within) ∙ ap (λ n. take n members) (sym (add-one (length answers))) in
      ap (λ xs. xs ++ path ∷ []) before ∙ (ap (λ w. map (member_path q.dir) (take (length answers) members) ++ w ∷ []) here
      ∙ (sym (map-append (member_path q.dir) (take (length answers) members) (get_or members (length answers) d ∷ [])) ∙ ap (map (member_path q.dir)) next))

-- a link behind others
abbrev pub link_of : List ℕ → Option Answer → Link
link_of href answer = record { href = href; answer = answer }

pub written_more : (links : List Link) (hrefs : List (List ℕ)) (i : ℕ) (href : List ℕ) (d : List ℕ) (answer : Option Answer)
    → map (λ (l : Link). l.href) links ≡ take i hrefs → i < length hrefs
    → href ≡ get_or hrefs i d → map (λ (l : Link). l.href) (links ++ link_of href answer ∷ []) ≡ take (suc i) hrefs
written_more links hrefs i href d answer before within here = map-append (λ (l : Link). l.href) links (link_of href answer ∷ [])
    ∙ (ap (λ xs. xs ++ href ∷ []) before ∙ (ap (λ h. take i hrefs ++ h ∷ []) here ∙ sym (take-suc hrefs i d within)))

pub linked_more : (taken : List ℕ → Option (List ℕ)) (links : List Link) (href : List ℕ) (answer : Option Answer) (old new : List Record)
    → old ≡ linked taken links
    → new ≡ old ++ answer_given taken answer → new ≡ linked taken (links ++ link_of href answer ∷ [])
linked_more taken links href answer old new before e =
    e ∙ (ap (λ xs. xs ++ answer_given taken answer) before ∙ sym (flat_more (λ (l : Link). answer_given taken l.answer) links (link_of href answer)))

pub missing_more : (taken : List ℕ → Option (List ℕ)) (links : List Link) (href : List ℕ) (answer : Option Answer) (was : Bool) (old new : List (List ℕ)) → old ≡ missing taken links
    → was ≡ is_given (answer_given taken answer) → new ≡ old ++ unless was href → new ≡ missing taken (links ++ link_of href answer ∷ [])
missing_more taken links href answer was old new before is e =
    e ∙ (ap (λ xs. xs ++ unless was href) before ∙ (ap (λ b. missing taken links ++ unless b href) is
    ∙ sym (flat_more (λ (l : Link). unless (is_given (answer_given taken l.answer)) l.href) links (link_of href answer))))

given_is : (path : WebPath) (etag : List ℕ) (o : Option (List ℕ)) → is_some o ≡ is_given (option_to_list (option_map (record_of path etag) o))
given_is path etag None = refl
given_is path etag (Some text) = refl

module _ {S C F : Type 0} (view : View S C F) (c : C) (taken : List ℕ → Option (List ℕ)) (prefix href : List ℕ) where
  -- a link whose resource was asked for
  link_led : (s t : S) (path : WebPath) (got : Result Resource Unread) (visited : Result Bool Unread) (result : Result Bool ReportError) (old new : List Record) → parsed href prefix ≡ Ok path
      → Fetches view c path s got t → Adds taken (record { path = path; got = got }) old visited new → result ≡ followed_by visited
      → ((answer : Option Answer) × Leads view c prefix href s answer t × (new ≡ old ++ answer_given taken answer) × (result ≡ Ok (is_given (answer_given taken answer))))
      ⊎ (result ≡ Err error.NoMemory)
  link_led s t path (Ok r) visited result old new at fetched adds is =
      inl (Some (record { path = path; got = Ok r }), (at, fetched, tt), adds.records, is ∙ (ap followed_by adds.answer ∙ ap Ok (given_is path r.etag (taken r.content))))
  link_led s t path (Err Refused) visited result old new at fetched adds is =
      inl (Some (record { path = path; got = Err Refused }), (at, fetched, tt), adds.records, is ∙ ap followed_by adds.answer)
  link_led s t path (Err (Unsaid e)) visited result old new at fetched adds is =
      inl (Some (record { path = path; got = Err (Unsaid e) }), (at, fetched, tt), adds.records, is ∙ ap followed_by adds.answer)
  link_led s t path (Err NoMemory) visited result old new at fetched adds is = inr (is ∙ ap followed_by adds.answer)

  pub link_visited : (s t : S) (path : WebPath) (visited : Result Bool Unread) (result : Result Bool ReportError) (old new : List Record)
      → parsed href prefix ≡ Ok path
      → ((got : Result Resource Unread) × Fetches view c path s got t × Adds taken (record { path = path; got = got }) old visited new) ⊎ (visited ≡ Err NoMemory) → result ≡ followed_by visited
      → ((answer : Option Answer) × Leads view c prefix href s answer t × (new ≡ old ++ answer_given taken answer) × (result ≡ Ok (is_given (answer_given taken answer))))
      ⊎ (result ≡ Err error.NoMemory)
  link_visited s t path visited result old new at (inl (got, fetched, adds)) is = link_led s t path got visited result old new at fetched adds is
  link_visited s t path visited result old new at (inr memory) is = inr (is ∙ ap followed_by memory)
