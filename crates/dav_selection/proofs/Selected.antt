-- The records of a query are those of what the store shows.
use Rattle.std.proofs.Common.{◌≡◌, ◌≤◌, ◌<◌, ◌+◌, ◌++◌, ◌⊎◌, inl, inr, ℕ, zero, suc, List, [], ◌∷◌, All, length, take, drop, map, get_or, Option, None, Some, Result, Ok, Err, refl, sym, ap, subst, ◌∙◌, append-nil, append_assoc, arith}
use Rattle.std.specs.List.{AllByRecursion, flat_map}
use Rattle.std.specs.Option.{option_map, option_to_list}
use Rattle.std.specs.List.Sorted.{IsPermutation}
use Rattle.std.proofs.lemmas.Grind.{flat_map-append}
use Rattle.std.proofs.lemmas.List.{length-append, map-append, take-append-drop, take_all, take_at, take_more, drop_all}
use Rattle.std.proofs.lemmas.List.Elements.{All-from_recursion, recursion_from_All}
use Rattle.std.proofs.lemmas.List.Sorted.{All-permutation}
use Rattle.dav_io.specs.Counts.{Rose}
use Rattle.dav_core.specs.declared.error.FsError.{FsError}
use Rattle.dav_core.specs.declared.member.Member.{Member}
use Rattle.dav_core.specs.DavPath.{WebPath}
use Rattle.dav_core.specs.Unchanged.{Keeps}
use Rattle.dav_store.specs.Members.{ReadsThere, WasListed}
use Rattle.dav_store.specs.Reached.{Reached, by_listing, by_none}
use Rattle.dav_store.specs.View.{View, Listings}
use Rattle.dav_store.proofs.Reached.{reached_stays}
use Rattle.dav_store.proofs.Reading.{rose_from, rose_on}
use Rattle.dav_report.specs.declared.answer.Record.{Record}
use Rattle.dav_report.specs.declared.error.ReportError.{ReportError}
use Rattle.dav_report.specs.declared.error.ReportError.TheVariants as error
use Rattle.dav_selection.specs.declared.resource.Resource.{Resource}
use Rattle.dav_selection.specs.declared.resource.Unread.{Unread}
use Rattle.dav_selection.specs.declared.resource.Unread.TheVariants.{Unsaid, Refused, NoMemory}
use Rattle.dav_selection.specs.Answered.{Answer, Wants, given, record_of, records}
use Rattle.dav_selection.specs.Reports.{AreInOrder, Asked, HadMemory, IsPassable, Selects, Sought, Walks, begun, goes, member_path}
use Rattle.dav_selection.specs.Shown.{AreGiven, IsDueOr, IsQueried, ShowsAt, Stock, at_most, due_at}
use Rattle.dav_selection.proofs.Due.{fetch_due, fetch_reached, fetch_refused}
use Rattle.dav_selection.proofs.Walks.{all_more}

-- ---- of all elements of a list

pub all_split : {A : Type 0} (P : A → Type 0) (xs : List A) (x : A) → AllByRecursion P (xs ++ x ∷ []) → AllByRecursion P xs × P x
all_split P [] x all = (tt, all.0)
all_split P (y ∷ xs) x all = let rest = all_split P xs x all.1 in ((all.0, rest.0), rest.1)

pub all_map : {A : Type 0} (P Q : A → Type 0) (xs : List A) → ((x : A) → P x → Q x) → AllByRecursion P xs → AllByRecursion Q xs
all_map P Q [] h all = tt
all_map P Q (x ∷ xs) h all = (h x all.0, all_map P Q xs h all.1)

all_taken : {A : Type 0} (P : A → Type 0) (n : ℕ) (xs : List A) → AllByRecursion P xs → AllByRecursion P (take n xs)
all_taken P zero xs all = tt
all_taken P (suc n) [] all = tt
all_taken P (suc n) (x ∷ xs) all = (all.0, all_taken P n xs all.1)

all_front : {A : Type 0} (P : A → Type 0) (xs ys : List A) → AllByRecursion P (xs ++ ys) → AllByRecursion P xs
all_front P [] ys all = tt
all_front P (x ∷ xs) ys all = (all.0, all_front P xs ys all.1)

pub all_to : {A B : Type 0} (P : B → Type 0) (f : A → B) (xs : List A) → AllByRecursion (λ x. P (f x)) xs → AllByRecursion P (map f xs)
all_to P f [] all = tt
all_to P f (x ∷ xs) all = (all.0, all_to P f xs all.1)

pub all_from : {A B : Type 0} (P : B → Type 0) (f : A → B) (xs : List A) → AllByRecursion P (map f xs) → AllByRecursion (λ x. P (f x)) xs
all_from P f [] all = tt
all_from P f (x ∷ xs) all = (all.0, all_from P f xs all.1)

-- ---- what paths give

pub due_later : {A B : Type 0} (due given : List Record) → (A → B) → IsDueOr A due given → IsDueOr B due given
due_later due given up (inl same) = inl same
due_later due given up (inr (none, fault)) = inr (none, up fault)

given_then : (due : WebPath → List Record) (fault : Type 0) (xs ys : List WebPath) (a b : List Record) → AreGiven due fault xs a
    → AreGiven due fault ys b → AreGiven due fault (xs ++ ys) (a ++ b)
given_then due fault [] ys a b e more = subst (AreGiven due fault ys) (ap (λ z. z ++ b) (sym e)) more
given_then due fault (x ∷ xs) ys a b (first, rest, e, is, before) more =
    (first, rest ++ b, ap (λ z. z ++ b) e ∙ append_assoc first rest b, is, given_then due fault xs ys rest b before more)

given_all : (due : WebPath → List Record) (fault : Type 0) (xs : List WebPath) → AreGiven due fault xs (flat_map due xs)
given_all due fault [] = refl
given_all due fault (x ∷ xs) = (due x, flat_map due xs, refl, inl refl, given_all due fault xs)

-- the answers of resources that were asked for
abbrev AnswersDue : (List ℕ → Option (List ℕ)) → Stock → Type 0 → List Answer → Type 0
AnswersDue taken stock fault answers = AllByRecursion (λ (a : Answer). IsDueOr fault (due_at taken stock a.path) (given taken a.path a.got)) answers

given_of : (taken : List ℕ → Option (List ℕ)) (stock : Stock) (fault : Type 0) (answers : List Answer) → AnswersDue taken stock fault answers
    → AreGiven (due_at taken stock) fault (map (λ (a : Answer). a.path) answers) (records taken answers)
given_of taken stock fault [] all = refl
given_of taken stock fault (a ∷ answers) all =
    (given taken a.path a.got, records taken answers, refl, all.0, given_of taken stock fault answers all.1)

-- ---- no more than are wanted

short_option : (o : Option Record) → length (option_to_list o) ≤ 1
short_option None = omega arith
short_option (Some r) = omega arith

short : (taken : List ℕ → Option (List ℕ)) (path : WebPath) (got : Result Resource Unread) → length (given taken path got) ≤ 1
short taken path (Ok r) = short_option (option_map (record_of path r.etag) (taken r.content))
short taken path (Err e) = omega arith

records_push : (taken : List ℕ → Option (List ℕ)) (answers : List Answer) (a : Answer)
    → length (records taken (answers ++ a ∷ [])) ≡ length (records taken answers) + length (given taken a.path a.got)
records_push taken answers a = ap length (flat_map-append (λ (x : Answer). given taken x.path x.got) answers (a ∷ []) ∙ ap (λ z. records taken answers ++ z) (append-nil (given taken a.path a.got)))
    ∙ length-append (records taken answers) (given taken a.path a.got)

within : (taken : List ℕ → Option (List ℕ)) (limit n : ℕ) (answers : List Answer) → length answers ≡ n
    → ((k : ℕ) → k < n → length (records taken (take k answers)) < limit)
    → length (records taken answers) ≤ limit
within taken limit n [] long few = omega arith
within taken limit zero (a ∷ answers) long few = absurd (omega (arith, long))
within taken limit (suc n) (a ∷ answers) long few =
    let all = a ∷ answers in
    let last = get_or all n a in
    let parts : all ≡ take n all ++ last ∷ [] = sym (take_all (n + 1) all (omega (arith, long))) ∙ take_more all n a (omega (arith, long)) in
    let count : length (records taken all) ≡ length (records taken (take n all)) + length (given taken last.path last.got) = ap (λ xs. length (records taken xs)) parts ∙ records_push taken (take n all) last in
    omega (arith, count, few n (omega arith), short taken last.path last.got)

at_limit : (limit : Option ℕ) (rs rest : List Record) → ((l : ℕ) → limit ≡ Some l → length rs ≤ l) → (rest ≡ []) ⊎ (Wants limit (length rs) → ⊥)
    → rs ≡ at_most limit (rs ++ rest)
at_limit None rs rest few (inl e) = sym (ap (λ z. rs ++ z) e ∙ append-nil rs)
at_limit None rs rest few (inr full) = absurd (full tt)
at_limit (Some l) rs rest few (inl e) = sym (ap (take l) (ap (λ z. rs ++ z) e ∙ append-nil rs) ∙ take_all l rs (few l refl))
at_limit (Some l) rs rest few (inr full) =
    let at : length rs ≡ l = omega (arith, few l refl, full) in
    sym (take_at rs rest l at)

wants_some : (limit : Option ℕ) (l n : ℕ) → limit ≡ Some l → Wants limit n → n < l
wants_some None l n e wants = cc
wants_some (Some k) l n e wants = let same : k ≡ l = cc in subst (λ j. n < j) same wants

passable_had : (got : Result Resource Unread) → IsPassable got → HadMemory got
passable_had (Ok r) p = tt
passable_had (Err Refused) p = tt
passable_had (Err (Unsaid e)) p = tt
passable_had (Err NoMemory) p = absurd p

all_had : (answers : List Answer) → AllByRecursion (λ (a : Answer). IsPassable a.got) answers
    → AllByRecursion (λ (a : Answer). HadMemory a.got) answers
all_had answers all = all_map (λ (a : Answer). IsPassable a.got) (λ (a : Answer). HadMemory a.got) answers (λ (a : Answer). passable_had a.got) all

-- the calls that fetch resources are a reader's
asked_reached : {S C F L E : Type 0} (view : View S C F) (lists : Listings S C L E) (s : S) (c : C) (b t : S) (answers : List Answer)
    → Reached view lists s c b → Asked view c b answers t
    → AllByRecursion (λ (a : Answer). HadMemory a.got) answers → Reached view lists s c t
asked_reached view lists s c b t answers reached begun had = reached
asked_reached view lists s c b t all reached (goes answers m n path got asked fetched) had =
    let hads = all_split (λ (a : Answer). HadMemory a.got) answers (record { path = path; got = got }) had in
    fetch_reached view lists s c m n path got (asked_reached view lists s c b m answers reached asked hads.0) fetched hads.1

asked_counts : {S C F L E : Type 0} (view : View S C F) (lists : Listings S C L E) (c : C) (b t : S) (answers : List Answer)
    → Asked view c b answers t
    → AllByRecursion (λ (a : Answer). HadMemory a.got) answers → (view.state b).faults ≤ (view.state t).faults
asked_counts view lists c b t answers asked had = (reached_stays view lists b c t (asked_reached view lists b c b t answers by_none asked had)).counts

module _ {S C F L E : Type 0} (view : View S C F) (lists : Listings S C L E) (s : S) (c : C) (stock : Stock) where
  -- resources that were asked for, one after the other
  asked_due : (taken : List ℕ → Option (List ℕ)) (b t : S) (answers : List Answer) → Reached view lists s c b → Asked view c b answers t
      → AllByRecursion (λ (a : Answer). HadMemory a.got) answers
      → AllByRecursion (λ (a : Answer). ShowsAt view lists s c stock a.path) answers
      → Reached view lists s c t × AnswersDue taken stock (Rose (view.state s).faults (view.state t).faults) answers
  asked_due taken b t answers reached begun had shows = (reached, tt)
  asked_due taken b t all reached (goes answers m n path got asked fetched) had shows =
      let hads = all_split (λ (a : Answer). HadMemory a.got) answers (record { path = path; got = got }) had in
      let shown = all_split (λ (a : Answer). ShowsAt view lists s c stock a.path) answers (record { path = path; got = got }) shows in
      let (place, due) = asked_due taken b m answers reached asked hads.0 shown.0 in
      let counts : (view.state s).faults ≤ (view.state m).faults = (reached_stays view lists s c m place).counts in
      let on : (view.state m).faults ≤ (view.state n).faults = (reached_stays view lists m c n (fetch_reached view lists m c m n path got by_none fetched hads.1)).counts in
      let here = fetch_due view lists s c taken path (stock.opened path) m n got shown.1 place fetched hads.1 in (
        fetch_reached view lists s c m n path got place fetched hads.1,
        all_more (λ (a : Answer). IsDueOr (Rose (view.state s).faults (view.state n).faults) (due_at taken stock a.path) (given taken a.path a.got)) answers (record { path = path; got = got })
            (all_map (λ (a : Answer). IsDueOr (Rose (view.state s).faults (view.state m).faults) (due_at taken stock a.path) (given taken a.path a.got))
            (λ (a : Answer). IsDueOr (Rose (view.state s).faults (view.state n).faults) (due_at taken stock a.path) (given taken a.path a.got)) answers
            (λ (a : Answer). due_later (due_at taken stock a.path) (given taken a.path a.got) (λ rose. rose_on (view.state s).faults (view.state m).faults (view.state n).faults rose on)) due)
            (due_later (due_at taken stock path) (given taken path got) (λ rose. rose_from (view.state s).faults (view.state m).faults (view.state n).faults counts rose) here),
      )

  shown_front : (q : Sought) (sorted : List Member) (answers : List Answer)
      → map (λ (a : Answer). a.path) answers ≡ map (member_path q.dir) (take (length answers) sorted)
      → AllByRecursion (λ m. ShowsAt view lists s c stock (member_path q.dir m)) sorted
      → AllByRecursion (λ (a : Answer). ShowsAt view lists s c stock a.path) answers
  shown_front q sorted answers paths shows =
      all_from (ShowsAt view lists s c stock) (λ (a : Answer). a.path) answers
      (subst (AllByRecursion (ShowsAt view lists s c stock)) (sym paths)
      (all_to (ShowsAt view lists s c stock) (member_path q.dir) (take (length answers) sorted)
      (all_taken (λ m. ShowsAt view lists s c stock (member_path q.dir m)) (length answers) sorted shows)))

  walk_due : (q : Sought) (sorted : List Member) (b t : S) (answers : List Answer) → Reached view lists s c b → Walks view c q sorted b answers t
      → AllByRecursion (λ m. ShowsAt view lists s c stock (member_path q.dir m)) sorted
      → Reached view lists s c t × AnswersDue q.taken stock (Rose (view.state s).faults (view.state t).faults) answers
  walk_due q sorted b t answers reached walks shows = asked_due q.taken b t answers reached walks.asked
      (all_had answers walks.passable) (shown_front q sorted answers walks.paths shows)

  -- the records of members in order
  record Ordered (q : Sought) (sorted : List Member) (fault : Type 0) (found : List Record) : Type 0 where
    all_given : List Record
    gives : AreGiven (due_at q.taken stock) fault (map (member_path q.dir) sorted) all_given
    first : found ≡ at_most q.limit all_given

  ordered : (q : Sought) (sorted : List Member) (b t : S) (answers : List Answer) (fault : Type 0) → Walks view c q sorted b answers t
      → AnswersDue q.taken stock fault answers
      → (length answers ≡ length sorted) ⊎ (Wants q.limit (length (records q.taken answers)) → ⊥) → Ordered q sorted fault (records q.taken answers)
  ordered q sorted b t answers fault walks due over =
      let n = length answers in
      let rest = map (member_path q.dir) (drop n sorted) in
      let due_here = due_at q.taken stock in
      let paths : map (λ (a : Answer). a.path) answers ++ rest ≡ map (member_path q.dir) sorted = ap (λ z. z ++ rest) walks.paths
      ∙ (sym (map-append (member_path q.dir) (take n sorted) (drop n sorted)) ∙ ap (map (member_path q.dir)) (take-append-drop n sorted)) in
      let gives = given_then due_here fault (map (λ (a : Answer). a.path) answers) rest (records q.taken answers) (flat_map due_here rest) (given_of q.taken stock fault answers due) (given_all due_here fault rest) in
      let few = λ (l : ℕ) (e : q.limit ≡ Some l). within q.taken l n answers refl (λ k lt. wants_some q.limit l (length (records q.taken (take k answers))) e (walks.wanted k lt)) in
      record {
        all_given = records q.taken answers ++ flat_map due_here rest;
        gives = subst (λ z. AreGiven due_here fault z (records q.taken answers ++ flat_map due_here rest)) paths gives;
        first = at_limit q.limit (records q.taken answers) (flat_map due_here rest) few (none over);
      }
    where
      none : (length answers ≡ length sorted) ⊎ (Wants q.limit (length (records q.taken answers)) → ⊥)
          → (flat_map (due_at q.taken stock) (map (member_path q.dir) (drop (length answers) sorted)) ≡ []) ⊎ (Wants q.limit (length (records q.taken answers)) → ⊥)
      none (inl all) =
          inl (ap (λ z. flat_map (due_at q.taken stock) (map (member_path q.dir) z)) (drop_all (length answers) sorted (omega (arith, all))))
      none (inr full) = inr full

  -- the members in order are among those that stand there
  shown_sorted : (q : Sought) (all listed lost sorted : List Member) → IsPermutation all (listed ++ lost) → AreInOrder listed sorted
      → All (λ m. ShowsAt view lists s c stock (member_path q.dir m)) all
      → AllByRecursion (λ m. ShowsAt view lists s c stock (member_path q.dir m)) sorted
  shown_sorted q all listed lost sorted each order shows =
      let P = λ (m : Member). ShowsAt view lists s c stock (member_path q.dir m) in
      let front = all_front P listed lost (recursion_from_All P (listed ++ lost) (All-permutation P all (listed ++ lost) each shows)) in
      recursion_from_All P sorted (All-permutation P listed sorted order.each (All-from_recursion P listed front))

  pub selected_right : (q : Sought) (all listed sorted : List Member) (b t : S) (result : Result (List Record) ReportError) → Reached view lists s c b
      → ReadsThere (Ok all) (view.state s).faults listed (view.state b).faults → AreInOrder listed sorted
      → All (λ m. ShowsAt view lists s c stock (member_path q.dir m)) all
      → Selects view c q sorted b result t → IsQueried q (Ok all) stock (Rose (view.state s).faults (view.state t).faults) result
  selected_right q all listed sorted b t (Ok found) reached (lost, each, why) order shows (answers, m, walks, (same, is, over)) =
      let walked = walk_due q sorted b m answers reached walks (shown_sorted q all listed lost sorted each order shows) in
      let on : (view.state b).faults ≤ (view.state t).faults = subst (λ x. (view.state b).faults ≤ (view.state x).faults) (sym same) (asked_counts view lists c b m answers walks.asked (all_had answers walks.passable)) in
      let fault = Rose (view.state s).faults (view.state t).faults in
      let due = subst (λ x. AnswersDue q.taken stock (Rose (view.state s).faults (view.state x).faults) answers) (sym same) walked.1 in
      let o = ordered q sorted b m answers fault walks due (subst (λ (rs : List Record). (length answers ≡ length sorted) ⊎ (Wants q.limit (length rs) → ⊥)) is over) in
      record {
        listed = listed;
        lost = lost;
        each = each;
        why = lost_why on why;
        sorted = sorted;
        order = order;
        all_given = o.all_given;
        gives = o.gives;
        first = is ∙ o.first;
      }
    where
      lost_why : (view.state b).faults ≤ (view.state t).faults → (lost ≡ []) ⊎ Rose (view.state s).faults (view.state b).faults
          → (lost ≡ []) ⊎ Rose (view.state s).faults (view.state t).faults
      lost_why on (inl none) = inl none
      lost_why on (inr rose) = inr (rose_on (view.state s).faults (view.state b).faults (view.state t).faults rose on)
  selected_right q all listed sorted b t (Err e) reached (lost, each, why) order shows (answers, m, walks, (fault, path, named, fetched, paths, wants)) =
      let walked = walk_due q sorted b m answers reached walks (shown_sorted q all listed lost sorted each order shows) in
      let refused = fetch_refused view q.taken path c m t fault (Err (Unsaid fault)) refl fetched in
      (rose_from (view.state s).faults (view.state m).faults (view.state t).faults (reached_stays view lists s c m walked.0).counts refused.1, named ∙ ap error.Fs refused.0)

  -- a directory that was listed, and what its members give
  pub queried : (q : Sought) (found : Result (List Member) FsError) (listed sorted : List Member) (b t : S) (result : Result (List Record) ReportError) → stock.listed q.dir ≡ found
      → WasListed view lists s c q.dir listed b → Keeps (view.state s) (view.state b)
      → ReadsThere found (view.state s).faults listed (view.state b).faults
      → ((all : List Member) → stock.listed q.dir ≡ Ok all → All (λ m. ShowsAt view lists s c stock (member_path q.dir m)) all)
      → AreInOrder listed sorted
      → Selects view c q sorted b result t ⊎ (result ≡ Err error.NoMemory)
      → IsQueried q found stock (Rose (view.state s).faults (view.state t).faults) result ⊎ (result ≡ Err error.NoMemory)
  queried q found listed sorted b t result e was keeps reads shows order (inr none) = inr none
  queried q (Err refusal) listed sorted b t result e was keeps reads shows order (inl selects) = absurd reads
  queried q (Ok all) listed sorted b t result e was keeps reads shows order (inl selects) =
      inl (selected_right q all listed sorted b t result (by_listing s b q.dir listed by_none was keeps) reads order (shows all e) selects)
