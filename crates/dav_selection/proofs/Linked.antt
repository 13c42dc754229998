-- The records of links, and the links that are missing, are those of what the store shows.
use Rattle.std.proofs.Common.{◌≡◌, ◌≤◌, ◌++◌, ◌⊎◌, inl, inr, ℕ, List, [], ◌∷◌, All, map, Option, None, Some, Result, Ok, Err, refl, sym, ap, subst}
use Rattle.std.specs.List.{AllByRecursion}
use Rattle.std.specs.Option.{option_map, option_to_list}
use Rattle.std.proofs.lemmas.List.{map-append}
use Rattle.std.proofs.lemmas.List.Elements.{recursion_from_All}
use Rattle.dav_io.specs.Counts.{Rose}
use Rattle.dav_core.specs.DavPath.{WebPath}
use Rattle.dav_core.specs.Grammar.{parsed}
use Rattle.dav_store.specs.Reached.{Reached, by_none}
use Rattle.dav_store.specs.View.{View, Listings}
use Rattle.dav_store.proofs.Reached.{reached_stays}
use Rattle.dav_store.proofs.Reading.{rose_from, rose_on}
use Rattle.dav_report.specs.declared.answer.Record.{Record}
use Rattle.dav_report.specs.declared.answer.Report.{Report}
use Rattle.dav_report.specs.declared.error.ReportError.{ReportError}
use Rattle.dav_report.specs.declared.error.ReportError.TheVariants as error
use Rattle.dav_selection.specs.declared.resource.Resource.{Resource}
use Rattle.dav_selection.specs.declared.resource.Unread.{Unread}
use Rattle.dav_selection.specs.Answered.{Answer, Link, answer_given, given, is_given, linked, missing, record_of, unless}
use Rattle.dav_selection.specs.Reports.{Followed, Follows, Leads, LinksAsked, began, leads}
use Rattle.dav_selection.specs.Shown.{AreLinked, IsDueOr, IsFollowed, ShowsAt, ShowsBy, Stock, due_of}
use Rattle.dav_selection.proofs.Due.{fetch_due, fetch_reached}
use Rattle.dav_selection.proofs.Selected.{all_from, all_split, due_later}
use Rattle.dav_selection.proofs.Walks.{flat_more}

linked_later : {A B : Type 0} (due : List ℕ → List Record) (hrefs : List (List ℕ)) (records : List Record) (lost : List (List ℕ)) → (A → B)
    → AreLinked due A hrefs records lost → AreLinked due B hrefs records lost
linked_later due [] records lost up none = none
linked_later due (href ∷ hrefs) records lost up (inl (r, rest, is, e, more)) = inl (r, rest, is, e, linked_later due hrefs rest lost up more)
linked_later due (href ∷ hrefs) records lost up (inr (rest, inl none, e, more)) = inr (rest, inl none, e, linked_later due hrefs records rest up more)
linked_later due (href ∷ hrefs) records lost up (inr (rest, inr fault, e, more)) =
    inr (rest, inr (up fault), e, linked_later due hrefs records rest up more)

-- a resource gives one record at most
abbrev IsShort : List Record → Type 0
IsShort [] = Unit {0}
IsShort (r ∷ []) = Unit {0}
IsShort (r ∷ q ∷ rest) = ⊥

option_short : (o : Option Record) → IsShort (option_to_list o)
option_short None = tt
option_short (Some r) = tt

given_short : (taken : List ℕ → Option (List ℕ)) (path : WebPath) (got : Result Resource Unread) → IsShort (given taken path got)
given_short taken path (Ok r) = option_short (option_map (record_of path r.etag) (taken r.content))
given_short taken path (Err e) = tt

-- one more link
one_linked : (due : List ℕ → List Record) (fault : Type 0) (href : List ℕ) (records : List Record) (lost : List (List ℕ)) (given : List Record)
    → records ≡ [] → lost ≡ [] → IsDueOr fault (due href) given
    → IsShort given → AreLinked due fault (href ∷ []) (records ++ given) (lost ++ unless (is_given given) href)
one_linked due fault href records lost [] none_r none_l (inl same) few =
    inr ([], inl (sym same), ap (λ z. z ++ href ∷ []) none_l, (ap (λ z. z ++ []) none_r, refl))
one_linked due fault href records lost [] none_r none_l (inr (none, met)) few =
    inr ([], inr met, ap (λ z. z ++ href ∷ []) none_l, (ap (λ z. z ++ []) none_r, refl))
one_linked due fault href records lost (r ∷ []) none_r none_l (inl same) few =
    inl (r, [], sym same, ap (λ z. z ++ r ∷ []) none_r, (refl, ap (λ z. z ++ []) none_l))
one_linked due fault href records lost (r ∷ []) none_r none_l (inr (none, met)) few = cc
one_linked due fault href records lost (r ∷ q ∷ rest) none_r none_l is few = absurd few

linked_push : (due : List ℕ → List Record) (fault : Type 0) (hrefs : List (List ℕ)) (href : List ℕ) (records : List Record) (lost : List (List ℕ)) (given : List Record)
    → AreLinked due fault hrefs records lost → IsDueOr fault (due href) given → IsShort given
    → AreLinked due fault (hrefs ++ href ∷ []) (records ++ given) (lost ++ unless (is_given given) href)
linked_push due fault [] href records lost given (none_r, none_l) is few = one_linked due fault href records lost given none_r none_l is few
linked_push due fault (first ∷ hrefs) href records lost given (inl (r, rest, has, e, more)) is few =
    inl (r, rest ++ given, has, ap (λ z. z ++ given) e, linked_push due fault hrefs href rest lost given more is few)
linked_push due fault (first ∷ hrefs) href records lost given (inr (rest, why, e, more)) is few =
    inr (rest ++ unless (is_given given) href, why, ap (λ z. z ++ unless (is_given given) href) e, linked_push due fault hrefs href records rest given more is few)

module _ {S C F L E : Type 0} (view : View S C F) (lists : Listings S C L E) (s : S) (c : C) (stock : Stock) (asked : LinksAsked) where
  -- where a link led, and what it gave
  record Led (m t : S) (href : List ℕ) (answer : Option Answer) : Type 0 where
    reached : Reached view lists s c t
    counts : (view.state m).faults ≤ (view.state t).faults
    gives : IsDueOr (Rose (view.state m).faults (view.state t).faults) (due_of asked stock href) (answer_given asked.taken answer)
    few : IsShort (answer_given asked.taken answer)

  led : (m t : S) (href : List ℕ) (answer : Option Answer) → Reached view lists s c m → Leads view c asked.prefix href m answer t
      → ShowsBy view lists s c stock (parsed href asked.prefix) → Led m t href answer
  led m t href None reached (same, (fault, is)) shows = record {
    reached = subst (Reached view lists s c) (sym same) reached;
    counts = subst (λ x. (view.state m).faults ≤ (view.state x).faults) (sym same) ((reached_stays view lists m c m by_none).counts);
    gives = rw is (inl refl);
    few = tt;
  }
  led m t href (Some a) reached (is, fetched, had) shows =
      let here : ShowsAt view lists s c stock a.path = subst (ShowsBy view lists s c stock) is shows in
      record {
        reached = fetch_reached view lists s c m t a.path a.got reached fetched had;
        counts = (reached_stays view lists m c t (fetch_reached view lists m c m t a.path a.got by_none fetched had)).counts;
        gives = rw is (fetch_due view lists s c asked.taken a.path (stock.opened a.path) m t a.got here reached fetched had);
        few = given_short asked.taken a.path a.got;
      }

  abbrev href_of : Link → List ℕ
  href_of l = l.href

  followed_due : (t : S) (links : List Link) → Followed view c asked.prefix s links t
      → AllByRecursion (λ (l : Link). ShowsBy view lists s c stock (parsed l.href asked.prefix)) links
      → Reached view lists s c t
      × AreLinked (due_of asked stock) (Rose (view.state s).faults (view.state t).faults) (map href_of links) (linked asked.taken links) (missing asked.taken links)
  followed_due t links began shows = (by_none, (refl, refl))
  followed_due t all_links (leads links m n href answer followed led_to) shows =
      let l : Link = record { href = href; answer = answer } in
      let shown = all_split (λ (l : Link). ShowsBy view lists s c stock (parsed l.href asked.prefix)) links l shows in
      let (place, before) = followed_due m links followed shown.0 in
      let one = led m n href answer place led_to shown.1 in
      let counts : (view.state s).faults ≤ (view.state m).faults = (reached_stays view lists s c m place).counts in
      let due = due_of asked stock in
      let fault = Rose (view.state s).faults (view.state n).faults in
      let given = answer_given asked.taken answer in
      let old = linked_later due (map href_of links) (linked asked.taken links) (missing asked.taken links)
      (λ rose. rose_on (view.state s).faults (view.state m).faults (view.state n).faults rose one.counts) before in
      let now = due_later (due href) given (λ rose. rose_from (view.state s).faults (view.state m).faults (view.state n).faults counts rose) one.gives in
      let all = linked_push due fault (map href_of links) href (linked asked.taken links) (missing asked.taken links) given old now one.few in
      let hrefs : map href_of links ++ href ∷ [] ≡ map href_of (links ++ l ∷ []) = sym (map-append href_of links (l ∷ [])) in
      let records : linked asked.taken links ++ given ≡ linked asked.taken (links ++ l ∷ []) = sym (flat_more (λ (l : Link). answer_given asked.taken l.answer) links l) in
      let lost : missing asked.taken links ++ unless (is_given given) href ≡ missing asked.taken (links ++ l ∷ []) =
      sym (flat_more (λ (l : Link). unless (is_given (answer_given asked.taken l.answer)) l.href) links l) in (
        one.reached,
        subst (λ z. AreLinked due fault z (linked asked.taken (links ++ l ∷ [])) (missing asked.taken (links ++ l ∷ []))) hrefs
            (subst (λ z. AreLinked due fault (map href_of links ++ href ∷ []) z (missing asked.taken (links ++ l ∷ []))) records
            (subst (AreLinked due fault (map href_of links ++ href ∷ []) (linked asked.taken links ++ given)) lost all)),
      )

  followed_right : (t : S) (result : Result Report ReportError) → Follows view c asked s result t
      → All (λ href. ShowsBy view lists s c stock (parsed href asked.prefix)) asked.hrefs
      → IsFollowed asked stock (Rose (view.state s).faults (view.state t).faults) result
  followed_right t (Ok report) leading shows =
      let each = recursion_from_All (λ href. ShowsBy view lists s c stock (parsed href asked.prefix)) asked.hrefs shows in
      let each_link = all_from (λ href. ShowsBy view lists s c stock (parsed href asked.prefix)) href_of leading.links
      (subst (AllByRecursion (λ href. ShowsBy view lists s c stock (parsed href asked.prefix))) (sym leading.written) each) in
      let due = due_of asked stock in
      let fault = Rose (view.state s).faults (view.state t).faults in
      subst (λ z. AreLinked due fault z report.records report.missing) leading.written
      (subst (λ z. AreLinked due fault (map href_of leading.links) z report.missing) (sym leading.given)
      (subst (AreLinked due fault (map href_of leading.links) (linked asked.taken leading.links)) (sym leading.lost) (followed_due t leading.links leading.followed each_link).1))
  followed_right t (Err e) never shows = absurd never

  pub followed_or : (t : S) (result : Result Report ReportError) → Follows view c asked s result t ⊎ (result ≡ Err error.NoMemory)
      → All (λ href. ShowsBy view lists s c stock (parsed href asked.prefix)) asked.hrefs
      → IsFollowed asked stock (Rose (view.state s).faults (view.state t).faults) result ⊎ (result ≡ Err error.NoMemory)
  followed_or t result (inl follows) shows = inl (followed_right t result follows shows)
  followed_or t result (inr none) shows = inr none
