-- Where no fault was met, a report is exactly what is due.
use Rattle.std.proofs.Common.{◌≡◌, ◌++◌, ◌⊎◌, inl, inr, ℕ, List, [], ◌∷◌, map, Result, Ok, Err, sym, ap, subst, ◌∙◌, append-nil}
use Rattle.std.specs.List.{flat_map}
use Rattle.std.specs.List.Sorted.{IsPermutation}
use Rattle.std.proofs.lemmas.List.Sorted.{IsPermutation-trans}
use Rattle.dav_core.specs.declared.error.FsError.{FsError}
use Rattle.dav_core.specs.declared.member.Member.{Member}
use Rattle.dav_core.specs.DavPath.{WebPath}
use Rattle.dav_report.specs.declared.answer.Record.{Record}
use Rattle.dav_report.specs.declared.answer.Report.{Report}
use Rattle.dav_selection.specs.Answered.{is_given, unless}
use Rattle.dav_selection.specs.Reports.{AreInOrder, LinksAsked, Sought, member_path}
use Rattle.dav_selection.specs.Selection.{queries}
use Rattle.dav_selection.specs.Shown.{AreGiven, AreLinked, AreSelected, IsDueOr, IsFollowed, IsQueried, IsRight, Stock, at_most, due_at, due_of, lacking}

module _ (fault : Type 0) (never : fault → ⊥) where
  first_due : (due given : List Record) → IsDueOr fault due given → given ≡ due
  first_due due given (inl same) = same
  first_due due given (inr (none, met)) = absurd (never met)

  given_exact : (due : WebPath → List Record) (paths : List WebPath) (records : List Record) → AreGiven due fault paths records
      → records ≡ flat_map due paths
  given_exact due [] records none = none
  given_exact due (path ∷ paths) records (first, rest, e, is, more) =
      e ∙ (ap (λ z. z ++ rest) (first_due (due path) first is) ∙ ap (λ z. due path ++ z) (given_exact due paths rest more))

  linked_exact : (due : List ℕ → List Record) (hrefs : List (List ℕ)) (records : List Record) (lost : List (List ℕ))
      → AreLinked due fault hrefs records lost
      → (records ≡ flat_map due hrefs) × (lost ≡ lacking due hrefs)
  linked_exact due [] records lost none = none
  linked_exact due (href ∷ hrefs) records lost (inl (r, rest, is, e, more)) =
      let (records_so, lost_so) = linked_exact due hrefs rest lost more in (
        e ∙ (ap (λ z. r ∷ z) records_so ∙ ap (λ z. z ++ flat_map due hrefs) (sym is)),
        lost_so ∙ ap (λ z. unless (is_given z) href ++ lacking due hrefs) (sym is),
      )
  linked_exact due (href ∷ hrefs) records lost (inr (rest, inl none, e, more)) =
      let (records_so, lost_so) = linked_exact due hrefs records rest more in (
        records_so ∙ ap (λ z. z ++ flat_map due hrefs) (sym none),
        e ∙ (ap (λ z. href ∷ z) lost_so ∙ ap (λ z. unless (is_given z) href ++ lacking due hrefs) (sym none)),
      )
  linked_exact due (href ∷ hrefs) records lost (inr (rest, inr met, e, more)) = absurd (never met)

  -- no member is lost
  none_lost : (all listed lost sorted : List Member) → IsPermutation all (listed ++ lost) → (lost ≡ []) ⊎ fault → AreInOrder listed sorted
      → AreInOrder all sorted
  none_lost all listed lost sorted each (inr met) order = absurd (never met)
  none_lost all listed lost sorted each (inl none) order =
      let whole : listed ++ lost ≡ listed = ap (λ z. listed ++ z) none ∙ append-nil listed in
      record { each = IsPermutation-trans all listed sorted (subst (IsPermutation all) whole each) order.each; order = order.order }

  selected_exact : (q : Sought) (stock : Stock) (all : List Member) (records : List Record) → AreSelected q all stock fault records
      → (sorted : List Member) × AreInOrder all sorted × (records ≡ at_most q.limit (flat_map (due_at q.taken stock) (map (member_path q.dir) sorted)))
  selected_exact q stock all records is = (
    is.sorted,
    none_lost all is.listed is.lost is.sorted is.each is.why is.order,
    is.first ∙ ap (at_most q.limit) (given_exact (due_at q.taken stock) (map (member_path q.dir) is.sorted) is.all_given is.gives),
  )

  pub query_exact : (q : Sought) (stock : Stock) (all : List Member) (report : Report) → stock.listed q.dir ≡ Ok all
      → IsRight (queries q) stock fault (Ok report)
      → (sorted : List Member) × AreInOrder all sorted × (report.records ≡ at_most q.limit (flat_map (due_at q.taken stock) (map (member_path q.dir) sorted))) × (report.missing ≡ [])
  query_exact q stock all report listed (Ok records, is, same) =
      let told = subst (λ (found : Result (List Member) FsError). IsQueried q found stock fault (Ok records)) listed is in
      let (sorted, order, exact) = selected_exact q stock all records told in
      let so : report ≡ record { records = records; missing = [] } = cc in
      (sorted, order, ap (λ (r : Report). r.records) so ∙ exact, ap (λ (r : Report). r.missing) so)
  query_exact q stock all report listed (Err e, is, same) = cc

  pub multiget_exact : (asked : LinksAsked) (stock : Stock) (report : Report) → IsFollowed asked stock fault (Ok report)
      → (report.records ≡ flat_map (due_of asked stock) asked.hrefs) × (report.missing ≡ lacking (due_of asked stock) asked.hrefs)
  multiget_exact asked stock report is = linked_exact (due_of asked stock) asked.hrefs report.records report.missing is
