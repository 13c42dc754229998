-- What a reader of pages knows at each step: what the text that it read leaves for the rest.
use Rattle.std.proofs.Common.{◌≡◌, ℕ, Bool, true, false, append-nil, List, [], ◌∷◌, ◌++◌, codes, drop, Option, None, Some, refl, sym, ap, ◌∙◌, subst, append_assoc}
use Rattle.std.specs.List.{AllZip, flat_map}
use Rattle.std.specs.Str.{bytes_eq, chars, is_utf8}
use Rattle.std.proofs.lemmas.Bool.{false≢true}
use Rattle.std.proofs.lemmas.Slice.Eq.{bytes_eq-Decides}
use Rattle.std.proofs.lemmas.List.{append_cancel_left}
use Rattle.htmlescape.specs.Grammar.{IsText}
use Rattle.dav_page.specs.declared.row.PageRow.{PageRow}
use Rattle.dav_page.specs.Cuts.{HasCrumbs, HasHeading, HasLast, HasRoot, HasRows, HasTitle, IsBetween, IsCrumbFront, IsCut, IsRowFront, Spells}
use Rattle.dav_page.specs.Pages.{Crumb, CrumbTexts, IsCrumb, IsLast, IsName, IsPage, IsRow, Page, RowTexts, after_rows, before_heading, before_rows, before_title, crumb_text, heading_text, row_text}
use Rattle.dav_page.proofs.Between.{between_once, crumb_once, cut_once, row_once}
use Rattle.dav_page.proofs.Free.{crumb_at, free_lacks, name_free, row_at}
use Rattle.dav_page.proofs.PageOnce.{apart, heading_is, heading_once, no_crumb, root_link, title_between, title_once}

-- A title that was cut off and that stands for a text.
pub title_found : (whole text rest behind shown : List ℕ) → IsBetween before_title 60 whole text rest → rest ≡ before_heading ++ behind
    → Spells text shown → HasTitle whole behind
title_found whole text rest behind shown p e is =
    record {
      text = text;
      title = shown;
      spells = p.spells ∙ ap (λ z. before_title ++ (text ++ z)) e;
      is = record { unmarked = free_lacks 60 text p.free; means = is.means; utf8 = is.utf8 };
    }

-- What was cut off is the title, and behind it is what leads to the heading.
pub title_is : (whole text rest behind : List ℕ) → IsBetween before_title 60 whole text rest → (h : HasTitle whole behind)
    → (text ≡ h.text) × (rest ≡ before_heading ++ behind)
title_is whole text rest behind p h = between_once before_title 60 whole text h.text rest _ p (title_between whole behind h)

-- A text that stands for nothing is no title.
pub title_wrong : (whole text rest behind : List ℕ) → IsBetween before_title 60 whole text rest → ((value : List ℕ) → IsText (chars text) value → ⊥)
    → HasTitle whole behind → ⊥
title_wrong whole text rest behind p none h =
    none (chars h.title) (subst (λ t. IsText (chars t) (chars h.title)) (sym (title_is whole text rest behind p h).0) h.is.means)

-- A last name ends where its reader cuts.
pub last_cut : (whole rest : List ℕ) (h : HasLast whole rest) → IsCut 60 whole h.text (before_rows ++ rest)
last_cut whole rest h =
    record { more = drop 1 (before_rows ++ rest); spells = h.spells; free = name_free h.text h.name h.is; stops = refl }

pub last_is : (whole text rest behind : List ℕ) → IsCut 60 whole text rest → (h : HasLast whole behind)
    → (text ≡ h.text) × (rest ≡ before_rows ++ behind)
last_is whole text rest behind p h = cut_once 60 whole text h.text rest _ p (last_cut whole behind h)

pub last_found : (whole text rest behind name : List ℕ) → IsCut 60 whole text rest → rest ≡ before_rows ++ behind → IsName text name
    → HasLast whole behind
last_found whole text rest behind name p e is =
    record { text = text; name = name; spells = p.spells ∙ ap (λ z. text ++ z) e; is = is }

pub last_wrong : (whole text rest behind : List ℕ) → IsCut 60 whole text rest → ((name : List ℕ) → IsName text name → ⊥) → HasLast whole behind → ⊥
last_wrong whole text rest behind p none h =
    none h.name (subst (λ t. IsName t h.name) (sym (last_is whole text rest behind p h).0) h.is)

-- The last name stands at once: there are no links.
pub no_crumbs : (whole rest : List ℕ) → HasLast whole rest → HasCrumbs whole rest
no_crumbs whole rest last = record { texts = []; crumbs = []; behind = whole; spells = refl; are = tt; last = last }

-- A link at the front, and the rest of the heading.
pub crumb_more : (whole rest behind : List ℕ) (t : CrumbTexts) (crumb : Crumb) → IsCrumbFront whole t rest → IsCrumb t crumb
    → HasCrumbs rest behind → HasCrumbs whole behind
crumb_more whole rest behind t crumb front is h =
    record {
      texts = t ∷ h.texts;
      crumbs = crumb ∷ h.crumbs;
      behind = h.behind;
      spells = front.spells ∙ (ap (λ z. crumb_text t ++ z) h.spells ∙ sym (append_assoc (crumb_text t) (flat_map crumb_text h.texts) h.behind));
      are = (is, h.are);
      last = h.last;
    }

-- A heading's links are none, or the first of them stands at the front.
module _ (P : Type 0) (whole rest : List ℕ)
    (none : HasLast whole rest → P)
    (some : (t : CrumbTexts) (crumb : Crumb) (behind : List ℕ) → IsCrumbFront whole t behind → IsCrumb t crumb → HasCrumbs behind rest → P) where
  by_crumbs : (texts : List CrumbTexts) (crumbs : List Crumb) (behind : List ℕ) → whole ≡ flat_map crumb_text texts ++ behind
      → AllZip IsCrumb texts crumbs → HasLast behind rest → P
  by_crumbs [] crumbs behind e are last = none (subst (λ w. HasLast w rest) (sym e) last)
  by_crumbs (t ∷ texts) [] behind e are last = absurd are
  by_crumbs (t ∷ texts) (crumb ∷ crumbs) behind e (is, are) last =
      let split = e ∙ append_assoc (crumb_text t) (flat_map crumb_text texts) behind in
      some t crumb (flat_map crumb_text texts ++ behind) (crumb_at whole t crumb _ is split) is
      (record { texts = texts; crumbs = crumbs; behind = behind; spells = refl; are = are; last = last })

  pub first_crumb : HasCrumbs whole rest → P
  first_crumb h = by_crumbs h.texts h.crumbs h.behind h.spells h.are h.last

-- Where a link stands at the front there is no last name yet.
no_last : (whole rest behind : List ℕ) (t : CrumbTexts) → IsCrumbFront whole t behind → HasLast whole rest → ⊥
no_last whole rest behind t front h =
    no_crumb h.text (drop 2 before_rows ++ rest) t behind (name_free h.text h.name h.is) (sym h.spells ∙ front.spells)

-- A link that was cut off is the first, and the rest of the heading is behind it.
pub crumb_left : (whole rest behind : List ℕ) (t : CrumbTexts) → IsCrumbFront whole t behind → HasCrumbs whole rest → HasCrumbs behind rest
crumb_left whole rest behind t front h =
    first_crumb (HasCrumbs behind rest) whole rest
    (λ last. absurd (no_last whole rest behind t front last))
    (λ s crumb other at is more. subst (λ w. HasCrumbs w rest) (sym (crumb_once whole t s behind other front at).1) more)
    h

-- A link that was cut off says what a link has to.
pub crumb_right : (whole rest behind : List ℕ) (t : CrumbTexts) → IsCrumbFront whole t behind
    → ((crumb : Crumb) → IsCrumb t crumb → ⊥) → HasCrumbs whole rest → ⊥
crumb_right whole rest behind t front wrong h =
    first_crumb ⊥ whole rest
    (λ last. no_last whole rest behind t front last)
    (λ s crumb other at is more. wrong crumb (subst (λ u. IsCrumb u crumb) (sym (crumb_once whole t s behind other front at).0) is))
    h

-- Where no link stands at the front the last name does.
pub crumbs_end : (whole rest : List ℕ) → ((t : CrumbTexts) (behind : List ℕ) → IsCrumbFront whole t behind → ⊥) → HasCrumbs whole rest
    → HasLast whole rest
crumbs_end whole rest none h =
    first_crumb (HasLast whole rest) whole rest (λ last. last) (λ t crumb behind at is more. absurd (none t behind at)) h

-- A heading behind the link to the root.
pub heading_found : (whole behind rest : List ℕ) → whole ≡ root_link ++ behind → HasCrumbs behind rest → HasHeading whole rest
heading_found whole behind rest e h =
    record {
      texts = h.texts;
      text = Some h.last.text;
      crumbs = h.crumbs;
      name = Some h.last.name;
      spells = e ∙ (ap (λ z. root_link ++ z) (h.spells ∙ ap (λ z. flat_map crumb_text h.texts ++ z) h.last.spells)
          ∙ sym (heading_is h.texts h.last.text (before_rows ++ rest)));
      root = tt;
      are = h.are;
      is = h.last.is;
    }

pub heading_root : (whole rest : List ℕ) → HasRoot whole rest → HasHeading whole rest
heading_root whole rest e =
    record { texts = []; text = None; crumbs = []; name = None; spells = e; root = refl; are = tt; is = tt }

-- A heading is the root's, or begins with the link to the root.
module _ (P : Type 0) (whole rest : List ℕ) (root : HasRoot whole rest → P)
    (link : (behind : List ℕ) → whole ≡ root_link ++ behind → HasCrumbs behind rest → P) where
  by_text : (texts : List CrumbTexts) (text : Option (List ℕ)) (crumbs : List Crumb) (name : Option (List ℕ))
      → whole ≡ heading_text texts text ++ (before_rows ++ rest) → AllZip IsCrumb texts crumbs → IsLast text name → P
  by_text texts None crumbs name e are is = root e
  by_text texts (Some text) crumbs None e are is = absurd is
  by_text texts (Some text) crumbs (Some name) e are is =
      link (flat_map crumb_text texts ++ (text ++ (before_rows ++ rest))) (e ∙ heading_is texts text (before_rows ++ rest))
      (record {
        texts = texts;
        crumbs = crumbs;
        behind = text ++ (before_rows ++ rest);
        spells = refl;
        are = are;
        last = record { text = text; name = name; spells = refl; is = is };
      })

  pub heading_cases : HasHeading whole rest → P
  heading_cases h = by_text h.texts h.text h.crumbs h.name h.spells h.are h.is

-- Behind the link to the root are the links and the last name.
pub heading_crumbs : (whole behind rest : List ℕ) → whole ≡ root_link ++ behind → HasHeading whole rest → HasCrumbs behind rest
heading_crumbs whole behind rest e h =
    heading_cases (HasCrumbs behind rest) whole rest
    (λ root. absurd (apart 0 (root_link ++ behind) (codes "/" ++ (before_rows ++ rest)) 60 47 refl refl refl (sym e ∙ root)))
    (λ other f crumbs. subst (λ w. HasCrumbs w rest) (append_cancel_left root_link other behind (sym f ∙ e)) crumbs)
    h

-- Without the link to the root the heading is the root's.
pub heading_is_root : (whole rest : List ℕ) → ((behind : List ℕ) → whole ≡ root_link ++ behind → ⊥) → HasHeading whole rest → HasRoot whole rest
heading_is_root whole rest none h =
    heading_cases (HasRoot whole rest) whole rest (λ root. root) (λ behind e crumbs. absurd (none behind e)) h

-- What stands behind a heading is determined.
pub heading_rest : (whole rest behind : List ℕ) → HasHeading whole rest → HasHeading whole behind → rest ≡ behind
heading_rest whole rest behind p q =
    append_cancel_left before_rows rest behind
    (heading_once p.texts q.texts p.crumbs q.crumbs p.text q.text p.name q.name (drop 2 before_rows ++ rest) (drop 2 before_rows ++ behind)
    p.are q.are p.root q.root p.is q.is (sym p.spells ∙ q.spells)).2

-- A row at the front, and the rows behind it.
pub row_more : (whole rest : List ℕ) (t : RowTexts) (row : PageRow) (rows : List PageRow) → IsRowFront whole t rest → IsRow t row
    → HasRows rest rows → HasRows whole (row ∷ rows)
row_more whole rest t row rows front is h =
    record {
      texts = t ∷ h.texts;
      spells = front.spells ∙ (ap (λ z. row_text t ++ z) h.spells ∙ sym (append_assoc (row_text t) (flat_map row_text h.texts) after_rows));
      are = (is, h.are);
    }

-- The end alone has no rows.
pub rows_end : (whole : List ℕ) → whole ≡ after_rows → HasRows whole []
rows_end whole e = record { texts = []; spells = e; are = tt }

-- What a reader answers to whether the rows are over.
pub at_end : (left : List ℕ) (r : Bool) → r ≡ bytes_eq left after_rows → r ≡ true → left ≡ after_rows
at_end left r is so = (bytes_eq-Decides left after_rows).0 (sym is ∙ so)

pub not_end : (left : List ℕ) (r : Bool) → r ≡ bytes_eq left after_rows → r ≡ false → left ≡ after_rows → ⊥
not_end left r is so e = false≢true (sym so ∙ (is ∙ (bytes_eq-Decides left after_rows).1 e))

-- Rows are none, or the first of them stands at the front.
module _ (P : Type 0) (whole : List ℕ)
    (none : whole ≡ after_rows → P)
    (some : (t : RowTexts) (row : PageRow) (behind : List ℕ) (rows : List PageRow) → IsRowFront whole t behind → IsRow t row
    → HasRows behind rows → P) where
  by_rows : (texts : List RowTexts) (rows : List PageRow) → whole ≡ flat_map row_text texts ++ after_rows → AllZip IsRow texts rows → P
  by_rows [] rows e are = none e
  by_rows (t ∷ texts) [] e are = absurd are
  by_rows (t ∷ texts) (row ∷ rows) e (is, are) =
      let split = e ∙ append_assoc (row_text t) (flat_map row_text texts) after_rows in
      some t row (flat_map row_text texts ++ after_rows) rows (row_at whole t row _ is split) is
      (record { texts = texts; spells = refl; are = are })

  pub first_row : (rows : List PageRow) → HasRows whole rows → P
  first_row rows h = by_rows h.texts rows h.spells h.are

-- A row that was cut off says what a row has to; and behind it are rows and the end.
pub row_left : (whole behind : List ℕ) (t : RowTexts) (rows : List PageRow) → IsRowFront whole t behind → (whole ≡ after_rows → ⊥)
    → HasRows whole rows → (row : PageRow) × (more : List PageRow) × IsRow t row × HasRows behind more
row_left whole behind t rows front on h =
    first_row ((row : PageRow) × (more : List PageRow) × IsRow t row × HasRows behind more) whole
    (λ e. absurd (on e))
    (λ s row other more at is rest.
    let once = row_once whole t s behind other front at in
    (row, more, subst (λ u. IsRow u row) (sym once.0) is, subst (λ w. HasRows w more) (sym once.1) rest))
    rows h

-- Rows go on only where one stands at the front.
pub rows_none : (whole : List ℕ) (rows : List PageRow) → ((t : RowTexts) (behind : List ℕ) → IsRowFront whole t behind → ⊥)
    → (whole ≡ after_rows → ⊥) → HasRows whole rows → ⊥
rows_none whole rows none on h = first_row ⊥ whole on (λ t row behind more at is rest. none t behind at) rows h

-- What was read of the links of a heading: the rest of the heading is what is left, and nothing else.
pub record CrumbsRead (whole left : List ℕ) : Type 0 where
  pub leads : (rest : List ℕ) → HasCrumbs left rest → HasCrumbs whole rest
  pub only : (rest : List ℕ) → HasCrumbs whole rest → HasCrumbs left rest

pub crumbs_step : (whole left behind : List ℕ) (t : CrumbTexts) (crumb : Crumb) → CrumbsRead whole left → IsCrumbFront left t behind → IsCrumb t crumb
    → CrumbsRead whole behind
crumbs_step whole left behind t crumb r front is =
    record {
      leads = λ rest h. r.leads rest (crumb_more left behind rest t crumb front is h);
      only = λ rest h. crumb_left left rest behind t front (r.only rest h);
    }

-- What was read of the rows: behind them are the rows that are left.
pub record RowsRead (whole : List ℕ) (rows : List PageRow) (left : List ℕ) : Type 0 where
  pub leads : (more : List PageRow) → HasRows left more → HasRows whole (rows ++ more)
  pub only : (all : List PageRow) → HasRows whole all → (more : List PageRow) × HasRows left more

pub rows_step : (whole left behind : List ℕ) (rows : List PageRow) (t : RowTexts) (row : PageRow) → RowsRead whole rows left
    → IsRowFront left t behind
    → (left ≡ after_rows → ⊥) → IsRow t row → RowsRead whole (rows ++ row ∷ []) behind
rows_step whole left behind rows t row r front on is =
    record {
      leads = λ more h. subst (HasRows whole) (sym (append_assoc rows (row ∷ []) more))
          (r.leads (row ∷ more) (row_more left behind t row more front is h));
      only = λ all h.
          let found = r.only all h in
          let rest = row_left left behind t found.0 front on found.1 in
          (rest.1, rest.3);
    }

-- At the end they are all.
pub rows_found : (whole left : List ℕ) (rows : List PageRow) → RowsRead whole rows left → left ≡ after_rows → HasRows whole rows
rows_found whole left rows r e = subst (HasRows whole) (append-nil rows) (r.leads [] (rows_end left e))

-- A row that says nothing is no row of any reading.
pub rows_wrong : (whole left behind : List ℕ) (rows all : List PageRow) (t : RowTexts) → RowsRead whole rows left → IsRowFront left t behind
    → (left ≡ after_rows → ⊥) → ((row : PageRow) → IsRow t row → ⊥) → HasRows whole all → ⊥
rows_wrong whole left behind rows all t r front on wrong h =
    let found = r.only all h in
    let rest = row_left left behind t found.0 front on found.1 in
    wrong rest.0 rest.2

pub rows_stop : (whole left : List ℕ) (rows all : List PageRow) → RowsRead whole rows left
    → ((t : RowTexts) (behind : List ℕ) → IsRowFront left t behind → ⊥)
    → (left ≡ after_rows → ⊥) → HasRows whole all → ⊥
rows_stop whole left rows all r none on h = let found = r.only all h in rows_none left found.0 none on found.1

-- A page is its title, its heading and its rows.
pub page_is : (text behind rest : List ℕ) (rows : List PageRow) → is_utf8 text ≡ true → HasTitle text behind → HasHeading behind rest
    → HasRows rest rows
    → (p : Page) × IsPage text p × (rows ≡ p.rows)
page_is text behind rest rows utf8 t h r = (
  record { title = t.title; crumbs = h.crumbs; last = h.name; rows = rows },
  record {
    utf8 = utf8;
    texts = record { title = t.text; crumbs = h.texts; last = h.text; rows = r.texts };
    spells = t.spells ∙ ap (λ z. before_title ++ (t.text ++ (before_heading ++ z)))
        (h.spells ∙ ap (λ z. heading_text h.texts h.text ++ (before_rows ++ z)) r.spells);
    title = t.is;
    root = h.root;
    crumbs = h.are;
    last = h.is;
    rows = r.are;
  },
  refl,
)

-- what stands behind the title, and what behind the heading
abbrev pub title_behind : (text : List ℕ) (p : Page) → IsPage text p → List ℕ
title_behind text p is = heading_text is.texts.crumbs is.texts.last ++ (before_rows ++ (flat_map row_text is.texts.rows ++ after_rows))

abbrev pub heading_behind : (text : List ℕ) (p : Page) → IsPage text p → List ℕ
heading_behind text p is = flat_map row_text is.texts.rows ++ after_rows

pub page_title : (text : List ℕ) (p : Page) (is : IsPage text p) → HasTitle text (title_behind text p is)
page_title text p is = record { text = is.texts.title; title = p.title; spells = is.spells; is = is.title }

pub page_heading : (text : List ℕ) (p : Page) (is : IsPage text p) → HasHeading (title_behind text p is) (heading_behind text p is)
page_heading text p is =
    record {
      texts = is.texts.crumbs;
      text = is.texts.last;
      crumbs = p.crumbs;
      name = p.last;
      spells = refl;
      root = is.root;
      are = is.crumbs;
      is = is.last;
    }

pub page_rows : (text : List ℕ) (p : Page) (is : IsPage text p) → HasRows (heading_behind text p is) p.rows
page_rows text p is = record { texts = is.texts.rows; spells = refl; are = is.rows }

-- Behind a title that was read is the heading, and behind that are the rows.
pub page_heading_at : (text at : List ℕ) → HasTitle text at → (p : Page) (is : IsPage text p) → HasHeading at (heading_behind text p is)
page_heading_at text at t p is =
    subst (λ w. HasHeading w (heading_behind text p is)) (sym (title_once text at _ t (page_title text p is)).1) (page_heading text p is)

pub page_rows_at : (text at left : List ℕ) → HasTitle text at → HasHeading at left → (p : Page) → IsPage text p → HasRows left p.rows
page_rows_at text at left t h p is =
    subst (λ w. HasRows w p.rows) (sym (heading_rest at left _ h (page_heading_at text at t p is))) (page_rows text p is)
