-- A text is a page in one way.
use Rattle.std.proofs.Common.{◌≡◌, ◌==◌, ℕ, true, false, List, [], ◌∷◌, ◌++◌, codes, drop, Option, None, Some, slice_index_or, refl, sym, ap, ap₂, ◌∙◌, subst, append_assoc}
use Rattle.std.specs.List.{AllZip, flat_map, list_any}
use Rattle.std.specs.Str.{chars, encode_utf8_all}
use Rattle.std.proofs.lemmas.Bool.{or_parts}
use Rattle.std.proofs.lemmas.Bool.Decides.{Decides-eqb}
use Rattle.std.proofs.lemmas.List.{append_cancel_left}
use Rattle.std.proofs.lemmas.Str.{encodes-chars, IsUtf8-from_is_utf8}
use Rattle.htmlescape.proofs.Fronts.{text_unique}
use Rattle.dav_page.specs.declared.row.PageRow.{PageRow}
use Rattle.dav_page.specs.Cuts.{HasTitle, IsBetween, IsFreeOf}
use Rattle.dav_page.specs.Pages.{Crumb, CrumbTexts, IsCrumb, IsLast, IsPage, IsRow, IsTitle, NoCrumbsAtRoot, Page, PageTexts, RowTexts, StandsFor, after_rows, before_heading, before_rows, before_title, crumb_text, heading_text, page_text, row_text}
use Rattle.dav_page.proofs.Between.{between_once, crumb_is, crumb_once, crumb_then, row_once, split_once}
use Rattle.dav_page.proofs.Free.{crumb_at, name_free, row_at, title_free}

abbrev nth : ℕ → List ℕ → ℕ
nth n text = slice_index_or text n 0

-- texts that differ at one place differ
pub apart : (n : ℕ) (a b : List ℕ) (x y : ℕ) → nth n a ≡ x → nth n b ≡ y → (x == y) ≡ false → a ≡ b → ⊥
apart n a b x y is other ne e =
    let same : x ≡ y = sym is ∙ (ap (nth n) e ∙ other) in
    let bad : true ≡ false = sym ((Decides-eqb x y).1 same) ∙ ne in cc

rows_once : (rs ss : List RowTexts) (R S : List PageRow) → AllZip IsRow rs R → AllZip IsRow ss S
    → flat_map row_text rs ++ after_rows ≡ flat_map row_text ss ++ after_rows → rs ≡ ss
rows_once [] [] R S p q e = refl
rows_once [] (s ∷ ss) R S p q e = absurd (apart 6 after_rows (flat_map row_text (s ∷ ss) ++ after_rows) 104 100 refl refl refl e)
rows_once (r ∷ rs) [] R S p q e = absurd (apart 6 (flat_map row_text (r ∷ rs) ++ after_rows) after_rows 100 104 refl refl refl e)
rows_once (r ∷ rs) (s ∷ ss) [] S p q e = absurd p
rows_once (r ∷ rs) (s ∷ ss) (x ∷ R) [] p q e = absurd q
rows_once (r ∷ rs) (s ∷ ss) (x ∷ R) (y ∷ S) (p, ps) (q, qs) e =
    let left = row_at _ r x _ p (append_assoc (row_text r) (flat_map row_text rs) after_rows) in
    let right = row_at _ s y _ q (e ∙ append_assoc (row_text s) (flat_map row_text ss) after_rows) in
    let once = row_once _ r s (flat_map row_text rs ++ after_rows) (flat_map row_text ss ++ after_rows) left right in
    ap₂ (λ (t : RowTexts) (ts : List RowTexts). t ∷ ts) once.0 (rows_once rs ss R S ps qs once.1)

-- What stands behind a heading begins with `</`.
abbrev pub closed : List ℕ → List ℕ
closed rest = 60 ∷ 47 ∷ rest

-- The last name of a heading is no link.
pub no_crumb : (last rest : List ℕ) (s : CrumbTexts) (behind : List ℕ) → IsFreeOf 60 last → last ++ closed rest ≡ crumb_text s ++ behind → ⊥
no_crumb last rest s behind free e = by last free (e ∙ crumb_is s behind)
  where
    by : (name : List ℕ) → IsFreeOf 60 name → name ++ closed rest ≡ crumb_then s behind → ⊥
    by [] none f = apart 1 (closed rest) (crumb_then s behind) 47 97 refl refl refl f
    by (c ∷ name) none f =
        let c_is : c ≡ 60 = ap (nth 0) f in
        let bad : true ≡ false = ap (λ b. b == 60) (sym c_is) ∙ (or_parts (c == 60) (list_any (λ b. b == 60) name) none).0 in cc

crumbs_once : (rs ss : List CrumbTexts) (R S : List Crumb) (last other rest behind : List ℕ) → AllZip IsCrumb rs R → AllZip IsCrumb ss S
    → IsFreeOf 60 last → IsFreeOf 60 other
    → flat_map crumb_text rs ++ (last ++ closed rest) ≡ flat_map crumb_text ss ++ (other ++ closed behind)
    → (rs ≡ ss) × (last ≡ other) × (closed rest ≡ closed behind)
crumbs_once [] [] R S last other rest behind p q none free e =
    let once = split_once (λ b. b == 60) last other 60 60 (47 ∷ rest) (47 ∷ behind) none free refl refl e in (refl, once.0, once.1)
crumbs_once [] (s ∷ ss) R S last other rest behind p q none free e =
    absurd (no_crumb last rest s (flat_map crumb_text ss ++ (other ++ closed behind)) none
    (e ∙ append_assoc (crumb_text s) (flat_map crumb_text ss) (other ++ closed behind)))
crumbs_once (r ∷ rs) [] R S last other rest behind p q none free e =
    absurd (no_crumb other behind r (flat_map crumb_text rs ++ (last ++ closed rest)) free
    (sym e ∙ append_assoc (crumb_text r) (flat_map crumb_text rs) (last ++ closed rest)))
crumbs_once (r ∷ rs) (s ∷ ss) [] S last other rest behind p q none free e = absurd p
crumbs_once (r ∷ rs) (s ∷ ss) (x ∷ R) [] last other rest behind p q none free e = absurd q
crumbs_once (r ∷ rs) (s ∷ ss) (x ∷ R) (y ∷ S) last other rest behind (p, ps) (q, qs) none free e =
    let left = crumb_at _ r x _ p (append_assoc (crumb_text r) (flat_map crumb_text rs) (last ++ closed rest)) in
    let right = crumb_at _ s y _ q (e ∙ append_assoc (crumb_text s) (flat_map crumb_text ss) (other ++ closed behind)) in
    let once = crumb_once _ r s (flat_map crumb_text rs ++ (last ++ closed rest)) (flat_map crumb_text ss ++ (other ++ closed behind)) left right in
    let more = crumbs_once rs ss R S last other rest behind ps qs none free once.1 in
    (ap₂ (λ (t : CrumbTexts) (ts : List CrumbTexts). t ∷ ts) once.0 more.0, more.1, more.2)

abbrev pub root_link : List ℕ
root_link = codes "<a href = \"/\">/</a>"

-- what a heading leaves
abbrev pub Headed : List CrumbTexts → Option (List ℕ) → List CrumbTexts → Option (List ℕ) → List ℕ → List ℕ → Type 0
Headed rs last ss other rest behind = (rs ≡ ss) × (last ≡ other) × (closed rest ≡ closed behind)

pub heading_is : (crumbs : List CrumbTexts) (last behind : List ℕ)
    → heading_text crumbs (Some last) ++ behind ≡ root_link ++ (flat_map crumb_text crumbs ++ (last ++ behind))
heading_is crumbs last behind =
    append_assoc root_link (flat_map crumb_text crumbs ++ last) behind
    ∙ ap (λ z. root_link ++ z) (append_assoc (flat_map crumb_text crumbs) last behind)

pub heading_once : (rs ss : List CrumbTexts) (R S : List Crumb) (last other n m : Option (List ℕ)) (rest behind : List ℕ)
    → AllZip IsCrumb rs R → AllZip IsCrumb ss S → NoCrumbsAtRoot rs last → NoCrumbsAtRoot ss other → IsLast last n → IsLast other m
    → heading_text rs last ++ closed rest ≡ heading_text ss other ++ closed behind → Headed rs last ss other rest behind
heading_once rs ss R S None None n m rest behind p q none free is too e =
    (none ∙ sym free, refl, append_cancel_left (codes "/") (closed rest) (closed behind) e)
heading_once rs ss R S None (Some other) n m rest behind p q none free is too e =
    absurd (apart 0 (heading_text rs None ++ closed rest) (heading_text ss (Some other) ++ closed behind) 47 60 refl refl refl e)
heading_once rs ss R S (Some last) None n m rest behind p q none free is too e =
    absurd (apart 0 (heading_text rs (Some last) ++ closed rest) (heading_text ss None ++ closed behind) 60 47 refl refl refl e)
heading_once rs ss R S (Some last) (Some other) None m rest behind p q none free is too e = absurd is
heading_once rs ss R S (Some last) (Some other) (Some n) None rest behind p q none free is too e = absurd too
heading_once rs ss R S (Some last) (Some other) (Some n) (Some m) rest behind p q none free is too e =
    let same : root_link ++ (flat_map crumb_text rs ++ (last ++ closed rest)) ≡ root_link ++ (flat_map crumb_text ss ++ (other ++ closed behind)) =
    sym (heading_is rs last (closed rest)) ∙ (e ∙ heading_is ss other (closed behind)) in
    let once = crumbs_once rs ss R S last other rest behind p q (name_free last n is) (name_free other m too)
    (append_cancel_left root_link _ _ same) in
    (once.0, ap Some once.1, once.2)

-- A title stands between its literals.
pub title_between : (whole rest : List ℕ) (h : HasTitle whole rest) → IsBetween before_title 60 whole h.text (before_heading ++ rest)
title_between whole rest h =
    record { more = drop 1 (before_heading ++ rest); spells = h.spells; free = title_free h.text h.title h.is; stops = refl }

-- What stands behind a title is determined.
pub title_once : (whole rest behind : List ℕ) (p : HasTitle whole rest) (q : HasTitle whole behind) → (p.text ≡ q.text) × (rest ≡ behind)
title_once whole rest behind p q =
    let once = between_once before_title 60 whole p.text q.text _ _ (title_between whole rest p) (title_between whole behind q) in
    (once.0, append_cancel_left before_heading rest behind once.1)

abbrev rows_behind : List RowTexts → List ℕ
rows_behind rows = flat_map row_text rows ++ after_rows

-- what stands behind a title and the text that leads to the heading
abbrev pub behind_title : PageTexts → List ℕ
behind_title t = heading_text t.crumbs t.last ++ (before_rows ++ rows_behind t.rows)

-- The texts of a page are determined.
texts_once : (a b : PageTexts) (x y : Page) → IsTitle a.title x.title → IsTitle b.title y.title
    → NoCrumbsAtRoot a.crumbs a.last → NoCrumbsAtRoot b.crumbs b.last → AllZip IsCrumb a.crumbs x.crumbs → AllZip IsCrumb b.crumbs y.crumbs
    → IsLast a.last x.last → IsLast b.last y.last → AllZip IsRow a.rows x.rows → AllZip IsRow b.rows y.rows
    → page_text a ≡ page_text b → a ≡ b
texts_once a b x y t1 t2 r1 r2 s1 s2 l1 l2 rows rows2 e =
    let title = title_once (page_text a) (behind_title a) (behind_title b)
    (record { text = a.title; title = x.title; spells = refl; is = t1 }) (record { text = b.title; title = y.title; spells = e; is = t2 }) in
    let heading = heading_once a.crumbs b.crumbs x.crumbs y.crumbs a.last b.last x.last y.last
    (drop 2 before_rows ++ rows_behind a.rows) (drop 2 before_rows ++ rows_behind b.rows) s1 s2 r1 r2 l1 l2 title.1 in
    let rows_are = rows_once a.rows b.rows x.rows y.rows rows rows2
    (append_cancel_left before_rows (rows_behind a.rows) (rows_behind b.rows) heading.2) in
    texts_same title.0 heading.0 heading.1 rows_are
  where
    texts_same : a.title ≡ b.title → a.crumbs ≡ b.crumbs → a.last ≡ b.last → a.rows ≡ b.rows → a ≡ b
    texts_same p q r s = λ i. record { title = p i; crumbs = q i; last = r i; rows = s i }

value_once : (marks text v w : List ℕ) → StandsFor marks text v → StandsFor marks text w → v ≡ w
value_once marks text v w p q =
    sym (encodes-chars v (IsUtf8-from_is_utf8 v p.utf8))
    ∙ (ap encode_utf8_all (text_unique (chars text) (chars v) (chars w) p.means q.means) ∙ encodes-chars w (IsUtf8-from_is_utf8 w q.utf8))

rows_read_once : (texts : List RowTexts) (R S : List PageRow) → AllZip IsRow texts R → AllZip IsRow texts S → R ≡ S
rows_read_once [] [] [] p q = refl
rows_read_once [] [] (y ∷ S) p q = absurd q
rows_read_once [] (x ∷ R) S p q = absurd p
rows_read_once (t ∷ texts) [] S p q = absurd p
rows_read_once (t ∷ texts) (x ∷ R) [] p q = absurd q
rows_read_once (t ∷ texts) (x ∷ R) (y ∷ S) (p, ps) (q, qs) =
    ap₂ (λ (r : PageRow) (rs : List PageRow). r ∷ rs)
    (row_same (sym p.path.decoded ∙ q.path.decoded) (value_once _ t.name x.name y.name p.name q.name) (p.date_is ∙ sym q.date_is)
    (p.size_is ∙ sym q.size_is))
    (rows_read_once texts R S ps qs)
  where
    row_same : x.path ≡ y.path → x.name ≡ y.name → x.date ≡ y.date → x.size ≡ y.size → x ≡ y
    row_same a b c d = λ i. record { path = a i; name = b i; date = c i; size = d i }

steps_read_once : (texts : List CrumbTexts) (R S : List Crumb) → AllZip IsCrumb texts R → AllZip IsCrumb texts S → R ≡ S
steps_read_once [] [] [] p q = refl
steps_read_once [] [] (y ∷ S) p q = absurd q
steps_read_once [] (x ∷ R) S p q = absurd p
steps_read_once (t ∷ texts) [] S p q = absurd p
steps_read_once (t ∷ texts) (x ∷ R) [] p q = absurd q
steps_read_once (t ∷ texts) (x ∷ R) (y ∷ S) (p, ps) (q, qs) =
    ap₂ (λ (r : Crumb) (rs : List Crumb). r ∷ rs)
    (step_same (sym p.path.decoded ∙ q.path.decoded) (value_once _ t.name x.name y.name p.name q.name)) (steps_read_once texts R S ps qs)
  where
    step_same : x.path ≡ y.path → x.name ≡ y.name → x ≡ y
    step_same a b = λ i. record { path = a i; name = b i }

last_read_once : (text n m : Option (List ℕ)) → IsLast text n → IsLast text m → n ≡ m
last_read_once None None None p q = refl
last_read_once None None (Some m) p q = absurd q
last_read_once None (Some n) m p q = absurd p
last_read_once (Some text) None m p q = absurd p
last_read_once (Some text) (Some n) None p q = absurd q
last_read_once (Some text) (Some n) (Some m) p q = ap Some (value_once _ text n m p q)

-- A text is a page in one way at most: of each page a reader takes one thing.
pub page_once : (text : List ℕ) (x y : Page) → IsPage text x → IsPage text y → x ≡ y
page_once text x y p q = page_same (value_once _ p.texts.title x.title y.title p.title title2)
    (steps_read_once p.texts.crumbs x.crumbs y.crumbs p.crumbs steps2) (last_read_once p.texts.last x.last y.last p.last last2)
    (rows_read_once p.texts.rows x.rows y.rows p.rows rows2)
  where
    same : p.texts ≡ q.texts
    same = texts_once p.texts q.texts x y p.title q.title p.root q.root p.crumbs q.crumbs p.last q.last p.rows q.rows (sym p.spells ∙ q.spells)

    title2 : StandsFor (codes "<") p.texts.title y.title
    title2 = subst (λ (t : PageTexts). StandsFor (codes "<") t.title y.title) (sym same) q.title

    steps2 : AllZip IsCrumb p.texts.crumbs y.crumbs
    steps2 = subst (λ (t : PageTexts). AllZip IsCrumb t.crumbs y.crumbs) (sym same) q.crumbs

    last2 : IsLast p.texts.last y.last
    last2 = subst (λ (t : PageTexts). IsLast t.last y.last) (sym same) q.last

    rows2 : AllZip IsRow p.texts.rows y.rows
    rows2 = subst (λ (t : PageTexts). AllZip IsRow t.rows y.rows) (sym same) q.rows

    page_same : x.title ≡ y.title → x.crumbs ≡ y.crumbs → x.last ≡ y.last → x.rows ≡ y.rows → x ≡ y
    page_same a b c d = λ i. record { title = a i; crumbs = b i; last = c i; rows = d i }
