-- What is written of a directory and of rows is a page, from which a reader takes just these.
use Rattle.std.proofs.Common.{◌≡◌, ◌<◌, ◌==◌, ◌&&◌, ◌||◌, ℕ, Bool, true, false, List, [], ◌∷◌, ◌++◌, All, Option, None, Some, codes, map, option_map, refl, sym, ap, subst, ◌∙◌, arith}
use Rattle.std.specs.List.{AllByRecursion, AllZip, flat_map, list_all}
use Rattle.std.specs.Str.{chars, is_utf8}
use Rattle.std.proofs.lemmas.Bool.{and_parts}
use Rattle.std.proofs.lemmas.Bool.Decides.{nat_tests}
use Rattle.std.proofs.lemmas.List.Elements.{All-cons, All-nil}
use Rattle.std.proofs.lemmas.Str.{IsUtf8-from_ascii, IsUtf8-from_is_utf8, is_utf8-from_IsUtf8}
use Rattle.std.proofs.lemmas.List.Folds.{list_all-append}
use Rattle.std.proofs.lemmas.Str.Ascii.{IsAscii-from_all}
use Rattle.htmlescape.specs.declared.alphabet.Alphabet.TheVariants.{Minimal}
use Rattle.htmlescape.proofs.Escaping.{encoded_utf8}
use Rattle.dav_core.specs.DavPath.{WebPath, final_slash, last_name, link_of, shown, slashed}
use Rattle.dav_core.specs.Path.{Names}
use Rattle.dav_core.proofs.Paths.{last_pushed}
use Rattle.dav_page.specs.declared.row.PageRow.{PageRow}
use Rattle.dav_page.specs.Index.{CanBeSaid, name_text, page_of, page_texts, written_crumb, written_page, written_row}
use Rattle.dav_page.specs.Listed.{all_names, crumbs_from}
use Rattle.dav_page.specs.Pages.{CrumbTexts, IsLast, IsPage, IsRow, NoCrumbsAtRoot, PageTexts, RowTexts, after_rows, before_heading, before_rows, before_title, crumb_text, has_two_digits, head_text, heading_text, is_link, is_link_byte, page_text, pieces_of, row_text}
use Rattle.dav_page.proofs.Crumbs.{crumbs_read, joined_utf8, slashed_utf8}
use Rattle.dav_page.proofs.PageMade.{end_utf8, joined, joined_rows, regroup}
use Rattle.dav_page.proofs.Written.{link_written, name_written, title_written}

abbrev Utf8 : List ℕ → Type 0
Utf8 text = is_utf8 text ≡ true

both_utf8 : (a b : List ℕ) → Utf8 a → Utf8 b → Utf8 (a ++ b)
both_utf8 = joined_utf8

-- ---- what is written is UTF-8

name_utf8 : (name : List ℕ) → Utf8 name → Utf8 (name_text name)
name_utf8 name utf8 = is_utf8-from_IsUtf8 (name_text name) (encoded_utf8 Minimal name (IsUtf8-from_is_utf8 name utf8))

byte_ascii : (b : ℕ) (digits : Bool) → (is_link_byte b || ((b == 37) && digits)) ≡ true → b < 128
byte_ascii b digits e = by_byte (is_link_byte b) refl e
  where
    by_percent : (t : Bool) → (b == 37) ≡ t → (t && digits) ≡ true → b < 128
    by_percent true is e = grind (arith, nat_tests)
    by_percent false is e = cc

    by_byte : (t : Bool) → is_link_byte b ≡ t → (t || ((b == 37) && digits)) ≡ true → b < 128
    by_byte true is e = grind (arith, nat_tests)
    by_byte false is e = by_percent (b == 37) refl e

link_ascii : (link : List ℕ) → is_link link ≡ true → All (λ b. b < 128) link
link_ascii [] e = All-nil (λ b. b < 128)
link_ascii (b ∷ rest) e = let p = and_parts (is_link_byte b || ((b == 37) && has_two_digits rest)) (is_link rest) e in
    All-cons (λ c. c < 128) b rest (byte_ascii b (has_two_digits rest) p.0) (link_ascii rest p.1)

link_utf8 : (path : List ℕ) → Utf8 path → Utf8 (link_of path)
link_utf8 path utf8 =
    is_utf8-from_IsUtf8 (link_of path) (IsUtf8-from_ascii (link_of path) (IsAscii-from_all (link_of path) (link_ascii (link_of path) (link_written path utf8).bytes)))

literals : Utf8 (codes "<tr><td><a href=\"") × Utf8 (codes "\">") × Utf8 (codes "</a></td><td class=\"mono\">") × Utf8 (codes "</td><td class=\"mono\" align=\"right\">") × Utf8 (codes "</td></tr>")
unfolding is_utf8 chars lib.Utf8.encode
literals = (refl, refl, refl, refl, refl)

crumb_literals : Utf8 (codes "<a href = \"") × Utf8 (codes "</a>/") × Utf8 (codes "<a href = \"/\">/</a>") × Utf8 (codes "/") × Utf8 []
unfolding is_utf8 chars lib.Utf8.encode
crumb_literals = (refl, refl, refl, refl, refl)

page_literals : Utf8 before_title × Utf8 before_heading × Utf8 before_rows
unfolding is_utf8 chars lib.Utf8.encode
page_literals = (refl, refl, refl)

row_utf8 : (row : PageRow) → CanBeSaid row → Utf8 (row_text (written_row row))
row_utf8 row says = let l = literals in
    both_utf8 _ _ l.0 (both_utf8 _ _ (link_utf8 row.path says.path) (both_utf8 _ _ l.1 (both_utf8 _ _ (name_utf8 row.name says.name)
    (both_utf8 _ _ l.2 (both_utf8 _ _ says.date_text (both_utf8 _ _ l.3 (both_utf8 _ _ says.size_text l.4)))))))

rows_utf8 : (rows : List PageRow) → AllByRecursion CanBeSaid rows → Utf8 (flat_map row_text (map written_row rows))
rows_utf8 [] all = crumb_literals.4
rows_utf8 (row ∷ rows) all = both_utf8 _ _ (row_utf8 row all.0) (rows_utf8 rows all.1)

-- the names and paths of the links of a heading
path_utf8 : (at name : List ℕ) → Utf8 at → Utf8 name → Utf8 (at ++ slashed name)
path_utf8 = slashed_utf8

crumbs_utf8 : (at : List ℕ) (names : Names) → Utf8 at → list_all is_utf8 names ≡ true → Utf8 (flat_map crumb_text (map written_crumb (crumbs_from at names)))
crumbs_utf8 at [] u all = crumb_literals.4
crumbs_utf8 at (name ∷ []) u all = crumb_literals.4
crumbs_utf8 at (name ∷ next ∷ names) u all =
    let p = and_parts (is_utf8 name) (list_all is_utf8 (next ∷ names)) all in
    let path = path_utf8 at name u p.0 in
    let c = crumb_literals in
    both_utf8 _ _
    (both_utf8 _ _ c.0 (both_utf8 _ _ (link_utf8 (at ++ slashed name) path) (both_utf8 _ _ literals.1 (both_utf8 _ _ (name_utf8 name p.0) c.1))))
    (crumbs_utf8 (at ++ slashed name) (next ∷ names) path p.1)

-- ---- the heading

split_last : (first : List ℕ) (names : Names) → (front : Names) × (last : List ℕ) × (first ∷ names ≡ front ++ last ∷ [])
split_last first [] = ([], first, refl)
split_last first (next ∷ names) = let (front, last, e) = split_last next names in (first ∷ front, last, ap (λ l. first ∷ l) e)

some_last : (first : List ℕ) (names : Names) → list_all is_utf8 (first ∷ names) ≡ true → (last : List ℕ) × (last_name (first ∷ names) ≡ Some last) × Utf8 last
some_last first names all =
    let (front, last, e) = split_last first names in
    let p = and_parts (list_all is_utf8 front) (list_all is_utf8 (last ∷ [])) (sym (list_all-append is_utf8 front (last ∷ [])) ∙ (sym (ap (list_all is_utf8) e) ∙ all)) in
    (last, ap last_name e ∙ last_pushed front last, (and_parts (is_utf8 last) true p.1).0)

abbrev lasts : Names → Option (List ℕ)
lasts names = option_map name_text (last_name names)

heading_utf8 : (names : Names) → list_all is_utf8 names ≡ true → Utf8 (heading_text (map written_crumb (crumbs_from [] names)) (lasts names))
heading_utf8 [] all = crumb_literals.3
heading_utf8 (first ∷ names) all =
    let (last, is, utf8) = some_last first names all in
    subst (λ o. Utf8 (heading_text (map written_crumb (crumbs_from [] (first ∷ names))) (option_map name_text o))) (sym is)
    (both_utf8 _ _ crumb_literals.2 (both_utf8 _ _ (crumbs_utf8 [] (first ∷ names) crumb_literals.4 all) (name_utf8 last utf8)))

root_alone : (names : Names) → list_all is_utf8 names ≡ true → NoCrumbsAtRoot (map written_crumb (crumbs_from [] names)) (lasts names)
root_alone [] all = refl
root_alone (first ∷ names) all =
    let (last, is, utf8) = some_last first names all in
    subst (λ o. NoCrumbsAtRoot (map written_crumb (crumbs_from [] (first ∷ names))) (option_map name_text o)) (sym is) tt

last_read : (names : Names) → list_all is_utf8 names ≡ true → IsLast (lasts names) (last_name names)
last_read [] all = tt
last_read (first ∷ names) all =
    let (last, is, utf8) = some_last first names all in subst (λ o. IsLast (option_map name_text o) o) (sym is) (name_written last utf8)

-- ---- the page

rows_read : (rows : List PageRow) → AllByRecursion CanBeSaid rows → AllZip IsRow (map written_row rows) rows
rows_read [] all = tt
rows_read (row ∷ rows) all = (
  record {
    path = link_written row.path all.0.path;
    name = name_written row.name all.0.name;
    date_is = refl;
    date = all.0.date;
    size_is = refl;
    size = all.0.size;
  },
  rows_read rows all.1,
)

shown_more : (names : Names) → list_all is_utf8 names ≡ true → Utf8 (flat_map slashed names)
shown_more [] all = crumb_literals.4
shown_more (name ∷ names) all =
    let p = and_parts (is_utf8 name) (list_all is_utf8 names) all in
    both_utf8 _ _ (both_utf8 _ _ crumb_literals.3 p.0) (shown_more names p.1)

slash_text : (slash : Bool) → Utf8 (final_slash slash)
slash_text true = crumb_literals.3
slash_text false = crumb_literals.4

shown_utf8 : (dir : WebPath) → list_all is_utf8 (all_names dir) ≡ true → Utf8 (shown dir)
shown_utf8 dir all =
    let p = and_parts (list_all is_utf8 dir.prefix) (list_all is_utf8 dir.names) (sym (list_all-append is_utf8 dir.prefix dir.names) ∙ all) in
    both_utf8 _ _ (shown_more dir.prefix p.0) (both_utf8 _ _ (shown_more dir.names p.1) (slash_text dir.slash))

pieces_joined : (p : PageTexts) → flat_map (λ t. t) (pieces_of p) ≡ page_text p
pieces_joined p =
    joined (head_text p) (map row_text p.rows) ∙ ap (λ t. head_text p ++ (t ++ after_rows)) (joined_rows p.rows)
    ∙ regroup before_title p.title before_heading (heading_text p.crumbs p.last) before_rows (flat_map row_text p.rows ++ after_rows)

pub page_read : (dir : WebPath) (rows : List PageRow) → list_all is_utf8 (all_names dir) ≡ true → AllByRecursion CanBeSaid rows
    → IsPage (flat_map (λ t. t) (page_texts dir rows)) (page_of dir rows)
page_read dir rows names all =
    let path = shown_utf8 dir names in
    let title = link_utf8 (shown dir) path in
    let l = page_literals in
    record {
      utf8 = ap is_utf8 (pieces_joined (written_page dir rows)) ∙ both_utf8 _ _ l.0 (both_utf8 _ _ (name_utf8 (link_of (shown dir)) title)
          (both_utf8 _ _ l.1 (both_utf8 _ _ (heading_utf8 (all_names dir) names) (both_utf8 _ _ l.2 (both_utf8 _ _ (rows_utf8 rows all) end_utf8)))));
      texts = written_page dir rows;
      spells = pieces_joined (written_page dir rows);
      title = title_written (link_of (shown dir)) title;
      root = root_alone (all_names dir) names;
      crumbs = crumbs_read [] (all_names dir) crumb_literals.4 names;
      last = last_read (all_names dir) names;
      rows = rows_read rows all;
    }
