-- What is written as the index page of a directory, besides that it is a page.
use Rattle.std.specs.Prelude.{◌≡◌, ℕ, List, [], ◌∷◌, ◌++◌, Option, Bool, true, false, IsUtf8, encode_utf8_all, map, option_map}
use Rattle.std.specs.List.{AllZip, flat_map}
use Rattle.std.specs.Str.{chars, is_utf8}
use Rattle.htmlescape.specs.declared.alphabet.Alphabet.TheVariants.{Minimal}
use Rattle.htmlescape.specs.Escapes.{encoded}
use Rattle.dav_core.specs.declared.member.Member.{Member}
use Rattle.dav_core.specs.DavPath.{WebPath, last_name, link_of, final_slash, shown, slashed}
use Rattle.dav_core.specs.Info.{known}
use Rattle.dav_core.specs.Path.{Names, is_plain}
use Rattle.dav_core.specs.Tree.{is_dir}
use Rattle.dav_page.specs.declared.row.PageRow.{PageRow}
use Rattle.dav_page.specs.Pages.{Crumb, CrumbTexts, IsCrumb, IsLast, IsPage, IsRow, IsSize, IsTitle, NoCrumbsAtRoot, Page, PageTexts, RowTexts, before_heading, before_rows, before_title, heading_text, is_date, pieces_of, row_text}
use Rattle.dav_page.specs.Listed.{IsDateOf, IsOf, IsRowOf, all_names, crumbs_from, shown_name, size_of}

-- the text of a name between tags
abbrev pub name_text : List ℕ → List ℕ
name_text name = encode_utf8_all (encoded Minimal (chars name))

-- the texts of a link to a directory on the way
abbrev pub written_crumb : Crumb → CrumbTexts
written_crumb c = record { link = link_of c.path; name = name_text c.name }

-- The texts of a row, byte by byte: a path has one link, and a name one text.
abbrev pub written_row : PageRow → RowTexts
written_row row = record { link = link_of row.path; name = name_text row.name; date = row.date; size = row.size }

-- the texts of the page of a directory with these rows
abbrev pub written_page : WebPath → List PageRow → PageTexts
written_page dir rows = record {
  title = name_text (link_of (shown dir));
  crumbs = map written_crumb (crumbs_from [] (all_names dir));
  last = option_map name_text (last_name (all_names dir));
  rows = map written_row rows;
}

-- The page of a directory with these rows, byte by byte: its head, one text a row, and its end.
abbrev pub page_texts : WebPath → List PageRow → List (List ℕ)
page_texts dir rows = pieces_of (written_page dir rows)

-- The texts are the page of this directory with such rows, and joined they are one to a reader, who takes these rows
-- from it.
pub record IsIndex (dir : WebPath) (Rows : List PageRow → Type 0) (texts : List (List ℕ)) : Type 0 where
  pub page : Page
  pub written : texts ≡ page_texts dir page.rows
  pub reads : IsPage (flat_map (λ t. t) texts) page
  pub pieces : texts ≡ pieces_of reads.texts
  pub of : IsOf dir page
  pub rows : Rows page.rows

-- What a page can say as a row: its four texts are UTF-8, and its date and size have their forms.
pub record CanBeSaid (row : PageRow) : Type 0 where
  pub path : is_utf8 row.path ≡ true
  pub name : is_utf8 row.name ≡ true
  pub date_text : is_utf8 row.date ≡ true
  pub size_text : is_utf8 row.size ≡ true
  pub date : is_date row.date ≡ true
  pub size : IsSize row.size

-- what a reader is to take from the page of a directory with these rows
abbrev pub page_of : WebPath → List PageRow → Page
page_of dir rows = record {
  title = link_of (shown dir);
  crumbs = crumbs_from [] (all_names dir);
  last = last_name (all_names dir);
  rows = rows;
}

-- The text of a row, from which a reader takes what is shown of this member.
pub record IsRowText (dir : WebPath) (m : Member) (text : List ℕ) : Type 0 where
  pub texts : RowTexts
  pub row : PageRow
  pub written : texts ≡ written_row row
  pub spells : text ≡ row_text texts
  pub utf8 : is_utf8 text ≡ true
  pub reads : IsRow texts row
  pub of : IsRowOf dir m row

-- The text of a row of this member, where the link of its directory is known: it ends with a slash, and the link goes
-- on behind it.
pub record IsRowBelow (below : List ℕ) (m : Member) (text : List ℕ) : Type 0 where
  pub texts : RowTexts
  pub link : texts.link ≡ below ++ (link_of m.name ++ final_slash (is_dir m.kind))
  pub name : texts.name ≡ name_text (shown_name m)
  pub named : IsUtf8 m.name
  pub date : IsDateOf (known m.modified) texts.date
  pub size : texts.size ≡ size_of m
  pub fits : IsSize texts.size
  pub spells : text ≡ row_text texts
  pub utf8 : IsUtf8 text

-- The heading of the path with these names, byte by byte.
abbrev pub heading_of : Names → List ℕ
heading_of names = heading_text (map written_crumb (crumbs_from [] names)) (option_map name_text (last_name names))

-- each of the names, and the path to it
abbrev pub crumbs_at : List ℕ → Names → List Crumb
crumbs_at at [] = []
crumbs_at at (name ∷ names) = record { path = at ++ slashed name; name = name } ∷ crumbs_at (at ++ slashed name) names

-- A heading, from which a reader takes the names of a path and the links on the way there.
pub record IsHeading (names : Names) (text : List ℕ) : Type 0 where
  pub texts : List CrumbTexts
  pub last : Option (List ℕ)
  pub spells : text ≡ heading_text texts last
  pub root : NoCrumbsAtRoot texts last
  pub crumbs : AllZip IsCrumb texts (crumbs_from [] names)
  pub ends : IsLast last (last_name names)

-- What stands before the rows of a directory's page.
pub record HasHead (dir : WebPath) (text : List ℕ) : Type 0 where
  pub title : List ℕ
  pub heading : List ℕ
  pub titled : title ≡ name_text (link_of (shown dir))
  pub headed : heading ≡ heading_of (all_names dir)
  pub spells : text ≡ before_title ++ (title ++ (before_heading ++ (heading ++ before_rows)))
  pub utf8 : is_utf8 text ≡ true
  pub names : IsTitle title (link_of (shown dir))
  pub leads : IsHeading (all_names dir) heading

-- A row leads to a plain name right below a directory, perhaps with a final slash.
pub record LeadsInside (dir : WebPath) (row : PageRow) : Type 0 where
  pub name : List ℕ
  pub plain : is_plain name ≡ true
  pub ends : Bool
  pub path : row.path ≡ shown (record dir { slash = false }) ++ (slashed name ++ final_slash ends)
