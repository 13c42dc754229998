-- What is a page, from its reader's side: which texts are pages, and what a reader takes from them. Nothing here writes
-- one.
use Rattle.std.specs.Prelude.{◌≡◌, ◌⊎◌, ◌==◌, ◌&&◌, ◌||◌, ℕ, List, [], ◌∷◌, ◌++◌, length, map, Bool, true, false, codes, nat_le, Option, None, Some, if◌then◌else◌}
use Rattle.std.specs.List.{AllZip, flat_map, list_any}
use Rattle.std.specs.Char.{is_ascii_alphanumeric, is_digit}
use Rattle.std.specs.Cmp.Lexicographic.{pointwise}
use Rattle.std.specs.Str.{bytes_eq, chars, is_utf8}
use Rattle.percent_encoding.specs.Percent.{percent_decode}
use Rattle.htmlescape.specs.Grammar.{IsText, are_digits}
use Rattle.dav_page.specs.declared.row.PageRow.{PageRow}

-- A link of a heading, to a directory on the way to the page's.
pub record Crumb : Type 0 where
  pub path : List ℕ
  pub name : List ℕ

-- What a reader takes from a page. The heading is a slash alone, or links and a last name.
pub record Page : Type 0 where
  pub title : List ℕ
  pub crumbs : List Crumb
  pub last : Option (List ℕ)
  pub rows : List PageRow

-- The text has none of these characters.
abbrev pub Lacks : List ℕ → List ℕ → Type 0
Lacks marks text = list_any (λ c. list_any (λ m. c == m) marks) text ≡ false

-- A text without these characters stands for this, by the entity grammar.
pub record StandsFor (marks text shown : List ℕ) : Type 0 where
  pub unmarked : Lacks marks text
  pub means : IsText (chars text) (chars shown)
  pub utf8 : is_utf8 shown ≡ true

-- A title doesn't end its element.
abbrev pub IsTitle : List ℕ → List ℕ → Type 0
IsTitle text title = StandsFor (codes "<") text title

-- A name begins no tag, ends none and ends no value in quotes. (It may hold `'`: no value of a page is in single
-- quotes.)
abbrev pub IsName : List ℕ → List ℕ → Type 0
IsName text name = StandsFor (codes "<>\"") text name

-- letters, digits and `-._~/`
abbrev pub is_link_byte : ℕ → Bool
is_link_byte b = is_ascii_alphanumeric b || list_any (λ c. c == b) (codes "-._~/")

abbrev pub has_two_digits : List ℕ → Bool
has_two_digits (high ∷ low ∷ rest) = is_digit high 16 && is_digit low 16
has_two_digits bytes = false

-- and `%` before two hexadecimal digits
abbrev pub is_link : List ℕ → Bool
is_link [] = true
is_link (b ∷ rest) = (is_link_byte b || (b == 37 && has_two_digits rest)) && is_link rest

-- A link leads to this path.
pub record Leads (link path : List ℕ) : Type 0 where
  pub bytes : is_link link ≡ true
  pub decoded : percent_decode link ≡ path
  pub utf8 : is_utf8 path ≡ true

-- a digit where the form has a zero, and the form's byte elsewhere
abbrev pub fits : ℕ → ℕ → Bool
fits form b = if form == 48 then is_digit b 10 else form == b

-- no date, or one of this form (no calendar is asked)
abbrev pub is_date : List ℕ → Bool
is_date text = bytes_eq text [] || pointwise fits (codes "0000-00-00 00:00") text

abbrev pub is_unit : List ℕ → Bool
is_unit text =
    list_any (bytes_eq text) (codes "B" ∷ codes "KiB" ∷ codes "MiB" ∷ codes "GiB" ∷ codes "TiB" ∷ codes "PiB" ∷ [])

-- nothing, or a point and one digit or two
abbrev pub is_fraction : List ℕ → Bool
is_fraction [] = true
is_fraction (point ∷ digits) = point == 46 && (are_digits 10 digits && nat_le (length digits) 2)

-- digits, a fraction, a space and a unit
pub record IsAmount (text : List ℕ) : Type 0 where
  pub whole : List ℕ
  pub fraction : List ℕ
  pub unit : List ℕ
  pub spells : text ≡ whole ++ (fraction ++ 32 ∷ unit)
  pub digits : are_digits 10 whole ≡ true
  pub point : is_fraction fraction ≡ true
  pub named : is_unit unit ≡ true

-- what stands in place of a size for what is no regular file
abbrev pub no_size : List ℕ
no_size = codes "[DIR]    "

abbrev pub IsSize : List ℕ → Type 0
IsSize text = (text ≡ no_size) ⊎ IsAmount text

-- the texts of a row
pub record RowTexts : Type 0 where
  pub link : List ℕ
  pub name : List ℕ
  pub date : List ℕ
  pub size : List ℕ

abbrev pub row_text : RowTexts → List ℕ
row_text r =
    codes "<tr><td><a href=\"" ++ (r.link
    ++ (codes "\">" ++ (r.name
    ++ (codes "</a></td><td class=\"mono\">" ++ (r.date
    ++ (codes "</td><td class=\"mono\" align=\"right\">" ++ (r.size
    ++ codes "</td></tr>")))))))

-- The texts of a row say this. Link, name and size aren't compared with each other.
pub record IsRow (texts : RowTexts) (row : PageRow) : Type 0 where
  pub path : Leads texts.link row.path
  pub name : IsName texts.name row.name
  pub date_is : row.date ≡ texts.date
  pub date : is_date texts.date ≡ true
  pub size_is : row.size ≡ texts.size
  pub size : IsSize texts.size

-- the texts of a heading's link
pub record CrumbTexts : Type 0 where
  pub link : List ℕ
  pub name : List ℕ

abbrev pub crumb_text : CrumbTexts → List ℕ
crumb_text c = codes "<a href = \"" ++ (c.link ++ (codes "\">" ++ (c.name ++ codes "</a>/")))

pub record IsCrumb (texts : CrumbTexts) (crumb : Crumb) : Type 0 where
  pub path : Leads texts.link crumb.path
  pub name : IsName texts.name crumb.name

-- A heading: that of the root, or the root's link, the links on the way and the last name.
abbrev pub heading_text : List CrumbTexts → Option (List ℕ) → List ℕ
heading_text crumbs None = codes "/"
heading_text crumbs (Some last) = codes "<a href = \"/\">/</a>" ++ (flat_map crumb_text crumbs ++ last)

abbrev pub IsLast : Option (List ℕ) → Option (List ℕ) → Type 0
IsLast None None = Unit {0}
IsLast (Some text) (Some name) = IsName text name
IsLast None (Some name) = ⊥
IsLast (Some text) None = ⊥

abbrev pub NoCrumbsAtRoot : List CrumbTexts → Option (List ℕ) → Type 0
NoCrumbsAtRoot crumbs None = crumbs ≡ []
NoCrumbsAtRoot crumbs (Some last) = Unit {0}

-- the texts of a page
pub record PageTexts : Type 0 where
  pub title : List ℕ
  pub crumbs : List CrumbTexts
  pub last : Option (List ℕ)
  pub rows : List RowTexts

-- each line with its line feed
abbrev pub lines_of : List (List ℕ) → List ℕ
lines_of lines = flat_map (λ line. line ++ codes "\n") lines

abbrev pub before_title : List ℕ
before_title =
    lines_of (codes "<!DOCTYPE html>" ∷ codes "<html><head>"
    ∷ codes "<meta name=\"referrer\" content=\"no-referrer\" />" ∷ [])
    ++ codes "<title>Index of "

-- the style sheet
abbrev pub style : List (List ℕ)
style =
    codes "<style>"
    ∷ codes "table {" ∷ codes "border-collapse: separate;" ∷ codes "border-spacing: 1.5em 0.25em;" ∷ codes "}"
    ∷ codes "h1 {" ∷ codes "padding-left: 0.3em;" ∷ codes "}"
    ∷ codes "a {" ∷ codes "text-decoration: none;" ∷ codes "color: blue;" ∷ codes "}"
    ∷ codes ".left {" ∷ codes "text-align: left;" ∷ codes "}"
    ∷ codes ".mono {" ∷ codes "font-family: monospace;" ∷ codes "}"
    ∷ codes ".mw20 {" ∷ codes "min-width: 20em;" ∷ codes "}"
    ∷ codes "</style>" ∷ []

abbrev pub before_heading : List ℕ
before_heading =
    lines_of (codes "</title>" ∷ (style ++ codes "</head>" ∷ codes "<body>" ∷ []))
    ++ codes "<h1>Index of "

-- the head of the table, and the row that leads to the parent
abbrev pub before_rows : List ℕ
before_rows = lines_of (
    codes "</h1><table>"
    ∷ codes "<tr>"
    ∷ codes "<th class=\"left mw20\">Name</th>"
    ∷ codes "<th class=\"left\">Last modified</th>"
    ∷ codes "<th>Size</th>"
    ∷ codes "</tr>"
    ∷ codes "<tr><th colspan=\"3\"><hr></th></tr>"
    ∷ codes "<tr>"
    ∷ codes "<td><a href=\"..\">Parent Directory</a></td>"
    ∷ codes "<td>&nbsp;</td>"
    ∷ codes "<td class=\"mono\" align=\"right\">[DIR]    </td>"
    ∷ codes "</tr>" ∷ [])

abbrev pub after_rows : List ℕ
after_rows = codes "<tr><th colspan=\"3\"><hr></th></tr></table></body></html>"

abbrev pub page_text : PageTexts → List ℕ
page_text p =
    before_title ++ (p.title
    ++ (before_heading ++ (heading_text p.crumbs p.last
    ++ (before_rows ++ (flat_map row_text p.rows ++ after_rows)))))

-- what stands before the rows
abbrev pub head_text : PageTexts → List ℕ
head_text p = before_title ++ (p.title ++ (before_heading ++ (heading_text p.crumbs p.last ++ before_rows)))

-- the pieces of a page: its head, one a row, and its end
abbrev pub pieces_of : PageTexts → List (List ℕ)
pieces_of p = head_text p ∷ (map row_text p.rows ++ after_rows ∷ [])

-- The text is a page, from which a reader takes this. There is one page at most (`pages_are_one`).
pub record IsPage (text : List ℕ) (page : Page) : Type 0 where
  pub utf8 : is_utf8 text ≡ true
  pub texts : PageTexts
  pub spells : text ≡ page_text texts
  pub title : IsTitle texts.title page.title
  pub root : NoCrumbsAtRoot texts.crumbs texts.last
  pub crumbs : AllZip IsCrumb texts.crumbs page.crumbs
  pub last : IsLast texts.last page.last
  pub rows : AllZip IsRow texts.rows page.rows
