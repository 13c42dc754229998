-- How a reader goes through a page: at literals, and at the first byte that ends what stands between two of them.
use Rattle.std.specs.Prelude.{◌≡◌, ◌==◌, ℕ, List, ◌∷◌, ◌++◌, Option, true, false, codes}
use Rattle.std.specs.List.{AllZip, flat_map, list_any}
use Rattle.std.specs.Str.{chars, is_utf8}
use Rattle.htmlescape.specs.Grammar.{IsText, are_digits}
use Rattle.dav_page.specs.declared.row.PageRow.{PageRow}
use Rattle.dav_page.specs.declared.cutting.RowCut.{RowCut}
use Rattle.dav_page.specs.declared.cutting.CrumbCut.{CrumbCut}
use Rattle.dav_page.specs.Pages.{Crumb, CrumbTexts, IsCrumb, IsLast, IsName, IsRow, IsTitle, NoCrumbsAtRoot, RowTexts, after_rows, before_heading, before_rows, before_title, crumb_text, heading_text, is_fraction, row_text}

-- The text doesn't have this byte.
abbrev pub IsFreeOf : ℕ → List ℕ → Type 0
IsFreeOf stop text = list_any (λ b. b == stop) text ≡ false

-- The whole is cut before the first such byte.
pub record IsCut (stop : ℕ) (whole front rest : List ℕ) : Type 0 where
  pub more : List ℕ
  pub spells : whole ≡ front ++ rest
  pub free : IsFreeOf stop front
  pub stops : rest ≡ stop ∷ more

-- A text stands between a literal at the front and the first such byte behind it.
pub record IsBetween (literal : List ℕ) (stop : ℕ) (whole text rest : List ℕ) : Type 0 where
  pub more : List ℕ
  pub spells : whole ≡ literal ++ (text ++ rest)
  pub free : IsFreeOf stop text
  pub stops : rest ≡ stop ∷ more

abbrev pub row_texts : RowCut → RowTexts
row_texts cut = record { link = cut.link.now; name = cut.name.now; date = cut.date.now; size = cut.size.now }

abbrev pub crumb_texts : CrumbCut → CrumbTexts
crumb_texts cut = record { link = cut.link.now; name = cut.name.now }

-- The texts of a row stand at the front, whatever they say: each runs to the byte that ends it.
pub record IsRowFront (whole : List ℕ) (texts : RowTexts) (rest : List ℕ) : Type 0 where
  pub spells : whole ≡ row_text texts ++ rest
  pub link : IsFreeOf 34 texts.link
  pub name : IsFreeOf 60 texts.name
  pub date : IsFreeOf 60 texts.date
  pub size : IsFreeOf 60 texts.size

-- The texts of a heading's link stand at the front.
pub record IsCrumbFront (whole : List ℕ) (texts : CrumbTexts) (rest : List ℕ) : Type 0 where
  pub spells : whole ≡ crumb_text texts ++ rest
  pub link : IsFreeOf 34 texts.link
  pub name : IsFreeOf 60 texts.name

-- digits and a fraction
pub record IsNumber (text : List ℕ) : Type 0 where
  pub whole : List ℕ
  pub fraction : List ℕ
  pub spells : text ≡ whole ++ fraction
  pub digits : are_digits 10 whole ≡ true
  pub point : is_fraction fraction ≡ true

-- The text stands for this, by the entity grammar.
pub record Spells (text shown : List ℕ) : Type 0 where
  pub means : IsText (chars text) (chars shown)
  pub utf8 : is_utf8 shown ≡ true

-- A page's front up to its heading, and what is behind it.
pub record HasTitle (whole rest : List ℕ) : Type 0 where
  pub text : List ℕ
  pub title : List ℕ
  pub spells : whole ≡ before_title ++ (text ++ (before_heading ++ rest))
  pub is : IsTitle text title

-- The last name of a heading, and what is behind it and the text that leads to the rows.
pub record HasLast (whole rest : List ℕ) : Type 0 where
  pub text : List ℕ
  pub name : List ℕ
  pub spells : whole ≡ text ++ (before_rows ++ rest)
  pub is : IsName text name

-- The same of the links of a heading and its last name.
pub record HasCrumbs (whole rest : List ℕ) : Type 0 where
  pub texts : List CrumbTexts
  pub crumbs : List Crumb
  pub behind : List ℕ
  pub spells : whole ≡ flat_map crumb_text texts ++ behind
  pub are : AllZip IsCrumb texts crumbs
  pub last : HasLast behind rest

-- The same of the heading of the root.
abbrev pub HasRoot : List ℕ → List ℕ → Type 0
HasRoot whole rest = whole ≡ codes "/" ++ (before_rows ++ rest)

-- The same of a whole heading.
pub record HasHeading (whole rest : List ℕ) : Type 0 where
  pub texts : List CrumbTexts
  pub text : Option (List ℕ)
  pub crumbs : List Crumb
  pub name : Option (List ℕ)
  pub spells : whole ≡ heading_text texts text ++ (before_rows ++ rest)
  pub root : NoCrumbsAtRoot texts text
  pub are : AllZip IsCrumb texts crumbs
  pub is : IsLast text name

-- The rows of a page and its end.
pub record HasRows (whole : List ℕ) (rows : List PageRow) : Type 0 where
  pub texts : List RowTexts
  pub spells : whole ≡ flat_map row_text texts ++ after_rows
  pub are : AllZip IsRow texts rows
