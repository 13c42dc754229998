-- Worked rows, by computation.
use Rattle.std.proofs.Common.{refl, ap, inl, inr, arith, zero, suc}
use Rattle.std.specs.Ordering.{is_lt, nat_cmp}
use Rattle.std.specs.declared.cmp.Ordering.TheVariants.{Less}
use Rattle.std.specs.Cmp.Lexicographic.{slice_cmp}
use Rattle.std.specs.Prelude.{◌≡◌, ◌≤◌, ◌<◌, ◌+◌, slice_index_or, ℕ, List, [], ◌∷◌, ◌++◌, map, replicate, codes, pos, true, false, None, Some}
use Rattle.std.specs.List.{filter, flat_map}
use Rattle.std.specs.Fmt.{digits}
use Rattle.std.specs.Str.{chars, is_utf8, encode_utf8_all}
use Rattle.percent_encoding.specs.Percent.{percent_decode, percent_encode_byte}
use Rattle.jiff_core.specs.Calendar.{days_from_civil, day_count, days_of_years, days_of_months}
use Rattle.jiff_core.proofs.DateLemmas.{days_from_civil-max}
use Rattle.dav_core.specs.declared.time.FileTime.{FileTime}
use Rattle.dav_core.specs.declared.tree.Row.{Row}
use Rattle.dav_core.specs.declared.tree.Kind.{Kind}
use Rattle.dav_core.specs.declared.tree.Kind.TheVariants.{Dir, File}
use Rattle.dav_core.specs.World.{World, put}
use Rattle.dav_core.specs.DavPath.{WebPath, link_of, shown}
use Rattle.htmlescape.specs.declared.alphabet.Alphabet.TheVariants.{Minimal}
use Rattle.htmlescape.specs.Escapes.{encoded, escaped, minimal_entity}
use Rattle.htmlescape.specs.Names.{named, entities, latin, symbols, special}
use Rattle.htmlescape.specs.Grammar.{Item}
use Rattle.htmlescape.specs.Grammar.Item.{Plain, Name, Hexadecimal}
use Rattle.dav_page.specs.declared.row.PageRow.{PageRow}
use Rattle.dav_core.specs.declared.member.Member.{Member}
use Rattle.dav_core.specs.Members.{members}
use Rattle.dav_page.specs.Pages.{Crumb, heading_text, is_date, is_link, IsName, IsPage, IsRow, Leads, Page, pieces_of, PageTexts, row_text, RowTexts}
use Rattle.dav_page.specs.Sizes.{shown_size}
use Rattle.dav_page.specs.Listed.{AreRows, crumbs_from, IsMinute, IsOf, is_visible, place_of}

-- sizes: whole, with a fraction (of 1.125 a half goes up), rounded to the next unit's number, and in bytes from 2^60 on
sizes : map shown_size (0 ∷ 1023 ∷ 1024 ∷ 1034 ∷ 1152 ∷ 1536 ∷ 1048575 ∷ 1152921504606846975 ∷ 1152921504606846976 ∷ [])
    ≡ codes "0 B" ∷ codes "1023 B" ∷ codes "1 KiB" ∷ codes "1.01 KiB" ∷ codes "1.13 KiB" ∷ codes "1.5 KiB" ∷ codes "1024 KiB" ∷ codes "1024 PiB"
    ∷ codes "1152921504606846976 B" ∷ []
unfolding digits
sizes = refl

-- headings: of the root, of `/d/`, and the links of one three directories down
root_heading : heading_text [] None ≡ codes "/"
root_heading = refl

d_crumbs : crumbs_from [] (codes "d" ∷ []) ≡ []
d_crumbs = refl

d_heading : heading_text [] (Some (codes "d")) ≡ codes "<a href = \"/\">/</a>d"
d_heading = refl

abbrev a_crumb : Crumb
a_crumb = record { path = codes "/a"; name = codes "a" }

abbrev b_crumb : Crumb
b_crumb = record { path = codes "/a/b"; name = codes "b" }

c_crumbs : crumbs_from [] (codes "a" ∷ codes "b" ∷ codes "c" ∷ []) ≡ a_crumb ∷ b_crumb ∷ []
c_crumbs = refl

-- `a-/` is shown before `a/`
abbrev directory : List ℕ → Member
directory name = record { name = name; kind = Dir; len = 0; modified = None }

order : slice_cmp nat_cmp (place_of (directory (codes "a-"))) (place_of (directory (codes "a"))) ≡ Less
order = refl

-- the name `<b>"&'.txt`, its text and its link
abbrev name : List ℕ
name = codes "<b>\"&'.txt"

abbrev name_text : List ℕ
name_text = codes "&lt;b&gt;&quot;&amp;&#x27;.txt"

abbrev link_text : List ℕ
link_text = codes "/%3Cb%3E%22%26%27.txt"

name_encoded : encode_utf8_all (encoded Minimal (chars name)) ≡ name_text
unfolding chars minimal_entity escaped lib.Utf8.encode
name_encoded = refl

name_linked : link_of (shown (record { prefix = []; names = name ∷ []; slash = false })) ≡ link_text
unfolding percent_encode_byte
name_linked = refl

name_leads : Leads link_text (codes "/<b>\"&'.txt")
unfolding percent_decode is_utf8 chars lib.Utf8.encode
name_leads = record { bytes = refl; decoded = refl; utf8 = refl }

items : List Item
items = Name (codes "lt") ∷ Plain 98 ∷ Name (codes "gt") ∷ Name (codes "quot") ∷ Name (codes "amp") ∷ Hexadecimal (codes "27")
    ∷ map Plain (codes ".txt")

name_read : IsName name_text name
unfolding items is_utf8 chars named entities latin symbols special lib.Utf8.encode
name_read = record { unmarked = refl; utf8 = refl; means = record { items = items; spells = refl; means = refl } }

-- the page of a root with a directory `a` and a file `b&.txt`: its rows as they stand, and what a reader takes from them
abbrev page_row : List ℕ → List ℕ → List ℕ → PageRow
page_row path name size = record { path = path; name = name; date = codes "1970-01-01 00:00"; size = size }

abbrev row_a : RowTexts
row_a = record { link = codes "/a/"; name = codes "a/"; date = codes "1970-01-01 00:00"; size = codes "[DIR]    " }

a_text : row_text row_a
    ≡ codes "<tr><td><a href=\"/a/\">a/</a></td><td class=\"mono\">1970-01-01 00:00</td>"
    ++ codes "<td class=\"mono\" align=\"right\">[DIR]    </td></tr>"
a_text = refl

a_items : List Item
a_items = map Plain (codes "a/")

a_read : IsRow row_a (page_row (codes "/a/") (codes "a/") (codes "[DIR]    "))
unfolding percent_decode is_utf8 chars lib.Utf8.encode a_items
a_read = record {
  path = record { bytes = refl; decoded = refl; utf8 = refl };
  name = record { unmarked = refl; utf8 = refl; means = record { items = a_items; spells = refl; means = refl } };
  date_is = refl;
  date = refl;
  size_is = refl;
  size = inl refl;
}

abbrev row_b : RowTexts
row_b = record { link = codes "/b%26.txt"; name = codes "b&amp;.txt"; date = codes "1970-01-01 00:00"; size = codes "1.5 KiB" }

b_text : row_text row_b
    ≡ codes "<tr><td><a href=\"/b%26.txt\">b&amp;.txt</a></td><td class=\"mono\">1970-01-01 00:00</td>"
    ++ codes "<td class=\"mono\" align=\"right\">1.5 KiB</td></tr>"
b_text = refl

b_items : List Item
b_items = Plain 98 ∷ Name (codes "amp") ∷ map Plain (codes ".txt")

b_read : IsRow row_b (page_row (codes "/b&.txt") (codes "b&.txt") (codes "1.5 KiB"))
unfolding percent_decode is_utf8 chars lib.Utf8.encode b_items named entities latin symbols special
b_read = record {
  path = record { bytes = refl; decoded = refl; utf8 = refl };
  name = record { unmarked = refl; utf8 = refl; means = record { items = b_items; spells = refl; means = refl } };
  date_is = refl;
  date = refl;
  size_is = refl;
  size = inr (record { whole = codes "1"; fraction = codes ".5"; unit = codes "KiB"; spells = refl; digits = refl; point = refl; named = refl });
}

-- what has no place in a page, and what has although no writer makes it
dates : map is_date (codes "1970-1-01 00:00" ∷ codes "9999-99-99 99:99" ∷ []) ≡ false ∷ true ∷ []
dates = refl

links : map is_link (codes "/a\"b" ∷ codes "/a%4" ∷ codes "/%c3%BC" ∷ []) ≡ false ∷ false ∷ true ∷ []
links = refl

no_page : (p : Page) → IsPage (codes "x") p → ⊥
no_page p is = let e : 120 ≡ 60 = ap (λ t. slice_index_or t 0 0) is.spells in absurd (omega (arith, e))

no_tag : (v : List ℕ) → IsName (codes "<b>") v → ⊥
no_tag v is = let e : true ≡ false = is.unmarked in cc

-- the world with that root; a member of `a` and a hidden file aren't shown
abbrev start : FileTime
start = record { secs = pos 0; nanos = 0 }

abbrev row_of : List (List ℕ) → Kind → ℕ → Row
row_of path kind number = record { path = path; kind = kind; number = number; time = start }

abbrev w : World
w = record {
  tree = row_of [] Dir 1 ∷ row_of (codes "b&.txt" ∷ []) File 3 ∷ row_of (codes "a" ∷ []) Dir 2
      ∷ row_of (codes "a" ∷ codes "deep" ∷ []) File 4 ∷ row_of (codes ".hidden" ∷ []) File 5 ∷ [];
  files = put 3 (Some (record { bytes = replicate 1536 0; time = start })) (λ n. None);
  opens = λ n. None;
  listings = λ n. None;
  greatest = 5;
  latest = start;
  script = [];
}

abbrev root : WebPath
root = record { prefix = []; names = []; slash = true }

abbrev member_a : Member
member_a = record { name = codes "a"; kind = Dir; len = 0; modified = Some start }

abbrev member_b : Member
member_b = record { name = codes "b&.txt"; kind = File; len = 1536; modified = Some start }

seen : filter is_visible (members w []) ≡ member_b ∷ member_a ∷ []
seen = refl

first_minute : IsMinute 0 (codes "1970-01-01 00:00")
unfolding days_from_civil day_count days_of_years days_of_months
first_minute = record {
  year = 1970;
  month = 1;
  day = 1;
  civil = ((omega arith, omega arith), (omega arith, omega arith), (omega arith, omega arith));
  counts = refl;
  spells = refl;
}

-- the last minute whose time is known
last_minute : IsMinute 253402300799 (codes "9999-12-31 23:59")
last_minute = record {
  year = 9999;
  month = 12;
  day = 31;
  civil = ((omega arith, omega arith), (omega arith, omega arith), (omega arith, omega arith));
  counts = days_from_civil-max;
  spells = refl;
}

abbrev listed : List Member
listed = member_a ∷ member_b ∷ []

ascends : (k : ℕ) (d : Member) → 0 ≤ k → k + 1 < 2
    → is_lt (slice_cmp nat_cmp (place_of (slice_index_or listed (k + 1) d)) (place_of (slice_index_or listed k d))) ≡ false
ascends zero d low high = refl
ascends (suc k) d low high = absurd (omega arith)

abbrev rows : List PageRow
rows = page_row (codes "/a/") (codes "a/") (codes "[DIR]    ") ∷ page_row (codes "/b&.txt") (codes "b&.txt") (codes "1.5 KiB") ∷ []

-- they are the rows of the root, by the definition
rows_are : AreRows root (members w []) rows
unfolding digits
rows_are = record {
  listed = listed;
  each_once = record { moves = (0, 1) ∷ []; below = (omega arith, omega arith, tt); is = refl };
  in_order = ascends;
  shown = (
    record { path = refl; name = refl; date = first_minute; size = refl },
    (record { path = refl; name = refl; date = first_minute; size = refl }, tt),
  );
}

-- and its page is read as them
abbrev texts : PageTexts
texts = record { title = codes "/"; crumbs = []; last = None; rows = row_a ∷ row_b ∷ [] }

page : Page
page = record { title = codes "/"; crumbs = []; last = None; rows = rows }

page_read : IsPage (flat_map (λ t. t) (pieces_of texts)) page
unfolding page is_utf8 chars lib.Utf8.encode
page_read = record {
  utf8 = refl;
  texts = texts;
  spells = refl;
  title = record { unmarked = refl; utf8 = refl; means = record { items = Plain 47 ∷ []; spells = refl; means = refl } };
  root = refl;
  crumbs = tt;
  last = tt;
  rows = (a_read, (b_read, tt));
}

page_of_root : IsOf root page
unfolding page percent_encode_byte
page_of_root = record { title = refl; crumbs = refl; last = refl }
