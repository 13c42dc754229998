-- What a page of a directory shows.
use Rattle.std.specs.Prelude.{◌≡◌, ◌==◌, ◌/◌, ◌%◌, ℕ, List, [], ◌∷◌, ◌++◌, Bool, true, false, not, cond, codes, pos, Option, None, Some}
use Rattle.std.specs.List.{AllByRecursion, AllZip, filter}
use Rattle.std.specs.List.Sorted.{IsPermutation, IsSortedByKey}
use Rattle.std.specs.Cmp.Lexicographic.{slice_cmp}
use Rattle.std.specs.Ordering.{nat_cmp}
use Rattle.httpdate.specs.Text.{two_digits, four_digits}
use Rattle.jiff_core.specs.Calendar.{IsCivilDate, days_from_civil}
use Rattle.dav_core.specs.declared.time.FileTime.{FileTime}
use Rattle.dav_core.specs.DavPath.{WebPath, final_slash, last_name, link_of, shown, slashed}
use Rattle.dav_core.specs.Info.{known, natural}
use Rattle.dav_core.specs.Path.{Names, is_plain}
use Rattle.dav_core.specs.Tree.{is_dir, is_file}
use Rattle.dav_page.specs.declared.row.PageRow.{PageRow}
use Rattle.dav_core.specs.declared.member.Member.{Member}
use Rattle.dav_page.specs.Pages.{Page, Crumb, no_size}
use Rattle.dav_page.specs.Sizes.{shown_size}

abbrev pub begins_with_dot : List ℕ → Bool
begins_with_dot [] = false
begins_with_dot (b ∷ name) = b == 46

-- Names that begin with a dot aren't shown.
abbrev pub is_visible : Member → Bool
is_visible m = not (begins_with_dot m.name)

-- a directory's name ends with a slash
abbrev pub shown_name : Member → List ℕ
shown_name m = m.name ++ final_slash (is_dir m.kind)

-- Its place in the order of pages: directories come first; within a kind the lesser name does, by its bytes.
abbrev pub place_of : Member → List ℕ
place_of m = cond (is_dir m.kind) 0 1 ∷ shown_name m

-- The minute of a second since 1970, by its day in the calendar: `YYYY-MM-DD HH:MM`.
pub record IsMinute (secs : ℕ) (text : List ℕ) : Type 0 where
  pub year : ℕ
  pub month : ℕ
  pub day : ℕ
  pub civil : IsCivilDate (pos year) month day
  pub counts : days_from_civil (pos year) month day ≡ pos (secs / 86400)
  pub spells : text ≡ four_digits year ++ (codes "-" ++ (two_digits month ++ (codes "-" ++ (two_digits day
      ++ (codes " " ++ (two_digits (secs % 86400 / 3600) ++ (codes ":" ++ two_digits (secs % 3600 / 60))))))))

-- the text of a time in UTC; none where the time is unknown
abbrev pub IsDateOf : Option FileTime → List ℕ → Type 0
IsDateOf None text = text ≡ []
IsDateOf (Some time) text = IsMinute (natural time.secs) text

abbrev pub size_of : Member → List ℕ
size_of m = cond (is_file m.kind) (shown_size m.len) no_size

-- the path of a member, with a final slash where it is a directory
abbrev pub path_of : WebPath → Member → WebPath
path_of dir m = record dir { names = dir.names ++ m.name ∷ []; slash = is_dir m.kind }

-- What a reader takes of a member. A time before 1970 or after 9999 is unknown.
pub record IsRowOf (dir : WebPath) (m : Member) (row : PageRow) : Type 0 where
  pub path : row.path ≡ shown (path_of dir m)
  pub name : row.name ≡ shown_name m
  pub date : IsDateOf (known m.modified) row.date
  pub size : row.size ≡ size_of m

-- The rows of a page of this directory: its visible members, each once, in order.
pub record AreRows (dir : WebPath) (all : List Member) (rows : List PageRow) : Type 0 where
  pub listed : List Member
  pub each_once : IsPermutation (filter is_visible all) listed
  pub in_order : IsSortedByKey place_of (slice_cmp nat_cmp) listed
  pub shown : AllZip (IsRowOf dir) listed rows

abbrev pub has_plain_name : Member → Bool
has_plain_name m = is_plain m.name

abbrev pub HasPlainName : Member → Type 0
HasPlainName m = has_plain_name m ≡ true

-- What rows keep, whatever a disk tells: they are of some members with plain names.
abbrev pub AreSound : WebPath → List PageRow → Type 0
AreSound dir rows = (all : List Member) × AllByRecursion HasPlainName all × AreRows dir all rows

-- the links of a heading: each name but the last, and the path to it
abbrev pub crumbs_from : List ℕ → Names → List Crumb
crumbs_from at [] = []
crumbs_from at (name ∷ []) = []
crumbs_from at (name ∷ next ∷ names) =
    record { path = at ++ slashed name; name = name } ∷ crumbs_from (at ++ slashed name) (next ∷ names)

-- the names of a path, those of the prefix first
abbrev pub all_names : WebPath → Names
all_names path = path.prefix ++ path.names

-- The page says which directory it is of: its title is the directory's link, its heading the way there.
pub record IsOf (dir : WebPath) (page : Page) : Type 0 where
  pub title : page.title ≡ link_of (shown dir)
  pub crumbs : page.crumbs ≡ crumbs_from [] (all_names dir)
  pub last : page.last ≡ last_name (all_names dir)
