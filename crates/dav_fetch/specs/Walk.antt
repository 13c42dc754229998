-- How the pages are asked, and what is found in them.
use Rattle.std.specs.Prelude.{◌≡◌, ◌≤◌, ℕ, List, [], ◌∷◌, ◌++◌, length, drop, cond, Bool, true, Option}
use Rattle.std.specs.List.{AllZip, list_any}
use Rattle.dav_io.specs.declared.fields.Field.{Field}
use Rattle.dav_core.specs.DavPath.{WebPath, final_slash, shown}
use Rattle.dav_core.specs.Path.{Names, is_plain, same_names}
use Rattle.dav_core.specs.declared.member.Member.{Member}
use Rattle.dav_core.specs.Tree.{is_dir}
use Rattle.dav_core.specs.World.{World}
use Rattle.dav_page.specs.declared.row.PageRow.{PageRow}
use Rattle.dav_page.specs.Pages.{Page, IsPage}
use Rattle.dav_fetch.specs.declared.peer.Got.{Got}
use Rattle.dav_fetch.specs.declared.found.Found.{Found}
use Rattle.dav_fetch.specs.Asking.{dir_path}

-- A reply that was read: what was asked, of which world it is, where the peer tells, and which bytes came of its body.
pub record Visit : Type 0 where
  pub path : WebPath
  pub asked : List Field
  pub world : Option World
  pub got : Got
  pub came : List ℕ

-- A plain name, and a slash behind it for a directory.
pub record IsName (text name : List ℕ) (is_dir : Bool) : Type 0 where
  pub plain : is_plain name ≡ true
  pub spells : text ≡ name ++ final_slash is_dir

-- The row's path is this text, and such a name behind it.
abbrev pub IsIn : List ℕ → PageRow → Found → Type 0
IsIn dir row found = (text : List ℕ) × (row.path ≡ dir ++ text) × IsName text found.name found.is_dir

-- The row's path is the directory's, one plain name, and a slash for a directory.
pub record IsFound (dir : Names) (row : PageRow) (found : Found) : Type 0 where
  pub plain : is_plain found.name ≡ true
  pub path : row.path ≡ shown (record { prefix = []; names = dir ++ found.name ∷ []; slash = found.is_dir })

-- The text is a page, whose rows name these.
pub record IsFoundIn (dir : Names) (text : List ℕ) (found : List Found) : Type 0 where
  pub page : Page
  pub is : IsPage text page
  pub rows : AllZip (IsFound dir) page.rows found

-- What is found in a row is the member that it shows.
pub record IsMember (found : Found) (m : Member) : Type 0 where
  pub name : found.name ≡ m.name
  pub is_dir : found.is_dir ≡ is_dir m.kind

-- how far the pages are read: the directories that are due, in the order of finding, all that were found, and the files,
-- as often as a page names them
pub record Way : Type 0 where
  pub due : List Names
  pub dirs : List Names
  pub files : List Names

abbrev pub start : Way
start = record { due = [] ∷ []; dirs = []; files = [] }

abbrev pub is_among : Names → List Names → Bool
is_among path paths = list_any (same_names path) paths

-- the path behind the others, unless it is among them
abbrev pub with_new : Names → List Names → List Names
with_new path paths = cond (is_among path paths) paths (paths ++ path ∷ [])

abbrev pub with_each : List Names → List Names → List Names
with_each paths [] = paths
with_each paths (path ∷ more) = with_each (with_new path paths) more

-- each of them once, at its first place
abbrev pub each_once : List Names → List Names
each_once paths = with_each [] paths

-- the paths of the directories, and of the files, that are found in a directory
abbrev pub dirs_on : Names → List Found → List Names
dirs_on dir [] = []
dirs_on dir (found ∷ more) = cond found.is_dir ((dir ++ found.name ∷ []) ∷ dirs_on dir more) (dirs_on dir more)

abbrev pub files_on : Names → List Found → List Names
files_on dir [] = []
files_on dir (found ∷ more) = cond found.is_dir (files_on dir more) ((dir ++ found.name ∷ []) ∷ files_on dir more)

-- A page puts the directories that it names behind those that are due, each once. Names of two directories never meet.
abbrev pub with_all : Names → List Found → Way → Way
with_all dir found way = record {
  due = way.due ++ each_once (dirs_on dir found);
  dirs = way.dirs ++ each_once (dirs_on dir found);
  files = way.files ++ files_on dir found;
}

-- the most bytes of a page
abbrev pub page_most : ℕ
page_most = 16777216

-- A page of this directory was read whole, and names these.
pub record IsPageOf (dir : Names) (visit : Visit) (names : List Found) : Type 0 where
  pub path : visit.path ≡ dir_path dir
  pub asked : visit.asked ≡ []
  pub status : visit.got.status ≡ 200
  pub fits : length visit.came ≤ page_most
  pub found : IsFoundIn dir visit.came names

-- the pages in their order
abbrev pub Pages : Way → List Visit → Way → Type 0
Pages way [] end = end ≡ way
Pages way (visit ∷ visits) end = (dir : Names) × (rest : List Names) × (found : List Found) × (way.due ≡ dir ∷ rest)
    × IsPageOf dir visit found × Pages (with_all dir found (record way { due = rest })) visits end

-- the way of a list of directories, the root first, of which so many are read
abbrev pub way_of : ℕ → List Names → List Names → Way
way_of read dirs files = record { due = drop read dirs; dirs = drop 1 dirs; files = files }
