-- What the page of a directory of a world names: the rows that are shown there, each under its name.
use Rattle.std.proofs.Common.{◌≡◌, inl, inr, ◌++◌, ℕ, List, [], ◌∷◌, Bool, true, false, cond, length, not, map, refl, sym, ap, subst, ◌∙◌}
use Rattle.std.specs.List.{AllByRecursion, AllZip, filter, flat_map}
use Rattle.std.specs.List.Sorted.{IsPermutation}
use Rattle.std.proofs.lemmas.Bool.{and_parts, not-true}
use Rattle.std.proofs.lemmas.List.Folds.{list_all-append}
use Rattle.std.proofs.lemmas.List.Sorted.{IsPermutation-sym}
use Rattle.dav_core.specs.declared.member.Member.{Member}
use Rattle.dav_core.specs.declared.tree.Row.{Row}
use Rattle.dav_core.specs.Listing.{name_of, stands_in}
use Rattle.dav_core.specs.Members.{member_of, members}
use Rattle.dav_core.specs.Path.{Names, all_plain, is_plain}
use Rattle.dav_core.specs.Tree.{is_dir}
use Rattle.dav_core.specs.World.{ArePlain, IsPlain, IsWorld, World, bytes_of}
use Rattle.dav_core.proofs.Rows.{name_pushed, stands_there, path_in, numbered_in}
use Rattle.dav_page.specs.declared.row.PageRow.{PageRow}
use Rattle.dav_page.specs.Index.{IsIndex}
use Rattle.dav_page.specs.Listed.{AreRows, IsRowOf, begins_with_dot, is_visible}
use Rattle.dav_page.specs.Pages.{IsPage, Page}
use Rattle.dav_page.proofs.PageOnce.{page_once}
use Rattle.dav_fetch.specs.declared.found.Found.{Found}
use Rattle.dav_fetch.specs.Asking.{dir_path}
use Rattle.dav_fetch.specs.Copy.{IsOf}
use Rattle.dav_fetch.specs.Mirroring.{ShowsSame}
use Rattle.dav_fetch.specs.Walk.{IsFound, IsFoundIn, IsMember}
use Rattle.dav_fetch.proofs.Among.{each_by, of_filter, of_map, to_filter, to_map, zip_left, zip_right}
use Rattle.dav_fetch.proofs.Orders.{of_moved, place_of}
use Rattle.dav_fetch.proofs.PageFound.{rows_found}

-- ---- worlds that show the same

rows_same : (v w : World) (f : Row → Bool) (rows : List Row) → ((row : Row) → IsOf row rows → bytes_of v row.number ≡ bytes_of w row.number) → map (member_of v) (filter f rows) ≡ map (member_of w) (filter f rows)
rows_same v w f [] same = refl
rows_same v w f (r ∷ rows) same = by (f r) (rows_same v w f rows (λ row o. same row (inr o)))
  where
    first : member_of v r ≡ member_of w r
    first = ap (λ (bytes : List ℕ). record (member_of w r) { len = length bytes }) (same r (inl refl))

    by : (t : Bool) → map (member_of v) (filter f rows) ≡ map (member_of w) (filter f rows)
        → map (member_of v) (cond t (r ∷ filter f rows) (filter f rows)) ≡ map (member_of w) (cond t (r ∷ filter f rows) (filter f rows))
    by true rest = ap (λ m. m ∷ map (member_of v) (filter f rows)) first ∙ ap (λ ms. member_of w r ∷ ms) rest
    by false rest = rest

pub members_same : (w v : World) (dir : Names) → ShowsSame w v → members v dir ≡ members w dir
members_same w v dir same =
    ap (λ t. map (member_of v) (filter (stands_in dir) t)) same.tree
    ∙ rows_same v w (stands_in dir) w.tree (λ row o. same.bytes row.number (numbered_in w.tree row o))

-- ---- rows with names

-- It names a row in the directory, which is shown.
pub record NamesRow (tree : List Row) (dir : Names) (f : Found) : Type 0 where
  pub row : Row
  pub of : IsOf row tree
  pub path : row.path ≡ dir ++ f.name ∷ []
  pub visible : begins_with_dot f.name ≡ false
  pub kind : f.is_dir ≡ is_dir row.kind

pub record IsListing (tree : List Row) (dir : Names) (found : List Found) : Type 0 where
  pub from : (f : Found) → IsOf f found → NamesRow tree dir f
  pub all : (row : Row) (name : List ℕ) → IsOf row tree → row.path ≡ dir ++ name ∷ [] → begins_with_dot name ≡ false
      → (f : Found) × IsOf f found × (f.name ≡ name) × (f.is_dir ≡ is_dir row.kind)

-- a member that is shown, and its row
record MemberRow (w : World) (dir : Names) (m : Member) : Type 0 where
  pub row : Row
  pub of : IsOf row w.tree
  pub stands : stands_in dir row ≡ true
  pub is : m ≡ member_of w row
  pub visible : begins_with_dot m.name ≡ false

member_row : (w : World) (dir : Names) (listed : List Member) (m : Member) → IsPermutation (filter is_visible (members w dir)) listed → IsOf m listed → MemberRow w dir m
member_row w dir listed m order is =
    let (among, visible) = of_filter is_visible m (members w dir) (of_moved (filter is_visible (members w dir)) listed m order is) in
    let (row, there, same) = of_map (member_of w) m (filter (stands_in dir) w.tree) among in
    let (of, stands) = of_filter (stands_in dir) row w.tree there in
    record { row = row; of = of; stands = stands; is = same; visible = not-true (begins_with_dot m.name) visible }

row_member : (w : World) (dir : Names) (listed : List Member) (row : Row) (name : List ℕ) → IsPermutation (filter is_visible (members w dir)) listed → IsOf row w.tree → row.path ≡ dir ++ name ∷ []
    → begins_with_dot name ≡ false → IsOf (member_of w row) listed
row_member w dir listed row name order of path visible =
    of_moved listed (filter is_visible (members w dir)) (member_of w row) (IsPermutation-sym (filter is_visible (members w dir)) listed order)
    (to_filter is_visible (member_of w row) (members w dir)
    (to_map (member_of w) row (filter (stands_in dir) w.tree) (to_filter (stands_in dir) row w.tree of (stands_there dir name row path)))
    (ap not (ap begins_with_dot (name_pushed dir name row path) ∙ visible)))

plain_name : (w : World) (dir : Names) (row : Row) → ArePlain w.tree → IsOf row w.tree → stands_in dir row ≡ true → is_plain (name_of row) ≡ true
plain_name w dir row plain of stands =
    let (i, inside, is) = place_of row w.tree of in
    let here : all_plain row.path ≡ true = subst IsPlain (is row) (plain i row inside) in
    let both = and_parts (all_plain dir) (all_plain (name_of row ∷ [])) (sym (list_all-append is_plain dir (name_of row ∷ [])) ∙ ap all_plain (sym (path_in dir row stands)) ∙ here) in
    (and_parts (is_plain (name_of row)) true both.1).0

-- what a page's rows name, by its members
zip_listing : (w : World) (dir : Names) (listed : List Member) (found : List Found) → IsPermutation (filter is_visible (members w dir)) listed → AllZip IsMember found listed → IsListing w.tree dir found
zip_listing w dir listed found order zip = record {
  from = λ f is.
      (let (m, of, member) = zip_left IsMember found listed f zip is in
      let r = member_row w dir listed m order of in
      let named : f.name ≡ name_of r.row = member.name ∙ ap (λ (x : Member). x.name) r.is in
      record {
        row = r.row;
        of = r.of;
        path = path_in dir r.row r.stands ∙ ap (λ n. dir ++ n ∷ []) (sym named);
        visible = ap begins_with_dot member.name ∙ r.visible;
        kind = member.is_dir ∙ ap (λ (x : Member). is_dir x.kind) r.is;
      });
  all = λ row name of path visible.
      (let (f, is, member) = zip_right IsMember found listed (member_of w row) zip (row_member w dir listed row name order of path visible) in
      (f, is, member.name ∙ name_pushed dir name row path, member.is_dir));
}

-- The page of a directory of a world names what is shown there.
pub page_listing : (w : World) (dir : Names) (texts : List (List ℕ)) (came : List ℕ) (found : List Found) → IsWorld w → came ≡ flat_map (λ t. t) texts
    → IsIndex (dir_path dir) (AreRows (dir_path dir) (members w dir)) texts → IsFoundIn dir came found → IsListing w.tree dir found
page_listing w dir texts came found world is index in_page =
    let once : in_page.page ≡ index.page = page_once came in_page.page index.page in_page.is (subst (λ t. IsPage t index.page) (sym is) index.reads) in
    let rows : AllZip (IsFound dir) index.page.rows found = subst (λ (p : Page). AllZip (IsFound dir) p.rows found) once in_page.rows in
    let plain = each_by (λ (m : Member). is_plain m.name ≡ true) index.rows.listed
    (λ m of. (let r = member_row w dir index.rows.listed m index.rows.each_once of in ap (λ (x : Member). is_plain x.name) r.is ∙ plain_name w dir r.row world.plain r.of r.stands)) in
    zip_listing w dir index.rows.listed found index.rows.each_once (rows_found dir index.rows.listed index.page.rows found plain index.rows.shown rows)

-- And something is found there.
found_rows : (dir : Names) (listed : List Member) (rows : List PageRow) → AllByRecursion (λ (m : Member). is_plain m.name ≡ true) listed → AllZip (IsRowOf (dir_path dir)) listed rows
    → (found : List Found) × AllZip (IsFound dir) rows found
found_rows dir [] [] plain zip = ([], tt)
found_rows dir [] (r ∷ rows) plain zip = absurd zip
found_rows dir (m ∷ ms) [] plain zip = absurd zip
found_rows dir (m ∷ ms) (r ∷ rows) plain zip =
    let (found, more) = found_rows dir ms rows plain.1 zip.1 in
    (record { name = m.name; is_dir = is_dir m.kind } ∷ found, (record { plain = plain.0; path = zip.0.path }, more))

pub page_found : (w : World) (dir : Names) (texts : List (List ℕ)) (came : List ℕ) → IsWorld w → came ≡ flat_map (λ t. t) texts
    → IsIndex (dir_path dir) (AreRows (dir_path dir) (members w dir)) texts → (found : List Found) × IsFoundIn dir came found
page_found w dir texts came world is index =
    let plain = each_by (λ (m : Member). is_plain m.name ≡ true) index.rows.listed
    (λ m of. (let r = member_row w dir index.rows.listed m index.rows.each_once of in ap (λ (x : Member). is_plain x.name) r.is ∙ plain_name w dir r.row world.plain r.of r.stands)) in
    let (found, rows) = found_rows dir index.rows.listed index.page.rows plain index.rows.shown in
    (found, record { page = index.page; is = subst (λ t. IsPage t index.page) (sym is) index.reads; rows = rows })
