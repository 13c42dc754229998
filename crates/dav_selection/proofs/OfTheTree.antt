-- A store that shows what its rules say of a told world shows a selection the stock that they find there.
use Rattle.std.proofs.Common.{◌≡◌, ◌++◌, List, [], ◌∷◌, false, Result, Ok, Err, IsOk, refl, sym, subst}
use Rattle.std.specs.List.{AllByRecursion, filter}
use Rattle.std.proofs.lemmas.List.Elements.{All-from_recursion, recursion_from_All}
use Rattle.dav_core.specs.declared.handle.DiskError.{DiskError}
use Rattle.dav_core.specs.declared.member.Member.{Member}
use Rattle.dav_core.specs.declared.parse_error.ParseError.{ParseError}
use Rattle.dav_core.specs.declared.tree.Row.{Row}
use Rattle.dav_core.specs.DavPath.{WebPath}
use Rattle.dav_core.specs.Grammar.{parsed}
use Rattle.dav_core.specs.Listing.{listable, name_of, stands_in}
use Rattle.dav_core.specs.Members.{member_of, members}
use Rattle.dav_core.specs.Path.{Names}
use Rattle.dav_core.specs.Tree.{is_linked, look}
use Rattle.dav_core.specs.World.{IsWorld, World}
use Rattle.dav_store.specs.Members.{ShowsMembers}
use Rattle.dav_store.specs.Reached.{ShowsOn}
use Rattle.dav_store.specs.View.{Listings, View}
use Rattle.dav_model.specs.Finding.{members_or}
use Rattle.dav_local.specs.declared.ways.Ways.{Ways}
use Rattle.dav_local.specs.Ways.{resolved_by}
use Rattle.dav_local.proofs.EntriesTold.{StandsIn, listed_dir, rows_stand}
use Rattle.dav_local_laws.specs.Ruled.{HasFreeMembers, IsFree, members_in, opened_in}
use Rattle.dav_local_laws.proofs.RuledMembers.{member_free}
use Rattle.dav_selection.specs.Reports.{member_path}
use Rattle.dav_selection.specs.Selection.{Selection, queries, follows, refuses}
use Rattle.dav_selection.specs.Shown.{ShowsAt, ShowsBy, ShowsFor}
use Rattle.dav_selection.specs.Told.{IsFreeBy, IsOf, MeetsNoLink, stock_in}
use Rattle.dav_selection.proofs.Selected.{all_map, all_to}

-- no link stands on the way to where a row of this directory is found
abbrev IsFreeAt : Ways → World → Names → Row → Type 0
IsFreeAt ways w names row = IsFree ways w (names ++ name_of row ∷ [])

-- no link stands on the way to rows that stand in the directory that is found
free_rows : (ways : Ways) (w : World) (names : Names) (rows : List Row) → IsFree ways w names → AllByRecursion (StandsIn w.tree (resolved_by ways w.tree names)) rows
    → AllByRecursion (λ row. is_linked w.tree row.path ≡ false) rows → AllByRecursion (IsFreeAt ways w names) rows
free_rows ways w names [] way stand free = tt
free_rows ways w names (row ∷ rows) way stand free = (member_free ways w names row stand.0 free.0 way, free_rows ways w names rows way stand.1 free.1)

free_found : (ways : Ways) (w : World) (names : Names) (found : Result Row DiskError) (all : List Member) → found ≡ listable (look w.tree (resolved_by ways w.tree names))
    → members_or w (resolved_by ways w.tree names) found ≡ Ok all → IsWorld w → HasFreeMembers ways w names
    → AllByRecursion (λ (m : Member). IsFree ways w (names ++ m.name ∷ [])) all
free_found ways w names (Err e) all is told world links = cc
free_found ways w names (Ok row) all is told world links =
    let dir = resolved_by ways w.tree names in
    let rows = filter (stands_in dir) w.tree in
    let at = listed_dir (look w.tree dir) (subst IsOk is refl) in
    let same : members w dir ≡ all = cc in
    subst (AllByRecursion (λ (m : Member). IsFree ways w (names ++ m.name ∷ []))) same
    (all_to (λ (m : Member). IsFree ways w (names ++ m.name ∷ [])) (member_of w) rows
    (free_rows ways w names rows links.way (rows_stand w.tree dir at.row world.tree at.is) links.rows))

module _ {S C F L E : Type 0} (view : View S C F) (lists : Listings S C L E) (s : S) (c : C) (ways : Ways) (w : World)
    (files : (path : WebPath) → IsFree ways w path.names → ShowsOn view lists s c path (opened_in ways w path)) where
  led_by : (path : Result WebPath ParseError) → IsFreeBy ways w path → ShowsBy view lists s c (stock_in ways w) path
  led_by (Ok path) free = files path free
  led_by (Err e) free = tt

  pub tree_shown : (dir : WebPath) (q : Selection) → IsWorld w → (HasFreeMembers ways w dir.names → ShowsMembers view lists s c dir (members_in ways w dir))
      → IsOf dir q → MeetsNoLink ways w q
      → ShowsFor view lists s c (stock_in ways w) q
  tree_shown dir (queries q) world lists_so is links = record {
    members =
        subst (λ (d : WebPath). ShowsMembers view lists s c d (members_in ways w d)) (sym is) (lists_so (subst (λ (d : WebPath). HasFreeMembers ways w d.names) is links));
    files = λ all told. All-from_recursion (λ m. ShowsAt view lists s c (stock_in ways w) (member_path q.dir m)) all
        (all_map (λ (m : Member). IsFree ways w (q.dir.names ++ m.name ∷ [])) (λ m. ShowsAt view lists s c (stock_in ways w) (member_path q.dir m)) all
        (λ m free. files (member_path q.dir m) free) (free_found ways w q.dir.names (listable (look w.tree (resolved_by ways w.tree q.dir.names))) all refl told world links));
  }
  tree_shown dir (follows asked) world lists_so is links =
      All-from_recursion (λ href. ShowsBy view lists s c (stock_in ways w) (parsed href asked.prefix)) asked.hrefs
      (all_map (λ href. IsFreeBy ways w (parsed href asked.prefix)) (λ href. ShowsBy view lists s c (stock_in ways w) (parsed href asked.prefix)) asked.hrefs
      (λ href free. led_by (parsed href asked.prefix) free) (recursion_from_All (λ href. IsFreeBy ways w (parsed href asked.prefix)) asked.hrefs links))
  tree_shown dir (refuses e) world lists_so is links = tt
