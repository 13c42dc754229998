-- Where the rows of members with plain names lead.
use Rattle.std.proofs.Common.{◌≡◌, ℕ, false, List, [], ◌∷◌, ◌++◌, sym, ap, ◌∙◌, append_assoc, append-nil}
use Rattle.std.specs.List.{AllByRecursion, AllZip, flat_map}
use Rattle.std.proofs.lemmas.Grind.{flat_map-append}
use Rattle.dav_core.specs.declared.member.Member.{Member}
use Rattle.dav_core.specs.DavPath.{WebPath, final_slash, shown, slashed}
use Rattle.dav_core.specs.Path.{Names}
use Rattle.dav_core.specs.Tree.{is_dir}
use Rattle.dav_page.specs.declared.row.PageRow.{PageRow}
use Rattle.dav_page.specs.Index.{LeadsInside}
use Rattle.dav_page.specs.Listed.{AreSound, HasPlainName, IsRowOf, path_of}
use Rattle.dav_page.proofs.PageMade.{plain_listed}

one_more : (names : Names) (name end : List ℕ)
    → flat_map slashed (names ++ name ∷ []) ++ end ≡ (flat_map slashed names ++ []) ++ (slashed name ++ end)
one_more names name end =
    ap (λ t. t ++ end) (flat_map-append slashed names (name ∷ []) ∙ ap (λ t. flat_map slashed names ++ t) (append-nil (slashed name)))
    ∙ append_assoc (flat_map slashed names) (slashed name) end ∙ ap (λ t. t ++ (slashed name ++ end)) (sym (append-nil (flat_map slashed names)))

member_inside : (dir : WebPath) (m : Member)
    → shown (path_of dir m) ≡ shown (record dir { slash = false }) ++ (slashed m.name ++ final_slash (is_dir m.kind))
member_inside dir m =
    ap (λ t. flat_map slashed dir.prefix ++ t) (one_more dir.names m.name (final_slash (is_dir m.kind)))
    ∙ sym (append_assoc (flat_map slashed dir.prefix) (flat_map slashed dir.names ++ []) (slashed m.name ++ final_slash (is_dir m.kind)))

each_inside : (dir : WebPath) (listed : List Member) (rows : List PageRow) → AllByRecursion HasPlainName listed → AllZip (IsRowOf dir) listed rows
    → AllByRecursion (LeadsInside dir) rows
each_inside dir [] [] plain zip = tt
each_inside dir [] (row ∷ rows) plain zip = elim zip [ ]
each_inside dir (m ∷ listed) [] plain zip = elim zip [ ]
each_inside dir (m ∷ listed) (row ∷ rows) plain zip = (
  record { name = m.name; plain = plain.0; ends = is_dir m.kind; path = zip.0.path ∙ member_inside dir m },
  each_inside dir listed rows plain.1 zip.1,
)

pub rows_inside : (dir : WebPath) (rows : List PageRow) → AreSound dir rows → AllByRecursion (LeadsInside dir) rows
rows_inside dir rows sound = each_inside dir sound.2.listed rows (plain_listed sound.0 sound.2.listed sound.1 sound.2.each_once) sound.2.shown
