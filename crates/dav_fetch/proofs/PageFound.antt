-- What is found in the rows of a directory's page are the members that they show.
use Rattle.std.proofs.Common.{◌≡◌, ◌++◌, ℕ, List, [], ◌∷◌, Bool, true, false, codes, refl, sym, ap, ◌∙◌, true≢false, append-nil}
use Rattle.std.specs.List.{AllByRecursion, AllZip, flat_map, list_any}
use Rattle.std.proofs.lemmas.List.{append_cancel_left, append_cancel_right}
use Rattle.dav_core.specs.declared.member.Member.{Member}
use Rattle.dav_core.specs.DavPath.{final_slash, slashed}
use Rattle.dav_core.specs.Path.{Names, is_plain, parts_names}
use Rattle.dav_core.specs.Tree.{is_dir}
use Rattle.dav_page.specs.declared.row.PageRow.{PageRow}
use Rattle.dav_page.specs.Listed.{IsRowOf}
use Rattle.dav_fetch.specs.declared.found.Found.{Found}
use Rattle.dav_fetch.specs.Asking.{dir_path}
use Rattle.dav_fetch.specs.Walk.{IsFound, IsMember}
use Rattle.dav_fetch.proofs.Children.{has_slash, no_slash, child_text}

-- a plain name is one thing with a slash behind it, or without
names_once : (a b : List ℕ) (s t : Bool) → is_plain a ≡ true → is_plain b ≡ true → a ++ final_slash s ≡ b ++ final_slash t → (a ≡ b) × (s ≡ t)
names_once a b false false p q e = (sym (append-nil a) ∙ e ∙ append-nil b, refl)
names_once a b true true p q e = (append_cancel_right a b (codes "/") e, refl)
names_once a b true false p q e = absurd (true≢false (sym (has_slash a []) ∙ ap (list_any parts_names) (e ∙ append-nil b) ∙ no_slash b q))
names_once a b false true p q e = absurd (true≢false (sym (has_slash b []) ∙ ap (list_any parts_names) (sym e ∙ append-nil a) ∙ no_slash a p))

same_found : (dir : Names) (m : Member) (row : PageRow) (f : Found) → is_plain m.name ≡ true → IsRowOf (dir_path dir) m row → IsFound dir row f → IsMember f m
same_found dir m row f plain of found =
    let once = names_once f.name m.name f.is_dir (is_dir m.kind) found.plain plain
    (append_cancel_left (flat_map slashed dir ++ codes "/") _ _ (sym (child_text dir f.name f.is_dir) ∙ sym found.path ∙ of.path ∙ child_text dir m.name (is_dir m.kind))) in
    record { name = once.0; is_dir = once.1 }

pub rows_found : (dir : Names) (listed : List Member) (rows : List PageRow) (found : List Found) → AllByRecursion (λ (m : Member). is_plain m.name ≡ true) listed
    → AllZip (IsRowOf (dir_path dir)) listed rows → AllZip (IsFound dir) rows found → AllZip IsMember found listed
rows_found dir [] [] [] plain of is = tt
rows_found dir [] [] (f ∷ fs) plain of is = absurd is
rows_found dir [] (r ∷ rs) found plain of is = absurd of
rows_found dir (m ∷ ms) [] found plain of is = absurd of
rows_found dir (m ∷ ms) (r ∷ rs) [] plain of is = absurd is
rows_found dir (m ∷ ms) (r ∷ rs) (f ∷ fs) plain of is = (same_found dir m r f plain.0 of.0 is.0, rows_found dir ms rs fs plain.1 of.1 is.1)
