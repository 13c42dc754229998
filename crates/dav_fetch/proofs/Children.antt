-- The path of a member, as its directory's page spells it.
use Rattle.std.proofs.Common.{◌≡◌, ◌<◌, ◌+◌, ◌==◌, zero, suc, ◌++◌, ◌∷◌, [], ℕ, List, Bool, true, false, not, length, take, get_or, refl, sym, ap, subst, ◌∙◌, arith, append_assoc, append-nil, codes, true≢false}
use Rattle.std.proofs.lemmas.Bool.{and_parts, not-true, or_right}
use Rattle.std.proofs.lemmas.List.{append_cancel_right}
use Rattle.std.proofs.Math.Seq.{take-suc}
use Rattle.std.specs.List.{flat_map, list_any, AllZip}
use Rattle.dav_io.proofs.Ends.{zip_push}
use Rattle.dav_core.specs.DavPath.{final_slash, shown, slashed}
use Rattle.dav_core.specs.Path.{Names, is_dots, is_plain, parts_names}
use Rattle.dav_page.specs.declared.row.PageRow.{PageRow}
use Rattle.dav_fetch.specs.declared.found.Found.{Found}
use Rattle.dav_fetch.specs.Asking.{dir_path}
use Rattle.dav_fetch.specs.Walk.{IsFound, IsIn, IsName}

pub slashed_behind : (dir : Names) (name : List ℕ) → flat_map slashed (dir ++ name ∷ []) ≡ (flat_map slashed dir ++ codes "/") ++ name
slashed_behind [] name = append-nil (slashed name)
slashed_behind (d ∷ dir) name =
    ap (λ z. slashed d ++ z) (slashed_behind dir name)
    ∙ sym (append_assoc (slashed d) (flat_map slashed dir ++ codes "/") name) ∙ ap (λ z. z ++ name) (sym (append_assoc (slashed d) (flat_map slashed dir) (codes "/")))

pub found_is : (dir : Names) (row : PageRow) (found : Found) → IsIn (shown (dir_path dir)) row found → IsFound dir row found
found_is dir row found (text, path, name) = record {
  plain = name.plain;
  path = path ∙ ap (λ z. (flat_map slashed dir ++ codes "/") ++ z) name.spells
      ∙ sym (append_assoc (flat_map slashed dir ++ codes "/") found.name (final_slash found.is_dir))
      ∙ ap (λ z. z ++ final_slash found.is_dir) (sym (slashed_behind dir found.name));
}

-- one more of the first list, and its fellow
pub zip_step : {A B : Type 0} (R : A → B → Type 0) (xs : List A) (k : ℕ) (d x : A) (ys : List B) (y : B) → k < length xs → get_or xs k d ≡ x → AllZip R (take k xs) ys → R x y → AllZip R (take (k + 1) xs) (ys ++ y ∷ [])
zip_step R xs k d x ys y inside is z r =
    subst (λ n. AllZip R (take n xs) (ys ++ y ∷ [])) (next k)
    (subst (λ t. AllZip R t (ys ++ y ∷ [])) (ap (λ e. take k xs ++ e ∷ []) (sym is) ∙ sym (take-suc xs k d inside)) (zip_push R (take k xs) ys x y z r))
  where
    next : (k : ℕ) → suc k ≡ k + 1
    next k = omega arith

pub child_text : (dir : Names) (name : List ℕ) (slash : Bool) → shown (record { prefix = []; names = dir ++ name ∷ []; slash = slash }) ≡ (flat_map slashed dir ++ codes "/") ++ (name ++ final_slash slash)
child_text dir name slash = ap (λ z. z ++ final_slash slash) (slashed_behind dir name) ∙ append_assoc (flat_map slashed dir ++ codes "/") name (final_slash slash)

-- and the other way
pub is_in : (dir : Names) (row : PageRow) (found : Found) → IsFound dir row found → IsIn (shown (dir_path dir)) row found
is_in dir row found is = (found.name ++ final_slash found.is_dir, is.path ∙ child_text dir found.name found.is_dir, record { plain = is.plain; spells = refl })

-- each of the first list has its fellow
pub zip_fellow : {A B : Type 0} (R : A → B → Type 0) (xs : List A) (ys : List B) (k : ℕ) (d : A) → AllZip R xs ys → k < length xs → (y : B) × R (get_or xs k d) y
zip_fellow R [] ys k d z inside = absurd (omega (arith, inside))
zip_fellow R (x ∷ xs) [] k d z inside = absurd z
zip_fellow R (x ∷ xs) (y ∷ ys) zero d z inside = (y, z.0)
zip_fellow R (x ∷ xs) (y ∷ ys) (suc k) d z inside = zip_fellow R xs ys k d z.1 (omega (arith, inside))

-- ---- texts that are no names

pub has_slash : (a b : List ℕ) → list_any parts_names (a ++ 47 ∷ b) ≡ true
has_slash [] b = refl
has_slash (x ∷ a) b = or_right (parts_names x) (list_any parts_names (a ++ 47 ∷ b)) (has_slash a b)

pub no_slash : (name : List ℕ) → is_plain name ≡ true → list_any parts_names name ≡ false
no_slash name plain = not-true _ (and_parts (not (list_any parts_names name)) (not (is_dots name)) (and_parts (not (length name == 0)) _ plain).1).0

slash_clash : (name a b : List ℕ) → is_plain name ≡ true → name ≡ a ++ 47 ∷ b → ⊥
slash_clash name a b plain e = true≢false (sym (has_slash a b) ∙ ap (list_any parts_names) (sym e) ∙ no_slash name plain)

-- What stands before a final slash isn't plain.
pub no_dir : (rest name : List ℕ) → rest ≡ name ++ codes "/" → is_plain name ≡ false → (found : Found) → IsName rest found.name found.is_dir → ⊥
no_dir rest name parts plain found is = by found.is_dir (sym is.spells ∙ parts)
  where
    by : (d : Bool) → found.name ++ final_slash d ≡ name ++ codes "/" → ⊥
    by false e = slash_clash found.name name [] is.plain (sym (append-nil found.name) ∙ e)
    by true e = true≢false (sym is.plain ∙ ap is_plain (append_cancel_right found.name name (codes "/") e) ∙ plain)

-- Without a final slash the whole of it isn't plain.
pub no_file : (rest : List ℕ) → ((front : List ℕ) → rest ≡ front ++ codes "/" → ⊥) → is_plain rest ≡ false → (found : Found) → IsName rest found.name found.is_dir → ⊥
no_file rest none plain found is = by found.is_dir is.spells
  where
    by : (d : Bool) → rest ≡ found.name ++ final_slash d → ⊥
    by false e = true≢false (sym is.plain ∙ ap is_plain (sym (append-nil found.name) ∙ sym e) ∙ plain)
    by true e = none found.name e
