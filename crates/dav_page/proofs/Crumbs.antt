-- The names of a heading, and the links to them.
use Rattle.std.proofs.Common.{◌≡◌, ◌+◌, ◌-◌, ◌<◌, ◌≤◌, ◌&&◌, ℕ, true, List, [], ◌∷◌, ◌++◌, None, Some, codes, length, map, option_map, take, get_or, refl, sym, ap, ap₂, ◌∙◌, subst, append_assoc, append-nil, arith}
use Rattle.std.specs.List.{AllZip, flat_map, list_all}
use Rattle.std.specs.Str.{chars, is_utf8}
use Rattle.std.proofs.lemmas.Bool.{and_parts}
use Rattle.std.proofs.lemmas.Grind.{flat_map-append}
use Rattle.std.proofs.lemmas.List.{map-append, take_all, take_more}
use Rattle.std.proofs.lemmas.List.Folds.{list_all-append}
use Rattle.std.proofs.lemmas.Str.{IsUtf8-append, IsUtf8-from_is_utf8, is_utf8-from_IsUtf8}
use Rattle.dav_core.specs.DavPath.{slashed}
use Rattle.dav_core.specs.Path.{Names}
use Rattle.dav_core.proofs.Paths.{last_pushed}
use Rattle.dav_page.specs.Index.{IsHeading, crumbs_at, heading_of, name_text, written_crumb}
use Rattle.dav_page.specs.Listed.{crumbs_from}
use Rattle.dav_page.specs.Pages.{IsCrumb, IsLast, crumb_text, heading_text}
use Rattle.dav_page.proofs.Written.{link_written, name_written}

pub joined_utf8 : (a b : List ℕ) → is_utf8 a ≡ true → is_utf8 b ≡ true → is_utf8 (a ++ b) ≡ true
joined_utf8 a b x y = is_utf8-from_IsUtf8 (a ++ b) (IsUtf8-append a b (IsUtf8-from_is_utf8 a x) (IsUtf8-from_is_utf8 b y))

pub slash_utf8 : is_utf8 (codes "/") ≡ true
unfolding is_utf8 chars lib.Utf8.encode
slash_utf8 = refl

pub slashed_utf8 : (at name : List ℕ) → is_utf8 at ≡ true → is_utf8 name ≡ true → is_utf8 (at ++ slashed name) ≡ true
slashed_utf8 at name x y = joined_utf8 at (slashed name) x (joined_utf8 (codes "/") name slash_utf8 y)

flat_more : {A : Type 0} (f : A → List ℕ) (xs : List A) (x : A) → flat_map f (xs ++ x ∷ []) ≡ flat_map f xs ++ f x
flat_more f xs x = flat_map-append f xs (x ∷ []) ∙ ap (λ t. flat_map f xs ++ t) (append-nil (f x))

crumbs_more : (at : List ℕ) (names : Names) (name : List ℕ)
    → crumbs_at at (names ++ name ∷ []) ≡ crumbs_at at names ++ record { path = (at ++ flat_map slashed names) ++ slashed name; name = name } ∷ []
crumbs_more at [] name = ap (λ a. record { path = a ++ slashed name; name = name } ∷ []) (sym (append-nil at))
crumbs_more at (first ∷ names) name =
    ap (λ l. record { path = at ++ slashed first; name = first } ∷ l)
    (crumbs_more (at ++ slashed first) names name
    ∙ ap (λ a. crumbs_at (at ++ slashed first) names ++ record { path = a ++ slashed name; name = name } ∷ []) (append_assoc at (slashed first) (flat_map slashed names)))

-- the text of the links to some names
abbrev links : Names → List ℕ
links names = flat_map crumb_text (map written_crumb (crumbs_at [] names))

links_more : (names : Names) (name : List ℕ) → links (names ++ name ∷ [])
    ≡ links names ++ crumb_text (written_crumb (record { path = flat_map slashed names ++ slashed name; name = name }))
links_more names name =
    ap (λ l. flat_map crumb_text (map written_crumb l)) (crumbs_more [] names name)
    ∙ ap (flat_map crumb_text) (map-append written_crumb (crumbs_at [] names) (record { path = flat_map slashed names ++ slashed name; name = name } ∷ []))
    ∙ flat_more crumb_text (map written_crumb (crumbs_at [] names)) (written_crumb (record { path = flat_map slashed names ++ slashed name; name = name }))

all_more : (names : Names) (name : List ℕ) → list_all is_utf8 names ≡ true → is_utf8 name ≡ true → list_all is_utf8 (names ++ name ∷ []) ≡ true
all_more names name x y = list_all-append is_utf8 names (name ∷ []) ∙ ap₂ (λ a b. a && (b && true)) x y

-- What is written and known behind some names of a heading.
pub record AreCrumbs (old written at : List ℕ) (names : Names) : Type 0 where
  pub text : written ≡ old ++ flat_map crumb_text (map written_crumb (crumbs_at [] names))
  pub path : at ≡ flat_map slashed names
  pub utf8 : list_all is_utf8 names ≡ true

-- One name more.
pub crumbs_step : (old text path : List ℕ) (names : Names) (name : List ℕ) → AreCrumbs old text path names → is_utf8 name ≡ true
    → AreCrumbs old (text ++ crumb_text (written_crumb (record { path = path ++ slashed name; name = name }))) (path ++ slashed name) (names ++ name ∷ [])
crumbs_step old text path names name are utf8 = record {
  text = ap₂ (λ t p. t ++ crumb_text (written_crumb (record { path = p ++ slashed name; name = name }))) are.text are.path
      ∙ append_assoc old (links names) (crumb_text (written_crumb (record { path = flat_map slashed names ++ slashed name; name = name })))
      ∙ ap (λ t. old ++ t) (sym (links_more names name));
  path = ap (λ p. p ++ slashed name) are.path ∙ sym (flat_more slashed names name);
  utf8 = all_more names name are.utf8 utf8;
}

-- The same along a list.
pub crumbs_next : (old text path : List ℕ) (names : Names) (i : ℕ) (name text₂ path₂ : List ℕ) → i < length names → get_or names i name ≡ name
    → AreCrumbs old text path (take i names) → is_utf8 name ≡ true → path₂ ≡ path ++ slashed name
    → text₂ ≡ text ++ crumb_text (written_crumb (record { path = path₂; name = name })) → AreCrumbs old text₂ path₂ (take (i + 1) names)
crumbs_next old text path names i name text₂ path₂ lt is are utf8 p t =
    rw (t, p, take_more names i name lt, is) (crumbs_step old text path (take i names) name are utf8)

-- The links of a heading are those of all names but the last.
pub crumbs_front : (at : List ℕ) (front : Names) (last : List ℕ) → crumbs_from at (front ++ last ∷ []) ≡ crumbs_at at front
crumbs_front at [] last = refl
crumbs_front at (name ∷ []) last = refl
crumbs_front at (name ∷ next ∷ front) last =
    ap (λ l. record { path = at ++ slashed name; name = name } ∷ l) (crumbs_front (at ++ slashed name) (next ∷ front) last)

pub crumbs_read : (at : List ℕ) (names : Names) → is_utf8 at ≡ true → list_all is_utf8 names ≡ true
    → AllZip IsCrumb (map written_crumb (crumbs_from at names)) (crumbs_from at names)
crumbs_read at [] u all = tt
crumbs_read at (name ∷ []) u all = tt
crumbs_read at (name ∷ next ∷ names) u all =
    let p = and_parts (is_utf8 name) (list_all is_utf8 (next ∷ names)) all in
    let path = slashed_utf8 at name u p.0 in (
      record { path = link_written (at ++ slashed name) path; name = name_written name p.0 },
      crumbs_read (at ++ slashed name) (next ∷ names) path p.1,
    )

nothing_utf8 : is_utf8 [] ≡ true
unfolding is_utf8 chars
nothing_utf8 = refl

-- the heading of the names of a path that isn't the root
pub heading_is : (front : Names) (last : List ℕ) → heading_of (front ++ last ∷ [])
    ≡ heading_text (map written_crumb (crumbs_at [] front)) (Some (name_text last))
heading_is front last = ap₂ (λ l o. heading_text (map written_crumb l) (option_map name_text o)) (crumbs_front [] front last) (last_pushed front last)

-- A reader takes the names and links from it.
pub heading_reads : (front : Names) (last : List ℕ) → list_all is_utf8 front ≡ true → is_utf8 last ≡ true
    → IsHeading (front ++ last ∷ []) (heading_of (front ++ last ∷ []))
heading_reads front last all utf8 = record {
  texts = map written_crumb (crumbs_from [] (front ++ last ∷ []));
  last = Some (name_text last);
  spells = ap (λ o. heading_text (map written_crumb (crumbs_from [] (front ++ last ∷ []))) (option_map name_text o)) (last_pushed front last);
  root = tt;
  crumbs = crumbs_read [] (front ++ last ∷ []) nothing_utf8 (all_more front last all utf8);
  ends = subst (IsLast (Some (name_text last))) (sym (last_pushed front last)) (name_written last utf8);
}

pub root_reads : IsHeading [] (codes "/")
root_reads = record { texts = []; last = None; spells = refl; root = refl; crumbs = tt; ends = tt }

-- the same of no names, and of names with a last one
pub root_at : (names : Names) (text : List ℕ) → length names ≡ 0 → text ≡ codes "/" → IsHeading names text
root_at [] text none e = subst (IsHeading []) (sym e) root_reads
root_at (name ∷ names) text none e = absurd (omega (arith, none))

pub heading_at : (names front : Names) (last : List ℕ) → names ≡ front ++ last ∷ [] → list_all is_utf8 front ≡ true → is_utf8 last ≡ true
    → IsHeading names (heading_of names)
heading_at names front last e all utf8 = subst (λ l. IsHeading l (heading_of l)) (sym e) (heading_reads front last all utf8)

-- What is written of names with a last one is their heading.
pub heading_made : (names front : Names) (last root text name : List ℕ) → names ≡ front ++ last ∷ [] → root ≡ codes "<a href = \"/\">/</a>"
    → text ≡ root ++ flat_map crumb_text (map written_crumb (crumbs_at [] front)) → name ≡ name_text last → text ++ name ≡ heading_of names
heading_made names front last root text name e r t n =
    ap₂ (λ a b. a ++ b) (t ∙ ap (λ a. a ++ links front) r) n ∙ append_assoc (codes "<a href = \"/\">/</a>") (links front) (name_text last)
    ∙ sym (ap heading_of e ∙ heading_is front last)

-- Behind the last name it is that of all.
pub crumbs_whole : (old text path : List ℕ) (names : Names) (i : ℕ) → length names ≤ i → AreCrumbs old text path (take i names)
    → AreCrumbs old text path names
crumbs_whole old text path names i end are = subst (AreCrumbs old text path) (take_all i names end) are
