-- The texts of a page don't have the byte that ends them.
use Rattle.std.proofs.Common.{◌≡◌, inl, inr, ◌==◌, ◌&&◌, ◌||◌, ℕ, Bool, true, false, List, [], ◌∷◌, ◌++◌, codes, refl, sym, ap, ap₂, ◌∙◌, subst, arith}
use Rattle.std.specs.List.{list_any, list_all, AllByRecursion}
use Rattle.std.specs.Char.{is_digit}
use Rattle.std.specs.Cmp.Lexicographic.{pointwise}
use Rattle.std.specs.Str.{bytes_eq}
use Rattle.std.proofs.lemmas.Bool.{and_parts, or_parts}
use Rattle.std.proofs.lemmas.Bool.Decides.{Decides-eqb, nat_tests}
use Rattle.std.proofs.lemmas.List.Folds.{list_any-append}
use Rattle.std.proofs.lemmas.Slice.Eq.{bytes_eq-Decides}
use Rattle.htmlescape.specs.Grammar.{are_digits}
use Rattle.dav_page.specs.declared.row.PageRow.{PageRow}
use Rattle.dav_page.specs.Cuts.{IsCrumbFront, IsFreeOf, IsRowFront}
use Rattle.dav_page.specs.Pages.{Crumb, CrumbTexts, IsCrumb, IsName, IsRow, IsSize, IsTitle, Lacks, RowTexts, crumb_text, fits, has_two_digits, is_date, is_fraction, is_link, is_link_byte, is_unit, row_text}

quote_stops : (b : ℕ) (t : Bool) → (is_link_byte b || ((b == 37) && t)) ≡ true → (b == 34) ≡ false
quote_stops b t e = grind (arith, nat_tests)

-- A link has no quotation mark.
pub link_free : (link : List ℕ) → is_link link ≡ true → IsFreeOf 34 link
link_free [] e = refl
link_free (b ∷ rest) e =
    let p = and_parts (is_link_byte b || ((b == 37) && has_two_digits rest)) (is_link rest) e in
    ap₂ (λ x y. x || y) (quote_stops b (has_two_digits rest) p.0) (link_free rest p.1)

-- A text without some marks has none of the first of them.
pub mark_free : (first : ℕ) (marks text : List ℕ) → Lacks (first ∷ marks) text → IsFreeOf first text
mark_free first marks [] e = refl
mark_free first marks (c ∷ text) e =
    let p = or_parts (list_any (λ m. c == m) (first ∷ marks)) (list_any (λ d. list_any (λ m. d == m) (first ∷ marks)) text) e in
    ap₂ (λ x y. x || y) (or_parts (c == first) (list_any (λ m. c == m) marks) p.0).0 (mark_free first marks text p.1)

-- A text without a mark lacks it.
pub free_lacks : (mark : ℕ) (text : List ℕ) → IsFreeOf mark text → Lacks (mark ∷ []) text
free_lacks mark [] e = refl
free_lacks mark (c ∷ text) e =
    let p = or_parts (c == mark) (list_any (λ b. b == mark) text) e in
    ap₂ (λ x y. x || y) (ap (λ t. t || false) p.0) (free_lacks mark text p.1)

pub name_free : (text name : List ℕ) → IsName text name → IsFreeOf 60 text
name_free text name is = mark_free 60 (codes ">\"") text is.unmarked

pub title_free : (text title : List ℕ) → IsTitle text title → IsFreeOf 60 text
title_free text title is = mark_free 60 [] text is.unmarked

fits_apart : (f b : ℕ) → fits f b ≡ true → fits f 60 ≡ false → (b == 60) ≡ false
fits_apart f b e none = grind (arith, nat_tests)

form_free : (form text : List ℕ) → list_any (λ f. fits f 60) form ≡ false → pointwise fits form text ≡ true → IsFreeOf 60 text
form_free [] [] none e = refl
form_free [] (b ∷ text) none e = cc
form_free (f ∷ form) [] none e = cc
form_free (f ∷ form) (b ∷ text) none e =
    let n = or_parts (fits f 60) (list_any (λ g. fits g 60) form) none in
    let p = and_parts (fits f b) (pointwise fits form text) e in
    ap₂ (λ x y. x || y) (fits_apart f b p.0 n.0) (form_free form text n.1 p.1)

pub date_free : (text : List ℕ) → is_date text ≡ true → IsFreeOf 60 text
date_free [] e = refl
date_free (b ∷ text) e = form_free (codes "0000-00-00 00:00") (b ∷ text) refl e

-- Digits have no byte that isn't one.
pub digits_free : (stop : ℕ) (digits : List ℕ) → is_digit stop 10 ≡ false → list_all (λ c. is_digit c 10) digits ≡ true → IsFreeOf stop digits
digits_free stop [] none e = refl
digits_free stop (b ∷ digits) none e =
    let p = and_parts (is_digit b 10) (list_all (λ c. is_digit c 10) digits) e in
    ap₂ (λ x y. x || y) (other (b == stop) refl p.0) (digits_free stop digits none p.1)
  where
    other : (t : Bool) → (b == stop) ≡ t → is_digit b 10 ≡ true → (b == stop) ≡ false
    other true same d =
        let bad : true ≡ false = sym d ∙ (ap (λ c. is_digit c 10) ((Decides-eqb b stop).0 same) ∙ none) in cc
    other false same d = same

pub are_digits_free : (stop : ℕ) (digits : List ℕ) → is_digit stop 10 ≡ false → are_digits 10 digits ≡ true → IsFreeOf stop digits
are_digits_free stop digits none e = digits_free stop digits none (and_parts _ (list_all (λ c. is_digit c 10) digits) e).1

point_apart : (b stop : ℕ) → (b == 46) ≡ true → (46 == stop) ≡ false → (b == stop) ≡ false
point_apart b stop e none = grind (arith, nat_tests)

-- A fraction has neither a byte that is no digit and no point.
pub fraction_free : (stop : ℕ) (fraction : List ℕ) → is_digit stop 10 ≡ false → (46 == stop) ≡ false → is_fraction fraction ≡ true
    → IsFreeOf stop fraction
fraction_free stop [] none apart e = refl
fraction_free stop (b ∷ digits) none apart e =
    let p = and_parts (b == 46) _ e in
    ap₂ (λ x y. x || y) (point_apart b stop p.0 apart) (are_digits_free stop digits none (and_parts (are_digits 10 digits) _ p.1).0)

picks : (P : List ℕ → Type 0) (option text : List ℕ) (others b : Bool) → bytes_eq text option ≡ b → (others ≡ true → P text) → P option
    → (b || others) ≡ true → P text
picks P option text others true f later is e = subst P (sym ((bytes_eq-Decides text option).0 f)) is
picks P option text others false f later is e = later e

one_of : (P : List ℕ → Type 0) (options : List (List ℕ)) (text : List ℕ) → AllByRecursion P options → list_any (bytes_eq text) options ≡ true → P text
one_of P [] text all e = cc
one_of P (option ∷ options) text all e =
    picks P option text (list_any (bytes_eq text) options) (bytes_eq text option) refl (one_of P options text all.1) all.0 e

unit_free : (unit : List ℕ) → is_unit unit ≡ true → IsFreeOf 60 unit
unit_free unit e =
    one_of (IsFreeOf 60) (codes "B" ∷ codes "KiB" ∷ codes "MiB" ∷ codes "GiB" ∷ codes "TiB" ∷ codes "PiB" ∷ []) unit
    (refl, (refl, (refl, (refl, (refl, (refl, tt)))))) e

pub joined_free : (stop : ℕ) (a b : List ℕ) → IsFreeOf stop a → IsFreeOf stop b → IsFreeOf stop (a ++ b)
joined_free stop a b e f = list_any-append (λ c. c == stop) a b ∙ ap₂ (λ x y. x || y) e f

pub size_free : (text : List ℕ) → IsSize text → IsFreeOf 60 text
size_free text (inl e) = ap (list_any (λ b. b == 60)) e
size_free text (inr a) =
    ap (list_any (λ b. b == 60)) a.spells
    ∙ joined_free 60 a.whole (a.fraction ++ 32 ∷ a.unit) (are_digits_free 60 a.whole refl a.digits)
    (joined_free 60 a.fraction (32 ∷ a.unit) (fraction_free 60 a.fraction refl refl a.point) (unit_free a.unit a.named))

-- The texts of a row stand at the front, each up to the byte that ends it.
pub row_at : (whole : List ℕ) (texts : RowTexts) (row : PageRow) (rest : List ℕ) → IsRow texts row → whole ≡ row_text texts ++ rest
    → IsRowFront whole texts rest
row_at whole texts row rest is e =
    record {
      spells = e;
      link = link_free texts.link is.path.bytes;
      name = name_free texts.name row.name is.name;
      date = date_free texts.date is.date;
      size = size_free texts.size is.size;
    }

pub crumb_at : (whole : List ℕ) (texts : CrumbTexts) (crumb : Crumb) (rest : List ℕ) → IsCrumb texts crumb
    → whole ≡ crumb_text texts ++ rest → IsCrumbFront whole texts rest
crumb_at whole texts crumb rest is e =
    record { spells = e; link = link_free texts.link is.path.bytes; name = name_free texts.name crumb.name is.name }
