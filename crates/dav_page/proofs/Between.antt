-- What the cuts of a reader determine: where a text between two literals ends, and what is behind it.
use Rattle.std.proofs.Common.{◌≡◌, ◌==◌, ◌||◌, ◌+◌, ◌<◌, ℕ, Bool, true, false, not, cond, suc, List, [], ◌∷◌, ◌++◌, codes, length, take, drop, get_or, Option, Some, None, refl, sym, ap, ap₂, ◌∙◌, subst, arith, append_assoc}
use Rattle.std.specs.Borrow.{Bor}
use Rattle.std.specs.List.{list_any, position_or_len, before_first}
use Rattle.std.proofs.lemmas.Bool.{or_parts, eq-eqb}
use Rattle.std.proofs.lemmas.Bool.Decides.{Decides-eqb}
use Rattle.std.proofs.lemmas.List.{append_cancel_left, take_all, take-append-drop, drop_more}
use Rattle.std.proofs.lemmas.List.Folds.{length-prefix_len}
use Rattle.std.proofs.lemmas.List.Sums.{passes_at_first}
use Rattle.std.proofs.lemmas.Str.Pattern.{IsSplitOnceResult, split_once_first}
use Rattle.std.proofs.Math.Bool.{or-true}
use Rattle.dav_page.specs.Cuts.{IsBetween, IsCrumbFront, IsCut, IsFreeOf, IsRowFront}
use Rattle.dav_page.specs.Pages.{CrumbTexts, RowTexts, crumb_text, row_text}

-- What is in front of the first byte with a property has none.
free_before : (p : ℕ → Bool) (xs : List ℕ) → list_any p (before_first p xs) ≡ false
free_before p [] = refl
free_before p (x ∷ xs) = by (p x) refl (free_before p xs)
  where
    by : (b : Bool) → p x ≡ b → list_any p (before_first p xs) ≡ false
        → list_any p (take (cond (not b) (1 + position_or_len p xs) 0) (x ∷ xs)) ≡ false
    by true e later = refl
    by false e later =
        let more : 1 + position_or_len p xs ≡ suc (position_or_len p xs) = omega arith in
        ap (λ n. list_any p (take n (x ∷ xs))) more ∙ ap₂ (λ a b. a || b) e later

-- A text without such a byte is free of it.
pub free_whole : (p : ℕ → Bool) (xs : List ℕ) → position_or_len p xs ≡ length xs → list_any p xs ≡ false
free_whole p xs none = ap (list_any p) (sym (take_all (position_or_len p xs) xs (omega arith))) ∙ free_before p xs

module _ (stop : ℕ) (s front : List ℕ) (within : position_or_len (λ b. b == stop) s < length s)
    (is : front ≡ before_first (λ b. b == stop) s) where
  len_is : length front ≡ position_or_len (λ b. b == stop) s
  len_is = ap length is ∙ length-prefix_len (λ b. not (b == stop)) s

  stop_is : get_or s (length front) 0 ≡ stop
  stop_is =
      (Decides-eqb (get_or s (length front) 0) stop).0
      (ap (λ n. get_or s n 0 == stop) len_is ∙ passes_at_first (λ b. b == stop) s 0 within)

  -- It is cut at the first such byte.
  pub is_cut : IsCut stop s (take (length front) s) (drop (length front) s)
  is_cut = record {
    more = drop (length front + 1) s;
    spells = sym (take-append-drop (length front) s);
    free = ap (λ n. list_any (λ b. b == stop) (take n s)) len_is ∙ free_before (λ b. b == stop) s;
    stops = drop_more s (length front) 0 (omega (arith, len_is)) ∙ ap (λ b. b ∷ drop (length front + 1) s) stop_is;
  }

-- What `split_once` answers says whether the text has the byte.
pub until_none : (stop : ℕ) (s : List ℕ) (r : Option (Bor (List ℕ) × Bor (List ℕ))) → IsSplitOnceResult stop s r → stop < 128 → r ≡ None
    → IsFreeOf stop s
until_none stop s None h low e = free_whole (λ b. b == stop) s (split_once_first stop s None h low)
until_none stop s (Some x) h low e = cc

pub until_some : (stop : ℕ) (s : List ℕ) (r : Option (Bor (List ℕ) × Bor (List ℕ))) → IsSplitOnceResult stop s r → stop < 128
    → (front back : Bor (List ℕ)) → r ≡ Some (front, back)
    → IsCut stop s (take (length front.now) s) (drop (length front.now) s)
until_some stop s None h low front back e = cc
until_some stop s (Some x) h low front back e =
    let same : x.0 ≡ front = cc in
    let found = split_once_first stop s (Some x) h low in
    subst (λ (f : Bor (List ℕ)). IsCut stop s (take (length f.now) s) (drop (length f.now) s)) same (is_cut stop s x.0.now found.0 found.1)

-- What is in front of the first byte with a property is determined, and so is what stands behind it.
pub split_once : (p : ℕ → Bool) (front other : List ℕ) (x y : ℕ) (rest behind : List ℕ) → list_any p front ≡ false
    → list_any p other ≡ false → p x ≡ true → p y ≡ true → front ++ x ∷ rest ≡ other ++ y ∷ behind
    → (front ≡ other) × (x ∷ rest ≡ y ∷ behind)
split_once p [] [] x y rest behind none free px py e = (refl, e)
split_once p [] (c ∷ other) x y rest behind none free px py e =
    let same : x ≡ c = cc in
    let bad : true ≡ false = sym px ∙ (ap p same ∙ (or_parts (p c) (list_any p other) free).0) in cc
split_once p (c ∷ front) [] x y rest behind none free px py e =
    let same : c ≡ y = cc in
    let bad : true ≡ false = sym py ∙ (ap p (sym same) ∙ (or_parts (p c) (list_any p front) none).0) in cc
split_once p (c ∷ front) (d ∷ other) x y rest behind none free px py e =
    let first : c ≡ d = cc in
    let later : front ++ x ∷ rest ≡ other ++ y ∷ behind = cc in
    let none_later = (or_parts (p c) (list_any p front) none).1 in
    let free_later = (or_parts (p d) (list_any p other) free).1 in
    let split = split_once p front other x y rest behind none_later free_later px py later in
    (ap₂ (λ (b : ℕ) (bs : List ℕ). b ∷ bs) first split.0, split.1)

-- A text is cut at the first such byte in one way.
pub cut_once : (stop : ℕ) (whole front other rest behind : List ℕ) → IsCut stop whole front rest → IsCut stop whole other behind
    → (front ≡ other) × (rest ≡ behind)
cut_once stop whole front other rest behind p q =
    let same : front ++ stop ∷ p.more ≡ other ++ stop ∷ q.more =
    ap (λ z. front ++ z) (sym p.stops) ∙ (sym p.spells ∙ (q.spells ∙ ap (λ z. other ++ z) q.stops)) in
    let once = split_once (λ b. b == stop) front other stop stop p.more q.more p.free q.free (eq-eqb stop stop refl) (eq-eqb stop stop refl) same in
    (once.0, p.stops ∙ (once.1 ∙ sym q.stops))

-- What stands between a literal and the first such byte is determined.
pub between_once : (literal : List ℕ) (stop : ℕ) (whole text other rest behind : List ℕ) → IsBetween literal stop whole text rest
    → IsBetween literal stop whole other behind → (text ≡ other) × (rest ≡ behind)
between_once literal stop whole text other rest behind p q =
    let same : text ++ rest ≡ other ++ behind = append_cancel_left literal (text ++ rest) (other ++ behind) (sym p.spells ∙ q.spells) in
    cut_once stop (text ++ rest) text other rest behind (record { more = p.more; spells = refl; free = p.free; stops = p.stops })
    (record { more = q.more; spells = same; free = q.free; stops = q.stops })

found : (stop : ℕ) (front more : List ℕ) → list_any (λ b. b == stop) (front ++ stop ∷ more) ≡ true
found stop [] more = ap (λ t. t || list_any (λ b. b == stop) more) (eq-eqb stop stop refl)
found stop (c ∷ front) more = ap (λ t. (c == stop) || t) (found stop front more) ∙ or-true (c == stop)

-- A text that has a byte isn't free of it.
pub not_free : (stop : ℕ) (text front more : List ℕ) → text ≡ front ++ stop ∷ more → IsFreeOf stop text → ⊥
not_free stop text front more e free =
    let bad : true ≡ false = sym (found stop front more) ∙ (ap (list_any (λ b. b == stop)) (sym e) ∙ free) in cc

-- Where the byte isn't behind the literal, nothing stands between them.
pub between_none : (literal : List ℕ) (stop : ℕ) (whole behind text rest : List ℕ) → whole ≡ literal ++ behind
    → IsFreeOf stop behind → IsBetween literal stop whole text rest → ⊥
between_none literal stop whole behind text rest at free p =
    let same : behind ≡ text ++ rest = append_cancel_left literal behind (text ++ rest) (sym at ∙ p.spells) in
    not_free stop behind text p.more (same ∙ ap (λ z. text ++ z) p.stops) free

-- literal, text, and what stands behind them
shift : (literal text more behind : List ℕ) → literal ++ (text ++ more) ++ behind ≡ literal ++ (text ++ (more ++ behind))
shift literal text more behind =
    append_assoc literal (text ++ more) behind ∙ ap (λ z. literal ++ z) (append_assoc text more behind)

abbrev pub before_link : List ℕ
before_link = codes "<tr><td><a href=\""

abbrev pub before_name : List ℕ
before_name = codes "\">"

abbrev pub before_date : List ℕ
before_date = codes "</a></td><td class=\"mono\">"

abbrev pub before_size : List ℕ
before_size = codes "</td><td class=\"mono\" align=\"right\">"

abbrev pub after_size : List ℕ
after_size = codes "</td></tr>"

-- what stands behind each text of a row
abbrev pub behind_size : RowTexts → List ℕ → List ℕ
behind_size r rest = after_size ++ rest

abbrev pub behind_date : RowTexts → List ℕ → List ℕ
behind_date r rest = before_size ++ (r.size ++ behind_size r rest)

abbrev pub behind_name : RowTexts → List ℕ → List ℕ
behind_name r rest = before_date ++ (r.date ++ behind_date r rest)

abbrev pub behind_link : RowTexts → List ℕ → List ℕ
behind_link r rest = before_name ++ (r.name ++ behind_name r rest)

abbrev pub row_then : RowTexts → List ℕ → List ℕ
row_then r rest = before_link ++ (r.link ++ behind_link r rest)

pub row_is : (r : RowTexts) (rest : List ℕ) → row_text r ++ rest ≡ row_then r rest
row_is r rest =
    shift before_link r.link (before_name ++ (r.name ++ (before_date ++ (r.date ++ (before_size ++ (r.size ++ after_size)))))) rest
    ∙ ap (λ z. before_link ++ (r.link ++ z)) (shift before_name r.name (before_date ++ (r.date ++ (before_size ++ (r.size ++ after_size)))) rest
    ∙ ap (λ z. before_name ++ (r.name ++ z)) (shift before_date r.date (before_size ++ (r.size ++ after_size)) rest
    ∙ ap (λ z. before_date ++ (r.date ++ z)) (shift before_size r.size after_size rest)))

-- The texts of a row stand between its literals.
module _ (whole : List ℕ) (r : RowTexts) (rest : List ℕ) (is : IsRowFront whole r rest) where
  pub link_at : IsBetween before_link 34 whole r.link (behind_link r rest)
  link_at = record { more = drop 1 (behind_link r rest); spells = is.spells ∙ row_is r rest; free = is.link; stops = refl }

  pub name_at : (at : List ℕ) → at ≡ behind_link r rest → IsBetween before_name 60 at r.name (behind_name r rest)
  name_at at e = record { more = drop 1 (behind_name r rest); spells = e; free = is.name; stops = refl }

  pub date_at : (at : List ℕ) → at ≡ behind_name r rest → IsBetween before_date 60 at r.date (behind_date r rest)
  date_at at e = record { more = drop 1 (behind_date r rest); spells = e; free = is.date; stops = refl }

  pub size_at : (at : List ℕ) → at ≡ behind_date r rest → IsBetween before_size 60 at r.size (behind_size r rest)
  size_at at e = record { more = drop 1 (behind_size r rest); spells = e; free = is.size; stops = refl }

-- A row is cut off in one way.
pub row_once : (whole : List ℕ) (r s : RowTexts) (rest behind : List ℕ) → IsRowFront whole r rest → IsRowFront whole s behind
    → (r ≡ s) × (rest ≡ behind)
row_once whole r s rest behind p q =
    let link = between_once before_link 34 whole r.link s.link _ _ (link_at whole r rest p) (link_at whole s behind q) in
    let name = between_once before_name 60 (behind_link r rest) r.name s.name _ _ (name_at whole r rest p _ refl)
    (name_at whole s behind q _ link.1) in
    let date = between_once before_date 60 (behind_name r rest) r.date s.date _ _ (date_at whole r rest p _ refl)
    (date_at whole s behind q _ name.1) in
    let size = between_once before_size 60 (behind_date r rest) r.size s.size _ _ (size_at whole r rest p _ refl)
    (size_at whole s behind q _ date.1) in
    (row_same link.0 name.0 date.0 size.0, append_cancel_left after_size rest behind size.1)
  where
    row_same : r.link ≡ s.link → r.name ≡ s.name → r.date ≡ s.date → r.size ≡ s.size → r ≡ s
    row_same a b c d = λ i. record { link = a i; name = b i; date = c i; size = d i }

-- Where no name, date, size or end stands behind what was cut off, no row is at the front.
module _ (whole link one : List ℕ) (p : IsBetween before_link 34 whole link one) where
  at_name : (r : RowTexts) (rest : List ℕ) → IsRowFront whole r rest → one ≡ behind_link r rest
  at_name r rest is = (between_once before_link 34 whole link r.link one _ p (link_at whole r rest is)).1

  pub row_no_name : ((text rest : List ℕ) → IsBetween before_name 60 one text rest → ⊥) → (r : RowTexts) (rest : List ℕ)
      → IsRowFront whole r rest → ⊥
  row_no_name none r rest is = none r.name _ (name_at whole r rest is one (at_name r rest is))

  module _ (name two : List ℕ) (q : IsBetween before_name 60 one name two) where
    at_date : (r : RowTexts) (rest : List ℕ) → IsRowFront whole r rest → two ≡ behind_name r rest
    at_date r rest is = (between_once before_name 60 one name r.name two _ q (name_at whole r rest is one (at_name r rest is))).1

    pub row_no_date : ((text rest : List ℕ) → IsBetween before_date 60 two text rest → ⊥) → (r : RowTexts) (rest : List ℕ)
        → IsRowFront whole r rest → ⊥
    row_no_date none r rest is = none r.date _ (date_at whole r rest is two (at_date r rest is))

    module _ (date three : List ℕ) (d : IsBetween before_date 60 two date three) where
      at_size : (r : RowTexts) (rest : List ℕ) → IsRowFront whole r rest → three ≡ behind_date r rest
      at_size r rest is = (between_once before_date 60 two date r.date three _ d (date_at whole r rest is two (at_date r rest is))).1

      pub row_no_size : ((text rest : List ℕ) → IsBetween before_size 60 three text rest → ⊥) → (r : RowTexts) (rest : List ℕ)
          → IsRowFront whole r rest → ⊥
      row_no_size none r rest is = none r.size _ (size_at whole r rest is three (at_size r rest is))

      pub row_no_end : (size four : List ℕ) → IsBetween before_size 60 three size four → ((rest : List ℕ) → four ≡ after_size ++ rest → ⊥)
          → (r : RowTexts) (rest : List ℕ) → IsRowFront whole r rest → ⊥
      row_no_end size four s none r rest is =
          none rest (between_once before_size 60 three size r.size four _ s (size_at whole r rest is three (at_size r rest is))).1

-- Texts that were cut off one after another are those of a row.
pub row_front : (whole link name date size one two three four rest : List ℕ) → IsBetween before_link 34 whole link one
    → IsBetween before_name 60 one name two → IsBetween before_date 60 two date three → IsBetween before_size 60 three size four
    → four ≡ after_size ++ rest → IsRowFront whole (record { link = link; name = name; date = date; size = size }) rest
row_front whole link name date size one two three four rest p q r s e =
    record {
      spells =
          p.spells
          ∙ (ap (λ z. before_link ++ (link ++ z)) (q.spells
          ∙ ap (λ z. before_name ++ (name ++ z)) (r.spells
          ∙ ap (λ z. before_date ++ (date ++ z)) (s.spells
          ∙ ap (λ z. before_size ++ (size ++ z)) e)))
          ∙ sym (row_is (record { link = link; name = name; date = date; size = size }) rest));
      link = p.free;
      name = q.free;
      date = r.free;
      size = s.free;
    }

abbrev pub before_crumb : List ℕ
before_crumb = codes "<a href = \""

abbrev pub after_crumb : List ℕ
after_crumb = codes "</a>/"

abbrev pub behind_crumb_link : CrumbTexts → List ℕ → List ℕ
behind_crumb_link r rest = before_name ++ (r.name ++ (after_crumb ++ rest))

abbrev pub crumb_then : CrumbTexts → List ℕ → List ℕ
crumb_then r rest = before_crumb ++ (r.link ++ behind_crumb_link r rest)

pub crumb_is : (r : CrumbTexts) (rest : List ℕ) → crumb_text r ++ rest ≡ crumb_then r rest
crumb_is r rest =
    shift before_crumb r.link (before_name ++ (r.name ++ after_crumb)) rest
    ∙ ap (λ z. before_crumb ++ (r.link ++ z)) (shift before_name r.name after_crumb rest)

module _ (whole : List ℕ) (r : CrumbTexts) (rest : List ℕ) (is : IsCrumbFront whole r rest) where
  pub crumb_link_at : IsBetween before_crumb 34 whole r.link (behind_crumb_link r rest)
  crumb_link_at = record { more = drop 1 (behind_crumb_link r rest); spells = is.spells ∙ crumb_is r rest; free = is.link; stops = refl }

  pub crumb_name_at : (at : List ℕ) → at ≡ behind_crumb_link r rest → IsBetween before_name 60 at r.name (after_crumb ++ rest)
  crumb_name_at at e = record { more = drop 1 (after_crumb ++ rest); spells = e; free = is.name; stops = refl }

-- A heading's link is cut off in one way.
pub crumb_once : (whole : List ℕ) (r s : CrumbTexts) (rest behind : List ℕ) → IsCrumbFront whole r rest → IsCrumbFront whole s behind
    → (r ≡ s) × (rest ≡ behind)
crumb_once whole r s rest behind p q =
    let link = between_once before_crumb 34 whole r.link s.link _ _ (crumb_link_at whole r rest p) (crumb_link_at whole s behind q) in
    let name = between_once before_name 60 (behind_crumb_link r rest) r.name s.name _ _ (crumb_name_at whole r rest p _ refl)
    (crumb_name_at whole s behind q _ link.1) in
    (crumb_same link.0 name.0, append_cancel_left after_crumb rest behind name.1)
  where
    crumb_same : r.link ≡ s.link → r.name ≡ s.name → r ≡ s
    crumb_same a b = λ i. record { link = a i; name = b i }

-- Where no name or end stands behind what was cut off, no heading's link is at the front.
module _ (whole link one : List ℕ) (p : IsBetween before_crumb 34 whole link one) where
  at_crumb_name : (r : CrumbTexts) (rest : List ℕ) → IsCrumbFront whole r rest → one ≡ behind_crumb_link r rest
  at_crumb_name r rest is = (between_once before_crumb 34 whole link r.link one _ p (crumb_link_at whole r rest is)).1

  pub crumb_no_name : ((text rest : List ℕ) → IsBetween before_name 60 one text rest → ⊥) → (r : CrumbTexts) (rest : List ℕ)
      → IsCrumbFront whole r rest → ⊥
  crumb_no_name none r rest is = none r.name _ (crumb_name_at whole r rest is one (at_crumb_name r rest is))

  pub crumb_no_end : (name two : List ℕ) → IsBetween before_name 60 one name two → ((rest : List ℕ) → two ≡ after_crumb ++ rest → ⊥)
      → (r : CrumbTexts) (rest : List ℕ) → IsCrumbFront whole r rest → ⊥
  crumb_no_end name two q none r rest is =
      none rest (between_once before_name 60 one name r.name two _ q (crumb_name_at whole r rest is one (at_crumb_name r rest is))).1
