-- Lines of a calendar text.
use Rattle.std.proofs.Common.{◌≡◌, ◌==◌, ◌&&◌, ◌||◌, ◌<◌, ◌+◌, ◌++◌, ℕ, Bool, true, false, cond, not, List, [], ◌∷◌, length, drop, get_or, add-one, drop-cons, Some, IsUtf8, refl, sym, ap, ◌∙◌, ◌≤◌, append_assoc, arith, eqb-true}
use Rattle.std.specs.List.{position}
use Rattle.std.proofs.lemmas.List.Quantifiers.{position-Some}
use Rattle.std.proofs.lemmas.List.{drop_all}
use Rattle.std.specs.Str.{IsCharBoundary}
use Rattle.std.specs.Str.Lines.{lines}
use Rattle.std.proofs.lemmas.Str.{IsCharBoundary-after_ascii, IsCharBoundary-before_ascii}
use Rattle.dav_calendar.specs.Reading.{goes_on, is_mark, unfolded_from, value_from}

blank_small : (b : ℕ) → (b == 32 || b == 9) ≡ true → b < 128
blank_small b e = by (b == 32) refl e
  where
    by : (t : Bool) → (b == 32) ≡ t → (t || b == 9) ≡ true → b < 128
    by true h e = omega (arith, eqb-true b 32 h)
    by false h e = omega (arith, eqb-true b 9 e)

pub behind_blank : (line : List ℕ) → IsUtf8 line → goes_on line ≡ true → IsCharBoundary line 1
behind_blank [] u e = cc
behind_blank (b ∷ bytes) u e = IsCharBoundary-after_ascii (b ∷ bytes) 0 u (omega arith) (blank_small b e)

pub colon_boundary : (line : List ℕ) (i : ℕ) → IsUtf8 line → i < length line → get_or line i 0 ≡ 58 → IsCharBoundary line (i + 1)
colon_boundary line i u h e = IsCharBoundary-after_ascii line i u h (omega (arith, e))

here : (line : List ℕ) (i : ℕ) → i < length line → drop i line ≡ get_or line i 0 ∷ drop (i + 1) line
here line i h = rw (add-one, drop-cons line i 0) refl

-- a byte more
pub step : (quoted : Bool) (line : List ℕ) (i : ℕ) → i < length line
    → value_from quoted (drop i line) ≡ cond (get_or line i 0 == 34) (value_from (not quoted) (drop (i + 1) line)) (cond (get_or line i 0 == 58 && not quoted) (Some (drop (i + 1) line)) (value_from quoted (drop (i + 1) line)))
step quoted line i h = ap (value_from quoted) (here line i h)

-- a line more
pub goes : (line next : List ℕ) (more : List (List ℕ)) → goes_on next ≡ true → unfolded_from line (next ∷ more) ≡ unfolded_from (line ++ drop 1 next) more
goes line next more e = rw e refl

pub begins : (line next : List ℕ) (more : List (List ℕ)) → goes_on next ≡ false → unfolded_from line (next ∷ more) ≡ line ∷ unfolded_from next more
begins line next more e = rw e refl

mark_small : (b : ℕ) → is_mark b ≡ true → b < 128
mark_small b e = by (b == 59) refl e
  where
    by : (t : Bool) → (b == 59) ≡ t → (t || b == 58) ≡ true → b < 128
    by true h e = omega (arith, eqb-true b 59 h)
    by false h e = omega (arith, eqb-true b 58 e)

pub mark_boundary : (line : List ℕ) (i : ℕ) → position is_mark line ≡ Some i → IsCharBoundary line i
mark_boundary line i e = let p = position-Some is_mark line i 0 e in IsCharBoundary-before_ascii line i p.0 (mark_small (get_or line i 0) p.1)

-- the lines that are left
pub at_line : (lines : List (List ℕ)) (i : ℕ) (d : List ℕ) → i < length lines → drop i lines ≡ get_or lines i d ∷ drop (i + 1) lines
at_line lines i d h = rw (add-one, drop-cons lines i d) refl

pub line_goes : (lines done : List (List ℕ)) (whole : List (List ℕ)) (i j : ℕ) (line next now : List ℕ) → i < length lines → next ≡ get_or lines i next → goes_on next ≡ true
    → whole ≡ done ++ unfolded_from line (drop i lines) → now ≡ line ++ drop 1 next → j ≡ i + 1
    → whole ≡ done ++ unfolded_from now (drop j lines)
line_goes lines done whole i j line next now h here e before same count =
    before ∙ ap (λ ls. done ++ unfolded_from line ls) (at_line lines i next h ∙ ap (λ l. l ∷ drop (i + 1) lines) (sym here))
    ∙ ap (λ l. done ++ l) (goes line next (drop (i + 1) lines) e)
    ∙ rw (same, count) refl

pub line_begins : (lines done more : List (List ℕ)) (whole : List (List ℕ)) (i j : ℕ) (line next now : List ℕ) → i < length lines → next ≡ get_or lines i next → goes_on next ≡ false
    → whole ≡ done ++ unfolded_from line (drop i lines) → more ≡ done ++ line ∷ [] → now ≡ next → j ≡ i + 1
    → whole ≡ more ++ unfolded_from now (drop j lines)
line_begins lines done more whole i j line next now h here e before same is count =
    before ∙ ap (λ ls. done ++ unfolded_from line ls) (at_line lines i next h ∙ ap (λ l. l ∷ drop (i + 1) lines) (sym here))
    ∙ ap (λ l. done ++ l) (begins line next (drop (i + 1) lines) e)
    ∙ sym (append_assoc done (line ∷ []) (unfolded_from next (drop (i + 1) lines)))
    ∙ rw (same, is, count) refl

pub lines_end : (lines done : List (List ℕ)) (whole : List (List ℕ)) (i : ℕ) (line : List ℕ) (all : List (List ℕ)) → length lines ≤ i
    → whole ≡ done ++ unfolded_from line (drop i lines) → all ≡ done ++ line ∷ [] → all ≡ whole
lines_end lines done whole i line all h before same = same ∙ sym (before ∙ ap (λ ls. done ++ unfolded_from line ls) (drop_all i lines h))
