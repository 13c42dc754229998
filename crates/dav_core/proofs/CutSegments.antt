-- The first segment of a text, and the last one.
use Rattle.std.proofs.Common.{◌≡◌, ◌==◌, ◌<◌, ◌≤◌, ◌+◌, ◌-◌, ℕ, Bool, true, false, List, [], ◌∷◌, ◌++◌, length, take, drop, get_or, All, Some, refl, sym, ap, ◌∙◌, take-append-drop, length-drop, take_all, drop-drop, subst, arith}
use Rattle.std.specs.List.{onto_first, position_or_len, after_first}
use Rattle.std.proofs.lemmas.List.{drop_more}
use Rattle.std.proofs.lemmas.List.Splits.{slice_split-cons_yes, slice_split-cons_no, slice_split_none, slice_split_first}
use Rattle.std.proofs.lemmas.List.Sums.{fails_before_first}
use Rattle.dav_core.specs.DavPath.{last_name}
use Rattle.dav_core.specs.Path.{Names}
use Rattle.dav_core.specs.Grammar.{segments}
use Rattle.dav_core.proofs.Paths.{last_pushed}

abbrev pub is_slash : ℕ → Bool
is_slash b = b == 47

abbrev pub lacks : List ℕ → Type 0
lacks bytes = All (λ b. is_slash b ≡ false) bytes

-- ---- the first segment

-- where no slash stands, the text is its one segment
pub whole_segment : (text front others : List ℕ) (at : ℕ) → at ≡ position_or_len is_slash text → front ≡ take at text → others ≡ drop at text → length others < 1 → segments text ≡ front ∷ []
whole_segment text front others at first front_is others_is none =
    let left : length others ≡ length text - at = ap length others_is ∙ length-drop at text in
    let ended : length text ≤ at = omega (arith, left, none) in
    slice_split_none is_slash text (λ k d l. fails_before_first is_slash text k d (omega (arith, first, ended, l)))
    ∙ ap (λ s. s ∷ []) (sym (front_is ∙ take_all at text ended))

-- where a slash is the first of what stands behind it
pub cut_segment : (text front others : List ℕ) (at : ℕ) → at ≡ position_or_len is_slash text → front ≡ take at text → others ≡ drop at text → 1 ≤ length others
    → segments text ≡ front ∷ segments (take (length others - 1) (drop 1 others))
cut_segment text front others at first front_is others_is some =
    let left : length others ≡ length text - at = ap length others_is ∙ length-drop at text in
    let inside : position_or_len is_slash text < length text = omega (arith, left, first, some) in
    let behind : after_first is_slash text ≡ take (length others - 1) (drop 1 others) =
    ap (λ n. drop (n + 1) text) (sym first) ∙ sym (drop-drop 1 at text) ∙ ap (drop 1) (sym others_is)
    ∙ sym (take_all (length others - 1) (drop 1 others) (omega (arith, length-drop 1 others))) in
    slice_split_first is_slash text 0 inside ∙ ap (λ n. take n text ∷ segments (after_first is_slash text)) (sym first)
    ∙ ap (λ s. s ∷ segments (after_first is_slash text)) (sym front_is) ∙ ap (λ b. front ∷ segments b) behind

-- ---- the last segment

-- a text has this segment at its end, and one more before
abbrev EndsIn : List ℕ → List ℕ → Type 0
EndsIn text last = (first : List ℕ) × (others : Names) × (segments text ≡ first ∷ (others ++ last ∷ []))

with_byte : (b : ℕ) (text last : List ℕ) (slash : Bool) → is_slash b ≡ slash → EndsIn text last → EndsIn (b ∷ text) last
with_byte b text last true e (first, others, is) = ([], first ∷ others, slice_split-cons_yes is_slash b text e ∙ ap (λ ss. [] ∷ ss) is)
with_byte b text last false e (first, others, is) = (b ∷ first, others, slice_split-cons_no is_slash b text e ∙ ap (onto_first b) is)

-- what stands behind a slash and has none is the last segment
last_behind : (front last : List ℕ) → lacks last → EndsIn (front ++ 47 ∷ last) last
last_behind [] last none = ([], [], slice_split-cons_yes is_slash 47 last refl ∙ ap (λ ss. [] ∷ ss) (slice_split_none is_slash last none))
last_behind (b ∷ front) last none = with_byte b (front ++ 47 ∷ last) last (is_slash b) refl (last_behind front last none)

pub last_at_end : (front last : List ℕ) → lacks last → last_name (segments (front ++ 47 ∷ last)) ≡ Some last
last_at_end front last none =
    let (first, others, is) = last_behind front last none in
    ap last_name is ∙ last_pushed (first ∷ others) last

-- the same, where the text is walked from its end
pub last_behind_slash : (text last : List ℕ) (at : ℕ) → 0 < at → at ≤ length text → get_or text (at - 1) 0 ≡ 47 → lacks (drop at text) → last ≡ drop at text → last_name (segments text) ≡ Some last
last_behind_slash text last at some within slash none last_is =
    let next : at - 1 + 1 ≡ at = omega (arith, some) in
    let parts : text ≡ take (at - 1) text ++ 47 ∷ last =
    sym (take-append-drop (at - 1) text) ∙ ap (λ x. take (at - 1) text ++ x) (drop_more text (at - 1) 0 (omega (arith, some, within)))
    ∙ ap (λ b. take (at - 1) text ++ b ∷ drop (at - 1 + 1) text) slash ∙ ap (λ n. take (at - 1) text ++ 47 ∷ drop n text) next
    ∙ ap (λ l. take (at - 1) text ++ 47 ∷ l) (sym last_is) in
    ap (λ t. last_name (segments t)) parts ∙ last_at_end (take (at - 1) text) last (subst lacks (sym last_is) none)

pub no_slash : (text : List ℕ) (at : ℕ) → at ≡ 0 → lacks (drop at text) → last_name (segments text) ≡ Some text
no_slash text at start none = ap last_name (slice_split_none is_slash text (subst (λ n. lacks (drop n text)) start none))
