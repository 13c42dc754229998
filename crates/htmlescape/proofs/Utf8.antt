-- The first byte of a character gives its width.
use Rattle.std.proofs.Common.{◌≡◌, ◌<◌, ℕ, ◌+◌, ◌/◌, ◌≤◌, List, [], ◌∷◌, ◌++◌, length, refl, sym, ◌∙◌, ap, inl, inr, arith, get_or}
use Rattle.std.proofs.Common.{◌≢◌, MatchOption, take, drop, max, subst, Option, Some, None, Ok, Err, append-nil, length-append}
use Rattle.std.specs.Str.{StartsWithNoChar}
use Rattle.std.proofs.lemmas.Str.{length-encode, len_utf8_bounds}
use Rattle.std.proofs.lemmas.List.{get_or_append_left, nil_from_length, length-take-le, get_or-take}
use Rattle.std.proofs.Math.Seq.{take-append_seam, drop-append_seam}
use Rattle.std.proofs.Math.ListN.{drop_of_length-le}
use Rattle.htmlescape.specs.declared.characters.CharsError.TheVariants.{NotUtf8}
use lib.Utf8.{encode, next, scalar_cases}
use Rattle.std.specs.Char.{IsScalar}
use Rattle.std.proofs.lemmas.Bool.{cases_lt}
use Rattle.std.proofs.lemmas.Bool.Decides.{nat_tests}
use Rattle.htmlescape.specs.Characters.{width, CharRead, ByteRead, ReadsByte, ReadsAfter}
use Rattle.dav_io.specs.Told.{Both}
use Rattle.dav_io.proofs.ToldLemmas.{both_same, both_then, both_map}
use Rattle.dav_io.specs.Outside.{Stream}

pub encode_one : (c : ℕ) → c < 128 → encode c ≡ c ∷ []
unfolding encode
encode_one c h = grind (arith, nat_tests)

pub encode_two : (c : ℕ) → 128 ≤ c → c < 2048 → encode c ≡ (192 + c / 64) ∷ next c ∷ []
unfolding encode
encode_two c l h = grind (arith, nat_tests)

pub encode_three : (c : ℕ) → 2048 ≤ c → c < 65536 → encode c ≡ (224 + c / 4096) ∷ next (c / 64) ∷ next c ∷ []
unfolding encode
encode_three c l h = grind (arith, nat_tests)

pub encode_four : (c : ℕ) → 65536 ≤ c → encode c ≡ (240 + c / 262144) ∷ next (c / 4096) ∷ next (c / 64) ∷ next c ∷ []
unfolding encode
encode_four c l = grind (arith, nat_tests)

width_two : (n : ℕ) → n < 32 → width (192 + n) ≡ 2
width_two n h = grind (arith, nat_tests)

width_three : (n : ℕ) → n < 16 → width (224 + n) ≡ 3
width_three n h = grind (arith, nat_tests)

width_four : (n : ℕ) → n < 8 → width (240 + n) ≡ 4
width_four n h = grind (arith, nat_tests)

-- the first byte of a character
abbrev first_width : ℕ → Type 0
first_width c = width (get_or (encode c) 0 0) ≡ length (encode c)

by_one : (c : ℕ) → c < 128 → first_width c
by_one c h = rw (encode_one c h) (grind (arith, nat_tests))

by_two : (c : ℕ) → 128 ≤ c → c < 2048 → first_width c
by_two c l h = rw (encode_two c l h) (width_two (c / 64) (omega arith))

by_three : (c : ℕ) → 2048 ≤ c → c < 65536 → first_width c
by_three c l h = rw (encode_three c l h) (width_three (c / 4096) (omega arith))

by_four : (c : ℕ) → 65536 ≤ c → c < 1114112 → first_width c
by_four c l h = rw (encode_four c l) (width_four (c / 262144) (omega arith))

bounded : (c : ℕ) → IsScalar c → c < 1114112
bounded c s = elim (scalar_cases c s) [ inl low ↦ omega arith | inr high ↦ high.1 ]

pub width_first : (c : ℕ) → IsScalar c → width (get_or (encode c) 0 0) ≡ length (encode c)
width_first c s = elim (cases_lt c 128) [
  | inl a ↦ by_one c a
  | inr a ↦ elim (cases_lt c 2048) [
    | inl b ↦ by_two c a b
    | inr b ↦ elim (cases_lt c 65536) [ inl d ↦ by_three c b d | inr d ↦ by_four c d (bounded c s) ]
  ]
]

long_enough : (c : ℕ) → 1 ≤ length (encode c)
long_enough c = omega (arith, length-encode c, (len_utf8_bounds c).0)

-- what begins with a character has its width
pub starts : (bs rest : List ℕ) (c : ℕ) → IsScalar c → bs ≡ encode c ++ rest → width (get_or bs 0 0) ≡ length (encode c)
starts bs rest c s e =
    ap (λ t. width (get_or t 0 0)) e ∙ ap width (get_or_append_left (encode c) rest 0 0 (let h = long_enough c in omega arith)) ∙ width_first c s

sizes : (bs rest : List ℕ) (c : ℕ) → bs ≡ encode c ++ rest → length bs ≡ length (encode c) + length rest
sizes bs rest c e = ap length e ∙ length-append (encode c) rest

pub whole : (bs rest : List ℕ) (c : ℕ) → IsScalar c → width (get_or bs 0 0) ≡ length bs → bs ≡ encode c ++ rest → bs ≡ encode c
whole bs rest c s w e =
    let none : length rest ≡ 0 = omega (arith, starts bs rest c s e, sizes bs rest c e) in
    e ∙ ap (λ t. encode c ++ t) (nil_from_length rest none) ∙ append-nil (encode c)

pub none_short : (bs : List ℕ) → length bs < width (get_or bs 0 0) → StartsWithNoChar bs
none_short bs h c rest s e = omega (arith, starts bs rest c s e, sizes bs rest c e)

none_zero : (bs : List ℕ) → width (get_or bs 0 0) ≡ 0 → StartsWithNoChar bs
none_zero bs h c rest s e = omega (arith, starts bs rest c s e, long_enough c)

-- an only front of the right width that is no character
pub none_spelled : (front back : List ℕ) → 0 < length front → width (get_or front 0 0) ≡ length front
    → ((c : ℕ) (more : List ℕ) → IsScalar c → front ≢ encode c ++ more)
    → StartsWithNoChar (front ++ back)
none_spelled front back some w h c rest s e =
    let first : get_or (front ++ back) 0 0 ≡ get_or front 0 0 = get_or_append_left front back 0 0 some in
    let same : length front ≡ length (encode c) = sym w ∙ ap width (sym first) ∙ starts (front ++ back) rest c s e in
    let cut : front ≡ encode c = sym (take-append_seam front back) ∙ ap (take (length front)) e ∙ ap (λ n. take n (encode c ++ rest)) same ∙ take-append_seam (encode c) rest in
    h c [] s (cut ∙ sym (append-nil (encode c)))

-- the answers of a reader behind a first byte
zero_width : (first : ℕ) (a : List ℕ) → width first ≡ 0 → CharRead (Some (Err NotUtf8)) (first ∷ a) a
zero_width first a h = (omega arith, none_zero (first ∷ a) h, ap (λ n. drop (max 1 n) (first ∷ a)) (sym h))

ended : (first at : ℕ) (bytes a b c : List ℕ) → at ≤ length bytes → 1 ≤ at → at < width first → first ∷ a ≡ take at bytes ++ b
    → ByteRead (Ok None) b c → CharRead (Some (Err NotUtf8)) (first ∷ a) c
ended first at bytes a b c l some h e r =
    let size : length (first ∷ a) ≡ at = ap length (e ∙ ap (λ t. take at bytes ++ t) r.0 ∙ append-nil (take at bytes)) ∙ length-take-le at bytes l in
    (omega arith, none_short (first ∷ a) (omega arith), r.1 ∙ sym (drop_of_length-le (first ∷ a) (omega arith)))

spelled_so : (first at : ℕ) (bytes a b : List ℕ) (c : ℕ) → first ∷ a ≡ take at bytes ++ b → take at bytes ≡ encode c
    → CharRead (Some (Ok c)) (first ∷ a) b
spelled_so first at bytes a b c h e = h ∙ ap (λ t. t ++ b) e

spelled_not : (first at : ℕ) (bytes a b : List ℕ) → at ≤ length bytes → 1 ≤ at → width first ≡ at → get_or bytes 0 0 ≡ first
    → first ∷ a ≡ take at bytes ++ b
    → ((c : ℕ) (more : List ℕ) → IsScalar c → take at bytes ≢ encode c ++ more) → CharRead (Some (Err NotUtf8)) (first ∷ a) b
spelled_not first at bytes a b l some w f e h =
    let size : length (take at bytes) ≡ at = length-take-le at bytes l in
    let head : get_or (take at bytes) 0 0 ≡ first = get_or-take at bytes 0 0 (omega arith) ∙ f in
    let P : List ℕ → Type 0 = StartsWithNoChar in (
      omega arith,
      subst P (sym e) (none_spelled (take at bytes) b (omega arith) (ap width head ∙ w ∙ sym size) h),
      (let n : max 1 (width first) ≡ length (take at bytes) = omega arith in sym (ap (λ k. drop k (first ∷ a)) n ∙ ap (drop (length (take at bytes))) e ∙ drop-append_seam (take at bytes) b)),
    )

pub after_zero : (s : Stream) (first : ℕ) → width first ≡ 0 → ReadsAfter first s (Err NotUtf8) s
after_zero s first h = record {
  counts = omega arith;
  failed = λ e. absurd e;
  scalar = tt;
  told = both_same s.bytes s.bytes (λ a b. CharRead (Some (Err NotUtf8)) (first ∷ a) b) (λ a. zero_width first a h) refl;
}

abbrev pub SoFar : ℕ → ℕ → List ℕ → List ℕ → List ℕ → Type 0
SoFar first at bytes a b = first ∷ a ≡ take at bytes ++ b

pub after_ended : (s m t : Stream) (first at : ℕ) (bytes : List ℕ) → s.faults ≤ m.faults → at ≤ length bytes → 1 ≤ at → at < width first
    → Both s.bytes m.bytes (SoFar first at bytes) → ReadsByte m (Ok None) t → ReadsAfter first s (Err NotUtf8) t
after_ended s m t first at bytes low l some h told r = record {
  counts = let high = r.counts in omega arith;
  failed = λ e. absurd e;
  scalar = tt;
  told = both_then s.bytes m.bytes t.bytes (SoFar first at bytes) (ByteRead (Ok None)) (λ a c. CharRead (Some (Err NotUtf8)) (first ∷ a) c)
      (λ a b c p q. ended first at bytes a b c l some h p q) told r.told;
}

pub after_spelled : (s t : Stream) (first at c : ℕ) (bytes : List ℕ) → s.faults ≤ t.faults → IsScalar c → take at bytes ≡ encode c
    → Both s.bytes t.bytes (SoFar first at bytes) → ReadsAfter first s (Ok c) t
after_spelled s t first at c bytes low scalar_c h told = record {
  counts = low;
  failed = λ e. absurd e;
  scalar = scalar_c;
  told = both_map s.bytes t.bytes (SoFar first at bytes) (λ a b. CharRead (Some (Ok c)) (first ∷ a) b) (λ a b p. spelled_so first at bytes a b c p h) told;
}

pub after_not : (s t : Stream) (first at : ℕ) (bytes : List ℕ) → s.faults ≤ t.faults → at ≤ length bytes → 1 ≤ at → width first ≡ at
    → get_or bytes 0 0 ≡ first
    → ((c : ℕ) (more : List ℕ) → IsScalar c → take at bytes ≢ encode c ++ more) → Both s.bytes t.bytes (SoFar first at bytes)
    → ReadsAfter first s (Err NotUtf8) t
after_not s t first at bytes low l some w f h told = record {
  counts = low;
  failed = λ e. absurd e;
  scalar = tt;
  told = both_map s.bytes t.bytes (SoFar first at bytes) (λ a b. CharRead (Some (Err NotUtf8)) (first ∷ a) b) (λ a b p. spelled_not first at bytes a b l some w f p h) told;
}

-- what a text's first character is
pub first_of : (Q : Type 0) (bytes rest after : List ℕ) (r : Option ℕ) → rest ≡ bytes → 0 < length bytes → width (get_or bytes 0 0) ≡ length bytes
    → MatchOption r ((length rest ≡ 0) × Q) (λ c. rest ≡ encode c ++ after) → MatchOption r (Unit {0}) (λ c. IsScalar c)
    → MatchOption r ((c : ℕ) (more : List ℕ) → IsScalar c → bytes ≢ encode c ++ more) (λ c. bytes ≡ encode c)
first_of Q bytes rest after None e some w h s = let none = h.0 in absurd (omega (arith, ap length e))
first_of Q bytes rest after (Some c) e some w h s = whole bytes after c s w (sym e ∙ h)

pub width_le : (b : ℕ) → width b ≤ 4
width_le b = grind (arith, nat_tests)
