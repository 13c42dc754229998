-- A body in chunks is read in one way, and written chunks are read back.
use Rattle.std.proofs.Common.{◌≡◌, ◌≢◌, ℕ, ◌<◌, false, List, [], ◌∷◌, ◌++◌, length, take, drop, All, refl, sym, ap, ap₂, ◌∙◌, subst, arith, append_assoc}
use Rattle.std.specs.Char.{digit_value}
use Rattle.std.specs.Fmt.{digits}
use Rattle.std.specs.List.{flat_map, concat, AllByRecursion}
use Rattle.std.specs.Str.Parse.{AllDigits, digits_value}
use Rattle.std.proofs.lemmas.List.{append_cancel_left}
use Rattle.std.proofs.lemmas.List.Elements.{All-head, All-tail}
use Rattle.std.proofs.Math.Seq.{take-append_seam, drop-append_seam}
use Rattle.dav_wire.specs.declared.chunks.Framing.TheVariants.{Raw, Chunked}
use Rattle.dav_wire.specs.Chunks.{line_end, chunk, last_chunk, written, ending, IsPiece, IsWithinLine, IsExtension, HasSize, HasChunks, HasBody}
use Rattle.dav_wire.proofs.Sizes.{digits_are_size}

-- What of a text is in front of the first byte without a property is determined, and so is what stands behind it.
pub split_once : (P : ℕ → Type 0) (front other : List ℕ) (x y : ℕ) (rest behind : List ℕ) → AllByRecursion P front → AllByRecursion P other
    → (P x → ⊥) → (P y → ⊥) → front ++ x ∷ rest ≡ other ++ y ∷ behind → (front ≡ other) × (x ∷ rest ≡ y ∷ behind)
split_once P [] [] x y rest behind all none not_x not_y e = (refl, e)
split_once P [] (c ∷ other) x y rest behind all (is, more) not_x not_y e =
    let same : x ≡ c = cc in absurd (not_x (subst P (sym same) is))
split_once P (c ∷ front) [] x y rest behind (is, more) none not_x not_y e =
    let same : c ≡ y = cc in absurd (not_y (subst P same is))
split_once P (c ∷ front) (d ∷ other) x y rest behind (is, more) (too, all) not_x not_y e =
    let first : c ≡ d = cc in
    let later : front ++ x ∷ rest ≡ other ++ y ∷ behind = cc in
    let split = split_once P front other x y rest behind more all not_x not_y later in
    (ap₂ (λ (b : ℕ) (bs : List ℕ). b ∷ bs) first split.0, split.1)

abbrev pub IsDigit : ℕ → Type 0
IsDigit c = digit_value c < 16

pub digits_each : (text : List ℕ) → AllDigits 16 text → AllByRecursion IsDigit text
digits_each [] all = tt
digits_each (c ∷ text) all = (all.0, digits_each text all.1)

abbrev pub IsNoReturn : ℕ → Type 0
IsNoReturn c = c ≢ 13

pub no_returns : (bytes : List ℕ) → All IsWithinLine bytes → AllByRecursion IsNoReturn bytes
no_returns [] all = tt
no_returns (b ∷ bytes) all = ((All-head IsWithinLine b bytes all).0, no_returns bytes (All-tail IsWithinLine b bytes all))

-- an extension ends before the end of its line
pub extension_each : (extension : List ℕ) → IsExtension extension → AllByRecursion IsNoReturn extension
extension_each [] is = tt
extension_each (b ∷ bytes) is = (λ e. let no : 59 ≡ 13 = sym is.0 ∙ e in absurd (omega (arith, no)), no_returns bytes is.2)

-- what stands behind a size begins with no digit
abbrev pub BeginsWithoutDigit : List ℕ → Type 0
BeginsWithoutDigit text = (x : ℕ) × (rest : List ℕ) × (text ≡ x ∷ rest) × (IsDigit x → ⊥)

pub behind_size : (extension rest : List ℕ) → IsExtension extension → BeginsWithoutDigit (extension ++ (line_end ++ rest))
behind_size [] rest is = (13, 10 ∷ rest, refl, λ h. absurd (omega (arith, h)))
behind_size (b ∷ bytes) rest is =
    (b, bytes ++ (line_end ++ rest), refl, λ h. let no : IsDigit 59 = subst IsDigit is.0 h in absurd (omega (arith, no)))

pub line_once : (extension other rest behind : List ℕ) → IsExtension extension → IsExtension other
    → extension ++ (line_end ++ rest) ≡ other ++ (line_end ++ behind) → rest ≡ behind
line_once extension other rest behind is too e =
    let split = split_once IsNoReturn extension other 13 13 (10 ∷ rest) (10 ∷ behind) (extension_each extension is) (extension_each other too) (λ h. h refl) (λ h. h refl) e in
    append_cancel_left line_end rest behind split.1

-- at most one line with a size stands at the front
pub size_once : (text : List ℕ) (size other : ℕ) (rest behind : List ℕ) → HasSize text size rest → HasSize text other behind
    → (size ≡ other) × (rest ≡ behind)
size_once text size other rest behind a b =
    let first = behind_size a.extension rest a.extension_is in
    let second = behind_size b.extension behind b.extension_is in
    let e : a.number ++ first.0 ∷ first.1 ≡ b.number ++ second.0 ∷ second.1 =
    ap (λ x. a.number ++ x) (sym first.2) ∙ sym a.whole ∙ b.whole ∙ ap (λ x. b.number ++ x) second.2 in
    let split = split_once IsDigit a.number b.number first.0 second.0 first.1 second.1 (digits_each a.number a.number_is.hexadecimal) (digits_each b.number b.number_is.hexadecimal) first.3 second.3 e in (
      sym a.number_is.value ∙ ap (digits_value 16) split.0 ∙ b.number_is.value,
      line_once a.extension b.extension rest behind a.extension_is b.extension_is (first.2 ∙ split.1 ∙ sym second.2),
    )

-- two texts of one length in front of others
pub front_once : (piece other rest behind : List ℕ) → length piece ≡ length other → piece ++ rest ≡ other ++ behind
    → (piece ≡ other) × (rest ≡ behind)
front_once piece other rest behind long e = (
  sym (take-append_seam piece rest) ∙ ap (take (length piece)) e ∙ ap (λ n. take n (other ++ behind)) long ∙ take-append_seam other behind,
  sym (drop-append_seam piece rest) ∙ ap (drop (length piece)) e ∙ ap (λ n. drop n (other ++ behind)) long ∙ drop-append_seam other behind,
)

pub chunks_once : (text : List ℕ) (pieces others : List (List ℕ)) (rest behind : List ℕ) → HasChunks text pieces rest → HasChunks text others behind
    → (pieces ≡ others) × (rest ≡ behind)
chunks_once text [] [] rest behind a b =
    (refl, append_cancel_left line_end rest behind (size_once text 0 0 (line_end ++ rest) (line_end ++ behind) a b).1)
chunks_once text [] (other ∷ others) rest behind a (some, after, size, more) =
    let same = (size_once text 0 (length other) (line_end ++ rest) (other ++ (line_end ++ after)) a size).0 in
    absurd (omega arith)
chunks_once text (piece ∷ pieces) [] rest behind (some, after, size, more) b =
    let same = (size_once text (length piece) 0 (piece ++ (line_end ++ after)) (line_end ++ behind) size b).0 in
    absurd (omega arith)
chunks_once text (piece ∷ pieces) (other ∷ others) rest behind (some, after, size, more) (few, then, long, later) =
    let sizes = size_once text (length piece) (length other) (piece ++ (line_end ++ after)) (other ++ (line_end ++ then)) size long in
    let split = front_once piece other (line_end ++ after) (line_end ++ then) sizes.0 sizes.1 in
    let same = append_cancel_left line_end after then split.1 in
    let rests = chunks_once then pieces others rest behind (subst (λ (x : List ℕ). HasChunks x pieces rest) same more) later in
    (ap₂ (λ (x : List ℕ) (xs : List (List ℕ)). x ∷ xs) split.0 rests.0, rests.1)

pub body_once : (text body other rest behind : List ℕ) → HasBody text body rest → HasBody text other behind → (body ≡ other) × (rest ≡ behind)
body_once text body other rest behind a b =
    let same = chunks_once text a.pieces b.pieces rest behind a.chunks b.chunks in
    (sym a.joined ∙ ap concat same.0 ∙ b.joined, same.1)

pub size_stays : (text : List ℕ) (size : ℕ) (rest more : List ℕ) → HasSize text size rest → HasSize (text ++ more) size (rest ++ more)
size_stays text size rest more has = record {
  number = has.number;
  extension = has.extension;
  whole = ap (λ x. x ++ more) has.whole ∙ append_assoc has.number (has.extension ++ (line_end ++ rest)) more
      ∙ ap (λ x. has.number ++ x) (append_assoc has.extension (line_end ++ rest) more);
  number_is = has.number_is;
  extension_is = has.extension_is;
}

chunks_stay : (text : List ℕ) (pieces : List (List ℕ)) (rest more : List ℕ) → HasChunks text pieces rest
    → HasChunks (text ++ more) pieces (rest ++ more)
chunks_stay text [] rest more has = size_stays text 0 (line_end ++ rest) more has
chunks_stay text (piece ∷ pieces) rest more (some, after, size, later) = (
  some,
  after ++ more,
  subst (λ (x : List ℕ). HasSize (text ++ more) (length piece) x) (append_assoc piece (line_end ++ after) more)
      (size_stays text (length piece) (piece ++ (line_end ++ after)) more size),
  chunks_stay after pieces rest more later,
)

pub body_stays : (text body rest more : List ℕ) → HasBody text body rest → HasBody (text ++ more) body (rest ++ more)
body_stays text body rest more has = record { pieces = has.pieces; chunks = chunks_stay text has.pieces rest more has.chunks; joined = has.joined }

-- a chunk stands in front of what follows it
chunk_whole : (piece text : List ℕ) → chunk piece ++ text ≡ digits 16 false (length piece) ++ (line_end ++ (piece ++ (line_end ++ text)))
chunk_whole piece text =
    append_assoc (digits 16 false (length piece) ++ line_end) (piece ++ line_end) text
    ∙ append_assoc (digits 16 false (length piece)) line_end ((piece ++ line_end) ++ text)
    ∙ ap (λ x. digits 16 false (length piece) ++ (line_end ++ x)) (append_assoc piece line_end text)

pub chunks_back : (pieces : List (List ℕ)) (behind : List ℕ) → All IsPiece pieces
    → HasChunks (flat_map chunk pieces ++ (last_chunk ++ behind)) pieces behind
chunks_back [] behind all = record {
  number = 48 ∷ [];
  extension = [];
  whole = refl;
  number_is = record { some = omega arith; few = omega arith; hexadecimal = (omega arith, tt); value = refl };
  extension_is = tt;
}
chunks_back (piece ∷ pieces) behind all =
    let is = All-head IsPiece piece pieces all in
    let after = flat_map chunk pieces ++ (last_chunk ++ behind) in (
      is.0,
      after,
      record {
        number = digits 16 false (length piece);
        extension = [];
        whole = append_assoc (chunk piece) (flat_map chunk pieces) (last_chunk ++ behind) ∙ chunk_whole piece after;
        number_is = digits_are_size (length piece) is.1;
        extension_is = tt;
      },
      chunks_back pieces behind (All-tail IsPiece piece pieces all),
    )

pub body_back : (pieces : List (List ℕ)) (behind : List ℕ) → All IsPiece pieces
    → HasBody (flat_map (written Chunked) pieces ++ (ending Chunked ++ behind)) (concat pieces) behind
body_back pieces behind all = record { pieces = pieces; chunks = chunks_back pieces behind all; joined = refl }

pub raw_back : (pieces : List (List ℕ)) → flat_map (written Raw) pieces ++ ending Raw ≡ concat pieces
raw_back [] = refl
raw_back (piece ∷ pieces) = append_assoc piece (flat_map (written Raw) pieces) [] ∙ ap (λ x. piece ++ x) (raw_back pieces)
