-- At each text one of three stands: a body, a refusal, or an unfinished body.
use Rattle.std.proofs.Common.{◌≡◌, ◌≢◌, ℕ, zero, suc, ◌+◌, ◌-◌, ◌<◌, ◌≤◌, ◌⊎◌, List, [], ◌∷◌, ◌++◌, length, take, drop, All, get_or, refl, sym, ap, ◌∙◌, subst, arith, inl, inr, append_assoc, append-nil, length-append, replicate}
use Rattle.std.specs.Char.{digit_value}
use Rattle.std.specs.Str.Parse.{digits_value}
use Rattle.std.proofs.lemmas.Bool.{cases_lt}
use Rattle.std.proofs.lemmas.List.{take-append-drop, length-take-le, length-drop, length-replicate}
use Rattle.std.proofs.lemmas.List.Elements.{All-cons}
use Rattle.dav_wire.specs.Bodies.{most_body, IsBody, BeginsBody, HasPiece, IsShort, MayHavePiece, NeverHasPiece, bad_line, bad_piece, open_line, open_piece, broken, large, BodyRefusal, IsBodyUnfinished}
use Rattle.dav_wire.specs.Chunks.{line_end, HasSize, IsWithinLine}
use Rattle.dav_wire.specs.SizeLines.{FindsEnd, FindsSize, EndsExtension}
use Rattle.dav_wire.specs.declared.announcing.Announced.{Announced}
use Rattle.dav_wire.specs.declared.announcing.Announced.TheVariants.{Nothing, Sized, InChunks, Unclear}
use Rattle.dav_wire.specs.declared.next.Flaw.{Flaw}
use Rattle.dav_wire.specs.declared.next.Flaw.TheVariants.{Malformed, TooLarge}
use Rattle.dav_wire.specs.declared.size_line.EndFound.{EndFound}
use Rattle.dav_wire.specs.declared.size_line.EndFound.TheVariants.{Here, Partly, Nowhere}
use Rattle.dav_wire.specs.declared.size_line.SizeFound.{SizeFound}
use Rattle.dav_wire.specs.declared.size_line.SizeFound.TheVariants.{Line, More, Never}
use Rattle.dav_wire.proofs.BodyLemmas.{begins_more, begins_ends}
use Rattle.dav_wire.proofs.BodyStepping.{line_of}
use Rattle.dav_wire.proofs.Chunking.{front_once}
use Rattle.dav_wire.proofs.SizeReading.{Digits, Split, at_long, at_end, at_none, at_extension, at_nowhere, at_partly, at_here, partly_none, nowhere_first, partly_one, nowhere_second, here_both}

digits_of : (text : List ℕ) → (count : ℕ) × Digits text count
digits_of [] = (0, record { within = omega arith; all = tt; ends = λ less. absurd (omega arith) })
digits_of (x ∷ text) = elim (cases_lt (digit_value x) 16) [
  | inl digit ↦
      let more = digits_of text in
      let d = more.1 in
      (suc more.0, record { within = (let w = d.within in omega arith); all = (digit, d.all); ends = λ less. d.ends (omega arith) })
  | inr other ↦ (0, record { within = omega arith; all = tt; ends = λ less. other })
]

-- how many bytes stand in front of the first CR or LF
record Plain (text : List ℕ) (count : ℕ) : Type 0 where
  within : count ≤ length text
  all : All IsWithinLine (take count text)
  ends : count < length text → IsWithinLine (get_or text count 0) → ⊥

is_plain : (x : ℕ) → IsWithinLine x ⊎ (IsWithinLine x → ⊥)
is_plain x = elim (cases_lt x 13) [
  | inl below ↦ elim (cases_lt x 10) [
    | inl less ↦ inl (λ e. absurd (omega (arith, e)), λ e. absurd (omega (arith, e)))
    | inr more ↦ elim (cases_lt 10 x) [
      | inl above ↦ inl (λ e. absurd (omega (arith, e)), λ e. absurd (omega (arith, e)))
      | inr same ↦ inr (λ within. within.1 (omega arith))
    ]
  ]
  | inr from ↦ elim (cases_lt 13 x) [
    | inl above ↦ inl (λ e. absurd (omega (arith, e)), λ e. absurd (omega (arith, e)))
    | inr same ↦ inr (λ within. within.0 (omega arith))
  ]
]

plain_of : (text : List ℕ) → (count : ℕ) × Plain text count
plain_of [] = (0, record { within = omega arith; all = λ k d less. absurd (omega arith); ends = λ less. absurd (omega arith) })
plain_of (x ∷ text) = elim (is_plain x) [
  | inl is ↦
      let more = plain_of text in
      let p = more.1 in
      (suc more.0, record { within = (let w = p.within in omega arith); all = All-cons IsWithinLine x (take more.0 text) is p.all; ends = λ less. p.ends (omega arith) })
  | inr other ↦ (0, record { within = omega arith; all = λ k d less. absurd (omega arith); ends = λ less. other })
]

is_number : (x y : ℕ) → (x ≡ y) ⊎ (x ≢ y)
is_number x y = elim (cases_lt x y) [
  | inl less ↦ inr (λ e. absurd (omega (arith, e)))
  | inr from ↦ elim (cases_lt y x) [ inl more ↦ inr (λ e. absurd (omega (arith, e))) | inr to ↦ inl (omega arith) ]
]

extension_of : (behind : List ℕ) → 0 < length behind → (len : ℕ) × (len ≤ length behind) × EndsExtension behind len
extension_of [] some = absurd (omega arith)
extension_of (x ∷ bytes) some = elim (is_number x 59) [
  | inl semicolon ↦
      let plain = plain_of bytes in
      let p = plain.1 in
      let w : plain.0 ≤ length bytes = p.within in
      let same : suc plain.0 - 1 ≡ plain.0 = omega arith in (
        suc plain.0,
        omega arith,
        inr (record {
          some = omega arith;
          within = omega arith;
          semicolon = semicolon;
          all = subst (λ (k : ℕ). All IsWithinLine (take k bytes)) (sym same) p.all;
          ends = λ less. p.ends (omega arith);
        }),
      )
  | inr other ↦ (0, omega arith, inl (refl, other))
]

end_of : (text : List ℕ) → (found : EndFound) × FindsEnd text found
end_of [] = (Partly, partly_none [] refl)
end_of (x ∷ []) = elim (is_number x 13) [
  | inl is ↦ (Partly, partly_one (x ∷ []) (omega arith) (omega arith) is)
  | inr other ↦ (Nowhere, nowhere_first (x ∷ []) (omega arith) other)
]
end_of (x ∷ y ∷ text) = elim (is_number x 13) [
  | inr other ↦ (Nowhere, nowhere_first (x ∷ y ∷ text) (omega arith) other)
  | inl is ↦ elim (is_number y 10) [
    | inl too ↦ (Here, (omega arith, here_both (x ∷ y ∷ text) (omega arith) is too))
    | inr not_it ↦ (Nowhere, nowhere_second (x ∷ y ∷ text) (omega arith) not_it)
  ]
]

split_found : (text behind : List ℕ) (count len : ℕ) → Split text behind count len → len ≤ 257 → (found : SizeFound) × FindsSize text found
split_found text behind count len split few =
    let end = end_of (drop len behind) in
    elim end.0 as (λ e. FindsEnd (drop len behind) e → (found : SizeFound) × FindsSize text found) [
      | Here ↦ λ here. (Line (digits_value 16 (take count text)) (count + len + 2), at_here text behind (drop len behind) count len _ split few refl here refl)
      | Partly ↦ λ partly. (More, at_partly text behind (drop len behind) count len split few refl partly)
      | Nowhere ↦ λ none. (Never, at_nowhere text behind (drop len behind) count len split refl none)
    ] end.1

size_found : (text : List ℕ) → (found : SizeFound) × FindsSize text found
size_found text =
    let digits = digits_of text in
    let count = digits.0 in
    let d = digits.1 in
    let within = d.within in
    elim (cases_lt 16 count) [
      | inl long ↦ (Never, at_long text count d long)
      | inr few ↦ elim (is_number count (length text)) [
        | inl all ↦ (More, at_end text count d few all)
        | inr not_all ↦ elim (is_number count 0) [
          | inl none ↦ (Never, at_none text count d not_all none)
          | inr some ↦
              let left = length-drop count text in
              let extension = extension_of (drop count text) (omega arith) in
              let split : Split text (drop count text) count extension.0 =
              record { digits = d; few = few; not_all = not_all; not_none = some; behind_is = refl; within = extension.1; ends = extension.2 } in
              elim (cases_lt 257 extension.0) [
                | inl much ↦ (Never, at_extension text (drop count text) count extension.0 split much)
                | inr fits ↦ split_found text (drop count text) count extension.0 split fits
              ]
        ]
      ]
    ]

-- so many bytes and the end of a line
data PieceFound (size : ℕ) (text : List ℕ) : Type 0 where
  stands : (piece rest : List ℕ) → HasPiece size text piece rest → PieceFound size text
  short : IsShort size text → MayHavePiece size text → PieceFound size text
  never : NeverHasPiece size text → PieceFound size text

piece_found : (size : ℕ) (text : List ℕ) → PieceFound size text
piece_found size text = elim (cases_lt (length text) size) [
  | inl less ↦
      let zeros : List ℕ = replicate (size - length text) 0 in
      let long : length zeros ≡ size - length text = length-replicate (size - length text) 0 in
      let both = length-append text zeros in
      short (omega arith) (zeros ++ line_end, text ++ zeros, [], (omega arith, sym (append_assoc text zeros line_end) ∙ ap (λ x. (text ++ zeros) ++ x) (sym (append-nil line_end))))
  | inr from ↦
      let piece : List ℕ = take size text in
      let end : List ℕ = drop size text in
      let long : length piece ≡ size = length-take-le size text from in
      let left = length-drop size text in
      let whole : text ≡ piece ++ end = sym (take-append-drop size text) in
      let found = end_of end in
      elim found.0 as (λ e. FindsEnd end e → PieceFound size text) [
        | Here ↦ λ here. stands piece (drop 2 end) (long, whole ∙ ap (λ x. piece ++ x) here.1)
        | Partly ↦ λ partly. short (omega (arith, partly.0)) (
          partly.1,
          piece,
          [],
          (long, ap (λ x. x ++ partly.1) whole ∙ append_assoc piece end partly.1 ∙ ap (λ x. piece ++ x) (partly.2 ∙ sym (append-nil line_end))),
        )
        | Nowhere ↦ λ none. never (λ more other rest has.
            none more rest (front_once piece other (end ++ more) (line_end ++ rest) (long ∙ sym has.0)
            (sym (append_assoc piece end more) ∙ ap (λ x. x ++ more) (sym whole) ∙ has.1)).1)
      ] found.1
]

-- one of the three
pub data Found (announced : Announced) (text : List ℕ) : Type 0 where
  body : (bytes rest : List ℕ) → IsBody announced text bytes rest → Found announced text
  refused : (flaw : Flaw) → BodyRefusal announced text flaw → Found announced text
  unfinished : IsBodyUnfinished announced text → Found announced text

-- what stands behind shorter rests
abbrev Further : ℕ → Type 0
Further fuel = (text begun rest : List ℕ) → length rest < fuel → BeginsBody text begun rest → Found InChunks text

whole_found : (fuel : ℕ) → Further fuel → (text begun rest : List ℕ) → length rest < suc fuel → BeginsBody text begun rest
    → (n : ℕ) (behind piece after : List ℕ) → length behind < length rest → n ≤ most_body - length begun → HasSize rest n behind
    → HasPiece n behind piece after → Found InChunks text
whole_found fuel further text begun rest less begins n behind [] after shorter room line has =
    body begun after (begins_ends text begun rest after begins
    (subst (λ (k : ℕ). HasSize rest k (line_end ++ after)) (sym has.0) (subst (λ (x : List ℕ). HasSize rest n x) has.1 line)))
whole_found fuel further text begun rest less begins n behind (b ∷ piece) after shorter room line has =
    let chunk : List ℕ = b ∷ piece in
    let few = begins.few in
    let both = length-append begun chunk in
    let sizes = ap (length {A = ℕ}) has.1 in
    let parts = length-append chunk (line_end ++ after) in
    let long : length chunk ≡ n = has.0 in
    further text (begun ++ chunk) after (omega arith)
    (begins_more text begun rest chunk after begins (omega arith)
    (subst (λ (k : ℕ). HasSize rest k (chunk ++ (line_end ++ after))) (sym has.0) (subst (λ (x : List ℕ). HasSize rest n x) has.1 line))
    (omega arith))

sized_found : (fuel : ℕ) → Further fuel → (text begun rest : List ℕ) → length rest < suc fuel → BeginsBody text begun rest
    → (n : ℕ) (behind : List ℕ) → length behind < length rest → HasSize rest n behind → Found InChunks text
sized_found fuel further text begun rest less begins n behind shorter line = elim (cases_lt (most_body - length begun) n) [
  | inl much ↦ refused TooLarge (large begun rest behind n refl begins line (let few = begins.few in omega arith))
  | inr room ↦ elim (piece_found n behind) [
    | never none ↦ refused Malformed (broken begun rest refl begins (bad_piece n behind room line none))
    | short is may ↦ unfinished (record { begun = begun; rest = rest; begins = begins; unfinished = open_piece n behind room line is may })
    | stands piece after has ↦ whole_found fuel further text begun rest less begins n behind piece after shorter room line has
  ]
]

rest_found : (fuel : ℕ) → Further fuel → Further (suc fuel)
rest_found fuel further text begun rest less begins =
    let size = size_found rest in
    elim size.0 as (λ f. FindsSize rest f → Found InChunks text) [
      | Never ↦ λ none. refused Malformed (broken begun rest refl begins (bad_line none))
      | More ↦ λ still. unfinished (record { begun = begun; rest = rest; begins = begins; unfinished = open_line still.1 still.2 })
      | Line n len ↦ λ line. sized_found fuel further text begun rest less begins n (drop len rest)
          (let all = length-drop len rest in omega (arith, line.0, line.1)) (line_of rest n len line.2)
    ] size.1

chunks_found : (fuel : ℕ) → Further fuel
chunks_found zero text begun rest less begins = absurd (omega arith)
chunks_found (suc fuel) text begun rest less begins = rest_found fuel (chunks_found fuel) text begun rest less begins

pub found : (announced : Announced) (text : List ℕ) → Found announced text
found Nothing text = body [] text (refl, refl)
found Unclear text = refused Malformed refl
found (Sized size) text = elim (cases_lt most_body size) [
  | inl much ↦ refused TooLarge (refl, much)
  | inr few ↦ elim (cases_lt (length text) size) [
    | inl less ↦ unfinished (few, less)
    | inr all ↦ body (take size text) (drop size text) (few, length-take-le size text all, sym (take-append-drop size text))
  ]
]
found InChunks text =
    chunks_found (suc (length text)) text [] text (omega arith) (record { pieces = []; front = refl; joined = refl; few = omega arith })
