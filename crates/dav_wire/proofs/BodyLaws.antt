-- At each text one of three: a body stands there, a refusal is owed, or the body is unfinished.
use Rattle.std.proofs.Common.{◌≡◌, ℕ, ◌+◌, ◌-◌, ◌<◌, ◌≤◌, List, [], ◌∷◌, ◌++◌, length, refl, sym, ap, ap₂, ◌∙◌, subst, arith, append_assoc, append-nil, length-append}
use Rattle.std.specs.List.{concat}
use Rattle.std.proofs.lemmas.List.{append_cancel_left}
use Rattle.dav_wire.specs.Announced.{announced_in, announced_by, announces}
use Rattle.dav_wire.specs.Bodies.{most_body, IsBody, HasNoBody, HasFront, BeginsBody, NeverHasSize, HasPiece, NeverHasPiece, BreaksChunk, bad_line, bad_piece, IsChunkUnfinished, open_line, open_piece, ChunksRefusal, broken, large, BodyRefusal, IsBodyUnfinished}
use Rattle.dav_wire.specs.Chunks.{line_end, HasSize, HasChunks, HasBody}
use Rattle.dav_wire.specs.Heads.{IsRead}
use Rattle.http.specs.declared.request.Parts.{Parts}
use Rattle.httparse.specs.Grammar.{RequestHead}
use Rattle.dav_wire.specs.declared.announcing.Announced.{Announced}
use Rattle.dav_wire.specs.declared.announcing.Announced.TheVariants.{Nothing, Sized, InChunks, Unclear}
use Rattle.dav_wire.specs.declared.next.Flaw.{Flaw}
use Rattle.dav_wire.proofs.BodyLemmas.{begins_stays, begins_splits}
use Rattle.dav_wire.proofs.Chunking.{size_once, size_stays, front_once, body_once, body_stays}

pub parts_announce : (head : RequestHead) (parts : Parts) → IsRead head parts → announced_by parts ≡ announces head
parts_announce head parts read = ap₂ announced_in read.version read.headers

pub bodies_are_one : (announced : Announced) (text body other rest behind : List ℕ) → IsBody announced text body rest
    → IsBody announced text other behind
    → (body ≡ other) × (rest ≡ behind)
bodies_are_one Nothing text body other rest behind a b = (a.0 ∙ sym b.0, a.1 ∙ sym b.1)
bodies_are_one (Sized size) text body other rest behind a b = front_once body other rest behind (a.1 ∙ sym b.1) (sym a.2 ∙ b.2)
bodies_are_one InChunks text body other rest behind a b = body_once text body other rest behind a.1 b.1
bodies_are_one Unclear text body other rest behind a b = absurd a

pub bodies_stay : (announced : Announced) (text body rest more : List ℕ) → IsBody announced text body rest
    → IsBody announced (text ++ more) body (rest ++ more)
bodies_stay Nothing text body rest more a = (a.0, ap (λ x. x ++ more) a.1)
bodies_stay (Sized size) text body rest more a = (a.0, a.1, ap (λ x. x ++ more) a.2 ∙ append_assoc body rest more)
bodies_stay InChunks text body rest more a = (a.0, body_stays text body rest more a.1)
bodies_stay Unclear text body rest more a = absurd a

-- what a chunk can't be

never_size_more : (text more : List ℕ) → NeverHasSize text → NeverHasSize (text ++ more)
never_size_more text more never later size rest has =
    never (more ++ later) size rest (subst (λ (x : List ℕ). HasSize x size rest) (append_assoc text more later) has)

never_piece_more : (size : ℕ) (text more : List ℕ) → NeverHasPiece size text → NeverHasPiece size (text ++ more)
never_piece_more size text more never later piece rest has = never (more ++ later) piece rest (has.0, sym (append_assoc text more later) ∙ has.1)

never_size_now : (text : List ℕ) (size : ℕ) (rest : List ℕ) → NeverHasSize text → HasSize text size rest → ⊥
never_size_now text size rest never has = never [] size rest (subst (λ (x : List ℕ). HasSize x size rest) (sym (append-nil text)) has)

never_piece_now : (size : ℕ) (text piece rest : List ℕ) → NeverHasPiece size text → HasPiece size text piece rest → ⊥
never_piece_now size text piece rest never has = never [] piece rest (has.0, append-nil text ∙ has.1)

breaks_more : (room : ℕ) (text more : List ℕ) → BreaksChunk room text → BreaksChunk room (text ++ more)
breaks_more room text more (bad_line never) = bad_line (never_size_more text more never)
breaks_more room text more (bad_piece size behind fits line never) =
    bad_piece size (behind ++ more) fits (size_stays text size behind more line) (never_piece_more size behind more never)

-- A whole chunk: the line with its size, its bytes and the end of a line.
abbrev IsChunk : List ℕ → List ℕ → List ℕ → Type 0
IsChunk text piece after = HasSize text (length piece) (piece ++ (line_end ++ after))

piece_of : (text piece after behind : List ℕ) (size : ℕ) → IsChunk text piece after → HasSize text size behind → HasPiece size behind piece after
piece_of text piece after behind size chunk line =
    let same = size_once text size (length piece) behind (piece ++ (line_end ++ after)) line chunk in
    (sym same.0, same.1)

whole_not_broken : (room : ℕ) (text piece after : List ℕ) → IsChunk text piece after → BreaksChunk room text → ⊥
whole_not_broken room text piece after chunk (bad_line never) = never_size_now text (length piece) _ never chunk
whole_not_broken room text piece after chunk (bad_piece size behind fits line never) =
    never_piece_now size behind piece after never (piece_of text piece after behind size chunk line)

whole_not_open : (room : ℕ) (text piece after : List ℕ) → IsChunk text piece after → IsChunkUnfinished room text → ⊥
whole_not_open room text piece after chunk (open_line none may) = none (length piece) _ chunk
whole_not_open room text piece after chunk (open_piece size behind fits line short may) =
    let is = piece_of text piece after behind size chunk line in
    let sizes = ap (length {A = ℕ}) is.1 in
    let both = length-append piece (line_end ++ after) in
    let long = is.0 in
    omega arith

open_not_broken : (room other : ℕ) (text : List ℕ) → IsChunkUnfinished room text → BreaksChunk other text → ⊥
open_not_broken room other text (open_line none (more, size, rest, has)) (bad_line never) = never more size rest has
open_not_broken room other text (open_line none may) (bad_piece size behind fits line never) = none size behind line
open_not_broken room other text (open_piece size behind fits line short may) (bad_line never) = never_size_now text size behind never line
open_not_broken room other text (open_piece size behind fits line short (more, piece, rest, has)) (bad_piece again after within too never) =
    let same = size_once text size again behind after line too in
    never more piece rest (has.0 ∙ same.0, ap (λ x. x ++ more) (sym same.1) ∙ has.1)

-- a line with a size for which there is no room
large_not_broken : (room size : ℕ) (text behind : List ℕ) → room < size → HasSize text size behind → BreaksChunk room text → ⊥
large_not_broken room size text behind much line (bad_line never) = never_size_now text size behind never line
large_not_broken room size text behind much line (bad_piece other after fits too never) =
    let same = (size_once text size other behind after line too).0 in omega arith

large_not_open : (room size : ℕ) (text behind : List ℕ) → room < size → HasSize text size behind → IsChunkUnfinished room text → ⊥
large_not_open room size text behind much line (open_line none may) = none size behind line
large_not_open room size text behind much line (open_piece other after fits too short may) =
    let same = (size_once text size other behind after line too).0 in omega arith

-- Of two fronts of whole chunks one goes on from the other.
data Compared (begun rest other behind : List ℕ) : Type 0 where
  same : begun ≡ other → rest ≡ behind → Compared begun rest other behind
  first : (piece after : List ℕ) → IsChunk rest piece after → length begun + length piece ≤ length other → Compared begun rest other behind
  second : (piece after : List ℕ) → IsChunk behind piece after → length other + length piece ≤ length begun → Compared begun rest other behind

compare_fronts : (text : List ℕ) (pieces others : List (List ℕ)) (rest behind : List ℕ) → HasFront text pieces rest → HasFront text others behind
    → Compared (concat pieces) rest (concat others) behind
compare_fronts text [] [] rest behind a b = same refl (a ∙ sym b)
compare_fronts text [] (other ∷ others) rest behind a (some, after, line, later) =
    first other after (subst (λ (x : List ℕ). IsChunk x other after) (sym a) line) (omega (arith, length-append other (concat others)))
compare_fronts text (piece ∷ pieces) [] rest behind (some, after, line, later) b =
    second piece after (subst (λ (x : List ℕ). IsChunk x piece after) (sym b) line) (omega (arith, length-append piece (concat pieces)))
compare_fronts text (piece ∷ pieces) (other ∷ others) rest behind (some, after, line, later) (any, then, size, more) =
    let sizes = size_once text (length piece) (length other) (piece ++ (line_end ++ after)) (other ++ (line_end ++ then)) line size in
    let split = front_once piece other (line_end ++ after) (line_end ++ then) sizes.0 sizes.1 in
    let place = append_cancel_left line_end after then split.1 in
    elim (compare_fronts after pieces others rest behind later (subst (λ (x : List ℕ). HasFront x others behind) (sym place) more)) [
      | same e f ↦ same (ap₂ (λ (x y : List ℕ). x ++ y) split.0 e) f
      | first next end chunk few ↦
          first next end chunk (let a = length-append piece (concat pieces) in let b = length-append other (concat others) in let long = sizes.0 in omega arith)
      | second next end chunk few ↦
          second next end chunk (let a = length-append piece (concat pieces) in let b = length-append other (concat others) in let long = sizes.0 in omega arith)
    ]

compare : (text begun other rest behind : List ℕ) → BeginsBody text begun rest → BeginsBody text other behind → Compared begun rest other behind
compare text begun other rest behind a b =
    subst (λ (x : List ℕ). Compared x rest other behind) a.joined
    (subst (λ (x : List ℕ). Compared (concat a.pieces) rest x behind) b.joined (compare_fronts text a.pieces b.pieces rest behind a.front b.front))

-- refusals

chunks_refusal_stays : (text more : List ℕ) (flaw : Flaw) → ChunksRefusal text flaw → ChunksRefusal (text ++ more) flaw
chunks_refusal_stays text more flaw (broken begun rest is begins breaks) =
    broken begun (rest ++ more) is (begins_stays text begun rest more begins) (breaks_more (most_body - length begun) rest more breaks)
chunks_refusal_stays text more flaw (large begun rest behind size is begins line much) =
    large begun (rest ++ more) (behind ++ more) size is (begins_stays text begun rest more begins) (size_stays rest size behind more line) much

pub body_refusal_stays : (announced : Announced) (text more : List ℕ) (flaw : Flaw) → BodyRefusal announced text flaw
    → BodyRefusal announced (text ++ more) flaw
body_refusal_stays Nothing text more flaw refused = refused
body_refusal_stays (Sized size) text more flaw refused = refused
body_refusal_stays InChunks text more flaw refused = chunks_refusal_stays text more flaw refused
body_refusal_stays Unclear text more flaw refused = refused

-- what a body behind whole chunks begins with: a chunk, or the last one
data Goes (rest more : List ℕ) : Type 0 where
  chunk : (piece after : List ℕ) → IsChunk rest piece after → length piece ≤ length more → Goes rest more

goes : (rest more behind : List ℕ) → HasBody rest more behind → Goes rest more
goes rest more behind has = on has.pieces has.chunks has.joined
  where
    on : (pieces : List (List ℕ)) → HasChunks rest pieces behind → concat pieces ≡ more → Goes rest more
    on [] last joined = chunk [] behind last (omega arith)
    on (piece ∷ pieces) (some, after, line, later) joined =
        chunk piece after line (let size = ap (length {A = ℕ}) joined in let both = length-append piece (concat pieces) in omega arith)

chunks_refused_none : (text : List ℕ) (flaw : Flaw) (body behind : List ℕ) → ChunksRefusal text flaw → IsBody InChunks text body behind → ⊥
chunks_refused_none text flaw body behind (broken begun rest is begins breaks) (few, has) =
    let split = begins_splits text begun rest body behind begins has in
    elim (goes rest split.0 behind split.2) [ chunk piece after line fits ↦ whole_not_broken (most_body - length begun) rest piece after line breaks ]
chunks_refused_none text flaw body behind (large begun rest after size is begins line much) (few, has) =
    let split = begins_splits text begun rest body behind begins has in
    let sizes = ap (length {A = ℕ}) split.1 in
    let both = length-append begun split.0 in
    elim (goes rest split.0 behind split.2) [
      | chunk piece then whole fits ↦
          let same = (size_once rest size (length piece) after (piece ++ (line_end ++ then)) line whole).0 in
          omega arith
    ]

body_refused_none : (announced : Announced) (text : List ℕ) (flaw : Flaw) → BodyRefusal announced text flaw → HasNoBody announced text
body_refused_none Nothing text flaw refused body rest is = refused
body_refused_none (Sized size) text flaw refused body rest is = let much = refused.1 in let few = is.0 in omega arith
body_refused_none InChunks text flaw refused body rest is = chunks_refused_none text flaw body rest refused is
body_refused_none Unclear text flaw refused body rest is = is

pub body_refusal_has_none : (announced : Announced) (text more : List ℕ) (flaw : Flaw) → BodyRefusal announced text flaw
    → HasNoBody announced (text ++ more)
body_refusal_has_none announced text more flaw refused =
    body_refused_none announced (text ++ more) flaw (body_refusal_stays announced text more flaw refused)

mixed : (text begun rest other behind after : List ℕ) (size : ℕ) → BeginsBody text begun rest → BreaksChunk (most_body - length begun) rest
    → BeginsBody text other behind → HasSize behind size after → most_body < length other + size → ⊥
mixed text begun rest other behind after size a breaks b line much =
    elim (compare text begun other rest behind a b) [
      | same e f ↦
          let long = ap (length {A = ℕ}) e in
          let few = a.few in
          large_not_broken (most_body - length begun) size rest after (omega arith) (subst (λ (x : List ℕ). HasSize x size after) (sym f) line) breaks
      | first piece then whole few ↦ whole_not_broken (most_body - length begun) rest piece then whole breaks
      | second piece then whole few ↦
          let is = (size_once behind size (length piece) after (piece ++ (line_end ++ then)) line whole).0 in
          let most = a.few in
          omega arith
    ]

pub body_flaws_are_one : (announced : Announced) (text : List ℕ) (flaw other : Flaw) → BodyRefusal announced text flaw
    → BodyRefusal announced text other → flaw ≡ other
body_flaws_are_one Nothing text flaw other a b = absurd a
body_flaws_are_one (Sized size) text flaw other a b = a.0 ∙ sym b.0
body_flaws_are_one InChunks text flaw other (broken begun rest is begins breaks) (broken begun' rest' is' begins' breaks') = is ∙ sym is'
body_flaws_are_one InChunks text flaw other (broken begun rest is begins breaks) (large begun' rest' behind' size' is' begins' line' much') =
    absurd (mixed text begun rest begun' rest' behind' size' begins breaks begins' line' much')
body_flaws_are_one InChunks text flaw other (large begun rest behind size is begins line much) (broken begun' rest' is' begins' breaks') =
    absurd (mixed text begun' rest' begun rest behind size begins' breaks' begins line much)
body_flaws_are_one InChunks text flaw other (large begun rest behind size is begins line much) (large begun' rest' behind' size' is' begins' line' much') = is ∙ sym is'
body_flaws_are_one Unclear text flaw other a b = a ∙ sym b

-- what is unfinished

pub unfinished_body_none : (announced : Announced) (text : List ℕ) → IsBodyUnfinished announced text → HasNoBody announced text
unfinished_body_none Nothing text still body rest is = still
unfinished_body_none (Sized size) text still body rest is =
    let sizes = ap (length {A = ℕ}) is.2 in
    let both = length-append body rest in
    let long = is.1 in
    let short = still.1 in
    omega arith
unfinished_body_none InChunks text still body rest is =
    let split = begins_splits text still.begun still.rest body rest still.begins is.1 in
    elim (goes still.rest split.0 rest split.2) [
      | chunk piece after whole fits ↦ whole_not_open (most_body - length still.begun) still.rest piece after whole still.unfinished
    ]
unfinished_body_none Unclear text still body rest is = still

pub unfinished_body_not_refused : (announced : Announced) (text : List ℕ) (flaw : Flaw) → IsBodyUnfinished announced text
    → BodyRefusal announced text flaw → ⊥
unfinished_body_not_refused Nothing text flaw still refused = still
unfinished_body_not_refused (Sized size) text flaw still refused = let few = still.0 in let much = refused.1 in omega arith
unfinished_body_not_refused InChunks text flaw still (broken begun rest is begins breaks) =
    elim (compare text still.begun begun still.rest rest still.begins begins) [
      | same e f ↦ open_not_broken (most_body - length still.begun) (most_body - length begun) rest
          (subst (IsChunkUnfinished (most_body - length still.begun)) f still.unfinished) breaks
      | first piece then whole few ↦ whole_not_open (most_body - length still.begun) still.rest piece then whole still.unfinished
      | second piece then whole few ↦ whole_not_broken (most_body - length begun) rest piece then whole breaks
    ]
unfinished_body_not_refused InChunks text flaw still (large begun rest behind size is begins line much) =
    elim (compare text still.begun begun still.rest rest still.begins begins) [
      | same e f ↦
          let long = ap (length {A = ℕ}) e in
          let few = begins.few in
          large_not_open (most_body - length still.begun) size still.rest behind (omega arith) (subst (λ (x : List ℕ). HasSize x size behind) (sym f) line) still.unfinished
      | first piece then whole few ↦ whole_not_open (most_body - length still.begun) still.rest piece then whole still.unfinished
      | second piece then whole few ↦
          let same_size = (size_once rest size (length piece) behind (piece ++ (line_end ++ then)) line whole).0 in
          let most = still.begins.few in
          omega arith
    ]
unfinished_body_not_refused Unclear text flaw still refused = still
