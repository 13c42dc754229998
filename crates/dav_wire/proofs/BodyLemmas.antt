-- Whole chunks at the front of a text.
use Rattle.std.proofs.Common.{◌≡◌, ℕ, ◌<◌, ◌≤◌, List, [], ◌∷◌, ◌++◌, length, refl, sym, ap, ap₂, ◌∙◌, subst, arith, append_assoc, append-nil}
use Rattle.std.specs.List.{concat}
use Rattle.std.proofs.lemmas.List.{append_cancel_left}
use Rattle.std.proofs.lemmas.List.Folds.{concat-append}
use Rattle.dav_wire.specs.Bodies.{most_body, IsBody, HasFront, BeginsBody}
use Rattle.dav_wire.specs.Chunks.{line_end, HasSize, HasChunks, HasBody}
use Rattle.dav_wire.specs.declared.announcing.Announced.TheVariants.{InChunks}
use Rattle.dav_wire.proofs.Chunking.{size_once, size_stays, front_once}

pub front_stays : (text : List ℕ) (pieces : List (List ℕ)) (rest more : List ℕ) → HasFront text pieces rest
    → HasFront (text ++ more) pieces (rest ++ more)
front_stays text [] rest more same = ap (λ x. x ++ more) same
front_stays text (piece ∷ pieces) rest more (some, after, size, later) = (
  some,
  after ++ more,
  subst (λ (x : List ℕ). HasSize (text ++ more) (length piece) x) (append_assoc piece (line_end ++ after) more)
      (size_stays text (length piece) (piece ++ (line_end ++ after)) more size),
  front_stays after pieces rest more later,
)

-- one chunk more
front_more : (text : List ℕ) (pieces : List (List ℕ)) (rest piece after : List ℕ) → HasFront text pieces rest → 0 < length piece
    → HasSize rest (length piece) (piece ++ (line_end ++ after)) → HasFront text (pieces ++ piece ∷ []) after
front_more text [] rest piece after same some size =
    (some, after, subst (λ (x : List ℕ). HasSize x (length piece) (piece ++ (line_end ++ after))) same size, refl)
front_more text (first ∷ pieces) rest piece after (any, then, line, later) some size =
    (any, then, line, front_more then pieces rest piece after later some size)

-- and the last one
front_ends : (text : List ℕ) (pieces : List (List ℕ)) (rest after : List ℕ) → HasFront text pieces rest → HasSize rest 0 (line_end ++ after)
    → HasChunks text pieces after
front_ends text [] rest after same last = subst (λ (x : List ℕ). HasSize x 0 (line_end ++ after)) same last
front_ends text (piece ∷ pieces) rest after (some, then, line, later) last = (some, then, line, front_ends then pieces rest after later last)

-- Chunks that a body has begin with those that stand at its front.
front_splits : (text : List ℕ) (pieces others : List (List ℕ)) (rest behind : List ℕ) → HasFront text pieces rest → HasChunks text others behind
    → (more : List (List ℕ)) × (others ≡ pieces ++ more) × HasChunks rest more behind
front_splits text [] others rest behind same chunks = (others, refl, subst (λ (x : List ℕ). HasChunks x others behind) (sym same) chunks)
front_splits text (piece ∷ pieces) [] rest behind (some, after, line, later) last =
    let same = (size_once text (length piece) 0 (piece ++ (line_end ++ after)) (line_end ++ behind) line last).0 in
    absurd (omega arith)
front_splits text (piece ∷ pieces) (other ∷ others) rest behind (some, after, line, later) (any, then, size, more) =
    let sizes = size_once text (length piece) (length other) (piece ++ (line_end ++ after)) (other ++ (line_end ++ then)) line size in
    let split = front_once piece other (line_end ++ after) (line_end ++ then) sizes.0 sizes.1 in
    let same = append_cancel_left line_end after then split.1 in
    let left = front_splits after pieces others rest behind later (subst (λ (x : List ℕ). HasChunks x others behind) (sym same) more) in
    (left.0, ap₂ (λ (x : List ℕ) (xs : List (List ℕ)). x ∷ xs) (sym split.0) left.1, left.2)

pub begins_stays : (text begun rest more : List ℕ) → BeginsBody text begun rest → BeginsBody (text ++ more) begun (rest ++ more)
begins_stays text begun rest more b = record { pieces = b.pieces; front = front_stays text b.pieces rest more b.front; joined = b.joined; few = b.few }

pub begins_more : (text begun rest piece after : List ℕ) → BeginsBody text begun rest → 0 < length piece
    → HasSize rest (length piece) (piece ++ (line_end ++ after)) → length (begun ++ piece) ≤ most_body → BeginsBody text (begun ++ piece) after
begins_more text begun rest piece after b some size few = record {
  pieces = b.pieces ++ piece ∷ [];
  front = front_more text b.pieces rest piece after b.front some size;
  joined = concat-append b.pieces (piece ∷ []) ∙ ap₂ (λ (x y : List ℕ). x ++ y) b.joined (append-nil piece);
  few = few;
}

pub begins_ends : (text begun rest after : List ℕ) → BeginsBody text begun rest → HasSize rest 0 (line_end ++ after)
    → IsBody InChunks text begun after
begins_ends text begun rest after b last =
    (b.few, record { pieces = b.pieces; chunks = front_ends text b.pieces rest after b.front last; joined = b.joined })

-- A body begins with the chunks that stand at its front, and behind them stand its others.
pub begins_splits : (text begun rest body behind : List ℕ) → BeginsBody text begun rest → HasBody text body behind
    → (more : List ℕ) × (body ≡ begun ++ more) × HasBody rest more behind
begins_splits text begun rest body behind b has =
    let split = front_splits text b.pieces has.pieces rest behind b.front has.chunks in (
      concat split.0,
      sym has.joined ∙ ap concat split.1 ∙ concat-append b.pieces split.0 ∙ ap (λ x. x ++ concat split.0) b.joined,
      record { pieces = split.0; chunks = split.2; joined = refl },
    )
