-- A piece leaves less of a body.
use Rattle.std.proofs.Common.{suc, Bool, true, false, refl, sym, ◌∙◌, inl, inr, arith}
use Rattle.std.specs.Prelude.{Option, ◌≡◌, ◌≤◌, ◌<◌, ◌+◌, ◌-◌, ◌==◌, ℕ, List, [], ◌∷◌, length, cond}
use Rattle.dav_core.specs.World.{World}
use Rattle.dav_io.specs.Counts.{Rose}
use Rattle.dav_model.specs.declared.answer.Answer.{Answer}
use Rattle.dav_model.specs.declared.answer.Answer.TheVariants.{Piece, End, Broken}
use Rattle.dav_model.specs.Bodies.{Part, Polls, bytes_left, size, text, slice}

moved_size : (b : Bool) (number start count n : ℕ) (parts : List Part) → ((count - n == 0) ≡ b) → 0 < n → n ≤ count
    → size (cond b parts (slice number (start + n) (count - n) ∷ parts)) < count + bytes_left parts + suc (length parts)
moved_size true number start count n parts e some within = omega arith
moved_size false number start count n parts e some within = omega arith

-- a piece leaves less
pub polls_shrink : (told : Option World) (whole : Bool) (most before after : ℕ) (left : List Part) (answer : Answer) (rest : List Part)
    → Polls told whole most (Rose before after) left answer rest → (piece : List ℕ) → answer ≡ Piece piece → size rest < size left
polls_shrink told whole most before after [] answer rest (e, none) piece f = let g : Piece piece ≡ End = sym f ∙ e in cc
polls_shrink told whole most before after (part ∷ parts) answer rest (inr (e, none, rose)) piece f = let g : Piece piece ≡ Broken = sym f ∙ e in cc
polls_shrink told whole most before after (text bytes ∷ parts) answer rest (inl (p, e, (is, are))) piece f = rw are (omega arith)
polls_shrink told whole most before after (slice number start count ∷ parts) answer rest (inl (p, e, (some, within, are, right))) piece f =
    rw are (moved_size _ number start count (length p) parts refl some within)
