-- Room for pieces that is as long as the longest slice.
use Rattle.std.proofs.Common.{◌≡◌, ◌≤◌, ℕ, min, max, List, [], ◌∷◌, vec_len, true, Result, Ok, Err, refl, inr, arith}
use Rattle.std.specs.Prelude.{IfOk}
use Rattle.std.specs.List.{list_all}
use Rattle.std.proofs.lemmas.Bool.Decides.{nat_tests}
use Rattle.dav_io.specs.declared.failure.NoMemory.{NoMemory}
use Rattle.dav_model.specs.Bodies.{zeros_size}
use Rattle.dav_model.specs.declared.ranges.Slice.{Slice}
use Rattle.dav_get.specs.declared.buffer.ReadBuffer.{ReadBuffer}
use Rattle.dav_get.specs.declared.part.BodyPart.{BodyPart}
use Rattle.dav_get.specs.declared.part.BodyPart.TheVariants.{Text, Slice as SliceOf}
use Rattle.dav_get.specs.Bodies.{has_room, is_part}
use Rattle.dav_get.specs.Prepared.{AreReady, longest}

slice_fits : (most n : ℕ) (slice : Slice) (parts : List BodyPart) → max slice.count (longest parts) ≤ n → has_room most (min n (max most zeros_size)) (SliceOf slice) ≡ true
slice_fits most n slice parts within = let fits : min slice.count (max most zeros_size) ≤ min n (max most zeros_size) = omega arith in grind (arith, nat_tests)

fits : (most n : ℕ) (parts : List BodyPart) → longest parts ≤ n → list_all (has_room most (min n (max most zeros_size))) parts ≡ true
fits most n [] within = refl
fits most n (Text bytes ∷ parts) within = fits most n parts within
fits most n (SliceOf slice ∷ parts) within =
    let whole : max slice.count (longest parts) ≤ n = within in
    let one : has_room most (min n (max most zeros_size)) (SliceOf slice) ≡ true = slice_fits most n slice parts whole in
    let rest : list_all (has_room most (min n (max most zeros_size))) parts ≡ true = fits most n parts (omega arith) in
    rw (one, rest) refl

-- The room that was made is that of the parts.
pub ready : (size n : ℕ) (parts : List BodyPart) (result : Result ReadBuffer NoMemory) → n ≡ longest parts → list_all is_part parts ≡ true
    → IfOk result (λ buffer. (buffer.most ≡ size) × (vec_len buffer.bytes ≡ min n (max size zeros_size))) → IfOk result (AreReady size parts)
ready size n parts (Ok buffer) is sound (most, room) = record {
  sound = sound;
  room = inr (most, rw (most, room) (fits size n parts (omega arith)));
}
ready size n parts (Err e) is sound made = tt
