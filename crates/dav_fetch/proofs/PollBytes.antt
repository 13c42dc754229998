-- A poll's piece is the front of what the body has left of the world.
use Rattle.std.proofs.Common.{◌≡◌, ◌≤◌, ◌+◌, ◌-◌, ◌==◌, ◌++◌, ℕ, zero, suc, List, [], ◌∷◌, length, take, drop, min, replicate, Bool, true, false, cond, Some, refl, sym, ap, ◌∙◌, arith, append_assoc, eqb-true}
use Rattle.std.proofs.lemmas.List.{drop-drop, replicate-append-replicate, length-take, length-take-le, take-replicate, length-append, length-replicate, take-append-le, take-append-drop}
use Rattle.std.proofs.Math.Seq.{take-append-add}
use Rattle.dav_core.specs.World.{World, bytes_of}
use Rattle.dav_model.specs.Bodies.{Gives, Part, PieceOf, moved, slice, text, zeros_size}
use Rattle.dav_fetch.specs.Peer.{body_in}

abbrev zeros : ℕ → List ℕ
zeros n = replicate n 0

-- so many bytes, with zeros behind those that stand
abbrev padded : ℕ → List ℕ → List ℕ
padded count bytes = take count (bytes ++ zeros count)

zeros_both : (m k : ℕ) → zeros (m + k) ≡ zeros m ++ zeros k
zeros_both m k = sym (replicate-append-replicate {A = ℕ} m k 0)

zeros_long : (m : ℕ) → length (zeros m) ≡ m
zeros_long m = length-replicate {A = ℕ} m 0

-- more zeros behind change nothing
fewer : (m k : ℕ) (bytes : List ℕ) → take m (bytes ++ zeros (m + k)) ≡ padded m bytes
fewer m k bytes =
    ap (λ z. take m (bytes ++ z)) (zeros_both m k) ∙ ap (take m) (sym (append_assoc bytes (zeros m) (zeros k)))
    ∙ take-append-le m (bytes ++ zeros m) (zeros k) (omega (arith, length-append bytes (zeros m), zeros_long m))

-- a front of what stands, and the rest
cut_front : (n count : ℕ) (bytes : List ℕ) → n ≤ count → n ≤ length bytes → padded count bytes ≡ take n bytes ++ padded (count - n) (drop n bytes)
cut_front n count bytes fits some =
    ap (λ z. take count (z ++ zeros count)) (sym (take-append-drop n bytes)) ∙ ap (take count) (append_assoc (take n bytes) (drop n bytes) (zeros count))
    ∙ ap (λ k. take k (take n bytes ++ (drop n bytes ++ zeros count))) (both n count fits ∙ ap (λ l. l + (count - n)) (sym (length-take-le n bytes some)))
    ∙ take-append-add (take n bytes) (drop n bytes ++ zeros count) (count - n)
    ∙ ap (λ k. take n bytes ++ take (count - n) (drop n bytes ++ zeros k)) (back n count fits) ∙ ap (λ z. take n bytes ++ z) (fewer (count - n) n (drop n bytes))
  where
    both : (n count : ℕ) → n ≤ count → count ≡ n + (count - n)
    both n count fits = omega (arith, fits)

    back : (n count : ℕ) → n ≤ count → count ≡ (count - n) + n
    back n count fits = omega (arith, fits)

-- zeros where nothing stands
cut_zeros : (n count : ℕ) → n ≤ count → padded count [] ≡ zeros n ++ padded (count - n) []
cut_zeros n count fits =
    take-replicate count count 0 (omega arith) ∙ ap zeros (both n count fits) ∙ zeros_both n (count - n)
    ∙ ap (λ z. zeros n ++ z) (sym (take-replicate (count - n) (count - n) 0 (omega arith)))
  where
    both : (n count : ℕ) → n ≤ count → count ≡ n + (count - n)
    both n count fits = omega (arith, fits)

-- The piece is the front, and the slice that is left gives the rest.
piece_front : (bytes : List ℕ) (whole : Bool) (most start count : ℕ) (piece : List ℕ) → length piece ≤ count → PieceOf whole most (drop start bytes) count piece
    → padded count (drop start bytes) ≡ piece ++ padded (count - length piece) (drop (length piece) (drop start bytes))
piece_front bytes whole most start count piece fits of = by (drop start bytes) of
  where
    by : (stands : List ℕ) → PieceOf whole most stands count piece → padded count stands ≡ piece ++ padded (count - length piece) (drop (length piece) stands)
    by [] is =
        let n : length piece ≡ min count zeros_size = ap length is ∙ zeros_long (min count zeros_size) in
        cut_zeros (length piece) count fits ∙ ap (λ z. z ++ padded (count - length piece) []) (ap zeros n ∙ sym is)
        ∙ ap (λ z. piece ++ padded (count - length piece) z) (sym (drop_none (length piece)))
      where
        drop_none : (n : ℕ) → drop {A = ℕ} n [] ≡ []
        drop_none zero = refl
        drop_none (suc n) = refl
    by (b ∷ stands) (some, within, is, w) =
        cut_front (length piece) count (b ∷ stands) fits (shorter piece (b ∷ stands) is)
        ∙ ap (λ z. z ++ padded (count - length piece) (drop (length piece) (b ∷ stands))) (sym is)
      where
        shorter : (a l : List ℕ) → a ≡ take (length a) l → length a ≤ length l
        shorter a l e = omega (arith, ap length e, length-take (length a) l)

slice_rest : (w : World) (number start count n : ℕ) (parts : List Part) → n ≤ count
    → body_in w (moved number start count n parts) ≡ padded (count - n) (drop n (drop start (bytes_of w number))) ++ body_in w parts
slice_rest w number start count n parts fits = by (count - n == 0) refl
  where
    by : (t : Bool) → (count - n == 0) ≡ t → body_in w (cond t parts (slice number (start + n) (count - n) ∷ parts)) ≡ padded (count - n) (drop n (drop start (bytes_of w number))) ++ body_in w parts
    by true e = ap (λ k. padded k (drop n (drop start (bytes_of w number))) ++ body_in w parts) (sym (eqb-true (count - n) 0 e))
    by false e = ap (λ z. padded (count - n) z ++ body_in w parts) (drop_both n start (bytes_of w number))
      where
        drop_both : (n start : ℕ) (bytes : List ℕ) → drop (start + n) bytes ≡ drop n (drop start bytes)
        drop_both n start bytes = sym (drop-drop n start bytes)

-- What a poll gives is the front of what the body has left, and leaves the rest.
pub poll_bytes : (w : World) (whole : Bool) (most : ℕ) (part : Part) (parts : List Part) (piece : List ℕ) (rest : List Part) → Gives (Some w) whole most part parts piece rest
    → body_in w (part ∷ parts) ≡ piece ++ body_in w rest
poll_bytes w whole most (text bytes) parts piece rest (is, left) = ap (λ z. z ++ body_in w parts) (sym is) ∙ ap (λ r. piece ++ body_in w r) (sym left)
poll_bytes w whole most (slice number start count) parts piece rest (some, fits, left, of) =
    ap (λ z. z ++ body_in w parts) (piece_front (bytes_of w number) whole most start count piece fits (of w refl))
    ∙ append_assoc piece (padded (count - length piece) (drop (length piece) (drop start (bytes_of w number)))) (body_in w parts)
    ∙ ap (λ z. piece ++ z) (sym (slice_rest w number start count (length piece) parts fits) ∙ ap (body_in w) (sym left))
