-- Bytes that are written into others.
use Rattle.std.proofs.Common.{◌≡◌, ◌≤◌, ◌<◌, ◌+◌, ◌-◌, ◌++◌, ℕ, List, Bool, true, false, length, take, drop, replicate, min, nat_lt, refl, sym, ap, ◌∙◌, arith, length-append, length-take, length-drop, take-append-drop, append_assoc}
use Rattle.std.specs.Str.{bytes_eq}
use Rattle.std.specs.Bool.{Decides}
use Rattle.std.proofs.lemmas.Bool.Decides.{same_from_decides}
use Rattle.std.proofs.lemmas.List.{take_all, length-replicate, length-take-le, drop-drop}
use Rattle.std.proofs.lemmas.Slice.Eq.{bytes_eq-Decides}
use Rattle.std.proofs.Math.Seq.{take-append_seam, drop-append_seam}
use Rattle.dav_core.specs.Changes.{resized}
use Rattle.dav_core.specs.Writing.{written}
use Rattle.std.proofs.lemmas.Bool.{ltb-true, ltb-false}

front_by : (test : Bool) (front place : ℕ) (bytes : List ℕ) → front ≡ min place (length bytes) → nat_lt place (length bytes) ≡ test → take front bytes ≡ take place bytes
front_by true front place bytes e f =
    let lt = ltb-true place (length bytes) f in
    let same : front ≡ place = omega arith in
    ap (λ n. take n bytes) same
front_by false front place bytes e f =
    let le = ltb-false place (length bytes) f in
    let all : length bytes ≤ front = omega arith in
    take_all front bytes all ∙ sym (take_all place bytes le)

-- a front of bytes, lengthened with zeros
pub front_is : (front place : ℕ) (bytes : List ℕ) → front ≡ min place (length bytes) → resized place (take front bytes) ≡ resized place bytes
front_is front place bytes e =
    let len : length (take front bytes) ≡ min front (length bytes) = length-take front bytes in
    let fits : length (take front bytes) ≤ place = omega arith in
    let gap : place - length (take front bytes) ≡ place - length bytes = omega arith in
    ap (λ xs. xs ++ replicate (place - length (take front bytes)) 0) (take_all place (take front bytes) fits ∙ front_by (nat_lt place (length bytes)) front place bytes e refl)
    ∙ ap (λ n. take place bytes ++ replicate n 0) gap

-- what was put together, piece by piece
pub pieces : (place end : ℕ) (from bytes first second all : List ℕ) → first ≡ resized place bytes → second ≡ first ++ from → all ≡ second ++ drop end bytes → end ≡ place + length from
    → all ≡ written place from bytes
pieces place end from bytes first second all e f g h =
    g ∙ ap (λ n. second ++ drop n bytes) h ∙ ap (λ xs. xs ++ drop (place + length from) bytes) (f ∙ ap (λ xs. xs ++ from) e)
    ∙ append_assoc (resized place bytes) from (drop (place + length from) bytes)
    ∙ append_assoc (take place bytes) (replicate (place - length bytes) 0) (from ++ drop (place + length from) bytes)

written_length : (place : ℕ) (from bytes : List ℕ) → place + length from ≤ length (written place from bytes)
written_length place from bytes =
    simp (length-append, length-take, length-drop, length-replicate) (omega arith)

-- bytes that go past the end aren't there
pub longer : (place : ℕ) (from bytes : List ℕ) → length bytes < place + length from → false ≡ bytes_eq (written place from bytes) bytes
longer place from bytes lt = no_way (bytes_eq (written place from bytes) bytes) refl
  where
    no_way : (b : Bool) → bytes_eq (written place from bytes) bytes ≡ b → false ≡ b
    no_way true e =
        let same : length (written place from bytes) ≡ length bytes = ap length ((bytes_eq-Decides (written place from bytes) bytes).0 e) in
        let l = written_length place from bytes in
        absurd (omega arith)
    no_way false e = refl

no_gap : (place : ℕ) (bytes rest : List ℕ) → place ≤ length bytes → replicate (place - length bytes) 0 ++ rest ≡ rest
no_gap place bytes rest le = let none : place - length bytes ≡ 0 = omega arith in ap (λ n. replicate n 0 ++ rest) none

inside : (place : ℕ) (from bytes : List ℕ) → place + length from ≤ length bytes → written place from bytes ≡ take place bytes ++ (from ++ drop (place + length from) bytes)
inside place from bytes le = let fits : place ≤ length bytes = omega arith in ap (λ xs. take place bytes ++ xs) (no_gap place bytes (from ++ drop (place + length from) bytes) fits)

there : (place : ℕ) (from bytes : List ℕ) → place + length from ≤ length bytes → from ≡ take (length from) (drop place bytes) → written place from bytes ≡ bytes
there place from bytes le same =
    inside place from bytes le
    ∙ ap (λ xs. take place bytes ++ (xs ++ drop (place + length from) bytes)) same
    ∙ ap (λ xs. take place bytes ++ (take (length from) (drop place bytes) ++ xs)) (sym (drop_drop place (length from) bytes))
    ∙ ap (λ xs. take place bytes ++ xs) (take-append-drop (length from) (drop place bytes))
    ∙ take-append-drop place bytes
  where
    drop_drop : (m n : ℕ) (xs : List ℕ) → drop n (drop m xs) ≡ drop (m + n) xs
    drop_drop m n xs = drop-drop n m xs

back : (place : ℕ) (from bytes : List ℕ) → place + length from ≤ length bytes → written place from bytes ≡ bytes → from ≡ take (length from) (drop place bytes)
back place from bytes le same =
    let fits : place ≤ length bytes = omega arith in
    let len : length (take place bytes) ≡ place = length-take-le place bytes fits in
    sym (take-append_seam from (drop (place + length from) bytes))
    ∙ ap (take (length from)) (sym (drop-append_seam (take place bytes) (from ++ drop (place + length from) bytes)) ∙ ap (λ n. drop n (take place bytes ++ (from ++ drop (place + length from) bytes))) len)
    ∙ ap (λ xs. take (length from) (drop place xs)) (sym (inside place from bytes le) ∙ same)

-- whether bytes within a file's are there
pub there_is : (place : ℕ) (from bytes : List ℕ) (b : Bool) → place + length from ≤ length bytes → Decides b (from ≡ take (length from) (drop place bytes)) → b ≡ bytes_eq (written place from bytes) bytes
there_is place from bytes b le d =
    same_from_decides b (bytes_eq (written place from bytes) bytes) d
    (λ e. back place from bytes le ((bytes_eq-Decides (written place from bytes) bytes).0 e), λ e. (bytes_eq-Decides (written place from bytes) bytes).1 (there place from bytes le e))
