-- Bytes written in pieces, one after the other, are written at once.
use Rattle.std.proofs.Common.{◌≡◌, ◌+◌, ◌-◌, ℕ, List, ◌++◌, length, take, drop, replicate, sym, ap, ◌∙◌, arith, append_assoc, append-nil, length-append, length-take, length-drop, drop-drop}
use Rattle.std.proofs.Math.Seq.{take-append_seam, drop-append-add}
use Rattle.std.proofs.lemmas.List.{length-replicate}
use Rattle.dav_core.specs.Writing.{written}

-- the bytes before a place, with zeros up to it
abbrev front : ℕ → List ℕ → List ℕ
front p x = take p x ++ replicate (p - length x) 0

front_length : (p : ℕ) (x : List ℕ) → length (front p x) ≡ p
front_length p x = omega (arith, length-append (take p x) (replicate (p - length x) 0), length-take p x, length-replicate {A = ℕ} (p - length x) 0)

-- what was written ends at its last byte, and what stood behind it follows
written_as : (p : ℕ) (a x : List ℕ) → written p a x ≡ (front p x ++ a) ++ drop (p + length a) x
written_as p a x =
    sym (append_assoc (take p x) (replicate (p - length x) 0) (a ++ drop (p + length a) x))
    ∙ sym (append_assoc (front p x) a (drop (p + length a) x))

ends_at : (p : ℕ) (a x : List ℕ) → length (front p x ++ a) ≡ p + length a
ends_at p a x = length-append (front p x) a ∙ ap (λ n. n + length a) (front_length p x)

front_all : (q : ℕ) (xs ys : List ℕ) → length xs ≡ q → front q (xs ++ ys) ≡ xs
front_all q xs ys e =
    let none : q - length (xs ++ ys) ≡ 0 = omega (arith, e, length-append xs ys) in
    ap (λ n. take q (xs ++ ys) ++ replicate n 0) none
    ∙ append-nil (take q (xs ++ ys))
    ∙ ap (λ n. take n (xs ++ ys)) (sym e)
    ∙ take-append_seam xs ys

behind : (q n : ℕ) (xs ys : List ℕ) → length xs ≡ q → drop (q + n) (xs ++ ys) ≡ drop n ys
behind q n xs ys e = ap (λ k. drop (k + n) (xs ++ ys)) (sym e) ∙ drop-append-add xs ys n

pub written_on : (p : ℕ) (a b x : List ℕ) → written (p + length a) b (written p a x) ≡ written p (a ++ b) x
written_on p a b x =
    let first = front p x ++ a in
    let rest = drop (p + length a) x in
    let q = p + length a in
    let long : q + length b ≡ p + length (a ++ b) = omega (arith, length-append a b) in
    ap (λ y. written q b y) (written_as p a x)
    ∙ written_as q b (first ++ rest)
    ∙ ap (λ y. (y ++ b) ++ drop (q + length b) (first ++ rest)) (front_all q first rest (ends_at p a x))
    ∙ ap (λ y. (first ++ b) ++ y) (behind q (length b) first rest (ends_at p a x) ∙ drop-drop (length b) q x ∙ ap (λ n. drop n x) long)
    ∙ ap (λ y. y ++ drop (p + length (a ++ b)) x) (append_assoc (front p x) a b)
    ∙ sym (written_as p (a ++ b) x)

-- what is written at the end ends it
pub written_end : (a x : List ℕ) → length (written (length x) a x) ≡ length x + length a
written_end a x =
    let p = length x in
    ap length (written_as p a x)
    ∙ length-append (front p x ++ a) (drop (p + length a) x)
    ∙ omega (arith, ends_at p a x, length-drop (p + length a) x)
