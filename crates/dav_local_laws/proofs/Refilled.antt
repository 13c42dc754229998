-- Two fillings of a file, one after the other, are one, and what is written behind what was written is written at once.
use Rattle.std.proofs.Common.{◌≡◌, ◌≤◌, ◌+◌, ◌-◌, ◌==◌, inl, inr, ℕ, Bool, true, false, List, [], ◌++◌, map, length, take, drop, replicate, Option, Some, refl, sym, ap, subst, ◌∙◌, arith, append_assoc, length-append}
use Rattle.std.proofs.Math.Seq.{drop-append_seam}
use Rattle.std.proofs.lemmas.List.{length-take-le, take-append-drop}
use Rattle.dav_core.specs.declared.time.FileTime.{FileTime}
use Rattle.dav_core.specs.Edits.{Becomes, Edited, filled, fills, timed_number}
use Rattle.dav_core.specs.World.{Holds, Stored, World, bytes_of, put}
use Rattle.dav_core.specs.Writing.{written}
use Rattle.dav_core.proofs.TimesLemmas.{not_after_then}
use Rattle.dav_core.proofs.EditsLemmas.{edit_then}
use Rattle.dav_core.proofs.FilesLemmas.{new_from}
use Rattle.dav_walks.proofs.trees.EditsJoined.{filled_after, filled_bytes, held_filled}
use Rattle.dav_methods.proofs.plans.FilledTwice.{rows_twice}
use Rattle.dav_local.proofs.WrittenBytes.{written_on}

-- ---- rows and numbers

-- of two values that are put under one number the second stays
over : {A : Type 0} (b : Bool) (k n : ℕ) (x y : A) (f : ℕ → A) → (n == k) ≡ b → put k y (put k x f) n ≡ put k y f n
over true k n x y f e = rw e refl
over false k n x y f e = rw e refl

put_like : {A : Type 0} (b : Bool) (k n : ℕ) (x : A) (f g : ℕ → A) → (n == k) ≡ b → f n ≡ g n → put k x f n ≡ put k x g n
put_like true k n x f g e h = rw e refl
put_like false k n x f g e h = rw e h

abbrev stored_as : List ℕ → FileTime → Option Stored
stored_as bytes t = Some (record { bytes = bytes; time = t })

-- ---- one filling after the other

fills_twice : (number : ℕ) (a b : List ℕ) (s t : FileTime) (u v w : World) → Becomes u (filled number a s u) v → Becomes v (filled number b t v) w → Becomes u (filled number b t u) w
fills_twice number a b s t u v w p q = record {
  tree = q.tree ∙ (ap (map (timed_number number t)) p.tree ∙ rows_twice number s t u.tree);
  files = λ n h.
      (let (held, is) = q.files n h in
      let (first, was) = p.files n (held_filled number n b t v held) in (
        inl (held_filled number n a s u first),
        is ∙ (put_like (n == number) number n (stored_as b t) v.files (put number (stored_as a s) u.files) refl was
            ∙ over (n == number) number n (stored_as a s) (stored_as b t) u.files refl),
      ));
  script = q.script ∙ p.script;
  greatest = (let l = p.greatest in let m = q.greatest in omega arith);
  latest = not_after_then u.latest v.latest w.latest p.latest q.latest;
}

-- Two fillings, one after the other, are the second alone, where the second isn't what stood there unless the first is.
pub fills_then : (number : ℕ) (a b : List ℕ) (u v w : World) → Holds v number → (b ≡ bytes_of u number → a ≡ bytes_of u number) → Edited (fills number a) u v → Edited (fills number b) v w
    → Edited (fills number b) u w
fills_then number a b u v w held back (inl (ea, same)) second = filled_after number b u v w held same second
fills_then number a b u v w held back (inr first) (inl (eb, same)) =
    let is : a ≡ b = sym (eb ∙ filled_bytes number a u v (inr first) held) in
    subst (λ (x : List ℕ). Edited (fills number x) u w) is (edit_then (fills number a) u v w (inr first) same)
fills_then number a b u v w held back (inr (na, s, old, p)) (inr (nb, t, new, q)) =
    inr (
      λ e. na (back e),
      t,
      new_from u v w t p.latest new,
      fills_twice number a b s t u v w p q,
    )

-- ---- bytes that are written

-- without a gap
flat : (p : ℕ) (a x : List ℕ) → p ≤ length x → written p a x ≡ take p x ++ (a ++ drop (p + length a) x)
flat p a x le =
    let none : p - length x ≡ 0 = omega (arith, le) in
    ap (λ n. take p x ++ (replicate n 0 ++ (a ++ drop (p + length a) x))) none

-- no bytes are no change
pub nothing_written : (p : ℕ) (x : List ℕ) → p ≤ length x → written p [] x ≡ x
nothing_written p x le =
    let still : p + 0 ≡ p = omega arith in
    flat p [] x le ∙ (ap (λ n. take p x ++ drop n x) still ∙ take-append-drop p x)

written_length : (p : ℕ) (a x : List ℕ) → p ≤ length x → p + length a ≤ length (written p a x)
written_length p a x le = omega (
  arith,
  ap length (flat p a x le),
  length-append (take p x) (a ++ drop (p + length a) x),
  length-take-le p x le,
  length-append a (drop (p + length a) x),
)

-- Where bytes and others behind them are no change, the first are none.
first_same : (p : ℕ) (a b x : List ℕ) → p ≤ length x → written p (a ++ b) x ≡ x → written p a x ≡ x
first_same p a b x le e =
    let rest = drop (p + length (a ++ b)) x in
    let whole : x ≡ (take p x ++ a) ++ (b ++ rest) =
    sym e ∙ (flat p (a ++ b) x le ∙ (ap (λ z. take p x ++ z) (append_assoc a b rest) ∙ sym (append_assoc (take p x) a (b ++ rest)))) in
    let long : length (take p x ++ a) ≡ p + length a = length-append (take p x) a ∙ ap (λ n. n + length a) (length-take-le p x le) in
    let tail : drop (p + length a) x ≡ b ++ rest =
    ap (drop (p + length a)) whole ∙ (ap (λ n. drop n ((take p x ++ a) ++ (b ++ rest))) (sym long) ∙ drop-append_seam (take p x ++ a) (b ++ rest)) in
    flat p a x le ∙ (ap (λ z. take p x ++ (a ++ z)) tail ∙ (sym (append_assoc (take p x) a (b ++ rest)) ∙ sym whole))

-- the end of what was written isn't behind the file's
pub written_within : (number p : ℕ) (a : List ℕ) (v m : World) → Holds m number → p ≤ length (bytes_of v number) → Edited (fills number (written p a (bytes_of v number))) v m
    → p + length a ≤ length (bytes_of m number)
written_within number p a v m held le first =
    subst (λ (z : List ℕ). p + length a ≤ length z) (sym (filled_bytes number (written p a (bytes_of v number)) v m first held)) (written_length p a (bytes_of v number) le)

-- Bytes that are written behind others were written with them.
pub written_behind : (number p : ℕ) (a b : List ℕ) (v m w : World) → Holds m number → p ≤ length (bytes_of v number) → Edited (fills number (written p a (bytes_of v number))) v m
    → Edited (fills number (written (p + length a) b (bytes_of m number))) m w → Edited (fills number (written p (a ++ b) (bytes_of v number))) v w
written_behind number p a b v m w held le first second =
    let x = bytes_of v number in
    let same : written (p + length a) b (bytes_of m number) ≡ written p (a ++ b) x =
    ap (written (p + length a) b) (filled_bytes number (written p a x) v m first held) ∙ written_on p a b x in
    fills_then number (written p a x) (written p (a ++ b) x) v m w held (first_same p a b x le) first
    (subst (λ (z : List ℕ). Edited (fills number z) m w) same second)
