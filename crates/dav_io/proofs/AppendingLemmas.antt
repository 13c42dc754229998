-- Calls that write, one after another.
use Rattle.std.proofs.Common.{◌≡◌, ◌<◌, ℕ, ◌+◌, List, [], ◌++◌, length, take, drop, subst, Result, Ok, Err, refl, sym, ◌∙◌, ap, arith, append_assoc, append-nil, length-append}
use Rattle.std.proofs.lemmas.Bool.{false≢true}
use Rattle.std.proofs.lemmas.List.{take-append-le, take-append-drop}
use Rattle.std.proofs.Math.Seq.{take-append-add}
use Rattle.dav_io.specs.declared.failure.Failed.{Failed}
use Rattle.dav_io.proofs.ToldLemmas.{both_then, both_map, both_same}
pub use Rattle.dav_io.proofs.Rising.{rose_before, rose_after}
use Rattle.dav_io.specs.Outside.{Stream, Puts, Written}
use Rattle.dav_io.specs.Appending.{Appends, Appended}

pub puts_appends : (s t : Stream) (from : List ℕ) (n : ℕ) → Puts s from (Ok n) t → Appends s (take n from) (Ok tt) t
puts_appends s t from n p = record {
  counts = p.counts;
  failed = λ e. absurd (false≢true e);
  told = both_map s.bytes t.bytes (Written from (Ok n)) (Appended (take n from) (Ok tt)) (λ a b h. h) p.told;
}

pub puts_refused : (s t : Stream) (from : List ℕ) (e : Failed) → 0 < length from → Puts s from (Err e) t → Appends s from (Err e) t
puts_refused s t from e some p = record {
  counts = p.counts;
  failed = λ _. p.failed refl;
  told = both_map s.bytes t.bytes (Written from (Err e)) (Appended from (Err e)) (λ a b h. (0, some, h ∙ sym (append-nil a))) p.told;
}

pub appends_none : (s : Stream) → Appends s [] (Ok tt) s
appends_none s = record {
  counts = omega arith;
  failed = λ e. absurd (false≢true e);
  told = both_same s.bytes s.bytes (Appended [] (Ok tt)) (λ a. sym (append-nil a)) refl;
}

pub appends_then : (s m t : Stream) (xs ys : List ℕ) → Appends s xs (Ok tt) m → Appends m ys (Ok tt) t → Appends s (xs ++ ys) (Ok tt) t
appends_then s m t xs ys p q = record {
  counts = let low = p.counts in let high = q.counts in omega arith;
  failed = λ e. absurd (false≢true e);
  told = both_then s.bytes m.bytes t.bytes (Appended xs (Ok tt)) (Appended ys (Ok tt)) (Appended (xs ++ ys) (Ok tt))
      (λ a b c h k. k ∙ ap (λ u. u ++ ys) h ∙ append_assoc a xs ys) p.told q.told;
}

cut_later : (xs ys zs : List ℕ) (n : ℕ) → n < length ys → take (length xs + n) (xs ++ (ys ++ zs)) ≡ xs ++ take n ys
cut_later xs ys zs n h = take-append-add xs (ys ++ zs) n ∙ ap (λ t. xs ++ t) (take-append-le n ys zs (omega arith))

-- A later part is refused, and more was to come.
pub appends_refused : (s m t : Stream) (xs ys zs : List ℕ) (e : Failed) → Appends s xs (Ok tt) m → Appends m ys (Err e) t → Appends s (xs ++ (ys ++ zs)) (Err e) t
appends_refused s m t xs ys zs e p q = record {
  counts = let low = p.counts in let high = q.counts in omega arith;
  failed = λ _. rose_before s.faults m.faults t.faults p.counts (q.failed refl);
  told = both_then s.bytes m.bytes t.bytes (Appended xs (Ok tt)) (Appended ys (Err e)) (Appended (xs ++ (ys ++ zs)) (Err e))
      (λ a b c h k. (
        length xs + k.0,
        (let l = k.1 in omega (arith, length-append xs (ys ++ zs), length-append ys zs)),
        k.2 ∙ ap (λ u. u ++ take k.0 ys) h ∙ append_assoc a xs (take k.0 ys) ∙ ap (λ u. a ++ u) (sym (cut_later xs ys zs k.0 k.1)),
      )) p.told q.told;
}

-- A loop that puts a front of what is left at each turn.
pub put_more : (s m t : Stream) (done rest bytes : List ℕ) (n : ℕ) → done ++ rest ≡ bytes → Appends s done (Ok tt) m → Puts m rest (Ok n) t
    → (more : List ℕ) × (more ++ drop n rest ≡ bytes) × Appends s more (Ok tt) t
put_more s m t done rest bytes n e p q = (
  done ++ take n rest,
  append_assoc done (take n rest) (drop n rest) ∙ ap (λ u. done ++ u) (take-append-drop n rest) ∙ e,
  appends_then s m t done (take n rest) p (puts_appends m t rest n q),
)

pub put_refused : (s m t : Stream) (done rest bytes : List ℕ) (e : Failed) → done ++ rest ≡ bytes → 0 < length rest → Appends s done (Ok tt) m → Puts m rest (Err e) t
    → Appends s bytes (Err e) t
put_refused s m t done rest bytes e same some p q =
    let P : List ℕ → Type 0 = λ u. Appends s u (Err e) t in
    subst P (ap (λ u. done ++ u) (append-nil rest) ∙ same) (appends_refused s m t done rest [] e p (puts_refused m t rest e some q))

-- A later part that may be refused.
pub appends_last : (s m t : Stream) (xs ys : List ℕ) (r : Result (Unit {0}) Failed) → Appends s xs (Ok tt) m → Appends m ys r t → Appends s (xs ++ ys) r t
appends_last s m t xs ys (Ok u) p q = appends_then s m t xs ys p q
appends_last s m t xs ys (Err e) p q =
    let P : List ℕ → Type 0 = λ u. Appends s u (Err e) t in
    subst P (ap (λ u. xs ++ u) (append-nil ys)) (appends_refused s m t xs ys [] e p q)
