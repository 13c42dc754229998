-- Pieces of a body, one after another.
use Rattle.std.proofs.Common.{◌≡◌, ◌≤◌, ◌<◌, ℕ, List, [], ◌++◌, length, take, Ok, refl, sym, ◌∙◌, ap, arith, append_assoc, ◌-◌, ◌+◌, min, Bool, true, false, nat_le, leb-true}
use Rattle.std.proofs.lemmas.Bool.{leb-false}
use Rattle.std.proofs.lemmas.List.{length-append, length-take, take_all, take-take}
use Rattle.std.proofs.Math.Seq.{take-append-add}
pub use Rattle.dav_io.proofs.Taken.{front as given_front}
use Rattle.dav_io.proofs.ToldLemmas.{both_then, both_same}
use Rattle.dav_core.specs.World.{SameBesidesOpens}
use Rattle.dav_core.proofs.UnchangedLemmas.{same_besides, same_besides_then}
use Rattle.dav_fetch.specs.Peer.{PeerState, Seen, Came, Gives}
use Rattle.dav_fetch.specs.Reading.{ReadOn}

pub read_none : (s : PeerState) → ReadOn s [] s
read_none s = record {
  counts = omega arith;
  told = both_same s.told s.told (Came []) (λ v. (same_besides v.world, refl)) refl;
  stands = both_same s.world s.world SameBesidesOpens same_besides refl;
  path = refl;
}

came_then : (a b : List ℕ) (u v w : Seen) → Came a u v → Came b v w → Came (a ++ b) u w
came_then a b u v w p q = (same_besides_then u.world v.world w.world p.0 q.0, p.1 ∙ ap (λ z. a ++ z) q.1 ∙ sym (append_assoc a b w.left))

pub read_more : (s m t : PeerState) (came buffer : List ℕ) (n : ℕ) → ReadOn s came m → Gives m buffer (Ok n) t → ReadOn s (came ++ take n buffer) t
read_more s m t came buffer n r g = record {
  counts = let a = r.counts in let b = g.counts in omega arith;
  told = both_then s.told m.told t.told (Came came) (λ v w. Came (take n buffer) v w × (n ≡ 0 → v.left ≡ [])) (Came (came ++ take n buffer))
      (λ u v w p q. came_then came (take n buffer) u v w p q.0) r.told g.is.1;
  stands = both_then s.world m.world t.world SameBesidesOpens SameBesidesOpens SameBesidesOpens same_besides_then r.stands g.stands;
  path = g.path ∙ r.path;
}

-- no more than is due is kept of a piece
take_behind : (due n : ℕ) (came buffer : List ℕ) → length came < due → take due (came ++ take n buffer) ≡ came ++ take (due - length came) (take n buffer)
take_behind due n came buffer fewer = ap (λ k. take k (came ++ take n buffer)) (both due came fewer) ∙ take-append-add came (take n buffer) (due - length came)
  where
    both : (due : ℕ) (came : List ℕ) → length came < due → due ≡ length came + (due - length came)
    both due came fewer = omega (arith, fewer)

piece_behind : (due n k : ℕ) (came buffer before : List ℕ) → length came < due → take (due - length came) (take n buffer) ≡ take k buffer
    → (before ++ take due came) ++ take k buffer ≡ before ++ take due (came ++ take n buffer)
piece_behind due n k came buffer before fewer is =
    ap (λ z. (before ++ z) ++ take k buffer) (take_all due came (omega (arith, fewer))) ∙ append_assoc before came (take k buffer)
    ∙ ap (λ z. before ++ z) (ap (λ z. came ++ z) (sym is) ∙ sym (take_behind due n came buffer fewer))

pub whole_piece : (due n : ℕ) (came buffer before : List ℕ) → length came < due → n ≤ due - length came
    → (before ++ take due came) ++ take n buffer ≡ before ++ take due (came ++ take n buffer)
whole_piece due n came buffer before fewer fits =
    piece_behind due n n came buffer before fewer (take_all (due - length came) (take n buffer) (omega (arith, length-take n buffer, fits)))

pub cut_piece : (due n : ℕ) (came buffer before : List ℕ) → length came < due → due - length came ≤ n
    → (before ++ take due came) ++ take (due - length came) buffer ≡ before ++ take due (came ++ take n buffer)
cut_piece due n came buffer before fewer cut =
    piece_behind due n (due - length came) came buffer before fewer (take-take (due - length came) n buffer cut)

pub kept_more : (due n wanted : ℕ) (came buffer before : List ℕ) → length came < due → wanted ≡ min n (due - length came)
    → (before ++ take due came) ++ take wanted buffer ≡ before ++ take due (came ++ take n buffer)
kept_more due n wanted came buffer before fewer is = by (nat_le n (due - length came)) refl
  where
    by : (t : Bool) → nat_le n (due - length came) ≡ t → (before ++ take due came) ++ take wanted buffer ≡ before ++ take due (came ++ take n buffer)
    by true e = let fits = leb-true n (due - length came) e in
        ap (λ k. (before ++ take due came) ++ take k buffer) (is ∙ omega (arith, fits)) ∙ whole_piece due n came buffer before fewer fits
    by false e = let cut = leb-false n (due - length came) e in
        ap (λ k. (before ++ take due came) ++ take k buffer) (is ∙ omega (arith, cut)) ∙ cut_piece due n came buffer before fewer (omega (arith, cut))

pub left_more : (due n wanted left : ℕ) (came buffer : List ℕ) → n ≤ length buffer → wanted ≡ min n left → left ≡ due - length came
    → left - wanted ≡ due - length (came ++ take n buffer)
left_more due n wanted left came buffer inside is same = omega (arith, is, same, length-append came (take n buffer), length-take n buffer, inside)
