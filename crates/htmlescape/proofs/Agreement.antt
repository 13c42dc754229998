-- Decoding has one answer, and it is that of the characters that the bytes spell.
use Rattle.std.proofs.Common.{◌≡◌, ◌<◌, ◌≤◌, ◌≢◌, ◌⊎◌, ◌+◌, ℕ, true, List, [], ◌∷◌, ◌++◌, length, Option, Some, None, Result, Ok, Err, IfSome, refl, sym, ◌∙◌, ap, subst, inl, inr, arith, append_assoc, append-nil, length-append, IsUtf8, chars}
use lib.Utf8.{encodes, encode, scalars, scalar}
use Rattle.std.specs.Str.{StartsWithNoChar}
use Rattle.std.proofs.lemmas.Bool.{and_parts}
use Rattle.std.proofs.lemmas.List.{append_cancel_left, nil_from_length}
use Rattle.std.proofs.lemmas.Str.{encode_same, length-encode, len_utf8_bounds, encodes-append, encodes-chars, scalars-chars, chars_from_encodes, length-le-encodes}
use Rattle.htmlescape.specs.declared.faults.DecodeErr.{DecodeErr}
use Rattle.htmlescape.specs.declared.faults.DecodeErrKind.{DecodeErrKind}
use Rattle.htmlescape.specs.declared.faults.DecodeErrKind.TheVariants.{UnknownEntity, MalformedNumEscape, InvalidCharacter, PrematureEnd, IoError, EncodingError, TooLong, NoMemory}
use Rattle.htmlescape.specs.declared.faults.IoFault.{IoFault}
use Rattle.htmlescape.specs.Grammar.{IsText, HasFault, fault_at}
use Rattle.dav_io.specs.Told.{Both}
use Rattle.dav_io.proofs.ToldLemmas.{both_map}
use Rattle.dav_io.specs.Outside.{Stream}
use Rattle.htmlescape.specs.Decoding.{ReadSo, Unfinished, MeetsFault, Stops, Decodes, WroteAt, Wrote, Decoding, IsIo, IsOnly, Answers}
use Rattle.htmlescape.proofs.Fronts.{front_unique, text_unique, text_faultless, fault_unique}

-- the first text goes on to the second
abbrev pub GoesOn : List ℕ → List ℕ → Type 0
GoesOn t u = (more : List ℕ) × (u ≡ t ++ more)

cancel : (t : List ℕ) (x r s : List ℕ) → encodes t ++ r ≡ encodes (t ++ x) ++ s → r ≡ encodes x ++ s
cancel t x r s e =
    append_cancel_left (encodes t) r (encodes x ++ s) (e ∙ ap (λ y. y ++ s) (encodes-append t x) ∙ append_assoc (encodes t) (encodes x) s)

-- two readings of the same bytes: one goes on to the other
pub compare : (t u r s : List ℕ) → encodes t ++ r ≡ encodes u ++ s → GoesOn t u ⊎ GoesOn u t
compare [] u r s e = inl (u, refl)
compare (c ∷ t) [] r s e = inr (c ∷ t, refl)
compare (c ∷ t) (d ∷ u) r s e =
    let k = encode_same c d (encodes t ++ r) (encodes u ++ s) (sym (append_assoc (encode c) (encodes t) r) ∙ e ∙ append_assoc (encode d) (encodes u) s) in
    elim (compare t u r s k.1) [
      | inl m ↦ inl (m.0, ap (λ x. x ∷ u) (sym k.0) ∙ ap (λ y. c ∷ y) m.1)
      | inr m ↦ inr (m.0, ap (λ x. x ∷ t) k.0 ∙ ap (λ y. d ∷ y) m.1)
    ]

some_bytes : (c : ℕ) (x s : List ℕ) → 1 ≤ length (encodes (c ∷ x) ++ s)
some_bytes c x s = omega (arith, length-append (encodes (c ∷ x)) s, length-append (encode c) (encodes x), length-encode c, (len_utf8_bounds c).0)

no_more_at : (x r s : List ℕ) → r ≡ encodes x ++ s → scalars x ≡ true → (length r ≡ 0) ⊎ StartsWithNoChar r → x ≡ []
no_more_at [] r s e k h = refl
no_more_at (c ∷ x) r s e k h = absurd (elim h [
  | inl none ↦ omega (arith, ap length e, some_bytes c x s)
  | inr bare ↦ bare c (encodes x ++ s) (and_parts (scalar c) (scalars x) k).0 (e ∙ append_assoc (encode c) (encodes x) s)
])

scalars_behind : (t x : List ℕ) → scalars (t ++ x) ≡ true → scalars x ≡ true
scalars_behind [] x k = k
scalars_behind (c ∷ t) x k = scalars_behind t x (and_parts (scalar c) (scalars (t ++ x)) k).1

-- where nothing, or no character, is left, no reading goes further
pub furthest : (bytes t u r s : List ℕ) → ReadSo bytes t r → ReadSo bytes u s → (length r ≡ 0) ⊎ StartsWithNoChar r → GoesOn u t
furthest bytes t u r s a b h = elim (compare t u r s (sym a.spells ∙ b.spells)) [
  | inl m ↦
      let e = cancel t m.0 r s (sym a.spells ∙ b.spells ∙ ap (λ y. encodes y ++ s) m.1) in
      let none : m.0 ≡ [] = no_more_at m.0 r s e (scalars_behind t m.0 (ap scalars (sym m.1) ∙ b.characters)) h in
      ([], sym (append-nil t) ∙ ap (λ y. t ++ y) (sym none) ∙ sym m.1 ∙ sym (append-nil u))
  | inr m ↦ m
]

-- and at a limit none goes further within it
pub furthest_within : (bytes t u r s : List ℕ) (limit : ℕ) → ReadSo bytes t r → ReadSo bytes u s → length t ≡ limit → length u ≤ limit → GoesOn u t
furthest_within bytes t u r s limit a b full h = elim (compare t u r s (sym a.spells ∙ b.spells)) [
  | inl m ↦
      let none : m.0 ≡ [] = nil_from_length m.0 (omega (arith, ap length m.1, length-append t m.0)) in
      ([], sym (append-nil t) ∙ ap (λ y. t ++ y) (sym none) ∙ sym m.1 ∙ sym (append-nil u))
  | inr m ↦ m
]

-- An answer as its fault and position, if it is one.
abbrev view : Result (Unit {0}) DecodeErr → Option (DecodeErrKind × ℕ)
view (Ok u) = None
view (Err e) = Some (e.kind, e.position)

pair_of : (a b : DecodeErrKind × ℕ) → Some a ≡ Some b → a ≡ b
pair_of a b e = cc

view_same : (x y : Result (Unit {0}) DecodeErr) → view x ≡ view y → x ≡ y
view_same (Ok u) (Ok v) e = refl
view_same (Ok u) (Err f) e = cc
view_same (Err e) (Ok v) h = cc
view_same (Err e) (Err f) h =
    let p = pair_of (e.kind, e.position) (f.kind, f.position) h in
    ap (λ (q : DecodeErrKind × ℕ). Err (record { position = q.1; kind = q.0 })) p

-- What is said of a text to its end, to a fault of the bytes, or to the limit.
data Says (limit : ℕ) (text rest : List ℕ) (answer : Option (DecodeErrKind × ℕ)) (value : List ℕ) : Type 0 where
  whole : IsText text value → length rest ≡ 0 → length text < limit → answer ≡ None → Says limit text rest answer value
  early : (p : ℕ) → HasFault text PrematureEnd p value → length rest ≡ 0 → length text < limit → answer ≡ Some (PrematureEnd, p)
      → Says limit text rest answer value
  broken : Unfinished text value → 0 < length rest → StartsWithNoChar rest → length text < limit → answer ≡ Some (EncodingError, length text)
      → Says limit text rest answer value
  full : Unfinished text value → length text ≡ limit → answer ≡ Some (TooLong, length text) → Says limit text rest answer value

unfinished_same : (t v w : List ℕ) → Unfinished t v → Unfinished t w → v ≡ w
unfinished_same t v w a b = (front_unique t v w a.rest b.rest a.front b.front).0

says_same : (limit : ℕ) (t r : List ℕ) (o p : Option (DecodeErrKind × ℕ)) (v w : List ℕ) → Says limit t r o v → Says limit t r p w → (o ≡ p) × (v ≡ w)
says_same limit t r o p v w (whole a n l e) (whole b m k f) = (e ∙ sym f, text_unique t v w a b)
says_same limit t r o p v w (whole a n l e) (early q b m k f) = absurd (text_faultless t v w PrematureEnd q a b)
says_same limit t r o p v w (whole a n l e) (broken b m bare k f) = absurd (omega arith)
says_same limit t r o p v w (whole a n l e) (full b k f) = absurd (omega arith)
says_same limit t r o p v w (early q a n l e) (whole b m k f) = absurd (text_faultless t w v PrematureEnd q b a)
says_same limit t r o p v w (early q a n l e) (early s b m k f) =
    let u = fault_unique t v w PrematureEnd PrematureEnd q s a b in (e ∙ ap (λ (z : ℕ). Some (PrematureEnd, z)) u.1 ∙ sym f, u.2)
says_same limit t r o p v w (early q a n l e) (broken b m bare k f) = absurd (omega arith)
says_same limit t r o p v w (early q a n l e) (full b k f) = absurd (omega arith)
says_same limit t r o p v w (broken a n bare l e) (whole b m k f) = absurd (omega arith)
says_same limit t r o p v w (broken a n bare l e) (early q b m k f) = absurd (omega arith)
says_same limit t r o p v w (broken a n bare l e) (broken b m on k f) = (e ∙ sym f, unfinished_same t v w a b)
says_same limit t r o p v w (broken a n bare l e) (full b k f) = absurd (omega arith)
says_same limit t r o p v w (full a l e) (whole b m k f) = absurd (omega arith)
says_same limit t r o p v w (full a l e) (early q b m k f) = absurd (omega arith)
says_same limit t r o p v w (full a l e) (broken b m bare k f) = absurd (omega arith)
says_same limit t r o p v w (full a l e) (full b k f) = (e ∙ sym f, unfinished_same t v w a b)

record Final (limit : ℕ) (bytes : List ℕ) (answer : Option (DecodeErrKind × ℕ)) (value : List ℕ) : Type 0 where
  text : List ℕ
  rest : List ℕ
  read : ReadSo bytes text rest
  says : Says limit text rest answer value

record Met (limit : ℕ) (bytes : List ℕ) (answer : Option (DecodeErrKind × ℕ)) (value : List ℕ) : Type 0 where
  kind : DecodeErrKind
  position : ℕ
  is : answer ≡ Some (kind, position)
  unlike : kind ≢ PrematureEnd
  fault : MeetsFault limit bytes kind position value

says_within : (limit : ℕ) (t r : List ℕ) (o : Option (DecodeErrKind × ℕ)) (v : List ℕ) → Says limit t r o v → length t ≤ limit
says_within limit t r o v (whole a n l e) = omega arith
says_within limit t r o v (early q a n l e) = omega arith
says_within limit t r o v (broken a n bare l e) = omega arith
says_within limit t r o v (full a l e) = omega arith

reaches : (limit : ℕ) (bytes t r u s : List ℕ) (o : Option (DecodeErrKind × ℕ)) (v : List ℕ) → Says limit t r o v → ReadSo bytes t r
    → ReadSo bytes u s → length u ≤ limit → GoesOn u t
reaches limit bytes t r u s o v (whole a n l e) p q h = furthest bytes t u r s p q (inl n)
reaches limit bytes t r u s o v (early z a n l e) p q h = furthest bytes t u r s p q (inl n)
reaches limit bytes t r u s o v (broken a n bare l e) p q h = furthest bytes t u r s p q (inr bare)
reaches limit bytes t r u s o v (full a l e) p q h = furthest_within bytes t u r s limit p q l h

both_ways : (t u : List ℕ) → GoesOn t u → GoesOn u t → t ≡ u
both_ways t u a b =
    let none : a.0 ≡ [] = nil_from_length a.0 (omega (arith, ap length a.1, ap length b.1, length-append t a.0, length-append u b.0)) in
    sym (append-nil t) ∙ ap (λ y. t ++ y) (sym none) ∙ sym a.1

finals_same : (limit : ℕ) (bytes : List ℕ) (o p : Option (DecodeErrKind × ℕ)) (v w : List ℕ) → Final limit bytes o v → Final limit bytes p w
    → (o ≡ p) × (v ≡ w)
finals_same limit bytes o p v w a b =
    let there = reaches limit bytes b.text b.rest a.text a.rest p w b.says b.read a.read (says_within limit a.text a.rest o v a.says) in
    let back = reaches limit bytes a.text a.rest b.text b.rest o v a.says a.read b.read (says_within limit b.text b.rest p w b.says) in
    let same : b.text ≡ a.text = both_ways b.text a.text back there in
    let rest : b.rest ≡ a.rest = append_cancel_left (encodes b.text) b.rest a.rest (sym b.read.spells ∙ a.read.spells ∙ ap (λ t. encodes t ++ a.rest) (sym same)) in
    let P : List ℕ → Type 0 = λ t. Says limit t b.rest p w in
    let Q : List ℕ → Type 0 = λ r. Says limit a.text r p w in
    says_same limit a.text a.rest o p v w a.says (subst Q rest (subst P same b.says))

-- a fault that is met is the fault of every text that goes on
met_in : (limit : ℕ) (bytes : List ℕ) (k : DecodeErrKind) (p : ℕ) (v u : List ℕ) → (m : MeetsFault limit bytes k p v) → GoesOn m.text u
    → HasFault u k p v
met_in limit bytes k p v u m g = let P : List ℕ → Type 0 = λ t. HasFault t k p v in subst P (sym g.1) (m.met g.0)

unfinished_unmet : (t v w : List ℕ) (k : DecodeErrKind) (p : ℕ) → Unfinished t v → HasFault t k p w → k ≡ PrematureEnd
unfinished_unmet t v w k p a f = f.kind ∙ ap fault_at (sym (front_unique t v w a.rest f.rest a.front f.front).1) ∙ a.unmet

met_not_final : (limit : ℕ) (t r : List ℕ) (o : Option (DecodeErrKind × ℕ)) (v w : List ℕ) (k : DecodeErrKind) (p : ℕ) → Says limit t r o v
    → HasFault t k p w → k ≢ PrematureEnd → ⊥
met_not_final limit t r o v w k p (whole a n l e) f u = text_faultless t v w k p a f
met_not_final limit t r o v w k p (early q a n l e) f u = u (fault_unique t w v k PrematureEnd p q f a).0
met_not_final limit t r o v w k p (broken a n bare l e) f u = u (unfinished_unmet t v w k p a f)
met_not_final limit t r o v w k p (full a l e) f u = u (unfinished_unmet t v w k p a f)

apart : (limit : ℕ) (bytes : List ℕ) (o p : Option (DecodeErrKind × ℕ)) (v w : List ℕ) → Met limit bytes o v → Final limit bytes p w → ⊥
apart limit bytes o p v w a b =
    let m = a.fault in
    let g = reaches limit bytes b.text b.rest m.text m.rest p w b.says b.read m.read m.within in
    met_not_final limit b.text b.rest p w v a.kind a.position b.says (met_in limit bytes a.kind a.position v b.text m g) a.unlike

mets_same : (limit : ℕ) (bytes : List ℕ) (o p : Option (DecodeErrKind × ℕ)) (v w : List ℕ) → Met limit bytes o v → Met limit bytes p w
    → (o ≡ p) × (v ≡ w)
mets_same limit bytes o p v w a b =
    let m = a.fault in
    let n = b.fault in
    let one : (u : List ℕ) → GoesOn m.text u → GoesOn n.text u → (o ≡ p) × (v ≡ w) = λ u g h.
    (let s = fault_unique u v w a.kind b.kind a.position b.position (met_in limit bytes a.kind a.position v u m g) (met_in limit bytes b.kind b.position w u n h) in
    (a.is ∙ ap (λ (k : DecodeErrKind). Some (k, a.position)) s.0 ∙ ap (λ (z : ℕ). Some (b.kind, z)) s.1 ∙ sym b.is, s.2)) in
    elim (compare m.text n.text m.rest n.rest (sym m.read.spells ∙ n.read.spells)) [
      | inl g ↦ one n.text g ([], sym (append-nil n.text))
      | inr g ↦ one m.text ([], sym (append-nil m.text)) g
    ]

-- each answer that isn't a failure of reader or writer is one or the other
stop_is : (limit : ℕ) (bytes : List ℕ) (k : DecodeErrKind) (p : ℕ) (v : List ℕ) → Stops limit bytes k p v → ((side : IoFault) → k ≢ IoError side)
    → Met limit bytes (Some (k, p)) v ⊎ Final limit bytes (Some (k, p)) v
stop_is limit bytes UnknownEntity p v s n = inl (record { kind = UnknownEntity; position = p; is = refl; unlike = λ e. cc; fault = s })
stop_is limit bytes MalformedNumEscape p v s n = inl (record { kind = MalformedNumEscape; position = p; is = refl; unlike = λ e. cc; fault = s })
stop_is limit bytes InvalidCharacter p v s n = inl (record { kind = InvalidCharacter; position = p; is = refl; unlike = λ e. cc; fault = s })
stop_is limit bytes PrematureEnd p v s n = inr (record { text = s.text; rest = []; read = s.read; says = early p s.fault refl s.within refl })
stop_is limit bytes EncodingError p v s n =
    inr (record { text = s.text; rest = s.rest; read = s.read; says = broken s.unfinished s.some s.none s.within (ap (λ (z : ℕ). Some (EncodingError, z)) s.place) })
stop_is limit bytes TooLong p v s n =
    inr (record { text = s.text; rest = s.rest; read = s.read; says = full s.unfinished s.full (ap (λ (z : ℕ). Some (TooLong, z)) s.place) })
stop_is limit bytes (IoError side) p v s n = absurd (n side refl)
stop_is limit bytes NoMemory p v s n = absurd s

answer_is : (limit : ℕ) (bytes : List ℕ) (x : Result (Unit {0}) DecodeErr) (v : List ℕ) → Decodes limit bytes x v → (IsIo x → ⊥)
    → Met limit bytes (view x) v ⊎ Final limit bytes (view x) v
answer_is limit bytes (Ok u) v d n = inr (record { text = d.text; rest = []; read = d.read; says = whole d.whole refl d.within refl })
answer_is limit bytes (Err e) v d n = stop_is limit bytes e.kind e.position v d (λ side k. n (side, k))

pub one_answer : (limit : ℕ) (bytes : List ℕ) (x y : Result (Unit {0}) DecodeErr) (v w : List ℕ) → Decodes limit bytes x v → Decodes limit bytes y w
    → (IsIo x → ⊥) → (IsIo y → ⊥)
    → (x ≡ y) × (v ≡ w)
one_answer limit bytes x y v w a b m n =
    let views : (view x ≡ view y) × (v ≡ w) = elim (answer_is limit bytes x v a m) [
      | inl c ↦ elim (answer_is limit bytes y w b n) [ inl d ↦ mets_same limit bytes _ _ v w c d | inr d ↦ absurd (apart limit bytes _ _ v w c d) ]
      | inr c ↦ elim (answer_is limit bytes y w b n) [ inl d ↦ absurd (apart limit bytes _ _ w v d c) | inr d ↦ finals_same limit bytes _ _ v w c d ]
    ] in
    (view_same x y views.0, views.1)

-- What was written, where neither reader nor writer failed.
plain_at : (k : DecodeErrKind) (v old new : List ℕ) → ((side : IoFault) → k ≢ IoError side) → WroteAt k v old new → new ≡ old ++ encodes v
plain_at (IoError side) v old new n h = absurd (n side refl)
plain_at kind v old new n h = h

plain : (x : Result (Unit {0}) DecodeErr) (v old new : List ℕ) → (IsIo x → ⊥) → Wrote x v old new → new ≡ old ++ encodes v
plain (Ok u) v old new n h = h
plain (Err e) v old new n h = plain_at e.kind v old new (λ side k. n (side, k)) h

only_at : (limit : ℕ) (told : Option (List ℕ)) (w u : Stream) (x other : Result (Unit {0}) DecodeErr) (v value : List ℕ)
    → IfSome told (λ b. Decodes limit b x v) → Both w.bytes u.bytes (Wrote x v)
    → IfSome told (λ b. Decodes limit b other value × ¬ (IsIo other) × ¬ (IsIo x) → (other ≡ x) × Both w.bytes u.bytes (λ old new. new ≡ old ++ encodes value))
only_at limit None w u x other v value d h = tt
only_at limit (Some b) w u x other v value d h = λ a.
    let s = one_answer limit b other x value v a.0 d a.1 a.2 in
    (s.0, both_map w.bytes u.bytes (Wrote x v) (λ old new. new ≡ old ++ encodes value) (λ old new p. plain x v old new a.2 p ∙ ap (λ t. old ++ encodes t) (sym s.1)) h)

pub only : (limit : ℕ) (r w t u : Stream) (x : Result (Unit {0}) DecodeErr) → Decoding limit r w x t u → IsOnly limit r w x u
only limit r w t u x d other value = only_at limit r.bytes w u x other d.value value d.decodes d.written

-- Over the bytes of a text the answer is that of its characters.
whole_read : (bytes : List ℕ) → IsUtf8 bytes → ReadSo bytes (chars bytes) []
whole_read bytes u = record { spells = sym (append-nil (encodes (chars bytes)) ∙ encodes-chars bytes u); characters = scalars-chars bytes u }

text_is : (bytes t : List ℕ) → IsUtf8 bytes → ReadSo bytes t [] → t ≡ chars bytes
text_is bytes t u r = chars_from_encodes t bytes u (sym (append-nil (encodes t)) ∙ sym r.spells)

part_of : (bytes t r : List ℕ) → IsUtf8 bytes → ReadSo bytes t r → GoesOn t (chars bytes)
part_of bytes t r u h = furthest bytes (chars bytes) t [] r (whole_read bytes u) h (inl refl)

shorter : (t u : List ℕ) → GoesOn t u → length t ≤ length u
shorter t u g = omega (arith, ap length g.1, length-append t g.0)

no_bytes : (bytes t r : List ℕ) → IsUtf8 bytes → ReadSo bytes t r → 0 < length r → StartsWithNoChar r → ⊥
no_bytes bytes t r u h some bare =
    let back = furthest bytes t (chars bytes) r [] h (whole_read bytes u) (inr bare) in
    let same : t ≡ chars bytes = both_ways t (chars bytes) (part_of bytes t r u h) back in
    let none : r ≡ [] = append_cancel_left (encodes t) r [] (sym h.spells ∙ (whole_read bytes u).spells ∙ ap (λ x. encodes x ++ []) (sym same)) in
    omega (arith, ap length none)

stop_in : (limit : ℕ) (bytes : List ℕ) (k : DecodeErrKind) (p : ℕ) (v : List ℕ) → IsUtf8 bytes → length (chars bytes) < limit
    → Stops limit bytes k p v → ((side : IoFault) → k ≢ IoError side)
    → HasFault (chars bytes) k p v
stop_in limit bytes UnknownEntity p v u l s n = met_in limit bytes UnknownEntity p v (chars bytes) s (part_of bytes s.text s.rest u s.read)
stop_in limit bytes MalformedNumEscape p v u l s n = met_in limit bytes MalformedNumEscape p v (chars bytes) s (part_of bytes s.text s.rest u s.read)
stop_in limit bytes InvalidCharacter p v u l s n = met_in limit bytes InvalidCharacter p v (chars bytes) s (part_of bytes s.text s.rest u s.read)
stop_in limit bytes PrematureEnd p v u l s n = let P : List ℕ → Type 0 = λ t. HasFault t PrematureEnd p v in subst P (text_is bytes s.text u s.read) s.fault
stop_in limit bytes EncodingError p v u l s n = absurd (no_bytes bytes s.text s.rest u s.read s.some s.none)
stop_in limit bytes TooLong p v u l s n =
    absurd (let full = s.full in omega (arith, shorter s.text (chars bytes) (part_of bytes s.text s.rest u s.read)))
stop_in limit bytes (IoError side) p v u l s n = absurd (n side refl)
stop_in limit bytes NoMemory p v u l s n = absurd s

pub text_answers : (limit : ℕ) (bytes : List ℕ) (x : Result (Unit {0}) DecodeErr) (v : List ℕ) → IsUtf8 bytes → length (chars bytes) < limit
    → Decodes limit bytes x v → (IsIo x → ⊥)
    → Answers (chars bytes) x v
text_answers limit bytes (Ok t) v u l d n = let P : List ℕ → Type 0 = λ t. IsText t v in subst P (text_is bytes d.text u d.read) d.whole
text_answers limit bytes (Err e) v u l d n = stop_in limit bytes e.kind e.position v u l d (λ side k. n (side, k))

pub answers_same : (text : List ℕ) (x y : Result (Unit {0}) DecodeErr) (v w : List ℕ) → Answers text x v → Answers text y w → (x ≡ y) × (v ≡ w)
answers_same text (Ok t) (Ok u) v w a b = (refl, text_unique text v w a b)
answers_same text (Ok t) (Err f) v w a b = absurd (text_faultless text v w f.kind f.position a b)
answers_same text (Err e) (Ok u) v w a b = absurd (text_faultless text w v e.kind e.position b a)
answers_same text (Err e) (Err f) v w a b =
    let s = fault_unique text v w e.kind f.kind e.position f.position a b in
    (ap (λ (k : DecodeErrKind). Err (record { position = e.position; kind = k })) s.0 ∙ ap (λ (p : ℕ). Err (record { position = p; kind = f.kind })) s.1, s.2)

-- Both decoders agree.
pub decoders_agree : (limit : ℕ) (bytes : List ℕ) (x y : Result (Unit {0}) DecodeErr) (v w : List ℕ) → IsUtf8 bytes → length (chars bytes) < limit
    → Answers (chars bytes) x v → Decodes limit bytes y w
    → (IsIo y → ⊥) → (x ≡ y) × (v ≡ w)
decoders_agree limit bytes x y v w u l a d n = answers_same (chars bytes) x y v w a (text_answers limit bytes y w u l d n)

pub short_text : (bytes : List ℕ) → IsUtf8 bytes → length (chars bytes) < length bytes + 1
short_text bytes u = omega (arith, length-le-encodes (chars bytes), ap length (encodes-chars bytes u))
