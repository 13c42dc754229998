-- Decoding a text in memory.
use Rattle.std.proofs.Common.{◌≡◌, ◌≢◌, ◌⊎◌, ◌+◌, ℕ, true, List, [], ◌++◌, length, Result, Ok, Err, refl, sym, ◌∙◌, ap, subst, inl, inr, arith, IsUtf8, chars}
use lib.Utf8.{encodes, scalars}
use Rattle.htmlescape.specs.declared.faults.DecodeErr.{DecodeErr}
use Rattle.htmlescape.specs.declared.faults.DecodeErrKind.{DecodeErrKind}
use Rattle.htmlescape.specs.declared.faults.DecodeErrKind.TheVariants.{UnknownEntity, MalformedNumEscape, InvalidCharacter, PrematureEnd, IoError, EncodingError, TooLong, NoMemory}
use Rattle.htmlescape.specs.declared.faults.IoFault.{IoFault}
use Rattle.htmlescape.specs.Grammar.{IsText, HasFault}
use Rattle.htmlescape.specs.Decoding.{Decodes, IsDecoded, IsFault, IsOfText, in_memory}
use Rattle.htmlescape.proofs.Fronts.{text_unique, text_faultless, fault_unique}
use Rattle.htmlescape.specs.Grammar.{fault_at}
use Rattle.htmlescape.proofs.Agreement.{text_answers, short_text}
use Rattle.htmlescape.proofs.DecodeLoop.{OfGrammar, kind_at, not_of}

pub decoded_utf8 : (front written value : List ℕ) → front ≡ [] → written ≡ front ++ encodes value → scalars value ≡ true → IsUtf8 written
decoded_utf8 front written value none e s = (value, (s, sym (e ∙ ap (λ t. t ++ encodes value) none)))

along : (given bytes : List ℕ) (limit : ℕ) (x : Result (Unit {0}) DecodeErr) (v : List ℕ) → given ≡ bytes → Decodes limit given x v
    → Decodes limit bytes x v
along given bytes limit x v e d = let P : List ℕ → Type 0 = λ b. Decodes limit b x v in subst P e d

pub is_decoded : (given bytes front written value : List ℕ) (limit : ℕ) → IsUtf8 bytes → given ≡ bytes → limit ≡ length bytes + 1 → front ≡ []
    → written ≡ front ++ encodes value → Decodes limit given (Ok tt) value → IsDecoded (chars bytes) written
is_decoded given bytes front written value limit u same l none e d =
    (value, text_answers limit bytes (Ok tt) value u (let s = short_text bytes u in omega arith) (along given bytes limit (Ok tt) value same d) (λ io. io), e ∙ ap (λ t. t ++ encodes value) none)

io_or_not : (k : DecodeErrKind) → ((side : IoFault) × (k ≡ IoError side)) ⊎ ((side : IoFault) → k ≢ IoError side)
io_or_not (IoError side) = inl (side, refl)
io_or_not UnknownEntity = inr (λ side e. cc)
io_or_not MalformedNumEscape = inr (λ side e. cc)
io_or_not InvalidCharacter = inr (λ side e. cc)
io_or_not PrematureEnd = inr (λ side e. cc)
io_or_not EncodingError = inr (λ side e. cc)
io_or_not TooLong = inr (λ side e. cc)
io_or_not NoMemory = inr (λ side e. cc)

stays : (k : DecodeErrKind) → ((side : IoFault) → k ≢ IoError side) → in_memory k ≡ k
stays (IoError side) n = absurd (n side refl)
stays kind n = refl

pub is_fault : (given bytes value : List ℕ) (limit : ℕ) (f g : DecodeErr) → IsUtf8 bytes → given ≡ bytes → limit ≡ length bytes + 1
    → g.position ≡ f.position
    → g.kind ≡ in_memory f.kind → Decodes limit given (Err f) value → IsFault (chars bytes) g
is_fault given bytes value limit f g u same l p k d = elim (io_or_not f.kind) [
  | inl io ↦ inl (k ∙ ap in_memory io.1)
  | inr n ↦
      let a = text_answers limit bytes (Err f) value u (let s = short_text bytes u in omega arith) (along given bytes limit (Err f) value same d) (λ io. n io.0 io.1) in
      let P : DecodeErrKind → Type 0 = λ j. HasFault (chars bytes) j g.position value in
      let Q : ℕ → Type 0 = λ q. HasFault (chars bytes) f.kind q value in
      inr (value, subst P (sym (k ∙ stays f.kind n)) (subst Q (sym p) a))
]

pub ok_text : (text bytes value : List ℕ) → IsDecoded text bytes → IsText text value → bytes ≡ encodes value
ok_text text bytes value d t = d.2 ∙ ap encodes (text_unique text d.0 value d.1 t)

pub ok_fault : (text bytes value : List ℕ) (kind : DecodeErrKind) (position : ℕ) → IsDecoded text bytes → HasFault text kind position value → ⊥
ok_fault text bytes value kind position d f = text_faultless text d.0 value kind position d.1 f

pub err_text : (text value : List ℕ) (e : DecodeErr) → IsFault text e → IsText text value → e.kind ≡ NoMemory
err_text text value e f t = elim f [ inl n ↦ n | inr h ↦ absurd (text_faultless text value h.0 e.kind e.position t h.1) ]

pub err_fault : (text value : List ℕ) (kind : DecodeErrKind) (position : ℕ) (e : DecodeErr) → IsFault text e → HasFault text kind position value
    → (e.kind ≡ NoMemory) ⊎ ((e.kind ≡ kind) × (e.position ≡ position))
err_fault text value kind position e f t = elim f [
  | inl n ↦ inl n
  | inr h ↦ let s = fault_unique text h.0 value e.kind kind e.position position h.1 t in inr (s.0, s.1)
]

of_text : (kind : DecodeErrKind) → OfGrammar kind → IsOfText kind
of_text UnknownEntity o = tt
of_text MalformedNumEscape o = tt
of_text InvalidCharacter o = tt
of_text PrematureEnd o = tt
of_text kind o = absurd o

pub fault_kind : (text : List ℕ) (e : DecodeErr) → IsFault text e → IsOfText e.kind
fault_kind text e f = elim f [
  | inl n ↦ let P : DecodeErrKind → Type 0 = IsOfText in subst P (sym n) tt
  | inr h ↦ of_text e.kind (not_of (fault_at h.1.rest) e.kind (kind_at h.1.rest) (sym h.1.kind))
]
