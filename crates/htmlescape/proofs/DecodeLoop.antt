-- The loop of a decoder over the characters of a reader.
use Rattle.std.proofs.Common.{◌≡◌, ◌<◌, ◌≤◌, ◌≢◌, ◌+◌, ℕ, Bool, true, false, cond, ◌&&◌, ◌==◌, nat_lt, List, [], ◌∷◌, ◌++◌, length, take, drop, Option, Some, None, Result, Ok, Err, IsSome, IfSome, refl, sym, ◌∙◌, ap, subst, arith, append_assoc, append-nil, length-append}
use lib.Utf8.{encodes, encode, scalars, scalar}
use Rattle.std.specs.List.{list_any, prefix_len}
use Rattle.std.specs.Char.{is_digit}
use Rattle.std.specs.Str.Parse.{digits_value}
use Rattle.std.proofs.lemmas.Bool.{false≢true}
use Rattle.std.proofs.lemmas.Str.{encodes-append}
use Rattle.dav_io.specs.declared.failure.Failed.{Failed}
use Rattle.dav_io.specs.Told.{Both}
use Rattle.dav_io.proofs.ToldLemmas.{both_then, both_map}
use Rattle.dav_io.specs.Outside.{Stream}
use Rattle.htmlescape.specs.declared.characters.CharsError.TheVariants.{NotUtf8, Other}
use Rattle.htmlescape.specs.declared.decoder.Decoder.{Decoder}
use Rattle.htmlescape.specs.declared.faults.DecodeErr.{DecodeErr}
use Rattle.htmlescape.specs.declared.faults.DecodeErrKind.{DecodeErrKind}
use Rattle.htmlescape.specs.declared.faults.DecodeErrKind.TheVariants.{UnknownEntity, MalformedNumEscape, InvalidCharacter, PrematureEnd, IoError, EncodingError, TooLong, NoMemory}
use Rattle.htmlescape.specs.declared.faults.IoFault.TheVariants.{Read, Write}
use Rattle.htmlescape.specs.Characters.{CharRead, ReadsChar}
use Rattle.dav_io.specs.Appending.{Appends, Appended}
use Rattle.htmlescape.specs.Characters.{bytes_of}
use Rattle.htmlescape.specs.Grammar.{HasFault, number_end, digits_fault, number_fault, name_fault, entity_fault, fault_at}
use Rattle.htmlescape.specs.Progress.{Running, Took, Ended}
use Rattle.htmlescape.specs.Decoding.{Unfinished, MeetsFault, Stops, Decodes, LeavesFault, LeavesAt, WroteAt, Decoding}
use Rattle.dav_io.proofs.AppendingLemmas.{rose_before, appends_then}
use Rattle.htmlescape.proofs.Escaping.{scalars_append}
use Rattle.htmlescape.proofs.Fronts.{longest_front}
use Rattle.htmlescape.proofs.Moves.{is_open}

-- the text is at the front of the bytes
abbrev pub SoFar : List ℕ → List ℕ → List ℕ → Type 0
SoFar text bytes left = bytes ≡ encodes text ++ left

-- What was read, what it stands for, and that this was written.
pub record Going (reader reader_now writer writer_now : Stream) (decoder : Decoder) (count : ℕ) : Type 0 where
  pub text : List ℕ
  pub value : List ℕ
  pub running : Running decoder text value
  pub size : length text ≡ count
  pub characters : scalars text ≡ true
  pub meant : scalars value ≡ true
  pub reads : reader.faults ≤ reader_now.faults
  pub told : Both reader.bytes reader_now.bytes (SoFar text)
  pub wrote : Appends writer (encodes value) (Ok tt) writer_now

-- what is told of the bytes
told_of : {A : Type 0} (old new : Option A) (P : A → A → Type 0) (Q : A → Type 0) → ((a b : A) → P a b → Q a) → Both old new P → IfSome old Q
told_of None None P Q h p = tt
told_of None (Some b) P Q h p = absurd p
told_of (Some a) None P Q h p = absurd p
told_of (Some a) (Some b) P Q h p = h a b p

one_more : (text : List ℕ) (c : ℕ) → encodes (text ++ c ∷ []) ≡ encodes text ++ encode c
one_more text c = encodes-append text (c ∷ []) ∙ ap (λ t. encodes text ++ t) (append-nil (encode c))

read_more : (text : List ℕ) (c : ℕ) (a b d : List ℕ) → SoFar text a b → CharRead (Some (Ok c)) b d → SoFar (text ++ c ∷ []) a d
read_more text c a b d p q =
    p ∙ ap (λ t. encodes text ++ t) q ∙ sym (append_assoc (encodes text) (encode c) d) ∙ ap (λ t. t ++ d) (sym (one_more text c))

told_more : (r m t : Stream) (text : List ℕ) (c : ℕ) → Both r.bytes m.bytes (SoFar text) → ReadsChar m (Some (Ok c)) t
    → Both r.bytes t.bytes (SoFar (text ++ c ∷ []))
told_more r m t text c p q =
    both_then r.bytes m.bytes t.bytes (SoFar text) (CharRead (Some (Ok c))) (SoFar (text ++ c ∷ [])) (read_more text c) p q.told

characters_more : (text : List ℕ) (c : ℕ) → scalars text ≡ true → scalar c ≡ true → scalars (text ++ c ∷ []) ≡ true
characters_more text c p q = scalars_append text (c ∷ []) p (ap (λ b. b && true) q)

size_more : (text : List ℕ) (c count : ℕ) → length text ≡ count → length (text ++ c ∷ []) ≡ count + 1
size_more text c count e = length-append text (c ∷ []) ∙ ap (λ n. n + 1) e

-- The next character is read, and what it stands for is written.
pub going_on : (r m t w n u : Stream) (d e : Decoder) (count c : ℕ) (found : Option ℕ) → (i : Going r m w n d count) → ReadsChar m (Some (Ok c)) t
    → Took d.place i.text i.value c (Ok found) e → Appends n (bytes_of found) (Ok tt) u → Going r t w u e (count + 1)
going_on r m t w n u d e count c None i q k a = record {
  text = i.text ++ c ∷ [];
  value = i.value;
  running = k;
  size = size_more i.text c count i.size;
  characters = characters_more i.text c i.characters q.scalar;
  meant = i.meant;
  reads = (let low = i.reads in let high = q.counts in omega arith);
  told = told_more r m t i.text c i.told q;
  wrote = (let P : List ℕ → Type 0 = λ x. Appends w x (Ok tt) u in subst P (append-nil (encodes i.value)) (appends_then w n u (encodes i.value) [] i.wrote a));
}
going_on r m t w n u d e count c (Some found) i q k a = record {
  text = i.text ++ c ∷ [];
  value = i.value ++ found ∷ [];
  running = k.1;
  size = size_more i.text c count i.size;
  characters = characters_more i.text c i.characters q.scalar;
  meant = characters_more i.value found i.meant k.0;
  reads = (let low = i.reads in let high = q.counts in omega arith);
  told = told_more r m t i.text c i.told q;
  wrote = (let P : List ℕ → Type 0 = λ x. Appends w x (Ok tt) u in subst P (sym (one_more i.value found)) (appends_then w n u (encodes i.value) (encode found) i.wrote a));
}

front_written : (value : List ℕ) (last : ℕ) (f : Failed) (a b d : List ℕ) → Appended (encodes value) (Ok tt) a b → Appended (encode last) (Err f) b d
    → WroteAt (IoError Write) (value ++ last ∷ []) a d
front_written value last f a b d p q =
    (value, last, q.0, refl, q.1, q.2 ∙ ap (λ t. t ++ take q.0 (encode last)) p ∙ append_assoc a (encodes value) (take q.0 (encode last)))

-- The writer fails.
pub writer_fails : (limit : ℕ) (r m t w n u : Stream) (d e : Decoder) (count c : ℕ) (found : Option ℕ) (f : Failed) → (i : Going r m w n d count)
    → ReadsChar m (Some (Ok c)) t
    → Took d.place i.text i.value c (Ok found) e → Appends n (bytes_of found) (Err f) u → IsSome found → count < limit
    → Decoding limit r w (Err (record { position = d.place; kind = IoError Write })) t u
writer_fails limit r m t w n u d e count c None f i q k a s l = absurd (false≢true s)
writer_fails limit r m t w n u d e count c (Some found) f i q k a s l = record {
  reads = (let low = i.reads in let high = q.counts in omega arith);
  read_fault = λ x. cc;
  writes = (let low = i.wrote.counts in let high = a.counts in omega arith);
  write_fault = λ x. rose_before w.faults n.faults u.faults i.wrote.counts (a.failed refl);
  no_memory_taken = λ x. cc;
  value = i.value ++ found ∷ [];
  characters = characters_more i.value found i.meant k.0;
  decodes =
      told_of r.bytes t.bytes (SoFar (i.text ++ c ∷ [])) (λ b. Stops limit b (IoError Write) d.place (i.value ++ found ∷ [])) (λ b left p. record {
        text = i.text ++ c ∷ [];
        rest = left;
        read = record { spells = p; characters = characters_more i.text c i.characters q.scalar };
        within = omega (arith, size_more i.text c count i.size);
        before = i.value;
        last = found;
        value_is = refl;
        completes = k.3;
      }) (told_more r m t i.text c i.told q);
  left = both_map r.bytes t.bytes (SoFar (i.text ++ c ∷ [])) (LeavesAt (IoError Write) d.place (i.value ++ found ∷ [])) (λ a b p.
      (i.text ++ c ∷ [], i.value, found, record { spells = p; characters = characters_more i.text c i.characters q.scalar }, refl, k.3)) (told_more r m t i.text c i.told q);
  written = both_then w.bytes n.bytes u.bytes (Appended (encodes i.value) (Ok tt)) (Appended (encode found) (Err f)) (WroteAt (IoError Write) (i.value ++ found ∷ []))
      (front_written i.value found f) i.wrote.told a.told;
}

-- The faults of the grammar are four.
abbrev pub OfGrammar : DecodeErrKind → Type 0
OfGrammar UnknownEntity = Unit {0}
OfGrammar MalformedNumEscape = Unit {0}
OfGrammar InvalidCharacter = Unit {0}
OfGrammar PrematureEnd = Unit {0}
OfGrammar fault = ⊥

either : (b : Bool) (x y : DecodeErrKind) → OfGrammar x → OfGrammar y → OfGrammar (cond b x y)
either true x y p q = p
either false x y p q = q

end_kind : (base : ℕ) (digits rest : List ℕ) → OfGrammar (number_end base digits rest)
end_kind base digits [] = tt
end_kind base digits (c ∷ more) =
    either ((c == 59 && nat_lt 0 (length digits)) && nat_lt (digits_value base digits) 4294967296) InvalidCharacter MalformedNumEscape tt tt

digits_kind : (base : ℕ) (text : List ℕ) → OfGrammar (digits_fault base text)
digits_kind base text = let n = prefix_len (λ c. is_digit c base) text in end_kind base (take n text) (drop n text)

number_kind : (rest : List ℕ) → OfGrammar (number_fault rest)
number_kind [] = tt
number_kind (c ∷ more) = either (c == 120) (digits_fault 16 more) (digits_fault 10 (c ∷ more)) (digits_kind 16 more) (digits_kind 10 (c ∷ more))

entity_kind : (rest : List ℕ) → OfGrammar (entity_fault rest)
entity_kind [] = tt
entity_kind (c ∷ more) =
    either (c == 59) UnknownEntity (cond (c == 35) (number_fault more) (name_fault (c ∷ more))) tt
    (either (c == 35) (number_fault more) (name_fault (c ∷ more)) (number_kind more) (either (list_any (λ d. d == 59) (c ∷ more)) UnknownEntity PrematureEnd tt tt))

pub kind_at : (rest : List ℕ) → OfGrammar (fault_at rest)
unfolding fault_at
kind_at [] = tt
kind_at (ampersand ∷ more) = entity_kind more

stops_met : (limit : ℕ) (bytes : List ℕ) (kind : DecodeErrKind) (position : ℕ) (value : List ℕ) → OfGrammar kind → kind ≢ PrematureEnd
    → MeetsFault limit bytes kind position value
    → Stops limit bytes kind position value
stops_met limit bytes UnknownEntity position value o n m = m
stops_met limit bytes MalformedNumEscape position value o n m = m
stops_met limit bytes InvalidCharacter position value o n m = m
stops_met limit bytes PrematureEnd position value o n m = absurd (n refl)
stops_met limit bytes fault position value o n m = absurd o

wrote_all : (kind : DecodeErrKind) (value old new : List ℕ) → OfGrammar kind → new ≡ old ++ encodes value → WroteAt kind value old new
wrote_all UnknownEntity value old new o e = e
wrote_all MalformedNumEscape value old new o e = e
wrote_all InvalidCharacter value old new o e = e
wrote_all PrematureEnd value old new o e = e
wrote_all fault value old new o e = absurd o

pub not_of : (kind other : DecodeErrKind) → OfGrammar kind → kind ≡ other → OfGrammar other
not_of kind other o e = let P : DecodeErrKind → Type 0 = OfGrammar in subst P e o

leaves_met : (kind : DecodeErrKind) (position : ℕ) (value old new : List ℕ) → OfGrammar kind → kind ≢ PrematureEnd
    → LeavesFault kind position value old new → LeavesAt kind position value old new
leaves_met UnknownEntity position value old new o n m = m
leaves_met MalformedNumEscape position value old new o n m = m
leaves_met InvalidCharacter position value old new o n m = m
leaves_met PrematureEnd position value old new o n m = absurd (n refl)
leaves_met fault position value old new o n m = absurd o

unfinished : (d : Decoder) (text value : List ℕ) → Running d text value → Unfinished text value
unfinished d text value k =
    let opened = is_open d.state k.pending k.keeps in record { rest = k.pending; front = longest_front text value k.pending k.front opened.0; unmet = opened.1 }

-- A fault is met.
pub fault_met : (limit : ℕ) (r m t w n : Stream) (d e : Decoder) (count c : ℕ) (f : DecodeErr) → (i : Going r m w n d count)
    → ReadsChar m (Some (Ok c)) t
    → Took d.place i.text i.value c (Err f) e → count < limit → Decoding limit r w (Err f) t n
fault_met limit r m t w n d e count c f i q k l =
    let at = k.1 [] in
    let o : OfGrammar f.kind = not_of (fault_at at.rest) f.kind (kind_at at.rest) (sym at.kind) in
    record {
      reads = (let low = i.reads in let high = q.counts in omega arith);
      read_fault = λ x. absurd (not_of f.kind (IoError Read) o x);
      writes = i.wrote.counts;
      write_fault = λ x. absurd (not_of f.kind (IoError Write) o x);
      no_memory_taken = λ x. not_of f.kind NoMemory o x;
      value = i.value;
      characters = i.meant;
      decodes = told_of r.bytes t.bytes (SoFar (i.text ++ c ∷ [])) (λ b. Stops limit b f.kind f.position i.value) (λ b left p. stops_met limit b f.kind f.position i.value o k.0 (record {
        text = i.text ++ c ∷ [];
        rest = left;
        read = record { spells = p; characters = characters_more i.text c i.characters q.scalar };
        within = omega (arith, size_more i.text c count i.size);
        met = λ more. (let P : List ℕ → Type 0 = λ x. HasFault x f.kind f.position i.value in subst P (sym (append_assoc i.text (c ∷ []) more)) (k.1 more));
      })) (told_more r m t i.text c i.told q);
      left = both_map r.bytes t.bytes (SoFar (i.text ++ c ∷ [])) (LeavesAt f.kind f.position i.value) (λ a b p. leaves_met f.kind f.position i.value a b o k.0 (record {
        before = i.text;
        last = c;
        read = record { spells = p; characters = characters_more i.text c i.characters q.scalar };
        unmet = unfinished d i.text i.value i.running;
        met = k.1;
      })) (told_more r m t i.text c i.told q);
      written = both_map w.bytes n.bytes (Appended (encodes i.value) (Ok tt)) (WroteAt f.kind i.value) (λ a b p. wrote_all f.kind i.value a b o p) i.wrote.told;
    }

-- The bytes are no character.
pub bytes_met : (limit : ℕ) (r m t w n : Stream) (d : Decoder) (count : ℕ) → Going r m w n d count → ReadsChar m (Some (Err NotUtf8)) t
    → count < limit
    → Decoding limit r w (Err (record { position = count; kind = EncodingError })) t n
bytes_met limit r m t w n d count i q l = record {
  reads = (let low = i.reads in let high = q.counts in omega arith);
  read_fault = λ x. cc;
  writes = i.wrote.counts;
  write_fault = λ x. cc;
  no_memory_taken = λ x. cc;
  value = i.value;
  characters = i.meant;
  decodes =
      let Q : List ℕ → Type 0 = λ b. Stops limit b EncodingError count i.value in
      told_of r.bytes t.bytes (λ a b. Q a) Q (λ a b p. p) (both_then r.bytes m.bytes t.bytes (SoFar i.text) (CharRead (Some (Err NotUtf8))) (λ a b. Q a) (λ a b z p k. record {
        text = i.text;
        rest = b;
        read = record { spells = p; characters = i.characters };
        within = (let s = i.size in omega arith);
        some = k.0;
        none = k.1;
        place = sym i.size;
        unfinished = unfinished d i.text i.value i.running;
      }) i.told q.told);
  left = both_then r.bytes m.bytes t.bytes (SoFar i.text) (CharRead (Some (Err NotUtf8))) (LeavesAt EncodingError count i.value) (λ a b z p k.
      (i.text, b, record { spells = p; characters = i.characters }, sym i.size, k.2)) i.told q.told;
  written = i.wrote.told;
}

-- The reader fails.
pub reader_fails : (limit : ℕ) (r m t w n : Stream) (d : Decoder) (count : ℕ) (f : Failed) → Going r m w n d count
    → ReadsChar m (Some (Err (Other f))) t → count < limit
    → Decoding limit r w (Err (record { position = count; kind = IoError Read })) t n
reader_fails limit r m t w n d count f i q l = record {
  reads = (let low = i.reads in let high = q.counts in omega arith);
  read_fault = λ x. rose_before r.faults m.faults t.faults i.reads (q.failed tt);
  writes = i.wrote.counts;
  write_fault = λ x. cc;
  no_memory_taken = λ x. cc;
  value = i.value;
  characters = i.meant;
  decodes = told_of r.bytes m.bytes (SoFar i.text) (λ b. Stops limit b (IoError Read) count i.value) (λ a b p. record {
    text = i.text;
    rest = b;
    read = record { spells = p; characters = i.characters };
    within = (let s = i.size in omega arith);
    place = sym i.size;
    unfinished = unfinished d i.text i.value i.running;
  }) i.told;
  left = both_then r.bytes m.bytes t.bytes (SoFar i.text) (CharRead (Some (Err (Other f)))) (LeavesAt (IoError Read) count i.value) (λ a b z p k.
      (i.text, k.0, record { spells = p ∙ ap (λ x. encodes i.text ++ x) k.1; characters = i.characters }, sym i.size, k.2)) i.told q.told;
  written = i.wrote.told;
}

-- So many characters were read.
pub limit_met : (limit : ℕ) (r m w n : Stream) (d : Decoder) (count : ℕ) → Going r m w n d count → count ≡ limit
    → Decoding limit r w (Err (record { position = limit; kind = TooLong })) m n
limit_met limit r m w n d count i l = record {
  reads = i.reads;
  read_fault = λ x. cc;
  writes = i.wrote.counts;
  write_fault = λ x. cc;
  no_memory_taken = λ x. cc;
  value = i.value;
  characters = i.meant;
  decodes = told_of r.bytes m.bytes (SoFar i.text) (λ b. Stops limit b TooLong limit i.value) (λ a b p. record {
    text = i.text;
    rest = b;
    read = record { spells = p; characters = i.characters };
    full = i.size ∙ l;
    place = sym (i.size ∙ l);
    unfinished = unfinished d i.text i.value i.running;
  }) i.told;
  left = both_map r.bytes m.bytes (SoFar i.text) (LeavesAt TooLong limit i.value) (λ a b p. (i.text, record { spells = p; characters = i.characters }, sym (i.size ∙ l))) i.told;
  written = i.wrote.told;
}

-- The input ends.
kinds_apart : (kind : DecodeErrKind) → kind ≡ PrematureEnd → OfGrammar kind
kinds_apart kind e = not_of PrematureEnd kind tt (sym e)

stops_early : (limit : ℕ) (bytes : List ℕ) (f : DecodeErr) (value : List ℕ) → f.kind ≡ PrematureEnd → Stops limit bytes PrematureEnd f.position value
    → Stops limit bytes f.kind f.position value
stops_early limit bytes f value e s = let P : DecodeErrKind → Type 0 = λ k. Stops limit bytes k f.position value in subst P (sym e) s

leaves_none : (f : DecodeErr) (value old new : List ℕ) → f.kind ≡ PrematureEnd → new ≡ [] → LeavesAt f.kind f.position value old new
leaves_none f value old new e n = let P : DecodeErrKind → Type 0 = λ k. LeavesAt k f.position value old new in subst P (sym e) n

pub input_ends : (limit : ℕ) (r m t w n : Stream) (d : Decoder) (count : ℕ) (result : Result (Unit {0}) DecodeErr) → (i : Going r m w n d count)
    → ReadsChar m None t
    → Ended i.text i.value result → count < limit → Decoding limit r w result t n
input_ends limit r m t w n d count (Ok u) i q k l = record {
  reads = (let low = i.reads in let high = q.counts in omega arith);
  read_fault = λ x. absurd x;
  writes = i.wrote.counts;
  write_fault = λ x. absurd x;
  no_memory_taken = λ x. x;
  value = i.value;
  characters = i.meant;
  decodes =
      let Q : List ℕ → Type 0 = λ b. Decodes limit b (Ok u) i.value in
      told_of r.bytes t.bytes (λ a b. Q a) Q (λ a b p. p) (both_then r.bytes m.bytes t.bytes (SoFar i.text) (CharRead None) (λ a b. Q a) (λ a b z p s. record {
        text = i.text;
        read = record { spells = p ∙ ap (λ x. encodes i.text ++ x) s.0; characters = i.characters };
        within = (let size = i.size in omega arith);
        whole = k;
      }) i.told q.told);
  left = both_then r.bytes m.bytes t.bytes (SoFar i.text) (CharRead None) (λ a b. b ≡ []) (λ a b z p s. s.1) i.told q.told;
  written = i.wrote.told;
}
input_ends limit r m t w n d count (Err f) i q k l = record {
  reads = (let low = i.reads in let high = q.counts in omega arith);
  read_fault = λ x. absurd (not_of f.kind (IoError Read) (kinds_apart f.kind k.0) x);
  writes = i.wrote.counts;
  write_fault = λ x. absurd (not_of f.kind (IoError Write) (kinds_apart f.kind k.0) x);
  no_memory_taken = λ x. not_of f.kind NoMemory (kinds_apart f.kind k.0) x;
  value = i.value;
  characters = i.meant;
  decodes =
      let Q : List ℕ → Type 0 = λ b. Stops limit b f.kind f.position i.value in
      told_of r.bytes t.bytes (λ a b. Q a) Q (λ a b p. p) (both_then r.bytes m.bytes t.bytes (SoFar i.text) (CharRead None) (λ a b. Q a) (λ a b z p s. stops_early limit a f i.value k.0 (record {
        text = i.text;
        read = record { spells = p ∙ ap (λ x. encodes i.text ++ x) s.0; characters = i.characters };
        within = (let size = i.size in omega arith);
        fault = k.1;
      })) i.told q.told);
  left = both_then r.bytes m.bytes t.bytes (SoFar i.text) (CharRead None) (LeavesAt f.kind f.position i.value) (λ a b z p s. leaves_none f i.value a z k.0 s.1) i.told q.told;
  written = both_map w.bytes n.bytes (Appended (encodes i.value) (Ok tt)) (WroteAt f.kind i.value) (λ a b p. wrote_all f.kind i.value a b (kinds_apart f.kind k.0) p) i.wrote.told;
}
