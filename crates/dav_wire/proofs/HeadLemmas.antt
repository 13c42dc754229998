-- From what `httparse` says of a head to what `http` asks of its parts.
use Rattle.std.proofs.Common.{◌≡◌, ℕ, zero, suc, ◌+◌, ◌<◌, ◌≤◌, List, [], ◌∷◌, ◌++◌, length, get_or, map, All, flat_map, refl, sym, ap, ◌∙◌, subst, arith, length-append, take}
use Rattle.std.proofs.lemmas.List.Elements.{All-map}
use Rattle.std.proofs.lemmas.List.{length-map, get_or-map, length-take}
use Rattle.std.proofs.lemmas.Simd.{map-map}
use Rattle.http_header.specs.Token as token
use Rattle.http_header.specs.FieldValue.{IsFieldValue}
use Rattle.httparse.specs.Grammar as grammar
use Rattle.httparse.specs.Ascii.{colon}
use Rattle.httparse.specs.Grammar.{LineEnd, print_blank, print_version, print_end, print_section, Field, RequestHead, IsRequestHead, print_field, print_request, field_value, AllPass, is_value_byte}
use Rattle.httparse.specs.Spans.{header_bytes, name_and_value}
use Rattle.httparse.specs.declared.spans.HeaderSpan.{HeaderSpan}
use Rattle.httparse.proofs.TrimLemmas.{AllPass-trim_ows}
use Rattle.httparse.proofs.GrammarLemmas.{print_request-append}
use Rattle.dav_wire.specs.Heads.{kept, kept_field, kept_span, IsField}

-- the two crates have one class of token bytes
pub token_byte_same : (b : ℕ) → grammar.is_token_byte b ≡ token.is_token_byte b
unfolding grammar.is_token_byte token.is_token_byte
token_byte_same b = refl

pub token_same : (bytes : List ℕ) → grammar.IsToken bytes → token.IsToken bytes
token_same bytes t = (t.0, λ k d l. rw (← token_byte_same (get_or bytes k d)) (t.1 k d l))

-- a value is trimmed, and has still no byte that a value may not have
pub value_same : (f : Field) → grammar.IsField f → IsFieldValue (field_value f)
value_same f h = AllPass-trim_ows is_value_byte f.raw h.raw

-- a field's name is shorter than the fields' text
name_in_fields : (fields : List Field) (k : ℕ) (d : Field) → k < length fields
    → length (get_or fields k d).name < length (flat_map print_field fields)
name_in_fields [] k d l = absurd (omega arith)
name_in_fields (f ∷ fields) zero d l =
    let whole : length (flat_map print_field (f ∷ fields)) ≡ length (print_field f) + length (flat_map print_field fields) = length-append _ _ in
    let field : length (print_field f) ≡ length (f.name ++ colon ∷ f.raw) + length (print_end f.end) = length-append _ _ in
    let name : length (f.name ++ colon ∷ f.raw) ≡ length f.name + suc (length f.raw) = length-append f.name (colon ∷ f.raw) in
    omega arith
name_in_fields (f ∷ fields) (suc k) d l =
    let whole : length (flat_map print_field (f ∷ fields)) ≡ length (print_field f) + length (flat_map print_field fields) = length-append _ _ in
    let later = name_in_fields fields k d (omega arith) in
    omega arith

length-section : (fields : List Field) (last : LineEnd) → length (flat_map print_field fields) ≤ length (print_section fields last)
length-section fields last =
    let whole : length (print_section fields last) ≡ length (flat_map print_field fields) + length (print_end last) = length-append _ _ in
    omega arith

section_within : (a b c d e f : List ℕ) → length f ≤ length (a ++ (b ++ 32 ∷ (c ++ 32 ∷ (d ++ (e ++ (f ++ []))))))
section_within a b c d e f = grind (arith, length-append)

-- and than the head's
name_in_head : (h : RequestHead) (k : ℕ) (d : Field) → k < length h.fields
    → length (get_or h.fields k d).name < length (print_request h)
name_in_head h k d l =
    let same = ap (length {A = ℕ}) (print_request-append h []) in
    let whole = length-append (print_request h) [] in
    let section = section_within (print_blank h.blank) h.method h.target (print_version h.minor) (print_end h.line_end) (print_section h.fields h.last) in
    let fields = length-section h.fields h.last in
    let name = name_in_fields h.fields k d l in
    omega arith

-- two lists that look alike have the same properties
All-alike : {A B C : Type 0} (v : A → C) (w : B → C) (P : C → Type 0) (xs : List A) (ys : List B)
    → map v xs ≡ map w ys → All (λ y. P (w y)) ys → All (λ x. P (v x)) xs
All-alike v w P xs ys e h k d l =
    let all : All P (map v xs) = subst (All P) (sym e) (All-map P w ys h) in
    let here : k < length (map v xs) = rw (length-map xs v) l in
    subst P (get_or-map v xs k d (v d) l) (all k (v d) here)

-- `http` takes each field that `httparse` found in a head of at most 65,536 bytes
pub fields_taken : (h : RequestHead) (buf : List ℕ) (spans : List HeaderSpan) → IsRequestHead h
    → length (print_request h) ≤ 65536 → map (header_bytes buf) spans ≡ map name_and_value h.fields
    → All (λ span. IsField (header_bytes buf span)) spans
fields_taken h buf spans valid short same = All-alike (header_bytes buf) name_and_value IsField spans h.fields same each
  where
    each : All (λ f. IsField (name_and_value f)) h.fields
    each k d l =
        let field = valid.fields k d l in
        let within = name_in_head h k d l in
        ((token_same _ field.name, omega arith), value_same _ field)

-- the map keeps what the head's fields are
pub kept_alike : (buf : List ℕ) (spans : List HeaderSpan) (fields : List Field)
    → map (header_bytes buf) spans ≡ map name_and_value fields → map (kept_span buf) spans ≡ map kept_field fields
kept_alike buf spans fields same =
    sym (map-map kept (header_bytes buf) spans) ∙ ap (map kept) same ∙ map-map kept name_and_value fields

-- as many fields as spans were written
pub few_fields : (buf : List ℕ) (spans : List HeaderSpan) (n : ℕ) (fields : List Field)
    → map (header_bytes buf) (take n spans) ≡ map name_and_value fields
    → length spans ≤ 256 → length fields ≤ 256
few_fields buf spans n fields same room =
    let e = ap (length {A = List ℕ × List ℕ}) same in
    omega (arith, length-map (take n spans) (header_bytes buf), length-map fields name_and_value, length-take n spans)
