-- The head of an answer is read back as one response head, with its status and its fields.
use Rattle.std.proofs.Common.{◌≡◌, ◌<◌, ℕ, ◌/◌, ◌%◌, Bool, true, false, if◌then◌else◌, ◌==◌, not, ◌&&◌, List, [], ◌∷◌, ◌++◌, map, take, drop, All, flat_map, codes, get_or, Some, refl, sym, ap, ◌∙◌, subst, arith, append_assoc}
use Rattle.std.specs.Char.{digit_value, is_ascii_digit}
use Rattle.std.specs.List.{list_all}
use Rattle.std.specs.Str.Parse.{digits_value}
use Rattle.std.proofs.lemmas.Bool.Decides.{nat_tests}
use Rattle.std.proofs.lemmas.List.Elements.{All-append, All-cons, All-nil, All-take, All-drop, All-map}
use Rattle.std.proofs.lemmas.List.Sums.{AllPass-from_list_all}
use Rattle.dav_io.specs.declared.fields.Field.{Field}
use Rattle.http_header.specs.Token as token
use Rattle.httparse.specs.Grammar as grammar
use Rattle.httparse.specs.Grammar.{crlf, AllPass, ResponseHead, IsResponseHead, ReadsResponse, print_response, print_field, print_section, status_code, is_value_byte, trim_ows}
use Rattle.httparse.specs.Spans.{name_and_value}
use Rattle.httparse.proofs.GrammarLemmas.{cons-append, print_response-append, response_unique}
use Rattle.dav_wire.specs.declared.chunks.Framing.{Framing}
use Rattle.dav_wire.specs.declared.chunks.Framing.TheVariants.{Raw, Chunked}
use Rattle.dav_wire.specs.Answers.{phrase, digit, three_digits, field_line, field_lines, close_field, chunked_field, has_close_field, place, with_field, with_close, with_framing, written_fields, head_text}
use Rattle.dav_wire.specs.AnswerHeads.{IsAnswerField, as_read, ReadsAnswer}
use Rattle.dav_wire.proofs.HeadLemmas.{token_byte_same}

-- the number of three digits
digit_is : (n : ℕ) → digit_value (digit n) ≡ n % 10
digit_is n = grind (arith, nat_tests)

is_digit : (n : ℕ) → is_ascii_digit (digit n) ≡ true
is_digit n = grind (arith, nat_tests)

status_is : (n : ℕ) → n < 1000 → digits_value 10 (three_digits n) ≡ n
status_is n few = rw (digit_is (n / 100), digit_is (n / 10), digit_is n) (omega arith)

abbrev IsDecimal : ℕ → Type 0
IsDecimal byte = is_ascii_digit byte ≡ true

digits_are : (n : ℕ) → AllPass is_ascii_digit (three_digits n)
digits_are n =
    All-cons IsDecimal (digit (n / 100)) (digit (n / 10) ∷ digit n ∷ []) (is_digit (n / 100))
    (All-cons IsDecimal (digit (n / 10)) (digit n ∷ []) (is_digit (n / 10)) (All-cons IsDecimal (digit n) [] (is_digit n) (All-nil IsDecimal)))

-- Each phrase is one of the grammar.
abbrev IsPhrase : List ℕ → Type 0
IsPhrase text = list_all is_value_byte text ≡ true

either : (test : Bool) (text other : List ℕ) → IsPhrase text → IsPhrase other → IsPhrase (if test then text else other)
either true text other is too = is
either false text other is too = too

phrase_is : (n : ℕ) → IsPhrase (phrase n)
unfolding phrase
phrase_is n =
    either (n == 200) _ _ refl (either (n == 201) _ _ refl (either (n == 204) _ _ refl (either (n == 206) _ _ refl (
    either (n == 302) _ _ refl (either (n == 304) _ _ refl (either (n == 400) _ _ refl (either (n == 403) _ _ refl (
    either (n == 404) _ _ refl (either (n == 405) _ _ refl (either (n == 409) _ _ refl (either (n == 412) _ _ refl (
    either (n == 413) _ _ refl (either (n == 414) _ _ refl (either (n == 415) _ _ refl (either (n == 416) _ _ refl (
    either (n == 500) _ _ refl (either (n == 501) _ _ refl (either (n == 502) _ _ refl (either (n == 507) _ _ refl (
    either (n == 508) _ _ refl refl))))))))))))))))))))

-- a field as the grammar has it
written_field : Field → grammar.Field
written_field field = record { name = field.name; raw = 32 ∷ field.value; end = crlf }

token_again : (bytes : List ℕ) → token.IsToken bytes → grammar.IsToken bytes
token_again bytes t = (t.0, λ k d l. rw (token_byte_same (get_or bytes k d)) (t.1 k d l))

abbrev IsOfValue : ℕ → Type 0
IsOfValue byte = is_value_byte byte ≡ true

field_is : (field : Field) → IsAnswerField field → grammar.IsField (written_field field)
unfolding written_field
field_is field is = record {
  name = token_again field.name is.name;
  raw = All-cons IsOfValue 32 field.value refl is.value;
}

-- a value is read without the blank before it
value_is : (field : Field) → name_and_value (written_field field) ≡ as_read field
unfolding written_field trim_ows
value_is field = refl

values_are : (fields : List Field) → map name_and_value (map written_field fields) ≡ map as_read fields
values_are [] = refl
values_are (field ∷ fields) =
    ap (λ x. x ∷ map name_and_value (map written_field fields)) (value_is field) ∙ ap (λ xs. as_read field ∷ xs) (values_are fields)

line_is : (field : Field) → print_field (written_field field) ≡ field_line field
unfolding written_field
line_is field = append_assoc field.name (58 ∷ 32 ∷ field.value) (13 ∷ 10 ∷ [])

lines_are : (fields : List Field) → flat_map print_field (map written_field fields) ≡ field_lines fields
lines_are [] = refl
lines_are (field ∷ fields) =
    ap (λ x. x ++ flat_map print_field (map written_field fields)) (line_is field) ∙ ap (λ x. field_line field ++ x) (lines_are fields)

-- The fields that are put among the others are fields of an answer.
close_is : IsAnswerField close_field
unfolding token.is_token_byte
close_is = record { name = (omega arith, AllPass-from_list_all token.is_token_byte (codes "connection") refl); value = AllPass-from_list_all token.is_value_byte (codes "close") refl }

chunked_is : IsAnswerField chunked_field
unfolding token.is_token_byte
chunked_is = record { name = (omega arith, AllPass-from_list_all token.is_token_byte (codes "transfer-encoding") refl); value = AllPass-from_list_all token.is_value_byte (codes "chunked") refl }

field_among : (added : Field) (fields : List Field) → IsAnswerField added → All IsAnswerField fields → All IsAnswerField (with_field added fields)
field_among added fields is all =
    let n = place added.name fields in
    All-append IsAnswerField (take n fields) (added ∷ drop n fields) (All-take IsAnswerField n fields all)
    (All-cons IsAnswerField added (drop n fields) is (All-drop IsAnswerField n fields all))

where_said : (said : Bool) (fields : List Field) → All IsAnswerField fields
    → All IsAnswerField (if said then with_field close_field fields else fields)
where_said true fields all = field_among close_field fields close_is all
where_said false fields all = all

framed : (framing : Framing) (fields : List Field) → All IsAnswerField fields → All IsAnswerField (with_framing framing fields)
framed Raw fields all = all
framed Chunked fields all = field_among chunked_field fields chunked_is all

written_are : (closing : Bool) (framing : Framing) (fields : List Field) → All IsAnswerField fields
    → All IsAnswerField (written_fields closing framing fields)
written_are closing framing fields all = framed framing (with_close closing fields) (where_said (closing && not (has_close_field fields)) fields all)

-- the head of the grammar with this status and these fields
answer_of : ℕ → List Field → ResponseHead
answer_of status fields = record {
  blank = [];
  minor = 1;
  digits = three_digits status;
  reason = Some (phrase status);
  line_end = crlf;
  fields = map written_field fields;
  last = crlf;
}

answer_is : (status : ℕ) (fields : List Field) → All IsAnswerField fields → IsResponseHead (answer_of status fields)
unfolding answer_of
answer_is status fields all = record {
  minor = omega arith;
  digits = (refl, digits_are status);
  reason = AllPass-from_list_all is_value_byte (phrase status) (phrase_is status);
  fields = All-map grammar.IsField written_field fields (λ k d l. field_is _ (all k d l));
}

-- the bytes of a head in front of others
regroup : (version digits reason end fields last rest : List ℕ)
    → (version ++ (digits ++ (32 ∷ (reason ++ end))) ++ (fields ++ last)) ++ rest ≡ version ++ (digits ++ (32 ∷ (reason ++ (end ++ ((fields ++ last) ++ rest)))))
regroup version digits reason end fields last rest = simp (append_assoc, cons-append)

answer_text : (status : ℕ) (fields : List Field) (behind : List ℕ)
    → (codes "HTTP/1.1 " ++ (three_digits status ++ (codes " " ++ (phrase status ++ codes "\r\n"))) ++ (field_lines fields ++ codes "\r\n")) ++ behind
    ≡ print_response (answer_of status fields) ++ behind
unfolding answer_of
answer_text status fields behind =
    regroup (codes "HTTP/1.1 ") (three_digits status) (phrase status) (codes "\r\n") (field_lines fields) (codes "\r\n") behind
    ∙ ap (λ x. codes "HTTP/1.1 " ++ (three_digits status ++ (32 ∷ (phrase status ++ (codes "\r\n" ++ ((x ++ codes "\r\n") ++ behind)))))) (sym (lines_are fields))
    ∙ sym (print_response-append (answer_of status fields) behind)

reads_written : (status : ℕ) (fields : List Field) (behind : List ℕ) → status < 1000 → All IsAnswerField fields
    → ReadsAnswer (print_response (answer_of status fields) ++ behind) status fields behind
unfolding answer_of
reads_written status fields behind few all = record {
  head = answer_of status fields;
  reads = (answer_is status fields all, refl);
  status_is = status_is status few;
  fields_are = values_are fields;
}

pub heads_back : (status : ℕ) (fields : List Field) (closing : Bool) (framing : Framing) (behind : List ℕ) → status < 1000 → All IsAnswerField fields
    → ReadsAnswer (head_text status fields closing framing ++ behind) status (written_fields closing framing fields) behind
heads_back status fields closing framing behind few all =
    let written = written_fields closing framing fields in
    subst (λ (x : List ℕ). ReadsAnswer x status written behind) (sym (answer_text status written behind))
    (reads_written status written behind few (written_are closing framing fields all))

-- at most one answer stands at the front
pub heads_once : (text : List ℕ) (status other : ℕ) (fields others : List Field) (rest behind : List ℕ)
    → ReadsAnswer text status fields rest → ReadsAnswer text other others behind
    → (status ≡ other) × (map as_read fields ≡ map as_read others) × (rest ≡ behind)
heads_once text status other fields others rest behind a b =
    let same = response_unique text a.head b.head rest behind a.reads b.reads in (
      sym a.status_is ∙ ap status_code same.0 ∙ b.status_is,
      sym a.fields_are ∙ ap (λ (h : ResponseHead). map name_and_value h.fields) same.0 ∙ b.fields_are,
      same.1,
    )
