-- A head that is whole stays the head, and what is refused stays refused, whatever follows.
use Rattle.std.proofs.Common.{◌≡◌, ℕ, ◌+◌, ◌-◌, ◌≤◌, List, [], ◌∷◌, ◌++◌, length, take, sym, ap, ◌∙◌, subst, append_assoc, arith, inl, inr}
use Rattle.std.proofs.lemmas.List.{take-append-le, length-append}
use Rattle.std.proofs.Math.Seq.{take-append-add}
use Rattle.http_uri.specs.Uri.{Spells, SpellsNone, uri_scheme, uri_authority, uri_data}
use Rattle.http_uri.specs.declared.uri.Uri.{Uri as Target}
use Rattle.httparse.specs.Grammar.{RequestHead, print_request, print_blank, print_version, print_end, print_section, HasNoRequest, NeverHasRequest, MayBecomeRequest, EndsInTarget}
use Rattle.httparse.specs.Spans.{RequestOverflows, RequestExceeds}
use Rattle.httparse.proofs.GrammarLemmas.{request_unique, ReadsRequest-append, print_request-append}
use Rattle.dav_wire.proofs.InTurn.{in_turn_are_one, in_turn_join}
use Rattle.dav_wire.specs.Requests.{IsRequest, IsUnfinished, Requests, HasNone, EitherWay, Refusal, never, long, many, target}

never_more : (buf more : List ℕ) → NeverHasRequest buf → NeverHasRequest (buf ++ more)
never_more buf more none later h rest reads = none (more ++ later) h rest (rw (← append_assoc buf more later) reads)

overflows_more : (room : ℕ) (buf more : List ℕ) → RequestOverflows room buf → RequestOverflows room (buf ++ more)
overflows_more room buf more over later h rest reads = over (more ++ later) h rest (rw (← append_assoc buf more later) reads)

exceeds_more : (room : ℕ) (buf more : List ℕ) → RequestExceeds room buf → RequestExceeds room (buf ++ more)
exceeds_more room buf more (front, rest, e, h, reads, over) =
    (front, rest ++ more, ap (λ b. b ++ more) e ∙ append_assoc front rest more, h, reads, over)

pub refusal_stays : (left more : List ℕ) → Refusal left → Refusal (left ++ more)
refusal_stays left more (never none) = never (never_more left more none)
refusal_stays left more (long past none) =
    let same : take 65536 (left ++ more) ≡ take 65536 left = take-append-le 65536 left more (omega arith) in
    long (omega (arith, length-append left more)) (subst HasNoRequest (sym same) none)
refusal_stays left more (many exceeds overflows) = many (exceeds_more 256 left more exceeds) (overflows_more 256 left more overflows)
refusal_stays left more (target head rest reads none) = target head (rest ++ more) (ReadsRequest-append left head rest more reads) none

pub request_stays : (left more : List ℕ) (head : RequestHead) (rest : List ℕ) → IsRequest left head rest
    → IsRequest (left ++ more) head (rest ++ more)
request_stays left more head rest request = record {
  reads = ReadsRequest-append left head rest more request.reads;
  short = request.short;
  few = request.few;
  target = request.target;
}

pub request_is_one : (left : List ℕ) (head other : RequestHead) (rest behind : List ℕ) → IsRequest left head rest → IsRequest left other behind
    → (head ≡ other) × (rest ≡ behind)
request_is_one left head other rest behind a b = request_unique left head other rest behind a.reads b.reads

none_spelled : (text : List ℕ) (uri : Target) → SpellsNone text → Spells text uri → ⊥
none_spelled text uri none spells = none (uri_scheme uri) (uri_authority uri) (uri_data uri) spells

take_past : (n : ℕ) (xs ys : List ℕ) → length xs ≤ n → take n (xs ++ ys) ≡ xs ++ take (n - length xs) ys
take_past n xs ys fits =
    let e : n ≡ length xs + (n - length xs) = omega arith in
    ap (λ k. take k (xs ++ ys)) e ∙ take-append-add xs ys (n - length xs)

pub refused_none : (left : List ℕ) → Refusal left → HasNone left
refused_none left (never none) head rest request =
    none [] head (rest ++ []) (ReadsRequest-append left head rest [] request.reads)
refused_none left (long past none) head rest request =
    let size = request.short in
    let e : take 65536 left ≡ print_request head ++ take (65536 - length (print_request head)) rest =
    ap (take 65536) request.reads.1 ∙ take_past 65536 (print_request head) rest size in
    none head _ (request.reads.0, e)
refused_none left (many exceeds overflows) head rest request =
    let more = overflows [] head (rest ++ []) (ReadsRequest-append left head rest [] request.reads) in
    let few = request.few in
    absurd (omega arith)
refused_none left (target other behind reads none) head rest request =
    let same = (request_unique left head other rest behind request.reads reads).0 in
    none_spelled other.target request.target.0 none (subst (λ (h : RequestHead). Spells h.target request.target.0) same request.target.1)

pub refusal_has_none : (left more : List ℕ) → Refusal left → HasNone (left ++ more)
refusal_has_none left more refused = refused_none (left ++ more) (refusal_stays left more refused)

pub unfinished_none : (left : List ℕ) → IsUnfinished left → HasNone left
unfinished_none left u head rest request = u.none head rest request.reads

may_end : (left : List ℕ) → MayBecomeRequest left → NeverHasRequest left → EndsInTarget left
may_end left (inl (more, head, reads)) none = absurd (none more head [] reads)
may_end left (inr ends) none = ends

pub unfinished_refused : (left : List ℕ) → IsUnfinished left → Refusal left → EitherWay left
unfinished_refused left u (never none) = inl (may_end left u.may none, none)
unfinished_refused left u (long past none) = let short = u.short in absurd (omega arith)
unfinished_refused left u (many exceeds overflows) = inr exceeds
unfinished_refused left u (target head rest reads none) = absurd (u.none head rest reads)

pub requests_join : (left mid rest : List ℕ) (heads more : List RequestHead) → Requests left heads mid → Requests mid more rest
    → Requests left (heads ++ more) rest
requests_join = in_turn_join IsRequest

pub requests_are_one : (left rest behind : List ℕ) (heads others : List RequestHead) → Requests left heads rest → HasNone rest
    → Requests left others behind → HasNone behind → (heads ≡ others) × (rest ≡ behind)
requests_are_one = in_turn_are_one IsRequest request_is_one

-- a head has at least the bytes of its method
pub end_has_none : HasNone []
end_has_none head rest request =
    let whole = ap (length {A = ℕ}) request.reads.1 ∙ length-append (print_request head) rest in
    let same = ap (length {A = ℕ}) (print_request-append head []) ∙ length-append (print_blank head.blank) _ in
    let printed = length-append (print_request head) [] in
    let method = length-append head.method (32 ∷ (head.target ++ 32 ∷ (print_version head.minor ++ (print_end head.line_end ++ (print_section head.fields head.last ++ []))))) in
    let some = request.reads.0.method.0 in
    absurd (omega arith)
