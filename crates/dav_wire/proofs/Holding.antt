-- What a buffer holds, as its bytes move, grow and are passed.
use Rattle.std.proofs.Common.{◌≡◌, ℕ, ◌+◌, ◌-◌, ◌<◌, ◌≤◌, ◌^◌, min, List, ◌++◌, length, take, drop, Ok, sym, ap, ◌∙◌, subst, append_assoc, arith, inl, inr}
use Rattle.std.proofs.lemmas.Bool.{cases_lt}
use Rattle.std.specs.List.{slice_range}
use Rattle.std.proofs.lemmas.List.{length-take, length-take-le, length-drop, take-append-drop, take_all, take-take, drop-take, drop-drop, drop_at, length-append}
use Rattle.std.proofs.Math.Seq.{take-add}
use Rattle.dav_io.specs.Outside.{Stream}
use Rattle.dav_io.proofs.ToldLemmas.{both_map}
use Rattle.http.specs.declared.request.Parts.{Parts}
use Rattle.httparse.specs.Grammar.{RequestHead, print_request, ReadsRequest, HasNoRequest, MayBecomeRequest}
use Rattle.httparse.proofs.GrammarLemmas.{ReadsRequest-append}
use Rattle.dav_wire.specs.Heads.{IsRead, IsReadAt}
use Rattle.dav_wire.specs.Reading.{Fills, Moves, Pending}
use Rattle.dav_wire.specs.Requests.{IsRequest, Refusal, long}
use Rattle.dav_wire.specs.Taking.{TakesAt, TakenAt}
use Rattle.dav_wire.proofs.RequestLemmas.{refusal_stays}

front_is : (k : ℕ) (f : List ℕ) → slice_range f 0 k ≡ take k f
front_is k f = grind arith

-- the bytes before are still in front, and n more are behind them
moved : (f a b : List ℕ) (l n : ℕ) → a ≡ take n (drop l f) ++ b → take l f ++ a ≡ take (l + n) f ++ b
moved f a b l n e =
    ap (λ x. take l f ++ x) e ∙ sym (append_assoc (take l f) (take n (drop l f)) b) ∙ ap (λ x. x ++ b) (sym (take-add l n f))

-- what stands between two places of a front
pub front_range : (xs ys : List ℕ) (n start end : ℕ) → take n xs ≡ ys → start ≤ end → end ≤ n
    → take (end - start) (drop start xs) ≡ slice_range ys start end
front_range xs ys n start end front ordered within =
    let l = end - start in
    let e : n ≡ start + (n - start) = omega arith in
    sym (take-take l (n - start) (drop start xs) (omega arith))
    ∙ ap (take l) (sym (ap (λ k. drop start (take k xs)) e ∙ drop-take start (n - start) xs))
    ∙ ap (λ x. take l (drop start x)) front

pub fills_ok : (old new : Stream) (held kept : Pending) (m f : List ℕ) (l n most : ℕ)
    → take l m ≡ held.bytes → TakesAt old m l most (Ok n) f new → kept.bytes ≡ slice_range f 0 (l + n) → kept.taken ≡ held.taken + n
    → held.taken < 2 ^ 60 → held.taken + most ≤ 2 ^ 60
    → Fills old held (Ok n) kept new
fills_ok old new held kept m f l n most front took kept_is taken few bound =
    let same : held.bytes ≡ take l f = sym front ∙ sym took.front in
    let whole : kept.bytes ≡ take (l + n) f = kept_is ∙ front_is (l + n) f in
    let within : l + n ≤ length f = omega (arith, took.within, took.len) in
    record {
      asked = took.asked;
      counts = took.counts;
      failed = λ e. cc;
      fewer = λ e. cc;
      too_much = λ e. cc;
      sent = λ e. cc;
      memory = λ e. cc;
      grows =
          let long_now = ap (length {A = ℕ}) whole ∙ length-take-le (l + n) f within in
          let long_before = ap (length {A = ℕ}) same ∙ length-take-le l f (omega arith) in
          let fore : take (length held.bytes) kept.bytes ≡ held.bytes =
          ap (λ k. take k kept.bytes) long_before ∙ ap (take l) whole ∙ take-take l (l + n) f (omega arith) ∙ sym same in
          record { long = omega arith; front = fore; taken = taken; before = few; most = omega (arith, took.few) };
      told = both_map old.bytes new.bytes (TakenAt f l (Ok n)) (Moves held (Ok n) kept)
          (λ x y p. (ap (λ h. h ++ x) same ∙ moved f x y l n p.0 ∙ ap (λ h. h ++ y) (sym whole), λ e. p.1 cc)) took.told;
    }

shorter : (k l : ℕ) (xs : List ℕ) → take (min l k) xs ≡ take k (take l xs)
shorter k l xs = elim (cases_lt l k) [
  | inl few ↦ ap (λ n. take n xs) (let e : min l k ≡ l = omega arith in e) ∙ sym (take_all k (take l xs) (omega (arith, length-take l xs)))
  | inr many ↦ ap (λ n. take n xs) (let e : min l k ≡ k = omega arith in e) ∙ sym (take-take k l xs (omega arith))
]

-- the bytes that are parsed are the first 65,536 of those that are held
pub held_front : (b d held : List ℕ) (start end len : ℕ) → d ≡ b → len ≡ min (end - start) 65536 → slice_range b start end ≡ held
    → slice_range d start (start + len) ≡ take 65536 held
held_front b d held start end len same size is =
    let e : start + len - start ≡ min (end - start) 65536 = omega arith in
    ap (λ (x : List ℕ). slice_range x start (start + len)) same ∙ ap (λ n. take n (drop start b)) e ∙ shorter 65536 (end - start) (drop start b)
    ∙ ap (take 65536) is

-- the bytes behind the first n
pub held_behind : (b : List ℕ) (start end n : ℕ) → start + n ≤ end → slice_range b (start + n) end ≡ drop n (slice_range b start end)
held_behind b start end n fits =
    let e : end - start ≡ n + (end - (start + n)) = omega arith in
    sym (ap (λ l. drop n (take l (drop start b))) e ∙ drop-take n (end - (start + n)) (drop start b) ∙ ap (take (end - (start + n))) (drop-drop n start b))

-- a head that was read in front is a request
pub finds_whole : (held front : List ℕ) (len : ℕ) (parts : Parts) → front ≡ take 65536 held → IsReadAt front len parts
    → (head : RequestHead) × IsRequest held head (drop len held) × IsRead head parts
finds_whole held front len parts same read =
    let head = read.head in
    let after = drop 65536 held in
    let all : front ++ after ≡ held = ap (λ x. x ++ after) same ∙ take-append-drop 65536 held in
    let longer : ReadsRequest held head (drop len front ++ after) =
    subst (λ x. ReadsRequest x head (drop len front ++ after)) all (ReadsRequest-append front head (drop len front) after read.reads) in
    let behind : drop len held ≡ drop len front ++ after = ap (drop len) longer.1 ∙ drop_at (print_request head) _ len (sym read.len_is) in
    let size = ap (length {A = ℕ}) read.reads.1 ∙ length-append (print_request head) (drop len front) in
    let most = ap (length {A = ℕ}) same ∙ length-take 65536 held in (
      head,
      record {
        reads = (longer.0, longer.1 ∙ ap (λ x. print_request head ++ x) (sym behind));
        short = omega arith;
        few = read.few;
        target = (parts.uri, read.parts_are.uri);
      },
      read.parts_are,
    )

-- a head that was read in front lies in what is held
pub whole_fits : (held front : List ℕ) (len : ℕ) (parts : Parts) → front ≡ take 65536 held → IsReadAt front len parts → len ≤ length held
whole_fits held front len parts same read =
    let size = ap (length {A = ℕ}) read.reads.1 ∙ length-append (print_request read.head) (drop len front) in
    let most = ap (length {A = ℕ}) same ∙ length-take 65536 held in
    let n = read.len_is in
    omega arith

pub finds_refused : (held front : List ℕ) → front ≡ take 65536 held → Refusal front → Refusal held
finds_refused held front same refused =
    subst Refusal (ap (λ x. x ++ drop 65536 held) same ∙ take-append-drop 65536 held) (refusal_stays front (drop 65536 held) refused)

pub finds_long : (held front : List ℕ) → front ≡ take 65536 held → 65536 < length held → HasNoRequest front → Refusal held
finds_long held front same past none = long past (subst HasNoRequest same none)

pub finds_more : (held front : List ℕ) → front ≡ take 65536 held → length held ≤ 65536 → HasNoRequest front → MayBecomeRequest front
    → HasNoRequest held × MayBecomeRequest held
finds_more held front same short none may =
    let whole : front ≡ held = same ∙ take_all 65536 held short in
    (subst HasNoRequest whole none, subst MayBecomeRequest whole may)

-- how many bytes are held
pub held_len : (b held : List ℕ) (start end : ℕ) → slice_range b start end ≡ held → start ≤ end → end ≤ length b → length held ≡ end - start
held_len b held start end is ordered fits =
    ap (length {A = ℕ}) (sym is) ∙ length-take-le (end - start) (drop start b) (omega (arith, length-drop start b))
