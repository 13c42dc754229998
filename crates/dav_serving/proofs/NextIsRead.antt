-- What a look for the next request reads, call by call, and what it gives.
use Rattle.std.proofs.Common.{◌≡◌, ◌<◌, ◌≤◌, ◌^◌, ◌++◌, ℕ, Bool, true, rules, List, [], ◌∷◌, Result, Ok, Err, length, take, drop, sym, ap, subst, ◌∙◌, refl, arith, append_assoc, append-nil, length-append}
use Rattle.std.proofs.lemmas.List.{append_cancel_left, take-append-drop}
use Rattle.http.specs.declared.request.Parts.{Parts}
use Rattle.http.specs.Request.{body_of, head_of}
use Rattle.httparse.specs.Grammar.{HasNoRequest, MayBecomeRequest, print_request, RequestHead}
use Rattle.dav_io.specs.Outside.{Stream}
use Rattle.dav_io.specs.declared.failure.Failed.{Failed as SinkFailed}
use Rattle.dav_io.proofs.ToldLemmas.{both_map, both_then}
use Rattle.dav_wire.specs.Announced.{announced_by, announces}
use Rattle.dav_wire.specs.Bodies.{IsBody, BodyRefusal, IsBodyUnfinished}
use Rattle.dav_wire.specs.BodyReading.{ReadsOn, ReadsBody, GivesBody}
use Rattle.dav_wire.specs.Heads.{IsRead}
use Rattle.dav_wire.specs.Messages.{refused_head, refused_body, open_head, open_body}
use Rattle.dav_wire.specs.Reading.{Fills, FillsThen, Finds, Moves, sending, Pending}
use Rattle.dav_wire.specs.Requests.{IsRequest, Refusal}
use Rattle.dav_wire.specs.Writing.{Pushes}
use Rattle.dav_wire.specs.declared.announcing.Announced.{Announced}
use Rattle.dav_wire.specs.declared.next.BodyRead.{BodyRead}
use Rattle.dav_wire.specs.declared.next.BodyRead.TheVariants.{Whole as BodyWhole, Refused as BodyRefused, Ended}
use Rattle.dav_wire.specs.declared.next.Flaw.TheVariants.{Malformed}
use Rattle.dav_wire.specs.declared.next.Found.TheVariants.{Whole as FoundWhole, Refused as FoundRefused, More}
use Rattle.dav_wire.specs.declared.next.ReadError.{ReadError}
use Rattle.dav_wire.specs.declared.next.ReadError.TheVariants.{Failed, TooMuch, NoMemory as WithoutMemory, Unsent}
use Rattle.dav_wire.proofs.BodyLaws.{bodies_stay, parts_announce}
use Rattle.dav_wire.proofs.BodyProgress.{none_left, nothing_read, same_bytes, sending_same}
use Rattle.dav_wire.proofs.Pushing.{pushes_then}
use Rattle.dav_wire.proofs.RequestLemmas.{request_stays}
use Rattle.dav_model.specs.Conditions.{Asked}
use Rattle.dav_serving.specs.Next.{GivesNext, HasBodyOf, ReadsNext, next_by, over_with}
use Rattle.dav_serving.specs.Serving.{IsEmptied, IsWanting, wanting_head, wanting_body}
use Rattle.dav_serving.specs.declared.asking.Next.{Next}
use Rattle.dav_serving.specs.declared.asking.Next.TheVariants.{Refused, Whole}
use Rattle.dav_serving.proofs.ExchangesEnd.{rose_between}

-- ---- bytes that are got

whole_then : (held first mid front next second passed kept : List ℕ) → held ++ first ≡ mid → mid ≡ front ++ next → next ++ second ≡ passed ++ kept
    → held ++ (first ++ second) ≡ (front ++ passed) ++ kept
whole_then held first mid front next second passed kept a b c =
    sym (append_assoc held first second) ∙ ap (λ z. z ++ second) (a ∙ b) ∙ append_assoc front next second ∙ ap (λ z. front ++ z) c ∙ sym (append_assoc front passed kept)

-- a front of what is held was passed, and then more was got
pub reads_then : {old between new : Stream} {held mid next kept : Pending} {passed : List ℕ} (front : List ℕ) → ReadsOn old held [] mid between → mid.bytes ≡ front ++ next.bytes → next.taken ≡ mid.taken
    → ReadsOn between next passed kept new → ReadsOn old held (front ++ passed) kept new
reads_then {old = old} {between = between} {new = new} {held = held} {mid = mid} {next = next} {kept = kept} {passed = passed} front a same count b = record {
  got = a.got ++ b.got;
  whole = whole_then held.bytes a.got mid.bytes front next.bytes b.got passed kept.bytes a.whole same b.whole;
  taken = let x = a.taken in let y = b.taken in let long = length-append a.got b.got in omega arith;
  counts = let x = a.counts in let y = b.counts in omega arith;
  told = both_then old.bytes between.bytes new.bytes (λ x y. x ≡ a.got ++ y) (λ x y. x ≡ b.got ++ y) (λ x y. x ≡ (a.got ++ b.got) ++ y)
      (λ x y z e f. e ∙ ap (λ w. a.got ++ w) f ∙ sym (append_assoc a.got b.got z)) a.told b.told;
}

moved_on : (held kept got b c : List ℕ) → held ++ got ≡ kept → held ++ b ≡ kept ++ c → b ≡ got ++ c
moved_on held kept got b c whole e = append_cancel_left held b (got ++ c) (e ∙ ap (λ z. z ++ c) (sym whole) ∙ append_assoc held got c)

behind_whole : (held kept : List ℕ) → take (length held) kept ≡ held → held ++ drop (length held) kept ≡ kept
behind_whole held kept front = ap (λ z. z ++ drop (length held) kept) (sym front) ∙ take-append-drop (length held) kept

-- what a call of the source got
pub fill_reads : {old new : Stream} {held kept : Pending} {n : ℕ} → Fills old held (Ok n) kept new → ReadsOn old held [] kept new
fill_reads {old = old} {new = new} {held = held} {kept = kept} {n = n} f =
    let whole = behind_whole held.bytes kept.bytes f.grows.front in
    record {
      got = drop (length held.bytes) kept.bytes;
      whole = whole;
      taken = let e = f.grows.taken in let l = f.grows.long in let m = sym (length-append held.bytes (drop (length held.bytes) kept.bytes)) ∙ ap (length {A = ℕ}) whole in omega arith;
      counts = f.counts;
      told = both_map old.bytes new.bytes (Moves held (Ok n) kept) (λ x y. x ≡ drop (length held.bytes) kept.bytes ++ y)
          (λ x y m. moved_on held.bytes kept.bytes (drop (length held.bytes) kept.bytes) x y whole m.0) f.told;
    }

-- what it got where it failed: nothing
same_reads : {old new : Stream} {held kept : Pending} {e : ReadError} → Fills old held (Err e) kept new → ReadsOn old held [] kept new
same_reads {old = old} {new = new} {held = held} {kept = kept} {e = e} f =
    let whole : held.bytes ++ [] ≡ kept.bytes = append-nil held.bytes ∙ sym (ap (λ (z : Pending). z.bytes) f.grows) in
    record {
      got = [];
      whole = whole;
      taken = let same = ap (λ (z : Pending). z.taken) f.grows in omega arith;
      counts = f.counts;
      told = both_map old.bytes new.bytes (Moves held (Err e) kept) (λ x y. x ≡ [] ++ y) (λ x y m. moved_on held.bytes kept.bytes [] x y whole m.0) f.told;
    }

kept_reads : {old new : Stream} {held kept : Pending} → kept ≡ held → new ≡ old → ReadsOn old held [] kept new
kept_reads {old = old} {new = new} {held = held} same still =
    subst (λ z. ReadsOn old held [] z new) (sym same) (subst (λ z. ReadsOn old held [] held z) (sym still) (nothing_read old held))

pub unfilled_reads : {old new : Stream} {held kept : Pending} (e : ReadError) → FillsThen old held (Err e) kept new → ReadsOn old held [] kept new
unfilled_reads Failed f = same_reads f
unfilled_reads TooMuch f = same_reads f
unfilled_reads WithoutMemory f = same_reads f
unfilled_reads Unsent f = kept_reads f.0 f.1

-- ---- inside a head

pub wants : (held kept : List ℕ) → kept ≡ held → length held ≤ 65536 → HasNoRequest held → MayBecomeRequest held → IsWanting kept
wants held kept same short none may = subst IsWanting (sym same) (wanting_head short none may)

-- the client was asked for more of a head
pub head_more : {old between : Stream} {held mid next : Pending} (parts : Parts) → ReadsOn old held [] mid between → Finds mid.bytes (Ok More) parts next.bytes → next.taken ≡ mid.taken → ReadsOn old held [] next between
head_more {between = between} {next = next} parts a found count = reads_then [] a (sym found.0) count (nothing_read between next)

fill_empties : {old new : Stream} {held kept : Pending} (n : ℕ) → n ≡ 0 → Fills old held (Ok n) kept new → IsEmptied old new
fill_empties {old = old} {new = new} {held = held} {kept = kept} n zero f = both_map old.bytes new.bytes (Moves held (Ok n) kept) (λ b c. c ≡ [])
    (λ b c m. none_left held.bytes kept.bytes b c (same_bytes held kept n zero f.grows) (m.1 (ap (λ x. Ok x) zero)) m.0) f.told

empties_then : {old between : Stream} {held mid : Pending} {passed : List ℕ} (new : Stream) → ReadsOn old held passed mid between → IsEmptied between new → IsEmptied old new
empties_then {old = old} {between = between} new a e = both_then old.bytes between.bytes new.bytes (λ x y. x ≡ a.got ++ y) (λ x y. y ≡ []) (λ x y. y ≡ []) (λ x y z f g. g) a.told e

over_gives : (old new : Stream) (asked : Asked) (text : List ℕ) (kept : Pending) → length text ≤ 65536 → HasNoRequest text → MayBecomeRequest text → kept.taken < 2 ^ 60 → IsEmptied old new
    → GivesNext old (Ok (over_with text)) asked text kept new
over_gives old new asked [] kept short none may few over = (refl, few, over)
over_gives old new asked (b ∷ bytes) kept short none may few over = (open_head (record { some = omega arith; short = short; none = none; may = may }), few, over)

-- the input is over
pub head_over : {old between new : Stream} {held mid next kept : Pending} (parts : Parts) (n : ℕ) (end : Next) (asked : Asked) → ReadsOn old held [] mid between → Finds mid.bytes (Ok More) parts next.bytes → next.taken ≡ mid.taken
    → Fills between next (Ok n) kept new → n ≡ 0 → end ≡ over_with kept.bytes → ReadsNext old held (Ok end) asked kept new
head_over {old = old} {between = between} {new = new} {held = held} {mid = mid} {next = next} {kept = kept} parts n end asked a found count f zero is =
    let same = same_bytes next kept n zero f.grows ∙ found.0 in
    record {
      passed = [];
      on = reads_then [] a (sym found.0) count (fill_reads f);
      gives = subst (λ z. GivesNext old (Ok z) asked kept.bytes kept new) (sym is) (over_gives old new asked kept.bytes kept
          (subst (λ z. length z ≤ 65536) (sym same) found.1) (subst HasNoRequest (sym same) found.2) (subst MayBecomeRequest (sym same) found.3)
          (let less = f.grows.before in let t = f.grows.taken in omega arith)
          (empties_then new a (fill_empties n zero f)));
    }

fail_gives : (old between new : Stream) (next kept : Pending) (asked : Asked) (e : ReadError) → IsWanting next.bytes → old.faults ≤ between.faults → FillsThen between next (Err e) kept new
    → GivesNext old (Err e) asked kept.bytes kept new
fail_gives old between new next kept asked Failed wanting counts f = (
  subst (λ (z : Pending). IsWanting z.bytes) (sym f.grows) wanting,
  subst (λ (z : Pending). z.taken < 2 ^ 60) (sym f.grows) (f.fewer refl),
  rose_between old.faults between.faults between.faults new.faults counts (omega arith) (f.failed refl),
)
fail_gives old between new next kept asked TooMuch wanting counts f =
    (subst (λ (z : Pending). IsWanting z.bytes) (sym f.grows) wanting, ap (λ (z : Pending). z.taken) f.grows ∙ f.too_much refl)
fail_gives old between new next kept asked WithoutMemory wanting counts f = tt
fail_gives old between new next kept asked Unsent wanting counts f = tt

-- no more of a head came
pub head_fails : {old between new : Stream} {held mid next kept : Pending} (parts : Parts) (e : ReadError) (asked : Asked) → ReadsOn old held [] mid between → Finds mid.bytes (Ok More) parts next.bytes → next.taken ≡ mid.taken
    → FillsThen between next (Err e) kept new → ReadsNext old held (Err e) asked kept new
head_fails {old = old} {between = between} {new = new} {mid = mid} {next = next} {kept = kept} parts e asked a found count f = record {
  passed = [];
  on = reads_then [] a (sym found.0) count (unfilled_reads e f);
  gives = fail_gives old between new next kept asked e (wants mid.bytes next.bytes found.0 found.1 found.2 found.3) a.counts f;
}

-- no request stands there
pub head_refused : {old between : Stream} {held mid next : Pending} (parts : Parts) (asked : Asked) → ReadsOn old held [] mid between → Finds mid.bytes (Ok FoundRefused) parts next.bytes → next.taken ≡ mid.taken
    → ReadsNext old held (Ok (Refused Malformed)) asked next between
head_refused {between = between} {next = next} parts asked a found count = record {
  passed = [];
  on = reads_then [] a (sym found.1) count (nothing_read between next);
  gives = refused_head refl (subst Refusal (sym found.1) found.0);
}

-- memory was refused
pub head_starved : {old between : Stream} {held mid next : Pending} (asked : Asked) → ReadsOn old held [] mid between → next.bytes ≡ mid.bytes → next.taken ≡ mid.taken
    → ReadsNext old held (Err WithoutMemory) asked next between
head_starved {between = between} {next = next} asked a same count = record { passed = []; on = reads_then [] a (sym same) count (nothing_read between next); gives = tt }

-- ---- behind a head

-- A head was found, and its body is announced so.
pub record Begins (mid : Pending) (next : Pending) (parts : Parts) (announced : Announced) : Type 0 where
  pub head : RequestHead
  pub stands : IsRequest mid.bytes head next.bytes
  pub read : IsRead head parts
  pub same : next.taken ≡ mid.taken
  pub announced_is : announced ≡ announces head

pub begins : {mid next : Pending} {parts : Parts} {announced : Announced} (plain : Bool) → Finds mid.bytes (Ok (FoundWhole plain)) parts next.bytes → next.taken ≡ mid.taken → announced ≡ announced_by parts
    → Begins mid next parts announced
begins {parts = parts} plain found same is = record { head = found.0; stands = found.1; read = found.2; same = same; announced_is = is ∙ parts_announce found.0 parts found.2 }

-- a head, and behind it bytes that were passed and others that are held
stands_on : (mid next got passed kept : List ℕ) (head : RequestHead) → IsRequest mid head next → next ++ got ≡ passed ++ kept
    → IsRequest ((print_request head ++ passed) ++ kept) head (passed ++ kept)
stands_on mid next got passed kept head stands whole =
    let text : mid ++ got ≡ (print_request head ++ passed) ++ kept =
    ap (λ z. z ++ got) stands.reads.1 ∙ append_assoc (print_request head) next got ∙ ap (λ z. print_request head ++ z) whole ∙ sym (append_assoc (print_request head) passed kept) in
    subst (λ z. IsRequest z head (passed ++ kept)) text (subst (λ z. IsRequest (mid ++ got) head z) whole (request_stays mid got head next stands))

pub body_reads : {old between new : Stream} {held mid next kept : Pending} {parts : Parts} {announced : Announced} {passed : List ℕ} (b : Begins mid next parts announced) → ReadsOn old held [] mid between
    → ReadsOn between next passed kept new → ReadsOn old held (print_request b.head ++ passed) kept new
body_reads b a c = reads_then (print_request b.head) a b.stands.reads.1 b.same c

-- the body is wanted still
pub body_wants : {between new : Stream} {mid next kept : Pending} {parts : Parts} {announced : Announced} {passed : List ℕ} (b : Begins mid next parts announced) → ReadsOn between next passed kept new
    → IsBodyUnfinished announced (passed ++ kept.bytes) → IsWanting ((print_request b.head ++ passed) ++ kept.bytes)
body_wants {mid = mid} {next = next} {kept = kept} {passed = passed} b c unfinished = wanting_body b.head (passed ++ kept.bytes) (stands_on mid.bytes next.bytes c.got passed kept.bytes b.head b.stands c.whole)
    (subst (λ z. IsBodyUnfinished z (passed ++ kept.bytes)) b.announced_is unfinished)

read_gives : {between : Stream} {mid next kept : Pending} {announced : Announced} {passed : List ℕ} (old new : Stream) (plain : Bool) (read : BodyRead) (asked : Asked) (b : Begins mid next (head_of asked) announced)
    → HasBodyOf read (body_of asked) → ReadsOn between next passed kept new → GivesBody announced between (Ok read) passed kept new → (IsEmptied between new → IsEmptied old new)
    → GivesNext old (Ok (next_by plain read)) asked ((print_request b.head ++ passed) ++ kept.bytes) kept new
read_gives {mid = mid} {next = next} {kept = kept} {announced = announced} {passed = passed} old new plain (BodyWhole body) asked b has c gives over = (
  b.head,
  b.read,
  record {
    behind = passed ++ kept.bytes;
    request = stands_on mid.bytes next.bytes c.got passed kept.bytes b.head b.stands c.whole;
    body = subst (λ z. IsBody (announces b.head) (passed ++ kept.bytes) z kept.bytes) (sym has)
        (subst (λ z. IsBody z (passed ++ kept.bytes) body kept.bytes) b.announced_is (bodies_stay announced passed body [] kept.bytes gives));
  },
)
read_gives {mid = mid} {next = next} {kept = kept} {passed = passed} old new plain (BodyRefused flaw) asked b has c gives over = refused_body b.head (passed ++ kept.bytes)
    (stands_on mid.bytes next.bytes c.got passed kept.bytes b.head b.stands c.whole) (subst (λ z. BodyRefusal z (passed ++ kept.bytes) flaw) b.announced_is gives)
read_gives {mid = mid} {next = next} {kept = kept} {passed = passed} old new plain Ended asked b has c gives over = (
  open_body b.head (passed ++ kept.bytes) (stands_on mid.bytes next.bytes c.got passed kept.bytes b.head b.stands c.whole)
      (subst (λ z. IsBodyUnfinished z (passed ++ kept.bytes)) b.announced_is gives.0),
  gives.1,
  over gives.2,
)

-- the body was read, or is none
pub body_read : {old between new : Stream} {held mid next kept : Pending} {announced : Announced} (plain : Bool) (read : BodyRead) (end : Next) (asked : Asked) → Begins mid next (head_of asked) announced
    → ReadsOn old held [] mid between → ReadsBody announced between next (Ok read) kept new → end ≡ next_by plain read → HasBodyOf read (body_of asked) → ReadsNext old held (Ok end) asked kept new
body_read {old = old} {new = new} {held = held} {kept = kept} plain read end asked b a r is has = subst (λ z. ReadsNext old held (Ok z) asked kept new) (sym is) (record {
  passed = print_request b.head ++ r.passed;
  on = body_reads b a r.on;
  gives = read_gives old new plain read asked b has r.on r.gives (empties_then new a);
})

-- what is said of its fields is what was said of its head's
pub told_plain : {P : Type 0} (plain : Bool) (read : BodyRead) → (plain ≡ true → P) → next_by plain read ≡ Whole true → P
told_plain plain (BodyWhole body) is same = is (search (rules, same))
told_plain plain (BodyRefused flaw) is same = cc
told_plain plain Ended is same = cc

fails_gives : (old : Stream) {between new : Stream} {mid next kept : Pending} {parts : Parts} {announced : Announced} {passed : List ℕ} (e : ReadError) (asked : Asked) (b : Begins mid next parts announced)
    → ReadsOn between next passed kept new → GivesBody announced between (Err e) passed kept new → old.faults ≤ between.faults
    → GivesNext old (Err e) asked ((print_request b.head ++ passed) ++ kept.bytes) kept new
fails_gives old {between = between} {new = new} Failed asked b c gives counts =
    (body_wants b c gives.0, gives.1, rose_between old.faults between.faults between.faults new.faults counts (omega arith) gives.2)
fails_gives old TooMuch asked b c gives counts = (body_wants b c gives.0, gives.1)
fails_gives old WithoutMemory asked b c gives counts = tt
fails_gives old Unsent asked b c gives counts = tt

-- no more of it came
pub body_fails : {old between new : Stream} {held mid next kept : Pending} {parts : Parts} {announced : Announced} (e : ReadError) (asked : Asked) → Begins mid next parts announced
    → ReadsOn old held [] mid between → ReadsBody announced between next (Err e) kept new → ReadsNext old held (Err e) asked kept new
body_fails {old = old} e asked b a r = record { passed = print_request b.head ++ r.passed; on = body_reads b a r.on; gives = fails_gives old e asked b r.on r.gives a.counts }

-- ---- what waits for the sink

-- behind what was given before
pub sends_then : {old between new : Stream} {waiting mid later : List ℕ} {result : Result Unit SinkFailed} → Pushes old waiting [] (Ok tt) mid between → Pushes between mid [] result later new
    → Pushes old waiting [] result later new
sends_then {old = old} {between = between} {new = new} {waiting = waiting} {mid = mid} {later = later} {result = result} a b = pushes_then old between new waiting [] mid [] later result a b

pub sends_not : (A B : Type 0) {old between new : Stream} {waiting mid later : List ℕ} (e : ReadError) → Pushes old waiting [] (Ok tt) mid between
    → Pushes between mid [] (sending {A = A} (Err e)) later new → Pushes old waiting [] (sending {A = B} (Err e)) later new
sends_not A B {old = old} {new = new} {waiting = waiting} {later = later} e a b =
    subst (λ z. Pushes old waiting [] z later new) (sending_same A B e) (sends_then a b)
