-- How far a body was read, as bytes are passed and more are taken.
use Rattle.std.proofs.Common.{◌≡◌, ℕ, List, [], ◌++◌, length, take, drop, Ok, Err, Result, refl, sym, ap, ◌∙◌, subst, arith, append_assoc, append-nil, length-append}
use Rattle.std.proofs.lemmas.List.{take-append-drop, take_all, append_cancel_left, length-drop}
use Rattle.dav_io.specs.declared.failure.Failed.{Failed as SinkFailed}
use Rattle.dav_io.specs.Outside.{Stream}
use Rattle.dav_io.proofs.ToldLemmas.{both_same, both_then}
use Rattle.dav_io.proofs.Rising.{rose_before}
use Rattle.dav_wire.specs.Bodies.{BodyRefusal, IsBodyUnfinished}
use Rattle.dav_wire.specs.BodyReading.{ReadsOn, ReadsBody}
use Rattle.dav_wire.specs.BodySteps.{Stands, HaltsAt}
use Rattle.dav_wire.specs.Reading.{Behind, Fills, FillsThen, Moves, sending, Pending}
use Rattle.dav_wire.specs.Writing.{Pushes}
use Rattle.dav_wire.proofs.Pushing.{pushes_then}
use Rattle.dav_wire.specs.declared.announcing.Announced.{Announced}
use Rattle.dav_wire.specs.declared.body_steps.Halt.{Halt}
use Rattle.dav_wire.specs.declared.body_steps.Halt.TheVariants.{Refused as HaltRefused, Wanting}
use Rattle.dav_wire.specs.declared.body_steps.Place.{Place}
use Rattle.dav_wire.specs.declared.next.BodyRead.{BodyRead}
use Rattle.dav_wire.specs.declared.next.BodyRead.TheVariants.{Refused, Ended}
use Rattle.dav_wire.specs.declared.next.Flaw.{Flaw}
use Rattle.dav_wire.specs.declared.next.ReadError.{ReadError}
use Rattle.dav_wire.specs.declared.next.ReadError.TheVariants.{Failed, TooMuch, NoMemory as WithoutMemory, Unsent}

-- bytes were passed and others are held, and the reader stands at a place
pub record Progress (announced : Announced) (old : Stream) (held : Pending) (place : Place) (body : List ℕ) (kept : Pending) (new : Stream) : Type 0 where
  pub passed : List ℕ
  pub on : ReadsOn old held passed kept new
  pub stands : Stands announced passed place body

-- bytes were passed and others are held, and more are wanted
pub record Wants (announced : Announced) (old : Stream) (held : Pending) (kept : Pending) (new : Stream) : Type 0 where
  pub passed : List ℕ
  pub on : ReadsOn old held passed kept new
  pub unfinished : IsBodyUnfinished announced (passed ++ kept.bytes)

pub nothing_read : (old : Stream) (held : Pending) → ReadsOn old held [] held old
nothing_read old held = record {
  got = [];
  whole = append-nil held.bytes;
  taken = omega arith;
  counts = omega arith;
  told = both_same old.bytes old.bytes (λ a b. a ≡ [] ++ b) (λ a. refl) refl;
}

pub begins_reading : (announced : Announced) (old : Stream) (held : Pending) (place : Place) (body : List ℕ) → body ≡ []
    → Stands announced [] place []
    → Progress announced old held place body held old
begins_reading announced old held place body none stands =
    record { passed = []; on = nothing_read old held; stands = subst (λ (x : List ℕ). Stands announced [] place x) (sym none) stands }

-- bytes that are held are passed
passes : {old new : Stream} {held kept : Pending} (passed : List ℕ) (later : Pending) (n : ℕ) → ReadsOn old held passed kept new
    → later.bytes ≡ drop n kept.bytes → later.taken ≡ kept.taken → ReadsOn old held (passed ++ take n kept.bytes) later new
passes {kept = kept} passed later n on left same = record {
  got = on.got;
  whole = on.whole ∙ ap (λ x. passed ++ x) (sym (take-append-drop n kept.bytes) ∙ ap (λ x. take n kept.bytes ++ x) (sym left))
      ∙ sym (append_assoc passed (take n kept.bytes) later.bytes);
  taken = same ∙ on.taken;
  counts = on.counts;
  told = on.told;
}

-- the text of the body is the same
same_text : (passed kept later : List ℕ) (n : ℕ) → later ≡ drop n kept → passed ++ kept ≡ (passed ++ take n kept) ++ later
same_text passed kept later n left =
    ap (λ x. passed ++ x) (sym (take-append-drop n kept) ∙ ap (λ x. take n kept ++ x) (sym left)) ∙ sym (append_assoc passed (take n kept) later)

-- what steps do behind the bytes that were passed
abbrev pub Does : Place → List ℕ → List ℕ → ℕ → Halt → List ℕ → Type 0
Does place before bytes n halt body =
    (announced : Announced) (passed : List ℕ) → Stands announced passed place before → HaltsAt announced passed bytes n halt body

does_at : {announced : Announced} {old new : Stream} {held kept : Pending} {place : Place} {before : List ℕ} (bytes body : List ℕ) (n : ℕ) (halt told : Halt)
    → (p : Progress announced old held place before kept new) → halt ≡ told → bytes ≡ kept.bytes → Does place before bytes n halt body
    → HaltsAt announced p.passed kept.bytes n told body
does_at {announced = announced} {kept = kept} bytes body n halt told p is same does =
    subst (λ (h : Halt). HaltsAt announced p.passed kept.bytes n h body) is
    (subst (λ (x : List ℕ). HaltsAt announced p.passed x n halt body) same (does announced p.passed p.stands))

pub is_refused : {announced : Announced} {old new : Stream} {held kept : Pending} {place : Place} {before : List ℕ} (later : Pending) (bytes body : List ℕ) (n : ℕ) (halt : Halt) (flaw : Flaw)
    → Progress announced old held place before kept new → halt ≡ HaltRefused flaw → bytes ≡ kept.bytes → Does place before bytes n halt body
    → later.bytes ≡ drop n kept.bytes → later.taken ≡ kept.taken → ReadsBody announced old held (Ok (Refused flaw)) later new
is_refused {announced = announced} {kept = kept} later bytes body n halt flaw p is read does left same = record {
  passed = p.passed ++ take n kept.bytes;
  on = passes p.passed later n p.on left same;
  gives = subst (λ (x : List ℕ). BodyRefusal announced x flaw) (same_text p.passed kept.bytes later.bytes n left)
      (does_at bytes body n halt (HaltRefused flaw) p is read does);
}

pub wants : {announced : Announced} {old new : Stream} {held kept : Pending} {place : Place} {before : List ℕ} (later : Pending) (bytes body : List ℕ) (n : ℕ) (halt : Halt) (to : Place)
    → Progress announced old held place before kept new → halt ≡ Wanting to → bytes ≡ kept.bytes → Does place before bytes n halt body
    → later.bytes ≡ drop n kept.bytes → later.taken ≡ kept.taken → Wants announced old held later new × Progress announced old held to body later new
wants {announced = announced} {kept = kept} later bytes body n halt to p is read does left same =
    let on = passes p.passed later n p.on left same in
    let halts = does_at bytes body n halt (Wanting to) p is read does in (
      record {
        passed = p.passed ++ take n kept.bytes;
        on = on;
        unfinished = subst (IsBodyUnfinished announced) (same_text p.passed kept.bytes later.bytes n left) halts.1;
      },
      record { passed = p.passed ++ take n kept.bytes; on = on; stands = halts.0 },
    )

-- what came behind the bytes that are held
came_is : (kept later : Pending) (n : ℕ) → Behind kept n later → (more : List ℕ) × (later.bytes ≡ kept.bytes ++ more) × (length more ≡ n)
came_is kept later n b =
    let more : List ℕ = drop (length kept.bytes) later.bytes in
    let whole : later.bytes ≡ kept.bytes ++ more = sym (take-append-drop (length kept.bytes) later.bytes) ∙ ap (λ x. x ++ more) b.front in
    (more, whole, (let size = length-drop (length kept.bytes) later.bytes in let long = b.long in omega arith))

came_first : (kept more later before after : List ℕ) → later ≡ kept ++ more → kept ++ before ≡ later ++ after → before ≡ more ++ after
came_first kept more later before after is e =
    append_cancel_left kept before (more ++ after) (e ∙ ap (λ x. x ++ after) is ∙ append_assoc kept more after)

on_then : (got more before mid after : List ℕ) → before ≡ got ++ mid → mid ≡ more ++ after → before ≡ (got ++ more) ++ after
on_then got more before mid after p q = p ∙ ap (λ x. got ++ x) q ∙ sym (append_assoc got more after)

-- more bytes were taken
fills_on : {old new newer : Stream} {held kept : Pending} (passed : List ℕ) (later : Pending) (n : ℕ) → ReadsOn old held passed kept new
    → Fills new kept (Ok n) later newer → ReadsOn old held passed later newer
fills_on {old = old} {new = new} {newer = newer} {held = held} {kept = kept} passed later n on f =
    let more = came_is kept later n f.grows in
    record {
      got = on.got ++ more.0;
      whole = sym (append_assoc held.bytes on.got more.0) ∙ ap (λ x. x ++ more.0) on.whole ∙ append_assoc passed kept.bytes more.0
          ∙ ap (λ x. passed ++ x) (sym more.1);
      taken =
          let before = on.taken in
          let now = f.grows.taken in
          let long = more.2 in
          let both = length-append on.got more.0 in
          omega arith;
      counts = let a = on.counts in let b = f.counts in omega arith;
      told = both_then old.bytes new.bytes newer.bytes (λ a b. a ≡ on.got ++ b) (Moves kept (Ok n) later) (λ a b. a ≡ (on.got ++ more.0) ++ b)
          (λ a b d p m. on_then on.got more.0 a b d p (came_first kept.bytes more.0 later.bytes b d more.1 m.0)) on.told f.told;
    }

pub fills_more : {announced : Announced} {old new newer : Stream} {held kept : Pending} {place : Place} {body : List ℕ} (later : Pending) (n : ℕ)
    → Progress announced old held place body kept new → Fills new kept (Ok n) later newer → Progress announced old held place body later newer
fills_more later n p f = record { passed = p.passed; on = fills_on p.passed later n p.on f; stands = p.stands }

-- nothing more came
pub same_bytes : (kept later : Pending) (n : ℕ) → n ≡ 0 → Behind kept n later → later.bytes ≡ kept.bytes
same_bytes kept later n none b = sym (take_all (length kept.bytes) later.bytes (let l = b.long in omega arith)) ∙ b.front

pub none_left : (kept later before after : List ℕ) → later ≡ kept → before ≡ [] → kept ++ before ≡ later ++ after → after ≡ []
none_left kept later before after same none e =
    append_cancel_left kept after [] (ap (λ x. x ++ after) (sym same) ∙ sym e ∙ ap (λ x. kept ++ x) none)

pub is_ended : {announced : Announced} {old new newer : Stream} {held kept : Pending} (later : Pending) (n : ℕ) → n ≡ 0
    → (w : Wants announced old held kept new) → Fills new kept (Ok n) later newer → ReadsBody announced old held (Ok Ended) later newer
is_ended {announced = announced} {old = old} {new = new} {newer = newer} {kept = kept} later n none w f =
    let same = same_bytes kept later n none f.grows in
    record {
      passed = w.passed;
      on = fills_on w.passed later n w.on f;
      gives = (
        subst (λ (x : List ℕ). IsBodyUnfinished announced (w.passed ++ x)) (sym same) w.unfinished,
        (let less = f.grows.before in let now = f.grows.taken in omega arith),
        both_then old.bytes new.bytes newer.bytes (λ a b. a ≡ w.on.got ++ b) (Moves kept (Ok n) later) (λ a b. b ≡ [])
            (λ a b d p m. none_left kept.bytes later.bytes b d same (m.1 (ap Ok none)) m.0) w.on.told f.told,
      );
    }

-- the source gave nothing, and what is held is the same
stays_on : {old new newer : Stream} {held kept : Pending} (passed : List ℕ) (later : Pending) (e : ReadError) → ReadsOn old held passed kept new
    → Fills new kept (Err e) later newer → ReadsOn old held passed later newer
stays_on {old = old} {new = new} {newer = newer} {held = held} {kept = kept} passed later e on f = record {
  got = on.got;
  whole = on.whole ∙ ap (λ (x : Pending). passed ++ x.bytes) (sym f.grows);
  taken = ap (λ (x : Pending). x.taken) f.grows ∙ on.taken;
  counts = let a = on.counts in let b = f.counts in omega arith;
  told = both_then old.bytes new.bytes newer.bytes (λ a b. a ≡ on.got ++ b) (Moves kept (Err e) later) (λ a b. a ≡ on.got ++ b)
      (λ a b d p m. p ∙ ap (λ x. on.got ++ x) (append_cancel_left kept.bytes b d (m.0 ∙ ap (λ (x : Pending). x.bytes ++ d) f.grows))) on.told f.told;
}

still_open : (announced : Announced) (passed : List ℕ) (kept later : Pending) → later ≡ kept → IsBodyUnfinished announced (passed ++ kept.bytes)
    → IsBodyUnfinished announced (passed ++ later.bytes)
still_open announced passed kept later same unfinished =
    subst (λ (x : Pending). IsBodyUnfinished announced (passed ++ x.bytes)) (sym same) unfinished

pub is_stopped : {announced : Announced} {old new newer : Stream} {held kept : Pending} (later : Pending) (e : ReadError)
    → (w : Wants announced old held kept new) → FillsThen new kept (Err e) later newer → ReadsBody announced old held (Err e) later newer
is_stopped {announced = announced} {kept = kept} later Failed w f = record {
  passed = w.passed;
  on = stays_on w.passed later Failed w.on f;
  gives = (
    still_open announced w.passed kept later f.grows w.unfinished,
    (let less = f.fewer refl in let same = ap (λ (x : Pending). x.taken) f.grows in omega arith),
    rose_before _ _ _ w.on.counts (f.failed refl),
  );
}
is_stopped {announced = announced} {kept = kept} later TooMuch w f = record {
  passed = w.passed;
  on = stays_on w.passed later TooMuch w.on f;
  gives = (still_open announced w.passed kept later f.grows w.unfinished, ap (λ (x : Pending). x.taken) f.grows ∙ f.too_much refl);
}
is_stopped later WithoutMemory w f = absurd (f.memory refl)
is_stopped {announced = announced} {old = old} {new = new} {held = held} {kept = kept} later Unsent w f = record {
  passed = w.passed;
  on = subst (λ (x : Stream). ReadsOn old held w.passed later x) (sym f.1) (subst (λ (x : Pending). ReadsOn old held w.passed x new) (sym f.0) w.on);
  gives = still_open announced w.passed kept later f.0 w.unfinished;
}

-- whatever is read, an error says the same of the sink
pub sending_same : (A B : Type 0) (e : ReadError) → sending {A = A} (Err e) ≡ sending {A = B} (Err e)
sending_same A B Failed = refl
sending_same A B TooMuch = refl
sending_same A B WithoutMemory = refl
sending_same A B Unsent = refl

-- what was given to the sink before, and by a call that ends with an error
pub sends_error : (old mid new : Stream) (held between later : List ℕ) (e : ReadError) → Pushes old held [] (Ok tt) between mid
    → Pushes mid between [] (sending {A = ℕ} (Err e)) later new → Pushes old held [] (sending {A = BodyRead} (Err e)) later new
sends_error old mid new held between later e p q =
    subst (λ (r : Result Unit SinkFailed). Pushes old held [] r later new) (sending_same ℕ BodyRead e)
    (pushes_then old mid new held [] between [] later (sending {A = ℕ} (Err e)) p q)
