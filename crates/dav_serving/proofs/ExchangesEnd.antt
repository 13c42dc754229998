-- From steps and pushes to exchanges.
use Rattle.dav_model.specs.Play.{Stage}
use Rattle.std.proofs.Common.{◌≡◌, ◌<◌, ◌≤◌, ◌++◌, ◌||◌, ℕ, List, [], ◌∷◌, Bool, true, false, cond, Ok, Err, Result, Option, sym, ap, subst, ◌∙◌, refl, inl, inr, arith, append_assoc, append-nil}
use Rattle.std.specs.List.{flat_map}
use Rattle.dav_io.specs.Counts.{Rose}
use Rattle.dav_io.specs.declared.failure.NoMemory.{NoMemory}
use Rattle.dav_io.specs.declared.failure.Failed.{Failed}
use Rattle.dav_io.specs.declared.clock.Moment.{Moment}
use Rattle.dav_model.specs.declared.step.Step.{Step}
use Rattle.dav_model.specs.declared.step.Step.TheVariants.{Request, Poll, Purge, Turn}
use Rattle.dav_model.specs.declared.answer.Answer.{Answer}
use Rattle.dav_model.specs.declared.answer.Answer.TheVariants.{Reply as Replied, Piece, End, Broken, Done}
use Rattle.dav_model.specs.Conditions.{Asked}
use Rattle.dav_model.specs.Bodies.{Part, Polls, size, slice, text, read_size_of}
use Rattle.dav_model.proofs.PollsShrink.{polls_shrink}
use Rattle.dav_model.proofs.JoiningLemmas.{played_join, played_counts, poll_says}
use Rattle.dav_wire.specs.Answers.{head_text, has_close_field}
use Rattle.dav_wire.specs.Chunks.{written, ending}
use Rattle.dav_wire.specs.declared.chunks.Framing.{Framing}
use Rattle.dav_wire.specs.Writing.{Sent, SentFront}
use Rattle.dav_wire.proofs.Pushing.{none_sent, sent_more, sent_front, sent_push, sent_push_front}
use Rattle.dav_serving.specs.declared.exchange.Ended.{Ended}
use Rattle.dav_serving.specs.declared.exchange.Ended.TheVariants.{Open, Closed}
use Rattle.dav_serving.specs.Exchange.{Exchange, exchange_of, piece_steps, piece_answers, begun_steps, begun_answers, framing_of, begun_wire_of, wire_of, with_pieces}
use Rattle.dav_serving.specs.Ends.{IsAt, Begun, Whole, BrokenOff, EndsBody, SinkStopped, MemoryStopped, Exchanges}
use Rattle.dav_serving.specs.Stages.{PlayedOn, RefusedAt, Outlet, PushesOn, Work}
use Rattle.dav_serving.proofs.PlayedByTree.{played_along}

-- a poll that gives a piece leaves less of the body
pub poll_shrinks : (body : ℕ) {a b : Stage} {first answer : Answer} (piece : List ℕ) → PlayedOn a (Turn ∷ Poll body ∷ []) (first ∷ answer ∷ []) (Ok tt) b
    → answer ≡ Piece piece → size (b.playing.left body) < size (a.playing.left body)
poll_shrinks body {a = a} {b = b} {first = first} {answer = answer} piece r e =
    let says = poll_says r.trail a body first answer b r.played in
    polls_shrink says.mid.told says.mid.whole (read_size_of a.playing.rules.settings.read_buf_size) says.mid.faults b.at.faults (a.playing.left body) answer (b.playing.left body) says.polls piece e

broke_at : (told : Option _) (whole : Bool) (most before after : ℕ) (left : List Part) (answer : Answer) (rest : List Part)
    → Polls told whole most (Rose before after) left answer rest → ((x : List ℕ) → answer ≡ Piece x → ⊥) → (answer ≡ End → ⊥) → (answer ≡ Broken) × Rose before after
broke_at told whole most before after [] answer rest (e, none) piece end = absurd (end e)
broke_at told whole most before after (part ∷ parts) answer rest (inl (x, e, gives)) piece end = absurd (piece x e)
broke_at told whole most before after (text bytes ∷ parts) answer rest (inr (e, none, never)) piece end = absurd never
broke_at told whole most before after (slice number start count ∷ parts) answer rest (inr (e, none, rose)) piece end = (e, rose)

pub rose_between : (a b c d : ℕ) → a ≤ b → b ≤ c → Rose c d → Rose a d
rose_between a b c d x y (inl lt) = inl (omega arith)
rose_between a b c d x y (inr top) = inr top

-- steps behind steps
pub joined : {a m b : Stage} {xs ys : List Step} {first second : List Answer} {result : Result Unit NoMemory} → PlayedOn a xs first (Ok tt) m → PlayedOn m ys second result b
    → PlayedOn a (xs ++ ys) (first ++ second) result b
joined {a = a} {m = m} {b = b} {xs = xs} {ys = ys} {first = first} {second = second} {result = result} p q =
    played_along (p.trail ++ q.trail) a b (xs ++ ys) (first ++ second) result (played_join p.trail q.trail a m b xs ys [] first second result p.played q.played)

-- another answer than a piece or the end comes only of a fault
pub poll_broke : (body : ℕ) {a m b : Stage} {xs : List Step} {answers : List Answer} {first answer : Answer} → PlayedOn a xs answers (Ok tt) m
    → PlayedOn m (Turn ∷ Poll body ∷ []) (first ∷ answer ∷ []) (Ok tt) b → ((x : List ℕ) → answer ≡ Piece x → ⊥) → (answer ≡ End → ⊥) → (answer ≡ Broken) × Rose a.at.faults b.at.faults
poll_broke body {a = a} {m = m} {b = b} {xs = xs} {answers = answers} {first = first} {answer = answer} before poll piece end =
    let says = poll_says poll.trail m body first answer b poll.played in
    let both = broke_at says.mid.told says.mid.whole (read_size_of m.playing.rules.settings.read_buf_size) says.mid.faults b.at.faults (m.playing.left body) answer (b.playing.left body) says.polls piece end in
    (both.0, rose_between a.at.faults m.at.faults says.mid.faults b.at.faults (played_counts before.trail a m xs [] answers before.played) says.counts both.1)

more_steps : (body : ℕ) (pieces : List (List ℕ)) (piece : List ℕ) → piece_steps body pieces ++ Turn ∷ Poll body ∷ [] ≡ piece_steps body (pieces ++ piece ∷ [])
more_steps body [] piece = refl
more_steps body (x ∷ pieces) piece = ap (λ z. Turn ∷ Poll body ∷ z) (more_steps body pieces piece)

more_answers : (pieces : List (List ℕ)) (piece : List ℕ) → piece_answers pieces ++ Done ∷ Piece piece ∷ [] ≡ piece_answers (pieces ++ piece ∷ [])
more_answers [] piece = refl
more_answers (x ∷ pieces) piece = ap (λ z. Done ∷ Piece x ∷ z) (more_answers pieces piece)

more_bytes : (way : Framing) (pieces : List (List ℕ)) (piece : List ℕ) → flat_map (written way) pieces ++ written way piece ≡ flat_map (written way) (pieces ++ piece ∷ [])
more_bytes way [] piece = sym (append-nil (written way piece))
more_bytes way (x ∷ pieces) piece = append_assoc (written way x) (flat_map (written way) pieces) (written way piece) ∙ ap (λ z. written way x ++ z) (more_bytes way pieces piece)

-- the bytes of the head alone
first_bytes : (before head : List ℕ) → before ++ head ≡ before ++ (head ++ [])
first_bytes before head = ap (λ z. before ++ z) (sym (append-nil head))

is_at : (x : Exchange) (pieces : List (List ℕ)) → IsAt x.request x.now x.closing (with_pieces x pieces)
is_at x pieces = record { request_is = refl; now_is = refl; closing_is = refl }

-- the bytes of the head
abbrev head_of_answer : Exchange → List ℕ
head_of_answer x = head_text x.status x.fields x.closing (framing_of x)

-- the steps up to the reply, and their answers
abbrev PlayedToReply : Exchange → Stage → Stage → Type 0
PlayedToReply x a b = PlayedOn a (Turn ∷ Purge x.now ∷ Request x.request x.now ∷ []) (Done ∷ Done ∷ Replied x.status x.fields x.body ∷ []) (Ok tt) b

-- a turn and a poll
abbrev PlayedToPoll : Exchange → Stage → Answer → Stage → Type 0
PlayedToPoll x a answer b = PlayedOn a (Turn ∷ Poll x.body ∷ []) (Done ∷ answer ∷ []) (Ok tt) b

-- a piece more
piece_bytes : (x : Exchange) (before piece : List ℕ) (pieces : List (List ℕ))
    → (before ++ begun_wire_of (with_pieces x pieces)) ++ written (framing_of x) piece ≡ before ++ begun_wire_of (with_pieces x (pieces ++ piece ∷ []))
piece_bytes x before piece pieces =
    append_assoc before (head_of_answer x ++ flat_map (written (framing_of x)) pieces) (written (framing_of x) piece)
    ∙ ap (λ z. before ++ z)
    (append_assoc (head_of_answer x) (flat_map (written (framing_of x)) pieces) (written (framing_of x) piece) ∙ ap (λ z. head_of_answer x ++ z) (more_bytes (framing_of x) pieces piece))

piece_played : (x : Exchange) (a m b : Stage) (piece : List ℕ) (pieces : List (List ℕ))
    → PlayedOn a (begun_steps (with_pieces x pieces)) (begun_answers (with_pieces x pieces)) (Ok tt) m → PlayedToPoll x m (Piece piece) b
    → PlayedOn a (begun_steps (with_pieces x (pieces ++ piece ∷ []))) (begun_answers (with_pieces x (pieces ++ piece ∷ []))) (Ok tt) b
piece_played x a m b piece pieces first second =
    let y = with_pieces x pieces in
    let z = with_pieces x (pieces ++ piece ∷ []) in
    subst (λ xs. PlayedOn a xs (begun_answers z) (Ok tt) b) (ap (λ xs. Turn ∷ Purge x.now ∷ Request x.request x.now ∷ xs) (more_steps x.body pieces piece))
    (subst (λ xs. PlayedOn a (begun_steps y ++ Turn ∷ Poll x.body ∷ []) xs (Ok tt) b) (ap (λ xs. Done ∷ Done ∷ Replied x.status x.fields x.body ∷ xs) (more_answers pieces piece))
    (joined first second))

-- the head was sent or waits
pub begun_first : (x : Exchange) {a b : Work} (head : List ℕ) → head ≡ head_of_answer x → PlayedToReply x a.stage b.stage → PushesOn a.outlet head (Ok tt) b.outlet → Begun x a b
begun_first x {a = a} {b = b} head is played pushes = record {
  pieces = [];
  played = played;
  sent = subst (λ z. Sent a.outlet.sink b.outlet.sink z b.outlet.waiting) (ap (λ z. a.outlet.waiting ++ z) is ∙ first_bytes a.outlet.waiting (head_of_answer x))
      (sent_push a.outlet.sink b.outlet.sink a.outlet.waiting head b.outlet.waiting pushes);
}

-- the sink failed at the head
pub first_unsent : (x : Exchange) {a b : Work} (head : List ℕ) (e : Failed) → head ≡ head_of_answer x → PlayedToReply x a.stage b.stage → PushesOn a.outlet head (Err e) b.outlet
    → SinkStopped (IsAt x.request x.now x.closing) a b.outlet b.stage.at
first_unsent x {a = a} {b = b} head e is played pushes =
    let y = with_pieces x [] in
    record {
      bytes = begun_wire_of y;
      reached = inr (inl (record { exchange = y; is = is_at x []; more = []; next = inl refl; answers = []; result = Ok tt; after = b.stage.playing; played = played; are = refl }));
      sent = subst (λ z. SentFront a.outlet.sink b.outlet.sink z) (ap (λ z. a.outlet.waiting ++ z) is ∙ first_bytes a.outlet.waiting (head_of_answer x))
          (sent_push_front a.outlet.sink b.outlet.sink a.outlet.waiting head b.outlet.waiting e pushes);
      rose = pushes.failed refl;
    }

-- a piece was given, and was sent or waits
pub begun_more : (x : Exchange) {a m b : Work} {answer : Answer} (piece bytes : List ℕ) → Begun x a m → PlayedToPoll x m.stage answer b.stage → answer ≡ Piece piece
    → bytes ≡ written (framing_of x) piece → PushesOn m.outlet bytes (Ok tt) b.outlet → Begun x a b
begun_more x {a = a} {m = m} {b = b} piece bytes begun played gives is pushes =
    let sent = a.outlet.waiting ++ begun_wire_of (with_pieces x begun.pieces) in
    record {
      pieces = begun.pieces ++ piece ∷ [];
      played = piece_played x a.stage m.stage b.stage piece begun.pieces begun.played (subst (λ z. PlayedToPoll x m.stage z b.stage) gives played);
      sent = subst (λ z. Sent a.outlet.sink b.outlet.sink z b.outlet.waiting) (ap (λ z. sent ++ z) is ∙ piece_bytes x a.outlet.waiting piece begun.pieces)
          (sent_more a.outlet.sink m.outlet.sink b.outlet.sink sent m.outlet.waiting bytes b.outlet.waiting begun.sent pushes);
    }

-- the sink failed at a piece
pub more_unsent : (x : Exchange) {a m b : Work} {answer : Answer} (piece bytes : List ℕ) (e : Failed) → Begun x a m → PlayedToPoll x m.stage answer b.stage → answer ≡ Piece piece
    → bytes ≡ written (framing_of x) piece → PushesOn m.outlet bytes (Err e) b.outlet → SinkStopped (IsAt x.request x.now x.closing) a b.outlet b.stage.at
more_unsent x {a = a} {m = m} {b = b} piece bytes e begun played gives is pushes =
    let y = with_pieces x (begun.pieces ++ piece ∷ []) in
    let sent = a.outlet.waiting ++ begun_wire_of (with_pieces x begun.pieces) in
    record {
      bytes = begun_wire_of y;
      reached = inr (inl (record {
        exchange = y;
        is = is_at x (begun.pieces ++ piece ∷ []);
        more = [];
        next = inl refl;
        answers = [];
        result = Ok tt;
        after = b.stage.playing;
        played = subst (λ z. PlayedOn a.stage z (begun_answers y ++ []) (Ok tt) b.stage) (sym (append-nil (begun_steps y)))
            (subst (λ z. PlayedOn a.stage (begun_steps y) z (Ok tt) b.stage) (sym (append-nil (begun_answers y))) (piece_played x a.stage m.stage b.stage piece begun.pieces begun.played (subst (λ z. PlayedToPoll x m.stage z b.stage) gives played)));
        are = refl;
      }));
      sent = subst (λ z. SentFront a.outlet.sink b.outlet.sink z) (ap (λ z. sent ++ z) is ∙ piece_bytes x a.outlet.waiting piece begun.pieces)
          (sent_front a.outlet.sink m.outlet.sink b.outlet.sink sent m.outlet.waiting bytes b.outlet.waiting e begun.sent pushes);
      rose = rose_between a.outlet.sink.faults m.outlet.sink.faults m.outlet.sink.faults b.outlet.sink.faults begun.sent.counts (omega arith) (pushes.failed refl);
    }

-- what ends a body behind all of its pieces
end_bytes : (x : Exchange) (before : List ℕ) (pieces : List (List ℕ)) → (before ++ begun_wire_of (with_pieces x pieces)) ++ ending (framing_of x) ≡ before ++ wire_of (with_pieces x pieces)
end_bytes x before pieces = append_assoc before (begun_wire_of (with_pieces x pieces)) (ending (framing_of x))

-- the end was given
whole : (x : Exchange) (a m b : Work) → Begun x a m → PlayedToPoll x m.stage End b.stage → PushesOn m.outlet (ending (framing_of x)) (Ok tt) b.outlet
    → Whole (IsAt x.request x.now x.closing) (x.closing || has_close_field x.fields) a b
whole x a m b begun played pushes =
    let sent = a.outlet.waiting ++ begun_wire_of (with_pieces x begun.pieces) in
    record {
      exchange = with_pieces x begun.pieces;
      is = is_at x begun.pieces;
      closed_is = refl;
      played = joined begun.played played;
      sent = subst (λ z. Sent a.outlet.sink b.outlet.sink z b.outlet.waiting) (end_bytes x a.outlet.waiting begun.pieces)
          (sent_more a.outlet.sink m.outlet.sink b.outlet.sink sent m.outlet.waiting (ending (framing_of x)) b.outlet.waiting begun.sent pushes);
    }

-- the sink failed at the end
end_unsent : (x : Exchange) (a m b : Work) (e : Failed) → Begun x a m → PlayedToPoll x m.stage End b.stage → PushesOn m.outlet (ending (framing_of x)) (Err e) b.outlet
    → SinkStopped (IsAt x.request x.now x.closing) a b.outlet b.stage.at
end_unsent x a m b e begun played pushes =
    let y = with_pieces x begun.pieces in
    let sent = a.outlet.waiting ++ begun_wire_of y in
    record {
      bytes = wire_of y;
      reached = inr (inr (record { exchange = y; is = is_at x begun.pieces; after = b.stage.playing; played = joined begun.played played; are = refl }));
      sent = subst (λ z. SentFront a.outlet.sink b.outlet.sink z) (end_bytes x a.outlet.waiting begun.pieces)
          (sent_front a.outlet.sink m.outlet.sink b.outlet.sink sent m.outlet.waiting (ending (framing_of x)) b.outlet.waiting e begun.sent pushes);
      rose = rose_between a.outlet.sink.faults m.outlet.sink.faults m.outlet.sink.faults b.outlet.sink.faults begun.sent.counts (omega arith) (pushes.failed refl);
    }

-- a body broke
pub begun_breaks : (x : Exchange) {a m b : Work} (answer : Answer) → Begun x a m → PlayedToPoll x m.stage answer b.stage → b.outlet ≡ m.outlet
    → ((piece : List ℕ) → answer ≡ Piece piece → ⊥) → (answer ≡ End → ⊥) → BrokenOff (IsAt x.request x.now x.closing) a b
begun_breaks x {a = a} {m = m} {b = b} answer begun played same piece end =
    let y = with_pieces x begun.pieces in
    let broken = poll_broke x.body begun.played played piece end in
    record {
      exchange = y;
      is = is_at x begun.pieces;
      played = joined begun.played (subst (λ z. PlayedToPoll x m.stage z b.stage) broken.0 played);
      sent = subst (λ (z : Outlet). Sent a.outlet.sink z.sink (a.outlet.waiting ++ begun_wire_of y) z.waiting) (sym same) begun.sent;
      rose = broken.1;
    }

-- memory was refused at a poll
pub poll_starved : (x : Exchange) {a m : Work} {b : Stage} → Begun x a m → RefusedAt m.stage (Turn ∷ Poll x.body ∷ []) b
    → MemoryStopped (IsAt x.request x.now x.closing) a m.outlet b.at
poll_starved x {a = a} {m = m} {b = b} begun (answers, played) =
    let y = with_pieces x begun.pieces in
    record {
      bytes = begun_wire_of y;
      reached = inr (inl (record {
        exchange = y;
        is = is_at x begun.pieces;
        more = Turn ∷ Poll x.body ∷ [];
        next = inr refl;
        answers = answers;
        result = Err (record {});
        after = b.playing;
        played = joined begun.played played;
        are = refl;
      }));
      sent = begun.sent;
    }

-- no memory for the head
pub head_starved : (x : Exchange) {a : Work} {b : Stage} {answers : List Answer} {result : Result Unit NoMemory}
    → PlayedOn a.stage (Turn ∷ Purge x.now ∷ Request x.request x.now ∷ []) answers result b → MemoryStopped (IsAt x.request x.now x.closing) a a.outlet b.at
head_starved x {a = a} {b = b} {answers = answers} {result = result} played = record {
  bytes = [];
  reached = inl (record {
    exchange = with_pieces x [];
    is = is_at x [];
    no_pieces = refl;
    answers = answers;
    result = result;
    after = b.playing;
    played = played;
    none = refl;
  });
  sent = subst (λ z. Sent a.outlet.sink a.outlet.sink z a.outlet.waiting) (sym (append-nil a.outlet.waiting)) (none_sent a.outlet.sink a.outlet.waiting);
}

-- memory was refused at the request
pub request_starved : (request : Asked) (now : Moment) (closing : Bool) {a : Work} {b : Stage} → RefusedAt a.stage (Turn ∷ Purge now ∷ Request request now ∷ []) b
    → MemoryStopped (IsAt request now closing) a a.outlet b.at
request_starved request now closing (answers, played) = head_starved (exchange_of request now closing 0 [] 0) played

by_closed : (Is : Exchange → Type 0) (closed : Bool) (a b : Work) → Whole Is closed a b → Exchanges Is a (cond closed Closed Open) b
by_closed Is true a b e = e
by_closed Is false a b e = e

-- how an exchange ends behind the last piece of its body
ended : (x : Exchange) (a m b : Work) (how : Ended) → Begun x a m → PlayedToPoll x m.stage End b.stage → EndsBody (framing_of x) x.closing x.fields m.outlet how b.outlet
    → Exchanges (IsAt x.request x.now x.closing) a how b
ended x a m b how begun played (inl (is, pushes)) =
    subst (λ z. Exchanges (IsAt x.request x.now x.closing) a z b) (sym is)
    (by_closed (IsAt x.request x.now x.closing) (x.closing || has_close_field x.fields) a b (whole x a m b begun played pushes))
ended x a m b how begun played (inr (is, pushes)) =
    subst (λ z. Exchanges (IsAt x.request x.now x.closing) a z b) (sym is) (end_unsent x a m b (record {}) begun played pushes)

pub body_ended : (x : Exchange) {a m b : Work} {answer : Answer} (how : Ended) → Begun x a m → PlayedToPoll x m.stage answer b.stage → answer ≡ End
    → EndsBody (framing_of x) x.closing x.fields m.outlet how b.outlet → Exchanges (IsAt x.request x.now x.closing) a how b
body_ended x {a = a} {m = m} {b = b} how begun played gives ends = ended x a m b how begun (subst (λ z. PlayedToPoll x m.stage z b.stage) gives played) ends
