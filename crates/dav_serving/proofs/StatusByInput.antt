-- With which status a run ends where no fault ends it.
use Rattle.dav_model.specs.Play.{Stage}
use Rattle.std.proofs.Common.{◌≡◌, ◌≤◌, ◌<◌, ◌+◌, ◌^◌, ◌++◌, ◌||◌, ◌⊎◌, ℕ, zero, suc, List, [], ◌∷◌, Bool, true, false, IsTrue, Some, length, get_or, sym, ap, subst, ◌∙◌, refl, inl, inr, arith, append-nil, length-append, true≢false}
use Rattle.std.specs.List.{AllByRecursion}
use Rattle.std.proofs.lemmas.Str.{IsUtf8-from_ascii}
use Rattle.httparse.specs.Grammar.{is_token_byte, is_uri_byte, lf, RequestHead, IsRequestHead, print_request, ReadsRequest}
use Rattle.dav_io.specs.Counts.{RefusedNothing}
use Rattle.dav_io.proofs.ToldLemmas.{both_and, told_after}
use Rattle.dav_io.proofs.Rising.{no_rise}
use Rattle.dav_model.specs.Trail.{Point}
use Rattle.http.specs.Request.{head_of}
use Rattle.dav_wire.specs.Answers.{has_close_field}
use Rattle.dav_wire.specs.Messages.{Message, IsMessage, Messages, HasNoMessage, MessageRefusal, refused_head, refused_body, IsMessageUnfinished, open_head, open_body}
use Rattle.dav_wire.specs.Requests.{IsRequest, Refusal, never, long, many, target}
use Rattle.dav_wire.specs.declared.next.Flaw.{Flaw}
use Rattle.dav_wire.proofs.RequestLemmas.{end_has_none}
use Rattle.dav_serving.specs.declared.ending.Ending.{Ending}
use Rattle.dav_serving.specs.declared.ending.Ending.TheVariants.{Over, Closed, Refused, Unfinished, SourceFailed, SinkFailed, DiskFailed, TooMuch}
use Rattle.dav_serving.specs.Exchange.{Exchange, is_closed}
use Rattle.dav_serving.specs.Serving.{Setup, Chain, Alike, IsOpen, ServedAll, ServedClosing, ServedRefusing, ServedUnfinished, EndsBy, ready, status_of}
use Rattle.dav_serving.specs.Stages.{Outside}
use Rattle.dav_serving.specs.Completing.{Faultless, Closes, ClosesStill, LastByHead, IsLeft, IsValid, IsValidStill, IsInvalid, IsInvalidStill, IsStopped, StatusIs}
use Rattle.dav_serving.proofs.Progress.{chain_counts}
use Rattle.dav_serving.proofs.RequestsAreSome.{head_some, request_shorter}
use Rattle.dav_wire.proofs.MessageLemmas.{message_is_one, message_refusal_has_none, unfinished_message_none, messages_are_one, end_has_no_message}

-- the shortest head of the grammar
shortest : RequestHead
shortest = record { blank = []; method = 65 ∷ []; target = 47 ∷ []; minor = 1; line_end = lf; fields = []; last = lf }

token_at : (k d : ℕ) → k < 1 → IsTrue (is_token_byte (get_or (65 ∷ []) k d))
unfolding is_token_byte
token_at zero d l = refl
token_at (suc k) d l = absurd (omega arith)

uri_at : (k d : ℕ) → k < 1 → IsTrue (is_uri_byte (get_or (47 ∷ []) k d))
uri_at zero d l = refl
uri_at (suc k) d l = absurd (omega arith)

slash_at : (k : ℕ) → get_or (47 ∷ []) k 0 < 128
slash_at zero = omega arith
slash_at (suc k) = omega arith

shortest_is : IsRequestHead shortest
unfolding shortest
shortest_is = record {
  method = (omega arith, token_at);
  target = (omega arith, uri_at);
  target_text = IsUtf8-from_ascii (47 ∷ []) slash_at;
  minor = omega arith;
  fields = λ k d l. absurd (omega arith);
}

shortest_reads : ReadsRequest ([] ++ print_request shortest) shortest []
shortest_reads = (shortest_is, sym (append-nil (print_request shortest)))

fieldless : length shortest.fields ≡ 0
unfolding shortest
fieldless = refl

-- where nothing stands, nothing is refused
nothing_refused : (left : List ℕ) → left ≡ [] → Refusal left → ⊥
nothing_refused left e (never none) =
    none (print_request shortest) shortest [] (subst (λ z. ReadsRequest (z ++ print_request shortest) shortest []) (sym e) shortest_reads)
nothing_refused left e (long past none) = let l = ap (length {A = ℕ}) e in absurd (omega arith)
nothing_refused left e (many exceeds overflows) =
    let more = overflows (print_request shortest) shortest [] (subst (λ z. ReadsRequest (z ++ print_request shortest) shortest []) (sym e) shortest_reads) in
    let few = fieldless in
    absurd (omega arith)
nothing_refused left e (target head rest reads none) =
    let some = head_some head reads.0 in
    let whole = ap (length {A = ℕ}) (sym e ∙ reads.1) ∙ length-append (print_request head) rest in
    absurd (omega arith)

-- nor is a body
nothing_owed : (left : List ℕ) (flaw : Flaw) → left ≡ [] → MessageRefusal left flaw → ⊥
nothing_owed left flaw e (refused_head is refused) = nothing_refused left e refused
nothing_owed left flaw e (refused_body request behind stands refused) = end_has_none request behind (subst (λ z. IsRequest z request behind) e stands)

-- what is unfinished is some bytes
unfinished_some : (left : List ℕ) → IsMessageUnfinished left → 0 < length left
unfinished_some left (open_head u) = u.some
unfinished_some left (open_body request behind stands unfinished) = let shorter = request_shorter left behind request stands in omega arith

-- the requests up to where none stands begin with any others
compare : (a rest left : List ℕ) (messages others : List Message) → Messages a messages rest → Messages a others left → HasNoMessage left
    → (more : List Message) × (others ≡ messages ++ more) × Messages rest more left
compare a rest left [] others first second none = (others, refl, subst (λ z. Messages z others left) (sym first) second)
compare a rest left (message ∷ messages) [] (after, is, later) second none = absurd (none message after (subst (λ z. IsMessage z message after) (sym second) is))
compare a rest left (message ∷ messages) (other ∷ others) (after, is, later) (behind, stands, further) none =
    let same = message_is_one a message other after behind is stands in
    let found = compare behind rest left messages others (subst (λ z. Messages z messages rest) same.1 later) further none in
    (found.0, ap (λ z. z ∷ others) (sym same.0) ∙ ap (λ z. message ∷ z) found.1, found.2)

-- the exchanges of the first requests
record Front (setup : Setup) (a : Stage) (messages : List Message) : Type 0 where
  exchanges : List Exchange
  last : Stage
  played : Chain setup.rules a exchanges last
  alike : Alike setup messages exchanges
  are_open : AllByRecursion IsOpen exchanges

front_of : (setup : Setup) (a b : Stage) (messages more : List Message) (xs : List Exchange) → Chain setup.rules a xs b → Alike setup (messages ++ more) xs → AllByRecursion IsOpen xs
    → (f : Front setup a messages) × (f.last.at.faults ≤ b.at.faults)
front_of setup a b [] more xs chain alike o = (record { exchanges = []; last = a; played = refl; alike = tt; are_open = tt }, chain_counts setup.rules a b xs chain)
front_of setup a b (message ∷ messages) more [] chain alike o = absurd alike
front_of setup a b (message ∷ messages) more (x ∷ xs) (m, played, chain) (is, alike) (first, others) =
    let (f, counts) = front_of setup (ready setup.rules m.playing.knows m.at) b messages more xs chain alike others in
    (record { exchanges = x ∷ f.exchanges; last = f.last; played = (m, played, f.played); alike = (is, f.alike); are_open = (first, f.are_open) }, counts)

nothing_more : (rest left : List ℕ) (more : List Message) → rest ≡ [] → Messages rest more left → left ≡ []
nothing_more rest left [] e r = r ∙ e
nothing_more rest left (message ∷ more) e (after, is, later) = absurd (end_has_no_message message after (subst (λ z. IsMessage z message after) e is))

-- No exchanges answer these requests and leave the connection open, at whose end the disk has so many faults at most.
abbrev NoFront : Setup → Point → ℕ → List Message → Type 0
NoFront setup s most messages = (f : Front setup (ready setup.rules setup.knows s) messages) → f.last.at.faults ≤ most → ⊥

-- a valid input, by what holds of a disk that has so many faults at most
record ValidTo (setup : Setup) (s : Point) (most : ℕ) (bytes : List ℕ) : Type 0 where
  messages : List Message
  rest : List ℕ
  requests : Messages bytes messages rest
  ends : (rest ≡ []) ⊎ NoFront setup s most messages

-- a valid input has no place where no request stands
no_place : (setup : Setup) (s : Point) (last : Stage) (a left : List ℕ) (others : List Message) (xs : List Exchange) → ValidTo setup s last.at.faults a
    → Messages a others left → HasNoMessage left → (left ≡ [] → ⊥) → Chain setup.rules (ready setup.rules setup.knows s) xs last → Alike setup others xs
    → AllByRecursion IsOpen xs → ⊥
no_place setup s last a left others xs v second none some chain alike o = by_end v.ends
  where
    by_end : (v.rest ≡ []) ⊎ NoFront setup s last.at.faults v.messages → ⊥
    by_end (inl over) =
        let c = compare a v.rest left v.messages others v.requests second none in
        some (nothing_more v.rest left c.0 over c.2)
    by_end (inr closes) =
        let c = compare a v.rest left v.messages others v.requests second none in
        let f = front_of setup (ready setup.rules setup.knows s) last v.messages c.0 xs chain (subst (λ z. Alike setup z xs) c.1 alike) o in
        closes f.0 f.1

some_left : (held b : List ℕ) → 0 < length held → held ++ b ≡ [] → ⊥
some_left held b some e =
    let whole = sym (length-append held b) ∙ ap (length {A = ℕ}) e in
    absurd (omega arith)

closed_by : (closing other : Bool) → IsTrue closing → closing || other ≡ false → ⊥
closed_by true other t e = absurd (true≢false e)
closed_by false other t e = absurd (true≢false (sym t))

-- a request that asks for it closes
asks_closes : (setup : Setup) (a : Stage) (messages : List Message) (last : Message) → LastByHead last.head → (xs : List Exchange) (b : Stage) → Chain setup.rules a xs b
    → Alike setup (messages ++ last ∷ []) xs → AllByRecursion IsOpen xs → ⊥
asks_closes setup a [] last asks [] b chain alike o = absurd alike
asks_closes setup a [] last asks (x ∷ xs) b chain (is, alike) o = closed_by x.closing (has_close_field x.fields) (is.closing.1 (asks (head_of x.request) is.parts)) o.0
asks_closes setup a (message ∷ messages) last asks [] b chain alike o = absurd alike
asks_closes setup a (message ∷ messages) last asks (x ∷ xs) b (m, played, chain) (is, alike) o = asks_closes setup (ready setup.rules m.playing.knows m.at) messages last asks xs b chain alike o.1

asked_closes : (setup : Setup) (s : Point) (messages : List Message) (last : Message) → LastByHead last.head → Closes setup s (messages ++ last ∷ [])
asked_closes setup s messages last asks xs b chain alike o = asks_closes setup (ready setup.rules setup.knows s) messages last asks xs b chain alike o

left_valid : (setup : Setup) (s : Point) (a : List ℕ) → IsLeft a → IsValid setup s a
left_valid setup s a left = record { messages = left.messages ++ left.last ∷ []; rest = left.rest; requests = left.requests; ends = inr (asked_closes setup s left.messages left.last left.asks) }

-- the count of a disk that refused nothing to here, at a front of what was played
still_front : (setup : Setup) (s : Point) (most : ℕ) (messages : List Message) → RefusedNothing s.faults most → (f : Front setup (ready setup.rules setup.knows s) messages)
    → f.last.at.faults ≤ most → RefusedNothing s.faults f.last.at.faults
still_front setup s most messages still f le =
    let more : s.faults ≤ f.last.at.faults = chain_counts setup.rules (ready setup.rules setup.knows s) f.last f.exchanges f.played in
    record { same = omega (arith, more, le, still.same); room = omega (arith, le, still.room) }

valid_to : (setup : Setup) (s : Point) (most : ℕ) (a : List ℕ) → IsValid setup s a → ValidTo setup s most a
valid_to setup s most a v = record { messages = v.messages; rest = v.rest; requests = v.requests; ends = by_end v.ends }
  where
    by_end : (v.rest ≡ []) ⊎ Closes setup s v.messages → (v.rest ≡ []) ⊎ NoFront setup s most v.messages
    by_end (inl over) = inl over
    by_end (inr closes) = inr (λ f le. closes f.exchanges f.last f.played f.alike f.are_open)

still_valid_to : (setup : Setup) (s : Point) (most : ℕ) (a : List ℕ) → RefusedNothing s.faults most → IsValidStill setup s a → ValidTo setup s most a
still_valid_to setup s most a still v = record { messages = v.messages; rest = v.rest; requests = v.requests; ends = by_end v.ends }
  where
    by_end : (v.rest ≡ []) ⊎ ClosesStill setup s v.messages → (v.rest ≡ []) ⊎ NoFront setup s most v.messages
    by_end (inl over) = inl over
    by_end (inr closes) = inr (λ f le. closes f.exchanges f.last f.played (still_front setup s most v.messages still f le) f.alike f.are_open)

-- behind these requests, of which exchanges leave the connection open, bytes stand that are no request
record InvalidTo (setup : Setup) (s : Point) (most : ℕ) (bytes : List ℕ) : Type 0 where
  messages : List Message
  rest : List ℕ
  requests : Messages bytes messages rest
  some : 0 < length rest
  none : HasNoMessage rest
  stay : (front back : List Message) → messages ≡ front ++ back → (xs : List Exchange) (last : Stage)
      → Chain setup.rules (ready setup.rules setup.knows s) xs last → last.at.faults ≡ most → Alike setup front xs → AllByRecursion IsOpen xs

invalid_to : (setup : Setup) (s : Point) (most : ℕ) (a : List ℕ) → IsInvalid setup s a → InvalidTo setup s most a
invalid_to setup s most a v = record {
  messages = v.messages;
  rest = v.rest;
  requests = v.requests;
  some = v.some;
  none = v.none;
  stay = λ front back e xs last chain at alike. v.stay front back e xs last chain alike;
}

still_invalid_to : (setup : Setup) (s : Point) (most : ℕ) (a : List ℕ) → RefusedNothing s.faults most → IsInvalidStill setup s a → InvalidTo setup s most a
still_invalid_to setup s most a still v = record {
  messages = v.messages;
  rest = v.rest;
  requests = v.requests;
  some = v.some;
  none = v.none;
  stay = λ front back e xs last chain at alike. v.stay front back e xs last chain (subst (λ n. RefusedNothing s.faults n) (sym at) still) alike;
}

module _ (setup : Setup) (before after : Outside) (a : List ℕ) (told : before.source.bytes ≡ Some a) where
  valid_not_refused : ValidTo setup before.disk after.disk.faults a → ServedRefusing setup before after → ⊥
  valid_not_refused valid v =
      let both = told_after before.source.bytes after.source.bytes _ a (both_and before.source.bytes after.source.bytes _ _ v.serving.requests v.refused) told in
      let left = v.held ++ both.0 in
      no_place setup before.disk _ a left v.serving.messages v.exchanges valid both.2.0
      (subst HasNoMessage (append-nil left) (message_refusal_has_none left [] v.flaw both.2.1)) (λ e. nothing_owed left v.flaw e both.2.1) v.serving.played v.serving.alike v.serving.follow

  valid_not_unfinished : ValidTo setup before.disk after.disk.faults a → ServedUnfinished setup before after → ⊥
  valid_not_unfinished valid v =
      let both = told_after before.source.bytes after.source.bytes _ a (both_and before.source.bytes after.source.bytes _ _ v.serving.requests v.over) told in
      let left = v.held ++ both.0 in
      let same : left ≡ v.held = ap (λ z. v.held ++ z) both.2.1 ∙ append-nil v.held in
      no_place setup before.disk _ a left v.serving.messages v.exchanges valid both.2.0
      (subst HasNoMessage (sym same) (unfinished_message_none v.held v.unfinished)) (some_left v.held both.0 (unfinished_some v.held v.unfinished)) v.serving.played v.serving.alike v.serving.follow

  invalid_not_all : InvalidTo setup before.disk after.disk.faults a → ServedAll setup before after → ⊥
  invalid_not_all invalid v =
      let both = told_after before.source.bytes after.source.bytes _ a (both_and before.source.bytes after.source.bytes _ _ v.serving.requests v.over) told in
      let ends : Messages a v.serving.messages [] = subst (λ z. Messages a v.serving.messages z) both.2.1 both.2.0 in
      let same = messages_are_one a invalid.rest [] invalid.messages v.serving.messages invalid.requests invalid.none ends end_has_no_message in
      let l = ap (length {A = ℕ}) same.1 in
      let some = invalid.some in
      absurd (omega arith)

  last_open : (ys : List Exchange) (y : Exchange) → AllByRecursion IsOpen (ys ++ y ∷ []) → is_closed y ≡ false
  last_open [] y o = o.0
  last_open (x ∷ ys) y o = last_open ys y o.1

  invalid_not_closing : InvalidTo setup before.disk after.disk.faults a → ServedClosing setup before after → ⊥
  invalid_not_closing invalid v =
      let both = told_after before.source.bytes after.source.bytes _ a v.serving.requests told in
      let c = compare a (v.held ++ both.0) invalid.rest v.serving.messages invalid.messages both.2 invalid.requests invalid.none in
      let o = invalid.stay v.serving.messages c.0 c.1 v.exchanges _ v.serving.played refl v.serving.alike in
      let (ys, y, are, others, closed) = v.serving.follow in
      absurd (true≢false (sym closed ∙ last_open ys y (subst (λ z. AllByRecursion IsOpen z) are o)))

not_stopped : (n : ℕ) → (n ≡ 0) ⊎ (n ≡ 6) → IsStopped n → ⊥
not_stopped n (inl zero') (inl three) = absurd (omega arith)
not_stopped n (inl zero') (inr (inl four)) = absurd (omega arith)
not_stopped n (inl zero') (inr (inr (inl five))) = absurd (omega arith)
not_stopped n (inl zero') (inr (inr (inr seven))) = absurd (omega arith)
not_stopped n (inr six) (inl three) = absurd (omega arith)
not_stopped n (inr six) (inr (inl four)) = absurd (omega arith)
not_stopped n (inr six) (inr (inr (inl five))) = absurd (omega arith)
not_stopped n (inr six) (inr (inr (inr seven))) = absurd (omega arith)

-- by the end
module _ (setup : Setup) (before after : Outside) (a : List ℕ) (told : before.source.bytes ≡ Some a) where
  valid_by : (end : Ending) → EndsBy setup before after end → ValidTo setup before.disk after.disk.faults a → (status_of end ≡ 0) ⊎ IsStopped (status_of end)
  valid_by Over v valid = inl refl
  valid_by Closed v valid = inl refl
  valid_by SourceFailed v valid = inr (inl refl)
  valid_by SinkFailed v valid = inr (inr (inl refl))
  valid_by DiskFailed v valid = inr (inr (inr (inl refl)))
  valid_by TooMuch v valid = inr (inr (inr (inr refl)))
  valid_by Refused v valid = absurd (valid_not_refused setup before after a told valid v)
  valid_by Unfinished v valid = absurd (valid_not_unfinished setup before after a told valid v)

  invalid_by : (end : Ending) → EndsBy setup before after end → InvalidTo setup before.disk after.disk.faults a → (status_of end ≡ 6) ⊎ IsStopped (status_of end)
  invalid_by Over v invalid = absurd (invalid_not_all setup before after a told invalid v)
  invalid_by Closed v invalid = absurd (invalid_not_closing setup before after a told invalid v)
  invalid_by SourceFailed v invalid = inr (inl refl)
  invalid_by SinkFailed v invalid = inr (inr (inl refl))
  invalid_by DiskFailed v invalid = inr (inr (inr (inl refl)))
  invalid_by TooMuch v invalid = inr (inr (inr (inr refl)))
  invalid_by Refused v invalid = inl refl
  invalid_by Unfinished v invalid = inl refl

  stopped_by : (end : Ending) → EndsBy setup before after end → length a < 2 ^ 60 → Faultless before after → IsStopped (status_of end) → ⊥
  stopped_by Over v few well stopped = not_stopped 0 (inl refl) stopped
  stopped_by Closed v few well stopped = not_stopped 0 (inl refl) stopped
  stopped_by Refused v few well stopped = not_stopped 6 (inr refl) stopped
  stopped_by Unfinished v few well stopped = not_stopped 6 (inr refl) stopped
  stopped_by SourceFailed v few well stopped = no_rise before.source.faults after.source.faults well.by_source v.0
  stopped_by SinkFailed v few well stopped = no_rise before.sink.faults after.sink.faults well.by_sink v.0
  stopped_by DiskFailed v few well stopped = no_rise before.disk.faults after.disk.faults well.by_disk v.0
  stopped_by TooMuch v few well stopped =
      let took = told_after before.source.bytes after.source.bytes (λ x y. length x ≡ 2 ^ 60 + length y) a v.0 told in
      let n = took.2 in
      absurd (omega arith)

status_by : (setup : Setup) (before after : Outside) (end : Ending) → EndsBy setup before after end → StatusIs setup before after (status_of end)
status_by setup before after end v = record {
  valid = λ a told valid. valid_by setup before after a told end v (valid_to setup before.disk after.disk.faults a valid);
  left = λ a told left. valid_by setup before after a told end v (valid_to setup before.disk after.disk.faults a (left_valid setup before.disk a left));
  invalid = λ a told invalid. invalid_by setup before after a told end v (invalid_to setup before.disk after.disk.faults a invalid);
  valid_still = λ a told still valid. valid_by setup before after a told end v (still_valid_to setup before.disk after.disk.faults a still valid);
  invalid_still = λ a told still invalid. invalid_by setup before after a told end v (still_invalid_to setup before.disk after.disk.faults a still invalid);
  goes_on = λ a told few well stopped. stopped_by setup before after a told end v few well stopped;
}

-- by the end of a run
pub completes : (setup : Setup) (before after : Outside) (status : ℕ) (end : Ending) → status ≡ status_of end → EndsBy setup before after end → StatusIs setup before after status
completes setup before after status end same v = subst (λ z. StatusIs setup before after z) (sym same) (status_by setup before after end v)

-- ---- completeness

none_stops : (setup : Setup) (before after : Outside) (status wanted : ℕ) (bytes : List ℕ) → StatusIs setup before after status → before.source.bytes ≡ Some bytes → length bytes < 2 ^ 60
    → Faultless before after → (status ≡ wanted) ⊎ IsStopped status → status ≡ wanted
none_stops setup before after status wanted bytes by told few well (inl is) = is
none_stops setup before after status wanted bytes by told few well (inr stopped) = absurd (by.goes_on bytes told few well stopped)

-- with no fault the status is told by the input
pub complete : (setup : Setup) (before after : Outside) (status : ℕ) (bytes : List ℕ) → StatusIs setup before after status → before.source.bytes ≡ Some bytes → length bytes < 2 ^ 60
    → Faultless before after → (IsValidStill setup before.disk bytes → status ≡ 0) × (IsInvalidStill setup before.disk bytes → status ≡ 6)
complete setup before after status bytes by told few well = (
  λ valid. none_stops setup before after status 0 bytes by told few well (by.valid_still bytes told well.by_disk valid),
  λ invalid. none_stops setup before after status 6 bytes by told few well (by.invalid_still bytes told well.by_disk invalid),
)

-- what holds over every disk holds over one that refuses nothing
pub valid_is_still : (setup : Setup) (s : Point) (bytes : List ℕ) → IsValid setup s bytes → IsValidStill setup s bytes
valid_is_still setup s bytes v = record { messages = v.messages; rest = v.rest; requests = v.requests; ends = by_end v.ends }
  where
    by_end : (v.rest ≡ []) ⊎ Closes setup s v.messages → (v.rest ≡ []) ⊎ ClosesStill setup s v.messages
    by_end (inl over) = inl over
    by_end (inr closes) = inr (λ xs last chain still alike o. closes xs last chain alike o)

pub invalid_is_still : (setup : Setup) (s : Point) (bytes : List ℕ) → IsInvalid setup s bytes → IsInvalidStill setup s bytes
invalid_is_still setup s bytes v = record {
  messages = v.messages;
  rest = v.rest;
  requests = v.requests;
  some = v.some;
  none = v.none;
  stay = λ front back e xs last chain still alike. v.stay front back e xs last chain alike;
}
