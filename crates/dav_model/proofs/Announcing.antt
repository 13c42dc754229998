-- Of the laws on what a head announces.
use Rattle.std.proofs.Common.{Bool, true, false, refl, sym, ap, subst, ◌∙◌, inl, inr, arith}
use Rattle.dav_io.specs.Counts.{Rose}
use Rattle.std.specs.Prelude.{Option, Some, None, ◌⊎◌, ◌≡◌, ◌≤◌, ◌+◌, ◌-◌, ◌==◌, ◌&&◌, not, ℕ, List, [], ◌∷◌, length, cond, codes}
use Rattle.std.proofs.lemmas.Bool.{eqb-true}
use Rattle.dav_core.specs.DavPath.{WebPath, last_name, type_of_last}
use Rattle.dav_core.specs.World.{World}
use Rattle.dav_core.specs.declared.etag.ETag.{ETag}
use Rattle.dav_core.specs.declared.etag_list.EtagList.{EtagList}
use Rattle.dav_core.specs.declared.time.FileTime.{FileTime}
use Rattle.dav_core.specs.declared.method.DavMethod.TheVariants.{Get, Head}
use Rattle.dav_model.specs.declared.answer.Answer.TheVariants.{Piece, End, Broken}
use Rattle.dav_model.specs.declared.ranges.Ranges.{Ranges}
use Rattle.dav_model.specs.declared.ranges.Ranges.TheVariants.{Whole, Unsatisfiable, Parts}
use Rattle.dav_model.specs.declared.sent.Sent.{Sent}
use Rattle.dav_model.specs.declared.sent.Sent.TheVariants.{All, Alone, Unsatisfied, One, Several}
use Rattle.dav_model.specs.Announced.{PolledToEnd, bytes_in, bare}
use Rattle.dav_model.specs.Bodies.{Part, bytes_left, text, slice, Polls}
use Rattle.dav_model.specs.Conditions.{Fields, condition, repeated, is_refused, list_in, date_in, first_bytes, ranges_are_heard, strong}
use Rattle.dav_model.specs.Head.{Reply, Stood, IsSent, announced_fields, sent_by, sent_length, sent_of, sent_ranges, sent_reply, sent_status}
use Rattle.dav_model.specs.Slices.{ranges}

moved_left : (b : Bool) (number start count n : ℕ) (parts : List Part) → ((count - n == 0) ≡ b) → n ≤ count
    → n + bytes_left (cond b parts (slice number (start + n) (count - n) ∷ parts)) ≡ count + bytes_left parts
moved_left true number start count n parts e within =
    let none : count - n ≡ 0 = eqb-true (count - n) 0 e in let all : n + bytes_left parts ≡ count + bytes_left parts = omega arith in all
moved_left false number start count n parts e within =
    let all : n + (count - n + bytes_left parts) ≡ count + bytes_left parts = omega arith in all

same_piece : (a b : List ℕ) → Piece a ≡ Piece b → a ≡ b
same_piece a b e = cc

-- a body that has something left isn't at its end
unended : (part : Part) (parts : List Part) (rest : List Part) (told : Option World) (whole : Bool) (most before after : ℕ)
    → Polls told whole most (Rose before after) (part ∷ parts) End rest → ⊥
unended part parts rest told whole most before after (inl (p, e, gives)) = let f : End ≡ Piece p = e in cc
unended part parts rest told whole most before after (inr (e, none, rose)) = let f : End ≡ Broken = e in cc

-- a poll gives what is left less
poll_bytes : (part : Part) (parts : List Part) (piece : List ℕ) (rest : List Part) (told : Option World) (whole : Bool) (most before after : ℕ)
    → Polls told whole most (Rose before after) (part ∷ parts) (Piece piece) rest → length piece + bytes_left rest ≡ bytes_left (part ∷ parts)
poll_bytes part parts piece rest told whole most before after (inr (e, none, rose)) = let f : Piece piece ≡ Broken = e in cc
poll_bytes (text bytes) parts piece rest told whole most before after (inl (p, e, (is, are))) =
    rw are (ap (λ x. length x + bytes_left parts) (same_piece piece p e ∙ is))
poll_bytes (slice number start count) parts piece rest told whole most before after (inl (p, e, (some, within, are, right))) =
    rw are (rw (same_piece piece p e) (moved_left _ number start count (length p) parts refl within))

-- the pieces of a body that is polled to its end are what it has left
pub polled_bytes : (left : List Part) (pieces : List (List ℕ)) → PolledToEnd left pieces → bytes_in pieces ≡ bytes_left left
polled_bytes [] [] p = refl
polled_bytes [] (piece ∷ pieces) (rest, poll, more) = let e : Piece piece ≡ End = poll.polls.0 in cc
polled_bytes (part ∷ parts) [] (rest, poll) = absurd (unended part parts rest poll.told poll.whole poll.most poll.before poll.after poll.polls)
polled_bytes (part ∷ parts) (piece ∷ pieces) (rest, poll, more) =
    ap (λ n. length piece + n) (polled_bytes rest pieces more) ∙ poll_bytes part parts piece rest poll.told poll.whole poll.most poll.before poll.after poll.polls

-- the statuses that a precondition gives
abbrev Given : Option ℕ → Type 0
Given None = Unit {0}
Given (Some status) = (status ≡ 412) ⊎ (status ≡ 304)

given_or : (b : Bool) (other : Option ℕ) → Given other → Given (cond b (Some 412) other)
given_or true other g = inl refl
given_or false other g = g

given_304 : (b : Bool) → Given (cond b (Some 304) None)
given_304 true = inr refl
given_304 false = tt

given_repeated : (list : Option EtagList) (date : Option ℕ) (tag : Option ETag) (time : Option FileTime) → Given (repeated Get list date true tag time)
given_repeated (Some list) date tag time = given_304 _
given_repeated None (Some date) tag time = given_304 _
given_repeated None None tag time = tt

abbrev KnownStatus : Sent → Type 0
KnownStatus All = Unit {0}
KnownStatus (Alone status) = (status ≡ 412) ⊎ (status ≡ 304)
KnownStatus Unsatisfied = Unit {0}
KnownStatus (One part) = Unit {0}
KnownStatus (Several parts) = Unit {0}

known_ranges : (r : Ranges) → KnownStatus (sent_ranges r)
known_ranges Whole = tt
known_ranges Unsatisfiable = tt
known_ranges (Parts []) = tt
known_ranges (Parts (part ∷ [])) = tt
known_ranges (Parts (part ∷ next ∷ parts)) = tt

known_sent : (given : Option ℕ) (on : Bool) (range : Option (List ℕ)) (len : ℕ) → Given given → KnownStatus (sent_by given on range len)
known_sent (Some status) on range len g = g
known_sent None false range len g = tt
known_sent None true range len g = known_ranges (ranges range len)

given_condition : (fields : Fields) (tag : Option ETag) (time : Option FileTime) → Given (condition Get fields true tag time)
given_condition fields tag time =
    given_or (is_refused (list_in fields (codes "if-match")) (date_in fields (codes "if-unmodified-since")) true tag time)
    (repeated Get (list_in fields (codes "if-none-match")) (date_in fields (codes "if-modified-since")) true tag time)
    (given_repeated (list_in fields (codes "if-none-match")) (date_in fields (codes "if-modified-since")) tag time)

known_get : (fields : Fields) (stood : Stood) → KnownStatus (sent_of Get fields stood)
known_get fields stood =
    known_sent (condition Get fields true (strong stood.tag) stood.modified) (ranges_are_heard fields (strong stood.tag) stood.modified)
    (first_bytes fields (codes "range")) stood.len (given_condition fields (strong stood.tag) stood.modified)

-- The statuses of which a HEAD has the fields of the GET.
abbrev pub IsShared : ℕ → Type 0
IsShared status = (status ≡ 200) ⊎ ((status ≡ 206) ⊎ (status ≡ 304))

not_412 : (status : ℕ) → status ≡ 412 → IsShared status → ⊥
not_412 status e (inl f) = omega arith
not_412 status e (inr (inl f)) = omega arith
not_412 status e (inr (inr f)) = omega arith

not_416 : IsShared 416 → ⊥
not_416 (inl f) = omega arith
not_416 (inr (inl f)) = omega arith
not_416 (inr (inr f)) = omega arith

lengths_same : (len : ℕ) (sent : Sent) → KnownStatus sent → IsShared (sent_status sent) → sent_length true len sent ≡ sent_length false len sent
lengths_same len All known shared = refl
lengths_same len (Alone status) (inl e) shared = absurd (not_412 status e shared)
lengths_same len (Alone status) (inr e) shared = ap (λ z. Some (cond (true && not (z == 304)) 0 len)) e
lengths_same len Unsatisfied known shared = absurd (not_416 shared)
lengths_same len (One part) known shared = refl
lengths_same len (Several parts) known shared = refl

repeated_same : (list : Option EtagList) (date : Option ℕ) (stands : Bool) (tag : Option ETag) (time : Option FileTime) → repeated Get list date stands tag time ≡ repeated Head list date stands tag time
repeated_same (Some list) date stands tag time = refl
repeated_same None (Some date) stands tag time = refl
repeated_same None None stands tag time = refl

sent_same : (fields : Fields) (stood : Stood) → sent_of Get fields stood ≡ sent_of Head fields stood
sent_same fields stood = ap (λ z. sent_by (cond (is_refused (list_in fields (codes "if-match")) (date_in fields (codes "if-unmodified-since")) true (strong stood.tag) stood.modified) (Some 412) z)
    (ranges_are_heard fields (strong stood.tag) stood.modified) (first_bytes fields (codes "range")) stood.len)
    (repeated_same (list_in fields (codes "if-none-match")) (date_in fields (codes "if-modified-since")) true (strong stood.tag) stood.modified)

-- the head of a file, by its length
abbrev headed : List ℕ → Stood → Option (List ℕ) → Sent → Option ℕ → Reply
headed type stood date sent announced = record {
  status = sent_status sent;
  fields = announced_fields type stood.len stood.tag date sent announced;
  parts = [];
}

pub head_of_get : (fields : Fields) (path : WebPath) (stood : Stood) (reply : Reply) → IsSent Get path stood (sent_of Get fields stood) reply → IsShared reply.status
    → IsSent Head path stood (sent_of Head fields stood) (bare reply)
head_of_get fields path stood reply (date, shown, is) shared =
    let type = type_of_last (last_name path.names) in
    let sent = sent_of Get fields stood in
    let here : IsShared (sent_status sent) = subst (λ (r : Reply). IsShared r.status) is shared in
    let same = lengths_same stood.len sent (known_get fields stood) here in
    (date, shown, ap bare is ∙ (ap (headed type stood date sent) same ∙ ap (sent_reply false type stood date) (sent_same fields stood)))

known_shared : (sent : Sent) → KnownStatus sent → (sent_status sent ≡ 412 → ⊥) → (sent_status sent ≡ 416 → ⊥) → IsShared (sent_status sent)
known_shared All known no_412 no_416 = inl refl
known_shared (Alone status) (inl e) no_412 no_416 = absurd (no_412 e)
known_shared (Alone status) (inr e) no_412 no_416 = inr (inr e)
known_shared Unsatisfied known no_412 no_416 = absurd (no_416 refl)
known_shared (One part) known no_412 no_416 = inr (inl refl)
known_shared (Several parts) known no_412 no_416 = inr (inl refl)

-- the statuses of a file's answer but 412 and 416
pub shared_status : (fields : Fields) (path : WebPath) (stood : Stood) (reply : Reply) → IsSent Get path stood (sent_of Get fields stood) reply
    → (reply.status ≡ 412 → ⊥) → (reply.status ≡ 416 → ⊥) → IsShared reply.status
shared_status fields path stood reply (date, dated, is) no_412 no_416 =
    let same : sent_status (sent_of Get fields stood) ≡ reply.status = sym (ap (λ (r : Reply). r.status) is) in
    subst IsShared same (known_shared (sent_of Get fields stood) (known_get fields stood) (λ e. no_412 (sym same ∙ e)) (λ e. no_416 (sym same ∙ e)))
