-- Each reply of a run is well-formed.
use Rattle.std.proofs.Common.{◌≡◌, ◌==◌, ◌||◌, ◌⊎◌, inl, inr, ◌++◌, ℕ, List, [], ◌∷◌, Bool, true, false, cond, Option, None, Some, Result, Ok, Err, IfSome, refl, sym, subst, true≢false, eqb-true}
use Rattle.std.specs.List.{AllByRecursion, list_all}
use Rattle.std.proofs.lemmas.List.{append_cancel_left}
use Rattle.http.specs.Request.{body_of, head_of}
use Rattle.dav_io.specs.Counts.{Rose}
use Rattle.dav_io.specs.declared.failure.NoMemory.{NoMemory}
use Rattle.dav_io.specs.declared.fields.Field.{Field}
use Rattle.dav_core.specs.declared.error.FsError.{FsError}
use Rattle.dav_core.specs.declared.member.Member.{Member}
use Rattle.dav_core.specs.declared.tree.Kind.{Kind}
use Rattle.dav_core.specs.declared.tree.Kind.TheVariants.{Dir, File, Link}
use Rattle.dav_core.specs.declared.method.DavMethod.{DavMethod}
use Rattle.dav_core.specs.DavPath.{WebPath, last_name, link_of, shown as shown_text, type_of_last, is_printable}
use Rattle.dav_core.specs.World.{World}
use Rattle.dav_model.specs.declared.answer.Answer.{Answer}
use Rattle.dav_model.specs.declared.answer.Answer.TheVariants.{Done}
use Rattle.dav_model.specs.declared.sent.Sent.{Sent}
use Rattle.dav_model.specs.declared.sent.Sent.TheVariants.{Unsatisfied}
use Rattle.dav_model.specs.declared.step.Step.{Step}
use Rattle.dav_model.specs.declared.step.Step.TheVariants.{Request, Poll, Abandon, Purge, Turn}
use Rattle.dav_model.specs.declared.target.Target.{Target}
use Rattle.dav_model.specs.declared.target.Target.TheVariants.{At, Methods, Refused, Writes}
use Rattle.dav_model.specs.Allowing.{allowing}
use Rattle.dav_model.specs.Bodies.{Part, Polls}
use Rattle.dav_model.specs.Conditions.{Fields, Asked, fields_of}
use Rattle.dav_model.specs.Due.{Due, Query, IsHead, IsRight, IsSpoiled, due, due_course, due_kind, due_listed, due_looked, due_opened, due_sent, file, index_path, known, page, query, refused, to_slash}
use Rattle.dav_model.specs.Head.{IsFileHead, IsSent, Reply, Stood, address_of, directed, is_get, is_set, is_well_known, redirected, refusal, sent_of, well_known, with_slash}
use Rattle.dav_model.specs.Play.{Playing, PlayedOn, Plays, Replies, Stage, Stands}
use Rattle.dav_model.specs.Rules.{Knowledge, Rules}
use Rattle.dav_model.specs.Shown.{Could, CouldShow, CouldStand, Shown}
use Rattle.dav_model.specs.Trail.{Move, Point, answers_of, target_of}
use Rattle.dav_core.specs.declared.method.DavMethod.TheVariants as writing
use Rattle.dav_model.specs.Written.{IsWriteReply, halt_statuses, made, own_statuses, silent}
use Rattle.dav_model.specs.WellFormed.{IsWellFormed, IsWellFormedAnswer, gate_statuses, is_among, reply_names, reply_statuses, right_statuses}
use Rattle.dav_model.proofs.Courses.{course_holds}
use Rattle.dav_model.proofs.FieldValues.{address_fits, date_fits, link_fits, tag_fits, type_fits}
use Rattle.dav_model.proofs.GateStatuses.{gate_listed}
use Rattle.dav_model.proofs.RightReplies.{right_listed}
use Rattle.dav_model.proofs.WellFormedReplies.{HasSome, allowing_some, ascend_some, each_some, known_some, made_some, page_some, redirect_some, refusal_some, sent_some}

-- ---- statuses

-- What holds of each number of a list holds of one that is among them.
pub among_all : (P : ℕ → Type 0) (ns : List ℕ) → AllByRecursion P ns → (n : ℕ) → is_among n ns ≡ true → P n
among_all P [] all n e = absurd (true≢false (sym e))
among_all P (m ∷ ns) (p, all) n e = by_first (m == n) refl (among_all P ns all n) e
  where
    by_first : (b : Bool) → (m == n) ≡ b → (is_among n ns ≡ true → P n) → (b || is_among n ns) ≡ true → P n
    by_first true same rest e = subst P (eqb-true m n same) p
    by_first false other rest e = rest e

abbrev IsListed : ℕ → Type 0
IsListed status = is_among status reply_statuses ≡ true

right_is_listed : (status : ℕ) → is_among status right_statuses ≡ true → IsListed status
right_is_listed status e = among_all IsListed right_statuses (refl, (refl, (refl, (refl, (refl, (refl, (refl, (refl, (refl, tt))))))))) status e

gate_is_listed : (status : ℕ) → is_among status gate_statuses ≡ true → IsListed status
gate_is_listed status e = among_all IsListed gate_statuses (refl, (refl, (refl, (refl, (refl, (refl, (refl, tt))))))) status e

-- ---- fields

abbrev InOrder : Reply → Type 0
InOrder reply = HasSome reply_names reply.fields

of_reply : (reply other : Reply) → reply ≡ other → InOrder other → InOrder reply
of_reply reply other is fits = subst InOrder (sym is) fits

sent_fits : (method : DavMethod) (path : WebPath) (stood : Stood) (sent : Sent) (reply : Reply) → CouldStand stood → IsSent method path stood sent reply → InOrder reply
sent_fits method path stood sent reply could (date, dated, is) = of_reply reply _ is
    (sent_some (is_get method) (type_of_last (last_name path.names)) stood.len stood.tag date sent (type_fits (last_name path.names)) (tag_fits stood.tag could.tag)
    (date_fits stood.modified date dated))

-- the address that a client may be sent to
abbrev PrintableWhere : Option (List ℕ) → Type 0
PrintableWhere address = IfSome address (λ text. list_all is_printable text ≡ true)

address_printable : (b : Bool) (address : Option (List ℕ)) → PrintableWhere address → PrintableWhere (cond b address None)
address_printable true address printable = printable
address_printable false address printable = tt

-- What is due of a file could stand there.
abbrev IsFit : Due → Type 0
IsFit known = Unit {0}
IsFit (refused status close) = Unit {0}
IsFit (to_slash path) = Unit {0}
IsFit (file path stood) = CouldStand stood
IsFit (page dir members) = Unit {0}

opened_fit : (path : WebPath) (found : Result Stood FsError) → Could CouldStand found → IsFit (due_opened path found)
opened_fit path (Err e) could = tt
opened_fit path (Ok stood) could = by_kind stood.kind
  where
    by_kind : (kind : Kind) → IsFit (due_sent kind path stood)
    by_kind Dir = tt
    by_kind File = could
    by_kind Link = tt

listed_fit : (path : WebPath) (found : Result (List Member) FsError) → IsFit (due_listed path found)
listed_fit path (Err e) = tt
listed_fit path (Ok members) = tt

kind_fit : (shown : Shown) (q : Query) (kind : Kind) → CouldShow shown → IsFit (due_kind shown q kind)
kind_fit shown q kind could =
    course_holds q (λ c. IsFit (due_course shown q.path c)) (record {
      directs = tt;
      lists = listed_fit q.path (shown.listed q.path);
      unlisted = tt;
      unnamed = tt;
      opens = record { path = at q.path; index = λ slash name set. at (index_path q.path name) };
    }) kind
  where
    at : (path : WebPath) → IsFit (due_opened path (shown.opened path))
    at path = opened_fit path (shown.opened path) (could.opened path)

looked_fit : (shown : Shown) (q : Query) (found : Result Stood FsError) → CouldShow shown → IsFit (due_looked shown q found)
looked_fit shown q (Err e) could = tt
looked_fit shown q (Ok stood) could = kind_fit shown q stood.kind could

if_fit : (b : Bool) (c d : Due) → IsFit c → IsFit d → IsFit (cond b c d)
if_fit true c d p q = p
if_fit false c d p q = q

due_fit : (shown : Shown) (q : Query) → CouldShow shown → IsFit (due shown q)
due_fit shown q could =
    if_fit (is_well_known q.settings q.method q.path) known (due_looked shown q (shown.looked q.path)) tt (looked_fit shown q (shown.looked q.path) could)

refusal_fits : (reply : Reply) (fields : Fields) (status : ℕ) (close : Bool) → reply ≡ refusal fields status close → InOrder reply
refusal_fits reply fields status close is = of_reply reply (refusal fields status close) is (refusal_some fields status close)

head_fits : (q : Query) (d : Due) (reply : Reply) → IsFit d → IsHead q d reply → InOrder reply
head_fits q known reply fit is = of_reply reply well_known is known_some
head_fits q (refused status close) reply fit is = refusal_fits reply q.fields status close is
head_fits q (to_slash path) reply fit is = of_reply reply (directed path) is
    (redirect_some (link_of (shown_text (with_slash path))) None None (link_fits (shown_text (with_slash path))) tt tt)
head_fits q (file path stood) reply could is =
    by_address (address_of q.settings stood) (address_printable (is_set q.settings.redirect) stood.address could.address) is
  where
    by_address : (address : Option (List ℕ)) → PrintableWhere address → IsFileHead address q.method q.fields path stood reply → InOrder reply
    by_address (Some address) printable (date, dated, is) = of_reply reply (redirected address stood.tag date) is
        (redirect_some address stood.tag date (address_fits address printable) (tag_fits stood.tag could.tag) (date_fits stood.modified date dated))
    by_address None printable is = sent_fits q.method path stood (sent_of q.method q.fields stood) reply could is
head_fits q (page dir members) reply fit is = subst (HasSome reply_names) (sym is.fields) page_some

spoiled_fits : (q : Query) (d : Due) (reply : Reply) → IsFit d → IsSpoiled q d reply → InOrder reply
spoiled_fits q known reply fit is = absurd is
spoiled_fits q (refused status close) reply fit is = refusal_fits reply q.fields 500 false is
spoiled_fits q (to_slash path) reply fit is = refusal_fits reply q.fields 500 false is
spoiled_fits q (file path stood) reply could (inl is) = refusal_fits reply q.fields 500 false is
spoiled_fits q (file path stood) reply could (inr is) = sent_fits q.method path stood Unsatisfied reply could is.sent
spoiled_fits q (page dir members) reply fit (inl is) = refusal_fits reply q.fields 500 false is
spoiled_fits q (page dir members) reply fit (inr is) = subst (HasSome reply_names) (sym is.fields) page_some

right_fits : (q : Query) (shown : Shown) (rose : Type 0) (reply : Reply) → CouldShow shown → IsRight q shown rose reply → InOrder reply
right_fits q shown rose reply could (inl is) = head_fits q (due shown q) reply (due_fit shown q could) is
right_fits q shown rose reply could (inr (is, r)) = spoiled_fits q (due shown q) reply (due_fit shown q could) is

-- ---- replies

well_formed : (status : ℕ) (fields : List Field) → IsListed status → HasSome reply_names fields → IsWellFormed status fields
well_formed status fields listed some = record { listed = listed; ascend = ascend_some fields some; each = each_some fields some }

or_failed : (rose : Type 0) (status : ℕ) → (is_among status right_statuses ≡ true) ⊎ ((status ≡ 500) × rose) → IsListed status
or_failed rose status (inl listed) = right_is_listed status listed
or_failed rose status (inr (is, r)) = subst IsListed (sym is) refl

pub right_well_formed : (q : Query) (shown : Shown) (rose : Type 0) (reply : Reply) → CouldShow shown → IsRight q shown rose reply → IsWellFormed reply.status reply.fields
right_well_formed q shown rose reply could right =
    well_formed reply.status reply.fields (or_failed rose reply.status (right_listed q shown rose reply could right)) (right_fits q shown rose reply could right)

-- what the gates refuse
pub gate_well_formed : (rules : Rules) (request : Asked) (status : ℕ) (close : Bool) → target_of rules request ≡ Refused status close
    → (is_among status gate_statuses ≡ true) × IsWellFormed status (refusal (fields_of request) status close).fields
gate_well_formed rules request status close is =
    let listed = gate_listed rules.settings true (head_of request) (body_of request) status close is in
    (listed, well_formed status (refusal (fields_of request) status close).fields (gate_is_listed status listed) (refusal_some (fields_of request) status close))

own_are_listed : (method : DavMethod) → AllByRecursion IsListed (own_statuses method)
own_are_listed writing.Put = (refl, (refl, tt))
own_are_listed writing.MkCol = (refl, (refl, tt))
own_are_listed writing.Delete = (refl, tt)
own_are_listed writing.Copy = (refl, (refl, (refl, tt)))
own_are_listed writing.Move = (refl, (refl, (refl, tt)))
own_are_listed other = tt

halt_is_listed : (method : DavMethod) (status : ℕ) → is_among status (halt_statuses method) ≡ true → IsListed status
halt_is_listed method status e = among_all IsListed (halt_statuses method) (refl, (refl, (refl, (refl, own_are_listed method)))) status e

-- what a request that writes is answered
write_well_formed : (method : DavMethod) (prefix : List ℕ) (fields : Fields) (rose : Type 0) (reply : Reply) → IsWriteReply method prefix fields rose reply → IsWellFormed reply.status reply.fields
write_well_formed method prefix fields rose reply (inl (is, may)) = subst (λ (r : Reply). IsWellFormed r.status r.fields) (sym is) (well_formed 201 made.fields refl made_some)
write_well_formed method prefix fields rose reply (inr (inl (is, may))) = subst (λ (r : Reply). IsWellFormed r.status r.fields) (sym is) (well_formed 204 silent.fields refl tt)
write_well_formed method prefix fields rose reply (inr (inr halted)) = subst (λ (r : Reply). IsWellFormed r.status r.fields) (sym halted.is)
    (well_formed halted.status (refusal fields halted.status halted.close).fields (halt_is_listed method halted.status halted.listed) (refusal_some fields halted.status halted.close))

replies_well_formed : (rules : Rules) (request : Asked) (k : Knowledge) (s t : Point) (reply : Reply) → Replies (target_of rules request) rules k s t (fields_of request) reply
    → IsWellFormed reply.status reply.fields
replies_well_formed rules request k s t reply replies = by_target (target_of rules request) refl replies
  where
    by_target : (target : Target) → target_of rules request ≡ target → Replies target rules k s t (fields_of request) reply → IsWellFormed reply.status reply.fields
    by_target (Refused status close) e is = subst (λ (r : Reply). IsWellFormed r.status r.fields) (sym is) (gate_well_formed rules request status close e).1
    by_target Methods e is = subst (λ (r : Reply). IsWellFormed r.status r.fields) (sym is)
        (well_formed 200 (allowing rules.settings.allow false).fields refl (allowing_some rules.settings.allow false))
    by_target (Writes method path) e is = write_well_formed method rules.settings.prefix (fields_of request) (Rose s.faults t.faults) reply is
    by_target (At method path) e reads =
        right_well_formed (query rules.settings (fields_of request) method path) reads.shown (Rose s.faults t.faults) reply reads.could reads.right

-- ---- runs

done_well : (answer : Answer) → answer ≡ Done → IsWellFormedAnswer answer
done_well answer is = subst IsWellFormedAnswer (sym is) tt

-- A poll is answered by no reply.
poll_well : (told : Option World) (whole : Bool) (most before after : ℕ) (left : List Part) (answer : Answer) (rest : List Part)
    → Polls told whole most (Rose before after) left answer rest → IsWellFormedAnswer answer
poll_well told whole most before after [] answer rest (is, none) = subst IsWellFormedAnswer (sym is) tt
poll_well told whole most before after (part ∷ parts) answer rest (inl (piece, is, gives)) = subst IsWellFormedAnswer (sym is) tt
poll_well told whole most before after (part ∷ parts) answer rest (inr (is, none, rose)) = subst IsWellFormedAnswer (sym is) tt

step_well : (p : Playing) (s t : Point) (step : Step) (answer : Answer) (q : Playing) → Stands p s t step answer q → IsWellFormedAnswer answer
step_well p s t (Request request now) answer q heard =
    subst IsWellFormedAnswer (sym heard.is) (replies_well_formed p.rules request p.knows s t heard.reply heard.right)
step_well p s t (Poll body) answer q polled = poll_well _ _ _ _ _ (p.left body) answer polled.rest polled.gives
step_well p s t (Abandon body) answer q stands = done_well answer stands.0.is
step_well p s t (Purge now) answer q stands = done_well answer stands.0
step_well p s t Turn answer q stands = done_well answer stands.0.is

pub plays_well : (p : Playing) (s : Point) (moves : List Move) (q : Playing) → Plays p s moves q → AllByRecursion IsWellFormedAnswer (answers_of moves)
plays_well p s [] q plays = tt
plays_well p s (move ∷ moves) q (m, stands, held, plays) = (step_well p s move.to move.step move.answer m stands, plays_well m move.to moves q plays)

pub run_well : (a b : Stage) (steps : List Step) (old added : List Answer) (result : Result Unit NoMemory) → PlayedOn a steps old (old ++ added) result b
    → AllByRecursion IsWellFormedAnswer added
run_well a b steps old added result on =
    let same : added ≡ answers_of on.trail = append_cancel_left old added (answers_of on.trail) on.played.answers_are in
    subst (AllByRecursion IsWellFormedAnswer) (sym same) (plays_well a.playing a.at on.trail on.played.player on.played.answered)
