-- A right answer is framed: its `content-length` is that of its body.
use Rattle.std.proofs.Common.{◌≡◌, ◌&&◌, ◌==◌, ◌+◌, ℕ, Bool, true, false, not, cond, List, [], ◌∷◌, Option, None, Some, refl, sym, ap, subst, ◌∙◌, arith}
use Rattle.std.specs.Prelude.{codes, decimal}
use Rattle.std.proofs.lemmas.Bool.{eqb-true}
use Rattle.std.proofs.lemmas.Fmt.{decimal_digit}
use Rattle.dav_core.specs.DavPath.{WebPath, last_name, type_of_last}
use Rattle.dav_core.specs.declared.method.DavMethod.{DavMethod}
use Rattle.dav_model.specs.declared.answer.Answer.TheVariants.{Piece, End}
use Rattle.dav_model.specs.declared.sent.Sent.{Sent}
use Rattle.dav_model.specs.declared.sent.Sent.TheVariants.{All, Alone, Unsatisfied, One, Several}
use Rattle.dav_model.specs.declared.target.Target.{Target}
use Rattle.dav_model.specs.declared.target.Target.TheVariants.{At}
use Rattle.dav_page.specs.declared.row.PageRow.{PageRow}
use Rattle.dav_model.specs.Announced.{IsFramed, IsFramedBy, PolledToEnd, bytes_in, length_is_own, value_of}
use Rattle.dav_model.specs.Bodies.{Part, bytes_left, slice}
use Rattle.dav_model.specs.Conditions.{Fields}
use Rattle.dav_model.specs.Head.{Reply, Stood, IsSent, directed, is_get, is_uncached, redirected, refusal, refused_with, sent_reply, sent_status, well_known}
use Rattle.dav_model.specs.Indexes.{IsIndexBody, IsIndexReply}
use Rattle.dav_model.proofs.Announcing.{polled_bytes}

-- what has no parts, and announces none
pub framed_empty : (b : Bool) (reply : Reply) → reply.parts ≡ [] → value_of (codes "content-length") reply.fields ≡ Some (codes "0") → IsFramedBy b reply
framed_empty true reply none zero = λ value is.
    let same : value ≡ codes "0" = (let e : Some value ≡ Some (codes "0") = sym is ∙ zero in cc) in
    same ∙ (sym (decimal_digit 0 (omega arith)) ∙ ap (λ p. decimal (bytes_left p)) (sym none))
framed_empty false reply none zero = none

framed_refused : (b uncached : Bool) (status : ℕ) (close : Bool) → IsFramedBy b (refused_with uncached status close)
framed_refused b true status true = framed_empty b (refused_with true status true) refl refl
framed_refused b true status false = framed_empty b (refused_with true status false) refl refl
framed_refused b false status true = framed_empty b (refused_with false status true) refl refl
framed_refused b false status false = framed_empty b (refused_with false status false) refl refl

pub framed_redirect : (b : Bool) (address : List ℕ) (tag date : Option (List ℕ)) → IsFramedBy b (redirected address tag date)
framed_redirect b address tag date = framed_empty b (redirected address tag date) refl refl

pub framed_well_known : (b : Bool) → IsFramedBy b well_known
framed_well_known b = framed_empty b well_known refl refl

-- bytes of a file, if there are some
where_bytes : (b : Bool) (number start count : ℕ) → ((count == 0) ≡ b) → bytes_left (cond b [] (slice number start count ∷ [])) ≡ count
where_bytes true number start count e = sym (eqb-true count 0 e)
where_bytes false number start count e = let all : count + 0 ≡ count = omega arith in all

counted : (count : ℕ) (number start : ℕ) (value : List ℕ) → Some (decimal count) ≡ Some value → value ≡ decimal (bytes_left (cond (count == 0) [] (slice number start count ∷ [])))
counted count number start value e =
    let same : value ≡ decimal count = cc in
    same ∙ ap decimal (sym (where_bytes (count == 0) number start count refl))

zero : (none value : List ℕ) → Some none ≡ Some value → value ≡ none
zero none value e = cc

-- what is sent of a file
pub framed_sent : (b : Bool) (type : List ℕ) (stood : Stood) (date : Option (List ℕ)) (sent : Sent) → IsFramedBy (b && not (sent_status sent == 304)) (sent_reply b type stood date sent)
framed_sent false type stood date sent = refl
framed_sent true type stood date All = λ value is. counted stood.len stood.number 0 value is
framed_sent true type stood date (Alone status) = by_status (status == 304) refl
  where
    by_status : (c : Bool) → (status == 304) ≡ c → IsFramedBy (true && not (status == 304)) (sent_reply true type stood date (Alone status))
    by_status true e = rw e refl
    by_status false e = rw e (zero (decimal 0))
framed_sent true type stood date Unsatisfied = zero (decimal 0)
framed_sent true type stood date (One part) = λ value is. counted part.count stood.number part.start value is
framed_sent true type stood date (Several parts) = by_fields stood.tag date refl
  where
    by_fields : (tag seen : Option (List ℕ)) → stood.tag ≡ tag → (value : List ℕ) → value_of (codes "content-length") (sent_reply true type (record stood { tag = tag }) seen (Several parts)).fields ≡ Some value
        → value ≡ decimal (bytes_left (sent_reply true type stood date (Several parts)).parts)
    by_fields None None e value is = let f : None ≡ Some value = is in cc
    by_fields None (Some d) e value is = let f : None ≡ Some value = is in cc
    by_fields (Some t) None e value is = let f : None ≡ Some value = is in cc
    by_fields (Some t) (Some d) e value is = let f : None ≡ Some value = is in cc

-- what is sent of a file is framed
pub sent_framed : (method : DavMethod) (path : WebPath) (stood : Stood) (sent : Sent) (reply : Reply) → IsSent method path stood sent reply → IsFramed (At method path) reply
sent_framed method path stood sent reply (date, dated, is) =
    subst (λ (r : Reply). IsFramed (At method path) r) (sym is) (framed_sent (is_get method) (type_of_last (last_name path.names)) stood date sent)

-- and so are the other answers
pub refused_framed : (target : Target) (reply : Reply) (fields : Fields) (status : ℕ) (close : Bool) → reply ≡ refusal fields status close → IsFramed target reply
refused_framed target reply fields status close is =
    subst (λ (r : Reply). IsFramed target r) (sym is) (framed_refused (length_is_own target status) (is_uncached fields status) status close)

pub directed_framed : (target : Target) (path : WebPath) → IsFramed target (directed path)
directed_framed target path = framed_empty (length_is_own target 302) (directed path) refl refl

-- A page of a directory announces no length, and a HEAD of it has no body.
pub index_framed : (method : DavMethod) (path dir : WebPath) (Rows : List PageRow → Type 0) (reply : Reply) → IsIndexReply (is_get method) dir Rows reply → IsFramed (At method path) reply
index_framed method path dir Rows reply is =
    subst (λ n. IsFramedBy (is_get method && not (n == 304)) reply) (sym is.status) (by (is_get method) is.parts)
  where
    by : (gives : Bool) → IsIndexBody gives dir Rows reply.parts → IsFramedBy (gives && not (200 == 304)) reply
    by true parts = λ value says. (let f : None ≡ Some value = sym (ap (value_of (codes "content-length")) is.fields) ∙ says in cc)
    by false none = none

-- a body gives as many bytes as are announced
pub given_length : (target : Target) (reply : Reply) (value : List ℕ) (pieces : List (List ℕ)) → IsFramed target reply → length_is_own target reply.status ≡ true
    → value_of (codes "content-length") reply.fields ≡ Some value → PolledToEnd reply.parts pieces → value ≡ decimal (bytes_in pieces)
given_length target reply value pieces framed own says polled =
    let by : IsFramedBy true reply = subst (λ b. IsFramedBy b reply) own framed in
    by value says ∙ ap decimal (sym (polled_bytes reply.parts pieces polled))

pub none_polled : (parts : List Part) (pieces : List (List ℕ)) → parts ≡ [] → PolledToEnd parts pieces → pieces ≡ []
none_polled [] [] e polled = refl
none_polled [] (piece ∷ pieces) e (rest, poll, more) = let f : Piece piece ≡ End = poll.polls.0 in cc
none_polled (part ∷ parts) pieces e polled = cc

-- and none where it has none
pub gives_none : (target : Target) (reply : Reply) (pieces : List (List ℕ)) → IsFramed target reply → length_is_own target reply.status ≡ false → PolledToEnd reply.parts pieces → pieces ≡ []
gives_none target reply pieces framed other polled = none_polled reply.parts pieces (subst (λ b. IsFramedBy b reply) other framed) polled
