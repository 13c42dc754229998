-- An answer to a HEAD, and one with 304, has no pieces.
use Rattle.std.proofs.Common.{◌≡◌, ◌==◌, ◌&&◌, ◌⊎◌, ℕ, List, [], Bool, true, false, cond, not, Option, None, Some, Ok, Err, Result, codes, refl, sym, ap, subst, ◌∙◌, inl, inr}
use Rattle.http.specs.Request.{head_of, body_of}
use Rattle.dav_core.specs.DavPath.{WebPath}
use Rattle.dav_core.specs.Methods.{method_of}
use Rattle.dav_core.specs.declared.method.DavMethod.{DavMethod}
use Rattle.dav_core.specs.declared.method.DavMethod.TheVariants.{Head}
use Rattle.dav_core.specs.declared.parse_error.ParseError.{ParseError}
use Rattle.dav_io.specs.Counts.{Rose}
use Rattle.dav_model.specs.declared.answer.Answer.TheVariants.{End}
use Rattle.dav_model.specs.declared.target.Target.{Target}
use Rattle.dav_model.specs.declared.target.Target.TheVariants.{At, Methods, Refused, Writes}
use Rattle.dav_model.specs.Announced.{PolledToEnd}
use Rattle.dav_model.specs.Conditions.{Fields, Asked, fields_of}
use Rattle.dav_model.specs.Gates.{Bulk, none, some, much, broken, admitted, asked, bulk_of, is_allowed, is_built, or_refused, takes_much, takes_some, unless, weighed, with_method, with_path}
use Rattle.dav_model.specs.Head.{Reply, is_get}
use Rattle.dav_model.specs.Play.{Replies, Stage}
use Rattle.dav_model.specs.Rules.{Rules, Knowledge}
use Rattle.dav_model.specs.Trail.{Point, target_of}
use Rattle.dav_model.proofs.Framing.{gives_none, none_polled}
use Rattle.dav_model.proofs.RightReplies.{replies_framed}
use Rattle.dav_model.proofs.WriteReplies.{write_bare}
use Rattle.dav_serving.specs.Bodies.{IsToHead}
use Rattle.dav_serving.specs.Exchange.{Exchange, steps_of, answers_of}
use Rattle.dav_serving.specs.Stages.{PlayedOn}
use Rattle.dav_serving.proofs.ExchangesAreGiven.{given_of, polled_to_end}

-- what a HEAD asks for
abbrev IsHeads : Target → Type 0
IsHeads (At method path) = method ≡ Head
IsHeads Methods = ⊥
IsHeads (Writes method path) = ⊥
IsHeads (Refused status close) = Unit {0}

heads_path : (found : Result WebPath ParseError) → IsHeads (with_path Head found)
heads_path (Ok path) = refl
heads_path (Err fault) = tt

heads_allowed : (allowed : Bool) (target : Target) → IsHeads target → IsHeads (cond allowed target (Refused 405 true))
heads_allowed true target is = is
heads_allowed false target is = tt

heads_unless : (passes : Bool) (status : ℕ) (close : Bool) (target : Target) → IsHeads target → IsHeads (or_refused None (unless passes status close) target)
heads_unless true status close target is = is
heads_unless false status close target is = tt

heads_or : (passes : Bool) (refused : ℕ) (second : Option Target) (target : Target) → IsHeads (or_refused None second target)
    → IsHeads (or_refused (cond passes None (Some (Refused refused false))) second target)
heads_or true refused second target is = is
heads_or false refused second target is = tt

heads_asked : (method : DavMethod) (path : WebPath) → method ≡ Head → IsHeads (asked method path)
heads_asked method path is = subst (λ (m : DavMethod). IsHeads (asked m path)) (sym is) refl

heads_weighed : (fields : Fields) (bulk : Bulk) (target : Target) → IsHeads target → IsHeads (weighed fields bulk target)
heads_weighed fields bulk (Refused status close) is = tt
heads_weighed fields bulk Methods is = is
heads_weighed fields bulk (Writes method path) is = is
heads_weighed fields none (At method path) is = heads_unless (is_built fields method) 501 true (asked method path) (heads_asked method path is)
heads_weighed fields some (At method path) is =
    heads_or (takes_some method) 415 (unless (is_built fields method) 501 true) (asked method path)
    (heads_unless (is_built fields method) 501 true (asked method path) (heads_asked method path is))
heads_weighed fields much (At method path) is =
    heads_or (takes_much method) 413 (unless (is_built fields method) 501 true) (asked method path)
    (heads_unless (is_built fields method) 501 true (asked method path) (heads_asked method path is))
heads_weighed fields broken (At method path) is = tt

heads_gates : (rules : Rules) (r : Asked) → (head_of r).method ≡ codes "HEAD" → IsHeads (target_of rules r)
heads_gates rules r e =
    heads_weighed (head_of r).headers (bulk_of (body_of r)) (admitted rules.settings true (head_of r))
    (subst (λ z. IsHeads (with_method rules.settings true (head_of r) (method_of z))) (sym e)
    (heads_allowed (is_allowed true rules.settings.allow Head) _ (heads_path _)))

unmodified : (gives : Bool) (status : ℕ) → status ≡ 304 → gives && not (status == 304) ≡ false
unmodified true status e = rw e refl
unmodified false status e = refl

none_by : (target : Target) (rules : Rules) (k : Knowledge) (s t : Point) (fields : Fields) (reply : Reply) (pieces : List (List ℕ)) → Replies target rules k s t fields reply
    → IsHeads target ⊎ (reply.status ≡ 304) → PolledToEnd reply.parts pieces → pieces ≡ []
none_by (Refused status close) rules k s t fields reply pieces replies why polled = none_polled reply.parts pieces (ap (λ (z : Reply). z.parts) replies) polled
none_by Methods rules k s t fields reply pieces replies why polled = none_polled reply.parts pieces (ap (λ (z : Reply). z.parts) replies) polled
none_by (Writes method path) rules k s t fields reply pieces replies why polled =
    none_polled reply.parts pieces (write_bare method rules.settings.prefix fields (Rose s.faults t.faults) reply replies) polled
none_by (At method path) rules k s t fields reply pieces replies (inl head) polled =
    gives_none (At method path) reply pieces (replies_framed (At method path) rules k s t fields reply replies) (ap (λ m. is_get m && not (reply.status == 304)) head) polled
none_by (At method path) rules k s t fields reply pieces replies (inr e) polled =
    gives_none (At method path) reply pieces (replies_framed (At method path) rules k s t fields reply replies) (unmodified (is_get method) reply.status e) polled

why_none : (rules : Rules) (x : Exchange) (status : ℕ) → x.status ≡ status → IsToHead x ⊎ (x.status ≡ 304) → IsHeads (target_of rules x.request) ⊎ (status ≡ 304)
why_none rules x status same (inl head) = inl (heads_gates rules x.request head)
why_none rules x status same (inr e) = inr (sym same ∙ e)

pub gives_nothing : (a b : Stage) (x : Exchange) → PlayedOn a (steps_of x) (answers_of x) (Ok tt) b → IsToHead x ⊎ (x.status ≡ 304) → x.pieces ≡ []
gives_nothing a b x r why =
    let g = given_of a b x End r in
    none_by (target_of a.playing.rules x.request) a.playing.rules g.knows g.before g.after (fields_of x.request) g.reply x.pieces g.replies
    (why_none a.playing.rules x g.reply.status g.status_is why) (polled_to_end g.reply.parts x.pieces g.polled)
