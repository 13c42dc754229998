-- Where the disk refused nothing, no answer of a run is a failure.
use Rattle.std.proofs.Common.{◌≡◌, ◌≤◌, ◌<◌, inl, inr, ◌++◌, ℕ, List, [], ◌∷◌, Bool, true, Option, Result, Ok, Err, refl, sym, ap, subst, ◌∙◌, arith}
use Rattle.std.specs.List.{AllByRecursion}
use Rattle.std.proofs.lemmas.List.{append_cancel_left}
use Rattle.dav_io.specs.Counts.{RefusedNothing, Rose, greatest}
use Rattle.dav_io.specs.declared.failure.NoMemory.{NoMemory}
use Rattle.dav_core.specs.World.{World}
use Rattle.dav_core.specs.declared.method.DavMethod.{DavMethod}
use Rattle.dav_model.specs.declared.answer.Answer.{Answer}
use Rattle.dav_model.specs.declared.answer.Answer.TheVariants.{Done}
use Rattle.dav_model.specs.declared.step.Step.{Step}
use Rattle.dav_model.specs.declared.step.Step.TheVariants.{Request, Poll, Abandon, Purge, Turn}
use Rattle.dav_model.specs.declared.target.Target.{Target}
use Rattle.dav_model.specs.declared.target.Target.TheVariants.{At, Methods, Refused, Writes}
use Rattle.dav_model.specs.Bodies.{Breaks, Part, Polls, slice, text}
use Rattle.dav_model.specs.Conditions.{Asked, Fields, fields_of}
use Rattle.dav_model.specs.Due.{query}
use Rattle.dav_model.specs.Head.{Reply}
use Rattle.dav_model.specs.Play.{Ends, Playing, PlayedOn, Plays, Replies, Stage, Stands, Stepped}
use Rattle.dav_model.specs.Rules.{Knowledge, Rules}
use Rattle.dav_model.specs.Trail.{Move, Point, answers_of, last_of, target_of}
use Rattle.dav_model.specs.WellFormed.{gate_statuses, is_among}
use Rattle.dav_model.specs.Written.{IsWriteReply}
use Rattle.dav_model.proofs.RightReplies.{failed_by_fault}
use Rattle.dav_model.proofs.WellFormedRuns.{among_all, gate_well_formed}
use Rattle.dav_fault_laws.specs.Whole.{FailByFaults, IsWhole}

-- ---- answers

abbrev IsOther : ℕ → Type 0
IsOther status = status ≡ 500 → ⊥

gate_other : (status : ℕ) → is_among status gate_statuses ≡ true → IsOther status
gate_other status listed =
    among_all IsOther gate_statuses (
      (λ e. omega (arith, e)),
      (
        (λ e. omega (arith, e)),
        (
          (λ e. omega (arith, e)),
          (
            (λ e. omega (arith, e)),
            (
              (λ e. omega (arith, e)),
              ((λ e. omega (arith, e)), ((λ e. omega (arith, e)), tt)),
            ),
          ),
        ),
      ),
    )
    status listed

write_other : (method : DavMethod) (prefix : List ℕ) (fields : Fields) (rose : Type 0) (reply : Reply) → IsWriteReply method prefix fields rose reply → (rose → ⊥)
    → IsOther reply.status
write_other method prefix fields rose reply (inl (is, may)) none e = let f : 201 ≡ 500 = sym (ap (λ (r : Reply). r.status) is) ∙ e in omega (arith, f)
write_other method prefix fields rose reply (inr (inl (is, may))) none e = let f : 204 ≡ 500 = sym (ap (λ (r : Reply). r.status) is) ∙ e in omega (arith, f)
write_other method prefix fields rose reply (inr (inr halted)) none e = none (halted.failed (sym (ap (λ (r : Reply). r.status) halted.is) ∙ e))

reply_other : (rules : Rules) (request : Asked) (k : Knowledge) (s t : Point) (reply : Reply) → Replies (target_of rules request) rules k s t (fields_of request) reply
    → (Rose s.faults t.faults → ⊥) → IsOther reply.status
reply_other rules request k s t reply replies none = by_target (target_of rules request) refl replies
  where
    by_target : (target : Target) → target_of rules request ≡ target → Replies target rules k s t (fields_of request) reply → IsOther reply.status
    by_target (Refused status close) e is = subst (λ (r : Reply). IsOther r.status) (sym is) (gate_other status (gate_well_formed rules request status close e).0)
    by_target Methods e is = subst (λ (r : Reply). IsOther r.status) (sym is) (λ failed. omega (arith, failed))
    by_target (Writes method path) e is = write_other method rules.settings.prefix (fields_of request) (Rose s.faults t.faults) reply is none
    by_target (At method path) e reads = λ failed.
        none (failed_by_fault (query rules.settings (fields_of request) method path) reads.shown (Rose s.faults t.faults) reply reads.could reads.right failed)

done_whole : (answer : Answer) → answer ≡ Done → IsWhole answer
done_whole answer is = subst IsWhole (sym is) tt

poll_whole : (told : Option World) (whole : Bool) (most before after : ℕ) (left : List Part) (answer : Answer) (rest : List Part)
    → Polls told whole most (Rose before after) left answer rest → (Rose before after → ⊥) → IsWhole answer
poll_whole told whole most before after [] answer rest (is, nothing) none = subst IsWhole (sym is) tt
poll_whole told whole most before after (part ∷ parts) answer rest (inl (piece, is, gives)) none = subst IsWhole (sym is) tt
poll_whole told whole most before after (part ∷ parts) answer rest (inr (is, nothing, breaks)) none = by_part part breaks
  where
    by_part : (p : Part) → Breaks p (Rose before after) → IsWhole answer
    by_part (text bytes) b = absurd b
    by_part (slice number start count) b = absurd (none b)

step_whole : (p : Playing) (s t : Point) (step : Step) (answer : Answer) (q : Playing) → Stands p s t step answer q → (Rose s.faults t.faults → ⊥) → IsWhole answer
step_whole p s t (Request request now) answer q heard none =
    subst IsWhole (sym heard.is) (reply_other p.rules request p.knows s t heard.reply heard.right none)
step_whole p s t (Poll body) answer q polled none = poll_whole _ _ _ _ _ (p.left body) answer polled.rest polled.gives none
step_whole p s t (Abandon body) answer q stands none = done_whole answer stands.0.is
step_whole p s t (Purge now) answer q stands none = done_whole answer stands.0
step_whole p s t Turn answer q stands none = done_whole answer stands.0.is

-- ---- counts

step_goes : (p : Playing) (s t : Point) (step : Step) (answer : Answer) (q : Playing) → Stands p s t step answer q → s.faults ≤ t.faults
step_goes p s t (Request request now) answer q heard = heard.goes.faults
step_goes p s t (Poll body) answer q polled = polled.goes.faults
step_goes p s t (Abandon body) answer q stands = stands.0.goes.faults
step_goes p s t (Purge now) answer q stands = let same : t.faults ≡ s.faults = ap (λ (x : Point). x.faults) stands.1 in omega (arith, same)
step_goes p s t Turn answer q stands = stands.0.goes.faults

-- the count of faults doesn't fall along a trail
pub trail_goes : (p : Playing) (s : Point) (moves : List Move) (q : Playing) → Plays p s moves q → s.faults ≤ (last_of s moves).faults
trail_goes p s [] q plays = omega arith
trail_goes p s (move ∷ moves) q (m, stands, held, plays) =
    omega (arith, step_goes p s move.to move.step move.answer m stands, trail_goes m move.to moves q plays)

-- nor at a step that was refused memory
ends_go : (result : Result Unit NoMemory) (rest : List Step) (m b : Stage) → Ends result rest m b → m.at.faults ≤ b.at.faults
ends_go (Ok x) [] m b is = let same : b.at.faults ≡ m.at.faults = ap (λ (s : Stage). s.at.faults) is in omega (arith, same)
ends_go (Ok x) (step ∷ steps) m b is = absurd is
ends_go (Err e) [] m b is = absurd is
ends_go (Err e) (step ∷ steps) m b refuses = refuses.goes.faults

none_rose : (s t end : ℕ) → s ≡ end → t ≤ end → end < greatest → Rose s t → ⊥
none_rose s t end same le room (inl more) = omega (arith, same, le, more)
none_rose s t end same le room (inr big) = omega (arith, le, room, big)

-- ---- runs

plays_whole : (p : Playing) (s : Point) (moves : List Move) (q : Playing) (end : ℕ) → Plays p s moves q → (last_of s moves).faults ≤ end → s.faults ≡ end → end < greatest
    → AllByRecursion IsWhole (answers_of moves)
plays_whole p s [] q end plays le same room = tt
plays_whole p s (move ∷ moves) q end (m, stands, held, plays) le same room =
    let more : move.to.faults ≤ (last_of move.to moves).faults = trail_goes m move.to moves q plays in
    let up : s.faults ≤ move.to.faults = step_goes p s move.to move.step move.answer m stands in
    let here : move.to.faults ≡ end = omega (arith, more, up, le, same) in (
      step_whole p s move.to move.step move.answer m stands (none_rose s.faults move.to.faults end same (omega (arith, here)) room),
      plays_whole m move.to moves q end plays le here room,
    )

-- the count doesn't fall from the entry of a run to its exit
pub run_goes : (a b : Stage) (steps : List Step) (old new : List Answer) (result : Result Unit NoMemory) → PlayedOn a steps old new result b → a.at.faults ≤ b.at.faults
run_goes a b steps old new result on =
    let first = trail_goes a.playing a.at on.trail on.played.player on.played.answered in
    let last = ends_go result on.played.rest (record { at = last_of a.at on.trail; playing = on.played.player }) b on.played.ends in
    omega (arith, first, last)

pub run_whole : (a b : Stage) (steps : List Step) (old added : List Answer) (result : Result Unit NoMemory) → PlayedOn a steps old (old ++ added) result b
    → RefusedNothing a.at.faults b.at.faults → AllByRecursion IsWhole added
run_whole a b steps old added result on none =
    let same : added ≡ answers_of on.trail = append_cancel_left old added (answers_of on.trail) on.played.answers_are in
    let last = ends_go result on.played.rest (record { at = last_of a.at on.trail; playing = on.played.player }) b on.played.ends in
    subst (AllByRecursion IsWhole) (sym same) (plays_whole a.playing a.at on.trail on.played.player b.at.faults on.played.answered last none.same none.room)

-- in every run
each_by_faults : (p : Playing) (s : Point) (moves : List Move) (q : Playing) → Plays p s moves q → FailByFaults s moves
each_by_faults p s [] q plays = tt
each_by_faults p s (move ∷ moves) q (m, stands, held, plays) = (
  step_whole p s move.to move.step move.answer m stands,
  each_by_faults m move.to moves q plays,
)

pub run_by_faults : (a b : Stage) (steps : List Step) (old new : List Answer) (result : Result Unit NoMemory) (on : PlayedOn a steps old new result b)
    → FailByFaults a.at on.trail
run_by_faults a b steps old new result on = each_by_faults a.playing a.at on.trail on.played.player on.played.answered

-- ---- where the count is nought

none_at_nought : (s t : ℕ) → t ≤ 0 → Rose s t → ⊥
none_at_nought s t nought (inl more) = omega (arith, nought, more)
none_at_nought s t nought (inr big) = omega (arith, nought, big)

-- behind a step
pub step_whole_at_nought : (a b : Stage) (step : Step) (answer : Answer) → Stepped a step (Ok answer) b → b.at.faults ≤ 0 → IsWhole answer
step_whole_at_nought a b step answer (stands, held) nought =
    step_whole a.playing a.at b.at step answer b.playing stands (none_at_nought a.at.faults b.at.faults nought)

-- at the exit of a run
pub run_whole_at_nought : (a b : Stage) (steps : List Step) (old added : List Answer) (result : Result Unit NoMemory) → PlayedOn a steps old (old ++ added) result b
    → b.at.faults ≤ 0 → AllByRecursion IsWhole added
run_whole_at_nought a b steps old added result on nought =
    let goes = run_goes a b steps old (old ++ added) result on in
    run_whole a b steps old added result on (record { same = omega (arith, goes, nought); room = omega (arith, nought) })

-- behind the first steps of a trail
front_goes : (p : Playing) (s : Point) (some later : List Move) (q : Playing) → Plays p s (some ++ later) q → s.faults ≤ (last_of s some).faults
front_goes p s [] later q plays = omega arith
front_goes p s (move ∷ moves) later q (m, stands, held, plays) =
    omega (arith, step_goes p s move.to move.step move.answer m stands, front_goes m move.to moves later q plays)

front_whole : (p : Playing) (s : Point) (some later : List Move) (q : Playing) → Plays p s (some ++ later) q → (last_of s some).faults ≤ 0
    → AllByRecursion IsWhole (answers_of some)
front_whole p s [] later q plays nought = tt
front_whole p s (move ∷ moves) later q (m, stands, held, plays) nought =
    let goes : move.to.faults ≤ (last_of move.to moves).faults = front_goes m move.to moves later q plays in
    let here : move.to.faults ≤ 0 = omega (arith, goes, nought) in (
      step_whole p s move.to move.step move.answer m stands (none_at_nought s.faults move.to.faults here),
      front_whole m move.to moves later q plays nought,
    )

pub some_whole_at_nought : (a b : Stage) (steps : List Step) (old new : List Answer) (result : Result Unit NoMemory) (on : PlayedOn a steps old new result b)
    (some later : List Move) → on.trail ≡ some ++ later → (last_of a.at some).faults ≤ 0 → AllByRecursion IsWhole (answers_of some)
some_whole_at_nought a b steps old new result on some later are nought =
    let plays = subst (λ (moves : List Move). Plays a.playing a.at moves on.played.player) are on.played.answered in
    front_whole a.playing a.at some later on.played.player plays nought
