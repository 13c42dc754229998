-- Steps that are made one after the other are played along one trail.
use Rattle.std.proofs.Common.{◌≡◌, ℕ, List, [], ◌∷◌, Result, Ok, Err, IfOk, OnErr, refl, subst}
use Rattle.dav_io.specs.declared.clock.Moment.{Moment}
use Rattle.dav_io.specs.declared.failure.NoMemory.{NoMemory}
use Rattle.dav_model.specs.declared.step.Step.{Step}
use Rattle.dav_model.specs.declared.step.Step.TheVariants.{Request, Poll, Purge, Turn}
use Rattle.dav_model.specs.declared.answer.Answer.{Answer}
use Rattle.dav_model.specs.declared.answer.Answer.TheVariants.{Done, Reply as Replied}
use Rattle.dav_model.specs.Conditions.{Asked}
use Rattle.dav_model.specs.Trail.{Move}
use Rattle.dav_model.specs.Play.{AreFull, Played, Stage, Stepped, TellsOpen}
use Rattle.dav_model.proofs.JoiningLemmas.{none_played, one_more_played, refused_played}
use Rattle.dav_handler.specs.Replies.{answered}
use Rattle.dav_handler.specs.declared.replies.Reply.{Reply}
use Rattle.dav_serving.specs.Stages.{PlayedOn, RefusedAt}
use Rattle.dav_serving.proofs.PlayedByTree.{played_along}

-- a step and its answer
abbrev pub move : Step → Answer → Stage → Move
move step answer b = record { step = step; answer = answer; to = b.at }

-- A turn and a purge are answered in one way.
pub turn_done : (a b : Stage) (answer : Answer) → Stepped a Turn (Ok answer) b → answer ≡ Done
turn_done a b answer stepped = stepped.0.0.is

pub purge_done : (a b : Stage) (now : Moment) (answer : Answer) → Stepped a (Purge now) (Ok answer) b → answer ≡ Done
purge_done a b now answer stepped = stepped.0.0

module _ (a : Stage) (held : TellsOpen a.at a.playing) (full : AreFull a.playing) where
  -- no step so far
  none : Played [] a [] [] [] (Ok tt) a
  none = none_played a [] [] held full refl

  -- the first step was answered
  one : (b : Stage) (x : Step) (answer : Answer) → Stepped a x (Ok answer) b → Played (move x answer b ∷ []) a (x ∷ []) [] (answer ∷ []) (Ok tt) b
  one b x answer stepped = one_more_played [] a a b [] x [] [] answer none stepped

  -- two steps
  two : (m b : Stage) (x y : Step) (first second : Answer) → Stepped a x (Ok first) m → Stepped m y (Ok second) b
      → Played (move x first m ∷ move y second b ∷ []) a (x ∷ y ∷ []) [] (first ∷ second ∷ []) (Ok tt) b
  two m b x y first second before stepped = one_more_played (move x first m ∷ []) a m b (x ∷ []) y [] (first ∷ []) second (one m x first before) stepped

  -- three steps
  three : (m n b : Stage) (x y z : Step) (first second third : Answer) → Stepped a x (Ok first) m → Stepped m y (Ok second) n → Stepped n z (Ok third) b
      → Played (move x first m ∷ move y second n ∷ move z third b ∷ []) a (x ∷ y ∷ z ∷ []) [] (first ∷ second ∷ third ∷ []) (Ok tt) b
  three m n b x y z first second third before between stepped =
      one_more_played (move x first m ∷ move y second n ∷ []) a n b (x ∷ y ∷ []) z [] (first ∷ second ∷ []) third (two m n x y first second before between) stepped

  -- the first step was refused memory, or the second, or the third
  pub refused_first : (b : Stage) (x : Step) (later : List Step) (e : NoMemory) → Stepped a x (Err e) b → RefusedAt a (x ∷ later) b
  refused_first b x later e stepped = ([], played_along [] a b (x ∷ later) [] (Err e) (refused_played [] a a b [] x later [] [] e none stepped))

  pub refused_second : (m b : Stage) (x y : Step) (later : List Step) (first : Answer) (e : NoMemory) → Stepped a x (Ok first) m → Stepped m y (Err e) b
      → RefusedAt a (x ∷ y ∷ later) b
  refused_second m b x y later first e before stepped = (
    first ∷ [],
    played_along (move x first m ∷ []) a b (x ∷ y ∷ later) (first ∷ []) (Err e)
        (refused_played (move x first m ∷ []) a m b (x ∷ []) y later [] (first ∷ []) e (one m x first before) stepped),
  )

  pub refused_third : (m n b : Stage) (x y z : Step) (first second : Answer) (e : NoMemory) → Stepped a x (Ok first) m → Stepped m y (Ok second) n → Stepped n z (Err e) b
      → RefusedAt a (x ∷ y ∷ z ∷ []) b
  refused_third m n b x y z first second e before between stepped = (
    first ∷ second ∷ [],
    played_along (move x first m ∷ move y second n ∷ []) a b (x ∷ y ∷ z ∷ []) (first ∷ second ∷ []) (Err e)
        (refused_played (move x first m ∷ move y second n ∷ []) a n b (x ∷ y ∷ []) z [] [] (first ∷ second ∷ []) e (two m n x y first second before between) stepped),
  )

  -- a turn and a poll
  poll_played : (m b : Stage) (body : ℕ) (first answer : Answer) → Stepped a Turn (Ok first) m → Stepped m (Poll body) (Ok answer) b
      → PlayedOn a (Turn ∷ Poll body ∷ []) (Done ∷ answer ∷ []) (Ok tt) b
  poll_played m b body first answer turned polled =
      subst (λ x. PlayedOn a (Turn ∷ Poll body ∷ []) (x ∷ answer ∷ []) (Ok tt) b) (turn_done a m first turned)
      (played_along _ a b (Turn ∷ Poll body ∷ []) (first ∷ answer ∷ []) (Ok tt) (two m b Turn (Poll body) first answer turned polled))

  -- a turn and a poll, of which the poll may be refused memory
  pub poll_is_played : (m b : Stage) (body : ℕ) (first : Answer) (result : Result Answer NoMemory) → Stepped a Turn (Ok first) m → Stepped m (Poll body) result b
      → IfOk result (λ answer. PlayedOn a (Turn ∷ Poll body ∷ []) (Done ∷ answer ∷ []) (Ok tt) b) × OnErr result (RefusedAt a (Turn ∷ Poll body ∷ []) b)
  poll_is_played m b body first (Ok answer) turned polled = (poll_played m b body first answer turned polled, tt)
  poll_is_played m b body first (Err e) turned polled = (tt, refused_second m b Turn (Poll body) [] first e turned polled)

  -- a turn, a purge and a request
  request_played : (m n b : Stage) (now : Moment) (request : Asked) (first second reply : Answer) → Stepped a Turn (Ok first) m → Stepped m (Purge now) (Ok second) n
      → Stepped n (Request request now) (Ok reply) b
      → PlayedOn a (Turn ∷ Purge now ∷ Request request now ∷ []) (Done ∷ Done ∷ reply ∷ []) (Ok tt) b
  request_played m n b now request first second reply turned purged asked =
      let steps : List Step = Turn ∷ Purge now ∷ Request request now ∷ [] in
      subst (λ x. PlayedOn a steps (Done ∷ x ∷ reply ∷ []) (Ok tt) b) (purge_done m n now second purged)
      (subst (λ x. PlayedOn a steps (x ∷ second ∷ reply ∷ []) (Ok tt) b) (turn_done a m first turned)
      (played_along _ a b steps (first ∷ second ∷ reply ∷ []) (Ok tt) (three m n b Turn (Purge now) (Request request now) first second reply turned purged asked)))

  -- of which the request may be refused memory
  pub request_is_played : (m n b : Stage) (now : Moment) (request : Asked) (first second : Answer) (result : Result Reply NoMemory) → Stepped a Turn (Ok first) m → Stepped m (Purge now) (Ok second) n
      → Stepped n (Request request now) (answered result) b
      → IfOk result (λ r. PlayedOn a (Turn ∷ Purge now ∷ Request request now ∷ []) (Done ∷ Done ∷ Replied r.status r.headers r.body ∷ []) (Ok tt) b)
      × OnErr result (RefusedAt a (Turn ∷ Purge now ∷ Request request now ∷ []) b)
  request_is_played m n b now request first second (Ok reply) turned purged asked = (request_played m n b now request first second _ turned purged asked, tt)
  request_is_played m n b now request first second (Err e) turned purged asked =
      (tt, refused_third m n b Turn (Purge now) (Request request now) first second e turned purged asked)
