-- The moves of a trail that answers a request and two polls.
use Rattle.std.proofs.Common.{◌≡◌, ℕ, List, [], ◌∷◌, ◌++◌, Result, Ok, refl, sym, ap, subst, ◌∙◌, append-nil}
use Rattle.dav_io.specs.declared.clock.Moment.{Moment}
use Rattle.dav_io.specs.declared.failure.NoMemory.{NoMemory}
use Rattle.dav_model.specs.declared.answer.Answer.{Answer}
use Rattle.dav_model.specs.declared.step.Step.{Step}
use Rattle.dav_model.specs.declared.step.Step.TheVariants.{Request, Poll, Abandon, Purge, Turn}
use Rattle.dav_model.specs.Play.{Answered, EachByTree, PlayedOn, Playing, Plays, Polled, RepliesByTree, Stage, Stands, StepByTree, points_from}
use Rattle.http.specs.Request.{body_of}
use Rattle.dav_model.specs.Conditions.{Asked, fields_of}
use Rattle.dav_model.specs.Trail.{Move, Point, answers_of, last_of, steps_of, target_of}
use Rattle.dav_model.specs.Valid.{Valid}
use Rattle.dav_model.proofs.JoiningLemmas.{over}
use Rattle.dav_bench.specs.Asking.{steps_for}

-- A request was answered, and under `V` by the tree.
pub record ByTree (p : Playing) (s t : Point) (request : Asked) (answer : Answer) (q : Playing) (V : Type 0) : Type 0 where
  pub stands : Answered p s t request answer q
  pub tree : V → RepliesByTree (target_of p.rules request) p.rules s t (fields_of request) (body_of request) stands.reply

by_request : (step : Step) (request : Asked) (now : Moment) (p : Playing) (s t : Point) (answer : Answer) (q : Playing) (V : Type 0) → step ≡ Request request now
    → (st : Stands p s t step answer q) → (V → StepByTree p s t step answer q st) → ByTree p s t request answer q V
by_request (Request r n) request now p s t answer q V e st tree =
    let same : r ≡ request = cc in
    subst (λ (x : Asked). ByTree p s t x answer q V) same (record { stands = st; tree = tree })
by_request (Poll body) request now p s t answer q V e st tree = cc
by_request (Abandon body) request now p s t answer q V e st tree = cc
by_request (Purge n) request now p s t answer q V e st tree = cc
by_request Turn request now p s t answer q V e st tree = cc

by_poll : (step : Step) (body : ℕ) (p : Playing) (s t : Point) (answer : Answer) (q : Playing) → step ≡ Poll body → Stands p s t step answer q → Polled p s t body answer q
by_poll step body p s t answer q e st = subst (λ (x : Step). Stands p s t x answer q) e st

-- what a request and two polls were answered
pub record ThreeMoves (a : Stage) (request : Asked) (body : ℕ) (old new : List Answer) (b : Stage) : Type 0 where
  pub t : Point
  pub u : Point
  pub p : Playing
  pub q : Playing
  pub reply : Answer
  pub piece : Answer
  pub end : Answer
  pub answers : new ≡ old ++ reply ∷ piece ∷ end ∷ []
  pub asked : ByTree a.playing a.at t request reply p (Valid a.playing.rules a.playing.knows (a.at ∷ t ∷ u ∷ b.at ∷ []))
  pub first : Polled p t u body piece q
  pub second : Polled q u b.at body end b.playing

-- a trail that has a step
record Begins (trail : List Move) (step : Step) (steps : List Step) : Type 0 where
  move : Move
  moves : List Move
  is : trail ≡ move ∷ moves
  here : move.step ≡ step
  after : steps ≡ steps_of moves

begins : (trail : List Move) (step : Step) (steps : List Step) → (step ∷ steps) ≡ steps_of trail → Begins trail step steps
begins [] step steps e = cc
begins (x ∷ xs) step steps e = record { move = x; moves = xs; is = refl; here = cc; after = cc }

none_more : (trail : List Move) → [] ≡ steps_of trail → trail ≡ []
none_more [] e = refl
none_more (x ∷ xs) e = cc

three : (x y z : Move) (a : Stage) (request : Asked) (now : Moment) (body : ℕ) (old new : List Answer) (player : Playing) (b : Stage)
    → x.step ≡ Request request now → y.step ≡ Poll body → z.step ≡ Poll body
    → new ≡ old ++ answers_of (x ∷ y ∷ z ∷ [])
    → b ≡ record { at = z.to; playing = player }
    → (plays : Plays a.playing a.at (x ∷ y ∷ z ∷ []) player)
    → (Valid a.playing.rules a.playing.knows (points_from a (x ∷ y ∷ z ∷ [])) → EachByTree a.playing a.at (x ∷ y ∷ z ∷ []) player plays)
    → ThreeMoves a request body old new b
three x y z a request now body old new player b e f g answers ends (p, st, held, (q, sty, heldy, (r, stz, heldz, last))) tree =
    let end : b ≡ record { at = z.to; playing = r } = ends ∙ ap (λ (m : Playing). record { at = z.to; playing = m }) last in
    subst (ThreeMoves a request body old new) (sym end) (record {
      t = x.to;
      u = y.to;
      p = p;
      q = q;
      reply = x.answer;
      piece = y.answer;
      end = z.answer;
      answers = answers;
      asked = by_request x.step request now a.playing a.at x.to x.answer p (Valid a.playing.rules a.playing.knows (a.at ∷ x.to ∷ y.to ∷ z.to ∷ [])) e st (λ valid. (tree valid).0);
      first = by_poll y.step body p x.to y.to y.answer q f sty;
      second = by_poll z.step body q y.to z.to z.answer r g stz;
    })

-- a run along a trail
record Ran (trail : List Move) (a : Stage) (old new : List Answer) (player : Playing) (b : Stage) : Type 0 where
  answers : new ≡ old ++ answers_of trail
  ends : b ≡ record { at = last_of a.at trail; playing = player }
  plays : Plays a.playing a.at trail player
  tree : Valid a.playing.rules a.playing.knows (points_from a trail) → EachByTree a.playing a.at trail player plays

three_ran : (x y z : Move) (a : Stage) (request : Asked) (now : Moment) (body : ℕ) (old new : List Answer) (player : Playing) (b : Stage)
    → x.step ≡ Request request now → y.step ≡ Poll body → z.step ≡ Poll body → Ran (x ∷ y ∷ z ∷ []) a old new player b → ThreeMoves a request body old new b
three_ran x y z a request now body old new player b e f g r = three x y z a request now body old new player b e f g r.answers r.ends r.plays r.tree

by_steps : (trail : List Move) (a : Stage) (request : Asked) (now : Moment) (body : ℕ) (old new : List Answer) (player : Playing) (b : Stage)
    → steps_for request now body ≡ steps_of trail → Ran trail a old new player b → ThreeMoves a request body old new b
by_steps trail a request now body old new player b e ran =
    let f : Begins trail (Request request now) (Poll body ∷ Poll body ∷ []) = begins trail (Request request now) (Poll body ∷ Poll body ∷ []) e in
    let g : Begins f.moves (Poll body) (Poll body ∷ []) = begins f.moves (Poll body) (Poll body ∷ []) f.after in
    let h : Begins g.moves (Poll body) [] = begins g.moves (Poll body) [] g.after in
    let none : h.moves ≡ [] = none_more h.moves h.after in
    let is : trail ≡ f.move ∷ g.move ∷ h.move ∷ [] = f.is ∙ ap (λ z. f.move ∷ z) (g.is ∙ ap (λ z. g.move ∷ z) (h.is ∙ ap (λ z. h.move ∷ z) none)) in
    three_ran f.move g.move h.move a request now body old new player b f.here g.here h.here (subst (λ t. Ran t a old new player b) is ran)

went_well : (a : Stage) (request : Asked) (now : Moment) (body : ℕ) (old new : List Answer) (b : Stage) → PlayedOn a (steps_for request now body) old new (Ok tt) b
    → ThreeMoves a request body old new b
went_well a request now body old new b p =
    let m : Stage = record { at = last_of a.at p.trail; playing = p.played.player } in
    let end = over p.played.rest m b p.played.ends in
    by_steps p.trail a request now body old new p.played.player b
    (p.played.steps_are ∙ (ap (λ z. steps_of p.trail ++ z) end.none ∙ append-nil (steps_of p.trail)))
    (record { answers = p.played.answers_are; ends = end.at; plays = p.played.answered; tree = p.headline })

pub three_moves : (a : Stage) (request : Asked) (now : Moment) (body : ℕ) (old new : List Answer) (result : Result Unit NoMemory) (b : Stage)
    → result ≡ Ok tt → PlayedOn a (steps_for request now body) old new result b → ThreeMoves a request body old new b
three_moves a request now body old new result b went played =
    went_well a request now body old new b (subst (λ r. PlayedOn a (steps_for request now body) old new r b) went played)
