-- What a played exchange gives of its body.
use Rattle.std.proofs.Common.{◌≡◌, ◌++◌, ℕ, List, [], ◌∷◌, true, false, Ok, Some, sym, ap, subst, ◌∙◌, append-nil, codes, decimal}
use Rattle.dav_io.specs.Counts.{Rose}
use Rattle.dav_core.specs.World.{put}
use Rattle.dav_core.proofs.UnchangedLemmas.{put_same}
use Rattle.dav_model.specs.declared.step.Step.TheVariants.{Request, Poll, Purge, Turn}
use Rattle.dav_model.specs.declared.answer.Answer.{Answer}
use Rattle.dav_model.specs.declared.answer.Answer.TheVariants.{Reply as Replied, Piece, End, Done}
use Rattle.dav_model.specs.Announced.{IsPoll, PolledToEnd, bytes_in, length_is_own, value_of}
use Rattle.dav_model.specs.Bodies.{Part, Polls, read_size_of}
use Rattle.dav_model.specs.Head.{Reply}
use Rattle.dav_model.specs.Play.{Answered, Playing, Plays, Polled, Replies, Stage, Stands}
use Rattle.dav_model.specs.Conditions.{fields_of}
use Rattle.dav_model.specs.Rules.{Rules, Knowledge}
use Rattle.dav_model.specs.Trail.{Move, Point, answers_of as answers_along, steps_of as steps_along, target_of}
use Rattle.dav_model.proofs.Framing.{given_length, gives_none}
use Rattle.dav_model.proofs.JoiningLemmas.{over}
use Rattle.dav_model.proofs.RightReplies.{replies_framed}
use Rattle.dav_serving.specs.Exchange.{Exchange, begun_answers, piece_steps, piece_answers, steps_of, answers_of}
use Rattle.dav_serving.specs.Stages.{PlayedOn}

-- a body that was polled: it gave these pieces, and then this answer
abbrev pub PolledPieces : List Part → List (List ℕ) → Answer → Type 0
PolledPieces left [] last = (rest : List Part) × IsPoll left last rest
PolledPieces left (piece ∷ pieces) last = (rest : List Part) × IsPoll left (Piece piece) rest × PolledPieces rest pieces last

-- a turn and a poll of a player
turn_polls : (p m n : Playing) (s : Point) (t u : Move) (body : ℕ) (answer : Answer) → t.step ≡ Turn → u.step ≡ Poll body → u.answer ≡ answer → Stands p s t.to t.step t.answer m
    → Stands m t.to u.to u.step u.answer n → IsPoll (p.left body) answer (n.left body)
turn_polls p m n s t u body answer turn poll is first second =
    let turned = subst (λ step. Stands p s t.to step t.answer m) turn first in
    let polled : Polled m t.to u.to body answer n = subst (λ a. Stands m t.to u.to (Poll body) a n) is (subst (λ step. Stands m t.to u.to step u.answer n) poll second) in
    let most = read_size_of m.rules.settings.read_buf_size in
    let left : n.left body ≡ polled.rest = ap (λ (z : Playing). z.left body) polled.gets.is ∙ put_same body polled.rest m.left in
    record {
      told = t.to.told;
      whole = t.to.whole;
      most = most;
      before = t.to.faults;
      after = u.to.faults;
      polls = subst (Polls t.to.told t.to.whole most (Rose t.to.faults u.to.faults) (p.left body) answer) (sym left)
          (subst (λ (z : Playing). Polls t.to.told t.to.whole most (Rose t.to.faults u.to.faults) (z.left body) answer polled.rest) turned.3 polled.gives);
    }

-- turns and polls to the last answer
pub polled_pieces : (p q : Playing) (s : Point) (body : ℕ) (pieces : List (List ℕ)) (last : Answer) (moves : List Move) → steps_along moves ≡ piece_steps body pieces ++ Turn ∷ Poll body ∷ []
    → answers_along moves ≡ piece_answers pieces ++ Done ∷ last ∷ [] → Plays p s moves q → PolledPieces (p.left body) pieces last
polled_pieces p q s body [] last [] e f plays = cc
polled_pieces p q s body [] last (t ∷ []) e f plays = cc
polled_pieces p q s body [] last (t ∷ u ∷ us) e f (m, first, o, (n, second, o2, more)) = (n.left body, turn_polls p m n s t u body last (cc) (cc) (cc) first second)
polled_pieces p q s body (piece ∷ pieces) last [] e f plays = cc
polled_pieces p q s body (piece ∷ pieces) last (t ∷ []) e f plays = cc
polled_pieces p q s body (piece ∷ pieces) last (t ∷ u ∷ us) e f (m, first, o, (n, second, o2, more)) = (
  n.left body,
  turn_polls p m n s t u body (Piece piece) (cc) (cc) (cc) first second,
  polled_pieces n q u.to body pieces last us (cc) (cc) more,
)

-- The reply of an exchange between two points, and what its body gave, up to the last answer.
pub record Given (rules : Rules) (x : Exchange) (last : Answer) : Type 0 where
  pub reply : Reply
  pub knows : Knowledge
  pub before : Point
  pub after : Point
  pub status_is : x.status ≡ reply.status
  pub fields_are : x.fields ≡ reply.fields
  pub replies : Replies (target_of rules x.request) rules knows before after (fields_of x.request) reply
  pub polled : PolledPieces reply.parts x.pieces last

given_by : (p q : Playing) (s : Point) (x : Exchange) (last : Answer) (moves : List Move)
    → steps_along moves ≡ steps_of x → answers_along moves ≡ begun_answers x ++ Done ∷ last ∷ [] → Plays p s moves q → Given p.rules x last
given_by p q s x last [] e f plays = cc
given_by p q s x last (t ∷ []) e f plays = cc
given_by p q s x last (t ∷ u ∷ []) e f plays = cc
given_by p q s x last (t ∷ u ∷ (v ∷ moves)) e f (m, first, o, (n, second, o2, (k, third, o3, more))) =
    let turn : t.step ≡ Turn = cc in
    let purge : u.step ≡ Purge x.now = cc in
    let asks : v.step ≡ Request x.request x.now = cc in
    let are : v.answer ≡ Replied x.status x.fields x.body = cc in
    let turned = subst (λ step. Stands p s t.to step t.answer m) turn first in
    let purged = subst (λ step. Stands m t.to u.to step u.answer n) purge second in
    let heard : Answered n u.to v.to x.request v.answer k = subst (λ step. Stands n u.to v.to step v.answer k) asks third in
    let same : Replied x.status x.fields x.body ≡ Replied heard.reply.status heard.reply.fields n.replies = sym are ∙ heard.is in
    let body : x.body ≡ n.replies = cc in
    let rules : n.rules ≡ p.rules = ap (λ (z : Playing). z.rules) purged.2.1 ∙ ap (λ (z : Playing). z.rules) turned.3 in
    let left : k.left x.body ≡ heard.reply.parts = ap (λ (z : Playing). z.left x.body) heard.gets.is ∙ subst (λ z. put n.replies heard.reply.parts n.left z ≡ heard.reply.parts) (sym body) (put_same n.replies heard.reply.parts n.left) in
    record {
      reply = heard.reply;
      knows = n.knows;
      before = u.to;
      after = v.to;
      status_is = cc;
      fields_are = cc;
      replies = subst (λ z. Replies (target_of z x.request) z n.knows u.to v.to (fields_of x.request) heard.reply) rules heard.right;
      polled = subst (λ z. PolledPieces z x.pieces last) left (polled_pieces k q v.to x.body x.pieces last moves (cc) (cc) more);
    }

-- what an exchange was given whose steps were all played
pub given_of : (a b : Stage) (x : Exchange) (last : Answer) → PlayedOn a (steps_of x) (begun_answers x ++ Done ∷ last ∷ []) (Ok tt) b → Given a.playing.rules x last
given_of a b x last r =
    let steps = sym (r.played.steps_are ∙ ap (λ z. steps_along r.trail ++ z) (over r.played.rest _ b r.played.ends).none ∙ append-nil (steps_along r.trail)) in
    given_by a.playing r.played.player a.at x last r.trail steps (sym r.played.answers_are) r.played.answered

-- to its end
pub polled_to_end : (left : List Part) (pieces : List (List ℕ)) → PolledPieces left pieces End → PolledToEnd left pieces
polled_to_end left [] polled = polled
polled_to_end left (piece ∷ pieces) (rest, poll, more) = (rest, poll, polled_to_end rest pieces more)

module _ (a b : Stage) (x : Exchange) (r : PlayedOn a (steps_of x) (answers_of x) (Ok tt) b) where
  -- an exchange has the announced length
  pub announced_length : (value : List ℕ) → length_is_own (target_of a.playing.rules x.request) x.status ≡ true → value_of (codes "content-length") x.fields ≡ Some value
      → value ≡ decimal (bytes_in x.pieces)
  announced_length value own says =
      let g = given_of a b x End r in
      let target = target_of a.playing.rules x.request in
      given_length target g.reply value x.pieces (replies_framed target a.playing.rules g.knows g.before g.after _ g.reply g.replies) (ap (length_is_own target) (sym g.status_is) ∙ own)
      (ap (value_of (codes "content-length")) (sym g.fields_are) ∙ says) (polled_to_end g.reply.parts x.pieces g.polled)

  -- and none where it has no body
  pub announced_none : length_is_own (target_of a.playing.rules x.request) x.status ≡ false → x.pieces ≡ []
  announced_none other =
      let g = given_of a b x End r in
      let target = target_of a.playing.rules x.request in
      gives_none target g.reply x.pieces (replies_framed target a.playing.rules g.knows g.before g.after _ g.reply g.replies) (ap (length_is_own target) (sym g.status_is) ∙ other)
      (polled_to_end g.reply.parts x.pieces g.polled)
