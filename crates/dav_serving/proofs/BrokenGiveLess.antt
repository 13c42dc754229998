-- A body that broke gave less than was announced.
use Rattle.std.proofs.Common.{◌≡◌, ◌≤◌, ◌<◌, ◌+◌, ◌-◌, ◌==◌, ◌++◌, ℕ, List, [], ◌∷◌, Bool, true, false, cond, Ok, Option, length, codes, refl, sym, ap, subst, ◌∙◌, inl, inr, arith}
use Rattle.dav_io.specs.Counts.{Rose}
use Rattle.dav_core.specs.World.{World}
use Rattle.dav_model.specs.declared.answer.Answer.TheVariants.{Piece, End, Broken, Done}
use Rattle.dav_model.specs.Announced.{IsFramedBy, bytes_in, length_is_own, value_of}
use Rattle.dav_model.specs.Bodies.{NoneEmpty, Part, Polls, bytes_left, slice, text}
use Rattle.dav_model.proofs.Nonempty.{rest_full}
use Rattle.dav_serving.specs.Bodies.{Announces, AnnouncesMore}
use Rattle.dav_serving.specs.Exchange.{Exchange, begun_answers, steps_of}
use Rattle.dav_model.specs.Play.{Stage}
use Rattle.dav_model.specs.Trail.{target_of}
use Rattle.dav_model.proofs.RightReplies.{replies_framed, replies_sound}
use Rattle.dav_serving.specs.Stages.{PlayedOn}
use Rattle.dav_serving.proofs.ExchangesAreGiven.{PolledPieces, given_of}

moved_takes : (b : Bool) (number start count n : ℕ) (parts : List Part) → ((count - n == 0) ≡ b) → n ≤ count
    → n + bytes_left (cond b parts (slice number start (count - n) ∷ parts)) ≤ count + bytes_left parts
moved_takes true number start count n parts e within = omega arith
moved_takes false number start count n parts e within = omega arith

-- A piece is taken from what is left.
poll_takes : (left : List Part) (piece : List ℕ) (rest : List Part) (told : Option World) (whole : Bool) (most before after : ℕ)
    → Polls told whole most (Rose before after) left (Piece piece) rest → length piece + bytes_left rest ≤ bytes_left left
poll_takes [] piece rest told whole most before after (e, none) = let f : Piece piece ≡ End = e in cc
poll_takes (part ∷ parts) piece rest told whole most before after (inr (e, none, rose)) = let f : Piece piece ≡ Broken = e in cc
poll_takes (text bytes ∷ parts) piece rest told whole most before after (inl (p, e, (is, are))) =
    let same : piece ≡ p = cc in rw (are, same ∙ is) (omega arith)
poll_takes (slice number start count ∷ parts) piece rest told whole most before after (inl (p, e, (some, within, are, right))) =
    let same : piece ≡ p = cc in rw (are, same) (moved_takes _ number (start + length p) count (length p) parts refl within)

-- What breaks has something left.
breaks_some : (left rest : List Part) (told : Option World) (whole : Bool) (most before after : ℕ) → NoneEmpty left → Polls told whole most (Rose before after) left Broken rest → 0 < bytes_left left
breaks_some [] rest told whole most before after full (e, none) = let f : Broken ≡ End = e in cc
breaks_some (text bytes ∷ parts) rest told whole most before after full polls = omega (arith, full.0)
breaks_some (slice number start count ∷ parts) rest told whole most before after full polls = omega (arith, full.0)

-- Pieces before a break are less than what was left.
pieces_below : (left : List Part) (pieces : List (List ℕ)) → NoneEmpty left → PolledPieces left pieces Broken → bytes_in pieces < bytes_left left
pieces_below left [] full (rest, poll) = breaks_some left rest poll.told poll.whole poll.most poll.before poll.after full poll.polls
pieces_below left (piece ∷ pieces) full (rest, poll, more) =
    let after = rest_full left piece rest poll.told poll.whole poll.most poll.before poll.after full poll.polls in
    let others = pieces_below rest pieces after more in
    let takes = poll_takes left piece rest poll.told poll.whole poll.most poll.before poll.after poll.polls in
    omega arith

-- Nothing breaks where nothing is left.
never_breaks : (left : List Part) (pieces : List (List ℕ)) → left ≡ [] → PolledPieces left pieces Broken → ⊥
never_breaks [] [] none (rest, poll) = let e : Broken ≡ End = poll.polls.0 in cc
never_breaks [] (piece ∷ pieces) none (rest, poll, more) = let e : Piece piece ≡ End = poll.polls.0 in cc
never_breaks (part ∷ parts) pieces none polled = cc

module _ (a b : Stage) (x : Exchange) (r : PlayedOn a (steps_of x) (begun_answers x ++ Done ∷ Broken ∷ []) (Ok tt) b) where
  -- what is announced is more
  pub broken_below : (value : List ℕ) → length_is_own (target_of a.playing.rules x.request) x.status ≡ true → Announces x value → AnnouncesMore value (bytes_in x.pieces)
  broken_below value own says =
      let g = given_of a b x Broken r in
      let target = target_of a.playing.rules x.request in
      let framed : IsFramedBy true g.reply = subst (λ b. IsFramedBy b g.reply) (ap (length_is_own target) (sym g.status_is) ∙ own)
      (replies_framed target a.playing.rules g.knows g.before g.after _ g.reply g.replies) in (
        bytes_left g.reply.parts,
        framed value (ap (value_of (codes "content-length")) (sym g.fields_are) ∙ says),
        pieces_below g.reply.parts x.pieces (replies_sound target a.playing.rules g.knows g.before g.after _ g.reply g.replies).full g.polled,
      )

  pub bodiless_never : length_is_own (target_of a.playing.rules x.request) x.status ≡ false → ⊥
  bodiless_never other =
      let g = given_of a b x Broken r in
      let target = target_of a.playing.rules x.request in
      let none : g.reply.parts ≡ [] = subst (λ b. IsFramedBy b g.reply) (ap (length_is_own target) (sym g.status_is) ∙ other)
      (replies_framed target a.playing.rules g.knows g.before g.after _ g.reply g.replies) in
      never_breaks g.reply.parts x.pieces none g.polled
