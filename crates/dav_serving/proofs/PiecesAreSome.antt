-- No piece of a body is empty, and there is none with 204.
use Rattle.std.proofs.Common.{◌≡◌, ◌++◌, ℕ, List, [], ◌∷◌, Ok, All, sym, ◌∙◌, inl, inr}
use Rattle.std.specs.List.{AllByRecursion, concat, flat_map}
use Rattle.std.proofs.lemmas.List.Elements.{All-nil, All-cons, All-head, All-tail}
use Rattle.dav_model.specs.declared.answer.Answer.{Answer}
use Rattle.dav_model.specs.declared.answer.Answer.TheVariants.{Done, End}
use Rattle.dav_model.specs.Bodies.{NoneEmpty, Part}
use Rattle.dav_model.specs.Play.{Stage}
use Rattle.dav_model.specs.Trail.{target_of}
use Rattle.dav_model.proofs.Nonempty.{piece_some, rest_full}
use Rattle.dav_model.proofs.RightReplies.{replies_sound}
use Rattle.dav_model.proofs.Framing.{none_polled}
use Rattle.dav_wire.specs.Chunks.{HasBody, IsPiece, ending, written}
use Rattle.dav_wire.specs.declared.chunks.Framing.TheVariants.{Chunked}
use Rattle.dav_serving.specs.Bodies.{IsBodiless, IsHeadAlone, IsNonempty, IsShort}
use Rattle.dav_serving.specs.Exchange.{Exchange, answers_of, begun_answers, framing_of, steps_of}
use Rattle.dav_serving.specs.Stages.{PlayedOn}
use Rattle.dav_serving.proofs.HeadsHaveNoPieces.{gives_nothing}
use Rattle.dav_serving.proofs.BodiesAreDelimited.{back_in_chunks, head_alone}
use Rattle.dav_serving.proofs.ExchangesAreGiven.{PolledPieces, given_of, polled_to_end}

-- The pieces of a body of which no part is empty, whatever comes behind them.
polled_some : (left : List Part) (pieces : List (List ℕ)) (last : Answer) → NoneEmpty left → PolledPieces left pieces last → AllByRecursion IsNonempty pieces
polled_some left [] last full polled = tt
polled_some left (piece ∷ pieces) last full (rest, poll, more) = (
  piece_some left piece rest poll.told poll.whole poll.most poll.before poll.after full poll.polls,
  polled_some rest pieces last (rest_full left piece rest poll.told poll.whole poll.most poll.before poll.after full poll.polls) more,
)

all_some : (pieces : List (List ℕ)) → AllByRecursion IsNonempty pieces → All IsNonempty pieces
all_some [] some = All-nil IsNonempty
all_some (piece ∷ pieces) some = All-cons IsNonempty piece pieces some.0 (all_some pieces some.1)

are_pieces : (pieces : List (List ℕ)) → All IsNonempty pieces → All IsShort pieces → All IsPiece pieces
are_pieces [] some short = All-nil IsPiece
are_pieces (piece ∷ pieces) some short =
    All-cons IsPiece piece pieces (All-head IsNonempty piece pieces some, All-head IsShort piece pieces short)
    (are_pieces pieces (All-tail IsNonempty piece pieces some) (All-tail IsShort piece pieces short))

module _ (a b : Stage) (x : Exchange) where
  -- whether the body comes to its end or not
  pub nonempty_pieces : (last : Answer) → PlayedOn a (steps_of x) (begun_answers x ++ Done ∷ last ∷ []) (Ok tt) b → All IsNonempty x.pieces
  nonempty_pieces last r =
      let g = given_of a b x last r in
      all_some x.pieces (polled_some g.reply.parts x.pieces last (replies_sound (target_of a.playing.rules x.request) a.playing.rules g.knows g.before g.after _ g.reply g.replies).full g.polled)

  nothing_given : PlayedOn a (steps_of x) (answers_of x) (Ok tt) b → IsBodiless x → x.pieces ≡ []
  nothing_given r (inl head) = gives_nothing a b x r (inl head)
  nothing_given r (inr (inl e)) =
      let g = given_of a b x End r in
      none_polled g.reply.parts x.pieces ((replies_sound (target_of a.playing.rules x.request) a.playing.rules g.knows g.before g.after _ g.reply g.replies).bodiless (sym g.status_is ∙ e))
      (polled_to_end g.reply.parts x.pieces g.polled)
  nothing_given r (inr (inr e)) = gives_nothing a b x r (inr e)

  -- Nothing stands behind its head.
  pub is_alone : PlayedOn a (steps_of x) (answers_of x) (Ok tt) b → IsBodiless x → IsHeadAlone x
  is_alone r is = head_alone x is (nothing_given r is)

  -- A body in chunks is read back.
  pub read_back : (behind : List ℕ) → PlayedOn a (steps_of x) (answers_of x) (Ok tt) b → framing_of x ≡ Chunked → All IsShort x.pieces
      → HasBody (flat_map (written (framing_of x)) x.pieces ++ (ending (framing_of x) ++ behind)) (concat x.pieces) behind
  read_back behind r chunked short = back_in_chunks x behind chunked (are_pieces x.pieces (nonempty_pieces End r) short)
