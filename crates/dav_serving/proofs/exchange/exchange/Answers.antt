use Rattle.std.proofs.Common.{◌≡◌, ◌∙◌, ℕ, List, Bool, ap, subst, arith, refl}
use Rattle.http.specs.Request.{head_of}
use Rattle.dav_io.specs.declared.fields.Field.{Field}
use Rattle.dav_model.specs.Conditions.{Asked}
use Rattle.dav_wire.specs.Answers.{head_text}
use Rattle.dav_wire.specs.Chunks.{written}
use Rattle.dav_wire.specs.Framing.{framing, takes_chunks}
use Rattle.dav_wire.specs.declared.chunks.Framing.{Framing}
use Rattle.dav_serving.specs.declared.exchange.Ended.{Ended}
use Rattle.dav_serving.specs.Ends.{EndsBody}
use Rattle.dav_serving.specs.Exchange.{exchange_of}
use Rattle.dav_serving.specs.Stages.{Outlet}
use Rattle.dav_serving.proofs.ExchangesEnd.{begun_first, first_unsent, begun_more, more_unsent, body_ended, begun_breaks, poll_starved, head_starved, request_starved, poll_shrinks}
use Rattle.dav_serving.proofs.exchange.exchange.Goals as goal

-- how the body is written, by the request and the reply
way_is : (way : Framing) (chunks : Bool) (request : Asked) (status : ℕ) (given fields : List Field) → way ≡ framing chunks status given → chunks ≡ takes_chunks (head_of request)
    → given ≡ fields → way ≡ framing (takes_chunks (head_of request)) status fields
way_is way chunks request status given fields is asks same = is ∙ ap (λ z. framing z status given) asks ∙ ap (λ z. framing (takes_chunks (head_of request)) status z) same

head_is : (text : List ℕ) (status : ℕ) (given fields : List Field) (closing : Bool) (way wanted : Framing) → text ≡ head_text status given closing way → given ≡ fields → way ≡ wanted
    → text ≡ head_text status fields closing wanted
head_is text status given fields closing way wanted is same e = is ∙ ap (λ z. head_text status z closing way) same ∙ ap (λ z. head_text status fields closing z) e

piece_is : (way wanted : Framing) (bytes piece : List ℕ) → bytes ≡ piece → way ≡ wanted → written way bytes ≡ written wanted piece
piece_is way wanted bytes piece is e = ap (written way) is ∙ ap (λ z. written z piece) e

ends_as : (way wanted : Framing) (closing : Bool) (given fields : List Field) (a : Outlet) (ended : Ended) (b : Outlet) → way ≡ wanted → given ≡ fields
    → EndsBody way closing given a ended b → EndsBody wanted closing fields a ended b
ends_as way wanted closing given fields a ended b e same made =
    subst (λ z. EndsBody z closing fields a ended b) e (subst (λ z. EndsBody way closing z a ended b) same made)

pub returns-in-Err-clause-memory : goal.returns-in-Err-clause-memory
returns-in-Err-clause-memory g c = request_starved c.args.request.now c.args.now c.args.manner.closing c.in-Err.ensures.refused

pub returns-in-Err-write_head-clause-memory : goal.returns-in-Err-write_head-clause-memory
returns-in-Err-write_head-clause-memory g c = head_starved (exchange_of c.args.request.now c.args.now c.args.manner.closing c.in-Ok.reply.status c.in-Ok.reply.headers c.in-Ok.reply.body) c.in-Ok.ensures.played

pub returns-in-Err-push-clause-ends : goal.returns-in-Err-push-clause-ends
returns-in-Err-push-clause-ends g c =
    let way = way_is _ _ c.args.request.now c.in-Ok.reply.status _ c.in-Ok.reply.headers c.framing-way.ensures c.requires.chunks c.as_slice.ensures in
    first_unsent (exchange_of c.args.request.now c.args.now c.args.manner.closing c.in-Ok.reply.status c.in-Ok.reply.headers c.in-Ok.reply.body) _ _
    (head_is _ _ _ _ _ _ _ (c.as_slice-3.ensures.value ∙ c.in-Ok-write_head.ensures) c.as_slice-2.ensures way) c.in-Ok.ensures.played c.in-Err-push.ensures

pub pieces-init : goal.pieces-init
pieces-init g c =
    let way = way_is _ _ c.args.request.now c.in-Ok.reply.status _ c.in-Ok.reply.headers c.framing-way.ensures c.requires.chunks c.as_slice.ensures in
    record {
      replies = let most = c.requires.replies in let risen = c.in-Ok.ensures.replies in omega arith;
      loan = c.in-Ok.ensures.loan;
      begun = begun_first (exchange_of c.args.request.now c.args.now c.args.manner.closing c.in-Ok.reply.status c.in-Ok.reply.headers c.in-Ok.reply.body) _
          (head_is _ _ _ _ _ _ _ (c.as_slice-3.ensures.value ∙ c.in-Ok-write_head.ensures) c.as_slice-2.ensures way)
          c.in-Ok.ensures.played c.in-Ok-push.ensures;
    }

pub returns-in-Err-poll_turn-clause-memory : goal.returns-in-Err-poll_turn-clause-memory
returns-in-Err-poll_turn-clause-memory g c = poll_starved (exchange_of c.args.request.now c.args.now c.args.manner.closing c.in-Ok.reply.status c.in-Ok.reply.headers c.in-Ok.reply.body) c.pieces.invariant.begun c.in-Err-poll_turn.ensures.refused

pub returns-in-Err-push_piece-clause-ends : goal.returns-in-Err-push_piece-clause-ends
returns-in-Err-push_piece-clause-ends g c =
    let way = way_is _ _ c.args.request.now c.in-Ok.reply.status _ c.in-Ok.reply.headers c.framing-way.ensures c.requires.chunks c.as_slice.ensures in
    more_unsent (exchange_of c.args.request.now c.args.now c.args.manner.closing c.in-Ok.reply.status c.in-Ok.reply.headers c.in-Ok.reply.body) c.in-Piece.piece _ _ c.pieces.invariant.begun
    c.in-Ok-poll_turn.ensures.played c.in-Piece.is (piece_is _ _ _ _ c.as_slice-in-Piece.ensures way) c.in-Err-push_piece.ensures

pub pieces-smaller : goal.pieces-smaller
pieces-smaller g c = poll_shrinks c.in-Ok.reply.body c.in-Piece.piece c.in-Ok-poll_turn.ensures.played c.in-Piece.is

pub pieces-preserved : goal.pieces-preserved
pieces-preserved g c =
    let way = way_is _ _ c.args.request.now c.in-Ok.reply.status _ c.in-Ok.reply.headers c.framing-way.ensures c.requires.chunks c.as_slice.ensures in
    record {
      replies = let most = c.pieces.invariant.replies in let same = c.in-Ok-poll_turn.ensures.replies in omega arith;
      loan = c.in-Ok-poll_turn.ensures.loan ∙ c.pieces.invariant.loan;
      begun = begun_more (exchange_of c.args.request.now c.args.now c.args.manner.closing c.in-Ok.reply.status c.in-Ok.reply.headers c.in-Ok.reply.body) c.in-Piece.piece _ c.pieces.invariant.begun
          c.in-Ok-poll_turn.ensures.played c.in-Piece.is (piece_is _ _ _ _ c.as_slice-in-Piece.ensures way) c.in-Ok-push_piece.ensures;
    }

pub returns-in-End-clause-ends : goal.returns-in-End-clause-ends
returns-in-End-clause-ends g c =
    let way = way_is _ _ c.args.request.now c.in-Ok.reply.status _ c.in-Ok.reply.headers c.framing-way.ensures c.requires.chunks c.as_slice.ensures in
    body_ended (exchange_of c.args.request.now c.args.now c.args.manner.closing c.in-Ok.reply.status c.in-Ok.reply.headers c.in-Ok.reply.body) _ c.pieces.invariant.begun
    c.in-Ok-poll_turn.ensures.played c.in-End.is (ends_as _ _ _ _ _ _ _ _ way c.as_slice-in-End.ensures c.ends_body.ensures)

pub returns-in_default-clause-ends : goal.returns-in_default-clause-ends
returns-in_default-clause-ends g c =
    begun_breaks (exchange_of c.args.request.now c.args.now c.args.manner.closing c.in-Ok.reply.status c.in-Ok.reply.headers c.in-Ok.reply.body) c.in-Ok-poll_turn.answer c.pieces.invariant.begun
    c.in-Ok-poll_turn.ensures.played refl c.in_default.not-Piece c.in_default.not-End
