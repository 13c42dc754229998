-- The head of each answer is read back: its reply is well-formed.
use Rattle.std.proofs.Common.{◌≡◌, ◌<◌, ◌++◌, ℕ, List, [], ◌∷◌, All, Bool, true, codes, Result, Ok, refl, sym, subst, append_assoc, arith}
use Rattle.std.specs.List.{AllByRecursion, flat_map}
use Rattle.std.proofs.lemmas.List.Elements.{All-nil, All-cons, All-head, All-tail}
use Rattle.std.proofs.lemmas.List.Sums.{AllPass-from_list_all}
use Rattle.http_header.specs.Token.{is_token_byte, is_value_byte}
use Rattle.dav_io.specs.Outside.{Stream}
use Rattle.dav_io.specs.declared.failure.NoMemory.{NoMemory}
use Rattle.dav_io.specs.declared.fields.Field.{Field}
use Rattle.dav_model.specs.declared.answer.Answer.{Answer}
use Rattle.dav_model.specs.declared.answer.Answer.TheVariants.{Done, End}
use Rattle.dav_model.specs.declared.step.Step.{Step}
use Rattle.dav_model.specs.Play.{Stage}
use Rattle.dav_model.specs.WellFormed.{IsReplyField, IsWellFormed, IsWellFormedAnswer, is_among, reply_statuses}
use Rattle.dav_model.proofs.WellFormedRuns.{among_all, plays_well}
use Rattle.dav_wire.specs.AnswerHeads.{IsAnswerField, ReadsAnswer}
use Rattle.dav_wire.specs.Answers.{bad_request_text, close_field, head_text, phrase, too_large_text}
use Rattle.dav_wire.specs.Chunks.{written}
use Rattle.dav_wire.specs.declared.chunks.Framing.TheVariants.{Raw}
use Rattle.dav_wire.proofs.HeadsReadBack.{heads_back}
use Rattle.dav_serving.specs.Exchange.{Exchange, begun_answers, framing_of, steps_of}
use Rattle.dav_serving.specs.Heads.{HasHead, fields_written}
use Rattle.dav_serving.specs.Serving.{Chain, Serving, Setup, ready}
use Rattle.dav_serving.specs.Stages.{Outside, PlayedOn}
use Rattle.dav_model.specs.Rules.{Rules}
use Rattle.dav_serving.proofs.FieldsAdded.{written_ascend}

are_answer_fields : (fields : List Field) → All IsReplyField fields → All IsAnswerField fields
are_answer_fields [] all = All-nil IsAnswerField
are_answer_fields (field ∷ fields) all =
    let is = All-head IsReplyField field fields all in
    All-cons IsAnswerField field fields (record { name = is.name; value = is.value }) (are_answer_fields fields (All-tail IsReplyField field fields all))

abbrev HasThreeDigits : ℕ → Type 0
HasThreeDigits status = status < 1000

three_digits : (status : ℕ) → is_among status reply_statuses ≡ true → status < 1000
three_digits status listed =
    among_all HasThreeDigits reply_statuses
    (omega arith, (omega arith, (omega arith, (omega arith, (omega arith, (omega arith, (omega arith, (omega arith, (omega arith, (omega arith, (omega arith, (omega arith, (omega arith, (omega arith, (omega arith, (omega arith, (omega arith, tt)))))))))))))))))
    status listed

well_is_read : (x : Exchange) → IsWellFormed x.status x.fields → HasHead x
well_is_read x well = record {
  reply = well;
  read = λ behind. subst (λ text. ReadsAnswer text x.status (fields_written x) (flat_map (written (framing_of x)) x.pieces ++ behind))
      (sym (append_assoc (head_text x.status x.fields x.closing (framing_of x)) (flat_map (written (framing_of x)) x.pieces) behind))
      (heads_back x.status x.fields x.closing (framing_of x) (flat_map (written (framing_of x)) x.pieces ++ behind) (three_digits x.status well.listed) (are_answer_fields x.fields well.each));
  ascend = written_ascend x.closing (framing_of x) x.fields well.each well.ascend;
}

-- whatever comes behind the pieces
pub begun_is_read : (a b : Stage) (x : Exchange) (steps : List Step) (behind : List Answer) (result : Result Unit NoMemory)
    → PlayedOn a steps (begun_answers x ++ behind) result b → HasHead x
begun_is_read a b x steps behind result on =
    let all : AllByRecursion IsWellFormedAnswer (begun_answers x ++ behind) =
    subst (AllByRecursion IsWellFormedAnswer) (sym on.played.answers_are) (plays_well a.playing a.at on.trail on.played.player on.played.answered) in
    let (turned, (purged, (well, rest))) = all in
    well_is_read x well

chain_is_read : (rules : Rules) (a b : Stage) (xs : List Exchange) → Chain rules a xs b → AllByRecursion HasHead xs
chain_is_read rules a b [] chain = tt
chain_is_read rules a b (x ∷ xs) (m, played, chain) = (begun_is_read a m x (steps_of x) (Done ∷ End ∷ []) (Ok tt) played, chain_is_read rules (ready rules m.playing.knows m.at) b xs chain)

pub served_are_read : (setup : Setup) (closed : Bool) (before : Outside) (source : Stream) (held : List ℕ) (xs : List Exchange) (last : Stage)
    → Serving setup closed before source held xs last → AllByRecursion HasHead xs
served_are_read setup closed before source held xs last v = chain_is_read setup.rules (ready setup.rules setup.knows before.disk) last xs v.played

zero_length : Field
zero_length = record { name = codes "content-length"; value = codes "0" }

length_is : IsAnswerField zero_length
unfolding is_token_byte zero_length
length_is = record {
  name = (omega arith, AllPass-from_list_all is_token_byte (codes "content-length") refl);
  value = AllPass-from_list_all is_value_byte (codes "0") refl;
}

refusal_text : head_text 400 (zero_length ∷ []) true Raw ≡ bad_request_text
unfolding phrase zero_length
refusal_text = refl

-- what answers a request that can't be read
pub refusal_is_read : (behind : List ℕ) → ReadsAnswer (bad_request_text ++ behind) 400 (close_field ∷ record { name = codes "content-length"; value = codes "0" } ∷ []) behind
unfolding zero_length
refusal_is_read behind =
    subst (λ text. ReadsAnswer (text ++ behind) 400 (close_field ∷ zero_length ∷ []) behind) refusal_text
    (heads_back 400 (zero_length ∷ []) true Raw behind (omega arith) (All-cons IsAnswerField zero_length [] length_is (All-nil IsAnswerField)))

large_text : head_text 413 (zero_length ∷ []) true Raw ≡ too_large_text
unfolding phrase zero_length
large_text = refl

-- and what answers one whose body is too large
pub large_is_read : (behind : List ℕ) → ReadsAnswer (too_large_text ++ behind) 413 (close_field ∷ record { name = codes "content-length"; value = codes "0" } ∷ []) behind
unfolding zero_length
large_is_read behind =
    subst (λ text. ReadsAnswer (text ++ behind) 413 (close_field ∷ zero_length ∷ []) behind) large_text
    (heads_back 413 (zero_length ∷ []) true Raw behind (omega arith) (All-cons IsAnswerField zero_length [] length_is (All-nil IsAnswerField)))
