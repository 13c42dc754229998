-- In a valid run each reply of all exchanges is that of the tree: what is known at an exchange was told before it.
use Rattle.std.proofs.Common.{◌≡◌, List, [], ◌∷◌, ◌++◌, Bool, ℕ, Result, Ok, sym, ap, subst, append_assoc}
use Rattle.dav_io.specs.declared.failure.NoMemory.{NoMemory}
use Rattle.dav_model.specs.declared.answer.Answer.{Answer}
use Rattle.dav_model.specs.Play.{EachByTree}
use Rattle.dav_serving.specs.Stages.{PlayedOn}
use Rattle.dav_io.specs.Outside.{Stream}
use Rattle.dav_model.specs.declared.step.Step.{Step}
use Rattle.dav_model.specs.Play.{Stage}
use Rattle.dav_model.specs.Rules.{Knowledge, Rules}
use Rattle.dav_model.specs.Trail.{Move, Point, last_of, points_of}
use Rattle.dav_model.specs.Valid.{Valid}
use Rattle.dav_model.proofs.JoiningLemmas.{over, played_learned, valid_back, valid_front}
use Rattle.dav_serving.specs.ByTree.{AllByTree, moves_of}
use Rattle.dav_serving.specs.Exchange.{Exchange, answers_of, steps_of}
use Rattle.dav_serving.specs.Serving.{Chain, Serving, Setup, ready}
use Rattle.dav_serving.specs.Stages.{Outside}

-- a run that wasn't refused memory ends where its trail leads
ends_there : {a b : Stage} {steps : List Step} {answers : List Answer} (r : PlayedOn a steps answers (Ok tt) b) → b.at ≡ last_of a.at r.trail
ends_there {b = b} r = ap (λ (z : Stage). z.at) (over r.played.rest _ b r.played.ends).at

chain_by_tree : (rules : Rules) (knows : Knowledge) (s : Point) (xs : List Exchange) (b : Stage) (chain : Chain rules (ready rules knows s) xs b)
    → Valid rules knows (s ∷ points_of (moves_of rules (ready rules knows s) xs b chain)) → AllByTree rules (ready rules knows s) xs b chain
chain_by_tree rules knows s [] b chain valid = tt
chain_by_tree rules knows s (x ∷ xs) b (m, r, chain) valid =
    let rest : List Move = moves_of rules (ready rules m.playing.knows m.at) xs b chain in
    let front = valid_front rules knows s r.trail rest valid in
    let learned = played_learned r.trail (ready rules knows s) m (steps_of x) [] (answers_of x) (Ok tt) r.played front.told in
    let back = valid_back rules knows m.playing.knows s r.trail rest valid learned in
    (r.headline front, chain_by_tree rules m.playing.knows m.at xs b chain (subst (λ z. Valid rules m.playing.knows (z ∷ points_of rest)) (sym (ends_there r)) back))

pub served_by_tree : (setup : Setup) (closed : Bool) (before : Outside) (source : Stream) (held : List ℕ) (xs : List Exchange) (last : Stage) (v : Serving setup closed before source held xs last)
    → Valid setup.rules setup.knows (before.disk ∷ points_of (moves_of setup.rules (ready setup.rules setup.knows before.disk) xs last v.played))
    → AllByTree setup.rules (ready setup.rules setup.knows before.disk) xs last v.played
served_by_tree setup closed before source held xs last v valid = chain_by_tree setup.rules setup.knows before.disk xs last v.played valid

-- What was played behind these exchanges: an answer that broke, or was cut.
chain_last : (rules : Rules) (knows : Knowledge) (s : Point) (xs : List Exchange) (place : Stage) (chain : Chain rules (ready rules knows s) xs place)
    (steps : List Step) (answers : List Answer) (result : Result Unit NoMemory) (b : Stage) (r : PlayedOn place steps answers result b)
    → Valid rules knows (s ∷ points_of (moves_of rules (ready rules knows s) xs place chain ++ r.trail))
    → EachByTree place.playing place.at r.trail r.played.player r.played.answered
chain_last rules knows s [] place chain steps answers result b r valid =
    r.headline (subst (λ (z : Stage). Valid z.playing.rules z.playing.knows (z.at ∷ points_of r.trail)) (sym chain) valid)
chain_last rules knows s (x ∷ xs) place (m, p, chain) steps answers result b r valid =
    let rest : List Move = moves_of rules (ready rules m.playing.knows m.at) xs place chain in
    let joined : Valid rules knows (s ∷ points_of (p.trail ++ (rest ++ r.trail))) = subst (λ (z : List Move). Valid rules knows (s ∷ points_of z)) (append_assoc p.trail rest r.trail) valid in
    let front = valid_front rules knows s p.trail (rest ++ r.trail) joined in
    let learned = played_learned p.trail (ready rules knows s) m (steps_of x) [] (answers_of x) (Ok tt) p.played front.told in
    let back = valid_back rules knows m.playing.knows s p.trail (rest ++ r.trail) joined learned in
    chain_last rules m.playing.knows m.at xs place chain steps answers result b r
    (subst (λ z. Valid rules m.playing.knows (z ∷ points_of (rest ++ r.trail))) (sym (ends_there p)) back)

pub last_by_tree : (setup : Setup) (closed : Bool) (before : Outside) (source : Stream) (held : List ℕ) (xs : List Exchange) (place : Stage) (v : Serving setup closed before source held xs place)
    (steps : List Step) (answers : List Answer) (result : Result Unit NoMemory) (b : Stage) (r : PlayedOn place steps answers result b)
    → Valid setup.rules setup.knows (before.disk ∷ points_of (moves_of setup.rules (ready setup.rules setup.knows before.disk) xs place v.played ++ r.trail))
    → EachByTree place.playing place.at r.trail r.played.player r.played.answered
last_by_tree setup closed before source held xs place v steps answers result b r valid = chain_last setup.rules setup.knows before.disk xs place v.played steps answers result b r valid
