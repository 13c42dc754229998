-- A purge leaves a valid run valid, so each later reply is that of the tree.
use Rattle.std.proofs.Common.{◌≡◌, inl, List, [], ◌∷◌, sym, ap, subst, ◌∙◌}
use Rattle.dav_io.specs.declared.clock.Moment.{Moment}
use Rattle.dav_model.specs.declared.answer.Answer.{Answer}
use Rattle.dav_model.specs.declared.step.Step.TheVariants.{Purge}
use Rattle.dav_model.specs.Play.{EachByTree, Learned, Playing, Plays, Stands}
use Rattle.dav_model.specs.Rules.{Forgets, Knowledge, Rules}
use Rattle.dav_model.specs.Trail.{Move, Point, points_of}
use Rattle.dav_model.specs.Valid.{Valid}
use Rattle.dav_model.proofs.Denied.{each_by_tree}
use Rattle.dav_model.proofs.JoiningLemmas.{valid_back}

forgotten : (points : List Point) (k l : Knowledge) → Forgets k l → Learned points k l
forgotten points k l f = record { open_same = f.open_same; known = λ dir time has is. inl (f.known dir time has is) }

valid_still : (rules : Rules) (k l : Knowledge) (s : Point) (moves : List Move) → Forgets k l → Valid rules k (s ∷ points_of moves) → Valid rules l (s ∷ points_of moves)
valid_still rules k l s moves f v = valid_back rules k l s [] moves v (forgotten (s ∷ []) k l f)

same_knows : (p q : Playing) (k : Knowledge) → q ≡ record p { knows = k } → q ≡ record p { knows = q.knows }
same_knows p q k is = is ∙ ap (λ (x : Knowledge). record p { knows = x }) (sym (ap (λ (z : Playing). z.knows) is))

pub purged_by_tree : (p q r : Playing) (s t : Point) (now : Moment) (answer : Answer) (moves : List Move) → Stands p s t (Purge now) answer q → Valid p.rules p.knows (s ∷ points_of moves)
    → (plays : Plays q t moves r) → (t ≡ s) × (q ≡ record p { knows = q.knows }) × EachByTree q t moves r plays
purged_by_tree p q r s t now answer moves (done, same, (k, is, forgets)) v plays =
    let still = valid_still p.rules p.knows k s moves forgets v in
    let by_rules : Valid q.rules q.knows (s ∷ points_of moves) = subst (λ (z : Playing). Valid z.rules z.knows (s ∷ points_of moves)) (sym is) still in
    (same, same_knows p q k is, each_by_tree q t moves r plays (subst (λ (x : Point). Valid q.rules q.knows (x ∷ points_of moves)) (sym same) by_rules))
