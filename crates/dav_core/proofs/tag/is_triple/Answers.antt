use Rattle.std.proofs.Common.{◌++◌, ◌∷◌, sym, ◌∙◌, true≢false, append_assoc}
use Rattle.dav_core.specs.Info.{hex}
use Rattle.dav_core.proofs.Hex.{whole_by_front}
use Rattle.dav_core.proofs.tag.is_triple.Goals as goal

pub returns-in-Some : goal.returns-in-Some
returns-in-Some c =
    let regroup = append_assoc (hex c.args.first) (45 ∷ hex c.args.middle) (45 ∷ hex c.args.last) in
    let by = whole_by_front c.args.text.now c.in-Some.front.now (hex c.args.first ++ 45 ∷ hex c.args.middle) (45 ∷ hex c.args.last) c.in-Some.ensures in
    ((λ e. by.1 (c.is_pair.ensures.0 e) ∙ regroup), (λ e. c.is_pair.ensures.1 (by.0 (e ∙ sym regroup))))

pub returns-in-None : goal.returns-in-None
returns-in-None c =
    let regroup = append_assoc (hex c.args.first) (45 ∷ hex c.args.middle) (45 ∷ hex c.args.last) in
    ((λ e. absurd (true≢false (sym e))), (λ e. absurd (c.in-None.ensures (hex c.args.first ++ 45 ∷ hex c.args.middle) (e ∙ sym regroup))))
