use Rattle.std.proofs.Common.{◌≡◌, ◌∙◌, ◌-◌, ◌++◌, ap, arith, replicate, take, vec_len}
use Rattle.std.proofs.lemmas.List.{take_all}
use Rattle.std.proofs.Math.Seq.{take-append_seam}
use Rattle.dav_wire.proofs.buffer.grow_full.Goals as goal

pub returns-clause-front : goal.returns-clause-front
returns-clause-front c =
    let v = c.args.buffer.now in
    let fits = c.requires.fits in
    let more = replicate (65537 - vec_len v) 0 in
    let made : c.resize.new.self.items ≡ take 65537 v.items ++ more = c.in-Ok.ensures.items in
    ap (take (vec_len v)) (made ∙ ap (λ x. x ++ more) (take_all 65537 v.items (omega (arith, v.ok.0))))
    ∙ ap (λ k. take k (v.items ++ more)) v.ok.0 ∙ take-append_seam v.items more
