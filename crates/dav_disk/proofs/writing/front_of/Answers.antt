use Rattle.std.proofs.Common.{◌∙◌, ◌++◌, ◌-◌, ap, length, take, replicate}
use Rattle.dav_disk.proofs.Written.{front_is}
use Rattle.dav_disk.proofs.writing.front_of.Goals as goal

pub returns : goal.returns
returns c =
    c.in_ok-resize.ensures.items
    ∙ ap (λ n. take c.args.place c.in_ok-all.all.items ++ replicate (c.args.place - n) 0) c.in_ok-all.ensures.len
    ∙ ap (λ xs. take c.args.place xs ++ replicate (c.args.place - length (take c.min-front.result c.args.bytes.now)) 0) c.in_ok-all.ensures.items
    ∙ front_is c.min-front.result c.args.place c.args.bytes.now c.min-front.ensures
