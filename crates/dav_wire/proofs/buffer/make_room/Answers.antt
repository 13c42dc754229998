use Rattle.std.proofs.Common.{◌≡◌, ◌∙◌, ◌-◌, List, ℕ, ap, arith, drop, length, take, vec_len}
use Rattle.std.proofs.lemmas.List.{with_items_is}
use Rattle.dav_wire.proofs.Holding.{front_range}
use Rattle.dav_wire.proofs.buffer.make_room.Goals as goal

pub returns-clause-front : goal.returns-clause-front
returns-clause-front c =
    let grown = c.grow_full.new.buffer in
    let same = c.deref_mut.ensures.value in
    let m = c.move_front.new.buffer in
    let size = ap (length {A = ℕ}) same in
    let whole : length m ≡ grown.len = omega (arith, c.move_front.ensures.len, grown.ok.0) in
    let l = c.args.end - c.args.start in
    ap (take l) (with_items_is grown m whole) ∙ c.move_front.ensures.front ∙ ap (λ (x : List ℕ). take l (drop c.args.start x)) same
    ∙ front_range grown.items c.args.buffer.now.items (vec_len c.args.buffer.now) c.args.start c.args.end c.grow_full.ensures.front c.requires.ordered
    c.requires.within
