use Rattle.std.proofs.Common.{◌≡◌, ◌≤◌, ◌-◌, length, sym, ap, subst, ◌∙◌, arith}
use Rattle.dav_readcache.specs.Shelf.{ShelfState, made_room, put_first, total}
use Rattle.dav_readcache.proofs.Fronts.{put_is, put_within, total_front}
use Rattle.dav_readcache.proofs.shelf.Shelf.put_first.Goals as goal

pub overflow_add-self : goal.overflow_add-self
overflow_add-self c =
    let left = c.self.view_is ∙ c.make_room.ensures in
    let entries : c.self.inside.entries.entries ≡ (made_room c.len-length.result c.args.self.now).entries = ap (λ (x : ShelfState). x.entries) left in
    let room : c.self.inside.room ≡ c.args.self.now.room = ap (λ (x : ShelfState). x.room) left in
    let held = c.self.invariant.0 in
    let small = c.most-most.ensures.within in
    let most = c.most-most.ensures.value in
    let sum : total c.self.inside.entries.entries ≤ c.args.self.now.room - c.len-length.result =
    subst (λ xs. total xs ≤ c.args.self.now.room - c.len-length.result) (sym entries)
    (total_front (c.args.self.now.size - 1) (c.args.self.now.room - c.len-length.result) c.args.self.now.entries) in
    omega (arith, held, sum, room, small, most)

pub invariant_of-self-2 : goal.invariant_of-self-2
invariant_of-self-2 c =
    let left = c.self.view_is ∙ c.make_room.ensures in
    let len = c.len-length.ensures.value in
    let entries : c.self.inside.entries.entries ≡ (made_room (length c.args.bytes) c.args.self.now).entries =
    ap (λ (x : ShelfState). x.entries) left ∙ ap (λ n. (made_room n c.args.self.now).entries) len in
    let cap : c.self.inside.entries.cap ≡ c.args.self.now.size = ap (λ (x : ShelfState). x.size) left in
    let room : c.self.inside.room ≡ c.args.self.now.room = ap (λ (x : ShelfState). x.room) left in
    let most : c.self.inside.most ≡ c.args.self.now.most = ap (λ (x : ShelfState). x.most) left in
    let within = c.most-most.ensures.within in
    let value = c.most-most.ensures.value in
    let some = c.most-most.ensures.some in
    let small = c.requires.within in
    let held = c.self.invariant.0 in
    let put = put_is c.args.self.now c.args.tag c.args.bytes c.self.inside.entries c.put.new.self c.requires.none
    (omega (arith, small, within, value)) entries cap c.in_ok-put.ensures.entries in (
      omega (arith, held, put.sum, len),
      omega (arith, held, put.room, len, room),
      c.self.invariant.2,
      put_within c.self.inside.most c.args.tag c.args.bytes c.self.inside.entries.entries c.put.new.self.entries put.first (omega (arith, small, most)) c.self.invariant.3,
      omega (arith, put.cap, some),
    )

pub returns-clause-ok : goal.returns-clause-ok
returns-clause-ok c =
    let left = c.self.view_is ∙ c.make_room.ensures in
    let len = c.len-length.ensures.value in
    let entries : c.self.inside.entries.entries ≡ (made_room (length c.args.bytes) c.args.self.now).entries =
    ap (λ (x : ShelfState). x.entries) left ∙ ap (λ n. (made_room n c.args.self.now).entries) len in
    let cap : c.self.inside.entries.cap ≡ c.args.self.now.size = ap (λ (x : ShelfState). x.size) left in
    let room : c.self.inside.room ≡ c.args.self.now.room = ap (λ (x : ShelfState). x.room) left in
    let most : c.self.inside.most ≡ c.args.self.now.most = ap (λ (x : ShelfState). x.most) left in
    let within = c.most-most.ensures.within in
    let value = c.most-most.ensures.value in
    let small = c.requires.within in
    let put = put_is c.args.self.now c.args.tag c.args.bytes c.self.inside.entries c.put.new.self c.requires.none
    (omega (arith, small, within, value)) entries cap c.in_ok-put.ensures.entries in
    ap (λ es. record { entries = es; size = c.put.new.self.cap; room = c.self.inside.room; most = c.self.inside.most }) put.entries
    ∙ (ap (λ n. record { entries = (put_first c.args.tag c.args.bytes c.args.self.now).entries; size = n; room = c.self.inside.room; most = c.self.inside.most }) put.cap
    ∙ (ap (λ n. record { entries = (put_first c.args.tag c.args.bytes c.args.self.now).entries; size = c.args.self.now.size; room = n; most = c.self.inside.most }) room
    ∙ ap (λ n. record { entries = (put_first c.args.tag c.args.bytes c.args.self.now).entries; size = c.args.self.now.size; room = c.args.self.now.room; most = n }) most))
