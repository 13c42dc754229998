use Rattle.std.proofs.Common.{◌≡◌, refl}
use Rattle.dav_lock.specs.Trees.{tree_of, forest_of}
use Rattle.dav_lock.specs.declared.element.XmlNode.TheVariants.{Element}
use Rattle.dav_lock.specs.declared.copying.Open.{Open}
use Rattle.dav_lock.proofs.Copies.{around, leaf_step, open_step, close_step, all_done, opens_less, weight_behind}
use Rattle.dav_lock.proofs.Opened.{closes_less, none_open}
use Rattle.dav_lock.proofs.Weights.{weight}
use Rattle.dav_lock.proofs.copying.copy_nodes.Goals as goal
use Rattle.std.proofs.lemmas.List.{nil_from_length}

pub loop-node-preserved-in-Leaf : goal.loop-node-preserved-in-Leaf
loop-node-preserved-in-Leaf c =
    let e : c.in-Leaf.leaf ≡ c.in-Some.node.now = rw c.in-Leaf.is at c.in_ok-leaf-in-Some.ensures in
    rw (c.in_ok-push-in-Leaf.ensures.ok, e)
    (leaf_step c.loop-node.open.items c.loop-node.done (forest_of c.args.nodes.now) c.loop-node.left.now c.in-Some.behind.now c.in-Some.node.now c.in-Some.ensures.cases.0 c.loop-node.invariant)

pub loop-node-smaller-in-Inner : goal.loop-node-smaller-in-Inner
loop-node-smaller-in-Inner c =
    let e : Element c.in-Inner.inner.now ≡ c.in-Some.node.now = rw c.in-Inner.is at c.in_ok-leaf-in-Some.ensures in
    let o : Open = record { element = c.in_ok-element-in-Inner.element; before = c.loop-node.done; behind = c.in-Some.behind } in
    let is : tree_of c.in-Some.node.now ≡ around o.element c.in-Inner.inner.now.children = rw (← e, c.in_ok-element-in-Inner.ensures) refl in
    rw c.as_slice-left.ensures
    (opens_less c.loop-node.open.items c.push-in-Inner.new.self.items o c.in-Inner.inner.now.children c.loop-node.left.now c.in-Some.node.now c.in_ok-push-in-Inner.ensures.items c.in-Some.ensures.cases.0 is)

pub loop-node-preserved-in-Inner : goal.loop-node-preserved-in-Inner
loop-node-preserved-in-Inner c =
    let e : Element c.in-Inner.inner.now ≡ c.in-Some.node.now = rw c.in-Inner.is at c.in_ok-leaf-in-Some.ensures in
    let o : Open = record { element = c.in_ok-element-in-Inner.element; before = c.loop-node.done; behind = c.in-Some.behind } in
    let is : tree_of c.in-Some.node.now ≡ around o.element c.in-Inner.inner.now.children = rw (← e, c.in_ok-element-in-Inner.ensures) refl in
    rw (c.empty-done-in-Inner.ensures, c.as_slice-left.ensures)
    (open_step c.loop-node.open.items c.push-in-Inner.new.self.items o (forest_of c.args.nodes.now) c.in-Inner.inner.now.children c.loop-node.left.now c.in-Some.node.now c.in_ok-push-in-Inner.ensures.items c.in-Some.ensures.cases.0 is
    c.loop-node.invariant)

pub loop-node-smaller : goal.loop-node-smaller
loop-node-smaller c =
    rw c.in_ok-done-in-Some-pop.ensures.1
    (closes_less weight_behind c.pop.new.self.items c.loop-node.open.items c.in-Some-pop.last (weight (forest_of c.loop-node.left.now)) c.in-Some-pop.ensures.items (rw (nil_from_length c.loop-node.left.now c.in-None.ensures.cases) refl))

pub loop-node-preserved : goal.loop-node-preserved
loop-node-preserved c =
    rw (c.in_ok-done-in-Some-pop.ensures.0, c.in_ok-done-in-Some-pop.ensures.1)
    (close_step c.pop.new.self.items c.loop-node.open.items c.in-Some-pop.last c.loop-node.done (forest_of c.args.nodes.now) c.loop-node.left.now c.in-Some-pop.ensures.items (nil_from_length c.loop-node.left.now c.in-None.ensures.cases) c.loop-node.invariant)

pub returns-in-None-pop : goal.returns-in-None-pop
returns-in-None-pop c =
    all_done c.loop-node.open.items c.loop-node.done (forest_of c.args.nodes.now) c.loop-node.left.now
    (none_open c.loop-node.open.items c.pop.new.self.items _ c.in-None-pop.ensures.cases.0 c.in-None-pop.ensures.rest c.in-None-pop.ensures.items) (nil_from_length c.loop-node.left.now c.in-None.ensures.cases) c.loop-node.invariant
