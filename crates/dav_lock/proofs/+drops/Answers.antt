use Rattle.std.proofs.Common.{is_ok, rules, arith}
use Rattle.dav_lock.specs.Trees.{tree_of, forest_of}
use Rattle.dav_lock.proofs.Waiting.{popped, holds, appended, nodes_size}
use Rattle.dav_lock.proofs.+drops.Goals as goal

pub element::Nodes::drop-loop-node-smaller-in-None : goal.element::Nodes::drop-loop-node-smaller-in-None
element::Nodes::drop-loop-node-smaller-in-None t c = let p = popped c.loop-node.waiting.items c.pop.new.self.items c.in-Some.node c.in-Some.ensures.items in omega (arith, p.less, p.some)

pub element::Nodes::drop-loop-node-preserved-in-None : goal.element::Nodes::drop-loop-node-preserved-in-None
element::Nodes::drop-loop-node-preserved-in-None t c = let p = popped c.loop-node.waiting.items c.pop.new.self.items c.in-Some.node c.in-Some.ensures.items in omega (arith, c.loop-node.invariant, p.others)

pub element::Nodes::drop-drop-inner-requires : goal.element::Nodes::drop-drop-inner-requires
element::Nodes::drop-drop-inner-requires t c κs =
    let p = popped c.loop-node.waiting.items c.pop.new.self.items c.in-Some.node c.in-Some.ensures.items in
    let h = holds (tree_of c.in-Some.node) (forest_of c.in-Some-into_children.inner.items) c.in-Some-into_children.ensures in
    let a = appended (is_ok c.append.result) c.pop.new.self.items c.in-Some-into_children.inner.items c.append.new.self.items c.append.new.other.items c.append.ensures.items c.append.ensures.other_items in
    (((omega (arith, nodes_size c.append.new.other.items, a.left, h.lower, p.first, c.loop-node.invariant, c.decreases), tt), tt), search rules)

pub element::Nodes::drop-loop-node-smaller : goal.element::Nodes::drop-loop-node-smaller
element::Nodes::drop-loop-node-smaller t c =
    let p = popped c.loop-node.waiting.items c.pop.new.self.items c.in-Some.node c.in-Some.ensures.items in
    let h = holds (tree_of c.in-Some.node) (forest_of c.in-Some-into_children.inner.items) c.in-Some-into_children.ensures in
    let a = appended (is_ok c.append.result) c.pop.new.self.items c.in-Some-into_children.inner.items c.append.new.self.items c.append.new.other.items c.append.ensures.items c.append.ensures.other_items in
    omega (arith, p.less, h.lighter, a.weighs)

pub element::Nodes::drop-loop-node-preserved : goal.element::Nodes::drop-loop-node-preserved
element::Nodes::drop-loop-node-preserved t c =
    let p = popped c.loop-node.waiting.items c.pop.new.self.items c.in-Some.node c.in-Some.ensures.items in
    let h = holds (tree_of c.in-Some.node) (forest_of c.in-Some-into_children.inner.items) c.in-Some-into_children.ensures in
    let a = appended (is_ok c.append.result) c.pop.new.self.items c.in-Some-into_children.inner.items c.append.new.self.items c.append.new.other.items c.append.ensures.items c.append.ensures.other_items in
    omega (arith, c.loop-node.invariant, p.others, p.first, h.lower, a.waits)
