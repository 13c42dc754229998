use Rattle.std.proofs.Common.{◌≡◌, ◌∙◌, Some, Less, Equal, Greater, map, reverse, sym, ap, subst, rules}
use Rattle.dav_fetch.specs.declared.copied.Kept.{Kept}
use Rattle.dav_fetch.specs.Copy.{path_cmp}
use Rattle.dav_fetch.specs.Fetching.{kept_at}
use Rattle.dav_fetch.specs.Keeping.{AreInOrder, KeepsBehind}
use Rattle.dav_fetch.proofs.Orders.{behind_first, behind_twice, beyond_of, met_at, met_behind, passed, popped}
use Rattle.dav_fetch.proofs.keeping.next_kept.Goals as goal

pub loop-next-preserved-in-Less : goal.loop-next-preserved-in-Less
loop-next-preserved-in-Less c =
    let f = c.in-Some.next.now in
    let got : c.pop-earlier.result ≡ Some f = search rules in
    let less : path_cmp f.path c.args.path.now ≡ Less = sym c.path_order.ensures ∙ c.in-Less.is in
    passed c.args.path.now c.args.rest.now.items c.loop-next.rest.items c.pop-earlier.new.self.items f (popped _ _ _ f c.pop-earlier.ensures.items got) less c.loop-next.invariant

pub returns-in-Equal-clause-found : goal.returns-in-Equal-clause-found
returns-in-Equal-clause-found c =
    let f = c.in-Some.next.now in
    let got : c.pop.result ≡ Some f = search rules in
    let same : path_cmp f.path c.args.path.now ≡ Equal = sym c.path_order.ensures ∙ c.in-Equal.is in
    got ∙ sym (met_at c.args.path.now f (reverse c.pop.new.self.items) same) ∙ sym (ap (kept_at c.args.path.now) (popped _ _ _ f c.pop.ensures.items got)) ∙ c.loop-next.invariant.0

pub returns-in-Equal-clause-behind : goal.returns-in-Equal-clause-behind
returns-in-Equal-clause-behind c =
    let f = c.in-Some.next.now in
    let got : c.pop.result ≡ Some f = search rules in
    let same : path_cmp f.path c.args.path.now ≡ Equal = sym c.path_order.ensures ∙ c.in-Equal.is in
    behind_twice c.args.path.now (reverse c.args.rest.now.items) (reverse c.loop-next.rest.items) (reverse c.pop.new.self.items) c.loop-next.invariant.1
    (subst (λ l. KeepsBehind c.args.path.now l (reverse c.pop.new.self.items)) (sym (popped _ _ _ f c.pop.ensures.items got)) (met_behind c.args.path.now f (reverse c.pop.new.self.items) same))

pub returns-in-Equal-clause-order : goal.returns-in-Equal-clause-order
returns-in-Equal-clause-order c =
    let f = c.in-Some.next.now in
    let got : c.pop.result ≡ Some f = search rules in
    behind_first f.path (map (λ (k : Kept). k.path) (reverse c.pop.new.self.items)) (subst AreInOrder (popped _ _ _ f c.pop.ensures.items got) c.loop-next.invariant.2)

pub returns-in-Greater-clause-found : goal.returns-in-Greater-clause-found
returns-in-Greater-clause-found c =
    let f = c.in-Some.next.now in
    let more : c.path_order.result ≡ Greater = c.in-Greater.is in
    sym (sym c.loop-next.invariant.0 ∙ beyond_of c.args.path.now c.loop-next.rest.items f (search rules) c.loop-next.invariant.2 (sym c.path_order.ensures ∙ more))
