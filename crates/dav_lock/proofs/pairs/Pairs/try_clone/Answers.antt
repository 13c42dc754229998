use Rattle.std.proofs.Common.{subst}
use Rattle.std.specs.List.Sorted.{IsStrictlySortedBy}
use Rattle.std.specs.Map.{keys_of}
use Rattle.dav_lock.specs.Pairs.{text_order}
use Rattle.dav_lock.proofs.Entries.{copied}
use Rattle.dav_lock.proofs.pairs.Pairs.try_clone.Goals as goal

pub loop-name-preserved : goal.loop-name-preserved
loop-name-preserved c =
    copied _ c.loop-name.copy c.put.new.self _ c.next.new.self (c.in-Some.name.now, c.in-Some.value.now) (subst (λ es. IsStrictlySortedBy text_order (keys_of es)) c.self.view_is c.iter-name-items.ensures.ordered) c.loop-name.invariant
    c.in-Some.ensures.steps (rw (← c.in_ok-try_clone.ensures, ← c.in_ok-try_clone-2.ensures) c.in_ok-put.ensures.ok)
