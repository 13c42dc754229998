use Rattle.std.proofs.Common.{◌≡◌, sym, ◌∙◌}
use Rattle.dav_memory.specs.Entries.{purged, is_old_dot}
use Rattle.dav_cache.proofs.Lru.{purged-drop_last, purged-done}
use Rattle.dav_cache.proofs.du_cache.DuCache.purge.Goals as goal

pub loop-now-preserved : goal.loop-now-preserved
loop-now-preserved c =
    let old = sym c.last_is_old.ensures ∙ c.loop-now-test.true in
    rw c.drop_last.ensures
    (record {
      purges = c.loop-now.invariant.purges ∙ purged-drop_last (is_old_dot c.args.now) c.loop-now.self.entries old;
      size = c.loop-now.invariant.size;
      next = c.loop-now.invariant.next;
    })

pub returns : goal.returns
returns c =
    let young = sym c.last_is_old.ensures ∙ c.loop-now-test.false in
    let all : c.loop-now.self.entries ≡ purged (is_old_dot c.args.now) c.args.self.now.entries =
    sym (purged-done (is_old_dot c.args.now) c.loop-now.self.entries young) ∙ sym c.loop-now.invariant.purges in
    λ i. record { entries = all i; size = c.loop-now.invariant.size i; next = c.loop-now.invariant.next i }
